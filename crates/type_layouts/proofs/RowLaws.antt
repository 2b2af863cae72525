-- Types level by level: what they name, and that their texts are the canonical ones.
use Rattle.std.proofs.Common.{◌≡◌, ℕ, false, List, [], ◌∷◌, ◌++◌, map, refl, ◌∙◌, ap, sym, subst, append_assoc}
use Rattle.mir_ir.specs.declared.declarations.TypeDecl.{TypeDecl}
use Rattle.mir_ir.specs.declared.types.Ty.{Ty, out-Ty, map-Ty, fold_out-Ty}
use Rattle.mir_ir.specs.declared.types.Ty.TheOpen.{Ty-F}
use Rattle.mir_ir.specs.declared.types.Ty.TheViews.{roll-Ty}
use Rattle.mir_ir.specs.declared.types.Ty.TheFolds.{fold-roll-Ty, ind-Ty}
use Rattle.canonical_text.specs.Types.{form_text, type_text}
use Rattle.canonical_text.proofs.Texts.{type_text_roll}
use Rattle.type_layouts.specs.declared.extent.Extent.{Extent}
use Rattle.type_layouts.specs.declared.row.Row.{Row}
use Rattle.type_layouts.specs.Levels.{level_extent, level_inner}
use Rattle.type_layouts.specs.Rows.{Seen, extent_in, form_extent, form_inner, form_seen, seen, text_in}

module _ (types : List TypeDecl) where
  pub seen_out : (t : Ty) → seen types t ≡ form_seen types (map-Ty Ty Seen (seen types) (out-Ty t))
  unfolding seen
  seen_out = fold_out-Ty Seen (form_seen types)

  pub seen_roll : (x : Ty-F Ty) → seen types (roll-Ty x) ≡ form_seen types (map-Ty Ty Seen (seen types) x)
  unfolding seen
  seen_roll = fold-roll-Ty Seen (form_seen types)

  -- the text of a type is its canonical text
  abbrev pub IsTexted : Ty → Type 0
  IsTexted t = text_in (seen types t) ≡ type_text t

  abbrev pub Texted : Type 0
  Texted = (t : Ty) × IsTexted t

  abbrev pub bare : Texted → Ty
  bare e = e.0

  texts_of : (es : List Texted) → map text_in (map (seen types) (map bare es)) ≡ map type_text (map bare es)
  texts_of [] = refl
  texts_of (e ∷ es) = λ i. e.1 i ∷ texts_of es i

  abbrev form_texts : Ty-F Texted → Type 0
  form_texts y = form_text (map-Ty Seen (List ℕ) text_in (map-Ty Ty Seen (seen types) (map-Ty Texted Ty bare y)))
      ≡ form_text (map-Ty Ty (List ℕ) type_text (map-Ty Texted Ty bare y))

  texts_agree : (y : Ty-F Texted) → form_texts y
  texts_agree Ty-F.Bool = refl
  texts_agree Ty-F.Char = refl
  texts_agree (Ty-F.Int i) = refl
  texts_agree Ty-F.Never = refl
  texts_agree Ty-F.Str = refl
  texts_agree (Ty-F.Tuple items) = ap (λ texts. form_text (Ty-F.Tuple texts)) (texts_of items)
  texts_agree (Ty-F.Array item count) = ap (λ text. form_text (Ty-F.Array text count)) item.1
  texts_agree (Ty-F.Slice item) = ap (λ text. form_text (Ty-F.Slice text)) item.1
  texts_agree (Ty-F.Ref mutable target) = ap (λ text. form_text (Ty-F.Ref mutable text)) target.1
  texts_agree (Ty-F.Raw mutable target) = ap (λ text. form_text (Ty-F.Raw mutable text)) target.1
  texts_agree (Ty-F.BoxOf target) = ap (λ text. form_text (Ty-F.BoxOf text)) target.1
  texts_agree (Ty-F.Dyn path) = refl
  texts_agree (Ty-F.Named path) = refl

  pub text_is : (t : Ty) → IsTexted t
  text_is = ind-Ty IsTexted (λ x y is.
      let P : Ty-F Ty → Type 0 = λ z. form_text (map-Ty Seen (List ℕ) text_in (map-Ty Ty Seen (seen types) z)) ≡ form_text (map-Ty Ty (List ℕ) type_text z) in
      ap text_in (seen_roll x) ∙ subst P is (texts_agree y) ∙ sym (type_text_roll x))

  own_is : (t : Ty) → (seen types t).own ≡ record { text = type_text t; is_value = false; extent = level_extent types (type_text t) t }
  own_is t =
      let text : form_text (map-Ty Seen (List ℕ) text_in (map-Ty Ty Seen (seen types) (out-Ty t))) ≡ type_text t = sym (ap text_in (seen_out t)) ∙ text_is t in
      ap (λ s. s.own) (seen_out t) ∙ (λ i. record { text = text i; is_value = false; extent = level_extent types (text i) t })

  pub own_made : (t : Ty) (text : List ℕ) (extent : Extent) → text ≡ type_text t → extent ≡ level_extent types text t → record { text = text; is_value = false; extent = extent } ≡ (seen types t).own
  own_made t text extent p q = (λ i. record { text = p i; is_value = false; extent = (q ∙ ap (λ n. level_extent types n t) p) i }) ∙ sym (own_is t)

  pub inner_made : (t : Ty) (old new : List Row) → new ≡ old ++ level_inner types t → new ≡ old ++ (seen types t).inner
  inner_made t old new p = p ∙ ap (λ s. old ++ s.inner) (sym (seen_out t))

  -- at a known form
  pub extent_at_form : (t : Ty) (text : List ℕ) (e : Extent) (x : Ty-F Ty) → out-Ty t ≡ x → e ≡ form_extent types text (map-Ty Seen Extent extent_in (map-Ty Ty Seen (seen types) x)) → e ≡ level_extent types text t
  extent_at_form t text e x is p = p ∙ ap (λ z. form_extent types text (map-Ty Seen Extent extent_in (map-Ty Ty Seen (seen types) z))) (sym is)

  pub inner_at_form : (t : Ty) (old new : List Row) (x : Ty-F Ty) → out-Ty t ≡ x → new ≡ old ++ form_inner (map-Ty Ty Seen (seen types) x) → new ≡ old ++ level_inner types t
  inner_at_form t old new x is p = p ∙ ap (λ z. old ++ form_inner (map-Ty Ty Seen (seen types) z)) (sym is)

  -- one more row behind those that stand before a part
  pub one_more : (old mid new rows : List Row) (row : Row) → mid ≡ old ++ rows → new ≡ mid ++ row ∷ [] → new ≡ old ++ (rows ++ row ∷ [])
  one_more old mid new rows row p q = q ∙ ap (λ l. l ++ row ∷ []) p ∙ append_assoc old rows (row ∷ [])
