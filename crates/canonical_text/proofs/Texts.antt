-- The equations of canonical texts.
use Rattle.std.proofs.Common.{◌≡◌, ℕ, Bool, true, false, List, ◌++◌, append_assoc, ◌∙◌, ap, sym}
use Rattle.mir_ir.specs.declared.types.Ty.{Ty, out-Ty, map-Ty, fold_out-Ty}
use Rattle.mir_ir.specs.declared.types.Ty.TheOpen.{Ty-F}
use Rattle.mir_ir.specs.declared.types.Ty.TheViews.{roll-Ty}
use Rattle.mir_ir.specs.declared.types.Ty.TheFolds.{fold-roll-Ty}
use Rattle.canonical_text.specs.Types.{behind_commas, form_text, type_text, with_commas}

-- one level of a type, whose parts are types
abbrev pub level_text : Ty-F Ty → List ℕ
level_text x = form_text (map-Ty Ty (List ℕ) type_text x)

pub type_text_out : (t : Ty) → type_text t ≡ level_text (out-Ty t)
unfolding type_text
type_text_out = fold_out-Ty (List ℕ) form_text

pub type_text_roll : (x : Ty-F Ty) → type_text (roll-Ty x) ≡ level_text x
unfolding type_text
type_text_roll = fold-roll-Ty (List ℕ) form_text

pub shown : (old new : List ℕ) (t : Ty) (x : Ty-F Ty) → t ≡ roll-Ty x → new ≡ old ++ level_text x → new ≡ old ++ type_text t
shown old new t x is e = e ∙ ap (λ l. old ++ l) (sym (ap type_text is ∙ type_text_roll x))

pub shown_level : (old new : List ℕ) (t : Ty) (x : Ty-F Ty) → out-Ty t ≡ x → new ≡ old ++ level_text x → new ≡ old ++ type_text t
shown_level old new t x is e = e ∙ ap (λ l. old ++ l) (sym (type_text_out t ∙ ap level_text is))

pub appended_twice : {A : Type 0} (a b c xs ys : List A) → b ≡ a ++ xs → c ≡ b ++ ys → c ≡ a ++ (xs ++ ys)
appended_twice a b c xs ys p q = q ∙ ap (λ l. l ++ ys) p ∙ append_assoc a xs ys

-- what is still to be written of a list of texts
abbrev pub left_text : Bool → List (List ℕ) → List ℕ
left_text true xs = with_commas xs
left_text false xs = behind_commas xs
