-- Finding declared types by their texts.
use Rattle.std.proofs.Common.{◌≡◌, ℕ, suc, ◌<◌, Bool, true, false, true≢false, cond, List, [], ◌∷◌, Option, Some, bytes_eq, drop, length, get_or, refl, ap, sym, ◌∙◌}
use Rattle.std.specs.Map.{lookup}
use Rattle.std.proofs.lemmas.Slice.Eq.{bytes_eq-Decides}
use Rattle.std.proofs.Math.Seq.{drop-cons}
use Rattle.indexmap.specs.IndexMap.{insert_entry}
use Rattle.mir_ir.specs.declared.declarations.TypeDecl.{TypeDecl}
use Rattle.canonical_text.specs.Types.{type_text}
use Rattle.type_layouts.specs.Entries.{entry_from}

-- a is that two keys are one, and b and c that the text is the one key and the other
merged : {X : Type 0} (a b c : Bool) (v w : X) (rest new : Option X) → (a ≡ true → b ≡ c) → (a ≡ false → b ≡ true → c ≡ false) → new ≡ cond b (Some v) rest
    → cond a (cond c (Some v) rest) (cond c (Some w) new) ≡ cond b (Some v) (cond c (Some w) rest)
merged true true true v w rest new p q e = refl
merged true true false v w rest new p q e = absurd (true≢false (p refl))
merged true false true v w rest new p q e = absurd (true≢false (sym (p refl)))
merged true false false v w rest new p q e = refl
merged false true true v w rest new p q e = absurd (true≢false (q refl refl))
merged false true false v w rest new p q e = e
merged false false true v w rest new p q e = refl
merged false false false v w rest new p q e = e

-- two keys have one text
abbrev pub same : {K : Type 0} → (K → List ℕ) → K → K → Bool
same items x y = bytes_eq (items x) (items y)

entry_here : (text : List ℕ) (types : List TypeDecl) (p q : ℕ) (own : TypeDecl) → p ≡ suc q → q < length types → own ≡ get_or types q own
    → entry_from q (drop q types) text ≡ cond (bytes_eq text (type_text own.name)) (Some q) (entry_from p (drop p types) text)
entry_here text types p q own e lt is =
    ap (λ l. entry_from q l text) (drop-cons types q own lt)
    ∙ (λ i. cond (bytes_eq text (type_text (sym is i).name)) (Some q) (entry_from (sym e i) (drop (sym e i) types) text))

module _ {K X : Type 0} (items : K → List ℕ) (text : List ℕ) where
  abbrev pub found : List (K × X) → Option X
  found es = lookup (λ j. bytes_eq text (items j)) es

  parted : (a : Bool) (xs ys : List (K × X)) → found (cond a xs ys) ≡ cond a (found xs) (found ys)
  parted true xs ys = refl
  parted false xs ys = refl

  found_inserted : (k : K) (v : X) (es : List (K × X)) → found (insert_entry (same items) es k v) ≡ cond (bytes_eq text (items k)) (Some v) (found es)
  found_inserted k v [] = refl
  found_inserted k v (e ∷ es) =
      parted (same items k e.0) ((e.0, v) ∷ es) (e ∷ insert_entry (same items) es k v)
      ∙ merged (same items k e.0) (bytes_eq text (items k)) (bytes_eq text (items e.0)) v e.1 (found es) (found (insert_entry (same items) es k v))
      (λ is. ap (bytes_eq text) ((bytes_eq-Decides (items k) (items e.0)).0 is))
      (λ no is. ap (λ t. bytes_eq t (items e.0)) ((bytes_eq-Decides text (items k)).0 is) ∙ no)
      (found_inserted k v es)

module _ {K : Type 0} (items : K → List ℕ) (text : List ℕ) where
  -- with the declaration before those that are there
  pub found_step : (types : List TypeDecl) (p q : ℕ) (own : TypeDecl) (k : K) (es new : List (K × ℕ)) → p ≡ suc q → q < length types → own ≡ get_or types q own
      → new ≡ insert_entry (same items) es k q → items k ≡ type_text own.name
      → found items text es ≡ entry_from p (drop p types) text
      → found items text new ≡ entry_from q (drop q types) text
  found_step types p q own k es new e lt is made name h =
      ap (found items text) made ∙ found_inserted items text k q es
      ∙ (λ i. cond (bytes_eq text (name i)) (Some q) (h i))
      ∙ sym (entry_here text types p q own e lt is)
