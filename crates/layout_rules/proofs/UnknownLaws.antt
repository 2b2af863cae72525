-- The set of the texts of slice and dyn types of which a value stands somewhere.
use Rattle.std.proofs.Common.{◌≡◌, ℕ, suc, ◌+◌, ◌<◌, ◌≤◌, Bool, true, false, cond, ◌&&◌, ◌||◌, List, [], ◌∷◌, ◌++◌, bytes_eq, drop, length, get_or, refl, ap, sym, ◌∙◌, arith}
use Rattle.std.specs.List.{list_any}
use Rattle.std.proofs.lemmas.Slice.Eq.{bytes_eq-Decides}
use Rattle.std.proofs.lemmas.List.{drop_all}
use Rattle.std.proofs.Math.Seq.{drop-cons}
use Rattle.indexmap.specs.IndexSet.{insert_key}
use Rattle.type_layouts.specs.declared.row.Row.{Row}
use Rattle.layout_rules.specs.Rules.{is_unsized, is_value_of}
use Rattle.type_layouts.proofs.EntryLaws.{same}

or_assoc : (a b c : Bool) → ((a || b) || c) ≡ (a || (b || c))
or_assoc true b c = refl
or_assoc false b c = refl

pub or_false : (a : Bool) → (a || false) ≡ a
or_false true = refl
or_false false = refl

module _ {K : Type 0} (items : K → List ℕ) (text : List ℕ) where
  abbrev has : K → Bool
  has k = bytes_eq text (items k)

  pushed : (ks : List K) (k : K) → list_any has (ks ++ k ∷ []) ≡ (list_any has ks || has k)
  pushed [] k = or_false (has k)
  pushed (j ∷ ks) k = ap (λ b. has j || b) (pushed ks k) ∙ sym (or_assoc (has j) (list_any has ks) (has k))

  at_text : (k : K) (ks : List K) → has k ≡ true → list_any (same items k) ks ≡ list_any has ks
  at_text k ks is = ap (λ t. list_any (λ j. bytes_eq t (items j)) ks) (sym ((bytes_eq-Decides text (items k)).0 is))

  inserted_by : (c b : Bool) (ks : List K) (k : K) → list_any (same items k) ks ≡ c → has k ≡ b → list_any has (cond c ks (ks ++ k ∷ [])) ≡ (list_any has ks || has k)
  inserted_by true true ks k p q = sym (at_text k ks q) ∙ p ∙ sym (ap (λ b. b || has k) (sym (at_text k ks q) ∙ p))
  inserted_by true false ks k p q = sym (or_false (list_any has ks)) ∙ ap (λ b. list_any has ks || b) (sym q)
  inserted_by false b ks k p q = pushed ks k

  pub inserted : (ks : List K) (k : K) → list_any has (insert_key (same items) ks k) ≡ (list_any has ks || has k)
  inserted ks k = inserted_by (list_any (same items k) ks) (has k) ks k refl refl

  -- a text put into the set
  pub text_put : (own : List ℕ) (old new : List K) (k : K) → new ≡ insert_key (same items) old k → items k ≡ own → list_any has new ≡ (list_any has old || bytes_eq text own)
  text_put own old new k made named = ap (list_any has) made ∙ inserted old k ∙ ap (λ t. list_any has old || bytes_eq text t) named

pub value_put : (text : List ℕ) (row : Row) (old new : Bool) → (row.is_value && is_unsized row.extent.form) ≡ true → new ≡ (old || bytes_eq text row.text) → new ≡ (old || is_value_of text row)
value_put text row old new value made = made ∙ ap (λ b. old || (b && bytes_eq text row.text)) (sym value)

pub value_left : (text : List ℕ) (row : Row) (old : Bool) → (row.is_value && is_unsized row.extent.form) ≡ false → old ≡ (old || is_value_of text row)
value_left text row old value = sym (or_false old) ∙ ap (λ b. old || (b && bytes_eq text row.text)) (sym value)

pub rows_first : (text : List ℕ) (rows : List Row) (b : Bool) → b ≡ false → (b || list_any (is_value_of text) (drop 0 rows)) ≡ list_any (is_value_of text) rows
rows_first text rows b e = ap (λ c. c || list_any (is_value_of text) rows) e

pub rows_next : (text : List ℕ) (rows : List Row) (i : ℕ) (row : Row) (old new : Bool) → i < length rows → row ≡ get_or rows i row → new ≡ (old || is_value_of text row)
    → (old || list_any (is_value_of text) (drop i rows)) ≡ list_any (is_value_of text) rows
    → (new || list_any (is_value_of text) (drop (i + 1) rows)) ≡ list_any (is_value_of text) rows
rows_next text rows i row old new lt e made h =
    let more : i + 1 ≡ suc i = omega arith in
    let rest = list_any (is_value_of text) (drop (suc i) rows) in
    let here : list_any (is_value_of text) (drop i rows) ≡ (is_value_of text row || rest) =
    ap (list_any (is_value_of text)) (drop-cons rows i row lt) ∙ ap (λ r. is_value_of text r || rest) (sym e) in
    (λ j. made j || list_any (is_value_of text) (drop (more j) rows))
    ∙ or_assoc old (is_value_of text row) rest ∙ ap (λ b. old || b) (sym here) ∙ h

pub rows_all : (text : List ℕ) (rows : List Row) (i : ℕ) (b : Bool) → length rows ≤ i → (b || list_any (is_value_of text) (drop i rows)) ≡ list_any (is_value_of text) rows → b ≡ list_any (is_value_of text) rows
rows_all text rows i b le h = sym (or_false b) ∙ ap (λ l. b || list_any (is_value_of text) l) (sym (drop_all i rows le)) ∙ h
