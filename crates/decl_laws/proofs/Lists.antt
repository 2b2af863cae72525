-- Lists whose elements share no label: each element is one that was read, and no two are alike.
use Rattle.std.proofs.Common.{◌≡◌, ℕ, ◌+◌, ◌<◌, ◌≤◌, Bool, true, false, if◌then◌else◌, List, [], ◌∷◌, ◌++◌, length, All, Option, Some, None, Result, Ok, Err, inl, inr, refl, sym, subst, ◌∙◌, ap, arith}
use Rattle.std.specs.List.{list_any}
use Rattle.std.specs.Str.{bytes_eq}
use Rattle.std.proofs.lemmas.Bool.{and_from, and_parts, both_ways, false_from_ne_true, ltb-false, or_cases, or_from, or_left, or_right}
use Rattle.std.proofs.lemmas.List.Elements.{All-cons, All-nil}
use Rattle.std.proofs.lemmas.List.Folds.{list_any-append}
use Rattle.std.proofs.lemmas.Slice.Eq.{bytes_eq-Decides}
use Rattle.toml.specs.Data.{Data, array, Items, no_items, item, get}
use Rattle.decl_tree.specs.declared.fault.DeclKind.TheVariants as kind
use Rattle.decl_tree.specs.declared.fault.KeyFault.{KeyFault}
use Rattle.decl_tree.specs.declared.labels.Label.{Label}
use Rattle.decl_tree.specs.Faults.{here, item_step, key_step, under}
use Rattle.decl_tree.specs.Labels.{is_seen, same_label, with_labels}
use Rattle.decl_tree.specs.Lists.{each, elements, fresh, list_at, marked, prefixed}
use Rattle.decl_types.specs.Labelled.{labelled}
use Rattle.decl_file.specs.File.{count_of, is_longer, list_within}
use Rattle.mir_program.specs.Apart.{AreApart}
use Rattle.decl_laws.proofs.Outcomes.{and_then_ok, ok_same, some_same, under_ok}

-- Labels.

pub bytes_same : (a b : List ℕ) → bytes_eq a b ≡ true → a ≡ b
bytes_same a b = (bytes_eq-Decides a b).0

pub bytes_alike : (a b : List ℕ) → a ≡ b → bytes_eq a b ≡ true
bytes_alike a b = (bytes_eq-Decides a b).1

label_same : (a b : Label) → same_label a b ≡ true → a ≡ b
label_same a b e =
    let p = and_parts (bytes_eq a.first b.first) (bytes_eq a.second b.second) e in
    let f = bytes_same a.first b.first p.0 in
    let s = bytes_same a.second b.second p.1 in
    λ i. record { first = f i; second = s i }

pub label_alike : (a : Label) → same_label a a ≡ true
label_alike a = and_from (bytes_eq a.first a.first) (bytes_eq a.second a.second) (bytes_alike a.first a.first refl) (bytes_alike a.second a.second refl)

-- seen before, or seen at the end
seen_before : (seen : List Label) (m l : Label) → is_seen seen l ≡ true → is_seen (seen ++ m ∷ []) l ≡ true
seen_before seen m l h = list_any-append (same_label l) seen (m ∷ []) ∙ or_left (is_seen seen l) (is_seen (m ∷ []) l) h

seen_last : (seen : List Label) (m l : Label) → same_label l m ≡ true → is_seen (seen ++ m ∷ []) l ≡ true
seen_last seen m l h = list_any-append (same_label l) seen (m ∷ []) ∙ or_right (is_seen seen l) (is_seen (m ∷ []) l) (or_left (same_label l m) false h)

-- the first label was not seen
first_new : (seen : List Label) (m : Label) (ms after : List Label) → with_labels seen (m ∷ ms) ≡ Some after → (is_seen seen m ≡ false) × (with_labels (seen ++ m ∷ []) ms ≡ Some after)
first_new seen m ms after h = by_test (is_seen seen m) refl h
  where
    by_test : (c : Bool) → is_seen seen m ≡ c → (if c then None else with_labels (seen ++ m ∷ []) ms) ≡ Some after → (is_seen seen m ≡ false) × (with_labels (seen ++ m ∷ []) ms ≡ Some after)
    by_test true t e = absurd cc
    by_test false t e = (t, e)

-- what was seen stays so
stays : (seen ms after : List Label) (l : Label) → with_labels seen ms ≡ Some after → is_seen seen l ≡ true → is_seen after l ≡ true
stays seen [] after l h s = subst (λ x. is_seen x l ≡ true) (some_same seen after h) s
stays seen (m ∷ ms) after l h s = stays (seen ++ m ∷ []) ms after l (first_new seen m ms after h).1 (seen_before seen m l s)

-- and so do the labels that came
comes : (seen ms after : List Label) (l : Label) → with_labels seen ms ≡ Some after → is_seen ms l ≡ true → is_seen after l ≡ true
comes seen [] after l h s = absurd cc
comes seen (m ∷ ms) after l h s = elim (or_cases (same_label l m) (is_seen ms l) s) [
  | inl e ↦ stays (seen ++ m ∷ []) ms after l (first_new seen m ms after h).1 (seen_last seen m l e)
  | inr e ↦ comes (seen ++ m ∷ []) ms after l (first_new seen m ms after h).1 e
]

-- which were not seen
are_new : (seen ms after : List Label) (l : Label) → with_labels seen ms ≡ Some after → is_seen ms l ≡ true → is_seen seen l ≡ true → ⊥
are_new seen [] after l h s t = absurd cc
are_new seen (m ∷ ms) after l h s t = elim (or_cases (same_label l m) (is_seen ms l) s) [
  | inl e ↦ both_ways (is_seen seen m) (first_new seen m ms after h).0 (ap (is_seen seen) (sym (label_same l m e)) ∙ t)
  | inr e ↦ are_new (seen ++ m ∷ []) ms after l (first_new seen m ms after h).1 e (seen_before seen m l t)
]

-- Lists.

module _ {A : Type 0} (Entry : A → List Label → Type 0) where
  -- each element has labels that were not seen before
  abbrev pub AreKept : List Label → List A → Type 0
  AreKept seen [] = Unit {0}
  AreKept seen (x ∷ xs) = (ls : List Label) × (after : List Label) × Entry x ls × (with_labels seen ls ≡ Some after) × AreKept after xs

  pub kept_all : (P : A → Type 0) → ((x : A) (ls : List Label) → Entry x ls → P x) → (seen : List Label) (xs : List A) → AreKept seen xs → All P xs
  kept_all P gives seen [] k = All-nil P
  kept_all P gives seen (x ∷ xs) k = All-cons P x xs (gives x k.0 k.2) (kept_all P gives k.1 xs k.4)

  module _ (alike : A → A → Bool) (clash : (x y : A) (ls ms : List Label) → Entry x ls → Entry y ms → alike x y ≡ true → (l : Label) × (is_seen ls l ≡ true) × (is_seen ms l ≡ true)) where
    none_alike : (x : A) (ls : List Label) → Entry x ls → (seen : List Label) → ((l : Label) → is_seen ls l ≡ true → is_seen seen l ≡ true) → (ys : List A) → AreKept seen ys → list_any (alike x) ys ≡ false
    none_alike x ls h seen covers [] k = refl
    none_alike x ls h seen covers (y ∷ ys) k = or_from (alike x y) (list_any (alike x) ys)
        (false_from_ne_true (alike x y) (λ e. let c = clash x y ls k.0 h k.2 e in are_new seen k.0 k.1 c.0 k.3 c.2 (covers c.0 c.1)))
        (none_alike x ls h k.1 (λ l s. stays seen k.0 k.1 l k.3 (covers l s)) ys k.4)

    pub kept_apart : (seen : List Label) (xs : List A) → AreKept seen xs → AreApart alike xs
    kept_apart seen [] k = tt
    kept_apart seen (x ∷ xs) k = (none_alike x k.0 k.2 k.1 (λ l s. comes seen k.0 k.1 l k.3 s) xs k.4, kept_apart k.1 xs k.4)

prefixed_ok : {A : Type 0} (xs : List A) (r : Result (List A) KeyFault) (ys : List A) → prefixed xs r ≡ Ok ys → (zs : List A) × (r ≡ Ok zs) × (ys ≡ xs ++ zs)
prefixed_ok xs (Ok zs) ys e = (zs, refl, sym (ok_same (xs ++ zs) ys e))
prefixed_ok xs (Err f) ys e = absurd cc

marked_ok : {A : Type 0} (x : A) (o : Option (List Label)) (p : A × List Label) → marked x o ≡ Ok p → (x ≡ p.0) × (o ≡ Some p.1)
marked_ok x (Some seen) p e = let f : (x, seen) ≡ p = ok_same (x, seen) p e in (ap (λ q. q.0) f, ap (λ q. Some q.1) f)
marked_ok x None p e = absurd cc

fresh_ok : {A : Type 0} (seen : List Label) (r : Result (A × List Label) KeyFault) (p : A × List Label) → fresh seen r ≡ Ok p → (ls : List Label) × (r ≡ Ok (p.0, ls)) × (with_labels seen ls ≡ Some p.1)
fresh_ok seen (Ok e) p h = let m = marked_ok e.0 (with_labels seen e.1) p h in (e.1, ap (λ x. Ok (x, e.1)) m.0, m.1)
fresh_ok seen (Err f) p h = absurd cc

pub labelled_ok : {A : Type 0} (labels : A → List Label) (r : Result A KeyFault) (x : A) (ls : List Label) → labelled labels r ≡ Ok (x, ls) → (r ≡ Ok x) × (ls ≡ labels x)
labelled_ok labels (Ok y) x ls e = let f : (y, labels y) ≡ (x, ls) = ok_same (y, labels y) (x, ls) e in
    let g : y ≡ x = ap (λ q. q.0) f in (ap Ok g, sym (ap (λ q. q.1) f) ∙ ap labels g)
labelled_ok labels (Err f) x ls e = absurd cc

module _ {A : Type 0} (one : ℕ → Data → Result (A × List Label) KeyFault) where
  each_count : (at : ℕ) (seen : List Label) (ds : Items) (xs : List A) → each one at seen ds ≡ Ok xs → length xs ≡ count_of ds
  each_count at seen no_items xs e = ap length (sym (ok_same [] xs e))
  each_count at seen (item d ds) xs e =
      let s = and_then_ok (under (item_step at) (fresh seen (one at d))) (λ p. prefixed (p.0 ∷ []) (each one (at + 1) p.1 ds)) xs e in
      let t = prefixed_ok (s.0.0 ∷ []) (each one (at + 1) s.0.1 ds) xs s.2 in
      let n = each_count (at + 1) s.0.1 ds t.0 t.1 in
      let m : length xs ≡ length (s.0.0 ∷ t.0) = ap length t.2 in omega arith

  counted : (most : ℕ) (o : Option Data) (xs : List A) → is_longer most o ≡ false → elements one o ≡ Ok xs → length xs ≤ most
  counted most None xs h e = let n : 0 ≡ length xs = ap length (ok_same [] xs e) in omega arith
  counted most (Some (array ds)) xs h e = let n = each_count 0 [] ds xs e in let m = ltb-false most (count_of ds) h in omega arith
  counted most (Some _) xs h e = absurd cc

  pub within_ok : (most : ℕ) (key : List ℕ) (d : Data) (xs : List A) → list_within most one key d ≡ Ok xs → (length xs ≤ most) × (list_at one key d ≡ Ok xs)
  within_ok most key d xs e = by_test (is_longer most (get key d)) refl e
    where
      by_test : (c : Bool) → is_longer most (get key d) ≡ c → (if c then under (key_step key) (here kind.OutOfRange) else list_at one key d) ≡ Ok xs → (length xs ≤ most) × (list_at one key d ≡ Ok xs)
      by_test true t f = absurd cc
      by_test false t f = (counted most (get key d) xs t (under_ok (key_step key) (elements one (get key d)) xs f), f)

  module _ (Entry : A → List Label → Type 0) (bound : ℕ) (reads : (at : ℕ) (d : Data) (x : A) (ls : List Label) → at < bound → one at d ≡ Ok (x, ls) → Entry x ls) where
    each_kept : (at : ℕ) (seen : List Label) (ds : Items) (xs : List A) → at + length xs ≤ bound → each one at seen ds ≡ Ok xs → AreKept Entry seen xs
    each_kept at seen no_items xs b e = subst (AreKept Entry seen) (ok_same [] xs e) tt
    each_kept at seen (item d ds) xs b e =
        let s = and_then_ok (under (item_step at) (fresh seen (one at d))) (λ p. prefixed (p.0 ∷ []) (each one (at + 1) p.1 ds)) xs e in
        let f = fresh_ok seen (one at d) s.0 (under_ok (item_step at) (fresh seen (one at d)) s.0 s.1) in
        let t = prefixed_ok (s.0.0 ∷ []) (each one (at + 1) s.0.1 ds) xs s.2 in
        let n : length xs ≡ length (s.0.0 ∷ t.0) = ap length t.2 in
        let rest : AreKept Entry s.0.1 t.0 = each_kept (at + 1) s.0.1 ds t.0 (omega arith) t.1 in
        subst (AreKept Entry seen) (sym t.2) (f.0, s.0.1, reads at d s.0.0 f.0 (omega arith) f.1, f.2, rest)

    elements_kept : (o : Option Data) (xs : List A) → length xs ≤ bound → elements one o ≡ Ok xs → AreKept Entry [] xs
    elements_kept None xs b e = subst (AreKept Entry []) (ok_same [] xs e) tt
    elements_kept (Some (array ds)) xs b e = each_kept 0 [] ds xs (omega arith) e
    elements_kept (Some _) xs b e = absurd cc

    pub list_kept : (key : List ℕ) (d : Data) (xs : List A) → length xs ≤ bound → list_at one key d ≡ Ok xs → AreKept Entry [] xs
    list_kept key d xs b e = elements_kept (get key d) xs b (under_ok (key_step key) (elements one (get key d)) xs e)

-- Elements with one label each, which is that of their like.

module _ {A : Type 0} (label : A → Label) (P : A → Type 0) where
  pub record IsNamed (x : A) (ls : List Label) : Type 0 where
    pub read : P x
    pub own : ls ≡ label x ∷ []

  own_seen : (x : A) (ls : List Label) (l : Label) → ls ≡ label x ∷ [] → l ≡ label x → is_seen ls l ≡ true
  own_seen x ls l e f = ap (λ m. is_seen m l) e ∙ ap (λ k. is_seen (label x ∷ []) k) f ∙ or_left (same_label (label x) (label x)) false (label_alike (label x))

  pub named_apart : (alike : A → A → Bool) → ((x y : A) → alike x y ≡ true → label x ≡ label y) → (xs : List A) → AreKept IsNamed [] xs → AreApart alike xs
  named_apart alike same xs = kept_apart IsNamed alike (λ x y ls ms h k e. (label x, own_seen x ls (label x) h.own refl, own_seen y ms (label x) k.own (same x y e))) [] xs

  pub named_all : (xs : List A) → AreKept IsNamed [] xs → All P xs
  named_all xs = kept_all IsNamed P (λ x ls h. h.read) [] xs
