-- Lists in parts: the first items and the others, and several parts behind one another.
use Rattle.std.proofs.Common.{◌≡◌, ℕ, ◌≤◌, List, ◌++◌, drop, length, min, take, inl, inr, ap, sym, ◌∙◌, append_assoc, arith}
use Rattle.std.proofs.lemmas.Bool.{cases_lt}
use Rattle.std.proofs.lemmas.List.{drop_all, take_all}

module _ {A : Type 0} where
  pub take_front : (xs : List A) (n : ℕ) → take (min (length xs) n) xs ≡ take n xs
  take_front xs n = elim (cases_lt n (length xs)) [
    | inl lt ↦
        let e : min (length xs) n ≡ n = omega arith in
        ap (λ k. take k xs) e
    | inr le ↦
        let past : length xs ≤ min (length xs) n = omega arith in
        take_all (min (length xs) n) xs past ∙ sym (take_all n xs le)
  ]

  pub drop_front : (xs : List A) (n : ℕ) → drop (min (length xs) n) xs ≡ drop n xs
  drop_front xs n = elim (cases_lt n (length xs)) [
    | inl lt ↦
        let e : min (length xs) n ≡ n = omega arith in
        ap (λ k. drop k xs) e
    | inr le ↦
        let past : length xs ≤ min (length xs) n = omega arith in
        drop_all (min (length xs) n) xs past ∙ sym (drop_all n xs le)
  ]

  pub appended_two : (old a new x y : List A) → a ≡ old ++ x → new ≡ a ++ y → new ≡ old ++ (x ++ y)
  appended_two old a new x y p q = q ∙ ap (λ l. l ++ y) p ∙ append_assoc old x y

  pub appended_four : (old a b c new w x y z : List A) → a ≡ old ++ w → b ≡ a ++ x → c ≡ b ++ y → new ≡ c ++ z → new ≡ old ++ (w ++ x ++ y ++ z)
  appended_four old a b c new w x y z p q r s =
      appended_two old c new (w ++ x ++ y) z (appended_two old b c (w ++ x) y (appended_two old a b w x p q) r) s

  pub appended_five : (old a b c d new v w x y z : List A) → a ≡ old ++ v → b ≡ a ++ w → c ≡ b ++ x → d ≡ c ++ y → new ≡ d ++ z → new ≡ old ++ (v ++ w ++ x ++ y ++ z)
  appended_five old a b c d new v w x y z p q r s t =
      appended_two old d new (v ++ w ++ x ++ y) z (appended_four old a b c d v w x y p q r s) t
