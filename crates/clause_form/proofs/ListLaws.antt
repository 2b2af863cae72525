-- Clauses that are added one after another.
use Rattle.std.proofs.Common.{◌≡◌, ℕ, List, [], ◌∷◌, ◌++◌, append_assoc, sym, ap, ◌∙◌, refl}

pub three_added : (old a b c : List (List ℕ)) (x y z : List ℕ) → a ≡ old ++ x ∷ [] → b ≡ a ++ y ∷ [] → c ≡ b ++ z ∷ [] → c ≡ old ++ (x ∷ y ∷ z ∷ [])
three_added old a b c x y z ea eb ec = ec ∙ (rw (eb, ea) (simp append_assoc))

pub four_added : (old a b c d : List (List ℕ)) (x y z w : List ℕ) → a ≡ old ++ x ∷ [] → b ≡ a ++ y ∷ [] → c ≡ b ++ z ∷ [] → d ≡ c ++ w ∷ [] → d ≡ old ++ (x ∷ y ∷ z ∷ w ∷ [])
four_added old a b c d x y z w ea eb ec ed = ed ∙ (rw (ec, eb, ea) (simp append_assoc))
