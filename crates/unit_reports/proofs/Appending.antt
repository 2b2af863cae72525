-- Pieces of a line that are appended one after another.
use Rattle.std.proofs.Common.{◌≡◌, ℕ, List, ◌++◌, append_assoc, sym, ◌∙◌, ap}
use Rattle.std.specs.Fmt.{decimal}

pub appended_twice : {A : Type 0} (a b c xs ys : List A) → b ≡ a ++ xs → c ≡ b ++ ys → c ≡ a ++ (xs ++ ys)
appended_twice a b c xs ys p q = q ∙ ap (λ l. l ++ ys) p ∙ append_assoc a xs ys

-- the last piece of a line and its end, in one
pub appended_line : (a b c xs ys zs : List ℕ) → b ≡ a ++ xs → c ≡ b ++ (ys ++ zs) → c ≡ a ++ (xs ++ ys ++ zs)
appended_line a b c xs ys zs p q = appended_twice a b c xs (ys ++ zs) p q ∙ ap (λ l. a ++ l) (sym (append_assoc xs ys zs))

-- a number that is known by another name
pub appended_decimal : (a b c xs : List ℕ) (m n : ℕ) → m ≡ n → b ≡ a ++ xs → c ≡ b ++ decimal m → c ≡ a ++ (xs ++ decimal n)
appended_decimal a b c xs m n e p q = appended_twice a b c xs (decimal n) p (q ∙ ap (λ k. b ++ decimal k) e)
