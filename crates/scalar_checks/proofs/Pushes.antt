-- Lists that pieces are appended to, one after another.
use Rattle.std.proofs.Common.{◌≡◌, List, ◌++◌, append_assoc, ◌∙◌, ap}

pub appended_twice : {A : Type 0} (a b c xs ys : List A) → b ≡ a ++ xs → c ≡ b ++ ys → c ≡ a ++ (xs ++ ys)
appended_twice a b c xs ys p q = q ∙ ap (λ l. l ++ ys) p ∙ append_assoc a xs ys

pub appended_thrice : {A : Type 0} (a b c d xs ys zs : List A) → b ≡ a ++ xs → c ≡ b ++ ys → d ≡ c ++ zs → d ≡ a ++ (xs ++ ys ++ zs)
appended_thrice a b c d xs ys zs p q r = appended_twice a c d (xs ++ ys) zs (appended_twice a b c xs ys p q) r
