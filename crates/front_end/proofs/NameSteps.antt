-- The names of functions, one after the other.
use Rattle.std.proofs.Common.{◌≡◌, ℕ, ◌-◌, ◌≤◌, List, [], ◌∷◌, ◌++◌, length, get_or, take, drop, map, refl, sym, ◌∙◌, ap, arith, rules, append_assoc}
use Rattle.std.proofs.Math.Seq.{take-length}
use Rattle.mir_ir.specs.declared.tree.Function.{Function}
use Rattle.front_end.specs.Front.{function_name}

abbrev pub rest_of : List Function → List Function
rest_of xs = take (length xs - 1) (drop 1 xs)

rest_is : (x : Function) (xs : List Function) → rest_of (x ∷ xs) ≡ xs
rest_is x xs = let e : length (x ∷ xs) - 1 ≡ length xs = omega arith in ap (λ n. take n xs) e ∙ take-length xs

pub names_on : (xs : List Function) (x : Function) (made new whole : List (List ℕ)) (name : List ℕ) → made ++ map function_name xs ≡ whole → 1 ≤ length xs → x ≡ get_or xs 0 x → name ≡ x.name → new ≡ made ++ name ∷ []
    → new ++ map function_name (rest_of xs) ≡ whole
names_on [] x made new whole name h l e n same = absurd (omega arith)
names_on (y ∷ ys) x made new whole name h l e n same =
    ap (λ zs. new ++ map function_name zs) (rest_is y ys) ∙ ap (λ ns. ns ++ map function_name ys) (same ∙ ap (λ m. made ++ m ∷ []) (n ∙ ap function_name e))
    ∙ search (rules, append_assoc) ∙ h
