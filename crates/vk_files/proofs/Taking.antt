-- A sink that has taken the first bytes of an output takes more of them.
use Rattle.std.proofs.Common.{◌≡◌, ℕ, ◌+◌, List, ◌++◌, Option, Some, None, IfSome, take, drop, subst, append_assoc, ap, ◌∙◌}
use Rattle.std.proofs.Math.Seq.{take-add}

pub taken_more : (before now after : Option (List ℕ)) (bytes rest : List ℕ) (n k : ℕ)
    → rest ≡ drop n bytes
    → IfSome before (λ w. now ≡ Some (w ++ take n bytes))
    → IfSome now (λ w. after ≡ Some (w ++ take k rest))
    → IfSome before (λ w. after ≡ Some (w ++ take (n + k) bytes))
taken_more None now after bytes rest n k is_rest told more = tt
taken_more (Some w) now after bytes rest n k is_rest told more =
    let Then : Option (List ℕ) → Type 0 = λ o. IfSome o (λ v. after ≡ Some (v ++ take k rest)) in
    let both : after ≡ Some ((w ++ take n bytes) ++ take k rest) = subst Then told more in
    let joined : (w ++ take n bytes) ++ take k rest ≡ w ++ take (n + k) bytes =
    rw (take-add n k bytes, is_rest, append_assoc) in
    both ∙ ap (λ v. Some v) joined
