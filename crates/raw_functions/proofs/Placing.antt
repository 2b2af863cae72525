-- Lines and columns are no more than there are bytes before, and one.
use Rattle.std.proofs.Common.{◌≡◌, ℕ, ◌+◌, ◌≤◌, ◌==◌, not, List, take, reverse, refl, arith}
use Rattle.std.proofs.lemmas.List.{length-take, length-reverse}
use Rattle.std.proofs.lemmas.List.Sums.{count_by-le-length, prefix_len-le-length}
use Rattle.vk_core.specs.declared.text_place.TextPlace.{TextPlace}
use Rattle.mir_lex.specs.Places.{line_behind, column_behind, text_place}

pub line_bound : (xs : List ℕ) (n : ℕ) → line_behind (take n xs) ≤ n + 1
line_bound xs n = omega (arith, count_by-le-length (λ b. b == 10) (take n xs), length-take n xs)

pub column_bound : (xs : List ℕ) (n : ℕ) → column_behind (take n xs) ≤ n + 1
column_bound xs n = omega (arith, prefix_len-le-length (λ b. not (b == 10)) (reverse (take n xs)), length-reverse (take n xs), length-take n xs)

pub first_place : (text : List ℕ) → (let p : TextPlace = record { line = 1; column = 1 } in p) ≡ text_place text 0
unfolding text_place
first_place text = refl
