-- A number that is told of a type, of its form and of the numbers of its parts. Types are filed by it.
use Rattle.std.specs.Prelude.{ℕ, ◌+◌, ◌*◌, ◌%◌, ◌^◌, Bool, true, false, List, [], ◌∷◌}
use Rattle.mir_ir.specs.Integers.{width_of}
use Rattle.mir_ir.specs.declared.types.Ty.{Ty, out-Ty, map-Ty}
use Rattle.mir_ir.specs.declared.types.Ty.TheOpen.{Ty-F}
use Rattle.mir_ir.specs.declared.types.Ty.TheFolds.{fold-Ty}

abbrev pub mixed : ℕ → ℕ → ℕ
mixed a b = (a * 1099511628211 + b) % 2 ^ 64

-- one behind the other
abbrev pub all_mixed : ℕ → List ℕ → ℕ
all_mixed a [] = a
all_mixed a (b ∷ more) = all_mixed (mixed a b) more

abbrev pub number_of_bool : Bool → ℕ
number_of_bool false = 0
number_of_bool true = 1

abbrev pub form_hash : Ty-F ℕ → ℕ
form_hash Ty-F.Bool = 1
form_hash Ty-F.Char = 2
form_hash (Ty-F.Int i) = mixed 3 (width_of i)
form_hash Ty-F.Never = 4
form_hash Ty-F.Str = 5
form_hash (Ty-F.Tuple items) = all_mixed 6 items
form_hash (Ty-F.Array item count) = mixed (mixed 7 item) (count % 2 ^ 64)
form_hash (Ty-F.Slice item) = mixed 8 item
form_hash (Ty-F.Ref mutable target) = mixed (mixed 9 (number_of_bool mutable)) target
form_hash (Ty-F.Raw mutable target) = mixed (mixed 10 (number_of_bool mutable)) target
form_hash (Ty-F.BoxOf target) = mixed 11 target
form_hash (Ty-F.Dyn path) = all_mixed 12 path
form_hash (Ty-F.Named path) = all_mixed 13 path

unfoldable pub hash_of : Ty → ℕ
hash_of = fold-Ty ℕ form_hash

-- from the numbers of the parts
abbrev pub level_hash : Ty → ℕ
level_hash t = form_hash (map-Ty Ty ℕ hash_of (out-Ty t))
