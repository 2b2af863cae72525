-- Types without the references that lead to them.
use Rattle.std.specs.Prelude.{List, [], ◌∷◌}
use Rattle.std.specs.Borrow.{Bor}
use Rattle.mir_ir.specs.declared.types.Ty.{Ty}
use Rattle.program_types.specs.declared.written.Written.TheInside.{Inside}

abbrev pub types_now : List (Bor Ty) → List Ty
types_now [] = []
types_now (t ∷ ts) = t.now ∷ types_now ts

abbrev pub types_in : Inside → List Ty
types_in w = types_now w.types.items
