use Rattle.std.proofs.Common.{◌≡◌, ◌++◌, drop, map}
use Rattle.typed_program.specs.Rows.{row_of}
use Rattle.typed_program.proofs.rows.rows_of.Given as goal

abbrev pub invariant-loop-ty : goal.invariant-loop-ty
invariant-loop-ty l = l.rows.items ++ map (row_of l.scope) (drop l.ty-index l.types) ≡ map (row_of l.scope) l.types
