-- How types are kept under their numbers.
use Rattle.std.specs.Prelude.{◌≡◌}
use Rattle.mir_program.specs.Apart.{IsCountable}
use Rattle.mir_program.specs.Joined.{Joined}
use Rattle.typed_program.specs.declared.typed.Typed.TheInside.{Inside}
use Rattle.typed_program.specs.Numbers.{types_of}
use Rattle.typed_program.specs.Rows.{rows_of}
use Rattle.typed_program.specs.WellTyped.{IsWellTyped}

abbrev pub program_in : Inside → Joined
program_in t = t.program

pub record IsTyped (t : Inside) : Type 0 where
  pub numbers : t.numbers ≡ types_of t.program
  pub rows : t.rows.items ≡ rows_of t.program
  pub count : IsCountable (types_of t.program)
  pub well : IsWellTyped t.program
