-- What is read of a text is well made.
use Rattle.std.specs.Prelude.{ℕ, ◌*◌, ◌^◌, ◌≤◌, List, All, flat_map, length, Ok}
use Rattle.mir_ir.specs.declared.declarations.Declarations.{Declarations}
use Rattle.mir_ir.specs.declared.tree.Function.{Function}
use Rattle.mir_text.specs.Answers.{IsAnswer}
use Rattle.mir_program.specs.Apart.{AreApart}
use Rattle.mir_program.specs.Entries.{AreDeclarations}
use Rattle.mir_program.specs.Functions.{IsFunction}
use Rattle.mir_program.specs.Joined.{written, written_in_declarations, same_function, IsProgram}
use Rattle.mir_program.specs.Mentions.{function_types}

-- Functions as a program wants them. No more types are written in them than twice the bytes of the text: the type of a result is
-- that of _0 too. Beside well-made declarations, in which no more than 2^31 types are written, they are a program.
pub record AreWellMade (text : List ℕ) (functions : List Function) : Type 0 where
  pub each : All IsFunction functions
  pub few : length functions ≤ 4096
  pub apart : AreApart same_function functions
  pub types : length (flat_map (function_types written) functions) ≤ 2 * length text
  pub joins : (d : Declarations) → AreDeclarations d → length (written_in_declarations d) ≤ 2 ^ 31 → IsProgram (record { functions = functions; declarations = d })

-- whatever functions are the right answer to the text
pub record IsReadWellMade (text : List ℕ) : Type 0 where
  pub made : (functions : List Function) → IsAnswer text (Ok functions) → AreWellMade text functions
