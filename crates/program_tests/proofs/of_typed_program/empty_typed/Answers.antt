use Rattle.std.proofs.Common.{List, [], ap, ◌∙◌}
use Rattle.mir_ir.specs.declared.declarations.Declarations.{Declarations}
use Rattle.mir_ir.specs.declared.declarations.TypeDecl.{TypeDecl}
use Rattle.typed_program.proofs.Examples.{empty_is_well}
use Rattle.program_tests.proofs.of_typed_program.empty_typed.Goals as goal

abbrev of_types : List TypeDecl → Declarations
of_types types = record { types = types; traits = []; vtables = []; constants = []; aliases = []; contracts = []; loops = []; units = [] }

pub from_program-requires : goal.from_program-requires
from_program-requires c =
    empty_is_well c.join-program.result (c.join-program.ensures.functions ∙ c.new.ensures) (c.join-program.ensures.declarations ∙ c.with_types.ensures ∙ ap of_types c.new-2.ensures)
