-- The types that are written in a program: those of the declarations, table by table, and then those of the functions.
use Rattle.std.specs.Prelude.{Bool, List, ◌++◌, flat_map}
use Rattle.mir_ir.specs.declared.declarations.Declarations.{Declarations}
use Rattle.mir_ir.specs.declared.declarations.TypeDecl.{TypeDecl}
use Rattle.mir_ir.specs.declared.types.Ty.{Ty}
use Rattle.mir_program.specs.Joined.{Joined}
use Rattle.mir_program.specs.Mentions.{constant_types, contract_types, function_types, loop_types, shape_types, vtable_types}
use Rattle.program_types.specs.Parts.{parts}

-- the types that are written in a type, and it, wherever it stands
abbrev pub written_at : Bool → Ty → List Ty
written_at is_value t = parts t

-- the name of a declared type, then the types of its fields and its tag
abbrev pub entry_types : TypeDecl → List Ty
entry_types own = parts own.name ++ shape_types written_at own.shape

abbrev pub declaration_types : Declarations → List Ty
declaration_types d =
    flat_map entry_types d.types ++ flat_map (vtable_types written_at) d.vtables ++ flat_map (constant_types written_at) d.constants
    ++ flat_map (contract_types written_at) d.contracts ++ flat_map (loop_types written_at) d.loops

unfoldable pub types_written : Joined → List Ty
types_written p = declaration_types p.declarations ++ flat_map (function_types written_at) p.functions
