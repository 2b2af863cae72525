-- The types that a program names, with what values of them take, in their order: the declared types; then what their entries name
-- besides, and what vtables, constants, contracts and loop rules name; then those of the functions. Numbers, `bool`, `char` and `()`
-- that only a constant or a discriminant has are left out: no rule can fail for them.
use Rattle.std.specs.Prelude.{false, List, ◌++◌, flat_map, map}
use Rattle.mir_ir.specs.declared.declarations.Declarations.{Declarations}
use Rattle.mir_ir.specs.declared.declarations.TypeDecl.{TypeDecl}
use Rattle.mir_program.specs.Joined.{Joined}
use Rattle.mir_program.specs.Mentions.{constant_types, contract_types, function_types, loop_types, shape_types, vtable_types}
use Rattle.type_layouts.specs.declared.row.Row.{Row}
use Rattle.type_layouts.specs.Rows.{placed, rows_of, seen}

module _ (types : List TypeDecl) where
  -- a declared type itself, and what its entry names besides: the items of a tuple's name, then the types of fields and tag
  abbrev pub named_row : TypeDecl → Row
  named_row own = placed false (seen types own.name).own

  abbrev pub entry_rows : TypeDecl → List Row
  entry_rows own = (seen types own.name).inner ++ shape_types (rows_of types) own.shape

abbrev pub declaration_rows : Declarations → List Row
declaration_rows d =
    map (named_row d.types) d.types ++ flat_map (entry_rows d.types) d.types ++ flat_map (vtable_types (rows_of d.types)) d.vtables
    ++ flat_map (constant_types (rows_of d.types)) d.constants ++ flat_map (contract_types (rows_of d.types)) d.contracts
    ++ flat_map (loop_types (rows_of d.types)) d.loops

unfoldable pub program_rows : Joined → List Row
program_rows p = declaration_rows p.declarations ++ flat_map (function_types (rows_of p.declarations.types)) p.functions
