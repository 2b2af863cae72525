-- A program: the functions of a text and the declarations beside them, each of them well made.
use Rattle.std.specs.Prelude.{ℕ, ◌+◌, Bool, false, bytes_eq, List, [], ◌∷◌, ◌++◌, All, flat_map, replicate}
use Rattle.mir_ir.specs.declared.declarations.Declarations.{Declarations}
use Rattle.mir_ir.specs.declared.declarations.TypeDecl.{TypeDecl}
use Rattle.mir_ir.specs.declared.tree.Function.{Function}
use Rattle.mir_ir.specs.declared.types.Ty.{Ty}
use Rattle.mir_ir.specs.declared.types.Ty.TheOpen.{Ty-F}
use Rattle.mir_ir.specs.declared.types.Ty.TheFolds.{fold-Ty}
use Rattle.mir_program.specs.Apart.{AreApart, IsCountable}
use Rattle.mir_program.specs.Entries.{AreDeclarations}
use Rattle.mir_program.specs.Functions.{IsFunction}
use Rattle.mir_program.specs.Mentions.{constant_types, contract_types, function_types, loop_types, shape_types, vtable_types}

pub record Joined : Type 0 where
  pub functions : List Function
  pub declarations : Declarations

abbrev pub all_in : List (List (Unit {0})) → List (Unit {0})
all_in [] = []
all_in (x ∷ xs) = x ++ all_in xs

-- one for a type, and one for each type that is written in it
abbrev pub written_in : Ty-F (List (Unit {0})) → List (Unit {0})
written_in (Ty-F.Tuple items) = tt ∷ all_in items
written_in (Ty-F.Array item count) = tt ∷ item
written_in (Ty-F.Slice item) = tt ∷ item
written_in (Ty-F.Ref mutable target) = tt ∷ target
written_in (Ty-F.Raw mutable target) = tt ∷ target
written_in (Ty-F.BoxOf target) = tt ∷ target
written_in _ = tt ∷ []

unfoldable pub written : Bool → Ty → List (Unit {0})
written is_value t = fold-Ty (List (Unit {0})) written_in t

abbrev pub written_in_entry : TypeDecl → List (Unit {0})
written_in_entry own = written false own.name ++ shape_types written own.shape

abbrev pub written_in_declarations : Declarations → List (Unit {0})
written_in_declarations d =
    flat_map written_in_entry d.types ++ flat_map (vtable_types written) d.vtables ++ flat_map (constant_types written) d.constants
    ++ flat_map (contract_types written) d.contracts ++ flat_map (loop_types written) d.loops

-- bool, char, the twelve integer types, `!` and `()`, which need no mention
abbrev pub scalars : List (Unit {0})
scalars = replicate 16 tt

-- one for each type that is written somewhere
unfoldable pub all_written : Joined → List (Unit {0})
all_written p = scalars ++ written_in_declarations p.declarations ++ flat_map (function_types written) p.functions

abbrev pub same_function : Function → Function → Bool
same_function a b = bytes_eq a.name b.name

pub record IsProgram (p : Joined) : Type 0 where
  pub functions : All IsFunction p.functions
  pub count : IsCountable p.functions
  pub apart : AreApart same_function p.functions
  pub declarations : AreDeclarations p.declarations
  pub types : IsCountable (all_written p)
