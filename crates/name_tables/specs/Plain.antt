-- Which declared types are plain, one mark for each: none at first, and in each round those whose fields are plain by the marks before.
-- Since no type holds itself, there are no new marks after as many rounds as there are declared types.
use Rattle.std.specs.Prelude.{ℕ, zero, suc, Bool, false, ◌&&◌, List, Option, Some, None, is_none, length, map, get_or}
use Rattle.mir_ir.specs.declared.types.Ty.{Ty}
use Rattle.mir_ir.specs.declared.types.Ty.TheFolds.{fold-Ty}
use Rattle.mir_ir.specs.declared.declarations.TypeDecl.{TypeDecl}
use Rattle.type_rules.specs.Lookup.{path_of}
use Rattle.type_rules.specs.Plain.{plain_level, shape_plain}
use Rattle.name_tables.specs.Found.{place_named}

abbrev pub mark_at : List Bool → Option ℕ → Bool
mark_at marks None = false
mark_at marks (Some n) = get_or marks n false

-- the mark of the first type that is declared by this path
abbrev pub mark_of : List TypeDecl → List Bool → List ℕ → Bool
mark_of types marks path = mark_at marks (place_named (λ own. path_of own.name) path types)

-- plain, where the declared types are plain that have marks
unfoldable pub plain_by : List TypeDecl → List Bool → Ty → Bool
plain_by types marks = fold-Ty Bool (plain_level (mark_of types marks))

-- no drop function of its own, and plain fields
abbrev pub own_plain : (Ty → Bool) → TypeDecl → Bool
own_plain test own = is_none own.drop && shape_plain test own.shape

abbrev pub next_marks : List TypeDecl → List Bool → List Bool
next_marks types marks = map (own_plain (plain_by types marks)) types

abbrev pub marks_after : List TypeDecl → ℕ → List Bool
marks_after types zero = map (λ own. false) types
marks_after types (suc n) = next_marks types (marks_after types n)

unfoldable pub plain_marks : List TypeDecl → List Bool
plain_marks types = marks_after types (length types)
