-- Which functions are of the scalar form.
use Rattle.std.specs.Prelude.{Bool, true, ◌&&◌, not, nat_le, nat_lt, ◌==◌, List, [], ◌∷◌, Option, Some, None}
use Rattle.std.specs.List.{list_any}
use Rattle.mir_ir.specs.declared.tree.Local.{Local}
use Rattle.mir_ir.specs.declared.tree.Block.{Block}
use Rattle.mir_ir.specs.declared.tree.Function.{Function}
use Rattle.scalar_runs.specs.declared.kinds.ValueKind.{ValueKind}
use Rattle.scalar_runs.specs.declared.kinds.ValueKind.TheVariants as kind
use Rattle.scalar_runs.specs.Kinds.{kind_of}
use Rattle.scalar_runs.specs.Look.{block_of, local_kind}
use Rattle.scalar_form.specs.Size.{size_of}
use Rattle.scalar_form.specs.Typing.{agree, has_kind, is_there, are_blocks}

-- numbers up to 4095, all different, of scalar types
abbrev pub are_locals : List Local → Bool
are_locals [] = true
are_locals (l ∷ ls) = nat_lt l.id.0 4096 && has_kind (kind_of l.ty) && not (list_any (λ other. other.id.0 == l.id.0) ls) && are_locals ls

-- numbers up to 4095, all different
abbrev pub are_numbered : List Block → Bool
are_numbered [] = true
are_numbered (b ∷ bs) = nat_lt b.id.0 4096 && not (list_any (λ other. other.id.0 == b.id.0) bs) && are_numbered bs

-- `_0`, where it is declared, has the type of the result, which is ()
abbrev pub returns_unit : Option ValueKind → Bool
returns_unit None = true
returns_unit (Some k) = agree (Some k) (Some kind.Unit)

-- no parameters, the result (), locals of scalar types, a block bb0, statements and terminators of the form, jumps to
-- greater numbers, and a size of at most 50,000
unfoldable pub is_scalar : Function → Bool
is_scalar f =
    f.parameters == 0 && agree (kind_of f.result) (Some kind.Unit) && are_locals f.locals && returns_unit (local_kind f 0) && are_numbered f.blocks
    && is_there (block_of f 0) && are_blocks f f.blocks && nat_le (size_of f) 50000
