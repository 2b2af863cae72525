-- Which function of `kani` or `core` a callee is, by its canonical path.
use Rattle.std.specs.Prelude.{Bool, ◌||◌, if◌then◌else◌, Option, Some, None, option_map, codes, nat_eq}
use Rattle.std.specs.List.{starts_with}
use Rattle.std.specs.Str.{bytes_eq}
use Rattle.mir_ir.specs.declared.types.Ty.{Ty}
use Rattle.mir_ir.specs.declared.tree.Callee.{Callee}
use Rattle.scalar_runs.specs.declared.builtins.Builtin.{Builtin}
use Rattle.scalar_runs.specs.declared.builtins.Builtin.TheVariants as builtin
use Rattle.scalar_runs.specs.Kinds.{kind_of}

-- `kani::any<T>`
abbrev pub is_any : Callee → Bool
is_any c = starts_with nat_eq c.path (codes "kani::any<")

abbrev pub is_assume : Callee → Bool
is_assume c = bytes_eq c.path (codes "kani::assume")

abbrev pub is_assert : Callee → Bool
is_assert c = bytes_eq c.path (codes "kani::assert")

abbrev pub is_panic : Callee → Bool
is_panic c = bytes_eq c.path (codes "core::panicking::panic") || bytes_eq c.path (codes "std::panicking::panic")

abbrev pub any_of : Option Ty → Option Builtin
any_of None = None
any_of (Some t) = option_map builtin.Any (kind_of t)

abbrev pub builtin_of : Callee → Option Builtin
builtin_of c =
    if is_any c then any_of c.argument
    else (if is_assume c then Some builtin.Assume
    else (if is_assert c then Some builtin.Assert
    else (if is_panic c then Some builtin.Panic else None)))
