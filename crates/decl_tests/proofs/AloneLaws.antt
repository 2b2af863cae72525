-- A program without functions.
use Rattle.std.proofs.Common.{◌≡◌, ◌≤◌, ◌^◌, ◌++◌, ◌+◌, [], List, sym, length, flat_map, arith, length-append, subst}
use Rattle.std.proofs.lemmas.List.Elements.{All-nil}
use Rattle.mir_ir.specs.declared.declarations.Declarations.{Declarations}
use Rattle.mir_ir.specs.declared.tree.Function.{Function}
use Rattle.mir_program.specs.Entries.{AreDeclarations}
use Rattle.mir_program.specs.Functions.{IsFunction}
use Rattle.mir_program.specs.Joined.{IsProgram, all_written, scalars, written, written_in_declarations}
use Rattle.mir_program.specs.Mentions.{function_types}

few_types : (d : Declarations) → length (written_in_declarations d) ≤ 2 ^ 31 → length (scalars ++ written_in_declarations d ++ flat_map (function_types written) []) ≤ 2 ^ 31 + 16
few_types d h = omega (arith, length-append (scalars ++ written_in_declarations d) (flat_map (function_types written) []), length-append scalars (written_in_declarations d))

pub alone_is_one : (fs : List Function) (d : Declarations) → fs ≡ [] → AreDeclarations d → length (written_in_declarations d) ≤ 2 ^ 31 → IsProgram (record { functions = fs; declarations = d })
unfolding all_written
alone_is_one fs d e h l = subst (λ x. IsProgram (record { functions = x; declarations = d })) (sym e) (record { functions = All-nil IsFunction; count = record { counted = omega arith }; apart = tt; declarations = h; types = record { counted = omega (arith, few_types d l) } })
