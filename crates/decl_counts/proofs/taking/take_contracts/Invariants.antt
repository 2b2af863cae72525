use Rattle.std.proofs.Common.{◌≡◌, ◌+◌, drop, flat_map, length}
use Rattle.mir_program.specs.Joined.{written}
use Rattle.mir_program.specs.Mentions.{contract_types}
use Rattle.decl_counts.proofs.taking.take_contracts.Given as goal

abbrev pub invariant-loop-contract : goal.invariant-loop-contract
invariant-loop-contract l = l.rest + length (flat_map (contract_types written) l.contracts) ≡ l.initial.rest + length (flat_map (contract_types written) (drop l.contract-index l.contracts))
