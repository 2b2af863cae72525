use Rattle.std.proofs.Common.{◌≡◌, drop, find}
use Rattle.layout_rules.specs.Rules.{is_unknown}
use Rattle.layout_rules.proofs.values.first_unknown.Given as goal

abbrev pub invariant-loop-row : goal.invariant-loop-row
invariant-loop-row l = find (is_unknown l.rows) (drop l.row-index l.rows) ≡ find (is_unknown l.rows) l.rows
