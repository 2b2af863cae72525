use Rattle.std.proofs.Common.{◌≡◌, ◌≤◌}
use Rattle.region_pool.specs.Refutation.{EachFollows}
use Rattle.refute_check.proofs.acceptance.accept.Given as goal

-- the lines so far follow
abbrev pub invariant-loop-line : goal.invariant-loop-line
invariant-loop-line l = record {
  follows : EachFollows l.clauses l.log l.line;
  variables : l.clauses.variables ≡ l.checker.variables;
  room : l.checker.variables ≤ l.checker.room;
}
