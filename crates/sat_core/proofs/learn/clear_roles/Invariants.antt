use Rattle.std.proofs.Common.{◌≡◌, ℕ, length}
use Rattle.sat_core.specs.declared.roles.Role.TheVariants.{Unused}
use Rattle.sat_core.specs.Roles.{role_at}
use Rattle.sat_core.proofs.learn.clear_roles.Given as goal

abbrev pub invariant-loop : goal.invariant-loop
invariant-loop l = record {
  long : length l.roles.items ≡ l.counter;
  unused : (at : ℕ) → role_at l.roles.items at ≡ Unused;
}
