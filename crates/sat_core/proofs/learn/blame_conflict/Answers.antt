use Rattle.std.proofs.Common.{◌≡◌, ◌≢◌, ℕ, List, length, take, drop, ◌++◌, sym, ap, subst, arith}
use Rattle.region_pool.specs.Blocks.{block_at}
use Rattle.sat_core.specs.declared.roles.Role.{Role}
use Rattle.sat_core.specs.declared.roles.Role.TheVariants.{Resolved}
use Rattle.sat_core.specs.Known.{known_clauses}
use Rattle.sat_core.specs.Roles.{role_at, Blames, Derives, NoneKept}
use Rattle.sat_core.proofs.StartLemmas.{start_fresh, start_derives, written, blames_same}
use Rattle.sat_core.proofs.SearchLemmas.{kept_after}
use Rattle.sat_core.proofs.learn.blame_conflict.Goals as goal

pub returns-clause-derives : goal.returns-clause-derives
returns-clause-derives c =
    let known = known_clauses c.args.clauses.now c.args.log.now in
    let steps = c.args.trail.now.steps in
    let conflict = block_at known c.args.conflict in
    let old = c.clear_roles.new.roles in
    let new = c.blame.new.roles in
    let same : take old.len (new ++ drop (length new) old.items) ≡ new = written old.len new old.items (omega (arith, c.blame.ensures.long, ap length c.deref_mut.ensures.value, old.ok.0)) in
    let blames : Blames steps conflict old.items new = blames_same steps c.known_clause.result.now conflict c.deref_mut.result.now old.items new c.known_clause.ensures.clause c.deref_mut.ensures.value c.blame.ensures in
    let derives = start_derives known steps conflict old.items new c.in_ok-clear_roles.ensures.long c.in_ok-clear_roles.ensures.unused blames c.requires.falsified in
    subst (λ (r : List Role). Derives known conflict steps r) (sym same) derives

pub returns-clause-kept : goal.returns-clause-kept
returns-clause-kept c decision last =
    let known = known_clauses c.args.clauses.now c.args.log.now in
    let steps = c.args.trail.now.steps in
    let conflict = block_at known c.args.conflict in
    let old = c.clear_roles.new.roles in
    let new = c.blame.new.roles in
    let same : take old.len (new ++ drop (length new) old.items) ≡ new = written old.len new old.items (omega (arith, c.blame.ensures.long, ap length c.deref_mut.ensures.value, old.ok.0)) in
    let blames : Blames steps conflict old.items new = blames_same steps c.known_clause.result.now conflict c.deref_mut.result.now old.items new c.known_clause.ensures.clause c.deref_mut.ensures.value c.blame.ensures in
    let derives = start_derives known steps conflict old.items new c.in_ok-clear_roles.ensures.long c.in_ok-clear_roles.ensures.unused blames c.requires.falsified in
    let fresh : (at : ℕ) → role_at new at ≢ Resolved = start_fresh known steps conflict old.items new c.in_ok-clear_roles.ensures.long c.in_ok-clear_roles.ensures.unused blames in
    let kept : NoneKept new decision (length steps) → ⊥ = kept_after known steps new c.args.conflict decision c.requires.search.caused c.requires.conflict derives fresh last.within last.decided in
    subst (λ (r : List Role). NoneKept r decision (length steps) → ⊥) (sym same) kept
