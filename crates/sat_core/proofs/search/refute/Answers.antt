use Rattle.std.proofs.Common.{◌≡◌, ℕ, List, length, take, drop, ◌++◌, ◌∷◌, [], sym, ap, ◌∙◌, subst, arith}
use Rattle.region_pool.specs.Blocks.{block_at}
use Rattle.sat_core.specs.declared.roles.Role.{Role}
use Rattle.sat_core.specs.Known.{known_clauses}
use Rattle.sat_core.specs.Learned.{gather, literals_of_role, hints_of_role}
use Rattle.sat_core.specs.Roles.{Derives, NoneKept}
use Rattle.sat_core.proofs.SearchLemmas.{search_refuted}
use Rattle.sat_core.proofs.StartLemmas.{written}
use Rattle.sat_core.proofs.search.refute.Goals as goal

pub returns : goal.returns
returns c =
    let input = c.args.clauses.now in
    let old = c.args.search.now in
    let known = known_clauses input old.log in
    let conflict : ℕ = c.args.conflict in
    let steps = old.trail.steps in
    let roles = c.resolve_below.new.roles in
    let same : take old.roles.len (roles ++ drop (length roles) old.roles.items) ≡ roles = written old.roles.len roles old.roles.items (omega (arith, c.resolve_below.ensures.derives.long, c.deref_mut.ensures.len)) in
    let derives : Derives known (block_at known conflict) steps roles = c.resolve_below.ensures.derives.derives (block_at known conflict) (subst (λ (r : List Role). Derives known (block_at known conflict) steps r) (sym c.deref_mut.ensures.value) c.requires.derives) in
    let none : NoneKept roles 0 (length steps) = subst (λ (n : ℕ). NoneKept roles 0 n) c.len-count.ensures c.resolve_below.ensures.none in
    let literals : c.deref-3.result.now ≡ gather literals_of_role steps roles = c.deref-3.ensures.value ∙ c.in_ok-write_literals.ensures ∙ ap (λ (r : List Role). gather literals_of_role steps r) (c.deref.ensures.value ∙ same) in
    let hints = c.deref-4.ensures.value ∙ c.in_ok-write_hints.ensures ∙ ap (λ (r : List Role). gather hints_of_role steps r ++ conflict ∷ []) (c.deref-2.ensures.value ∙ same) in
    search_refuted input old.log old.trail roles conflict c.requires.search c.requires.conflict derives none c.add.new.self c.deref-3.result.now c.deref-4.result.now literals hints c.in_ok-add.ensures.ok
