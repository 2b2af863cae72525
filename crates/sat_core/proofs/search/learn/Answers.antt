use Rattle.std.proofs.Common.{◌≡◌, ◌+◌, ℕ, List, length, take, drop, ◌++◌, ◌∷◌, [], sym, ap, ◌∙◌, subst, arith}
use Rattle.region_pool.specs.Blocks.{block_at}
use Rattle.sat_core.specs.declared.roles.Role.{Role}
use Rattle.sat_core.specs.Known.{known_clauses}
use Rattle.sat_core.specs.Learned.{gather, literals_of_role, hints_of_role, IsAsserting, IsLinePair}
use Rattle.sat_core.specs.Roles.{Derives}
use Rattle.sat_core.proofs.SearchLemmas.{log_written, steps_written, learned_fits, learned_free, known_count}
use Rattle.sat_core.proofs.StartLemmas.{written}
use Rattle.sat_core.proofs.TurnLemmas.{first_inside, second_inside, learned_goes}
use Rattle.sat_core.proofs.search.learn.Goals as goal

pub push-requires-clause-literal : goal.push-requires-clause-literal
push-requires-clause-literal c =
    let input = c.args.clauses.now in
    let old = c.args.search.now in
    let known = known_clauses input old.log in
    let conflict : ℕ = c.args.conflict in
    let steps = old.trail.steps in
    let roles = c.analyze-asserted.new.roles in
    let asserted : ℕ = c.analyze-asserted.result in
    let cut : ℕ = c.cut_of-cut.result.at in
    let pair = c.cut_of-cut.result.pair in
    let same : take old.roles.len (roles ++ drop (length roles) old.roles.items) ≡ roles = written old.roles.len roles old.roles.items (omega (arith, c.analyze-asserted.ensures.derives.long, c.deref_mut.ensures.len)) in
    let derives : Derives known (block_at known conflict) steps roles = c.analyze-asserted.ensures.derives.derives (block_at known conflict) (subst (λ (r : List Role). Derives known (block_at known conflict) steps r) (sym c.deref_mut.ensures.value) c.requires.derives) in
    let asserting : IsAsserting steps roles asserted cut = subst (λ (r : List Role). IsAsserting steps r asserted cut) (c.deref-3.ensures.value ∙ same) c.cut_of-cut.ensures.asserting in
    let is : IsLinePair steps roles asserted cut pair = subst (λ (r : List Role). IsLinePair steps r asserted cut pair) (c.deref-3.ensures.value ∙ same) c.cut_of-cut.ensures.pair in
    learned_fits input old.log old.trail roles conflict asserted cut c.requires.search c.requires.conflict derives asserting c.cut.new.self pair.first c.cut.ensures is.first

pub push-requires-clause-open : goal.push-requires-clause-open
push-requires-clause-open c =
    let input = c.args.clauses.now in
    let old = c.args.search.now in
    let known = known_clauses input old.log in
    let conflict : ℕ = c.args.conflict in
    let steps = old.trail.steps in
    let roles = c.analyze-asserted.new.roles in
    let asserted : ℕ = c.analyze-asserted.result in
    let cut : ℕ = c.cut_of-cut.result.at in
    let pair = c.cut_of-cut.result.pair in
    let same : take old.roles.len (roles ++ drop (length roles) old.roles.items) ≡ roles = written old.roles.len roles old.roles.items (omega (arith, c.analyze-asserted.ensures.derives.long, c.deref_mut.ensures.len)) in
    let derives : Derives known (block_at known conflict) steps roles = c.analyze-asserted.ensures.derives.derives (block_at known conflict) (subst (λ (r : List Role). Derives known (block_at known conflict) steps r) (sym c.deref_mut.ensures.value) c.requires.derives) in
    let asserting : IsAsserting steps roles asserted cut = subst (λ (r : List Role). IsAsserting steps r asserted cut) (c.deref-3.ensures.value ∙ same) c.cut_of-cut.ensures.asserting in
    let is : IsLinePair steps roles asserted cut pair = subst (λ (r : List Role). IsLinePair steps r asserted cut pair) (c.deref-3.ensures.value ∙ same) c.cut_of-cut.ensures.pair in
    learned_free input old.log old.trail roles conflict asserted cut c.requires.search c.requires.conflict derives asserting c.cut.new.self pair.first c.cut.ensures is.first

pub add-requires-2-clause-first : goal.add-requires-2-clause-first
add-requires-2-clause-first c =
    let input = c.args.clauses.now in
    let old = c.args.search.now in
    let known = known_clauses input old.log in
    let conflict : ℕ = c.args.conflict in
    let steps = old.trail.steps in
    let roles = c.analyze-asserted.new.roles in
    let asserted : ℕ = c.analyze-asserted.result in
    let cut : ℕ = c.cut_of-cut.result.at in
    let pair = c.cut_of-cut.result.pair in
    let same : take old.roles.len (roles ++ drop (length roles) old.roles.items) ≡ roles = written old.roles.len roles old.roles.items (omega (arith, c.analyze-asserted.ensures.derives.long, c.deref_mut.ensures.len)) in
    let derives : Derives known (block_at known conflict) steps roles = c.analyze-asserted.ensures.derives.derives (block_at known conflict) (subst (λ (r : List Role). Derives known (block_at known conflict) steps r) (sym c.deref_mut.ensures.value) c.requires.derives) in
    let asserting : IsAsserting steps roles asserted cut = subst (λ (r : List Role). IsAsserting steps r asserted cut) (c.deref-3.ensures.value ∙ same) c.cut_of-cut.ensures.asserting in
    let is : IsLinePair steps roles asserted cut pair = subst (λ (r : List Role). IsLinePair steps r asserted cut pair) (c.deref-3.ensures.value ∙ same) c.cut_of-cut.ensures.pair in
    first_inside input old.log old.trail roles conflict asserted cut c.requires.search c.requires.conflict derives asserting old.watching.pairs.items old.watching.lists pair c.requires.watches is

pub add-requires-2-clause-second : goal.add-requires-2-clause-second
add-requires-2-clause-second c =
    let input = c.args.clauses.now in
    let old = c.args.search.now in
    let known = known_clauses input old.log in
    let conflict : ℕ = c.args.conflict in
    let steps = old.trail.steps in
    let roles = c.analyze-asserted.new.roles in
    let asserted : ℕ = c.analyze-asserted.result in
    let cut : ℕ = c.cut_of-cut.result.at in
    let pair = c.cut_of-cut.result.pair in
    let same : take old.roles.len (roles ++ drop (length roles) old.roles.items) ≡ roles = written old.roles.len roles old.roles.items (omega (arith, c.analyze-asserted.ensures.derives.long, c.deref_mut.ensures.len)) in
    let derives : Derives known (block_at known conflict) steps roles = c.analyze-asserted.ensures.derives.derives (block_at known conflict) (subst (λ (r : List Role). Derives known (block_at known conflict) steps r) (sym c.deref_mut.ensures.value) c.requires.derives) in
    let asserting : IsAsserting steps roles asserted cut = subst (λ (r : List Role). IsAsserting steps r asserted cut) (c.deref-3.ensures.value ∙ same) c.cut_of-cut.ensures.asserting in
    let is : IsLinePair steps roles asserted cut pair = subst (λ (r : List Role). IsLinePair steps r asserted cut pair) (c.deref-3.ensures.value ∙ same) c.cut_of-cut.ensures.pair in
    second_inside input old.log old.trail roles conflict asserted cut c.requires.search c.requires.conflict derives asserting old.watching.pairs.items old.watching.lists pair c.requires.watches is

pub returns : goal.returns
returns c =
    let input = c.args.clauses.now in
    let old = c.args.search.now in
    let known = known_clauses input old.log in
    let conflict : ℕ = c.args.conflict in
    let steps = old.trail.steps in
    let roles = c.analyze-asserted.new.roles in
    let asserted : ℕ = c.analyze-asserted.result in
    let cut : ℕ = c.cut_of-cut.result.at in
    let pair = c.cut_of-cut.result.pair in
    let same : take old.roles.len (roles ++ drop (length roles) old.roles.items) ≡ roles = written old.roles.len roles old.roles.items (omega (arith, c.analyze-asserted.ensures.derives.long, c.deref_mut.ensures.len)) in
    let derives : Derives known (block_at known conflict) steps roles = c.analyze-asserted.ensures.derives.derives (block_at known conflict) (subst (λ (r : List Role). Derives known (block_at known conflict) steps r) (sym c.deref_mut.ensures.value) c.requires.derives) in
    let asserting : IsAsserting steps roles asserted cut = subst (λ (r : List Role). IsAsserting steps r asserted cut) (c.deref-3.ensures.value ∙ same) c.cut_of-cut.ensures.asserting in
    let is : IsLinePair steps roles asserted cut pair = subst (λ (r : List Role). IsLinePair steps r asserted cut pair) (c.deref-3.ensures.value ∙ same) c.cut_of-cut.ensures.pair in
    let literals : c.deref-4.result.now ≡ gather literals_of_role steps roles = c.deref-4.ensures.value ∙ c.in_ok-write_literals.ensures ∙ ap (λ (r : List Role). gather literals_of_role steps r) (c.deref.ensures.value ∙ same) in
    let hints = c.deref-5.ensures.value ∙ c.in_ok-write_hints.ensures ∙ ap (λ (r : List Role). gather hints_of_role steps r ++ conflict ∷ []) (c.deref-2.ensures.value ∙ same) in
    let number : c.len.result + c.len-2.result ≡ length known = omega (arith, known_count input old.log, c.len.ensures.len, c.len-2.ensures.len) in
    let new_log = log_written input old.log old.trail roles conflict asserted cut c.requires.search c.requires.conflict derives asserting c.add.new.self c.deref-4.result.now c.deref-5.result.now literals hints c.in_ok-add.ensures.ok in
    let longer = steps_written input old.log old.trail roles conflict asserted cut c.requires.search c.requires.conflict derives asserting c.cut.new.self c.push.new.self pair.first (c.len.result + c.len-2.result) c.cut.ensures is.first number c.in_ok-push.ensures.ok in
    let next = learned_goes input old.log old.trail roles conflict asserted cut c.requires.search c.requires.conflict derives asserting old.watching.pairs.items old.watching.lists pair c.requires.watches is c.add.new.self c.push.new.self c.add-2.new.self.pairs.items c.add-2.new.self.lists new_log longer c.in_ok-add-2.ensures.pairs c.in_ok-add-2.ensures.lists in
    record { watching = next.watching; further = next.further }
