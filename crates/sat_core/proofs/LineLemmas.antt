-- The clauses are watched after a line was learned.
use Rattle.std.proofs.Common.{◌≡◌, ℕ, ◌+◌, ◌<◌, ◌≤◌, List, [], ◌∷◌, ◌++◌, length, take, Contains, inl, inr, refl, sym, ap, ◌∙◌, subst, arith}
use Rattle.std.proofs.lemmas.Bool.{cases_lt}
use Rattle.std.proofs.lemmas.List.{take-take, get_or-take, length-take-le}
use Rattle.std.proofs.lemmas.List.Elements.{Contains-push}
use Rattle.region_pool.specs.Literals.{negation}
use Rattle.watch_lists.specs.declared.lists.Watch.{Watch}
use Rattle.sat_core.specs.declared.roles.Role.{Role}
use Rattle.sat_core.specs.declared.roles.Role.TheVariants.{Kept}
use Rattle.sat_core.specs.declared.trail.Cause.{Cause}
use Rattle.sat_core.specs.declared.trail.Cause.TheVariants.{Decision, Clause}
use Rattle.sat_core.specs.declared.trail.Step.{Step}
use Rattle.sat_core.specs.declared.watching.Pair.{Pair}
use Rattle.sat_core.specs.Learned.{gather, literals_of_role, IsAsserting, IsLinePair}
use Rattle.sat_core.specs.Roles.{role_at, IsDecision, IsLastKept, IsFirstDecision}
use Rattle.sat_core.specs.Steps.{literals_of_steps, step_at, EachStep, Fits}
use Rattle.sat_core.specs.Watches.{IsAwake, EachRests, AreWatched, IsFront, watched}
use Rattle.sat_core.proofs.FollowLemmas.{kept_has}
use Rattle.sat_core.proofs.LearnLemmas.{open_later}
use Rattle.sat_core.proofs.MoreLemmas.{watched_more, front_more}
use Rattle.sat_core.proofs.Negations.{negation-negation}
use Rattle.sat_core.proofs.ResolveLemmas.{step_unique}
use Rattle.sat_core.proofs.WatchLemmas.{literals-push, watched_push, watched_take, front_take, front_push}

-- the line watches the asserted literal, and that of the last step before the last decision that is kept
module _ (variables : ℕ) (steps : List Step) (roles : List Role) (decision asserted : ℕ) (fit : EachStep (Fits variables) steps) (long : length roles ≡ length steps) (kept : IsLastKept roles decision (length steps) asserted) where
  abbrev not_of : ℕ → ℕ
  not_of at = negation (step_at steps at).literal

  member : (at : ℕ) → at < length steps → role_at roles at ≡ Kept → Contains (gather literals_of_role steps roles) (not_of at)
  member at h role = kept_has steps roles at h long role

  not_false : (limit at : ℕ) → limit ≤ at → at < length steps → ¬ Contains (literals_of_steps (take limit steps)) (negation (not_of at))
  not_false limit at h k = (open_later variables steps roles fit long limit at h k).1

  pub pair_two : (top cut : ℕ) → IsLastKept roles 0 decision top → decision < length steps → IsFirstDecision steps (top + 1) decision cut → IsLinePair steps roles asserted cut (record { first = not_of asserted; second = not_of top })
  pair_two top cut last within first =
      let there : top < length steps = omega (arith, last.below) in
      let behind : top < asserted = omega (arith, last.below, kept.above) in
      record {
        first = refl;
        members = record { first = member asserted kept.below kept.kept; second = member top there last.kept };
        awake = λ at h d.
            let before : at ≤ top = elim (cases_lt top at) [ inl k ↦ absurd (first.before at (omega arith) h d) | inr k ↦ k ] in
            record {
              apart = λ e.
                  let f : (step_at steps asserted).literal ≡ (step_at steps top).literal = sym (negation-negation (step_at steps asserted).literal) ∙ ap negation e ∙ negation-negation (step_at steps top).literal in
                  let same : asserted ≡ top = step_unique variables steps fit asserted top kept.below there f in
                  omega arith;
              first = not_false at asserted (omega arith) kept.below;
              second = not_false at top before there;
            };
      }

  pub pair_one : (cut : ℕ) → IsFirstDecision steps 0 decision cut → IsLinePair steps roles asserted cut (record { first = not_of asserted; second = not_of asserted })
  pair_one cut first = record {
    first = refl;
    members = record { first = member asserted kept.below kept.kept; second = member asserted kept.below kept.kept };
    awake = λ at h d. absurd (first.before at (omega arith) h d);
  }

module _ (variables : ℕ) (clauses : List (List ℕ)) (steps : List Step) (roles : List Role) (pairs : List Pair) (lists : List (List Watch)) (asserted cut : ℕ) (pair : Pair) (are : AreWatched variables clauses steps pairs lists) (asserting : IsAsserting steps roles asserted cut) (is : IsLinePair steps roles asserted cut pair) (first : pair.first < length lists) (second : pair.second < length lists) where
  abbrev line : List ℕ
  line = gather literals_of_role steps roles

  abbrev short : List Step
  short = take cut steps

  abbrev step : Step
  step = record { literal = pair.first; cause = Clause (length clauses) }

  cut_within : cut < length steps
  cut_within = omega (arith, asserting.after, asserting.within)

  short_long : length short ≡ cut
  short_long = length-take-le cut steps (omega (arith, cut_within))

  awake : (at : ℕ) → at < length short → IsDecision (step_at short at).cause → IsAwake (literals_of_steps (take at short)) pair
  awake at h d =
      let k : at < cut = omega (arith, short_long) in
      let same : step_at short at ≡ step_at steps at = get_or-take cut steps at (record { literal = 0; cause = Decision }) k in
      subst (λ (s : List Step). IsAwake (literals_of_steps s) pair) (sym (take-take at cut steps (omega arith))) (is.awake at k (subst (λ (s : Step). IsDecision s.cause) same d))

  taken : AreWatched variables clauses short pairs lists
  taken = watched_take variables clauses steps pairs lists cut are

  pub watches_line : AreWatched variables (clauses ++ line ∷ []) (short ++ step ∷ []) (pairs ++ pair ∷ []) (watched lists (length pairs) pair)
  watches_line = watched_push variables (clauses ++ line ∷ []) short (pairs ++ pair ∷ []) (watched lists (length pairs) pair) step
      (watched_more clauses line pairs pair lists (length pairs) are.listed.count is.members first second variables short taken awake) tt

  decided : (step_at steps cut).cause ≡ Decision
  decided = at_cause (step_at steps cut).cause asserting.decided
    where
      at_cause : (cause : Cause) → IsDecision cause → cause ≡ Decision
      at_cause Decision d = refl
      at_cause (Clause number) d = absurd d

  front_short : IsFront clauses short pairs cut
  front_short = record {
    within = omega (arith, short_long);
    rests = subst (λ (s : List Step). EachRests (literals_of_steps s) (literals_of_steps short) clauses pairs) (sym (take-take cut cut steps (omega arith))) (front_take variables clauses steps pairs lists cut are cut_within decided);
  }

  pub front_line : IsFront (clauses ++ line ∷ []) (short ++ step ∷ []) (pairs ++ pair ∷ []) cut
  front_line = front_more clauses line pairs pair lists (length pairs) are.listed.count is.members first second (short ++ step ∷ []) cut are.listed.count (front_push clauses short pairs cut step front_short)
      (inl (pair.first, is.members.first, subst (λ (s : List ℕ). Contains s pair.first) (sym (literals-push short step)) (Contains-push (literals_of_steps short) pair.first)))
