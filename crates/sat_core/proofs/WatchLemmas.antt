-- What the watched literals of clauses keep, when a step is added, a watch moves or a line is learned.
use Rattle.std.proofs.Common.{◌≡◌, ◌≢◌, ◌⊎◌, ℕ, ◌+◌, ◌<◌, ◌≤◌, List, [], ◌∷◌, ◌++◌, length, set, take, Contains, inl, inr, sym, ap, ◌∙◌, subst, arith, length-set}
use Rattle.std.proofs.lemmas.Bool.{cases_eq}
use Rattle.std.proofs.lemmas.List.{length_push, take_all, take_more, take-append-le, map-append, get_or_default}
use Rattle.std.proofs.lemmas.List.Elements.{Contains-push_cases, Contains-append_left}
use Rattle.region_pool.specs.Blocks.{block_at}
use Rattle.region_pool.specs.Literals.{negation}
use Rattle.region_pool.specs.Refutation.{IsFalse}
use Rattle.watch_lists.specs.declared.lists.Watch.{Watch}
use Rattle.watch_lists.specs.Lists.{list_at, watch_at}
use Rattle.sat_core.specs.declared.trail.Cause.{Cause}
use Rattle.sat_core.specs.declared.trail.Cause.TheVariants.{Decision}
use Rattle.sat_core.specs.declared.trail.Step.{Step}
use Rattle.sat_core.specs.declared.watching.Pair.{Pair}
use Rattle.sat_core.specs.Choice.{IsSatisfied}
use Rattle.sat_core.specs.Quiet.{IsQuiet, IsClosed}
use Rattle.sat_core.specs.Steps.{literals_of_steps, step_at, EachStep, Fits}
use Rattle.sat_core.specs.Watches.{pair_at, IsPair, Rests, EachRests, Waits, IsWatchOf, AreListed, RestsAt, RestsBefore, AreWatched, IsFront, IsPassing, false_at}
use Rattle.sat_core.proofs.LearnLemmas.{contains_cases}
use Rattle.sat_core.proofs.Negations.{negation-negation}
use Rattle.sat_core.proofs.PlaceLemmas.{steps_consistent}
use Rattle.sat_core.proofs.QuietLemmas.{quiet_by_true, quiet_by_two}
use Rattle.sat_core.proofs.StepLemmas.{holds_at, place_before, EachStep-push, EachStep-take}
use Rattle.sat_core.proofs.TrailLemmas.{step_at_left}
use Rattle.sat_core.proofs.WaitLemmas.{waits_set, waits_next, waits_none, list_same, list_other, each_with, each_set}

-- what is true among the first steps is true
pub holds_still : (steps : List Step) (front x : ℕ) → front ≤ length steps → Contains (literals_of_steps (take front steps)) x → Contains (literals_of_steps steps) x
holds_still steps front x h c =
    let (at, l, e) = place_before steps front x h c in
    subst (λ (n : ℕ). Contains (literals_of_steps steps) n) e (holds_at steps at (omega arith))

pub literals-push : (steps : List Step) (step : Step) → literals_of_steps (steps ++ step ∷ []) ≡ literals_of_steps steps ++ step.literal ∷ []
literals-push steps step = map-append (λ (s : Step). s.literal) steps (step ∷ [])

literals-more : (steps : List Step) (front : ℕ) → front < length steps → literals_of_steps (take (front + 1) steps) ≡ literals_of_steps (take front steps) ++ (step_at steps front).literal ∷ []
literals-more steps front h =
    ap literals_of_steps (take_more steps front (record { literal = 0; cause = Decision }) h) ∙ literals-push (take front steps) (step_at steps front)

-- where one step more is seen, one literal more is false
pub false_more : (steps : List Step) (front x : ℕ) → front < length steps → IsFalse (literals_of_steps (take (front + 1) steps)) x → IsFalse (literals_of_steps (take front steps)) x ⊎ (x ≡ false_at steps front)
false_more steps front x h c =
    elim (Contains-push_cases (literals_of_steps (take front steps)) (step_at steps front).literal (negation x) (subst (λ (s : List ℕ). Contains s (negation x)) (literals-more steps front h) c)) [
      | inl k ↦ inl k
      | inr e ↦ inr (sym (negation-negation x) ∙ ap negation (sym e))
    ]

satisfied_push : (assigned clause : List ℕ) (x : ℕ) → IsSatisfied assigned clause → IsSatisfied (assigned ++ x ∷ []) clause
satisfied_push assigned clause x (literal, member, holds) = (literal, member, Contains-append_left assigned (x ∷ []) literal holds)

-- a clause that rests is quiet
pub rests_quiet : (variables : ℕ) (steps : List Step) (clause : List ℕ) (pair : Pair) → EachStep (Fits variables) steps → IsPair clause pair → Rests (literals_of_steps steps) (literals_of_steps steps) clause pair → IsQuiet (literals_of_steps steps) clause
rests_quiet variables steps clause pair fit members (inl (literal, member, holds)) =
    quiet_by_true (literals_of_steps steps) clause literal member holds (steps_consistent variables steps literal fit holds)
rests_quiet variables steps clause pair fit members (inr awake) =
    let assigned = literals_of_steps steps in
    elim (contains_cases assigned pair.first) [
      | inl c ↦ quiet_by_true assigned clause pair.first members.first c awake.first
      | inr n ↦ elim (contains_cases assigned pair.second) [
        | inl c ↦ quiet_by_true assigned clause pair.second members.second c awake.second
        | inr m ↦ quiet_by_two assigned clause pair.first pair.second members.first members.second (n, awake.first) (m, awake.second) awake.apart
      ]
    ]

-- propagation is complete at the end of the trail
pub front_closed : (variables : ℕ) (clauses : List (List ℕ)) (steps : List Step) (pairs : List Pair) (lists : List (List Watch)) → EachStep (Fits variables) steps → AreListed clauses pairs lists → EachRests (literals_of_steps steps) (literals_of_steps steps) clauses pairs → IsClosed clauses (literals_of_steps steps)
front_closed variables clauses steps pairs lists fit listed rests k d h =
    subst (λ (s : List ℕ). IsQuiet (literals_of_steps steps) s) (get_or_default clauses k [] d h)
    (rests_quiet variables steps (block_at clauses k) (pair_at pairs k) fit (listed.members k h) (rests k h))

pub front_all : (clauses : List (List ℕ)) (steps : List Step) (pairs : List Pair) (front : ℕ) → IsFront clauses steps pairs front → length steps ≤ front → EachRests (literals_of_steps steps) (literals_of_steps steps) clauses pairs
front_all clauses steps pairs front is h =
    subst (λ (s : List Step). EachRests (literals_of_steps s) (literals_of_steps steps) clauses pairs) (take_all front steps h) is.rests

-- a decision where all rest
pub watched_push : (variables : ℕ) (clauses : List (List ℕ)) (steps : List Step) (pairs : List Pair) (lists : List (List Watch)) (step : Step) → AreWatched variables clauses steps pairs lists → RestsAt clauses pairs (literals_of_steps steps) step.cause → AreWatched variables clauses (steps ++ step ∷ []) pairs lists
watched_push variables clauses steps pairs lists step are here = record {
  sized = are.sized;
  listed = are.listed;
  decided = EachStep-push (RestsBefore clauses pairs) steps step are.decided here;
}

pub watched_take : (variables : ℕ) (clauses : List (List ℕ)) (steps : List Step) (pairs : List Pair) (lists : List (List Watch)) (cut : ℕ) → AreWatched variables clauses steps pairs lists → AreWatched variables clauses (take cut steps) pairs lists
watched_take variables clauses steps pairs lists cut are = record {
  sized = are.sized;
  listed = are.listed;
  decided = EachStep-take (RestsBefore clauses pairs) cut steps are.decided;
}

take_push : (steps : List Step) (step : Step) (front : ℕ) → front ≤ length steps → take front (steps ++ step ∷ []) ≡ take front steps
take_push steps step front h = take-append-le front steps (step ∷ []) h

pub rests_push : (steps seen : List Step) (step : Step) (clause : List ℕ) (pair : Pair) → Rests (literals_of_steps seen) (literals_of_steps steps) clause pair → Rests (literals_of_steps seen) (literals_of_steps (steps ++ step ∷ [])) clause pair
rests_push steps seen step clause pair (inl s) = inl (subst (λ (a : List ℕ). IsSatisfied a clause) (sym (literals-push steps step)) (satisfied_push (literals_of_steps steps) clause step.literal s))
rests_push steps seen step clause pair (inr awake) = inr awake

pub front_push : (clauses : List (List ℕ)) (steps : List Step) (pairs : List Pair) (front : ℕ) (step : Step) → IsFront clauses steps pairs front → IsFront clauses (steps ++ step ∷ []) pairs front
front_push clauses steps pairs front step is = record {
  within = omega (arith, is.within, length_push steps step);
  rests = λ number h. subst (λ (s : List Step). Rests (literals_of_steps s) (literals_of_steps (steps ++ step ∷ [])) (block_at clauses number) (pair_at pairs number)) (sym (take_push steps step front is.within))
      (rests_push steps (take front steps) step (block_at clauses number) (pair_at pairs number) (is.rests number h));
}

-- the front after going back to a decision
pub front_take : (variables : ℕ) (clauses : List (List ℕ)) (steps : List Step) (pairs : List Pair) (lists : List (List Watch)) (cut : ℕ) → AreWatched variables clauses steps pairs lists → cut < length steps → (step_at steps cut).cause ≡ Decision → EachRests (literals_of_steps (take cut steps)) (literals_of_steps (take cut steps)) clauses pairs
front_take variables clauses steps pairs lists cut are h decided =
    subst (λ (c : Cause). RestsAt clauses pairs (literals_of_steps (take cut steps)) c) decided (are.decided cut h)

-- the clauses wait as they did, but for the watches of the literal that becomes false
rests_seen : (steps : List Step) (pairs : List Pair) (clause : List ℕ) (pair : Pair) (front : ℕ) → front < length steps → pair.first ≢ false_at steps front → pair.second ≢ false_at steps front → Rests (literals_of_steps (take front steps)) (literals_of_steps steps) clause pair → Rests (literals_of_steps (take (front + 1) steps)) (literals_of_steps steps) clause pair
rests_seen steps pairs clause pair front h n m (inl s) = inl s
rests_seen steps pairs clause pair front h n m (inr awake) = inr (record {
  apart = awake.apart;
  first = λ f. elim (false_more steps front pair.first h f) [ inl g ↦ awake.first g | inr e ↦ n e ];
  second = λ f. elim (false_more steps front pair.second h f) [ inl g ↦ awake.second g | inr e ↦ m e ];
})

pub passing_start : (clauses : List (List ℕ)) (steps : List Step) (pairs : List Pair) (lists : List (List Watch)) (front : ℕ) → AreListed clauses pairs lists → IsFront clauses steps pairs front → front < length steps → IsPassing clauses steps pairs lists front 0
passing_start clauses steps pairs lists front listed is h = record {
  within = h;
  pending = λ number k.
      let pair = pair_at pairs number in
      let q = false_at steps front in
      elim (cases_eq pair.first q) [
        | inl e ↦ inr (is.rests number k, subst (λ (n : ℕ). Waits (list_at lists n) 0 number) e (listed.first number k))
        | inr n ↦ elim (cases_eq pair.second q) [
          | inl e ↦ inr (is.rests number k, subst (λ (m : ℕ). Waits (list_at lists m) 0 number) e (listed.second number k))
          | inr m ↦ inl (rests_seen steps pairs (block_at clauses number) pair front h n m (is.rests number k))
        ]
      ];
}

pub passing_end : (clauses : List (List ℕ)) (steps : List Step) (pairs : List Pair) (lists : List (List Watch)) (front at : ℕ) → IsPassing clauses steps pairs lists front at → length (list_at lists (false_at steps front)) ≤ at → IsFront clauses steps pairs (front + 1)
passing_end clauses steps pairs lists front at is h = record {
  within = omega (arith, is.within);
  rests = λ number k. elim (is.pending number k) [ inl r ↦ r | inr (r, w) ↦ absurd (waits_none (list_at lists (false_at steps front)) at number h w) ];
}

-- the clause at the place rests, and the next place is looked at
pub passing_next : (clauses : List (List ℕ)) (steps : List Step) (pairs : List Pair) (lists : List (List Watch)) (front at : ℕ) → IsPassing clauses steps pairs lists front at → ((number : ℕ) → number < length clauses → (watch_at (list_at lists (false_at steps front)) at).clause ≡ number → Rests (literals_of_steps (take (front + 1) steps)) (literals_of_steps steps) (block_at clauses number) (pair_at pairs number)) → IsPassing clauses steps pairs lists front (at + 1)
passing_next clauses steps pairs lists front at is here = record {
  within = is.within;
  pending = λ number k. elim (cases_eq (watch_at (list_at lists (false_at steps front)) at).clause number) [
    | inl e ↦ inl (here number k e)
    | inr n ↦ elim (is.pending number k) [ inl r ↦ inl r | inr (r, w) ↦ inr (r, waits_next (list_at lists (false_at steps front)) at number n w) ]
  ];
}

pub passing_push : (clauses : List (List ℕ)) (steps : List Step) (pairs : List Pair) (lists : List (List Watch)) (front at : ℕ) (step : Step) → IsPassing clauses steps pairs lists front at → IsPassing clauses (steps ++ step ∷ []) pairs lists front at
passing_push clauses steps pairs lists front at step is =
    let h = is.within in
    let q : false_at (steps ++ step ∷ []) front ≡ false_at steps front = ap (λ (s : Step). negation s.literal) (step_at_left steps step front h) in
    record {
      within = omega (arith, length_push steps step);
      pending = λ number k. elim (is.pending number k) [
        | inl r ↦ inl (subst (λ (s : List Step). Rests (literals_of_steps s) (literals_of_steps (steps ++ step ∷ [])) (block_at clauses number) (pair_at pairs number)) (sym (take_push steps step (front + 1) (omega arith)))
            (rests_push steps (take (front + 1) steps) step (block_at clauses number) (pair_at pairs number) r))
        | inr (r, w) ↦ inr (
          subst (λ (s : List Step). Rests (literals_of_steps s) (literals_of_steps (steps ++ step ∷ [])) (block_at clauses number) (pair_at pairs number)) (sym (take_push steps step front (omega arith)))
              (rests_push steps (take front steps) step (block_at clauses number) (pair_at pairs number) r),
          subst (λ (n : ℕ). Waits (list_at lists n) at number) (sym q) w,
        )
      ];
    }

-- another blocker beside the watch at the place
module _ (clauses : List (List ℕ)) (pairs : List Pair) (lists : List (List Watch)) (literal at : ℕ) (watch : Watch) (inside : literal < length lists) (within : at < length (list_at lists literal)) (same : watch.clause ≡ (watch_at (list_at lists literal) at).clause) where
  abbrev changed : List (List Watch)
  changed = set lists literal (set (list_at lists literal) at watch)

  pub waits_changed : (other low number : ℕ) → Waits (list_at lists other) low number → Waits (list_at changed other) low number
  waits_changed other low number waits = elim (cases_eq other literal) [
    | inl e ↦ subst (λ (s : List Watch). Waits s low number) (sym (ap (λ (n : ℕ). list_at changed n) e ∙ list_same lists literal (set (list_at lists literal) at watch) inside))
        (waits_set (list_at lists literal) at watch low number within same (subst (λ (n : ℕ). Waits (list_at lists n) low number) e waits))
    | inr n ↦ subst (λ (s : List Watch). Waits s low number) (sym (list_other lists literal other (set (list_at lists literal) at watch) n)) waits
  ]

  pub listed_changed : AreListed clauses pairs lists → IsWatchOf clauses watch → AreListed clauses pairs changed
  listed_changed listed is = record {
    count = listed.count;
    members = listed.members;
    watches = each_with (IsWatchOf clauses) lists literal (set (list_at lists literal) at watch) inside listed.watches (each_set (IsWatchOf clauses) (list_at lists literal) at watch within (listed.watches literal) is);
    first = λ number h. waits_changed (pair_at pairs number).first 0 number (listed.first number h);
    second = λ number h. waits_changed (pair_at pairs number).second 0 number (listed.second number h);
  }

  pub watched_changed : (variables : ℕ) (steps : List Step) → AreWatched variables clauses steps pairs lists → IsWatchOf clauses watch → AreWatched variables clauses steps pairs changed
  watched_changed variables steps are is = record {
    sized = length-set lists literal (set (list_at lists literal) at watch) ∙ are.sized;
    listed = listed_changed are.listed is;
    decided = are.decided;
  }

  pub passing_changed : (steps : List Step) (front low : ℕ) → IsPassing clauses steps pairs lists front low → IsPassing clauses steps pairs changed front low
  passing_changed steps front low is = record {
    within = is.within;
    pending = λ number k. elim (is.pending number k) [ inl r ↦ inl r | inr (r, w) ↦ inr (r, waits_changed (false_at steps front) low number w) ];
  }
