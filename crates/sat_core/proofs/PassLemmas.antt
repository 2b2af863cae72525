-- Steps of unit propagation.
use Rattle.std.proofs.Common.{None, ◌≡◌, ◌≢◌, ◌⊎◌, ℕ, ◌+◌, ◌<◌, ◌≤◌, List, [], ◌∷◌, ◌++◌, length, get_or, set, take, All, Contains, inl, inr, refl, sym, ap, ◌∙◌, subst, arith, length-set}
use Rattle.std.proofs.lemmas.List.{get_or_default}
use Rattle.std.proofs.lemmas.List.Elements.{All-append, All-contains, Contains-push}
use Rattle.region_pool.specs.Blocks.{block_at}
use Rattle.region_pool.specs.Clauses.{ClauseList, IsLiteral, AreLiterals, HasLiterals}
use Rattle.region_pool.specs.Literals.{negation}
use Rattle.region_pool.specs.Log.{Line}
use Rattle.region_pool.specs.Refutation.{IsFalse, IsOpen, IsUnit, literals_of}
use Rattle.watch_lists.specs.declared.lists.Watch.{Watch}
use Rattle.watch_lists.specs.Lists.{list_at, watch_at}
use Rattle.sat_core.specs.declared.propagate.Place.{Place}
use Rattle.sat_core.specs.declared.propagate.Visit.TheVariants.{Stays, Moves, Conflict}
use Rattle.sat_core.specs.declared.trail.Cause.TheVariants.{Clause}
use Rattle.sat_core.specs.declared.trail.Step.{Step}
use Rattle.sat_core.specs.declared.watching.Pair.{Pair}
use Rattle.sat_core.specs.Known.{known_clauses, LinesFit}
use Rattle.sat_core.specs.Passing.{IsRunning, IsAt, IsOtherOf, IsLookedAt, RunsOn, VisitIs, IsWatching, PropagationIs}
use Rattle.sat_core.specs.Progress.{progress}
use Rattle.sat_core.specs.Steps.{literals_of_steps, step_at}
use Rattle.sat_core.specs.Trail.{Steps}
use Rattle.sat_core.specs.Watches.{pair_at, IsPair, Rests, IsWatchOf, AreWatched, IsPassing, IsPending, false_at, moved}
use Rattle.sat_core.proofs.MoveLemmas.{watched_moved, passing_moved}
use Rattle.sat_core.proofs.Negations.{negation-fits, negation-negation}
use Rattle.sat_core.proofs.SearchLemmas.{search_push}
use Rattle.sat_core.proofs.StepLemmas.{holds_at}
use Rattle.sat_core.proofs.TrailLemmas.{step_at_left}
use Rattle.sat_core.proofs.WaitLemmas.{moved_list, removed_length, list_same}
use Rattle.sat_core.proofs.WatchLemmas.{passing_start, passing_end, passing_next, passing_push, watched_push, watched_changed, passing_changed, literals-push}

-- the literal of the place is false
front_false : (steps : List Step) (front : ℕ) → front < length steps → IsFalse (literals_of_steps steps) (false_at steps front)
front_false steps front h = subst (λ (n : ℕ). Contains (literals_of_steps steps) n) (sym (negation-negation (step_at steps front).literal)) (holds_at steps front h)

-- each literal of a known clause is of one of the variables
pub known_fits : (input : ClauseList) (log : List Line) (number : ℕ) → HasLiterals input → LinesFit input.variables log → number < length (known_clauses input log) → AreLiterals input.variables (block_at (known_clauses input log) number)
known_fits input log number fit lines h = All-append (AreLiterals input.variables) input.clauses (literals_of log) fit lines number [] h

module _ (input : ClauseList) (log : List Line) (trail : Steps) (pairs : List Pair) (lists : List (List Watch)) (place : Place) (running : IsRunning input log trail pairs lists place) (at : IsAt lists place) where
  abbrev known : List (List ℕ)
  known = known_clauses input log

  abbrev assigned : List ℕ
  assigned = literals_of_steps trail.steps

  abbrev watch : Watch
  watch = watch_at (list_at lists place.literal) place.at

  pub is_watch : IsWatchOf known watch
  is_watch = running.watches.listed.watches place.literal place.at at

  pub blocker_fits : IsLiteral input.variables watch.blocker
  blocker_fits = All-contains (IsLiteral input.variables) (block_at known watch.clause) watch.blocker (known_fits input log watch.clause running.search.literals running.search.lines is_watch.0) is_watch.1

  pub place_fits : IsLiteral input.variables place.literal
  place_fits = subst (λ (n : ℕ). IsLiteral input.variables n) (sym running.literal) (negation-fits input.variables (step_at trail.steps place.front).literal (running.search.fit place.front running.passing.within).0)

  pub place_inside : place.literal < length lists
  place_inside = omega (arith, place_fits, running.watches.sized)

  pub clause_inside : watch.clause < length pairs
  clause_inside = omega (arith, is_watch.0, running.watches.listed.count)

  members : IsPair (block_at known watch.clause) (pair_at pairs watch.clause)
  members = running.watches.listed.members watch.clause is_watch.0

  abbrev RestsNow : ℕ → Type 0
  RestsNow number = Rests (literals_of_steps (take (place.front + 1) trail.steps)) assigned (block_at known number) (pair_at pairs number)

  goes_on : ((number : ℕ) → number < length known → watch.clause ≡ number → RestsNow number) → VisitIs input log (progress input.variables trail.steps) (length (list_at lists place.literal)) trail pairs lists place Stays
  goes_on here = (
    record {
      running = record {
        search = running.search;
        watches = running.watches;
        passing = passing_next known trail.steps pairs lists place.front place.at running.passing
            (subst (λ (n : ℕ). (number : ℕ) → number < length known → (watch_at (list_at lists n) place.at).clause ≡ number → RestsNow number) running.literal here);
        literal = running.literal;
      };
      further = omega arith;
    },
    refl,
  )

  pub stays_blocked : Contains assigned watch.blocker → VisitIs input log (progress input.variables trail.steps) (length (list_at lists place.literal)) trail pairs lists place Stays
  stays_blocked holds = goes_on (λ number h e. subst RestsNow e (inl (watch.blocker, is_watch.1, holds)))

  -- the pair that the code reads
  pub other_read : (read : Watch) (pair : Pair) (other : ℕ) → read ≡ watch → pair ≡ get_or pairs read.clause pair → IsOtherOf pair place.literal other → IsOtherOf (pair_at pairs watch.clause) place.literal other
  other_read read pair other e f is =
      let inside : read.clause < length pairs = subst (λ (w : Watch). w.clause < length pairs) (sym e) clause_inside in
      let same : pair ≡ pair_at pairs watch.clause = f ∙ sym (get_or_default pairs read.clause (record { first = 0; second = 0 }) pair inside) ∙ ap (λ (w : Watch). pair_at pairs w.clause) e in
      subst (λ (p : Pair). IsOtherOf p place.literal other) same is

  pub other_watched : (other : ℕ) → IsOtherOf (pair_at pairs watch.clause) place.literal other → (other ≡ (pair_at pairs watch.clause).first) ⊎ (other ≡ (pair_at pairs watch.clause).second)
  other_watched other (inl (n, e)) = inr e
  other_watched other (inr (n, e)) = inl e

  pub other_fits : (other : ℕ) → IsOtherOf (pair_at pairs watch.clause) place.literal other → IsLiteral input.variables other
  other_fits other is = All-contains (IsLiteral input.variables) (block_at known watch.clause) other (known_fits input log watch.clause running.search.literals running.search.lines is_watch.0) (other_member other is)
    where
      other_member : (other : ℕ) → IsOtherOf (pair_at pairs watch.clause) place.literal other → Contains (block_at known watch.clause) other
      other_member other (inl (n, e)) = subst (λ (x : ℕ). Contains (block_at known watch.clause) x) (sym e) members.second
      other_member other (inr (n, e)) = subst (λ (x : ℕ). Contains (block_at known watch.clause) x) (sym e) members.first

  pub stays_alone : (other : ℕ) → IsOtherOf (pair_at pairs watch.clause) place.literal other → other ≡ place.literal → VisitIs input log (progress input.variables trail.steps) (length (list_at lists place.literal)) trail pairs lists place Stays
  stays_alone other is e = goes_on (λ number h f. subst RestsNow f (rests (running.passing.pending watch.clause is_watch.0)))
    where
      rests : IsPending known trail.steps pairs lists place.front place.at watch.clause → RestsNow watch.clause
      rests (inl r) = r
      rests (inr (inl s, w)) = inl s
      rests (inr (inr awake, w)) = elim is [
        | inl (n, f) ↦ absurd (awake.apart (n ∙ sym e ∙ f))
        | inr (n, f) ↦ absurd (n (sym f ∙ e))
      ]

  abbrev blocked_by : ℕ → List (List Watch)
  blocked_by other = set lists place.literal (set (list_at lists place.literal) place.at (record { clause = watch.clause; blocker = other }))

  pub stays_beside : (other : ℕ) → (other ≡ (pair_at pairs watch.clause).first) ⊎ (other ≡ (pair_at pairs watch.clause).second) → Contains assigned other → VisitIs input log (progress input.variables trail.steps) (length (list_at lists place.literal)) trail pairs (blocked_by other) place Stays
  stays_beside other is holds = (
    record {
      running = record {
        search = running.search;
        watches = watched_changed known pairs lists place.literal place.at new place_inside at refl input.variables trail.steps running.watches (is_watch.0, member);
        passing = passing_changed known pairs lists place.literal place.at new place_inside at refl trail.steps place.front (place.at + 1)
            (passing_next known trail.steps pairs lists place.front place.at running.passing
            (subst (λ (n : ℕ). (number : ℕ) → number < length known → (watch_at (list_at lists n) place.at).clause ≡ number → RestsNow number) running.literal
            (λ number h e. subst RestsNow e (inl (other, member, holds)))));
        literal = running.literal;
      };
      further = omega arith;
    },
    ap length (list_same lists place.literal (set (list_at lists place.literal) place.at new) place_inside) ∙ length-set (list_at lists place.literal) place.at new,
  )
    where
      new : Watch
      new = record { clause = watch.clause; blocker = other }

      member : Contains (block_at known watch.clause) other
      member = elim is [
        | inl e ↦ subst (λ (x : ℕ). Contains (block_at known watch.clause) x) (sym e) members.first
        | inr e ↦ subst (λ (x : ℕ). Contains (block_at known watch.clause) x) (sym e) members.second
      ]

  module _ (number other : ℕ) (looked : IsLookedAt trail pairs lists place number other) where
    pub number_known : number < length known
    number_known = subst (λ (n : ℕ). n < length known) looked.here is_watch.0

    other_member : Contains (block_at known number) other
    other_member = elim looked.watches [
      | inl e ↦ subst (λ (x : ℕ). Contains (block_at known number) x) (sym e) (running.watches.listed.members number number_known).first
      | inr e ↦ subst (λ (x : ℕ). Contains (block_at known number) x) (sym e) (running.watches.listed.members number number_known).second
    ]

    pub looked_fits : IsLiteral input.variables other
    looked_fits = All-contains (IsLiteral input.variables) (block_at known number) other (known_fits input log number running.search.literals running.search.lines number_known) other_member

    abbrev IsElse : ℕ → Type 0
    IsElse x = (x ≡ other) ⊎ IsFalse assigned x

    pub free_fits : (free : ℕ) → Contains (block_at known number) free → free < length lists
    free_fits free member =
        let fits : IsLiteral input.variables free = All-contains (IsLiteral input.variables) (block_at known number) free (known_fits input log number running.search.literals running.search.lines number_known) member in
        omega (arith, fits, running.watches.sized)

    pub moves_on : (free : ℕ) → Contains (block_at known number) free → other ≢ free → (¬ IsFalse assigned free) → VisitIs input log (progress input.variables trail.steps) (length (list_at lists place.literal)) trail (set pairs number (record { first = other; second = free })) (moved lists place.literal place.at free (record { clause = number; blocker = other })) place Moves
    moves_on free member apart live =
        let lit : ℕ = false_at trail.steps place.front in
        let same : place.literal ≡ lit = running.literal in
        let inside : lit < length lists = subst (λ (n : ℕ). n < length lists) same place_inside in
        let within : place.at < length (list_at lists lit) = subst (λ (n : ℕ). place.at < length (list_at lists n)) same at in
        let is : (watch_at (list_at lists lit) place.at).clause ≡ number = subst (λ (n : ℕ). (watch_at (list_at lists n) place.at).clause ≡ number) same looked.here in
        let lives : other ≢ lit = subst (λ (n : ℕ). other ≢ n) same looked.lives in
        let there = free_fits free member in
        let apart_free : free ≢ place.literal = free_apart free live in (
          record {
            running = record {
              search = running.search;
              watches = subst (λ (n : ℕ). AreWatched input.variables known trail.steps (set pairs number (record { first = other; second = free })) (moved lists n place.at free (record { clause = number; blocker = other }))) (sym same)
                  (watched_moved input.variables known trail.steps pairs lists place.front place.at number other free running.watches running.passing inside there within is number_known member apart live looked.watches lives);
              passing = subst (λ (n : ℕ). IsPassing known trail.steps (set pairs number (record { first = other; second = free })) (moved lists n place.at free (record { clause = number; blocker = other })) place.front place.at) (sym same)
                  (passing_moved input.variables known trail.steps pairs lists place.front place.at number other free running.watches running.passing inside there within is number_known member apart live looked.watches lives);
              literal = running.literal;
            };
            further = omega arith;
          },
          let long = ap length (moved_list lists place.literal place.at free (record { clause = number; blocker = other }) place_inside there apart_free at) in
              let less = removed_length (list_at lists place.literal) place.at at in
              let positive : place.at < length (list_at lists place.literal) = at in
              omega arith,
        )
      where
        free_apart : (free : ℕ) → (¬ IsFalse assigned free) → free ≢ place.literal
        free_apart free live e = live (subst (λ (n : ℕ). IsFalse assigned n) (sym (e ∙ running.literal)) (front_false trail.steps place.front running.passing.within))

    pub finds_conflict : All IsElse (block_at known number) → IsFalse assigned other → VisitIs input log (progress input.variables trail.steps) (length (list_at lists place.literal)) trail pairs lists place (Conflict number)
    finds_conflict all is_false = (
      record { running = running; further = omega arith },
      record {
        within = number_known;
        falsified = λ k d h. elim (all k d h) [
          | inl e ↦ subst (λ (x : ℕ). IsFalse assigned x) (sym e) is_false
          | inr f ↦ f
        ];
      },
    )

    pub other_open : (¬ IsFalse assigned other) → IsOpen assigned other
    other_open n = (looked.not_true, n)

    abbrev the_step : Step
    the_step = record { literal = other; cause = Clause number }

    pub forces_other : All IsElse (block_at known number) → (¬ IsFalse assigned other) → VisitIs input log (progress input.variables trail.steps) (length (list_at lists place.literal)) (record trail { steps = trail.steps ++ the_step ∷ [] }) pairs lists place Stays
    forces_other all n =
        let unit : IsUnit assigned (block_at known number) other = record { member = other_member; free = other_open n; others = all } in
        let next = search_push input log trail the_step running.search looked_fits (other_open n) (number_known, unit) in
        let more : List Step = trail.steps ++ the_step ∷ [] in
        let same : false_at more place.front ≡ false_at trail.steps place.front = ap (λ (s : Step). negation s.literal) (step_at_left trail.steps the_step place.front running.passing.within) in
        let lit : place.literal ≡ false_at more place.front = running.literal ∙ sym same in
        let holds : Contains (literals_of_steps more) other = subst (λ (s : List ℕ). Contains s other) (sym (literals-push trail.steps the_step)) (Contains-push assigned other) in (
          record {
            running = record {
              search = next.search;
              watches = watched_push input.variables known trail.steps pairs lists the_step running.watches tt;
              passing = passing_next known more pairs lists place.front place.at (passing_push known trail.steps pairs lists place.front place.at the_step running.passing)
                  (λ i h e. let f : number ≡ i = sym looked.here ∙ ap (λ (l : ℕ). (watch_at (list_at lists l) place.at).clause) lit ∙ e in
                  inl (other, subst (λ (j : ℕ). Contains (block_at known j) other) f other_member, holds));
              literal = lit;
            };
            further = omega (arith, next.further);
          },
          refl,
        )

-- the look begins at the first watch
pub pass_starts : (input : ClauseList) (log : List Line) (trail : Steps) (pairs : List Pair) (lists : List (List Watch)) (front literal : ℕ) → IsWatching input log trail pairs lists front → front < length trail.steps → literal ≡ false_at trail.steps front → RunsOn input log (progress input.variables trail.steps) trail pairs lists (record { front = front; literal = literal; at = 0 })
pass_starts input log trail pairs lists front literal watching h e = record {
  running = record {
    search = watching.search;
    watches = watching.watches;
    passing = passing_start (known_clauses input log) trail.steps pairs lists front watching.watches.listed watching.fronts h;
    literal = e;
  };
  further = omega arith;
}

pub running_inside : (input : ClauseList) (log : List Line) (trail : Steps) (pairs : List Pair) (lists : List (List Watch)) (place : Place) → IsRunning input log trail pairs lists place → place.literal < length lists
running_inside input log trail pairs lists place running =
    let fits : IsLiteral input.variables place.literal = subst (λ (n : ℕ). IsLiteral input.variables n) (sym running.literal) (negation-fits input.variables (step_at trail.steps place.front).literal (running.search.fit place.front running.passing.within).0) in
    omega (arith, running.watches.sized)

-- the look ends behind the last watch
pub pass_ends : (input : ClauseList) (log : List Line) (before : ℕ) (trail : Steps) (pairs : List Pair) (lists : List (List Watch)) (place : Place) → RunsOn input log before trail pairs lists place → length (list_at lists place.literal) ≤ place.at → PropagationIs input log before trail pairs lists (place.front + 1) None
pass_ends input log before trail pairs lists place on h = (record { search = on.running.search; watches = on.running.watches; further = on.further }, passing_end (known_clauses input log) trail.steps pairs lists place.front place.at on.running.passing (subst (λ (n : ℕ). length (list_at lists n) ≤ place.at) on.running.literal h))

-- what a look leaves, of what was before
pub runs_from : (input : ClauseList) (log : List Line) (before now : ℕ) (trail : Steps) (pairs : List Pair) (lists : List (List Watch)) (place : Place) → before ≤ now → RunsOn input log now trail pairs lists place → RunsOn input log before trail pairs lists place
runs_from input log before now trail pairs lists place h on = record { running = on.running; further = omega (arith, on.further) }
