-- The clauses are watched after a turn.
use Rattle.std.proofs.Common.{◌≡◌, ℕ, ◌<◌, ◌≤◌, List, [], ◌∷◌, ◌++◌, length, take, sym, ap, ◌∙◌, subst, arith}
use Rattle.region_pool.specs.Blocks.{block_at}
use Rattle.region_pool.specs.Clauses.{ClauseList, IsLiteral}
use Rattle.region_pool.specs.Literals.{negation}
use Rattle.region_pool.specs.Log.{Line}
use Rattle.region_pool.specs.Refutation.{IsOpen}
use Rattle.watch_lists.specs.declared.lists.Watch.{Watch}
use Rattle.sat_core.specs.declared.roles.Role.{Role}
use Rattle.sat_core.specs.declared.trail.Cause.TheVariants.{Decision, Clause}
use Rattle.sat_core.specs.declared.trail.Step.{Step}
use Rattle.sat_core.specs.declared.watching.Pair.{Pair}
use Rattle.sat_core.specs.Known.{known_clauses}
use Rattle.sat_core.specs.Learned.{line_of, IsAsserting, IsLinePair}
use Rattle.sat_core.specs.Passing.{IsWatching}
use Rattle.sat_core.specs.Progress.{progress}
use Rattle.sat_core.specs.Quiet.{IsClosed}
use Rattle.sat_core.specs.Roles.{Derives}
use Rattle.sat_core.specs.Search.{IsSearch}
use Rattle.sat_core.specs.Steps.{literals_of_steps, step_at}
use Rattle.sat_core.specs.Trail.{Steps}
use Rattle.sat_core.specs.declared.search.Search.{Search}
use Rattle.sat_core.specs.declared.search.Turn.{Turn}
use Rattle.sat_core.specs.declared.search.Turn.TheVariants.{Going, Satisfied, Refuted, OutOfBudget}
use Rattle.sat_core.specs.Turn.{TurnIs}
use Rattle.sat_core.specs.Watches.{EachRests, AreWatched, IsFront, watched}
use Rattle.sat_core.proofs.FollowLemmas.{kept_from}
use Rattle.sat_core.proofs.LineLemmas.{watches_line, front_line}
use Rattle.sat_core.proofs.Negations.{negation-fits}
use Rattle.sat_core.proofs.SearchLemmas.{search_push, search_learned, known-push}
use Rattle.sat_core.proofs.WatchLemmas.{front_all, front_closed, front_push, watched_push}

-- a search, and how far it came
pub record GoesOn (input : ClauseList) (before : ℕ) (log : List Line) (trail : Steps) (pairs : List Pair) (lists : List (List Watch)) (front : ℕ) : Type 0 where
  pub watching : IsWatching input log trail pairs lists front
  pub further : before < progress input.variables trail.steps

module _ (input : ClauseList) (log : List Line) (trail : Steps) (pairs : List Pair) (lists : List (List Watch)) (front : ℕ) (watching : IsWatching input log trail pairs lists front) (complete : front ≡ length trail.steps) where
  rests : EachRests (literals_of_steps trail.steps) (literals_of_steps trail.steps) (known_clauses input log) pairs
  rests = front_all (known_clauses input log) trail.steps pairs front watching.fronts (omega arith)

  pub complete_closed : IsClosed (known_clauses input log) (literals_of_steps trail.steps)
  complete_closed = front_closed input.variables (known_clauses input log) trail.steps pairs lists watching.search.fit watching.watches.listed rests

  pub decided_goes : (literal : ℕ) (new : Steps) → IsLiteral input.variables literal → IsOpen (literals_of_steps trail.steps) literal → new ≡ record trail { steps = trail.steps ++ (record { literal = literal; cause = Decision }) ∷ [] } → GoesOn input (progress input.variables trail.steps) log new pairs lists front
  decided_goes literal new fits free e =
      let step : Step = record { literal = literal; cause = Decision } in
      let next = search_push input log trail step watching.search fits free complete_closed in
      subst (λ (t : Steps). GoesOn input (progress input.variables trail.steps) log t pairs lists front) (sym e) (record {
        watching = record {
          search = next.search;
          watches = watched_push input.variables (known_clauses input log) trail.steps pairs lists step watching.watches rests;
          fronts = front_push (known_clauses input log) trail.steps pairs front step watching.fronts;
        };
        further = next.further;
      })

module _ (input : ClauseList) (log : List Line) (trail : Steps) (roles : List Role) (conflict asserted cut : ℕ) (search : IsSearch input log trail) (within : conflict < length (known_clauses input log)) (derives : Derives (known_clauses input log) (block_at (known_clauses input log) conflict) trail.steps roles) (asserting : IsAsserting trail.steps roles asserted cut) (pairs : List Pair) (lists : List (List Watch)) (pair : Pair) (are : AreWatched input.variables (known_clauses input log) trail.steps pairs lists) (is : IsLinePair trail.steps roles asserted cut pair) where
  abbrev known : List (List ℕ)
  known = known_clauses input log

  abbrev the_line : Line
  the_line = line_of trail.steps roles conflict

  abbrev the_step : Step
  the_step = record { literal = negation (step_at trail.steps asserted).literal; cause = Clause (length known) }

  abbrev the_steps : List Step
  the_steps = take cut trail.steps ++ the_step ∷ []

  step_fits : (at : ℕ) → at < length trail.steps → IsLiteral input.variables (negation (step_at trail.steps at).literal)
  step_fits at h = negation-fits input.variables (step_at trail.steps at).literal (search.fit at h).0

  pub first_inside : pair.first < length lists
  first_inside =
      let fits : IsLiteral input.variables pair.first = subst (λ (n : ℕ). IsLiteral input.variables n) (sym is.first) (step_fits asserted asserting.within) in
      omega (arith, are.sized)

  pub second_inside : pair.second < length lists
  second_inside =
      let (at, h, role, e) = kept_from trail.steps roles pair.second is.members.second in
      let fits : IsLiteral input.variables pair.second = subst (λ (n : ℕ). IsLiteral input.variables n) (sym e) (step_fits at h) in
      omega (arith, are.sized)

  same_steps : take cut trail.steps ++ (record { literal = pair.first; cause = Clause (length known) }) ∷ [] ≡ the_steps
  same_steps = ap (λ (n : ℕ). take cut trail.steps ++ (record { literal = n; cause = Clause (length known) }) ∷ []) is.first

  pub learned_goes : (new_log : List Line) (longer : Steps) (new_pairs : List Pair) (new_lists : List (List Watch)) → new_log ≡ log ++ the_line ∷ [] → longer ≡ record trail { steps = the_steps } → new_pairs ≡ pairs ++ pair ∷ [] → new_lists ≡ watched lists (length pairs) pair → GoesOn input (progress input.variables trail.steps) new_log longer new_pairs new_lists cut
  learned_goes new_log longer new_pairs new_lists l t p w =
      let next = search_learned input log trail roles conflict asserted cut search within derives asserting new_log longer l t in
      let clauses : known_clauses input new_log ≡ known ++ the_line.literals ∷ [] = ap (known_clauses input) l ∙ known-push input log the_line in
      let steps : longer.steps ≡ the_steps = ap (λ (x : Steps). x.steps) t in
      let watches : AreWatched input.variables (known ++ the_line.literals ∷ []) the_steps (pairs ++ pair ∷ []) (watched lists (length pairs) pair) =
      subst (λ (s : List Step). AreWatched input.variables (known ++ the_line.literals ∷ []) s (pairs ++ pair ∷ []) (watched lists (length pairs) pair)) same_steps
      (watches_line input.variables known trail.steps roles pairs lists asserted cut pair are asserting is first_inside second_inside) in
      let fronts : IsFront (known ++ the_line.literals ∷ []) the_steps (pairs ++ pair ∷ []) cut =
      subst (λ (s : List Step). IsFront (known ++ the_line.literals ∷ []) s (pairs ++ pair ∷ []) cut) same_steps
      (front_line input.variables known trail.steps roles pairs lists asserted cut pair are asserting is first_inside second_inside) in
      record {
        watching = record {
          search = next.search;
          watches = subst (λ (x : List (List ℕ)). AreWatched input.variables x longer.steps new_pairs new_lists) (sym clauses)
              (subst (λ (x : List Step). AreWatched input.variables (known ++ the_line.literals ∷ []) x new_pairs new_lists) (sym steps)
              (subst (λ (x : List Pair). AreWatched input.variables (known ++ the_line.literals ∷ []) the_steps x new_lists) (sym p)
              (subst (λ (x : List (List Watch)). AreWatched input.variables (known ++ the_line.literals ∷ []) the_steps (pairs ++ pair ∷ []) x) (sym w) watches)));
          fronts = subst (λ (x : List (List ℕ)). IsFront x longer.steps new_pairs cut) (sym clauses)
              (subst (λ (x : List Step). IsFront (known ++ the_line.literals ∷ []) x new_pairs cut) (sym steps)
              (subst (λ (x : List Pair). IsFront (known ++ the_line.literals ∷ []) the_steps x cut) (sym p) fronts));
        };
        further = next.further;
      }

-- what a turn says, of what was before
pub turn_from : (input : ClauseList) (budget before now : ℕ) (search : Search) (turn : Turn) → before ≤ now → TurnIs input budget now search turn → TurnIs input budget before search turn
turn_from input budget before now search Going h goes = record { watching = goes.watching; further = omega (arith, goes.further) }
turn_from input budget before now search Satisfied h is = is
turn_from input budget before now search Refuted h is = is
turn_from input budget before now search OutOfBudget h is = is
