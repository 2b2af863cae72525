-- Steps before the search.
use Rattle.std.proofs.Common.{◌≡◌, ◌≢◌, ℕ, ◌+◌, ◌<◌, List, [], ◌∷◌, ◌++◌, length, take, All, Contains, inl, inr, refl, sym, ap, ◌∙◌, subst, arith}
use Rattle.std.proofs.lemmas.Bool.{cases_lt}
use Rattle.std.proofs.lemmas.List.{take_more, take_all, length_push, length-take-le, append-nil}
use Rattle.std.proofs.lemmas.List.Elements.{All-contains, Contains-push}
use Rattle.region_pool.specs.Blocks.{block_at}
use Rattle.region_pool.specs.Clauses.{ClauseList, IsLiteral}
use Rattle.region_pool.specs.Log.{Line}
use Rattle.region_pool.specs.Refutation.{IsFalse, IsOpen, IsUnit, literals_of}
use Rattle.watch_lists.specs.declared.lists.Watch.{Watch}
use Rattle.sat_core.specs.declared.trail.Cause.{Cause}
use Rattle.sat_core.specs.declared.trail.Cause.TheVariants.{Decision, Clause}
use Rattle.sat_core.specs.declared.trail.Step.{Step}
use Rattle.sat_core.specs.declared.watching.Pair.{Pair}
use Rattle.sat_core.specs.Known.{known_clauses}
use Rattle.sat_core.specs.Passing.{IsWatching}
use Rattle.sat_core.specs.Preparing.{IsPreparing, IsRefutable, IsFirstPair, Settles}
use Rattle.sat_core.specs.Roles.{IsDecision, NoneDecided}
use Rattle.sat_core.specs.Search.{IsSearch}
use Rattle.sat_core.specs.Steps.{literals_of_steps}
use Rattle.sat_core.specs.Trail.{Steps}
use Rattle.sat_core.specs.Watches.{pair_at, Rests, EachRests, RestsAt, AreWatched, watched}
use Rattle.sat_core.proofs.MoreLemmas.{watched_more, by_number}
use Rattle.sat_core.proofs.PassLemmas.{known_fits}
use Rattle.sat_core.proofs.SearchLemmas.{search_push, input_known}
use Rattle.sat_core.proofs.TrailLemmas.{step_at_left, step_at_end}
use Rattle.sat_core.proofs.WatchLemmas.{literals-push, rests_push, watched_push}

module _ (input : ClauseList) (log : List Line) (trail : Steps) (pair : Pair) (number : ℕ) (search : IsSearch input log trail) (forced : NoneDecided trail.steps 0 (length trail.steps)) (within : number < length input.clauses) (is : IsFirstPair (block_at input.clauses number) pair) where
  abbrev clause : List ℕ
  clause = block_at input.clauses number

  known : (block_at (known_clauses input log) number ≡ clause) × (number < length (known_clauses input log))
  known = input_known input log number within

  pub pair_fits : IsLiteral input.variables pair.first
  pair_fits = All-contains (IsLiteral input.variables) clause pair.first (subst (λ (s : List ℕ). All (IsLiteral input.variables) s) known.0 (known_fits input log number search.literals search.lines known.1)) is.members.first

  pub settles_apart : pair.first ≢ pair.second → Settles input log trail trail number pair
  settles_apart n = record {
    search = search;
    from = inl refl;
    rests = inr (record { apart = n; first = λ (k, h, e). omega arith; second = λ (k, h, e). omega arith });
  }

  pub settles_true : Contains (literals_of_steps trail.steps) pair.first → Settles input log trail trail number pair
  settles_true holds = record { search = search; from = inl refl; rests = inl (pair.first, is.members.first, holds) }

  only : pair.first ≡ pair.second → All (λ x. x ≡ pair.first) clause
  only e = elim is.differs [ inl n ↦ absurd (n e) | inr all ↦ all ]

  pub settles_false : pair.first ≡ pair.second → IsFalse (literals_of_steps trail.steps) pair.first → IsRefutable input log trail number
  settles_false e f = record {
    search = search;
    forced = forced;
    conflict = record {
      within = known.1;
      falsified = subst (λ (s : List ℕ). All (IsFalse (literals_of_steps trail.steps)) s) (sym known.0)
          (λ k d h. subst (λ (n : ℕ). IsFalse (literals_of_steps trail.steps) n) (sym (only e k d h)) f);
    };
  }

  abbrev the_step : Step
  the_step = record { literal = pair.first; cause = Clause number }

  pub settles_open : (new : Steps) → new ≡ record trail { steps = trail.steps ++ the_step ∷ [] } → pair.first ≡ pair.second → IsOpen (literals_of_steps trail.steps) pair.first → Settles input log trail new number pair
  settles_open new f e free =
      let unit : IsUnit (literals_of_steps trail.steps) (block_at (known_clauses input log) number) pair.first = subst (λ (s : List ℕ). IsUnit (literals_of_steps trail.steps) s pair.first) (sym known.0)
      (record { member = is.members.first; free = free; others = λ k d h. inl (only e k d h) }) in
      let next = search_push input log trail the_step search pair_fits free (known.1, unit) in
      let holds : Contains (literals_of_steps (trail.steps ++ the_step ∷ [])) pair.first = subst (λ (s : List ℕ). Contains s pair.first) (sym (literals-push trail.steps the_step)) (Contains-push (literals_of_steps trail.steps) pair.first) in
      record {
        search = subst (λ (t : Steps). IsSearch input log t) (sym f) next.search;
        from = inr (the_step, f, λ d. d);
        rests = subst (λ (t : Steps). Rests [] (literals_of_steps t.steps) clause pair) (sym f) (inl (pair.first, is.members.first, holds));
      }

-- a clause without literals is falsified
pub empty_refutable : (input : ClauseList) (log : List Line) (trail : Steps) (pairs : List Pair) (lists : List (List Watch)) (number : ℕ) → IsPreparing input log trail pairs lists number → number < length input.clauses → block_at input.clauses number ≡ [] → IsRefutable input log trail number
empty_refutable input log trail pairs lists number prepared h e =
    let known = input_known input log number h in
    record {
      search = prepared.search;
      forced = prepared.forced;
      conflict = record {
        within = known.1;
        falsified = subst (λ (s : List ℕ). All (IsFalse (literals_of_steps trail.steps)) s) (sym (known.0 ∙ e)) (λ k d l. absurd (omega arith));
      };
    }

none_decided_push : (steps : List Step) (step : Step) → NoneDecided steps 0 (length steps) → (¬ IsDecision step.cause) → NoneDecided (steps ++ step ∷ []) 0 (length (steps ++ step ∷ []))
none_decided_push steps step none n at low high d = elim (cases_lt at (length steps)) [
  | inl k ↦ none at low k (subst (λ (s : Step). IsDecision s.cause) (step_at_left steps step at k) d)
  | inr k ↦ let e : length steps ≡ at = omega (arith, length_push steps step) in n (subst (λ (s : Step). IsDecision s.cause) (step_at_end steps step at e) d)
]

forced_at : (cause : Cause) → (¬ IsDecision cause) → (P : Cause → Type 0) → ((number : ℕ) → P (Clause number)) → P cause
forced_at Decision n P h = absurd (n tt)
forced_at (Clause number) n P h = h number

module _ (input : ClauseList) (log : List Line) (old new : Steps) (pairs new_pairs : List Pair) (lists new_lists : List (List Watch)) (pair : Pair) (number : ℕ) (prepared : IsPreparing input log old pairs lists number) (within : number < length input.clauses) (is : IsFirstPair (block_at input.clauses number) pair) (settles : Settles input log old new number pair) where
  count : length (take number input.clauses) ≡ number
  count = length-take-le number input.clauses (omega arith)

  fits : IsLiteral input.variables pair.first × IsLiteral input.variables pair.second
  fits =
      let known = input_known input log number within in
      let all = subst (λ (s : List ℕ). All (IsLiteral input.variables) s) known.0 (known_fits input log number prepared.search.literals prepared.search.lines known.1) in
      (All-contains (IsLiteral input.variables) (block_at input.clauses number) pair.first all is.members.first, All-contains (IsLiteral input.variables) (block_at input.clauses number) pair.second all is.members.second)

  pub first_inside : pair.first < length lists
  first_inside = omega (arith, fits.0, prepared.watches.sized)

  pub second_inside : pair.second < length lists
  second_inside = omega (arith, fits.1, prepared.watches.sized)

  -- what was true of the trail stays so
  by_trail : (P : Steps → Type 0) → P old → ((step : Step) → (¬ IsDecision step.cause) → P (record old { steps = old.steps ++ step ∷ [] })) → P new
  by_trail P same more = elim settles.from [
    | inl e ↦ subst P (sym e) same
    | inr (step, e, n) ↦ subst P (sym e) (more step n)
  ]

  forced : NoneDecided new.steps 0 (length new.steps)
  forced = by_trail (λ t. NoneDecided t.steps 0 (length t.steps)) prepared.forced (λ step n. none_decided_push old.steps step prepared.forced n)

  watches : AreWatched input.variables (take number input.clauses) new.steps pairs lists
  watches = by_trail (λ t. AreWatched input.variables (take number input.clauses) t.steps pairs lists) prepared.watches
      (λ step n. watched_push input.variables (take number input.clauses) old.steps pairs lists step prepared.watches
      (forced_at step.cause n (λ c. RestsAt (take number input.clauses) pairs (literals_of_steps old.steps) c) (λ number. tt)))

  rests : EachRests [] (literals_of_steps new.steps) (take number input.clauses) pairs
  rests = by_trail (λ t. EachRests [] (literals_of_steps t.steps) (take number input.clauses) pairs) prepared.rests
      (λ step n k h. rests_push old.steps [] step (block_at (take number input.clauses) k) (pair_at pairs k) (prepared.rests k h))

  more : take (number + 1) input.clauses ≡ take number input.clauses ++ block_at input.clauses number ∷ []
  more = take_more input.clauses number [] within

  pub prepared_more : new_pairs ≡ pairs ++ pair ∷ [] → new_lists ≡ watched lists (length pairs) pair → IsPreparing input log new new_pairs new_lists (number + 1)
  prepared_more e f =
      let listed = prepared.watches.listed in
      let known : length pairs ≡ length (take number input.clauses) = listed.count in
      let are = watched_more (take number input.clauses) (block_at input.clauses number) pairs pair lists (length pairs) known is.members first_inside second_inside input.variables new.steps watches (λ at h d. absurd (forced at (omega arith) h d)) in
      let each = by_number (λ s p n. Rests [] (literals_of_steps new.steps) s p) (take number input.clauses) (block_at input.clauses number) pairs pair known rests settles.rests in
      subst (λ (p : List Pair). IsPreparing input log new p new_lists (number + 1)) (sym e)
      (subst (λ (l : List (List Watch)). IsPreparing input log new (pairs ++ pair ∷ []) l (number + 1)) (sym f) (record {
        empty = prepared.empty;
        search = settles.search;
        watches = subst (λ (s : List (List ℕ)). AreWatched input.variables s new.steps (pairs ++ pair ∷ []) (watched lists (length pairs) pair)) (sym more) are;
        rests = subst (λ (s : List (List ℕ)). EachRests [] (literals_of_steps new.steps) s (pairs ++ pair ∷ [])) (sym more) each;
        forced = forced;
      }))

-- with each clause watched the search can begin
pub prepared_all : (input : ClauseList) (log : List Line) (trail : Steps) (pairs : List Pair) (lists : List (List Watch)) → IsPreparing input log trail pairs lists (length input.clauses) → IsWatching input log trail pairs lists 0
prepared_all input log trail pairs lists prepared =
    let all : take (length input.clauses) input.clauses ≡ input.clauses = take_all (length input.clauses) input.clauses (omega arith) in
    let same : take (length input.clauses) input.clauses ≡ known_clauses input log = all ∙ sym (append-nil input.clauses) ∙ ap (λ (l : List Line). input.clauses ++ literals_of l) (sym prepared.empty) in
    record {
      search = prepared.search;
      watches = subst (λ (s : List (List ℕ)). AreWatched input.variables s trail.steps pairs lists) same prepared.watches;
      fronts = record {
        within = omega arith;
        rests = subst (λ (s : List (List ℕ)). EachRests [] (literals_of_steps trail.steps) s pairs) same prepared.rests;
      };
    }
