-- A watch moves to another literal, which is not false.
use Rattle.std.proofs.Common.{◌≡◌, ◌≢◌, ◌⊎◌, ℕ, ◌+◌, ◌<◌, ◌≤◌, List, length, set, take, Contains, inl, inr, sym, ◌∙◌, subst, arith, length-set}
use Rattle.std.proofs.lemmas.Bool.{cases_eq}
use Rattle.std.proofs.lemmas.List.{get_or-set_same, get_or-set_other}
use Rattle.region_pool.specs.Blocks.{block_at}
use Rattle.region_pool.specs.Literals.{negation}
use Rattle.region_pool.specs.Refutation.{IsFalse}
use Rattle.watch_lists.specs.declared.lists.Watch.{Watch}
use Rattle.watch_lists.specs.Lists.{list_at, watch_at}
use Rattle.sat_core.specs.declared.trail.Cause.{Cause}
use Rattle.sat_core.specs.declared.trail.Cause.TheVariants.{Decision, Clause}
use Rattle.sat_core.specs.declared.trail.Step.{Step}
use Rattle.sat_core.specs.declared.watching.Pair.{Pair}
use Rattle.sat_core.specs.Steps.{literals_of_steps, step_at}
use Rattle.sat_core.specs.Watches.{pair_at, IsPair, IsAwake, Rests, Waits, IsWatchOf, AreListed, RestsAt, AreWatched, IsPassing, IsPending, false_at, moved}
use Rattle.sat_core.proofs.Negations.{negation-negation}
use Rattle.sat_core.proofs.StepLemmas.{holds_at}
use Rattle.sat_core.proofs.WatchLemmas.{holds_still, false_more}
use Rattle.sat_core.proofs.WaitLemmas.{waits_moved, waits_kept, waits_arrived, each_moved, length_moved}

module _ (variables : ℕ) (clauses : List (List ℕ)) (steps : List Step) (pairs : List Pair) (lists : List (List Watch)) (front at number other free : ℕ) (are : AreWatched variables clauses steps pairs lists) (passing : IsPassing clauses steps pairs lists front at) (inside : false_at steps front < length lists) (there : free < length lists) (within : at < length (list_at lists (false_at steps front))) (is : (watch_at (list_at lists (false_at steps front)) at).clause ≡ number) (known : number < length clauses) (member : Contains (block_at clauses number) free) (apart : other ≢ free) (live : ¬ IsFalse (literals_of_steps steps) free) (watches : (other ≡ (pair_at pairs number).first) ⊎ (other ≡ (pair_at pairs number).second)) (lives : other ≢ false_at steps front) where
  abbrev literal : ℕ
  literal = false_at steps front

  abbrev the_pair : Pair
  the_pair = record { first = other; second = free }

  abbrev the_watch : Watch
  the_watch = record { clause = number; blocker = other }

  abbrev new_pairs : List Pair
  new_pairs = set pairs number the_pair

  abbrev new_lists : List (List Watch)
  new_lists = moved lists literal at free the_watch

  listed : AreListed clauses pairs lists
  listed = are.listed

  within_pairs : number < length pairs
  within_pairs = omega (arith, listed.count)

  pair_here : pair_at new_pairs number ≡ the_pair
  pair_here = get_or-set_same pairs number the_pair (record { first = 0; second = 0 }) within_pairs

  pair_beside : (beside : ℕ) → beside ≢ number → pair_at new_pairs beside ≡ pair_at pairs beside
  pair_beside beside n = get_or-set_other pairs number beside the_pair (record { first = 0; second = 0 }) n

  -- the literal that became false is false
  is_false : IsFalse (literals_of_steps steps) literal
  is_false = subst (λ (n : ℕ). Contains (literals_of_steps steps) n) (sym (negation-negation (step_at steps front).literal)) (holds_at steps front passing.within)

  free_apart : free ≢ literal
  free_apart e = live (subst (λ (n : ℕ). IsFalse (literals_of_steps steps) n) (sym e) is_false)

  free_before : (count : ℕ) → count ≤ length steps → ¬ IsFalse (literals_of_steps (take count steps)) free
  free_before count h f = live (holds_still steps count (negation free) h f)

  other_member : Contains (block_at clauses number) other
  other_member = elim watches [
    | inl e ↦ subst (λ (n : ℕ). Contains (block_at clauses number) n) (sym e) (listed.members number known).first
    | inr e ↦ subst (λ (n : ℕ). Contains (block_at clauses number) n) (sym e) (listed.members number known).second
  ]

  other_waits : Waits (list_at lists other) 0 number
  other_waits = elim watches [
    | inl e ↦ subst (λ (n : ℕ). Waits (list_at lists n) 0 number) (sym e) (listed.first number known)
    | inr e ↦ subst (λ (n : ℕ). Waits (list_at lists n) 0 number) (sym e) (listed.second number known)
  ]

  beside_waits : (beside literal_of low : ℕ) → low ≤ at → beside ≢ number → Waits (list_at lists literal_of) low beside → Waits (list_at new_lists literal_of) low beside
  beside_waits beside literal_of low h n waits = waits_moved lists literal at free the_watch inside there free_apart within literal_of low beside h (λ e. n (sym e ∙ is)) waits

  -- a fact of the pair of each clause
  by_pair : (P : ℕ → Pair → Type 0) (beside : ℕ) → (beside ≡ number → P number the_pair) → (beside ≢ number → P beside (pair_at pairs beside)) → P beside (pair_at new_pairs beside)
  by_pair P beside here others = elim (cases_eq beside number) [
    | inl e ↦ subst (λ (n : ℕ). P n (pair_at new_pairs n)) (sym e) (subst (P number) (sym pair_here) (here e))
    | inr n ↦ subst (P beside) (sym (pair_beside beside n)) (others n)
  ]

  listed_moved : AreListed clauses new_pairs new_lists
  listed_moved = record {
    count = length-set pairs number the_pair ∙ listed.count;
    members = λ beside h. by_pair (λ n p. IsPair (block_at clauses n) p) beside (λ e. record { first = other_member; second = member }) (λ n. listed.members beside h);
    watches = each_moved lists literal at free the_watch inside there free_apart within (IsWatchOf clauses) listed.watches (known, other_member);
    first = λ beside h. by_pair (λ n p. Waits (list_at new_lists p.first) 0 n) beside
        (λ e. waits_kept lists literal at free the_watch inside there free_apart within other 0 number lives other_waits)
        (λ n. beside_waits beside (pair_at pairs beside).first 0 (omega arith) n (listed.first beside h));
    second = λ beside h. by_pair (λ n p. Waits (list_at new_lists p.second) 0 n) beside
        (λ e. waits_arrived lists literal at free the_watch inside there free_apart within)
        (λ n. beside_waits beside (pair_at pairs beside).second 0 (omega arith) n (listed.second beside h));
  }

  other_awake : (seen : List ℕ) → IsAwake seen (pair_at pairs number) → ¬ IsFalse seen other
  other_awake seen awake = elim watches [
    | inl e ↦ λ f. awake.first (subst (λ (n : ℕ). IsFalse seen n) e f)
    | inr e ↦ λ f. awake.second (subst (λ (n : ℕ). IsFalse seen n) e f)
  ]

  rests_moved : (seen assigned : List ℕ) → (¬ IsFalse seen free) → Rests seen assigned (block_at clauses number) (pair_at pairs number) → Rests seen assigned (block_at clauses number) the_pair
  rests_moved seen assigned n (inl s) = inl s
  rests_moved seen assigned n (inr awake) = inr (record { apart = apart; first = other_awake seen awake; second = n })

  rests_by_pair : (seen assigned : List ℕ) (beside : ℕ) → (¬ IsFalse seen free) → Rests seen assigned (block_at clauses beside) (pair_at pairs beside) → Rests seen assigned (block_at clauses beside) (pair_at new_pairs beside)
  rests_by_pair seen assigned beside n r = by_pair (λ i p. Rests seen assigned (block_at clauses i) p) beside
      (λ e. rests_moved seen assigned n (subst (λ (i : ℕ). Rests seen assigned (block_at clauses i) (pair_at pairs i)) e r)) (λ m. r)

  decided_moved : (count : ℕ) → count ≤ length steps → (cause : Cause) → RestsAt clauses pairs (literals_of_steps (take count steps)) cause → RestsAt clauses new_pairs (literals_of_steps (take count steps)) cause
  decided_moved count h Decision rests = λ beside k. rests_by_pair (literals_of_steps (take count steps)) (literals_of_steps (take count steps)) beside (free_before count h) (rests beside k)
  decided_moved count h (Clause n) rests = tt

  pub watched_moved : AreWatched variables clauses steps new_pairs new_lists
  watched_moved = record {
    sized = length_moved lists literal at free the_watch inside there free_apart within ∙ are.sized;
    listed = listed_moved;
    decided = λ k h. decided_moved k (omega arith) (step_at steps k).cause (are.decided k h);
  }

  abbrev RestsAfter : Pair → Type 0
  RestsAfter pair = Rests (literals_of_steps (take (front + 1) steps)) (literals_of_steps steps) (block_at clauses number) pair

  rests_now : IsPending clauses steps pairs lists front at number → RestsAfter the_pair
  rests_now (inl r) = rests_moved (literals_of_steps (take (front + 1) steps)) (literals_of_steps steps) (free_before (front + 1) (omega (arith, passing.within))) r
  rests_now (inr (inl s, w)) = inl s
  rests_now (inr (inr awake, w)) = inr (record {
    apart = apart;
    first = λ f. elim (false_more steps front other passing.within f) [ inl g ↦ other_awake (literals_of_steps (take front steps)) awake g | inr e ↦ lives e ];
    second = free_before (front + 1) (omega (arith, passing.within));
  })

  pub passing_moved : IsPassing clauses steps new_pairs new_lists front at
  passing_moved = record {
    within = passing.within;
    pending = λ beside h. elim (cases_eq beside number) [
      | inl e ↦ subst (λ (n : ℕ). IsPending clauses steps new_pairs new_lists front at n) (sym e)
          (inl (subst RestsAfter (sym pair_here) (rests_now (subst (λ (n : ℕ). IsPending clauses steps pairs lists front at n) e (passing.pending beside h)))))
      | inr n ↦ elim (passing.pending beside h) [
        | inl r ↦ inl (subst (λ (p : Pair). Rests (literals_of_steps (take (front + 1) steps)) (literals_of_steps steps) (block_at clauses beside) p) (sym (pair_beside beside n)) r)
        | inr (r, w) ↦ inr (subst (λ (p : Pair). Rests (literals_of_steps (take front steps)) (literals_of_steps steps) (block_at clauses beside) p) (sym (pair_beside beside n)) r, beside_waits beside literal at (omega arith) n w)
      ]
    ];
  }
