-- One more clause is watched.
use Rattle.std.proofs.Common.{◌≡◌, ℕ, ◌<◌, List, [], ◌∷◌, ◌++◌, length, take, Contains, inl, inr, refl, sym, ◌∙◌, subst, arith}
use Rattle.std.proofs.lemmas.Bool.{cases_lt}
use Rattle.std.proofs.lemmas.List.{get_or_append_left, get_or_push, length_push}
use Rattle.region_pool.specs.Blocks.{block_at}
use Rattle.watch_lists.specs.declared.lists.Watch.{Watch}
use Rattle.watch_lists.specs.Lists.{list_at}
use Rattle.sat_core.specs.declared.trail.Cause.{Cause}
use Rattle.sat_core.specs.declared.trail.Cause.TheVariants.{Decision, Clause}
use Rattle.sat_core.specs.declared.trail.Step.{Step}
use Rattle.sat_core.specs.declared.watching.Pair.{Pair}
use Rattle.sat_core.specs.Roles.{IsDecision}
use Rattle.sat_core.specs.Steps.{literals_of_steps, step_at}
use Rattle.sat_core.specs.Watches.{pair_at, IsPair, IsAwake, Rests, EachRests, Waits, IsWatchOf, AreListed, RestsAt, AreWatched, IsFront, pushed, watched}
use Rattle.sat_core.proofs.WaitLemmas.{waits_pushed, waits_here, each_pushed, length_pushed}

-- a fact of each clause and its pair, and of one more
pub by_number : (P : List ℕ → Pair → ℕ → Type 0) (clauses : List (List ℕ)) (line : List ℕ) (pairs : List Pair) (pair : Pair) → length pairs ≡ length clauses → ((number : ℕ) → number < length clauses → P (block_at clauses number) (pair_at pairs number) number) → P line pair (length clauses) → (number : ℕ) → number < length (clauses ++ line ∷ []) → P (block_at (clauses ++ line ∷ []) number) (pair_at (pairs ++ pair ∷ []) number) number
by_number P clauses line pairs pair count each here number h = elim (cases_lt number (length clauses)) [
  | inl k ↦ subst (λ (s : List ℕ). P s (pair_at (pairs ++ pair ∷ []) number) number) (sym (get_or_append_left clauses (line ∷ []) [] number k))
      (subst (λ (p : Pair). P (block_at clauses number) p number) (sym (get_or_append_left pairs (pair ∷ []) (record { first = 0; second = 0 }) number (omega arith))) (each number k))
  | inr k ↦
      let e : length clauses ≡ number = omega (arith, length_push clauses line) in
      subst (λ (n : ℕ). P (block_at (clauses ++ line ∷ []) n) (pair_at (pairs ++ pair ∷ []) n) n) e
      (subst (λ (s : List ℕ). P s (pair_at (pairs ++ pair ∷ []) (length clauses)) (length clauses)) (sym (get_or_push clauses line [] (length clauses) refl))
      (subst (λ (p : Pair). P line p (length clauses)) (sym (get_or_push pairs pair (record { first = 0; second = 0 }) (length clauses) count)) here))
]

watch_still : (clauses : List (List ℕ)) (line : List ℕ) (watch : Watch) → IsWatchOf clauses watch → IsWatchOf (clauses ++ line ∷ []) watch
watch_still clauses line watch (h, c) = (omega (arith, length_push clauses line), subst (λ (s : List ℕ). Contains s watch.blocker) (sym (get_or_append_left clauses (line ∷ []) [] watch.clause h)) c)

watch_new : (clauses : List (List ℕ)) (line : List ℕ) (blocker : ℕ) → Contains line blocker → IsWatchOf (clauses ++ line ∷ []) (record { clause = length clauses; blocker = blocker })
watch_new clauses line blocker c = (omega (arith, length_push clauses line), subst (λ (s : List ℕ). Contains s blocker) (sym (get_or_push clauses line [] (length clauses) refl)) c)

module _ (clauses : List (List ℕ)) (line : List ℕ) (pairs : List Pair) (pair : Pair) (lists : List (List Watch)) (number : ℕ) (is : number ≡ length clauses) (members : IsPair line pair) (first : pair.first < length lists) (second : pair.second < length lists) where
  abbrev one : Watch
  one = record { clause = number; blocker = pair.second }

  abbrev two : Watch
  two = record { clause = number; blocker = pair.first }

  abbrev half : List (List Watch)
  half = pushed lists pair.first one

  second_still : pair.second < length half
  second_still = omega (arith, length_pushed lists pair.first one)

  waits_still : (literal low other : ℕ) → Waits (list_at lists literal) low other → Waits (list_at (watched lists number pair) literal) low other
  waits_still literal low other waits = waits_pushed half pair.second two literal low other second_still (waits_pushed lists pair.first one literal low other first waits)

  pub listed_more : AreListed clauses pairs lists → AreListed (clauses ++ line ∷ []) (pairs ++ pair ∷ []) (watched lists number pair)
  listed_more listed = record {
    count = omega (arith, length_push clauses line, length_push pairs pair, listed.count);
    members = by_number (λ s p n. IsPair s p) clauses line pairs pair listed.count listed.members members;
    watches = each_pushed (IsWatchOf (clauses ++ line ∷ [])) half pair.second two second_still
        (each_pushed (IsWatchOf (clauses ++ line ∷ [])) lists pair.first one first (λ literal at h. watch_still clauses line _ (listed.watches literal at h))
        (subst (λ (n : ℕ). IsWatchOf (clauses ++ line ∷ []) (record { clause = n; blocker = pair.second })) (sym is) (watch_new clauses line pair.second members.second)))
        (subst (λ (n : ℕ). IsWatchOf (clauses ++ line ∷ []) (record { clause = n; blocker = pair.first })) (sym is) (watch_new clauses line pair.first members.first));
    first = by_number (λ s p n. Waits (list_at (watched lists number pair) p.first) 0 n) clauses line pairs pair listed.count
        (λ n h. waits_still (pair_at pairs n).first 0 n (listed.first n h))
        (subst (λ (n : ℕ). Waits (list_at (watched lists number pair) pair.first) 0 n) is (waits_pushed half pair.second two pair.first 0 number second_still (waits_here lists pair.first one first)));
    second = by_number (λ s p n. Waits (list_at (watched lists number pair) p.second) 0 n) clauses line pairs pair listed.count
        (λ n h. waits_still (pair_at pairs n).second 0 n (listed.second n h))
        (subst (λ (n : ℕ). Waits (list_at (watched lists number pair) pair.second) 0 n) is (waits_here half pair.second two second_still));
  }

  rests_more : (seen assigned : List ℕ) → length pairs ≡ length clauses → EachRests seen assigned clauses pairs → Rests seen assigned line pair → EachRests seen assigned (clauses ++ line ∷ []) (pairs ++ pair ∷ [])
  rests_more seen assigned count each here = by_number (λ s p n. Rests seen assigned s p) clauses line pairs pair count each here

  at_cause : (before : List ℕ) (cause : Cause) → length pairs ≡ length clauses → RestsAt clauses pairs before cause → (IsDecision cause → IsAwake before pair) → RestsAt (clauses ++ line ∷ []) (pairs ++ pair ∷ []) before cause
  at_cause before Decision count each awake = rests_more before before count each (inr (awake tt))
  at_cause before (Clause n) count each awake = tt

  -- each clause and the new one are watched, where it is awake at each decision
  pub watched_more : (variables : ℕ) (steps : List Step) → AreWatched variables clauses steps pairs lists → ((at : ℕ) → at < length steps → IsDecision (step_at steps at).cause → IsAwake (literals_of_steps (take at steps)) pair) → AreWatched variables (clauses ++ line ∷ []) steps (pairs ++ pair ∷ []) (watched lists number pair)
  watched_more variables steps are awake = record {
    sized = length_pushed half pair.second two ∙ length_pushed lists pair.first one ∙ are.sized;
    listed = listed_more are.listed;
    decided = λ at h. at_cause (literals_of_steps (take at steps)) (step_at steps at).cause are.listed.count (are.decided at h) (awake at h);
  }

  pub front_more : (steps : List Step) (front : ℕ) → length pairs ≡ length clauses → IsFront clauses steps pairs front → Rests (literals_of_steps (take front steps)) (literals_of_steps steps) line pair → IsFront (clauses ++ line ∷ []) steps (pairs ++ pair ∷ []) front
  front_more steps front count is_front here = record {
    within = is_front.within;
    rests = rests_more (literals_of_steps (take front steps)) (literals_of_steps steps) count is_front.rests here;
  }
