-- Steps of a search.
use Rattle.std.proofs.Common.{◌≡◌, ◌≢◌, ℕ, zero, ◌+◌, ◌-◌, ◌<◌, ◌≤◌, List, [], ◌∷◌, ◌++◌, length, take, All, Contains, inl, inr, refl, sym, ap, ◌∙◌, subst, arith, append_assoc, None}
use Rattle.std.proofs.lemmas.Bool.{cases_lt}
use Rattle.std.proofs.lemmas.List.{take-append-le, take_at, get_or_append_left, get_or_push, length_push, length-append, length-map, length-take-le, map-append, get_or-take, take-take, get_or_default}
use Rattle.std.proofs.lemmas.List.Elements.{All-push}
use Rattle.region_pool.specs.Blocks.{block_at}
use Rattle.region_pool.specs.Clauses.{ClauseList, IsLiteral, AreLiterals}
use Rattle.region_pool.specs.Literals.{negation}
use Rattle.region_pool.specs.Log.{Line, line_at}
use Rattle.region_pool.specs.Refutation.{IsUnit, IsOpen, LineFollows, literals_of, known_before, IsGained, Refutes}
use Rattle.sat_core.specs.declared.roles.Role.{Role}
use Rattle.sat_core.specs.declared.roles.Role.TheVariants.{Resolved}
use Rattle.sat_core.specs.declared.trail.Cause.{Cause}
use Rattle.sat_core.specs.declared.trail.Cause.TheVariants.{Decision, Clause}
use Rattle.sat_core.specs.declared.trail.Step.{Step}
use Rattle.sat_core.specs.Known.{known_clauses}
use Rattle.sat_core.specs.Learned.{gather, literals_of_role, line_of, IsAsserting}
use Rattle.sat_core.specs.Progress.{progress}
use Rattle.sat_core.specs.Quiet.{IsQuiet, IsClosed}
use Rattle.sat_core.specs.Roles.{role_at, Derives, NoneKept, IsDecision}
use Rattle.sat_core.specs.Choice.{IsSatisfied, ChoiceIs}
use Rattle.sat_core.specs.Search.{IsSearch, AreSatisfied}
use Rattle.sat_core.specs.Steps.{literals_of_steps, step_at, EachStep, Fits, IsCaused, CauseHolds}
use Rattle.sat_core.specs.Trail.{Steps}
use Rattle.sat_core.specs.Turn.{Advances}
use Rattle.sat_core.proofs.FollowLemmas.{role_cases, unused, kept, resolved, kept_from, line_follows}
use Rattle.sat_core.proofs.LearnLemmas.{IsNew-unit, line_unit, line_quiet}
use Rattle.sat_core.proofs.Negations.{negation-fits}
use Rattle.sat_core.proofs.ProgressLemmas.{progress-push, progress-cut, steps_few}
use Rattle.sat_core.proofs.StepLemmas.{holds_before, EachStep-push, EachStep-take}

-- one more step, which was forced or decided
pub search_push : (input : ClauseList) (log : List Line) (trail : Steps) (step : Step) → IsSearch input log trail → IsLiteral input.variables step.literal → IsOpen (literals_of_steps trail.steps) step.literal → CauseHolds (known_clauses input log) (literals_of_steps trail.steps) step.literal step.cause → Advances input (progress input.variables trail.steps) log (record trail { steps = trail.steps ++ step ∷ [] })
search_push input log trail step search fits free holds =
    let fit : EachStep (Fits input.variables) (trail.steps ++ step ∷ []) = EachStep-push (Fits input.variables) trail.steps step search.fit (fits, free) in
    let few : length (trail.steps ++ step ∷ []) ≤ input.variables = steps_few input.variables (trail.steps ++ step ∷ []) fit in
    let further : progress input.variables trail.steps < progress input.variables (trail.steps ++ step ∷ []) = progress-push input.variables trail.steps step (omega (arith, length_push trail.steps step)) in
    record {
      search = record {
        variables = search.variables;
        literals = search.literals;
        lines = search.lines;
        gained = search.gained;
        fit = fit;
        caused = EachStep-push (IsCaused (known_clauses input log)) trail.steps step search.caused holds;
        counted = omega (arith, search.counted);
      };
      further = further;
    }

-- a conflict is not among the clauses that were quiet at a decision
pub kept_after : (clauses : List (List ℕ)) (steps : List Step) (roles : List Role) (conflict decision : ℕ) → EachStep (IsCaused clauses) steps → conflict < length clauses → Derives clauses (block_at clauses conflict) steps roles → ((at : ℕ) → role_at roles at ≢ Resolved) → decision < length steps → IsDecision (step_at steps decision).cause → ¬ NoneKept roles decision (length steps)
kept_after clauses steps roles conflict decision caused within derives fresh h decided none =
    let closed : IsClosed clauses (literals_of_steps (take decision steps)) = closed_at (step_at steps decision).cause decided (caused decision h) in
    (closed conflict [] within).0 (λ k d l.
    let (at, hat, e, used) = derives.falsified k d l in
    elim (cases_lt at decision) [
      | inl b ↦ subst (λ (n : ℕ). Contains (literals_of_steps (take decision steps)) n) e (holds_before steps at decision b (omega arith))
      | inr b ↦ elim (role_cases (role_at roles at)) [
        | unused f ↦ absurd (used f)
        | kept f ↦ absurd (none at b hat f)
        | resolved f ↦ absurd (fresh at f)
      ]
    ])
  where
    closed_at : (cause : Cause) → IsDecision cause → CauseHolds clauses (literals_of_steps (take decision steps)) (step_at steps decision).literal cause → IsClosed clauses (literals_of_steps (take decision steps))
    closed_at Decision decided holds = holds
    closed_at (Clause number) decided holds = absurd decided

pub known-push : (input : ClauseList) (log : List Line) (line : Line) → known_clauses input (log ++ line ∷ []) ≡ known_clauses input log ++ line.literals ∷ []
known-push input log line =
    ap (λ (s : List (List ℕ)). input.clauses ++ s) (map-append (λ (l : Line). l.literals) log (line ∷ [])) ∙ sym (append_assoc input.clauses (literals_of log) (line.literals ∷ []))

before_same : (input : ClauseList) (log : List Line) (line : Line) (number : ℕ) → number ≤ length log → known_before input (log ++ line ∷ []) number ≡ known_before input log number
before_same input log line number h = ap (λ (s : List Line). input.clauses ++ literals_of s) (take-append-le number log (line ∷ []) h)

before_last : (input : ClauseList) (log : List Line) (line : Line) → known_before input (log ++ line ∷ []) (length log) ≡ known_clauses input log
before_last input log line = ap (λ (s : List Line). input.clauses ++ literals_of s) (take_at log (line ∷ []) (length log) refl)

-- what holds of each line of a log, and of one more
EachLine-push : (P : List (List ℕ) → Line → Type 0) (input : ClauseList) (log : List Line) (line : Line) → ((number : ℕ) → number < length log → P (known_before input log number) (line_at log number)) → P (known_clauses input log) line → (number : ℕ) → number < length (log ++ line ∷ []) → P (known_before input (log ++ line ∷ []) number) (line_at (log ++ line ∷ []) number)
EachLine-push P input log line each here number h =
    elim (cases_lt number (length log)) [
      | inl k ↦ subst (λ (s : List (List ℕ)). P s (line_at (log ++ line ∷ []) number)) (sym (before_same input log line number (omega arith)))
          (subst (λ (x : Line). P (known_before input log number) x) (sym (get_or_append_left log (line ∷ []) (record { literals = []; hints = [] }) number k)) (each number k))
      | inr k ↦
          let e : length log ≡ number = omega (arith, length_push log line) in
          subst (λ (n : ℕ). P (known_before input (log ++ line ∷ []) n) (line_at (log ++ line ∷ []) n)) e
          (subst (λ (s : List (List ℕ)). P s (line_at (log ++ line ∷ []) (length log))) (sym (before_last input log line))
          (subst (λ (x : Line). P (known_clauses input log) x) (sym (get_or_push log line (record { literals = []; hints = [] }) (length log) refl)) here))
    ]

-- the line is empty where no step is kept
empty_line : (steps : List Step) (roles : List Role) → NoneKept roles 0 (length steps) → gather literals_of_role steps roles ≡ []
empty_line steps roles none = no_element (gather literals_of_role steps roles) (λ x c. let (at, h, role, e) = kept_from steps roles x c in none at (omega arith) h role)
  where
    no_element : (xs : List ℕ) → ((x : ℕ) → ¬ Contains xs x) → xs ≡ []
    no_element [] none = refl
    no_element (x ∷ xs) none = absurd (none x (zero, omega arith, refl))

pub search_refutes : (input : ClauseList) (log : List Line) (trail : Steps) (roles : List Role) (conflict : ℕ) → IsSearch input log trail → conflict < length (known_clauses input log) → Derives (known_clauses input log) (block_at (known_clauses input log) conflict) trail.steps roles → NoneKept roles 0 (length trail.steps) → Refutes input (log ++ line_of trail.steps roles conflict ∷ [])
search_refutes input log trail roles conflict search within derives none =
    let line : Line = line_of trail.steps roles conflict in
    let known = known_clauses input log in
    let follows : LineFollows input.variables known line = line_follows input.variables known trail.steps roles conflict search.fit search.caused derives within in
    let long = length_push log line in
    record {
      follows = EachLine-push (λ s x. LineFollows input.variables s x) input log line (λ number h. (search.gained number h).follows) follows;
      ends = (
        omega arith,
        let e : length (log ++ line ∷ []) - 1 ≡ length log = omega arith in
            subst (λ (n : ℕ). (line_at (log ++ line ∷ []) n).literals ≡ []) (sym e) (ap (λ (x : Line). x.literals) (get_or_push log line (record { literals = []; hints = [] }) (length log) refl) ∙ empty_line trail.steps roles none),
      );
    }

-- steps that were caused before stay so, where one more clause is quiet at each decision
caused_more : (clauses : List (List ℕ)) (clause : List ℕ) (steps : List Step) → EachStep (IsCaused clauses) steps → ((at : ℕ) → at < length steps → IsDecision (step_at steps at).cause → IsQuiet (literals_of_steps (take at steps)) clause) → EachStep (IsCaused (clauses ++ clause ∷ [])) steps
caused_more clauses clause steps caused quiet at h = by_cause (step_at steps at).cause (caused at h) (quiet at h)
  where
    by_cause : (cause : Cause) → CauseHolds clauses (literals_of_steps (take at steps)) (step_at steps at).literal cause → (IsDecision cause → IsQuiet (literals_of_steps (take at steps)) clause) → CauseHolds (clauses ++ clause ∷ []) (literals_of_steps (take at steps)) (step_at steps at).literal cause
    by_cause Decision closed q = All-push (IsQuiet (literals_of_steps (take at steps))) clauses clause closed (q tt)
    by_cause (Clause number) (within, unit) q = (
      omega (arith, length_push clauses clause),
      subst (λ (s : List ℕ). IsUnit (literals_of_steps (take at steps)) s (step_at steps at).literal) (sym (get_or_append_left clauses (clause ∷ []) [] number within)) unit,
    )

module _ (input : ClauseList) (log : List Line) (trail : Steps) (roles : List Role) (conflict asserted cut : ℕ) (search : IsSearch input log trail) (within : conflict < length (known_clauses input log)) (derives : Derives (known_clauses input log) (block_at (known_clauses input log) conflict) trail.steps roles) (asserting : IsAsserting trail.steps roles asserted cut) where
  abbrev the_line : Line
  the_line = line_of trail.steps roles conflict

  abbrev the_step : Step
  the_step = record { literal = negation (step_at trail.steps asserted).literal; cause = Clause (length (known_clauses input log)) }

  cut_within : cut < length trail.steps
  cut_within = omega (arith, asserting.after, asserting.within)

  unit : IsUnit (literals_of_steps (take cut trail.steps)) the_line.literals the_step.literal
  unit = line_unit input.variables trail.steps roles search.fit derives.long asserted cut asserting

  pub asserted_fits : IsLiteral input.variables the_step.literal
  asserted_fits = negation-fits input.variables (step_at trail.steps asserted).literal (search.fit asserted asserting.within).0

  pub asserted_free : IsOpen (literals_of_steps (take cut trail.steps)) the_step.literal
  asserted_free = unit.free

  closed : IsClosed (known_clauses input log) (literals_of_steps (take cut trail.steps))
  closed = closed_at (step_at trail.steps cut).cause asserting.decided (search.caused cut cut_within)
    where
      closed_at : (cause : Cause) → IsDecision cause → CauseHolds (known_clauses input log) (literals_of_steps (take cut trail.steps)) (step_at trail.steps cut).literal cause → IsClosed (known_clauses input log) (literals_of_steps (take cut trail.steps))
      closed_at Decision decided holds = holds
      closed_at (Clause number) decided holds = absurd decided

  gained : IsGained input.variables (known_clauses input log) the_line
  gained = record {
    follows = line_follows input.variables (known_clauses input log) trail.steps roles conflict search.fit search.caused derives within;
    filled = λ e. let (k, h, f) = unit.member in let z : k < length (the_line.literals) = h in absurd (omega (arith, ap length e));
    novel = IsNew-unit (known_clauses input log) (literals_of_steps (take cut trail.steps)) the_line.literals the_step.literal closed unit;
  }

  prefix_quiet : (at : ℕ) → at < length (take cut trail.steps) → IsDecision (step_at (take cut trail.steps) at).cause → IsQuiet (literals_of_steps (take at (take cut trail.steps))) the_line.literals
  prefix_quiet at h decided =
      let k : at < cut = omega (arith, length-take-le cut trail.steps (omega (arith, cut_within))) in
      let same : step_at (take cut trail.steps) at ≡ step_at trail.steps at = get_or-take cut trail.steps at (record { literal = 0; cause = Decision }) k in
      let q = line_quiet input.variables trail.steps roles search.fit derives.long asserted cut asserting at k (subst (λ (s : Step). IsDecision s.cause) same decided) in
      subst (λ (s : List Step). IsQuiet (literals_of_steps s) the_line.literals) (sym (take-take at cut trail.steps (omega arith))) q

  caused_now : EachStep (IsCaused (known_clauses input log ++ the_line.literals ∷ [])) (take cut trail.steps ++ the_step ∷ [])
  caused_now =
      let known = known_clauses input log in
      EachStep-push (IsCaused (known ++ the_line.literals ∷ [])) (take cut trail.steps) the_step
      (caused_more known the_line.literals (take cut trail.steps) (EachStep-take (IsCaused known) cut trail.steps search.caused) prefix_quiet)
      (omega (arith, length_push known the_line.literals), subst (λ (s : List ℕ). IsUnit (literals_of_steps (take cut trail.steps)) s the_step.literal) (sym (get_or_push known the_line.literals [] (length known) refl)) unit)

  pub search_learn : Advances input (progress input.variables trail.steps) (log ++ the_line ∷ []) (record trail { steps = take cut trail.steps ++ the_step ∷ [] })
  search_learn =
      let few = steps_few input.variables trail.steps search.fit in
      let further : progress input.variables trail.steps < progress input.variables (take cut trail.steps ++ the_step ∷ []) = progress-cut input.variables trail.steps cut (length (known_clauses input log)) the_step.literal cut_within few asserting.decided in
      record {
        search = record {
          variables = search.variables;
          literals = search.literals;
          lines = subst (λ (s : List (List ℕ)). All (AreLiterals input.variables) s) (sym (map-append (λ (l : Line). l.literals) log (the_line ∷ []))) (All-push (AreLiterals input.variables) (literals_of log) the_line.literals search.lines gained.follows.literals);
          gained = EachLine-push (λ s x. IsGained input.variables s x) input log the_line search.gained gained;
          fit = EachStep-push (Fits input.variables) (take cut trail.steps) the_step (EachStep-take (Fits input.variables) cut trail.steps search.fit) (asserted_fits, asserted_free);
          caused = subst (λ (s : List (List ℕ)). EachStep (IsCaused s) (take cut trail.steps ++ the_step ∷ [])) (sym (known-push input log the_line)) caused_now;
          counted = omega (arith, search.counted, length_push log the_line);
        };
        further = further;
      }

  -- the same, of what the code writes
  pub log_written : (new_log : List Line) (literals hints : List ℕ) → literals ≡ the_line.literals → hints ≡ the_line.hints → new_log ≡ log ++ (record { literals = literals; hints = hints }) ∷ [] → new_log ≡ log ++ the_line ∷ []
  log_written new_log literals hints e1 e2 e3 = e3 ∙ ap (λ (x : List ℕ). log ++ (record { literals = x; hints = hints }) ∷ []) e1 ∙ ap (λ (x : List ℕ). log ++ (record { literals = the_line.literals; hints = x }) ∷ []) e2

  pub steps_written : (shorter longer : Steps) (literal number : ℕ) → shorter ≡ record trail { steps = take cut trail.steps } → literal ≡ the_step.literal → number ≡ length (known_clauses input log) → longer ≡ record shorter { steps = shorter.steps ++ (record { literal = literal; cause = Clause number }) ∷ [] } → longer ≡ record trail { steps = take cut trail.steps ++ the_step ∷ [] }
  steps_written shorter longer literal number e4 e5 e6 e7 = e7
      ∙ ap (λ (x : Steps). record x { steps = x.steps ++ (record { literal = literal; cause = Clause number }) ∷ [] }) e4
      ∙ ap (λ (x : ℕ). record trail { steps = take cut trail.steps ++ (record { literal = x; cause = Clause number }) ∷ [] }) e5
      ∙ ap (λ (x : ℕ). record trail { steps = take cut trail.steps ++ (record { literal = the_step.literal; cause = Clause x }) ∷ [] }) e6

  pub search_learned : (new_log : List Line) (longer : Steps) → new_log ≡ log ++ the_line ∷ [] → longer ≡ record trail { steps = take cut trail.steps ++ the_step ∷ [] } → Advances input (progress input.variables trail.steps) new_log longer
  search_learned new_log longer l t =
      subst (λ (x : List Line). Advances input (progress input.variables trail.steps) x longer) (sym l)
      (subst (λ (x : Steps). Advances input (progress input.variables trail.steps) (log ++ the_line ∷ []) x) (sym t) search_learn)

  pub learned_fits : (shorter : Steps) (literal : ℕ) → shorter ≡ record trail { steps = take cut trail.steps } → literal ≡ the_step.literal → IsLiteral shorter.variables literal
  learned_fits shorter literal e f =
      subst (λ (x : Steps). IsLiteral x.variables literal) (sym e)
      (subst (λ (v : ℕ). IsLiteral v literal) (sym search.variables) (subst (λ (x : ℕ). IsLiteral input.variables x) (sym f) asserted_fits))

  pub learned_free : (shorter : Steps) (literal : ℕ) → shorter ≡ record trail { steps = take cut trail.steps } → literal ≡ the_step.literal → IsOpen (literals_of_steps shorter.steps) literal
  learned_free shorter literal e f =
      subst (λ (x : Steps). IsOpen (literals_of_steps x.steps) literal) (sym e) (subst (λ (x : ℕ). IsOpen (literals_of_steps (take cut trail.steps)) x) (sym f) asserted_free)

pub search_refuted : (input : ClauseList) (log : List Line) (trail : Steps) (roles : List Role) (conflict : ℕ) → IsSearch input log trail → conflict < length (known_clauses input log) → Derives (known_clauses input log) (block_at (known_clauses input log) conflict) trail.steps roles → NoneKept roles 0 (length trail.steps) → (new_log : List Line) (literals hints : List ℕ) → literals ≡ (line_of trail.steps roles conflict).literals → hints ≡ (line_of trail.steps roles conflict).hints → new_log ≡ log ++ (record { literals = literals; hints = hints }) ∷ [] → Refutes input new_log
search_refuted input log trail roles conflict search within derives none new_log literals hints e1 e2 e3 =
    let line : Line = line_of trail.steps roles conflict in
    let l : new_log ≡ log ++ line ∷ [] = e3 ∙ ap (λ (x : List ℕ). log ++ (record { literals = x; hints = hints }) ∷ []) e1 ∙ ap (λ (x : List ℕ). log ++ (record { literals = line.literals; hints = x }) ∷ []) e2 in
    subst (λ (x : List Line). Refutes input x) (sym l) (search_refutes input log trail roles conflict search within derives none)

-- the input clauses are among the known ones
pub input_known : (input : ClauseList) (log : List Line) (number : ℕ) → number < length input.clauses → (block_at (known_clauses input log) number ≡ block_at input.clauses number) × (number < length (known_clauses input log))
input_known input log number h = (get_or_append_left input.clauses (literals_of log) [] number h, omega (arith, length-append input.clauses (literals_of log)))

pub known_count : (input : ClauseList) (log : List Line) → length (known_clauses input log) ≡ length input.clauses + length log
known_count input log = length-append input.clauses (literals_of log) ∙ ap (λ (n : ℕ). length input.clauses + n) (length-map log (λ (l : Line). l.literals))

pub satisfied_here : (input : ClauseList) (log : List Line) (trail : Steps) → IsSearch input log trail → ChoiceIs trail.variables (literals_of_steps trail.steps) input.clauses (length input.clauses) None → AreSatisfied input trail
satisfied_here input log trail search choice = record {
  variables = search.variables;
  fit = search.fit;
  clauses = λ k d h. subst (λ (s : List ℕ). IsSatisfied (literals_of_steps trail.steps) s) (get_or_default input.clauses k [] d h) (choice k h);
}
