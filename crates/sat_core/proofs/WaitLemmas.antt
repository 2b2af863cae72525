-- Lists of watches: what waits in them, when they change.
use Rattle.std.proofs.Common.{◌≡◌, ◌≢◌, ℕ, ◌+◌, ◌-◌, ◌<◌, ◌≤◌, List, [], ◌∷◌, ◌++◌, length, set, inl, inr, refl, sym, ap, ◌∙◌, subst, arith, length-set}
use Rattle.std.proofs.lemmas.Bool.{cases_lt, cases_eq}
use Rattle.std.proofs.lemmas.List.{get_or-set_same, get_or-set_other, get_or_append_left, get_or_push, get_or-take, length_push, length-take-le}
use Rattle.watch_lists.specs.declared.lists.Watch.{Watch}
use Rattle.watch_lists.specs.Lists.{list_at, watch_at, swap_removed}
use Rattle.sat_core.specs.Watches.{Waits, pushed, moved}

abbrev nothing : Watch
nothing = record { clause = 0; blocker = 0 }

pub waits_push : (list : List Watch) (watch : Watch) (low number : ℕ) → Waits list low number → Waits (list ++ watch ∷ []) low number
waits_push list watch low number (at, l, h, e) =
    (at, l, omega (arith, length_push list watch), ap (λ (w : Watch). w.clause) (get_or_append_left list (watch ∷ []) nothing at h) ∙ e)

pub waits_last : (list : List Watch) (watch : Watch) → Waits (list ++ watch ∷ []) 0 watch.clause
waits_last list watch =
    (length list, omega arith, omega (arith, length_push list watch), ap (λ (w : Watch). w.clause) (get_or_push list watch nothing (length list) refl))

pub waits_set : (list : List Watch) (at : ℕ) (watch : Watch) (low number : ℕ) → at < length list → watch.clause ≡ (watch_at list at).clause → Waits list low number → Waits (set list at watch) low number
waits_set list at watch low number h same (k, l, j, e) = elim (cases_eq k at) [
  | inl f ↦ (
    k,
    l,
    omega (arith, length-set list at watch),
    subst (λ (n : ℕ). (watch_at (set list at watch) n).clause ≡ number) (sym f)
        (ap (λ (w : Watch). w.clause) (get_or-set_same list at watch nothing h) ∙ same ∙ ap (λ (n : ℕ). (watch_at list n).clause) (sym f) ∙ e),
  )
  | inr n ↦ (k, l, omega (arith, length-set list at watch), ap (λ (w : Watch). w.clause) (get_or-set_other list at k watch nothing n) ∙ e)
]

-- what the list without one watch has at each place
pub removed_length : (list : List Watch) (at : ℕ) → at < length list → length (swap_removed list at) ≡ length list - 1
removed_length list at h =
    length-take-le (length list - 1) (set list at (watch_at list (length list - 1))) (omega (arith, length-set list at (watch_at list (length list - 1))))

pub removed_other : (list : List Watch) (at k : ℕ) → k < length list - 1 → k ≢ at → watch_at (swap_removed list at) k ≡ watch_at list k
removed_other list at k h n =
    get_or-take (length list - 1) (set list at (watch_at list (length list - 1))) k nothing h ∙ get_or-set_other list at k (watch_at list (length list - 1)) nothing n

pub removed_here : (list : List Watch) (at : ℕ) → at < length list - 1 → watch_at (swap_removed list at) at ≡ watch_at list (length list - 1)
removed_here list at h =
    get_or-take (length list - 1) (set list at (watch_at list (length list - 1))) at nothing h ∙ get_or-set_same list at (watch_at list (length list - 1)) nothing (omega arith)

pub waits_removed : (list : List Watch) (at low number : ℕ) → at < length list → low ≤ at → (watch_at list at).clause ≢ number → Waits list low number → Waits (swap_removed list at) low number
waits_removed list at low number h below n (k, l, j, e) =
    let apart : k ≢ at = λ f. n (ap (λ (i : ℕ). (watch_at list i).clause) (sym f) ∙ e) in
    let long = removed_length list at h in
    elim (cases_lt k (length list - 1)) [
      | inl b ↦ (k, l, omega arith, ap (λ (w : Watch). w.clause) (removed_other list at k b apart) ∙ e)
      | inr b ↦
          let last : length list - 1 ≡ k = omega arith in
          let first : at < length list - 1 = omega arith in
          (at, below, omega arith, ap (λ (w : Watch). w.clause) (removed_here list at first) ∙ ap (λ (i : ℕ). (watch_at list i).clause) last ∙ e)
    ]

pub waits_next : (list : List Watch) (at number : ℕ) → (watch_at list at).clause ≢ number → Waits list at number → Waits list (at + 1) number
waits_next list at number n (k, l, j, e) = elim (cases_eq k at) [
  | inl f ↦ absurd (n (ap (λ (i : ℕ). (watch_at list i).clause) (sym f) ∙ e))
  | inr m ↦ (k, omega arith, j, e)
]

pub waits_from : (list : List Watch) (low high number : ℕ) → high ≤ low → Waits list low number → Waits list high number
waits_from list low high number h (k, l, j, e) = (k, omega arith, j, e)

pub waits_none : (list : List Watch) (at number : ℕ) → length list ≤ at → ¬ Waits list at number
waits_none list at number h (k, l, j, e) = omega arith

-- the lists beside the one that changes
pub list_same : (lists : List (List Watch)) (literal : ℕ) (list : List Watch) → literal < length lists → list_at (set lists literal list) literal ≡ list
list_same lists literal list h = get_or-set_same lists literal list [] h

pub list_other : (lists : List (List Watch)) (literal other : ℕ) (list : List Watch) → other ≢ literal → list_at (set lists literal list) other ≡ list_at lists other
list_other lists literal other list n = get_or-set_other lists literal other list [] n

-- what waits still waits where one watch more waits
pub waits_pushed : (lists : List (List Watch)) (literal : ℕ) (watch : Watch) (other low number : ℕ) → literal < length lists → Waits (list_at lists other) low number → Waits (list_at (pushed lists literal watch) other) low number
waits_pushed lists literal watch other low number h waits = elim (cases_eq other literal) [
  | inl e ↦ subst (λ (s : List Watch). Waits s low number) (sym (ap (λ (n : ℕ). list_at (pushed lists literal watch) n) e ∙ list_same lists literal (list_at lists literal ++ watch ∷ []) h))
      (waits_push (list_at lists literal) watch low number (subst (λ (n : ℕ). Waits (list_at lists n) low number) e waits))
  | inr n ↦ subst (λ (s : List Watch). Waits s low number) (sym (list_other lists literal other (list_at lists literal ++ watch ∷ []) n)) waits
]

pub waits_here : (lists : List (List Watch)) (literal : ℕ) (watch : Watch) → literal < length lists → Waits (list_at (pushed lists literal watch) literal) 0 watch.clause
waits_here lists literal watch h =
    subst (λ (s : List Watch). Waits s 0 watch.clause) (sym (list_same lists literal (list_at lists literal ++ watch ∷ []) h)) (waits_last (list_at lists literal) watch)

pub length_pushed : (lists : List (List Watch)) (literal : ℕ) (watch : Watch) → length (pushed lists literal watch) ≡ length lists
length_pushed lists literal watch = length-set lists literal (list_at lists literal ++ watch ∷ [])

-- a fact of each watch of each list
abbrev pub EachWatch : (Watch → Type 0) → List (List Watch) → Type 0
EachWatch P lists = (literal at : ℕ) → at < length (list_at lists literal) → P (watch_at (list_at lists literal) at)

pub each_with : (P : Watch → Type 0) (lists : List (List Watch)) (literal : ℕ) (list : List Watch) → literal < length lists → EachWatch P lists → ((at : ℕ) → at < length list → P (watch_at list at)) → EachWatch P (set lists literal list)
each_with P lists literal list h each here other = elim (cases_eq other literal) [
  | inl e ↦ subst (λ (s : List Watch). (at : ℕ) → at < length s → P (watch_at s at)) (sym (ap (λ (n : ℕ). list_at (set lists literal list) n) e ∙ list_same lists literal list h)) here
  | inr n ↦ subst (λ (s : List Watch). (at : ℕ) → at < length s → P (watch_at s at)) (sym (list_other lists literal other list n)) (each other)
]

each_push : (P : Watch → Type 0) (list : List Watch) (watch : Watch) → ((at : ℕ) → at < length list → P (watch_at list at)) → P watch → (at : ℕ) → at < length (list ++ watch ∷ []) → P (watch_at (list ++ watch ∷ []) at)
each_push P list watch each here at h = elim (cases_lt at (length list)) [
  | inl k ↦ subst P (sym (get_or_append_left list (watch ∷ []) nothing at k)) (each at k)
  | inr k ↦ let e : length list ≡ at = omega (arith, length_push list watch) in subst P (sym (get_or_push list watch nothing at e)) here
]

pub each_set : (P : Watch → Type 0) (list : List Watch) (place : ℕ) (watch : Watch) → place < length list → ((at : ℕ) → at < length list → P (watch_at list at)) → P watch → (at : ℕ) → at < length (set list place watch) → P (watch_at (set list place watch) at)
each_set P list place watch within each here at h = elim (cases_eq at place) [
  | inl e ↦ subst (λ (n : ℕ). P (watch_at (set list place watch) n)) (sym e) (subst P (sym (get_or-set_same list place watch nothing within)) here)
  | inr n ↦ subst P (sym (get_or-set_other list place at watch nothing n)) (each at (omega (arith, length-set list place watch)))
]

each_removed : (P : Watch → Type 0) (list : List Watch) (place : ℕ) → place < length list → ((at : ℕ) → at < length list → P (watch_at list at)) → (at : ℕ) → at < length (swap_removed list place) → P (watch_at (swap_removed list place) at)
each_removed P list place within each at h =
    let long = removed_length list place within in
    elim (cases_eq at place) [
      | inl e ↦ subst (λ (n : ℕ). P (watch_at (swap_removed list place) n)) (sym e) (subst P (sym (removed_here list place (omega arith))) (each (length list - 1) (omega arith)))
      | inr n ↦ subst P (sym (removed_other list place at (omega arith) n)) (each at (omega arith))
    ]

pub each_pushed : (P : Watch → Type 0) (lists : List (List Watch)) (literal : ℕ) (watch : Watch) → literal < length lists → EachWatch P lists → P watch → EachWatch P (pushed lists literal watch)
each_pushed P lists literal watch h each here = each_with P lists literal (list_at lists literal ++ watch ∷ []) h each (each_push P (list_at lists literal) watch (each literal) here)

module _ (lists : List (List Watch)) (literal at other : ℕ) (watch : Watch) (inside : literal < length lists) (there : other < length lists) (apart : other ≢ literal) (within : at < length (list_at lists literal)) where
  more_list : list_at (pushed lists other watch) literal ≡ list_at lists literal
  more_list = list_other lists other literal (list_at lists other ++ watch ∷ []) (λ e. apart (sym e))

  still : literal < length (pushed lists other watch)
  still = omega (arith, length_pushed lists other watch)

  pub length_moved : length (moved lists literal at other watch) ≡ length lists
  length_moved = length-set (pushed lists other watch) literal (swap_removed (list_at (pushed lists other watch) literal) at) ∙ length_pushed lists other watch

  pub moved_list : list_at (moved lists literal at other watch) literal ≡ swap_removed (list_at lists literal) at
  moved_list = list_same (pushed lists other watch) literal (swap_removed (list_at (pushed lists other watch) literal) at) still ∙ ap (λ (s : List Watch). swap_removed s at) more_list

  pub moved_beside : (beside : ℕ) → beside ≢ literal → list_at (moved lists literal at other watch) beside ≡ list_at (pushed lists other watch) beside
  moved_beside beside n = list_other (pushed lists other watch) literal beside (swap_removed (list_at (pushed lists other watch) literal) at) n

  -- in the lists beside the one that it leaves, all wait where they did
  pub waits_kept : (beside low number : ℕ) → beside ≢ literal → Waits (list_at lists beside) low number → Waits (list_at (moved lists literal at other watch) beside) low number
  waits_kept beside low number m waits =
      subst (λ (s : List Watch). Waits s low number) (sym (moved_beside beside m)) (waits_pushed lists other watch beside low number there waits)

  -- the clauses beside the one that moves wait where they did
  pub waits_moved : (beside low number : ℕ) → low ≤ at → (watch_at (list_at lists literal) at).clause ≢ number → Waits (list_at lists beside) low number → Waits (list_at (moved lists literal at other watch) beside) low number
  waits_moved beside low number below n waits = elim (cases_eq beside literal) [
    | inl e ↦ subst (λ (s : List Watch). Waits s low number) (sym (ap (λ (i : ℕ). list_at (moved lists literal at other watch) i) e ∙ moved_list))
        (waits_removed (list_at lists literal) at low number within below n (subst (λ (i : ℕ). Waits (list_at lists i) low number) e waits))
    | inr m ↦ waits_kept beside low number m waits
  ]

  pub waits_arrived : Waits (list_at (moved lists literal at other watch) other) 0 watch.clause
  waits_arrived = subst (λ (s : List Watch). Waits s 0 watch.clause) (sym (moved_beside other apart)) (waits_here lists other watch there)

  pub each_moved : (P : Watch → Type 0) → EachWatch P lists → P watch → EachWatch P (moved lists literal at other watch)
  each_moved P each here =
      each_with P (pushed lists other watch) literal (swap_removed (list_at (pushed lists other watch) literal) at) still (each_pushed P lists other watch there each here)
      (subst (λ (s : List Watch). (k : ℕ) → k < length (swap_removed s at) → P (watch_at (swap_removed s at) k)) (sym more_list) (each_removed P (list_at lists literal) at within (each literal)))
