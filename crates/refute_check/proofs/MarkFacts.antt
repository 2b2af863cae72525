-- Which literals are true under a stamp, and what a mark more makes true.
use Rattle.std.proofs.Common.{◌≡◌, ◌≢◌, ◌⊎◌, ℕ, zero, suc, ◌+◌, ◌*◌, ◌<◌, ◌≤◌, List, [], ◌∷◌, ◌++◌, length, get_or, set, take, refl, ap, sym, subst, ◌∙◌, inl, inr, arith}
use Rattle.std.specs.Prelude.{Contains}
use Rattle.std.proofs.lemmas.Bool.{cases_eq}
use Rattle.std.proofs.lemmas.Bool.Decides.{nat_tests}
use Rattle.std.proofs.lemmas.List.{length-set, get_or-set_same, get_or-set_other, take_more, map_push}
use Rattle.std.proofs.lemmas.List.Elements.{Contains-append_left, Contains-push, Contains-push_cases}
use Rattle.region_pool.specs.Clauses.{AreLiterals}
use Rattle.region_pool.specs.Literals.{negation}
use Rattle.region_pool.specs.Refutation.{negations}
use Rattle.region_pool.proofs.Holding.{negation-within}
use Rattle.refute_check.specs.Marks.{marked_from, true_literals, HaveMarks, AreOld, IsSameSet}

-- a member of a list is its first element or one of the rest
pub cons_cases : (x : ℕ) (xs : List ℕ) (y : ℕ) → Contains (x ∷ xs) y → (x ≡ y) ⊎ Contains xs y
cons_cases x xs y (zero, there, same) = inl same
cons_cases x xs y (suc k, there, same) = inr (k, omega arith, same)

pub first_in : (x : ℕ) (xs : List ℕ) → Contains (x ∷ xs) x
first_in x xs = (0, omega arith, refl)

pub rest_in : (x : ℕ) (xs : List ℕ) (y : ℕ) → Contains xs y → Contains (x ∷ xs) y
rest_in x xs y (k, there, same) = (suc k, omega arith, same)

nothing_in : (x : ℕ) → Contains [] x → ⊥
nothing_in x (k, there, same) = omega arith

marked_here : (stamp first mark : ℕ) (marks : List ℕ) → mark ≡ stamp → marked_from stamp first (mark ∷ marks) ≡ first ∷ marked_from stamp (suc first) marks
marked_here stamp first mark marks same = grind (arith, nat_tests)

marked_elsewhere : (stamp first mark : ℕ) (marks : List ℕ) → mark ≢ stamp → marked_from stamp first (mark ∷ marks) ≡ marked_from stamp (suc first) marks
marked_elsewhere stamp first mark marks differs = grind (arith, nat_tests)

-- a place whose mark is the stamp
record IsMarkedAt (stamp first : ℕ) (marks : List ℕ) (place : ℕ) : Type 0 where
  at : ℕ
  place_is : place ≡ first + at
  there : at < length marks
  mark : get_or marks at 0 ≡ stamp

later_mark : (stamp first mark : ℕ) (marks : List ℕ) (place : ℕ) → IsMarkedAt stamp (suc first) marks place → IsMarkedAt stamp first (mark ∷ marks) place
later_mark stamp first mark marks place m = record { at = suc m.at; place_is = omega (arith, m.place_is); there = omega (arith, m.there); mark = m.mark }

marked_in : (stamp first : ℕ) (marks : List ℕ) (place : ℕ) → Contains (marked_from stamp first marks) place → IsMarkedAt stamp first marks place
marked_in stamp first [] place member = absurd (nothing_in place member)
marked_in stamp first (mark ∷ marks) place member = elim (cases_eq mark stamp) [
  | inl same ↦ elim (cons_cases first _ place (subst (λ xs. Contains xs place) (marked_here stamp first mark marks same) member)) [
    | inl here ↦ record { at = 0; place_is = omega arith; there = omega arith; mark = same }
    | inr later ↦ later_mark stamp first mark marks place (marked_in stamp (suc first) marks place later)
  ]
  | inr differs ↦ later_mark stamp first mark marks place (marked_in stamp (suc first) marks place (subst (λ xs. Contains xs place) (marked_elsewhere stamp first mark marks differs) member))
]

in_marked : (stamp first : ℕ) (marks : List ℕ) (at : ℕ) → at < length marks → get_or marks at 0 ≡ stamp → Contains (marked_from stamp first marks) (first + at)
in_marked stamp first [] at there mark = absurd (omega arith)
in_marked stamp first (here ∷ marks) zero there mark =
    subst (λ xs. Contains xs (first + 0)) (sym (marked_here stamp first here marks mark)) (subst (Contains (first ∷ marked_from stamp (suc first) marks)) {x = first} (omega arith) (first_in first _))
in_marked stamp first (here ∷ marks) (suc at) there mark =
    let later : Contains (marked_from stamp (suc first) marks) (first + suc at) = subst (Contains (marked_from stamp (suc first) marks)) {x = suc first + at} (omega arith) (in_marked stamp (suc first) marks at (omega arith) mark) in
    elim (cases_eq here stamp) [
      | inl same ↦ subst (λ xs. Contains xs (first + suc at)) (sym (marked_here stamp first here marks same)) (rest_in first _ (first + suc at) later)
      | inr differs ↦ subst (λ xs. Contains xs (first + suc at)) (sym (marked_elsewhere stamp first here marks differs)) later
    ]

-- a literal that is true has the stamp as its mark
pub true_in : (stamp : ℕ) (marks : List ℕ) (literal : ℕ) → Contains (true_literals stamp marks) literal → (literal < length marks) × (get_or marks literal 0 ≡ stamp)
unfolding true_literals
true_in stamp marks literal member =
    let m = marked_in stamp 0 marks literal member in
    let same : literal ≡ m.at = omega (arith, m.place_is) in
    (omega (arith, m.there), ap (λ k. get_or marks k 0) same ∙ m.mark)

pub in_true : (stamp : ℕ) (marks : List ℕ) (literal : ℕ) → literal < length marks → get_or marks literal 0 ≡ stamp → Contains (true_literals stamp marks) literal
unfolding true_literals
in_true stamp marks literal there mark =
    subst (Contains (marked_from stamp 0 marks)) {x = 0 + literal} (omega arith) (in_marked stamp 0 marks literal there mark)

-- under a stamp that no mark has, nothing is true
pub none_true : (stamp : ℕ) (marks : List ℕ) (literal : ℕ) → AreOld stamp marks → Contains (true_literals stamp marks) literal → ⊥
none_true stamp marks literal old member =
    let m = true_in stamp marks literal member in
    omega (arith, old literal 0 m.0, m.1)

-- a mark more makes its literal true, and nothing else
pub true_literals-set : (stamp : ℕ) (marks : List ℕ) (literal : ℕ) → literal < length marks → IsSameSet (literal ∷ true_literals stamp marks) (true_literals stamp (set marks literal stamp))
true_literals-set stamp marks literal there x =
    let size : length (set marks literal stamp) ≡ length marks = length-set marks literal stamp in (
      λ member. elim (cases_eq x literal) [
        | inl same ↦ in_true stamp _ x (omega arith) (ap (λ k. get_or (set marks literal stamp) k 0) same ∙ get_or-set_same marks literal stamp 0 there)
        | inr differs ↦ elim (cons_cases literal (true_literals stamp marks) x member) [
          | inl here ↦ absurd (differs (sym here))
          | inr later ↦
              let m = true_in stamp marks x later in
              in_true stamp _ x (omega (arith, m.0)) (get_or-set_other marks literal x stamp 0 differs ∙ m.1)
        ]
      ],
      λ member. elim (cases_eq x literal) [
        | inl same ↦ subst (Contains (literal ∷ true_literals stamp marks)) (sym same) (first_in literal _)
        | inr differs ↦
            let m = true_in stamp _ x member in
            rest_in literal _ x (in_true stamp marks x (omega (arith, m.0)) (sym (get_or-set_other marks literal x stamp 0 differs) ∙ m.1))
      ],
    )

pub same_set_after : (xs ys zs : List ℕ) → IsSameSet xs ys → IsSameSet ys zs → IsSameSet xs zs
same_set_after xs ys zs f g x = (λ m. (g x).0 ((f x).0 m), λ m. (f x).1 ((g x).1 m))

-- the same element more
pub same_set_push : (xs ys : List ℕ) (y : ℕ) → IsSameSet xs ys → IsSameSet (xs ++ y ∷ []) (y ∷ ys)
same_set_push xs ys y f x = (
  λ member. elim (Contains-push_cases xs y x member) [
    | inl before ↦ rest_in y ys x ((f x).0 before)
    | inr here ↦ subst (Contains (y ∷ ys)) here (first_in y ys)
  ],
  λ member. elim (cons_cases y ys x member) [
    | inl here ↦ subst (Contains (xs ++ y ∷ [])) here (Contains-push xs y)
    | inr later ↦ Contains-append_left xs (y ∷ []) x ((f x).1 later)
  ],
)

pub same_set_cons : (xs ys : List ℕ) (y : ℕ) → IsSameSet xs ys → IsSameSet (y ∷ xs) (y ∷ ys)
same_set_cons xs ys y f x = (
  λ member. elim (cons_cases y xs x member) [
    | inl here ↦ subst (Contains (y ∷ ys)) here (first_in y ys)
    | inr later ↦ rest_in y ys x ((f x).0 later)
  ],
  λ member. elim (cons_cases y ys x member) [
    | inl here ↦ subst (Contains (y ∷ xs)) here (first_in y xs)
    | inr later ↦ rest_in y xs x ((f x).1 later)
  ],
)

-- before anything is assumed, nothing is true
pub assumed_none : (stamp : ℕ) (marks : List ℕ) → AreOld stamp marks → IsSameSet [] (true_literals stamp marks)
assumed_none stamp marks old x = (λ member. absurd (nothing_in x member), λ member. absurd (none_true stamp marks x old member))

-- one literal more is false
pub assumed_more : (stamp : ℕ) (marks literals : List ℕ) (at : ℕ) → at < length literals → negation (get_or literals at 0) < length marks → IsSameSet (negations (take at literals)) (true_literals stamp marks) → IsSameSet (negations (take (at + 1) literals)) (true_literals stamp (set marks (negation (get_or literals at 0)) stamp))
assumed_more stamp marks literals at there marked f =
    let literal = get_or literals at 0 in
    let e : negations (take (at + 1) literals) ≡ negations (take at literals) ++ negation literal ∷ [] = ap negations (take_more literals at 0 there) ∙ map_push negation (take at literals) literal in
    let before = negations (take at literals) in
    let now = true_literals stamp marks in
    let after = true_literals stamp (set marks (negation literal) stamp) in
    rw e (same_set_after (before ++ negation literal ∷ []) (negation literal ∷ now) after (same_set_push before now (negation literal) f) (true_literals-set stamp marks (negation literal) marked))

-- literals of the variables have marks
pub have_marks : (variables : ℕ) (marks literals : List ℕ) → 2 * variables ≤ length marks → AreLiterals variables literals → HaveMarks marks literals
have_marks variables marks literals room within k d there =
    (omega (arith, within k d there), omega (arith, negation-within variables (get_or literals k d) (within k d there)))

-- so they do where the marks are as many
pub have_marks_kept : (marks others literals : List ℕ) → length others ≡ length marks → HaveMarks marks literals → HaveMarks others literals
have_marks_kept marks others literals same have k d there =
    (omega (arith, (have k d there).0), omega (arith, (have k d there).1))
