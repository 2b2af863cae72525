-- The definitions on two small examples.
use Rattle.std.proofs.Common.{◌≡◌, ◌⊎◌, ℕ, zero, suc, ◌<◌, List, [], ◌∷◌, refl, inl, inr, arith}
use Rattle.std.proofs.lemmas.List.Elements.{All-nil, All-cons}
use Rattle.region_pool.specs.Clauses.{ClauseList, IsLiteral}
use Rattle.region_pool.specs.Literals.{negation}
use Rattle.region_pool.specs.Log.{Line}
use Rattle.region_pool.specs.Refutation.{IsFalse, EachFollows, FollowsAt, Refutes}

-- the clauses that say x and not x
abbrev both : ClauseList
both = record { variables = 1; clauses = (0 ∷ []) ∷ (1 ∷ []) ∷ [] }

-- one empty line with these hints
abbrev empty_line : List ℕ → List Line
empty_line hints = (record { literals = []; hints = hints }) ∷ []

-- by both clauses the empty line follows
both_follow : EachFollows both (empty_line (0 ∷ 1 ∷ [])) 1
unfolding negation
both_follow zero below = record {
  literals = All-nil (IsLiteral 1);
  consistent = λ k d there. omega arith;
  hints = All-cons (λ hint. hint < 2) 0 (1 ∷ []) (omega arith) (All-cons (λ hint. hint < 2) 1 [] (omega arith) (All-nil (λ hint. hint < 2)));
  conflict = inr (
    0,
    record { member = (0, omega arith, refl); free = (λ m. omega (arith, m.1), λ m. omega (arith, m.1)); others = All-cons (λ other. (other ≡ 0) ⊎ IsFalse [] other) 0 [] (inl refl) (All-nil (λ other. (other ≡ 0) ⊎ IsFalse [] other)) },
    inl (All-cons (IsFalse (0 ∷ [])) 1 [] (0, omega arith, refl) (All-nil (IsFalse (0 ∷ [])))),
  );
}
both_follow (suc number) below = absurd (omega arith)

-- so that log refutes them
pub both_refuted : Refutes both (empty_line (0 ∷ 1 ∷ []))
both_refuted = record { follows = both_follow; ends = (omega arith, refl) }

-- by the first clause alone it does not
pub first_alone : FollowsAt both (empty_line (0 ∷ [])) 0 → ⊥
first_alone follows = elim follows.conflict [
  | inl falsified ↦ let member = falsified 0 0 (omega arith) in omega (arith, member.1)
  | inr forced ↦ forced.2
]
