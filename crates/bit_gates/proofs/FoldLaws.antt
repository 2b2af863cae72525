-- Why folded gates have the values of the gates that were wanted.
use Rattle.std.proofs.Common.{◌≡◌, ℕ, ◌-◌, ◌*◌, ◌%◌, ◌<◌, Bool, true, false, not, ◌&&◌, ◌||◌, cond, eqb, sym, ap, ◌∙◌, refl, arith, subst, min, max, inl, inr}
use mathlib.Core.Bool.{beq}
use Rattle.std.proofs.lemmas.Bool.{cases_lt}
use Rattle.bit_gates.specs.declared.fold.Folded.{Folded}
use Rattle.bit_gates.specs.declared.fold.Folded.TheVariants.{Known, Fresh}
use Rattle.bit_gates.specs.declared.gate.Gate.TheVariants.{Xor, Choose}
use Rattle.region_pool.specs.Literals.{literal_value, negation}
use Rattle.bit_gates.specs.Values.{signed, differ}
use Rattle.bit_gates.specs.Folding.{IsFolding, IsTurned}
use Rattle.bit_gates.proofs.LiteralLaws.{literal_value_negation, negation_inside, literal_value_signed, signed_inside, literal_value_positive, not_not}

pub and_other : (x y : Bool) → y ≡ not x → false ≡ (x && y)
and_other true y e = sym e
and_other false y e = refl

-- a conjunction of a literal and its negation
pub folded_apart : (truth falsity a b n : ℕ) → falsity ≡ negation truth → n ≡ negation b → a ≡ n → IsFolding truth a b b (Known falsity) (λ v. v a && v b)
folded_apart truth falsity a b n f e h = record {
  inside = λ count t x y z. rw f (negation_inside truth count t);
  value_is = λ values is.
      let opposite : literal_value values b ≡ not (literal_value values a) = rw (h, e, literal_value_negation values b) (sym (not_not (literal_value values b))) in
      rw (f, literal_value_negation values truth, is) (and_other (literal_value values a) (literal_value values b) opposite);
}

pub or_by_and : (x y : Bool) → not (not x && not y) ≡ (x || y)
or_by_and true y = refl
or_by_and false y = not_not y

pub folded_or : (truth a b x y : ℕ) (r s : Folded) → x ≡ negation a → y ≡ negation b → IsFolding truth x y y r (λ v. v x && v y) → IsTurned r s → IsFolding truth a b b s (λ v. v a || v b)
folded_or truth a b x y r s ex ey h t = record {
  inside = λ count w ha hb hc. t.inside count (h.inside count w (rw ex (negation_inside a count ha)) (rw ey (negation_inside b count hb)) (rw ey (negation_inside b count hb)));
  value_is = λ values is.
      t.value_is values ∙ ap not (h.value_is values is)
      ∙ (rw (ex, ey, literal_value_negation values a, literal_value_negation values b) (or_by_and (literal_value values a) (literal_value values b)));
}

-- what one folding gives another
pub folded_as : (truth a b c x y z : ℕ) (r : Folded) (f g : (ℕ → Bool) → Bool) → IsFolding truth a b c r f
    → ((count : ℕ) → x < 2 * count → y < 2 * count → z < 2 * count → (a < 2 * count) × (b < 2 * count) × (c < 2 * count))
    → ((values : ℕ → Bool) → literal_value values truth ≡ true → f (literal_value values) ≡ g (literal_value values))
    → IsFolding truth x y z r g
folded_as truth a b c x y z r f g h within same = record {
  inside = λ count t hx hy hz. h.inside count t (within count hx hy hz).0 (within count hx hy hz).1 (within count hx hy hz).2;
  value_is = λ values is. h.value_is values is ∙ same values is;
}

-- the same literal, and so its value
at : (values : ℕ → Bool) (a b : ℕ) (x : Bool) → a ≡ b → literal_value values b ≡ x → literal_value values a ≡ x
at values a b x e h = ap (literal_value values) e ∙ h

or_true : (t a b : Bool) → a ≡ true → (t || b) ≡ cond t a b
or_true true a b e = sym e
or_true false a b e = refl

or_same : (t b : Bool) → (t || b) ≡ cond t t b
or_same true b = refl
or_same false b = refl

and_false : (t a b : Bool) → a ≡ false → (not t && b) ≡ cond t a b
and_false true a b e = sym e
and_false false a b e = refl

and_opposite : (t b : Bool) → (not t && b) ≡ cond t (not t) b
and_opposite true b = refl
and_opposite false b = refl

or_true_below : (t a b : Bool) → b ≡ true → (not t || a) ≡ cond t a b
or_true_below true a b e = refl
or_true_below false a b e = sym e

or_opposite : (t a : Bool) → (not t || a) ≡ cond t a (not t)
or_opposite true a = refl
or_opposite false a = refl

and_false_below : (t a b : Bool) → b ≡ false → (t && a) ≡ cond t a b
and_false_below true a b e = refl
and_false_below false a b e = sym e

and_same : (t a : Bool) → (t && a) ≡ cond t a t
and_same true a = refl
and_same false a = refl

differ_choice : (t b : Bool) → differ t b ≡ cond t (not b) b
differ_choice true b = refl
differ_choice false b = refl

pub choice_a_truth : (truth t a b : ℕ) (r : Folded) → a ≡ truth → IsFolding truth t b b r (λ v. v t || v b) → IsFolding truth t a b r (λ v. cond (v t) (v a) (v b))
choice_a_truth truth t a b r e h = folded_as _ _ _ _ _ _ _ _ (λ v. v t || v b) (λ v. cond (v t) (v a) (v b)) h (λ count x y z. (x, z, z))
    (λ values is. or_true (literal_value values t) (literal_value values a) (literal_value values b) (at values a truth true e is))

pub choice_a_test : (truth t a b : ℕ) (r : Folded) → a ≡ t → IsFolding truth t b b r (λ v. v t || v b) → IsFolding truth t a b r (λ v. cond (v t) (v a) (v b))
choice_a_test truth t a b r e h = folded_as _ _ _ _ _ _ _ _ (λ v. v t || v b) (λ v. cond (v t) (v a) (v b)) h (λ count x y z. (x, z, z))
    (λ values is. rw e (or_same (literal_value values t) (literal_value values b)))

pub choice_a_falsity : (truth falsity other t a b : ℕ) (r : Folded) → falsity ≡ negation truth → other ≡ negation t → a ≡ falsity → IsFolding truth other b b r (λ v. v other && v b) → IsFolding truth t a b r (λ v. cond (v t) (v a) (v b))
choice_a_falsity truth falsity other t a b r f o e h = folded_as _ _ _ _ _ _ _ _ (λ v. v other && v b) (λ v. cond (v t) (v a) (v b)) h (λ count x y z. (rw o (negation_inside t count x), z, z))
    (λ values is.
    let away : literal_value values a ≡ false = rw (e, f, literal_value_negation values truth, is) refl in
    rw (o, literal_value_negation values t) (and_false (literal_value values t) (literal_value values a) (literal_value values b) away))

pub choice_a_other : (truth other t a b : ℕ) (r : Folded) → other ≡ negation t → a ≡ other → IsFolding truth other b b r (λ v. v other && v b) → IsFolding truth t a b r (λ v. cond (v t) (v a) (v b))
choice_a_other truth other t a b r o e h = folded_as _ _ _ _ _ _ _ _ (λ v. v other && v b) (λ v. cond (v t) (v a) (v b)) h (λ count x y z. (rw o (negation_inside t count x), z, z))
    (λ values is. rw (e, o, literal_value_negation values t) (and_opposite (literal_value values t) (literal_value values b)))

pub choice_b_truth : (truth other t a b : ℕ) (r : Folded) → other ≡ negation t → b ≡ truth → IsFolding truth other a a r (λ v. v other || v a) → IsFolding truth t a b r (λ v. cond (v t) (v a) (v b))
choice_b_truth truth other t a b r o e h = folded_as _ _ _ _ _ _ _ _ (λ v. v other || v a) (λ v. cond (v t) (v a) (v b)) h (λ count x y z. (rw o (negation_inside t count x), y, y))
    (λ values is. rw (o, literal_value_negation values t) (or_true_below (literal_value values t) (literal_value values a) (literal_value values b) (at values b truth true e is)))

pub choice_b_other : (truth other t a b : ℕ) (r : Folded) → other ≡ negation t → b ≡ other → IsFolding truth other a a r (λ v. v other || v a) → IsFolding truth t a b r (λ v. cond (v t) (v a) (v b))
choice_b_other truth other t a b r o e h = folded_as _ _ _ _ _ _ _ _ (λ v. v other || v a) (λ v. cond (v t) (v a) (v b)) h (λ count x y z. (rw o (negation_inside t count x), y, y))
    (λ values is. rw (e, o, literal_value_negation values t) (or_opposite (literal_value values t) (literal_value values a)))

pub choice_b_falsity : (truth falsity t a b : ℕ) (r : Folded) → falsity ≡ negation truth → b ≡ falsity → IsFolding truth t a a r (λ v. v t && v a) → IsFolding truth t a b r (λ v. cond (v t) (v a) (v b))
choice_b_falsity truth falsity t a b r f e h = folded_as _ _ _ _ _ _ _ _ (λ v. v t && v a) (λ v. cond (v t) (v a) (v b)) h (λ count x y z. (x, y, y))
    (λ values is.
    let away : literal_value values b ≡ false = rw (e, f, literal_value_negation values truth, is) refl in
    and_false_below (literal_value values t) (literal_value values a) (literal_value values b) away)

pub choice_b_test : (truth t a b : ℕ) (r : Folded) → b ≡ t → IsFolding truth t a a r (λ v. v t && v a) → IsFolding truth t a b r (λ v. cond (v t) (v a) (v b))
choice_b_test truth t a b r e h = folded_as _ _ _ _ _ _ _ _ (λ v. v t && v a) (λ v. cond (v t) (v a) (v b)) h (λ count x y z. (x, y, y))
    (λ values is. rw e (and_same (literal_value values t) (literal_value values a)))

pub choice_apart : (truth n t a b : ℕ) (r : Folded) → n ≡ negation b → a ≡ n → IsFolding truth t b b r (λ v. differ (v t) (v b)) → IsFolding truth t a b r (λ v. cond (v t) (v a) (v b))
choice_apart truth n t a b r f e h = folded_as _ _ _ _ _ _ _ _ (λ v. differ (v t) (v b)) (λ v. cond (v t) (v a) (v b)) h (λ count x y z. (x, z, z))
    (λ values is. rw (e, f, literal_value_negation values b) (differ_choice (literal_value values t) (literal_value values b)))

not_choice : (t a b : Bool) → not (cond t (not a) (not b)) ≡ cond t a b
not_choice true a b = not_not a
not_choice false a b = not_not b

pub choice_turned : (truth t a b x y : ℕ) → x ≡ negation a → y ≡ negation b → IsFolding truth t a b (Fresh (Choose t x y) true) (λ v. cond (v t) (v a) (v b))
choice_turned truth t a b x y ex ey = record {
  inside = λ count w ht ha hb. (ht, rw ex (negation_inside a count ha), rw ey (negation_inside b count hb));
  value_is = λ values is. rw (ex, ey, literal_value_negation values a, literal_value_negation values b) (not_choice (literal_value values t) (literal_value values a) (literal_value values b));
}

choice_swapped : (t a b : Bool) → cond (not t) b a ≡ cond t a b
choice_swapped true a b = refl
choice_swapped false a b = refl

pub choose_turned : (truth n t a b : ℕ) (r : Folded) → n ≡ negation t → IsFolding truth n b a r (λ v. cond (v n) (v b) (v a)) → IsFolding truth t a b r (λ v. cond (v t) (v a) (v b))
choose_turned truth n t a b r e h = folded_as _ _ _ _ _ _ _ _ (λ v. cond (v n) (v b) (v a)) (λ v. cond (v t) (v a) (v b)) h (λ count x y z. (rw e (negation_inside t count x), z, y))
    (λ values is. rw (e, literal_value_negation values t) (choice_swapped (literal_value values t) (literal_value values a) (literal_value values b)))

-- differences of signed literals
differ_signs : (p q x y : Bool) → differ (differ p q) (differ x y) ≡ differ (differ p x) (differ q y)
differ_signs true true true true = refl
differ_signs true true true false = refl
differ_signs true true false true = refl
differ_signs true true false false = refl
differ_signs true false true true = refl
differ_signs true false true false = refl
differ_signs true false false true = refl
differ_signs true false false false = refl
differ_signs false true true true = refl
differ_signs false true true false = refl
differ_signs false true false true = refl
differ_signs false true false false = refl
differ_signs false false true true = refl
differ_signs false false true false = refl
differ_signs false false false true = refl
differ_signs false false false false = refl

-- where positive literals with a sign differ as the literals do
pub xor_signs : (values : ℕ → Bool) (a b x y : ℕ) (p q : Bool) → x ≡ a - a % 2 → y ≡ b - b % 2 → p ≡ eqb (a % 2) 1 → q ≡ eqb (b % 2) 1 → differ (differ p q) (differ (literal_value values x) (literal_value values y)) ≡ differ (literal_value values a) (literal_value values b)
xor_signs values a b x y p q ex ey ep eq =
    rw (literal_value_positive values a, literal_value_positive values b, ← ex, ← ey, ← ep, ← eq)
    (differ_signs p q (literal_value values x) (literal_value values y))

beq_differ : (p q : Bool) → not (beq p q) ≡ differ p q
beq_differ true true = refl
beq_differ true false = refl
beq_differ false true = refl
beq_differ false false = refl

differ_comm : (p q : Bool) → differ p q ≡ differ q p
differ_comm true true = refl
differ_comm true false = refl
differ_comm false true = refl
differ_comm false false = refl

differ_same : (n z : Bool) → differ (not n) true ≡ differ n (differ z z)
differ_same true true = refl
differ_same true false = refl
differ_same false true = refl
differ_same false false = refl

differ_true : (n z : Bool) → differ (not n) z ≡ differ n (differ true z)
differ_true true true = refl
differ_true true false = refl
differ_true false true = refl
differ_true false false = refl

-- what the signs and the variables of two literals are
pub record AreParts (a b x y : ℕ) (p q : Bool) : Type 0 where
  pub x_is : x ≡ a - a % 2
  pub y_is : y ≡ b - b % 2
  pub p_is : p ≡ eqb (a % 2) 1
  pub q_is : q ≡ eqb (b % 2) 1

parts_differ : (values : ℕ → Bool) (a b x y : ℕ) (p q : Bool) → AreParts a b x y p q → differ (not (beq p q)) (differ (literal_value values x) (literal_value values y)) ≡ differ (literal_value values a) (literal_value values b)
parts_differ values a b x y p q h = rw (beq_differ p q) (xor_signs values a b x y p q h.x_is h.y_is h.p_is h.q_is)

pub xor_same : (truth a b x y r : ℕ) (p q : Bool) → AreParts a b x y p q → x ≡ y → r ≡ signed truth (not (not (beq p q))) → IsFolding truth a b b (Known r) (λ v. differ (v a) (v b))
xor_same truth a b x y r p q h same is = record {
  inside = λ count t ha hb hc. rw is (signed_inside truth count (not (not (beq p q))) t);
  value_is = λ values w.
      rw is
      (literal_value_signed values truth (not (not (beq p q)))
      ∙ ap (differ (not (not (beq p q)))) w
      ∙ differ_same (not (beq p q)) (literal_value values y)
      ∙ ap (λ (k : ℕ). differ (not (beq p q)) (differ (literal_value values k) (literal_value values y))) (sym same)
      ∙ parts_differ values a b x y p q h);
}

pub xor_x_truth : (truth a b x y r : ℕ) (p q : Bool) → AreParts a b x y p q → x ≡ truth → r ≡ signed y (not (not (beq p q))) → IsFolding truth a b b (Known r) (λ v. differ (v a) (v b))
xor_x_truth truth a b x y r p q h same is = record {
  inside = λ count t ha hb hc. let low : y < 2 * count = omega (arith, h.y_is) in rw is (signed_inside y count (not (not (beq p q))) low);
  value_is = λ values w.
      let one : literal_value values x ≡ true = ap (literal_value values) same ∙ w in
      rw is
      (literal_value_signed values y (not (not (beq p q)))
      ∙ differ_true (not (beq p q)) (literal_value values y)
      ∙ ap (λ (k : Bool). differ (not (beq p q)) (differ k (literal_value values y))) (sym one)
      ∙ parts_differ values a b x y p q h);
}

pub xor_y_truth : (truth a b x y r : ℕ) (p q : Bool) → AreParts a b x y p q → y ≡ truth → r ≡ signed x (not (not (beq p q))) → IsFolding truth a b b (Known r) (λ v. differ (v a) (v b))
xor_y_truth truth a b x y r p q h same is = record {
  inside = λ count t ha hb hc. let low : x < 2 * count = omega (arith, h.x_is) in rw is (signed_inside x count (not (not (beq p q))) low);
  value_is = λ values w.
      let one : literal_value values y ≡ true = ap (literal_value values) same ∙ w in
      rw is
      (literal_value_signed values x (not (not (beq p q)))
      ∙ differ_true (not (beq p q)) (literal_value values x)
      ∙ ap (λ (k : Bool). differ (not (beq p q)) (differ k (literal_value values x))) (sym one)
      ∙ ap (differ (not (beq p q))) (differ_comm (literal_value values y) (literal_value values x))
      ∙ parts_differ values a b x y p q h);
}

ordered : (values : ℕ → Bool) (x y m n : ℕ) → m ≡ min x y → n ≡ max x y → differ (literal_value values m) (literal_value values n) ≡ differ (literal_value values x) (literal_value values y)
ordered values x y m n em en = elim (cases_lt x y) [
  | inl h ↦ (let e : m ≡ x = omega arith in let f : n ≡ y = omega arith in rw (e, f) refl)
  | inr h ↦ (let e : m ≡ y = omega arith in let f : n ≡ x = omega arith in rw (e, f) (differ_comm (literal_value values y) (literal_value values x)))
]

pub xor_fresh : (truth a b x y m n : ℕ) (p q : Bool) → AreParts a b x y p q → m ≡ min x y → n ≡ max x y → IsFolding truth a b b (Fresh (Xor m n) (not (beq p q))) (λ v. differ (v a) (v b))
xor_fresh truth a b x y m n p q h em en = record {
  inside = λ count t ha hb hc.
      let lx : x < 2 * count = omega (arith, h.x_is) in
      let ly : y < 2 * count = omega (arith, h.y_is) in
      (omega arith, omega arith);
  value_is = λ values w.
      ap (differ (not (beq p q))) (ordered values x y m n em en) ∙ parts_differ values a b x y p q h;
}

pub turned_known : (folded : Folded) (a n : ℕ) → folded ≡ Known a → n ≡ negation a → IsTurned folded (Known n)
turned_known folded a n e f = subst (λ (k : Folded). IsTurned k (Known n)) (sym e) (record {
  inside = λ count h. rw f (negation_inside a count h);
  value_is = λ values. rw f (literal_value_negation values a);
})
