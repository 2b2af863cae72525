-- What is made of terms that were inserted.
use Rattle.std.proofs.Common.{◌≡◌, ℕ, ◌-◌, ◌^◌, ◌<◌, ◌≤◌, ◌==◌, ◌&&◌, ◌||◌, not, Bool, true, false, cond, List, length, subst, sym, ap, ◌∙◌, refl, arith, ◌⊎◌, inl, inr}
use Rattle.std.specs.Prelude.{bit_and, bit_or}
use Rattle.word_bits.specs.declared.word.Word.{Word}
use Rattle.word_bits.specs.Words.{both_bits, either_bit, complement}
use Rattle.sym_terms.specs.declared.term.Term.{Term}
use Rattle.sym_terms.specs.declared.term.Term.TheVariants.{Input}
use Rattle.sym_terms.specs.Terms.{AgreesWith, IsInserted, IsValue, Keeps, term_value, term_width, truth, value, width_of}
use Rattle.sym_terms.proofs.Grown.{Keeps-same, Keeps-trans}
use Rattle.value_terms.specs.Made.{Grown, IsBit, IsInput, IsMade, IsTest, holds}

pub grown_same : (terms : List Term) → Grown terms terms
grown_same terms = record { keeps = Keeps-same terms; free = λ number free. free }

pub grown_trans : (old mid new : List Term) → Grown old mid → Grown mid new → Grown old new
grown_trans old mid new first second = record {
  keeps = Keeps-trans old mid new first.keeps second.keeps;
  free = λ number free. second.free number (first.free number free);
}

-- a term that is no input
pub IsNoInput : Term → Type 0
IsNoInput term = (number width : ℕ) → AgreesWith term number width

pub made_of : (old new : List Term) (term : Term) (id : ℕ) → ((number width : ℕ) → AgreesWith term number width) → IsInserted old new term id
    → IsMade old new id (term_width (width_of old) term) (λ inputs. term_value inputs (value old inputs) term)
made_of old new term id plain inserted = record {
  grown = record { keeps = inserted.keeps; free = λ number free width. inserted.inputs number width (free width) (plain number width) };
  inside = inserted.inside;
  width_is = inserted.width_is;
  value_is = inserted.value_is;
}

-- the value of a term that is there is a word of its width
pub record IsKnown (terms : List Term) (id width : ℕ) : Type 0 where
  pub inside : id < length terms
  pub width_is : width_of terms id ≡ width
  pub values : (inputs : ℕ → ℕ) → IsValue terms inputs id

one_or_none : (n : ℕ) → n < 2 → (n ≡ 0) ⊎ (n ≡ 1)
one_or_none n h = grind arith

-- a number that is 0 or 1 by its test
pub below_two : (terms : List Term) (inputs : ℕ → ℕ) (id : ℕ) → IsValue terms inputs id → width_of terms id ≡ 1 → (value terms inputs id).value < 2
below_two terms inputs id is bit =
    let width : (value terms inputs id).width ≡ 1 = is.width_is ∙ bit in
    subst (λ n. (value terms inputs id).value < 2 ^ n) width is.is_word.below

and_bits : (a b : ℕ) → a < 2 → b < 2 → (bit_and a b == 1) ≡ (a == 1 && b == 1)
and_bits a b ha hb = elim (one_or_none a ha) [
  | inl e ↦ elim (one_or_none b hb) [
    | inl f ↦ subst (λ n. (bit_and n b == 1) ≡ (n == 1 && b == 1)) (sym e) (subst (λ n. (bit_and 0 n == 1) ≡ (0 == 1 && n == 1)) (sym f) refl)
    | inr f ↦ subst (λ n. (bit_and n b == 1) ≡ (n == 1 && b == 1)) (sym e) (subst (λ n. (bit_and 0 n == 1) ≡ (0 == 1 && n == 1)) (sym f) refl)
  ]
  | inr e ↦ elim (one_or_none b hb) [
    | inl f ↦ subst (λ n. (bit_and n b == 1) ≡ (n == 1 && b == 1)) (sym e) (subst (λ n. (bit_and 1 n == 1) ≡ (1 == 1 && n == 1)) (sym f) refl)
    | inr f ↦ subst (λ n. (bit_and n b == 1) ≡ (n == 1 && b == 1)) (sym e) (subst (λ n. (bit_and 1 n == 1) ≡ (1 == 1 && n == 1)) (sym f) refl)
  ]
]

or_bits : (a b : ℕ) → a < 2 → b < 2 → (bit_or a b == 1) ≡ (a == 1 || b == 1)
or_bits a b ha hb = elim (one_or_none a ha) [
  | inl e ↦ elim (one_or_none b hb) [
    | inl f ↦ subst (λ n. (bit_or n b == 1) ≡ (n == 1 || b == 1)) (sym e) (subst (λ n. (bit_or 0 n == 1) ≡ (0 == 1 || n == 1)) (sym f) refl)
    | inr f ↦ subst (λ n. (bit_or n b == 1) ≡ (n == 1 || b == 1)) (sym e) (subst (λ n. (bit_or 0 n == 1) ≡ (0 == 1 || n == 1)) (sym f) refl)
  ]
  | inr e ↦ elim (one_or_none b hb) [
    | inl f ↦ subst (λ n. (bit_or n b == 1) ≡ (n == 1 || b == 1)) (sym e) (subst (λ n. (bit_or 1 n == 1) ≡ (1 == 1 || n == 1)) (sym f) refl)
    | inr f ↦ subst (λ n. (bit_or n b == 1) ≡ (n == 1 || b == 1)) (sym e) (subst (λ n. (bit_or 1 n == 1) ≡ (1 == 1 || n == 1)) (sym f) refl)
  ]
]

not_bit : (a : ℕ) → a < 2 → (1 - a == 1) ≡ not (a == 1)
not_bit a ha = elim (one_or_none a ha) [ inl e ↦ subst (λ n. (1 - n == 1) ≡ not (n == 1)) (sym e) refl | inr e ↦ subst (λ n. (1 - n == 1) ≡ not (n == 1)) (sym e) refl ]

-- a test from a term of one bit
pub test_of : (old new : List Term) (id : ℕ) (v : (ℕ → ℕ) → Word) (t : (ℕ → ℕ) → Bool) → IsMade old new id 1 v → ((inputs : ℕ → ℕ) → ((v inputs).value == 1) ≡ t inputs) → IsTest old new id t
test_of old new id v t made is = record {
  grown = made.grown;
  bit = record { inside = made.inside; width_is = made.width_is };
  holds_is = λ inputs. ap (λ w. w.value == 1) (made.value_is inputs) ∙ is inputs;
}

pub made_at : (old new : List Term) (id w u : ℕ) (v : (ℕ → ℕ) → Word) → w ≡ u → IsMade old new id w v → IsMade old new id u v
made_at old new id w u v e made = subst (λ n. IsMade old new id n v) e made

pub test_both : (old new : List Term) (a b id : ℕ) → IsBit old a → IsBit old b → ((inputs : ℕ → ℕ) → IsValue old inputs a) → ((inputs : ℕ → ℕ) → IsValue old inputs b)
    → IsMade old new id (width_of old a) (λ inputs. both_bits (value old inputs a) (value old inputs b)) → IsTest old new id (λ inputs. holds old inputs a && holds old inputs b)
test_both old new a b id ha hb va vb made = test_of old new id _ _ (made_at old new id (width_of old a) 1 _ ha.width_is made)
    (λ inputs. and_bits (value old inputs a).value (value old inputs b).value (below_two old inputs a (va inputs) ha.width_is) (below_two old inputs b (vb inputs) hb.width_is))

pub test_either : (old new : List Term) (a b id : ℕ) → IsBit old a → IsBit old b → ((inputs : ℕ → ℕ) → IsValue old inputs a) → ((inputs : ℕ → ℕ) → IsValue old inputs b)
    → IsMade old new id (width_of old a) (λ inputs. either_bit (value old inputs a) (value old inputs b)) → IsTest old new id (λ inputs. holds old inputs a || holds old inputs b)
test_either old new a b id ha hb va vb made = test_of old new id _ _ (made_at old new id (width_of old a) 1 _ ha.width_is made)
    (λ inputs. or_bits (value old inputs a).value (value old inputs b).value (below_two old inputs a (va inputs) ha.width_is) (below_two old inputs b (vb inputs) hb.width_is))

pub test_inverse : (old new : List Term) (a id : ℕ) → IsBit old a → ((inputs : ℕ → ℕ) → IsValue old inputs a)
    → IsMade old new id (width_of old a) (λ inputs. complement (value old inputs a)) → IsTest old new id (λ inputs. not (holds old inputs a))
test_inverse old new a id ha va made = test_of old new id _ _ (made_at old new id (width_of old a) 1 _ ha.width_is made)
    (λ inputs. subst (λ n. (2 ^ n - 1 - (value old inputs a).value == 1) ≡ not (holds old inputs a)) (sym ((va inputs).width_is ∙ ha.width_is)) (not_bit (value old inputs a).value (below_two old inputs a (va inputs) ha.width_is)))

-- what held of an earlier term holds still
pub holds_kept : (old new : List Term) (inputs : ℕ → ℕ) (id : ℕ) → Keeps old new → id < length old → holds new inputs id ≡ holds old inputs id
holds_kept old new inputs id keeps inside = ap (λ w. w.value == 1) (keeps.values_kept inputs id inside)

pub bit_kept : (old new : List Term) (id : ℕ) → Keeps old new → IsBit old id → IsBit new id
bit_kept old new id keeps bit =
    let longer : length old ≤ length new = keeps.longer in
    let inside : id < length old = bit.inside in
    record { inside = omega arith; width_is = keeps.widths_kept id inside ∙ bit.width_is }

-- a test of later terms, by those of earlier ones
pub test_later : (old mid new : List Term) (id : ℕ) (t u : (ℕ → ℕ) → Bool) → Grown old mid → IsTest mid new id t → ((inputs : ℕ → ℕ) → t inputs ≡ u inputs) → IsTest old new id u
test_later old mid new id t u grown test e = record { grown = grown_trans old mid new grown test.grown; bit = test.bit; holds_is = λ inputs. test.holds_is inputs ∙ e inputs }

pub made_later : (old mid new : List Term) (id width : ℕ) (v u : (ℕ → ℕ) → Word) → Grown old mid → IsMade mid new id width v → ((inputs : ℕ → ℕ) → v inputs ≡ u inputs) → IsMade old new id width u
made_later old mid new id width v u grown made e = record { grown = grown_trans old mid new grown made.grown; inside = made.inside; width_is = made.width_is; value_is = λ inputs. made.value_is inputs ∙ e inputs }

truth_bit : (b : Bool) → ((cond b 1 0) == 1) ≡ b
truth_bit true = refl
truth_bit false = refl

-- a test that an operation makes is 1 or 0
pub bit_of_truth : (b : Bool) → ((truth b).value == 1) ≡ b
bit_of_truth b = truth_bit b

pub input_made : (old new : List Term) (id number width : ℕ) → IsInserted old new (Input number width) id → IsInput old new id number width
input_made old new id number width inserted = record {
  keeps = inserted.keeps;
  free = λ other apart free w. inserted.inputs other w (free w) (λ same. absurd (apart (sym same)));
  inside = inserted.inside;
  width_is = inserted.width_is;
  value_is = inserted.value_is;
}
