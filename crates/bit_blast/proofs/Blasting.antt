-- Terms as literals, each by the terms before it.
use Rattle.std.proofs.Common.{◌≡◌, ℕ, ◌+◌, ◌%◌, ◌<◌, Bool, true, false, cond, eqb, List, [], ◌∷◌, ◌++◌, length, get_or, slice_get, Some, sym, ap, ◌∙◌, refl, arith, subst, inl, inr, length-append}
use Rattle.std.specs.Prelude.{ℤ, pos, negsuc, neg_ℤ, ◌-ℤ◌, int_div, int_rem, IsTrue}
use Rattle.std.proofs.lemmas.Bool.{cases_lt}
use Rattle.std.proofs.lemmas.List.{get_or_append_left, get_or_push}
use Rattle.region_pool.specs.Blocks.{block_at}
use Rattle.word_bits.specs.declared.word.Word.{Word}
use Rattle.word_bits.specs.Words.{IsWidth, word, word_of, recast, quotient, remainder, is_lawful, value_of, halved}
use Rattle.sym_terms.specs.declared.TermId.{TermId}
use Rattle.sym_terms.specs.declared.term.Term.{Term}
use Rattle.sym_terms.specs.declared.term.Term.TheVariants.{Constant, Input, Apply, Cast, Choose, Slice}
use Rattle.sym_terms.specs.declared.term.TermOp.{TermOp}
use Rattle.sym_terms.specs.declared.term.TermOp.TheVariants.{Equal, Add, Sub, Mul, And, Or, Xor, Not, Neg, Shl, DivUnsigned, DivSigned, RemUnsigned, RemSigned, ShrUnsigned, ShrSigned, LessUnsigned, LessSigned, AddOverflowsUnsigned, AddOverflowsSigned, SubOverflowsUnsigned, SubOverflowsSigned, MulOverflowsUnsigned, MulOverflowsSigned, LawfulUnsigned, LawfulSigned}
use Rattle.sym_terms.specs.Ops.{is_binary, is_shift}
use Rattle.sym_terms.specs.Terms.{applied, op_width, sliced, term_value, term_width, width_of, AreOperands, IsFitting, AreFitting}
use Rattle.sym_terms.specs.Terms.{value as term_at}
use Rattle.sym_terms.proofs.Fitting.{applied_unary}
use Rattle.sym_terms.proofs.Grown.{IsInserted-known}
use Rattle.sym_terms.proofs.ValueWords.{IsWidth-width_of}
use Rattle.bit_gates.specs.Circuit.{Circuit, value}
use Rattle.bit_gates.specs.Made.{Extends, IsWordMade, IsInputWord, AreIn, number}
use Rattle.bit_gates.proofs.MadeLaws.{extends_itself}
use Rattle.bit_gates.proofs.NumberLaws.{are_in_kept, in_same}
use Rattle.bit_blast.specs.Inputs.{AreAtPlaces}
use Rattle.bit_blast.specs.Blasted.{word_at, IsMadeWord, IsBlasted, IsTable, HaveParts, IsReachedWord}
use Rattle.gate_trim.specs.Marks.{AreClosed}
use Rattle.bit_blast.specs.Reached.{is_part}
use Rattle.bit_blast.proofs.Reaching.{first_operand, second_operand, cast_part, slice_part, test_part, first_arm, second_arm}
use Rattle.bit_blast.proofs.Arithmetical.{same_word}
use Rattle.bit_blast.proofs.Magnitudes.{word_kept}

width_of_whole : (n : ℕ) (z : ℤ) → (word_of n z).width ≡ n
width_of_whole n (pos m) = refl
width_of_whole n (negsuc m) = refl

width_of_either : (t : Bool) (x y : Word) (n : ℕ) → x.width ≡ n → y.width ≡ n → (let w : Word = cond t x y in w.width) ≡ n
width_of_either true x y n e f = e
width_of_either false x y n e f = f

pub applied_width : (op : TermOp) (x y : Word) → (applied op x y).width ≡ op_width op x.width
applied_width Equal x y = refl
applied_width Add x y = refl
applied_width Sub x y = width_of_whole x.width (pos x.value -ℤ pos y.value)
applied_width Mul x y = refl
applied_width And x y = refl
applied_width Or x y = refl
applied_width Xor x y = refl
applied_width Not x y = refl
applied_width Neg x y = width_of_whole x.width (neg_ℤ (pos x.value))
applied_width Shl x y = refl
applied_width DivUnsigned x y = width_of_either (is_lawful x y false) (quotient x y false) (word x.width 0) x.width (width_of_whole x.width (int_div (value_of false x) (value_of false y))) refl
applied_width DivSigned x y = width_of_either (is_lawful x y true) (quotient x y true) (word x.width 0) x.width (width_of_whole x.width (int_div (value_of true x) (value_of true y))) refl
applied_width RemUnsigned x y = width_of_either (is_lawful x y false) (remainder x y false) (word x.width 0) x.width (width_of_whole x.width (int_rem (value_of false x) (value_of false y))) refl
applied_width RemSigned x y = width_of_either (is_lawful x y true) (remainder x y true) (word x.width 0) x.width (width_of_whole x.width (int_rem (value_of true x) (value_of true y))) refl
applied_width ShrUnsigned x y = width_of_whole x.width (halved (value_of false x) (y.value % x.width))
applied_width ShrSigned x y = width_of_whole x.width (halved (value_of true x) (y.value % x.width))
applied_width LessUnsigned x y = refl
applied_width LessSigned x y = refl
applied_width AddOverflowsUnsigned x y = refl
applied_width AddOverflowsSigned x y = refl
applied_width SubOverflowsUnsigned x y = refl
applied_width SubOverflowsSigned x y = refl
applied_width MulOverflowsUnsigned x y = refl
applied_width MulOverflowsSigned x y = refl
applied_width LawfulUnsigned x y = refl
applied_width LawfulSigned x y = refl

-- what is made by the words of earlier terms is the term
pub blasted_from : (a b : Circuit) (terms : List Term) (places : List ℕ) (n : ℕ) (term : Term) (ls : List ℕ) (f : (ℕ → Bool) → Word) → AreFitting terms → slice_get terms n ≡ Some term → IsMadeWord a b ls f
    → (f (value a (λ k. false))).width ≡ term_width (width_of terms) term
    → ((bits : (ℕ → ℕ) → ℕ → Bool) → AreAtPlaces bits terms places → (numbers : ℕ → ℕ) → f (value a (bits numbers)) ≡ term_value numbers (term_at terms numbers) term)
    → Extends a b × IsBlasted b terms places n ls
blasted_from a b terms places n term ls f fit e m width same =
    let known = IsInserted-known terms term n fit e in (
      m.extends,
      record {
        inside = m.inside;
        width_is = ap (λ (w : Word). w.width) (m.word_is (λ k. false)) ∙ width ∙ sym known.width_is;
        word_is = λ bits are numbers. m.word_is (bits numbers) ∙ same bits are numbers ∙ sym (known.value_is numbers);
      },
    )

pub constant_blasted : (a : Circuit) (terms : List Term) (places : List ℕ) (n : ℕ) (w : Word) (ls : List ℕ) → AreFitting terms → slice_get terms n ≡ Some (Constant w) → IsWordMade a a ls w.width (λ v. w.value) → Extends a a × IsBlasted a terms places n ls
constant_blasted a terms places n w ls fit e m =
    blasted_from a a terms places n (Constant w) ls (λ v. w) fit e (record { extends = m.extends; inside = m.inside; word_is = λ bits. same_word _ _ _ _ m.width_is (m.number_is bits) }) refl (λ bits are numbers. refl)

pub input_blasted : (a : Circuit) (terms : List Term) (places : List ℕ) (n number width : ℕ) (ls : List ℕ) → AreFitting terms → slice_get terms n ≡ Some (Input number width) → IsInputWord a ls (get_or places number 0) width → Extends a a × IsBlasted a terms places n ls
input_blasted a terms places n number width ls fit e m =
    let known = IsInserted-known terms (Input number width) n fit e in (
      extends_itself a,
      record {
        inside = m.inside;
        width_is = m.width_is ∙ sym known.width_is;
        word_is = λ bits are numbers. same_word _ _ _ _ m.width_is (m.number_is (bits numbers) (numbers number) (are n number width e numbers)) ∙ sym (known.value_is numbers);
      },
    )

-- the parts of a term
pub part_width : (a : Circuit) (terms : List Term) (places : List ℕ) (n p : ℕ) (blocks : List (List ℕ)) → HaveParts a terms places n blocks → p < n → is_part terms p n ≡ true → length (block_at blocks p) ≡ width_of terms p
part_width a terms places n p blocks t l h = (t.each p l h).width_is

pub part_inside : (a : Circuit) (terms : List Term) (places : List ℕ) (n p : ℕ) (blocks : List (List ℕ)) → HaveParts a terms places n blocks → p < n → is_part terms p n ≡ true → AreIn a (block_at blocks p)
part_inside a terms places n p blocks t l h = (t.each p l h).inside

pub part_is_width : (a : Circuit) (terms : List Term) (places : List ℕ) (n p : ℕ) (blocks : List (List ℕ)) → AreFitting terms → n < length terms → HaveParts a terms places n blocks → p < n → is_part terms p n ≡ true → IsWidth (length (block_at blocks p))
part_is_width a terms places n p blocks fit inside t l h = subst (λ (k : ℕ). IsWidth k) (sym (part_width a terms places n p blocks t l h)) (IsWidth-width_of terms fit p (omega arith))

pub apply_blasted : (a b : Circuit) (terms : List Term) (places : List ℕ) (n : ℕ) (op : TermOp) (p q : TermId) (blocks : List (List ℕ)) (xs ys ls : List ℕ) → AreFitting terms → slice_get terms n ≡ Some (Apply op p q) → HaveParts a terms places n blocks
    → xs ≡ block_at blocks p.0 → (IsTrue (is_binary op) → ys ≡ block_at blocks q.0)
    → IsMadeWord a b ls (λ v. applied op (word_at v xs) (word_at v ys)) → Extends a b × IsBlasted b terms places n ls
apply_blasted a b terms places n op p q blocks xs ys ls fit e t ex ey m =
    let fits : IsFitting n (width_of terms) (Apply op p q) = fit.fitting n (Apply op p q) e in
    blasted_from a b terms places n (Apply op p q) ls (λ v. applied op (word_at v xs) (word_at v ys)) fit e m
    (applied_width op (word_at (value a (λ k. false)) xs) (word_at (value a (λ k. false)) ys) ∙ ap (op_width op) (ap length ex ∙ (t.each p.0 fits.0 (first_operand terms n op p q e)).width_is))
    (λ bits are numbers.
    let x : word_at (value a (bits numbers)) xs ≡ term_at terms numbers p.0 = ap (word_at (value a (bits numbers))) ex ∙ (t.each p.0 fits.0 (first_operand terms n op p q e)).word_is bits are numbers in
    ap (λ (w : Word). applied op w (word_at (value a (bits numbers)) ys)) x ∙ second op (is_binary op) refl fits ey (λ s. second_operand terms n op p q e s) bits are numbers)
  where
    second : (op : TermOp) (s : Bool) → is_binary op ≡ s → IsFitting n (width_of terms) (Apply op p q) → (IsTrue (is_binary op) → ys ≡ block_at blocks q.0) → (is_binary op ≡ true → is_part terms q.0 n ≡ true) → (bits : (ℕ → ℕ) → ℕ → Bool) → AreAtPlaces bits terms places → (numbers : ℕ → ℕ)
        → applied op (term_at terms numbers p.0) (word_at (value a (bits numbers)) ys) ≡ applied op (term_at terms numbers p.0) (term_at terms numbers q.0)
    second op true s fits ey part bits are numbers =
        let y : word_at (value a (bits numbers)) ys ≡ term_at terms numbers q.0 = ap (word_at (value a (bits numbers))) (ey s) ∙ (t.each q.0 (fits.1 s) (part s)).word_is bits are numbers in
        ap (applied op (term_at terms numbers p.0)) y
    second op false s fits ey part bits are numbers = applied_unary op (term_at terms numbers p.0) (word_at (value a (bits numbers)) ys) (term_at terms numbers q.0) s

pub cast_blasted : (a b : Circuit) (terms : List Term) (places : List ℕ) (n : ℕ) (p : TermId) (signed : Bool) (width : ℕ) (blocks : List (List ℕ)) (xs ls : List ℕ) → AreFitting terms → slice_get terms n ≡ Some (Cast p signed width) → HaveParts a terms places n blocks
    → xs ≡ block_at blocks p.0 → IsMadeWord a b ls (λ v. recast (word_at v xs) signed width) → Extends a b × IsBlasted b terms places n ls
cast_blasted a b terms places n p signed width blocks xs ls fit e t ex m =
    let fits : IsFitting n (width_of terms) (Cast p signed width) = fit.fitting n (Cast p signed width) e in
    blasted_from a b terms places n (Cast p signed width) ls (λ v. recast (word_at v xs) signed width) fit e m (width_of_whole width (value_of signed (word_at (value a (λ k. false)) xs)))
    (λ bits are numbers. ap (λ (w : Word). recast w signed width) (ap (word_at (value a (bits numbers))) ex ∙ (t.each p.0 fits.0 (cast_part terms n p signed width e)).word_is bits are numbers))

pub slice_blasted : (a b : Circuit) (terms : List Term) (places : List ℕ) (n : ℕ) (p : TermId) (from width : ℕ) (blocks : List (List ℕ)) (xs ls : List ℕ) → AreFitting terms → slice_get terms n ≡ Some (Slice p from width) → HaveParts a terms places n blocks
    → xs ≡ block_at blocks p.0 → IsMadeWord a b ls (λ v. sliced (word_at v xs) from width) → Extends a b × IsBlasted b terms places n ls
slice_blasted a b terms places n p from width blocks xs ls fit e t ex m =
    let fits : IsFitting n (width_of terms) (Slice p from width) = fit.fitting n (Slice p from width) e in
    blasted_from a b terms places n (Slice p from width) ls (λ v. sliced (word_at v xs) from width) fit e m refl
    (λ bits are numbers. ap (λ (w : Word). sliced w from width) (ap (word_at (value a (bits numbers))) ex ∙ (t.each p.0 fits.0 (slice_part terms n p from width e)).word_is bits are numbers))

pub choose_blasted : (a b : Circuit) (terms : List Term) (places : List ℕ) (n : ℕ) (test p q : TermId) (blocks : List (List ℕ)) (ts xs ys ls : List ℕ) → AreFitting terms → slice_get terms n ≡ Some (Choose test p q) → HaveParts a terms places n blocks
    → ts ≡ block_at blocks test.0 → xs ≡ block_at blocks p.0 → ys ≡ block_at blocks q.0
    → IsMadeWord a b ls (λ v. cond (eqb (number v ts) 1) (word_at v xs) (word_at v ys)) → Extends a b × IsBlasted b terms places n ls
choose_blasted a b terms places n test p q blocks ts xs ys ls fit e t et ex ey m =
    let fits : IsFitting n (width_of terms) (Choose test p q) = fit.fitting n (Choose test p q) e in
    let wx : length xs ≡ width_of terms p.0 = ap length ex ∙ (t.each p.0 fits.1 (first_arm terms n test p q e)).width_is in
    let wy : length ys ≡ width_of terms p.0 = ap length ey ∙ (t.each q.0 fits.2 (second_arm terms n test p q e)).width_is ∙ fits.4 in
    blasted_from a b terms places n (Choose test p q) ls (λ v. cond (eqb (number v ts) 1) (word_at v xs) (word_at v ys)) fit e m
    (width_of_either (eqb (number (value a (λ k. false)) ts) 1) (word_at (value a (λ k. false)) xs) (word_at (value a (λ k. false)) ys) (width_of terms p.0) wx wy)
    (λ bits are numbers.
    let v = value a (bits numbers) in
    ap (λ (w : Word). cond (eqb w.value 1) (word_at v xs) (word_at v ys)) (ap (word_at v) et ∙ (t.each test.0 fits.0 (test_part terms n test p q e)).word_is bits are numbers)
    ∙ ap (λ (w : Word). cond (eqb (term_at terms numbers test.0).value 1) w (word_at v ys)) (ap (word_at v) ex ∙ (t.each p.0 fits.1 (first_arm terms n test p q e)).word_is bits are numbers)
    ∙ ap (λ (w : Word). cond (eqb (term_at terms numbers test.0).value 1) (term_at terms numbers p.0) w) (ap (word_at v) ey ∙ (t.each q.0 fits.2 (second_arm terms n test p q e)).word_is bits are numbers))

pub blasted_kept : (a b : Circuit) (terms : List Term) (places : List ℕ) (n : ℕ) (ls : List ℕ) → Extends a b → IsBlasted a terms places n ls → IsBlasted b terms places n ls
blasted_kept a b terms places n ls e h = record {
  inside = are_in_kept a b ls e h.inside;
  width_is = h.width_is;
  word_is = λ bits are numbers. word_kept a b (bits numbers) ls e h.inside ∙ h.word_is bits are numbers;
}

pub table_none : (a : Circuit) (terms : List Term) (places : List ℕ) (marks : List Bool) (blocks : List (List ℕ)) → blocks ≡ [] → IsTable a terms places marks 0 blocks
table_none a terms places marks blocks e = record { one_each = ap length e; each = λ n l h. absurd (omega arith); none = λ n l h. absurd (omega arith) }

-- one more block
pub table_more : (a b : Circuit) (terms : List Term) (places : List ℕ) (marks : List Bool) (reached : Bool) (n : ℕ) (blocks more : List (List ℕ)) (ls : List ℕ) → more ≡ blocks ++ ls ∷ [] → reached ≡ get_or marks n false → IsTable a terms places marks n blocks → IsReachedWord a b terms places reached n ls → IsTable b terms places marks (n + 1) more
table_more a b terms places marks reached n blocks more ls e is t m = subst (λ (k : List (List ℕ)). IsTable b terms places marks (n + 1) k) (sym e) (record {
  one_each = omega (arith, length-append blocks (ls ∷ []), t.one_each);
  each = λ j l h. elim (cases_lt j n) [
    | inl low ↦ subst (λ (k : List ℕ). IsBlasted b terms places j k) (sym (get_or_append_left blocks (ls ∷ []) [] j (omega (arith, t.one_each)))) (blasted_kept a b terms places j (block_at blocks j) m.extends (t.each j low h))
    | inr high ↦
        (let same : j ≡ n = omega arith in
        subst (λ (k : ℕ). IsBlasted b terms places k (block_at (blocks ++ ls ∷ []) k)) (sym same)
        (subst (λ (k : List ℕ). IsBlasted b terms places n k) (sym (get_or_push blocks ls [] n t.one_each)) (m.blasted (is ∙ ap (λ (k : ℕ). get_or marks k false) (sym same) ∙ h))))
  ];
  none = λ j l h. elim (cases_lt j n) [
    | inl low ↦ get_or_append_left blocks (ls ∷ []) [] j (omega (arith, t.one_each)) ∙ t.none j low h
    | inr high ↦
        (let same : j ≡ n = omega arith in
        ap (λ (k : ℕ). block_at (blocks ++ ls ∷ []) k) same ∙ get_or_push blocks ls [] n t.one_each ∙ m.none (is ∙ ap (λ (k : ℕ). get_or marks k false) (sym same) ∙ h))
  ];
})

-- the parts of a reached term are reached
pub parts_there : (a : Circuit) (terms : List Term) (places : List ℕ) (marks : List Bool) (n : ℕ) (blocks : List (List ℕ)) → length marks ≡ length terms → n < length terms → AreClosed (is_part terms) 0 marks → get_or marks n false ≡ true → IsTable a terms places marks n blocks → HaveParts a terms places n blocks
parts_there a terms places marks n blocks long inside closed marked t = record {
  one_each = t.one_each;
  each = λ p l h. t.each p l (closed p (omega arith) (record { reader = n; above = omega arith; inside = omega arith; marked = marked; reads_it = h }));
}

-- the second operand, or the first again
pub second_width : (a : Circuit) (terms : List Term) (places : List ℕ) (n : ℕ) (p q : TermId) (op : TermOp) (blocks : List (List ℕ)) (xs ys : List ℕ) → slice_get terms n ≡ Some (Apply op p q) → HaveParts a terms places n blocks → AreOperands n (width_of terms) op p.0 q.0
    → xs ≡ block_at blocks p.0 → (IsTrue (is_binary op) → ys ≡ block_at blocks q.0) → (is_binary op ≡ false → ys ≡ block_at blocks p.0) → is_shift op ≡ false → length ys ≡ length xs
second_width a terms places n p q op blocks xs ys e t f ex eb eu shift = by (is_binary op) refl
  where
    by : (s : Bool) → is_binary op ≡ s → length ys ≡ length xs
    by true s = ap length (eb s) ∙ (t.each q.0 (f.1 s) (second_operand terms n op p q e s)).width_is ∙ f.3 s shift ∙ sym ((t.each p.0 f.0 (first_operand terms n op p q e)).width_is) ∙ sym (ap length ex)
    by false s = ap length (eu s) ∙ sym (ap length ex)

pub second_inside : (a : Circuit) (terms : List Term) (places : List ℕ) (n : ℕ) (p q : TermId) (op : TermOp) (blocks : List (List ℕ)) (ys : List ℕ) → slice_get terms n ≡ Some (Apply op p q) → HaveParts a terms places n blocks → AreOperands n (width_of terms) op p.0 q.0
    → (IsTrue (is_binary op) → ys ≡ block_at blocks q.0) → (is_binary op ≡ false → ys ≡ block_at blocks p.0) → AreIn a ys
second_inside a terms places n p q op blocks ys e t f eb eu = by (is_binary op) refl
  where
    by : (s : Bool) → is_binary op ≡ s → AreIn a ys
    by true s = in_same a ys (block_at blocks q.0) (eb s) (t.each q.0 (f.1 s) (second_operand terms n op p q e s)).inside
    by false s = in_same a ys (block_at blocks p.0) (eu s) (t.each p.0 f.0 (first_operand terms n op p q e)).inside
