-- What the tests of operands say.
use Rattle.std.proofs.Common.{◌≡◌, ◌↔◌, ◌^◌, ◌&&◌, ◌==◌, Bool, true, false, IsTrue, cond, subst, sym, refl}
use Rattle.std.specs.Prelude.{nat_lt, nat_le}
use Rattle.std.proofs.lemmas.Bool.{eqb-true, ltb-true, lt-ltb, leb-true, le-leb}
use Rattle.word_bits.specs.declared.word.Word.{Word}
use Rattle.word_bits.specs.Words.{IsWord, AreWords}
use Rattle.word_bits.proofs.Kept.{words_of}
use Rattle.mir_ir.specs.declared.tree.BinaryOp.{BinaryOp}
use Rattle.scalar_runs.specs.Kinds.{is_word}
use Rattle.scalar_runs.specs.Operators.{are_operands, is_shift}

pub and_left : (a b : Bool) → (a && b) ≡ true → a ≡ true
and_left true b h = refl
and_left false b h = h

pub and_right : (a b : Bool) → (a && b) ≡ true → b ≡ true
and_right true b h = h
and_right false b h = cc

pub both_true : (a b : Bool) → a ≡ true → b ≡ true → (a && b) ≡ true
both_true true b first second = second
both_true false b first second = first

pub word_of_test : (w : Word) → is_word w ≡ true → IsWord w
word_of_test w h =
    let widths : (nat_le 1 w.width && nat_le w.width 128) ≡ true = and_left (nat_le 1 w.width && nat_le w.width 128) (nat_lt w.value (2 ^ w.width)) h in
    record {
      some_bits = leb-true 1 w.width (and_left (nat_le 1 w.width) (nat_le w.width 128) widths);
      few_bits = leb-true w.width 128 (and_right (nat_le 1 w.width) (nat_le w.width 128) widths);
      below = ltb-true w.value (2 ^ w.width) (and_right (nat_le 1 w.width && nat_le w.width 128) (nat_lt w.value (2 ^ w.width)) h);
    }

pub test_of_word : (w : Word) → IsWord w → is_word w ≡ true
test_of_word w is =
    both_true (nat_le 1 w.width && nat_le w.width 128) (nat_lt w.value (2 ^ w.width))
    (both_true (nat_le 1 w.width) (nat_le w.width 128) (le-leb 1 w.width is.some_bits) (le-leb w.width 128 is.few_bits))
    (lt-ltb w.value (2 ^ w.width) is.below)

same_tests : (b c : Bool) → (b ≡ true → c ≡ true) → (c ≡ true → b ≡ true) → b ≡ c
same_tests true c there back = sym (there refl)
same_tests false true there back = back refl
same_tests false false there back = refl

pub same_test : (w : Word) (b : Bool) → (IsTrue b ↔ IsWord w) → b ≡ is_word w
same_test w b h = same_tests b (is_word w) (λ e. test_of_word w (h.0 e)) (λ e. h.1 (word_of_test w e))

-- the widths of operands
abbrev pub fit_widths : BinaryOp → Word → Word → Bool
fit_widths o a b = cond (is_shift o) true (b.width == a.width)

pub first_word : (o : BinaryOp) (a b : Word) → are_operands o a b ≡ true → IsWord a
first_word o a b h = word_of_test a (and_left (is_word a) (is_word b) (and_left (is_word a && is_word b) (fit_widths o a b) h))

pub second_word : (o : BinaryOp) (a b : Word) → are_operands o a b ≡ true → IsWord b
second_word o a b h = word_of_test b (and_right (is_word a) (is_word b) (and_left (is_word a && is_word b) (fit_widths o a b) h))

pub words_of_operands : (o : BinaryOp) (a b : Word) → are_operands o a b ≡ true → is_shift o ≡ false → AreWords a b
words_of_operands o a b h plain =
    let widths : fit_widths o a b ≡ true = and_right (is_word a && is_word b) (fit_widths o a b) h in
    words_of a b (first_word o a b h) (second_word o a b h) (eqb-true b.width a.width (subst (λ t. cond t true (b.width == a.width) ≡ true) plain widths))
