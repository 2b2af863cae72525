-- What each operation gives is a word again.
use Rattle.std.proofs.Common.{◌≡◌, ℕ, ◌^◌, ◌<◌, ap, refl, subst, arith}
use Rattle.std.proofs.Math.Nat.{mod-lt, mod-eq_of_lt}
use Rattle.std.proofs.lemmas.Nat.{pow_pos, and_le_l, or_lt, xor_lt}
use Rattle.word_bits.proofs.Cuts.{word_at}
use Rattle.std.specs.Prelude.{ℤ, pos, negsuc}
use Rattle.word_bits.specs.declared.word.Word.{Word}
use Rattle.word_bits.specs.Words.{IsWidth, IsWord, AreWords, word, word_of, both_bits, either_bit, different_bits, complement}

pub IsWord-word : (width n : ℕ) → IsWidth width → IsWord (word width n)
IsWord-word width n is = record {
  some_bits = is.some_bits;
  few_bits = is.few_bits;
  below = mod-lt n (pow_pos width);
}

pub IsWord-word_of : (width : ℕ) (z : ℤ) → IsWidth width → IsWord (word_of width z)
IsWord-word_of width (pos n) is = IsWord-word width n is
IsWord-word_of width (negsuc n) is = record {
  some_bits = is.some_bits;
  few_bits = is.few_bits;
  below = let some : 0 < 2 ^ width = pow_pos width in omega arith;
}

pub width-word_of : (width : ℕ) (z : ℤ) → (word_of width z).width ≡ width
width-word_of width (pos n) = refl
width-word_of width (negsuc n) = refl

-- the width of a word is one
pub width_of_word : (w : Word) → IsWord w → IsWidth w.width
width_of_word w is = record { some_bits = is.some_bits; few_bits = is.few_bits }

-- two words of one width
pub words_of : (a b : Word) → IsWord a → IsWord b → b.width ≡ a.width → AreWords a b
words_of a b first second e = record {
  some_bits = first.some_bits;
  few_bits = first.few_bits;
  one_width = e;
  first = first.below;
  second = subst (λ (k : ℕ). b.value < 2 ^ k) e second.below;
}

pub IsWord-first : (a b : Word) → AreWords a b → IsWord a
IsWord-first a b are = record { some_bits = are.some_bits; few_bits = are.few_bits; below = are.first }

pub IsWord-second : (a b : Word) → AreWords a b → IsWord b
IsWord-second a b are = record {
  some_bits = rw are.one_width are.some_bits;
  few_bits = rw are.one_width are.few_bits;
  below = rw are.one_width are.second;
}

pub IsWord-both_bits : (a b : Word) → AreWords a b → IsWord (both_bits a b)
IsWord-both_bits a b are = record {
  some_bits = are.some_bits;
  few_bits = are.few_bits;
  below = omega (arith, and_le_l a.value b.value, are.first);
}

pub IsWord-either_bit : (a b : Word) → AreWords a b → IsWord (either_bit a b)
IsWord-either_bit a b are = record {
  some_bits = are.some_bits;
  few_bits = are.few_bits;
  below = or_lt a.width a.value b.value are.first are.second;
}

pub IsWord-different_bits : (a b : Word) → AreWords a b → IsWord (different_bits a b)
IsWord-different_bits a b are = record {
  some_bits = are.some_bits;
  few_bits = are.few_bits;
  below = xor_lt a.width a.value b.value are.first are.second;
}

pub IsWord-complement : (a : Word) → IsWord a → IsWord (complement a)
IsWord-complement a is = record {
  some_bits = is.some_bits;
  few_bits = is.few_bits;
  below = let some : 0 < 2 ^ a.width = pow_pos a.width in omega arith;
}

-- a word is the number cut to its width
pub word-value : (w : Word) → IsWord w → word w.width w.value ≡ w
word-value w is = ap (word_at w.width) (mod-eq_of_lt is.below)
