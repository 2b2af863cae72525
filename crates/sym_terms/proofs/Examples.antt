-- Values of terms, by computation.
use Rattle.std.proofs.Common.{◌≡◌, ℕ, List, [], ◌∷◌, refl, true}
use Rattle.word_bits.specs.declared.word.Word.{Word}
use Rattle.sym_terms.specs.declared.term.Term.{Term}
use Rattle.sym_terms.specs.declared.term.Term.TheVariants.{Constant, Input, Apply, Cast, Choose, Slice}
use Rattle.sym_terms.specs.declared.term.TermId.{TermId}
use Rattle.sym_terms.specs.declared.term.TermOp.TheVariants.{Mul, Equal, DivSigned}
use Rattle.sym_terms.specs.Evaluated.{evaluated}
use Rattle.sym_terms.specs.Terms.{value, width_of}

abbrev id : ℕ → TermId
id n = record { 0 = n }

abbrev bits : ℕ → ℕ → Word
bits width value = record { width = width; value = value }

-- twice an input of 8 bits, whether that is 144, a choice by the test, its upper half, and the least value by -1
abbrev terms : List Term
terms =
    Input 0 8 ∷ Constant (bits 8 2) ∷ Apply Mul (id 0) (id 1) ∷ Constant (bits 8 144) ∷ Apply Equal (id 2) (id 3) ∷ Choose (id 4) (id 0) (id 1)
    ∷ Slice (id 0) 4 4 ∷ Cast (id 0) true 16 ∷ Constant (bits 8 128) ∷ Constant (bits 8 255) ∷ Apply DivSigned (id 8) (id 9) ∷ []

abbrev inputs : ℕ → ℕ
inputs n = 200

wraps : value terms inputs 2 ≡ bits 8 144
unfolding value evaluated
wraps = refl

is_equal : value terms inputs 4 ≡ bits 1 1
unfolding value evaluated
is_equal = refl

chooses : value terms inputs 5 ≡ bits 8 200
unfolding value evaluated
chooses = refl

upper_half : value terms inputs 6 ≡ bits 4 12
unfolding value evaluated
upper_half = refl

extends : value terms inputs 7 ≡ bits 16 65480
unfolding value evaluated
extends = refl

not_lawful : value terms inputs 10 ≡ bits 8 0
unfolding value evaluated
not_lawful = refl

width_of_test : width_of terms 4 ≡ 1
unfolding width_of evaluated
width_of_test = refl
