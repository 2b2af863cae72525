-- What laws of words make of an operation whose second operand is a constant, or the first operand again.
use Rattle.std.specs.Prelude.{◌≡◌, ℕ, IsTrue, false}
use Rattle.word_bits.specs.declared.word.Word.{Word}
use Rattle.word_bits.specs.Words.{IsWord}
use Rattle.sym_terms.specs.declared.term.TermOp.{TermOp}
use Rattle.sym_terms.specs.declared.laws.Law.{Law}
use Rattle.sym_terms.specs.declared.laws.Law.TheVariants.{First, Value, Applied}
use Rattle.sym_terms.specs.Ops.{is_binary, is_shift}
use Rattle.sym_terms.specs.Terms.{applied, op_width, is_shift_width}

-- the value of the simpler form, where the first operand has this one
abbrev pub law_value : Law → Word → Word
law_value First x = x
law_value (Value w) x = w
law_value (Applied op c) x = applied op x c

-- the widths of the simpler form are those of the operation at this width
abbrev pub IsLawFitting : TermOp → ℕ → Law → Type 0
IsLawFitting op width First = op_width op width ≡ width
IsLawFitting op width (Value w) = IsWord w × (w.width ≡ op_width op width)
IsLawFitting op width (Applied other c) =
    IsWord c
    × (IsTrue (is_shift other) → IsTrue (is_shift_width width))
    × (IsTrue (is_binary other) → is_shift other ≡ false → c.width ≡ width)
    × (op_width other width ≡ op_width op width)

-- an operation with this constant has the value of the simpler form
pub record IsLaw (op : TermOp) (width : ℕ) (c : Word) (law : Law) : Type 0 where
  pub fitting : IsLawFitting op width law
  pub value_is : (x : Word) → IsWord x → x.width ≡ width → law_value law x ≡ applied op x c

-- an operation at one word twice has the value of the simpler form
pub record IsSameLaw (op : TermOp) (width : ℕ) (law : Law) : Type 0 where
  pub fitting : IsLawFitting op width law
  pub value_is : (x : Word) → IsWord x → x.width ≡ width → law_value law x ≡ applied op x x
