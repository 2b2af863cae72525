-- Words that an operation may be applied to.
use Rattle.std.specs.Prelude.{◌≡◌, IsTrue, false}
use Rattle.word_bits.specs.declared.word.Word.{Word}
use Rattle.word_bits.specs.Words.{IsWord}
use Rattle.sym_terms.specs.declared.term.TermOp.{TermOp}
use Rattle.sym_terms.specs.Ops.{is_binary, is_shift}

-- the first is a word, and so is the second where the operation looks at it, of the first one's width but for a shift
pub record AreFolded (op : TermOp) (a b : Word) : Type 0 where
  pub first : IsWord a
  pub second : IsTrue (is_binary op) → IsWord b
  pub widths : IsTrue (is_binary op) → is_shift op ≡ false → b.width ≡ a.width
