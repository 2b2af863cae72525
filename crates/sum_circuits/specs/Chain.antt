-- Terms of 64 bits.
use Rattle.std.specs.Prelude.{◌≡◌, ◌<◌, ℕ, List, length}
use Rattle.sym_terms.specs.declared.term.Term.{Term}
use Rattle.sym_terms.specs.Terms.{width_of}

-- the term with this number is there, and has 64 bits
pub record IsWide (terms : List Term) (id : ℕ) : Type 0 where
  pub inside : id < length terms
  pub width_is : width_of terms id ≡ 64
