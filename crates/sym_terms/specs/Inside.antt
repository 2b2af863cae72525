-- How terms are kept.
use Rattle.std.specs.Prelude.{◌≡◌, ◌<◌, ℕ, List, length, slice_index}
use Rattle.sym_terms.specs.declared.term.Term.{Term}
use Rattle.sym_terms.specs.declared.terms.Terms.TheInside.{Inside}
use Rattle.sym_terms.specs.Terms.{AreFitting, width_of}

abbrev pub terms_of : Inside → List Term
terms_of t = t.terms.keys

-- the terms fit, and the width of each is noted
pub record IsKept (t : Inside) : Type 0 where
  pub fitting : AreFitting t.terms.keys
  pub one_each : length t.widths.items ≡ length t.terms.keys
  pub widths : (n : ℕ) → n < length t.terms.keys → slice_index t.widths.items n ≡ width_of t.terms.keys n
