-- Which terms the roots reach.
use Rattle.std.specs.Prelude.{ℕ, Bool, false, ◌&&◌, ◌||◌, ◌==◌, List, Option, Some, None, slice_get}
use Rattle.std.specs.List.{list_any}
use Rattle.sym_terms.specs.declared.term.Term.{Term}
use Rattle.sym_terms.specs.declared.term.Term.TheVariants.{Constant, Input, Apply, Cast, Choose, Slice}
use Rattle.sym_terms.specs.declared.TermId.{TermId}
use Rattle.sym_terms.specs.Ops.{is_binary}

-- the term with this number is a part of the term
abbrev pub has_part : ℕ → Term → Bool
has_part k (Constant w) = false
has_part k (Input number width) = false
has_part k (Apply op a b) = a.0 == k || (is_binary op && b.0 == k)
has_part k (Cast a signed width) = a.0 == k
has_part k (Choose test a b) = test.0 == k || a.0 == k || b.0 == k
has_part k (Slice a from width) = a.0 == k

abbrev pub part_of_some : ℕ → Option Term → Bool
part_of_some k None = false
part_of_some k (Some term) = has_part k term

-- the first term is a part of the second
abbrev pub is_part : List Term → ℕ → ℕ → Bool
is_part terms k n = part_of_some k (slice_get terms n)

-- the term with this number is a root
abbrev pub is_root : List TermId → ℕ → Bool
is_root roots k = list_any (λ root. root.0 == k) roots
