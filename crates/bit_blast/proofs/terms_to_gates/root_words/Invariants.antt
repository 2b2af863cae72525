use Rattle.std.proofs.Common.{◌≡◌, take}
use Rattle.std.specs.Prelude.{map}
use Rattle.region_pool.specs.Blocks.{block_at}
use Rattle.sym_terms.specs.declared.TermId.{TermId}
use Rattle.bit_blast.proofs.terms_to_gates.root_words.Given as goal

abbrev pub invariant-loop-k : goal.invariant-loop-k
invariant-loop-k l = map (λ word. word.items) l.words.items ≡ map (λ (root : TermId). block_at l.table.blocks root.0) (take l.k l.roots)
