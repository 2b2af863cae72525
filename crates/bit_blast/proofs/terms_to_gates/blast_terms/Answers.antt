use Rattle.std.proofs.Common.{◌++◌, ◌∷◌, [], List, ℕ, false, get_or, ap, ◌∙◌, refl}
use Rattle.bit_blast.proofs.Blasting.{table_more}
use Rattle.bit_blast.proofs.terms_to_gates.blast_terms.Goals as goal

pub loop-n-preserved : goal.loop-n-preserved
loop-n-preserved c = (
  c.in_ok-word.ensures.extends.inputs ∙ c.loop-n.invariant.0,
  table_more c.loop-n.net c.reached_word.new.net c.args.terms.now c.args.places.now c.args.marks.now (get_or c.args.marks.now c.loop-n.n false) c.loop-n.n c.loop-n.table.blocks c.put.new.self.blocks c.in_ok-word.word.items
      (c.in_ok-put.ensures.ok ∙ ap (λ (k : List ℕ). c.loop-n.table.blocks ++ k ∷ []) c.as_slice.ensures.value) refl c.loop-n.invariant.1 c.in_ok-word.ensures,
)
