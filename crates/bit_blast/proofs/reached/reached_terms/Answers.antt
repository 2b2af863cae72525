use Rattle.std.proofs.Common.{◌≡◌, ◌-◌, Bool, true, false, List, length, take, drop, get_or, ◌++◌, sym, ap, ◌∙◌, subst, arith}
use Rattle.std.proofs.lemmas.List.{get_or_read}
use Rattle.gate_trim.specs.Marks.{AreMarked, AreWanted}
use Rattle.gate_trim.proofs.MarkLaws.{written_back}
use Rattle.bit_blast.specs.Reached.{has_part, is_part, is_root}
use Rattle.bit_blast.proofs.Reaching.{reached_on}
use Rattle.bit_blast.proofs.reached.reached_terms.Goals as goal

pub loop-n-preserved-then-index : goal.loop-n-preserved-then-index
loop-n-preserved-then-index c =
    let long : length c.loop-n.marks.items ≡ c.loop-n.marks.len = omega (arith, c.loop-n.marks.ok.0) in
    let as_long : length c.mark_parts.new.marks ≡ c.loop-n.marks.len = c.mark_parts.ensures.one_each ∙ ap length c.as_mut_slice-then-index.ensures.value ∙ long in
    let written : take c.loop-n.marks.len (c.mark_parts.new.marks ++ drop (length c.mark_parts.new.marks) c.loop-n.marks.items) ≡ c.mark_parts.new.marks = written_back c.loop-n.marks.len c.loop-n.marks.items c.mark_parts.new.marks long as_long in
    let here : get_or c.loop-n.marks.items (c.loop-n.n - 1) false ≡ true =
    sym (get_or_read c.loop-n.marks.items (c.loop-n.n - 1) c.index.result.now (omega (arith, c.loop-n-test.true, c.loop-n.invariant.low, c.loop-n.invariant.one_each)) c.index.ensures false) ∙ c.if-index.true in
    let marked : AreMarked c.loop-n.marks.items c.mark_parts.new.marks (λ k. has_part k c.term.result) =
    subst (λ (m : List Bool). AreMarked m c.mark_parts.new.marks (λ k. has_part k c.term.result)) c.as_mut_slice-then-index.ensures.value c.mark_parts.ensures in
    record {
      low = omega (arith, c.loop-n.invariant.low);
      one_each = ap length written ∙ as_long ∙ sym long ∙ c.loop-n.invariant.one_each;
      wanted = subst (λ (m : List Bool). AreWanted (is_root c.args.roots.now) (is_part c.args.terms.now) (c.loop-n.n - 1) m) (sym written)
          (reached_on c.args.terms.now (is_root c.args.roots.now) c.loop-n.n (c.loop-n.n - 1) c.term.result c.loop-n.marks.items c.mark_parts.new.marks c.term.ensures.fitting c.term.ensures.term (omega (arith, c.loop-n.invariant.low, c.loop-n.invariant.one_each)) (omega (arith, c.loop-n-test.true)) here marked c.loop-n.invariant.wanted);
    }
