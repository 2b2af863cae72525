use Rattle.std.proofs.Common.{◌≡◌, ◌+◌, ◌-◌, ℕ, Bool, true, false, List, length, take, drop, get_or, ◌++◌, sym, ap, ◌∙◌, subst, arith, Vec, Global}
use Rattle.std.specs.Prelude.{map}
use Rattle.bit_gates.specs.declared.gate.Gate.TheVariants.{True}
use Rattle.gate_trim.specs.Reading.{reads, stands_in, gate_reads}
use Rattle.gate_trim.specs.Marks.{AreMarked, AreWanted}
use Rattle.gate_trim.proofs.MarkLaws.{written_back, wanted_gate}
use Rattle.std.proofs.lemmas.List.{get_or_read}
use Rattle.gate_trim.proofs.marks.wanted_gates.Goals as goal

pub loop-k-preserved-then-index : goal.loop-k-preserved-then-index
loop-k-preserved-then-index c =
    let roots : ℕ → Bool = λ k. stands_in (c.args.inputs + k) (map (λ (w : Vec ℕ Global). w.items) c.args.roots.now) in
    let long : length c.loop-k.marks.items ≡ c.loop-k.marks.len = omega (arith, c.loop-k.marks.ok.0) in
    let as_long : length c.mark_reads.new.marks ≡ c.loop-k.marks.len = c.mark_reads.ensures.one_each ∙ ap length c.as_mut_slice-then-index.ensures.value ∙ long in
    let written : take c.loop-k.marks.len (c.mark_reads.new.marks ++ drop (length c.mark_reads.new.marks) c.loop-k.marks.items) ≡ c.mark_reads.new.marks = written_back c.loop-k.marks.len c.loop-k.marks.items c.mark_reads.new.marks long as_long in
    let here : get_or c.loop-k.marks.items (c.loop-k.k - 1) false ≡ true =
    sym (get_or_read c.loop-k.marks.items (c.loop-k.k - 1) c.index.result.now (omega (arith, c.loop-k-test.true, c.loop-k.invariant.low, c.loop-k.invariant.one_each)) c.index.ensures false) ∙ c.if-index.true in
    let marked : AreMarked c.loop-k.marks.items c.mark_reads.new.marks (λ i. reads (c.args.inputs + i) (get_or c.args.gates.now (c.loop-k.k - 1) True)) =
    subst (λ (m : List Bool). AreMarked m c.mark_reads.new.marks (λ i. reads (c.args.inputs + i) (get_or c.args.gates.now (c.loop-k.k - 1) True))) c.as_mut_slice-then-index.ensures.value c.mark_reads.ensures in
    record {
      low = omega (arith, c.loop-k.invariant.low);
      one_each = ap length written ∙ as_long ∙ sym long ∙ c.loop-k.invariant.one_each;
      wanted = subst (λ (m : List Bool). AreWanted roots (gate_reads c.args.inputs c.args.gates.now) (c.loop-k.k - 1) m) (sym written)
          (wanted_gate c.args.inputs c.args.gates.now roots c.loop-k.k (c.loop-k.k - 1) c.loop-k.marks.items c.mark_reads.new.marks c.requires c.loop-k.invariant.low (omega (arith, c.loop-k-test.true)) c.loop-k.invariant.one_each here marked c.loop-k.invariant.wanted);
    }
