use Rattle.std.proofs.Common.{Vec, Global, ℕ, ◌+◌, subst, sym, ◌∙◌}
use Rattle.bit_blast.specs.Inputs.{AreFew, HaveWidths}
use Rattle.bit_blast.proofs.Widths.{few_set, have_passed, have_set, input_small}
use Rattle.bit_blast.proofs.inputs.input_widths.Goals as goal
use Rattle.bit_blast.proofs.inputs.input_widths.Goals.{in-Some+else-number+in_ok-set_width, in_default}

pub loop-n-preserved : goal.loop-n-preserved
loop-n-preserved c = record {
  have = elim c.match-input_of_term.branch [
    | in-Some+else-number+in_ok-set_width w ↦
        subst (λ (v : Vec ℕ Global). HaveWidths c.args.terms.now (c.loop-n.n + 1) v.items) (sym w.widths-is)
        (have_set c.args.terms.now c.loop-n.n c.term.result w.in-Some.number w.in-Some.width c.loop-n.widths.items w.set_width.new.widths.items c.term.ensures.fitting c.term.ensures.term (sym c.input_of_term.ensures ∙ w.in-Some.is) w.in_ok-set_width.ensures c.loop-n.invariant.have)
    | in_default w ↦
        subst (λ (v : Vec ℕ Global). HaveWidths c.args.terms.now (c.loop-n.n + 1) v.items) (sym w.widths-is)
        (have_passed c.args.terms.now c.loop-n.n c.term.result c.loop-n.widths.items c.term.ensures.term (sym c.input_of_term.ensures ∙ w.in_default.is) c.loop-n.invariant.have)
  ];
  few = elim c.match-input_of_term.branch [
    | in-Some+else-number+in_ok-set_width w ↦
        subst (λ (v : Vec ℕ Global). AreFew v.items) (sym w.widths-is)
        (few_set c.loop-n.widths.items w.set_width.new.widths.items w.in-Some.number w.in-Some.width (input_small c.args.terms.now c.loop-n.n c.term.result w.in-Some.number w.in-Some.width c.term.ensures.fitting c.term.ensures.term (sym c.input_of_term.ensures ∙ w.in-Some.is)) c.loop-n.invariant.few w.in_ok-set_width.ensures)
    | in_default w ↦ subst (λ (v : Vec ℕ Global). AreFew v.items) (sym w.widths-is) c.loop-n.invariant.few
  ];
}
