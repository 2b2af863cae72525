use Rattle.std.proofs.Common.{refl}
use Rattle.value_terms.proofs.MadeLaws.{bit_kept}
use Rattle.scalar_terms.proofs.StepLaws.{agree_second, stated_made}
use Rattle.scalar_terms.proofs.steps.assign.Goals as goal

pub rvalue_terms-requires-clause-kind : goal.rvalue_terms-requires-clause-kind
rvalue_terms-requires-clause-kind c = agree_second _ _ c.requires.form

pub split_guard-requires-clause-guard : goal.split_guard-requires-clause-guard
split_guard-requires-clause-guard c = bit_kept c.args.terms.now c.rvalue_terms.new.terms _ c.in_ok-made.ensures.grown.keeps c.requires.way.guard

pub returns : goal.returns
returns c = stated_made c.args.function.now c.args.terms.now c.rvalue_terms.new.terms c.split_guard.new.terms c.args.way.now _ c.args.failures.now.items _ c.args.block.0 c.args.index c.args.place.now c.args.value.now c.in_ok-made.made c.in_ok-t.t
    c.requires.way c.requires.failures c.requires.form (rw c.as_slice.ensures.value at c.in_ok-made.ensures) c.in_ok-t.ensures c.in_ok-note_both.ensures refl c.set_slot.ensures
