use Rattle.value_terms.proofs.RvalueLaws.{cast_of}
use Rattle.value_terms.proofs.rvalues.cast_to.Goals as goal

pub returns : goal.returns
returns c = cast_of c.args.function.now c.args.terms.now c.cast_terms.new.terms c.args.slots.now c.args.operand.now c.args.cast c.args.target c.in-Some.kind _ _ c.in-IntToInt.is c.in-Some.is c.requires.kind
    (rw c.is_signed_operand-signed.ensures at c.in_ok-t-in-Some.ensures)
