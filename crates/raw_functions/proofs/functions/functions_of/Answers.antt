use Rattle.std.proofs.Common.{refl}
use Rattle.raw_functions.specs.Meant.{function_at}
use Rattle.raw_functions.proofs.Joining.{made_of}
use Rattle.raw_functions.proofs.Meaning.{functions_more}
use Rattle.raw_functions.proofs.Placing.{first_place}
use Rattle.raw_functions.proofs.functions.functions_of.Goals as goal

pub loop-function-init : goal.loop-function-init
loop-function-init c = (c.new-functions.ensures.items, first_place c.args.text.now)

pub loop-function-preserved : goal.loop-function-preserved
loop-function-preserved c =
    let made = function_at c.place_from-place.result c.in-Some.function in (
      functions_more c.args.text.now c.loop-function.yielded c.in-Some.function c.place_from-place.result c.loop-function.functions.items c.push_made.new.list.items made c.loop-function.invariant.0 c.place_from-place.ensures refl
          (made_of c.function_at.result made c.loop-function.functions.items c.push_made.new.list.items c.function_at.ensures c.in_ok-push_made.ensures),
      c.place_from-place.ensures,
    )
