use Rattle.std.proofs.Common.{◌≡◌, ◌<◌, ◌*◌, ◌%◌, ◌^◌, ℕ, arith, ap, get_or, length}
use Rattle.std.specs.Prelude.{bit_or, slice_set}
use Rattle.std.proofs.lemmas.List.{get_or_read}
use Rattle.term_queries.proofs.NumberLaws.{one_bit_set}
use Rattle.term_queries.proofs.numbers.set_bit.Goals as goal

pub returns : goal.returns
returns c =
    let long = c.grow.new.numbers.items in
    let inside : c.args.bit.number < length long = omega (arith, c.in_ok-grow.ensures.inside, c.grow.new.numbers.ok.0) in
    let before : c.index_mut.result.now ≡ get_or long c.args.bit.number 0 = get_or_read long c.args.bit.number c.index_mut.result.now inside c.index_mut.ensures.value 0 in
    one_bit_set c.args.numbers.now.items long _ c.args.bit c.grow.ensures.kept inside c.requires
    (ap (λ (x : ℕ). slice_set long c.args.bit.number (bit_or x (1 * 2 ^ c.args.bit.bit % 2 ^ 128))) before)
