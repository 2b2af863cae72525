use Rattle.std.proofs.Common.{◌≡◌, get_or, arith}
use Rattle.std.proofs.lemmas.Bool.Decides.{nat_tests}
use Rattle.refute_check.proofs.MarkFacts.{true_in, in_true}
use Rattle.refute_check.proofs.marks.is_true.Goals as goal

pub returns : goal.returns
returns c =
    let marks = c.args.marks.now in (
      λ yes.
          let same : get_or marks c.args.literal 0 ≡ c.args.stamp = grind (arith, nat_tests) in
          in_true c.args.stamp marks c.args.literal c.requires same,
      λ member.
          let m = true_in c.args.stamp marks c.args.literal member in
          grind (arith, nat_tests, m.1),
    )
