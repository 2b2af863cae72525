use Rattle.std.proofs.Common.{List, ℕ, [], ◌∷◌, ◌++◌, codes}
use Rattle.std.specs.Fmt.{decimal}
use Rattle.unit_reports.specs.Report.{check_text, spent_line}
use Rattle.unit_reports.proofs.Appending.{appended_decimal, appended_line, appended_twice}
use Rattle.unit_reports.proofs.lines.push_spent.Goals as goal

pub returns : goal.returns
unfolding spent_line
returns c =
    let told : List ℕ = check_text c.args.function.now c.args.check.now (codes "UNDETERMINED") in
    let after = appended_twice c.args.out.now.items _ _ told (codes " after ") c.in_ok-push_check.ensures c.in_ok-push_text.ensures in
    let counted = appended_decimal c.args.out.now.items _ _ (told ++ codes " after ") _ c.args.lines c.from.ensures after c.in_ok-push_decimal.ensures in
    appended_line c.args.out.now.items _ _ (told ++ codes " after " ++ decimal c.args.lines) (codes " conflicts") (10 ∷ []) counted c.in_ok-push_text-2.ensures
