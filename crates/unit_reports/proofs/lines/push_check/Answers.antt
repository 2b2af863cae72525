use Rattle.std.proofs.Common.{List, ℕ, ◌++◌, codes}
use Rattle.vk_core.specs.Class.{name_of_class}
use Rattle.unit_reports.specs.Report.{check_text, site_text}
use Rattle.unit_reports.proofs.Appending.{appended_twice}
use Rattle.unit_reports.proofs.lines.push_check.Goals as goal

pub returns : goal.returns
unfolding check_text
returns c =
    let class : List ℕ = codes "Check " ++ name_of_class c.args.check.now.breach.class in
    let site : List ℕ = class ++ codes " at " ++ site_text c.args.function.now c.args.check.now.breach in
    let word : List ℕ = site ++ codes ": " ++ c.args.word.now in
    let description : List ℕ = word ++ codes " \"" ++ c.args.check.now.description in
    let classed = appended_twice c.args.out.now.items _ _ (codes "Check ") (name_of_class c.args.check.now.breach.class) c.in_ok-push_text.ensures c.in_ok-push_class.ensures in
    let at = appended_twice c.args.out.now.items _ _ class (codes " at ") classed c.in_ok-push_text-2.ensures in
    let sited = appended_twice c.args.out.now.items _ _ (class ++ codes " at ") (site_text c.args.function.now c.args.check.now.breach) at c.in_ok-push_site.ensures in
    let colon = appended_twice c.args.out.now.items _ _ site (codes ": ") sited c.in_ok-push_text-3.ensures in
    let told = appended_twice c.args.out.now.items _ _ (site ++ codes ": ") c.args.word.now colon c.in_ok-push_text-4.ensures in
    let quoted = appended_twice c.args.out.now.items _ _ word (codes " \"") told c.in_ok-push_text-5.ensures in
    let described = appended_twice c.args.out.now.items _ _ (word ++ codes " \"") c.args.check.now.description quoted c.in_ok-push_name.ensures in
    appended_twice c.args.out.now.items _ _ description (codes "\"") described c.in_ok-push_text-6.ensures
