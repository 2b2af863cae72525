use Rattle.std.proofs.Common.{◌≡◌, Some, find, ap, ◌∙◌}
use Rattle.type_layouts.specs.Parts.{is_too_big, parts_table}
use Rattle.layout_rules.specs.declared.fault.LayoutKind.TheVariants as kind
use Rattle.layout_rules.proofs.JudgeLaws.{named_big, refused}
use Rattle.layout_rules.proofs.check.judge_too_big.Goals as goal

pub returns-in-Some : goal.returns-in-Some
returns-in-Some c =
    let all = c.args.laid.now.outlines.items in
    let rows = c.args.laid.now.rows.items in
    let row = c.in-Some.row.now in
    let table = c.as_slice-2.result.now in
    let e : table ≡ parts_table all = c.as_slice-2.ensures.value ∙ c.in_ok-table.ensures ∙ ap parts_table c.as_slice.ensures.value in
    let found : Some row ≡ find (λ r. is_too_big table r.extent) rows = c.in-Some.ensures ∙ ap (find (λ r. is_too_big table r.extent)) c.as_slice-3.ensures.value in
    refused all rows kind.TooBig row.text c.refusal.result c.refusal.ensures (named_big all table rows row e found)
