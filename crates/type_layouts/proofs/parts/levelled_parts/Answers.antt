use Rattle.std.proofs.Common.{◌≡◌, true, bytes_eq, rules}
use Rattle.type_layouts.specs.Parts.{one_level}
use Rattle.type_layouts.proofs.PartLaws.{stable_at}
use Rattle.type_layouts.proofs.parts.levelled_parts.Goals as goal

pub returns-then-is_same : goal.returns-then-is_same
returns-then-is_same c =
    let made : c.in_ok-next.next.items ≡ one_level c.args.outlines.now c.loop-left.table.items = search rules in
    let same : bytes_eq c.in_ok-next.next.items c.loop-left.table.items ≡ true = search rules in
    stable_at c.loop-left.left c.args.outlines.now c.loop-left.table.items c.in_ok-next.next.items _ c.loop-left.invariant made same
