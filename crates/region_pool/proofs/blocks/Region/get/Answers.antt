use Rattle.std.proofs.Common.{ap, sym}
use Rattle.region_pool.proofs.Ends.{lies_at}
use Rattle.region_pool.proofs.blocks.Region.get.Goals as goal

pub span_of-span-requires : goal.span_of-span-requires
span_of-span-requires c =
    let lies = lies_at _ _ _ c.args.block.number c.self.invariant.rise (ap (λ r. r.blocks) c.self.view_is) c.requires in
    rw c.as_slice.ensures.value lies.in_range

pub lend-requires-clause-forward : goal.lend-requires-clause-forward
lend-requires-clause-forward c =
    let lies = lies_at _ _ _ c.args.block.number c.self.invariant.rise (ap (λ r. r.blocks) c.self.view_is) c.requires in
    rw (c.span_of-span.ensures.start, c.span_of-span.ensures.end, c.as_slice.ensures.value) lies.forward

pub lend-requires-clause-inside : goal.lend-requires-clause-inside
lend-requires-clause-inside c =
    let lies = lies_at _ _ _ c.args.block.number c.self.invariant.rise (ap (λ r. r.blocks) c.self.view_is) c.requires in
    rw (c.span_of-span.ensures.end, c.as_slice.ensures.value) lies.inside

-- what lies from the block's start to its end is lent
pub returns : goal.returns
returns c =
    let lies = lies_at _ _ _ c.args.block.number c.self.invariant.rise (ap (λ r. r.blocks) c.self.view_is) c.requires in
    rw (c.lend.ensures, c.span_of-span.ensures.start, c.span_of-span.ensures.end, c.as_slice.ensures.value) (sym lies.is)
