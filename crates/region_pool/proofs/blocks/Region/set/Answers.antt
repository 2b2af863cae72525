use Rattle.std.proofs.Common.{◌≡◌, ◌<◌, ◌+◌, ap, refl, length, set}
use Rattle.std.proofs.lemmas.List.{length-set}
use Rattle.region_pool.specs.Blocks.{block_at}
use Rattle.region_pool.specs.Ends.{start_of, blocks_from}
use Rattle.region_pool.proofs.Ends.{lies_at, place_within, blocks_set, fits_set}
use Rattle.region_pool.proofs.blocks.Region.set.Goals as goal

pub span_of-span-requires : goal.span_of-span-requires
span_of-span-requires c =
    let lies = lies_at _ _ _ c.args.block.number c.self.invariant.rise (ap (λ r. r.blocks) c.self.view_is) c.requires.has in
    rw c.as_slice.ensures.value lies.in_range

pub write-requires : goal.write-requires
write-requires c =
    let words = c.self.inside.words.words in
    let ends = c.self.inside.ends.items in
    let blocks = ap (λ r. r.blocks) c.self.view_is in
    let lies = lies_at words ends _ c.args.block.number c.self.invariant.rise blocks c.requires.has in
    let inside : c.args.at < length (block_at (blocks_from 0 words ends) c.args.block.number) = rw blocks c.requires.inside in
    rw (c.span_of-span.ensures.start, c.as_slice.ensures.value) (place_within words ends c.args.block.number c.args.at c.self.invariant.rise lies.in_range inside)

-- the blocks lie where they lay
pub invariant_of-self : goal.invariant_of-self
invariant_of-self c =
    let words = c.self.inside.words.words in
    let ends = c.self.inside.ends.items in
    let blocks = ap (λ r. r.blocks) c.self.view_is in
    let lies = lies_at words ends _ c.args.block.number c.self.invariant.rise blocks c.requires.has in
    let inside : c.args.at < length (block_at (blocks_from 0 words ends) c.args.block.number) = rw blocks c.requires.inside in
    let place = start_of ends c.args.block.number + c.args.at in
    let size : length (set words place c.args.word) ≡ length words = length-set words place c.args.word in
    let fits = fits_set words ends c.args.block.number c.args.at c.args.word c.self.inside.whole c.self.invariant.rise lies.in_range inside c.self.invariant.blocks_fit in
    record {
      rise = rw (c.write.ensures.words, c.span_of-span.ensures.start, c.as_slice.ensures.value, size) c.self.invariant.rise;
      words_fit = rw (c.write.ensures.words, c.span_of-span.ensures.start, c.as_slice.ensures.value, size, c.write.ensures.capacity) c.self.invariant.words_fit;
      ends_fit = c.self.invariant.ends_fit;
      few = c.self.invariant.few;
      room_fits = c.self.invariant.room_fits;
      blocks_fit = rw (c.write.ensures.words, c.span_of-span.ensures.start, c.as_slice.ensures.value) fits;
      whole_words = rw c.write.ensures.capacity c.self.invariant.whole_words;
      whole_ends = c.self.invariant.whole_ends;
      whole_few = c.self.invariant.whole_few;
    }

-- a word of the block changes, and nothing else
pub returns : goal.returns
returns c =
    let words = c.self.inside.words.words in
    let ends = c.self.inside.ends.items in
    let blocks = ap (λ r. r.blocks) c.self.view_is in
    let lies = lies_at words ends _ c.args.block.number c.self.invariant.rise blocks c.requires.has in
    let inside : c.args.at < length (block_at (blocks_from 0 words ends) c.args.block.number) = rw blocks c.requires.inside in
    let changed = blocks_set words ends c.args.block.number c.args.at c.args.word (length words) c.self.invariant.rise lies.in_range inside in
    rw (c.write.ensures.words, c.span_of-span.ensures.start, c.as_slice.ensures.value, changed, blocks, ap (λ r. r.spare) c.self.view_is) refl
