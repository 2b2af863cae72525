use Rattle.std.proofs.Common.{◌≡◌, ◌∙◌, ap, sym, arith, ◌+◌, ◌<◌, ◌++◌, ◌∷◌, [], length, length-append, true}
use Rattle.std.specs.Prelude.{is_ok, All}
use Rattle.std.proofs.lemmas.List.Elements.{All-push}
use Rattle.region_pool.specs.Ends.{Rise, blocks_from}
use Rattle.region_pool.specs.Layout.{FitsWhole}
use Rattle.region_pool.proofs.Ends.{rise_append, blocks_append}
use Rattle.region_pool.proofs.blocks.Region.append.Goals as goal

-- the block and its end are appended
pub invariant_of-self : goal.invariant_of-self
invariant_of-self c =
    let room = ap (λ r. r.spare) c.self.view_is in
    let pushed : is_ok c.push.result ≡ true = c.push.ensures.succeeds (omega (arith, c.self.invariant.ends_fit, c.requires, room)) in
    let words = c.self.inside.words.words in
    let new = c.args.words.now in
    let ends = c.self.inside.ends.items in
    let end = c.copy_in-end.result in
    let size : end ≡ length words + length new = c.copy_in-end.ensures.end in
    let rise : Rise 0 (ends ++ end ∷ []) end = rise_append 0 ends (length words) end c.self.invariant.rise (omega (arith, size)) in
    let last : length (words ++ new) ≡ end = length-append words new ∙ sym size in
    let shorter : length new < c.self.inside.whole = omega (arith, c.self.invariant.room_fits, c.requires, room) in
    let fits : All (FitsWhole c.self.inside.whole) (blocks_from 0 words ends ++ new ∷ []) = All-push (FitsWhole c.self.inside.whole) _ new c.self.invariant.blocks_fit shorter in
    record {
      rise = rw (c.copy_in-end.ensures.words, c.push.ensures.items, pushed, last) rise;
      words_fit = omega (arith, ap length c.copy_in-end.ensures.words, last, size, c.copy_in-end.ensures.capacity, c.self.invariant.words_fit, c.requires, room);
      ends_fit = omega (arith, c.push.ensures.len, c.push.ensures.upper_bound, c.push.ensures.capacity, c.self.invariant.ends_fit, c.requires, room);
      few = omega (arith, c.push.ensures.upper_bound, c.self.invariant.few, c.requires, room);
      room_fits = omega (arith, c.self.invariant.room_fits);
      blocks_fit = rw (c.copy_in-end.ensures.words, c.push.ensures.items, pushed, blocks_append words new ends end c.self.invariant.rise size) fits;
      whole_words = omega (arith, c.copy_in-end.ensures.capacity, c.self.invariant.whole_words);
      whole_ends = omega (arith, c.push.ensures.capacity, c.self.invariant.whole_ends);
      whole_few = c.self.invariant.whole_few;
    }

-- the words that were copied in are the last block
pub returns-clause-blocks : goal.returns-clause-blocks
returns-clause-blocks c =
    let pushed : is_ok c.push.result ≡ true = c.push.ensures.succeeds (omega (arith, c.self.invariant.ends_fit, c.requires, ap (λ r. r.spare) c.self.view_is)) in
    rw (c.copy_in-end.ensures.words, c.push.ensures.items, pushed)
    (blocks_append c.self.inside.words.words c.args.words.now c.self.inside.ends.items c.copy_in-end.result c.self.invariant.rise c.copy_in-end.ensures.end
    ∙ ap (λ r. r.blocks ++ c.args.words.now ∷ []) c.self.view_is)
