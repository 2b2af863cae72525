-- What a write and an append do to blocks that are told by their ends.
use Rattle.std.proofs.Common.{◌≡◌, ℕ, zero, suc, ◌+◌, ◌-◌, ◌<◌, ◌≤◌, List, [], ◌∷◌, ◌++◌, length, set, take, drop, refl, ap, sym, ◌∙◌, arith}
use Rattle.std.specs.Prelude.{All}
use Rattle.std.proofs.lemmas.Bool.Decides.{nat_tests}
use Rattle.std.proofs.lemmas.List.{length-take, length-drop, length-set, take-append-le, drop-append-le, take_all, drop_at, take-set-le, drop-set-lt, drop-set-add}
use Rattle.std.proofs.lemmas.List.Elements.{All-set}
use Rattle.std.proofs.Math.Seq.{take-set-lt}
use Rattle.region_pool.specs.Blocks.{block_at}
use Rattle.region_pool.specs.Ends.{start_of, end_of, blocks_from, Rise}
use Rattle.region_pool.specs.Layout.{FitsWhole}

pub length_blocks_from : (start : ℕ) (words ends : List ℕ) → length (blocks_from start words ends) ≡ length ends
length_blocks_from start words [] = refl
length_blocks_from start words (end ∷ ends) = ap suc (length_blocks_from end words ends)

-- where a block starts, the first at any place
abbrev start_from : ℕ → List ℕ → ℕ → ℕ
start_from start ends zero = start
start_from start [] (suc number) = start
start_from start (end ∷ ends) (suc number) = start_from end ends number

start_from-end : (start : ℕ) (ends : List ℕ) (number : ℕ) → number < length ends → start_from start ends (suc number) ≡ end_of ends number
start_from-end start [] number in_range = absurd (omega arith)
start_from-end start (end ∷ ends) zero in_range = refl
start_from-end start (end ∷ ends) (suc number) in_range = start_from-end end ends number (omega arith)

start_of-later : (ends : List ℕ) (number : ℕ) → 0 < number → start_of ends number ≡ end_of ends (number - 1)
start_of-later ends number later = grind (arith, nat_tests)

start_of-from : (ends : List ℕ) (number : ℕ) → number < length ends → start_of ends number ≡ start_from 0 ends number
start_of-from ends zero in_range = refl
start_of-from ends (suc number) in_range =
    let e : suc number - 1 ≡ number = omega arith in
    start_of-later ends (suc number) (omega arith) ∙ (ap (end_of ends) e ∙ sym (start_from-end 0 ends number (omega arith)))

-- the last end is not before the first start
rise_last : (start : ℕ) (ends : List ℕ) (last : ℕ) → Rise start ends last → start ≤ last
rise_last start [] last rise = omega (arith, rise)
rise_last start (end ∷ ends) last rise =
    let rest : end ≤ last = rise_last end ends last rise.1 in
    omega (arith, rise.0)

-- no start is before the first
rise_start : (start : ℕ) (ends : List ℕ) (number last : ℕ) → Rise start ends last → start ≤ start_from start ends number
rise_start start ends zero last rise = omega arith
rise_start start [] (suc number) last rise = omega arith
rise_start start (end ∷ ends) (suc number) last rise =
    let rest : end ≤ start_from end ends number = rise_start end ends number last rise.1 in
    omega (arith, rise.0)

rise_at : (start : ℕ) (ends : List ℕ) (number last : ℕ) → Rise start ends last → number < length ends → (start_from start ends number ≤ end_of ends number) × (end_of ends number ≤ last)
rise_at start [] number last rise in_range = absurd (omega arith)
rise_at start (end ∷ ends) zero last rise in_range = (rise.0, rise_last end ends last rise.1)
rise_at start (end ∷ ends) (suc number) last rise in_range = rise_at end ends number last rise.1 (omega arith)

-- each block lies forward and among the words
pub lies_within : (ends : List ℕ) (number last : ℕ) → Rise 0 ends last → number < length ends → (start_of ends number ≤ end_of ends number) × (end_of ends number ≤ last)
lies_within ends number last rise in_range = rw (start_of-from ends number in_range) (rise_at 0 ends number last rise in_range)

-- one end more
pub rise_append : (start : ℕ) (ends : List ℕ) (last new : ℕ) → Rise start ends last → last ≤ new → Rise start (ends ++ new ∷ []) new
rise_append start [] last new rise more = (omega (arith, rise), refl)
rise_append start (end ∷ ends) last new rise more = (rise.0, rise_append end ends last new rise.1 more)

-- a block stays where words are appended
block_kept : (words new : List ℕ) (start end : ℕ) → start ≤ end → end ≤ length words → take (end - start) (drop start (words ++ new)) ≡ take (end - start) (drop start words)
block_kept words new start end forward within =
    let fits : start ≤ length words = omega arith in
    let rest : end - start ≤ length (drop start words) = omega (arith, length-drop start words) in
    ap (take (end - start)) (drop-append-le start words new fits) ∙ take-append-le (end - start) (drop start words) new rest

-- the appended words are the last block
blocks_from-append : (start : ℕ) (words new ends : List ℕ) (end : ℕ) → Rise start ends (length words) → end ≡ length words + length new → blocks_from start (words ++ new) (ends ++ end ∷ []) ≡ blocks_from start words ends ++ new ∷ []
blocks_from-append start words new [] end rise last =
    let count : end - start ≡ length new = omega (arith, rise, last) in
    let block : take (end - start) (drop start (words ++ new)) ≡ new = rw (count, drop_at words new start (sym rise)) (take_all (length new) new (omega arith)) in
    ap (λ (b : List ℕ). b ∷ []) block
blocks_from-append start words new (next ∷ ends) end rise last =
    let here = block_kept words new start next rise.0 (rise_last next ends (length words) rise.1) in
    let there = blocks_from-append next words new ends end rise.1 last in
    cc

pub blocks_append : (words new ends : List ℕ) (end : ℕ) → Rise 0 ends (length words) → end ≡ length words + length new → blocks_from 0 (words ++ new) (ends ++ end ∷ []) ≡ blocks_from 0 words ends ++ new ∷ []
blocks_append words new ends end rise last = blocks_from-append 0 words new ends end rise last

-- a write inside a block
block_here : (words : List ℕ) (start count at word : ℕ) → at < count → take count (drop start (set words (start + at) word)) ≡ set (take count (drop start words)) at word
block_here words start count at word inside =
    ap (take count) (drop-set-add start words at word) ∙ take-set-lt count (drop start words) at word inside

-- a write behind a block
block_before : (words : List ℕ) (start end place word : ℕ) → start ≤ end → end ≤ place → take (end - start) (drop start (set words place word)) ≡ take (end - start) (drop start words)
block_before words start end place word forward behind =
    let at = place - start in
    let there : start + at ≡ place = omega arith in
    ap (λ p. take (end - start) (drop start (set words p word))) (sym there)
    ∙ (ap (take (end - start)) (drop-set-add start words at word) ∙ take-set-le (end - start) (drop start words) at word (omega arith))

-- a write before the blocks
blocks_after : (start : ℕ) (words ends : List ℕ) (place word last : ℕ) → Rise start ends last → place < start → blocks_from start (set words place word) ends ≡ blocks_from start words ends
blocks_after start words [] place word last rise before = refl
blocks_after start words (end ∷ ends) place word last rise before =
    let here = ap (take (end - start)) (drop-set-lt start words place word before) in
    let there = blocks_after end words ends place word last rise.1 (omega (arith, rise.0)) in
    cc

blocks_from-set : (start : ℕ) (words ends : List ℕ) (number at word last : ℕ) → Rise start ends last → number < length ends → at < length (block_at (blocks_from start words ends) number) → blocks_from start (set words (start_from start ends number + at) word) ends ≡ set (blocks_from start words ends) number (set (block_at (blocks_from start words ends) number) at word)
blocks_from-set start words [] number at word last rise in_range inside = absurd (omega arith)
blocks_from-set start words (end ∷ ends) zero at word last rise in_range inside =
    let short : at < end - start = omega (arith, inside, length-take (end - start) (drop start words)) in
    let here = block_here words start (end - start) at word short in
    let there = blocks_after end words ends (start + at) word last rise.1 (omega arith) in
    cc
blocks_from-set start words (end ∷ ends) (suc number) at word last rise in_range inside =
    let place = start_from end ends number + at in
    let behind : end ≤ place = omega (arith, rise_start end ends number last rise.1) in
    let here = block_before words start end place word rise.0 behind in
    let there = blocks_from-set end words ends number at word last rise.1 (omega arith) inside in
    cc

-- a write inside a block changes that block alone
pub blocks_set : (words ends : List ℕ) (number at word last : ℕ) → Rise 0 ends last → number < length ends → at < length (block_at (blocks_from 0 words ends) number) → blocks_from 0 (set words (start_of ends number + at) word) ends ≡ set (blocks_from 0 words ends) number (set (block_at (blocks_from 0 words ends) number) at word)
blocks_set words ends number at word last rise in_range inside =
    rw (start_of-from ends number in_range) (blocks_from-set 0 words ends number at word last rise in_range inside)

block_from : (start : ℕ) (words ends : List ℕ) (number : ℕ) → number < length ends → block_at (blocks_from start words ends) number ≡ take (end_of ends number - start_from start ends number) (drop (start_from start ends number) words)
block_from start words [] number in_range = absurd (omega arith)
block_from start words (end ∷ ends) zero in_range = refl
block_from start words (end ∷ ends) (suc number) in_range = block_from end words ends number (omega arith)

-- the block with this number is what lies from its start to its end
pub block_lies : (words ends : List ℕ) (number : ℕ) → number < length ends → block_at (blocks_from 0 words ends) number ≡ take (end_of ends number - start_of ends number) (drop (start_of ends number) words)
block_lies words ends number in_range = rw (start_of-from ends number in_range) (block_from 0 words ends number in_range)

-- a place inside a block is a place inside the words
pub place_within : (words ends : List ℕ) (number at : ℕ) → Rise 0 ends (length words) → number < length ends → at < length (block_at (blocks_from 0 words ends) number) → start_of ends number + at < length words
place_within words ends number at rise in_range inside =
    let lies = lies_within ends number (length words) rise in_range in
    let size = ap length (block_lies words ends number in_range) in
    omega (arith, inside, lies.0, lies.1, size, length-take (end_of ends number - start_of ends number) (drop (start_of ends number) words))

-- the facts of a block with this number, as the list of blocks tells it
pub record LiesAt (words ends block : List ℕ) (number : ℕ) : Type 0 where
  pub in_range : number < length ends
  pub forward : start_of ends number ≤ end_of ends number
  pub inside : end_of ends number ≤ length words
  pub is : block ≡ take (end_of ends number - start_of ends number) (drop (start_of ends number) words)

pub lies_at : (words ends : List ℕ) (blocks : List (List ℕ)) (number : ℕ) → Rise 0 ends (length words) → blocks_from 0 words ends ≡ blocks → number < length blocks → LiesAt words ends (block_at blocks number) number
lies_at words ends blocks number rise view in_range =
    let lt : number < length ends = omega (arith, in_range, ap length view, length_blocks_from 0 words ends) in
    let lies = lies_within ends number (length words) rise lt in
    record {
      in_range = lt;
      forward = lies.0;
      inside = lies.1;
      is = ap (λ all. block_at all number) (sym view) ∙ block_lies words ends number lt;
    }

-- no block grows by a write inside one
pub fits_set : (words ends : List ℕ) (number at word whole : ℕ) → Rise 0 ends (length words) → number < length ends → at < length (block_at (blocks_from 0 words ends) number) → All (FitsWhole whole) (blocks_from 0 words ends) → All (FitsWhole whole) (blocks_from 0 (set words (start_of ends number + at) word) ends)
fits_set words ends number at word whole rise in_range inside fits =
    let blocks = blocks_from 0 words ends in
    let block = block_at blocks number in
    let old : length block < whole = fits number [] (omega (arith, in_range, length_blocks_from 0 words ends)) in
    let new : length (set block at word) < whole = omega (arith, old, length-set block at word) in
    rw (blocks_set words ends number at word (length words) rise in_range inside) (All-set (FitsWhole whole) blocks number (set block at word) new fits)
