-- The blocks of a function are well made: apart, within the limit, and countable, with right constants.
use Rattle.std.proofs.Common.{◌≡◌, ℕ, ◌+◌, ◌^◌, ◌<◌, ◌≤◌, ◌==◌, ◌||◌, Bool, true, false, if◌then◌else◌, List, [], ◌∷◌, length, map, flat_map, Option, Some, None, refl, sym, ◌∙◌, ap, subst, arith, All, length-append}
use Rattle.std.specs.List.{list_any}
use Rattle.std.proofs.lemmas.Bool.{or_parts, ne_eqb}
use Rattle.mir_ir.specs.declared.tree.Statement.{Statement}
use Rattle.mir_ir.specs.declared.tree.Block.{Block}
use Rattle.mir_grammar.specs.declared.trees.Ending.{Ending}
use Rattle.mir_grammar.specs.declared.trees.Ending.TheVariants.{Settled, Calling}
use Rattle.mir_grammar.specs.declared.trees.RawBlock.{RawBlock}
use Rattle.mir_grammar.specs.Places.{is_far}
use Rattle.mir_grammar.specs.Values.{all_passed}
use Rattle.mir_grammar.specs.Blocks.{Kept}
use Rattle.raw_functions.specs.Doubles.{label_spots, second_of}
use Rattle.raw_functions.specs.Limits.{block_all_passed, blocks_passed}
use Rattle.raw_functions.specs.Meant.{terminator_of, kept_before, kept_of, block_of, blocks_among}
use Rattle.canonical_text.specs.Places.{label_text}
use Rattle.print_laws.proofs.Distinct.{Apart, Distinct, distinct_map, names, second_distinct}
use Rattle.print_laws.proofs.Worded.{AllLabelled}
use Rattle.mir_program.specs.Apart.{AreApart}
use Rattle.mir_program.specs.Joined.{written}
use Rattle.mir_program.specs.Functions.{statement_operands, terminator_operands, block_operands, IsOperand, IsBlock, same_block}
use Rattle.mir_program.specs.Mentions.{statement_types, terminator_types, block_types}
use Rattle.program_laws.proofs.Takes.{Every, total}
use Rattle.program_laws.proofs.StatementsTake.{statement_right, statement_weight, IsRightStatement, kept_weight, ending_operands, ending_types}
use Rattle.program_laws.proofs.TextTakes.{IsRightBlock, block_weight}
use Rattle.program_laws.proofs.LocalsMade.{every_all, every_both, neither, near}

-- Numbers.

abbrev AreNear : List RawBlock → Type 0
AreNear bs = Every (λ (b : RawBlock). b.id.0 ≤ 4095) bs

pub blocks_near : (bs : List RawBlock) → (blocks_passed bs).blocks ≡ false → AreNear bs
blocks_near [] h = tt
blocks_near (b ∷ bs) h =
    let p = or_parts (block_all_passed b).blocks (blocks_passed bs).blocks h in
    (near b.id.0 (or_parts (is_far b.id.0) ((all_passed b.statements).blocks || b.ending.passed.blocks) p.0).0, blocks_near bs p.1)

abbrev raw_numbers : List RawBlock → List ℕ
raw_numbers [] = []
raw_numbers (b ∷ bs) = b.id.0 ∷ raw_numbers bs

abbrev kept_numbers : List Block → List ℕ
kept_numbers [] = []
kept_numbers (b ∷ bs) = b.id.0 ∷ kept_numbers bs

label_names : (bs : List RawBlock) → AllLabelled bs → AreNear bs → names (label_spots bs) ≡ map label_text (raw_numbers bs)
label_names [] h n = refl
label_names (b ∷ bs) h n = ap (λ x. x ∷ names (label_spots bs)) (h.0.canonical n.0) ∙ ap (λ x. label_text b.id.0 ∷ x) (label_names bs h.1 n.1)

apart_kept : (e : ℕ → Bool) (n : ℕ) (bs : List RawBlock) → Apart n (raw_numbers bs) → Apart n (kept_numbers (blocks_among e bs))
apart_kept e n [] h = tt
apart_kept e n (b ∷ bs) h = by_kind b.is_cleanup (apart_kept e n bs h.1)
  where
    by_kind : (c : Bool) → Apart n (kept_numbers (blocks_among e bs)) → Apart n (kept_numbers (if c then blocks_among e bs else block_of e b ∷ blocks_among e bs))
    by_kind true k = k
    by_kind false k = (h.0, k)

distinct_kept : (e : ℕ → Bool) (bs : List RawBlock) → Distinct (raw_numbers bs) → Distinct (kept_numbers (blocks_among e bs))
distinct_kept e [] h = tt
distinct_kept e (b ∷ bs) h = by_kind b.is_cleanup (distinct_kept e bs h.1)
  where
    by_kind : (c : Bool) → Distinct (kept_numbers (blocks_among e bs)) → Distinct (kept_numbers (if c then blocks_among e bs else block_of e b ∷ blocks_among e bs))
    by_kind true k = k
    by_kind false k = (apart_kept e b.id.0 bs h.0, k)

unlike : (b : Block) (bs : List Block) → Apart b.id.0 (kept_numbers bs) → list_any (same_block b) bs ≡ false
unlike b [] h = refl
unlike b (c ∷ cs) h = neither (b.id.0 == c.id.0) (list_any (same_block b) cs) (ne_eqb b.id.0 c.id.0 h.0) (unlike b cs h.1)

apart_blocks : (bs : List Block) → Distinct (kept_numbers bs) → AreApart same_block bs
apart_blocks [] h = tt
apart_blocks (b ∷ bs) h = (unlike b bs h.0, apart_blocks bs h.1)

pub blocks_apart : (e : ℕ → Bool) (bs : List RawBlock) → AllLabelled bs → AreNear bs → second_of (label_spots bs) ≡ None → AreApart same_block (blocks_among e bs)
blocks_apart e bs w n h = apart_blocks (blocks_among e bs) (distinct_kept e bs (distinct_map label_text (raw_numbers bs) (subst (λ x. Distinct x) (label_names bs w n) (second_distinct (label_spots bs) h))))

-- Operands and types.

kept_right : (ks : List Kept) → Every IsRightStatement ks → Every IsOperand (flat_map statement_operands (kept_of ks))
kept_right [] h = tt
kept_right (k ∷ ks) h = by_value k.value h.0 (kept_right ks h.1)
  where
    by_value : (o : Option Statement) → statement_right o → Every IsOperand (flat_map statement_operands (kept_of ks)) → Every IsOperand (flat_map statement_operands (kept_before o (kept_of ks)))
    by_value None r i = i
    by_value (Some s) r i = every_both IsOperand (statement_operands s) (flat_map statement_operands (kept_of ks)) r i

-- statements, their operands and the types that are written in them
abbrev counted : List Statement → ℕ
counted ss = length ss + (length (flat_map statement_operands ss) + length (flat_map (statement_types written) ss))

kept_counted : (ks : List Kept) → counted (kept_of ks) ≡ total kept_weight ks
kept_counted [] = refl
kept_counted (k ∷ ks) = by_value k.value (kept_counted ks)
  where
    by_value : (o : Option Statement) → counted (kept_of ks) ≡ total kept_weight ks → counted (kept_before o (kept_of ks)) ≡ statement_weight o + total kept_weight ks
    by_value None e = omega (arith, e)
    by_value (Some s) e = omega (arith, e, length-append (statement_operands s) (flat_map statement_operands (kept_of ks)), length-append (statement_types written s) (flat_map (statement_types written) (kept_of ks)))

ending_same : (e : ℕ → Bool) (x : Ending) → terminator_operands (terminator_of e x) ≡ ending_operands x
ending_same e (Settled t) = refl
ending_same e (Calling place callee arguments target) = refl

types_same : (e : ℕ → Bool) (x : Ending) → terminator_types written (terminator_of e x) ≡ ending_types x
types_same e (Settled t) = refl
types_same e (Calling place callee arguments target) = refl

right_operands : (e : ℕ → Bool) (b : RawBlock) → IsRightBlock b → Every IsOperand (block_operands (block_of e b))
right_operands e b h = every_both IsOperand (flat_map statement_operands (kept_of b.statements)) (terminator_operands (terminator_of e b.ending.value)) (kept_right b.statements h.0) (subst (Every IsOperand) (sym (ending_same e b.ending.value)) h.1)

-- a block is no more than it weighs
block_low : (e : ℕ → Bool) (b : RawBlock) → length (kept_of b.statements) + (length (block_operands (block_of e b)) + length (block_types written (block_of e b))) ≤ block_weight b
block_low e b =
    let k = kept_counted b.statements in
    let f : length (terminator_operands (terminator_of e b.ending.value)) ≡ length (ending_operands b.ending.value) = ap length (ending_same e b.ending.value) in
    let g : length (terminator_types written (terminator_of e b.ending.value)) ≡ length (ending_types b.ending.value) = ap length (types_same e b.ending.value) in
    omega (arith, k, f, g, length-append (flat_map statement_operands (kept_of b.statements)) (terminator_operands (terminator_of e b.ending.value)), length-append (flat_map (statement_types written) (kept_of b.statements)) (terminator_types written (terminator_of e b.ending.value)))

block_made : (e : ℕ → Bool) (b : RawBlock) → b.id.0 ≤ 4095 → IsRightBlock b → block_weight b < 2 ^ 32 → IsBlock (block_of e b)
block_made e b n h w = let l = block_low e b in record {
  number = n;
  statements = record { counted = omega arith };
  operands = record { counted = omega arith };
  constants = every_all IsOperand (block_operands (block_of e b)) (right_operands e b h);
}

blocks_made_by : (e : ℕ → Bool) (bs : List RawBlock) → AreNear bs → Every IsRightBlock bs → total block_weight bs < 2 ^ 32 → Every IsBlock (blocks_among e bs)
blocks_made_by e [] n h w = tt
blocks_made_by e (b ∷ bs) n h w = by_kind b.is_cleanup (block_made e b n.0 h.0 (omega arith)) (blocks_made_by e bs n.1 h.1 (omega arith))
  where
    by_kind : (c : Bool) → IsBlock (block_of e b) → Every IsBlock (blocks_among e bs) → Every IsBlock (if c then blocks_among e bs else block_of e b ∷ blocks_among e bs)
    by_kind true i k = k
    by_kind false i k = (i, k)

pub blocks_made : (e : ℕ → Bool) (bs : List RawBlock) → AreNear bs → Every IsRightBlock bs → total block_weight bs < 2 ^ 32 → All IsBlock (blocks_among e bs)
blocks_made e bs n h w = every_all IsBlock (blocks_among e bs) (blocks_made_by e bs n h w)

pub blocks_low : (e : ℕ → Bool) (bs : List RawBlock) → length (flat_map (block_types written) (blocks_among e bs)) ≤ total block_weight bs
blocks_low e [] = omega arith
blocks_low e (b ∷ bs) = by_kind b.is_cleanup (blocks_low e bs)
  where
    by_kind : (c : Bool) → length (flat_map (block_types written) (blocks_among e bs)) ≤ total block_weight bs → length (flat_map (block_types written) (if c then blocks_among e bs else block_of e b ∷ blocks_among e bs)) ≤ block_weight b + total block_weight bs
    by_kind true i = omega arith
    by_kind false i = let l = block_low e b in omega (arith, length-append (block_types written (block_of e b)) (flat_map (block_types written) (blocks_among e bs)))
