-- The texts of functions read again.
use Rattle.std.proofs.Common.{◌≡◌, ℕ, ◌==◌, Bool, true, false, nat_le, if◌then◌else◌, List, [], ◌∷◌, ◌++◌, map, refl, ◌∙◌, ap}
use Rattle.grammar_words.specs.Grammar.{Part, Each}
use Rattle.mir_ir.specs.declared.tree.Local.{Local}
use Rattle.mir_grammar.specs.declared.named.Named.{Named}
use Rattle.mir_grammar.specs.declared.trees.Placed.{Placed}
use Rattle.mir_grammar.specs.declared.trees.Declared.{Declared}
use Rattle.mir_grammar.specs.declared.trees.RawBlock.{RawBlock}
use Rattle.mir_grammar.specs.Lexemes.{Lexeme}
use Rattle.mir_grammar.specs.Types.{Family, AnyType}
use Rattle.mir_grammar.specs.Functions.{BlockPart}
use Rattle.canonical_text.specs.Functions.{blocks_text}
use Rattle.print_laws.specs.Printed.{ArePrintable}
use Rattle.raw_functions.specs.Meant.{is_cleanup, block_of, blocks_among, blocks_of, local_of, others_of, put_by_number, by_number}
use Rattle.print_laws.proofs.Fits.{fits_text}
use Rattle.print_laws.proofs.TypeTexts.{Retold}
use Rattle.print_laws.proofs.PlaceTold.{PlacesTold, TypesTold}
use Rattle.print_laws.proofs.BlockTold.{BlockBy, block_with, block_again, block_by_text, PlainBlock, plain_block, from_plain_block, blocks_with, blocks_by_text, blocks_told}
use Rattle.print_laws.proofs.ItemTold.{LocalTold, AllTold}
use Rattle.print_laws.proofs.Single.{AllPlain}
use Rattle.print_laws.proofs.Told.{Telling}

-- Blocks with their own cleanup blocks.

blocks_as : (c d : ℕ → Bool) (bs : List RawBlock) → map (λ (b : BlockBy). b d) (blocks_with c bs) ≡ blocks_among c bs
blocks_as c d [] = refl
blocks_as c d (b ∷ bs) = as_by b.is_cleanup (blocks_as c d bs)
  where
    as_by : (e : Bool) → map (λ (x : BlockBy). x d) (blocks_with c bs) ≡ blocks_among c bs → map (λ (x : BlockBy). x d) (if e then blocks_with c bs else block_with c b ∷ blocks_with c bs) ≡ (if e then blocks_among c bs else block_of c b ∷ blocks_among c bs)
    as_by true h = h
    as_by false h = ap (λ x. block_of c b ∷ x) h

plain_blocks : (U : Family) (Q : Part Lexeme Placed) (d : ℕ → Bool) (ts rest : List Lexeme) (bs : List RawBlock) → Each (PlainBlock U Q) ts bs rest → blocks_among d bs ≡ map (λ (b : BlockBy). b d) (map block_again bs)
plain_blocks U Q d ts rest [] h = refl
plain_blocks U Q d ts rest (b ∷ bs) h = rw (plain_block U Q ts h.0 b h.1) (ap (λ x. block_of d b ∷ x) (plain_blocks U Q d h.0 rest bs h.2))

same_blocks : (U : Family) (Q : Part Lexeme Placed) (c : ℕ → Bool) (ts rest : List Lexeme) (as_ bs : List RawBlock) → Each (PlainBlock U Q) ts bs rest → map block_again bs ≡ blocks_with c as_ → blocks_of bs ≡ blocks_among c as_
unfolding blocks_of
same_blocks U Q c ts rest as_ bs h e = plain_blocks U Q (is_cleanup bs) ts rest bs h ∙ ap (map (λ (b : BlockBy). b (is_cleanup bs))) e ∙ blocks_as c (is_cleanup bs) as_

pub each_plain : (U : Family) (Q : Part Lexeme Placed) (ts rest : List Lexeme) (bs : List RawBlock) → Each (PlainBlock U Q) ts bs rest → Each (BlockPart U Q) ts bs rest
each_plain U Q ts rest [] h = h
each_plain U Q ts rest (b ∷ bs) h = (h.0, from_plain_block U Q ts h.0 b h.1, each_plain U Q h.0 rest bs h.2)

pub all_plain : (U : Family) (Q : Part Lexeme Placed) (ts rest : List Lexeme) (bs : List RawBlock) → Each (PlainBlock U Q) ts bs rest → AllPlain bs
all_plain U Q ts rest [] h = tt
all_plain U Q ts rest (b ∷ bs) h = (plain_block U Q ts h.0 b h.1, all_plain U Q h.0 rest bs h.2)

blocks_texts : (bs : List BlockBy) → blocks_by_text bs ≡ blocks_text (map (λ (b : BlockBy). b (λ n. false)) bs)
blocks_texts [] = refl
blocks_texts (b ∷ bs) = ap (λ x. block_by_text b ++ x) (blocks_texts bs)

-- the text of the blocks that are kept
pub kept_blocks_text : (bs : List RawBlock) → blocks_by_text (blocks_with (is_cleanup bs) bs) ≡ blocks_text (blocks_of bs)
unfolding blocks_of
kept_blocks_text bs = blocks_texts (blocks_with (is_cleanup bs) bs) ∙ ap blocks_text (blocks_as (is_cleanup bs) (λ n. false) bs)

-- blocks that are read, printed, and read again
pub blocks_tell : {T U : Family} {P Q : Part Lexeme Placed} → Retold T U → TypesTold (T AnyType) (U AnyType) → PlacesTold P Q → (ts rest : List Lexeme) (bs : List RawBlock) → Each (BlockPart T P) ts bs rest → ArePrintable ts
    → Telling (7 ∷ []) (7 ∷ []) (Each (PlainBlock U Q)) (map block_again) (blocks_text (blocks_of bs)) (blocks_with (is_cleanup bs) bs)
blocks_tell q t p ts rest bs h r = let k = (blocks_told (is_cleanup bs) q t p).tell ts rest bs h r in
    record { lexemes = k.lexemes; value = k.value; same = k.same; reads = k.reads; fits = fits_text (kept_blocks_text bs) k.fits }

pub blocks_same : {T U : Family} {P Q : Part Lexeme Placed} (q : Retold T U) (t : TypesTold (T AnyType) (U AnyType)) (p : PlacesTold P Q) (ts rest : List Lexeme) (bs : List RawBlock) (h : Each (BlockPart T P) ts bs rest) (r : ArePrintable ts)
    → blocks_of (blocks_tell q t p ts rest bs h r).value ≡ blocks_of bs
unfolding blocks_tell blocks_of
blocks_same {T} {U} {P} {Q} q t p ts rest bs h r = let k = blocks_tell q t p ts rest bs h r in same_blocks U Q (is_cleanup bs) (k.lexemes ++ []) [] bs k.value (k.reads []) k.same

-- Locals.

all_put : (U : Part Lexeme Named) (l : Local) (ls : List Local) → LocalTold U l → AllTold U ls → AllTold U (put_by_number l ls)
all_put U l [] h i = (h, tt)
all_put U l (m ∷ ls) h i = put_by (nat_le l.id.0 m.id.0) (all_put U l ls h i.1)
  where
    put_by : (c : Bool) → AllTold U (put_by_number l ls) → AllTold U (if c then l ∷ m ∷ ls else m ∷ put_by_number l ls)
    put_by true k = (h, i)
    put_by false k = (i.0, k)

all_sorted : (U : Part Lexeme Named) (ls : List Local) → AllTold U ls → AllTold U (by_number ls)
all_sorted U [] h = tt
all_sorted U (l ∷ ls) h = all_put U l (by_number ls) h.0 (all_sorted U ls h.1)

all_others : (U : Part Lexeme Named) (ds : List Declared) → AllTold U (map local_of ds) → AllTold U (others_of ds)
all_others U [] h = tt
all_others U (d ∷ ds) h = others_by (d.id.0 == 0) (all_others U ds h.1)
  where
    others_by : (c : Bool) → AllTold U (others_of ds) → AllTold U (if c then others_of ds else local_of d ∷ others_of ds)
    others_by true k = k
    others_by false k = (h.0, k)

pub all_by_number : (U : Part Lexeme Named) (ds : List Declared) → AllTold U (map local_of ds) → AllTold U (by_number (others_of ds))
all_by_number U ds h = all_sorted U (others_of ds) (all_others U ds h)
