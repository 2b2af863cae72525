-- The texts of blocks read again.
use Rattle.std.proofs.Common.{◌≡◌, inl, inr, ℕ, Bool, true, false, if◌then◌else◌, List, [], ◌∷◌, ◌++◌, codes, map, Option, Some, None, refl, sym, ◌∙◌, ap, subst, append_assoc, append-nil, rules}
use Rattle.grammar_words.specs.Grammar.{Part, Then, Made, Each}
use Rattle.grammar_words.proofs.Sets.{subset}
use Rattle.grammar_words.specs.Classes.{inside, Tok, Past}
use Rattle.mir_ir.specs.declared.tree.Block.{Block}
use Rattle.mir_ir.specs.declared.tree.Statement.{Statement}
use Rattle.mir_grammar.specs.declared.trees.Placed.{Placed}
use Rattle.mir_grammar.specs.declared.trees.RawBlock.{RawBlock}
use Rattle.mir_grammar.specs.Lexemes.{Lexeme, class_of, sign}
use Rattle.mir_grammar.specs.Types.{Family, AnyType, any_word}
use Rattle.mir_grammar.specs.Blocks.{to_block_id, Kept, EndingAt, StatementOf, TerminatorOf, Body, to_resume, Resumed}
use Rattle.mir_grammar.specs.Functions.{to_block, kept_body, cleanup_body, Braces, BlockPart}
use Rattle.canonical_text.specs.Places.{label_text}
use Rattle.canonical_text.specs.Lines.{statement_text}
use Rattle.canonical_text.specs.Functions.{statements_text, block_text}
use Rattle.print_laws.specs.Printed.{ArePrintable}
use Rattle.raw_functions.specs.Meant.{kept_before, kept_of, block_of}
use Rattle.print_laws.proofs.Leads.{all_leads}
use Rattle.print_laws.proofs.Fits as fits
use Rattle.print_laws.proofs.Fits.{Fits, fits_join, fits_none, fits_wide, fits_text}
use Rattle.print_laws.proofs.TypeTexts.{Retold}
use Rattle.print_laws.proofs.PlaceTold.{PlacesTold, TypesTold, colon_inside}
use Rattle.print_laws.proofs.Locals.{label_told}
use Rattle.print_laws.proofs.LineTold.{kept_value, statement_told, statement_leaves}
use Rattle.print_laws.proofs.EndingTold.{Resolved, ending_with, ending_of, resolved_text}
use Rattle.print_laws.proofs.CallTold.{terminator_told}
use Rattle.print_laws.proofs.Told.{Telling, both_of, Leaves, leaves_tok, leaves_made, leaves_then, leaves_either, leaves_each, leaves_past, leaves_ended}
use Rattle.print_laws.proofs.ToldAs.{ToldAs, as_told, as_made, as_then, as_past, as_ended}

two_blanks : Fits all_leads (7 ∷ []) (codes "  ") []
two_blanks = fits_join fits.fits_space fits.fits_space refl

pub four_blanks : Fits all_leads (7 ∷ []) (codes "    ") []
four_blanks = fits_join two_blanks two_blanks refl

pub eight_blanks : Fits all_leads (7 ∷ []) (codes "        ") []
eight_blanks = fits_join four_blanks four_blanks refl

pub line_blanks : Fits all_leads (7 ∷ []) (codes "\n    ") []
line_blanks = fits_join fits.fits_line four_blanks refl

-- Statements that are kept.

abbrev StatementsTelling : Family → Part Lexeme Placed → List Statement → Type 0
StatementsTelling U Q ss = Telling (7 ∷ []) (7 ∷ []) (Each (StatementOf U Q)) kept_of (statements_text ss) ss

no_statements : (U : Family) (Q : Part Lexeme Placed) → StatementsTelling U Q []
no_statements U Q = record { lexemes = []; value = []; same = refl; reads = λ k. refl; fits = fits_none (7 ∷ []) }

more_statements : (U : Family) (Q : Part Lexeme Placed) (s : Statement) (ss : List Statement) → Telling all_leads (1 ∷ 7 ∷ []) (StatementOf U Q) kept_value (statement_text s) (Some s) → StatementsTelling U Q ss → StatementsTelling U Q (s ∷ ss)
more_statements U Q s ss x y = record {
  lexemes = x.lexemes ++ y.lexemes;
  value = x.value ∷ y.value;
  same = ap (λ o. kept_before o (kept_of y.value)) x.same ∙ ap (λ z. s ∷ z) y.same;
  reads = λ k. subst (λ w. Each (StatementOf U Q) w (x.value ∷ y.value) k) (sym (append_assoc x.lexemes y.lexemes k)) (y.lexemes ++ k, x.reads (y.lexemes ++ k), y.reads k);
  fits = subst (λ w. Fits (7 ∷ []) (7 ∷ []) (statements_text (s ∷ ss)) (w ++ y.lexemes)) (append-nil x.lexemes) (fits_join (fits_join (fits_join eight_blanks x.fits refl) fits.fits_line refl) y.fits refl);
}

kept_tell : {T U : Family} {P Q : Part Lexeme Placed} → Retold T U → TypesTold (T AnyType) (U AnyType) → PlacesTold P Q → (ts mid : List Lexeme) (k : Kept) (ss : List Statement) → StatementOf T P ts k mid → ArePrintable ts → StatementsTelling U Q ss
    → (o : Option Statement) → kept_value k ≡ o → StatementsTelling U Q (kept_before o ss)
kept_tell {T} {U} {P} {Q} q t p ts mid k ss h r y None e = y
kept_tell {T} {U} {P} {Q} q t p ts mid k ss h r y (Some s) e = more_statements U Q s ss (statement_told q t p ts mid k h r s e) y

statements_tell : {T U : Family} {P Q : Part Lexeme Placed} → Retold T U → TypesTold (T AnyType) (U AnyType) → PlacesTold P Q → (ts rest : List Lexeme) (ks : List Kept) → Each (StatementOf T P) ts ks rest → ArePrintable ts → StatementsTelling U Q (kept_of ks)
statements_tell {T} {U} {P} {Q} q t p ts rest [] h r = no_statements U Q
statements_tell {T} {U} {P} {Q} q t p ts rest (k ∷ ks) h r = kept_tell q t p ts h.0 k (kept_of ks) h.1 r (statements_tell q t p h.0 rest ks h.2 ((statement_leaves q t p).leaves ts h.0 k h.1 r)) (kept_value k) refl

statements_told : {T U : Family} {P Q : Part Lexeme Placed} → Retold T U → TypesTold (T AnyType) (U AnyType) → PlacesTold P Q → ToldAs (7 ∷ []) (7 ∷ []) (Each (StatementOf T P)) (Each (StatementOf U Q)) kept_of kept_of statements_text
statements_told q t p = record { tell = statements_tell q t p; left = (leaves_each (statement_leaves q t p)).leaves }

-- The body of a block.

indented : {A B T : Type 0} {R : Part Lexeme A} {W : Part Lexeme B} {m : A → T} {h : B → T} {f : T → List ℕ} → ToldAs all_leads (1 ∷ 7 ∷ []) R W m h f → ToldAs all_leads (7 ∷ []) R W m h (λ x. codes "        " ++ f x)
indented c = record {
  tell = λ ts rest a r p. let k = c.tell ts rest a r p in record { lexemes = k.lexemes; value = k.value; same = k.same; reads = k.reads; fits = fits_join eight_blanks k.fits refl };
  left = c.left;
}

body_told : {T U : Family} {P Q : Part Lexeme Placed} (c : ℕ → Bool) → Retold T U → TypesTold (T AnyType) (U AnyType) → PlacesTold P Q
    → ToldAs all_leads (7 ∷ []) (Body T P) (Body U Q) (both_of kept_of (ending_with c)) (both_of kept_of ending_of) (λ x. statements_text x.0 ++ (codes "        " ++ resolved_text x.1))
body_told c q t p = as_then (statements_told q t p) (indented (terminator_told c q p)) refl

-- Blocks that are kept.

abbrev pub BlockBy : Type 0
BlockBy = (ℕ → Bool) → Block

abbrev pub block_with : (ℕ → Bool) → RawBlock → BlockBy
block_with c b d = block_of c b

abbrev pub block_again : RawBlock → BlockBy
block_again b d = block_of d b

abbrev block_made : ℕ × (List Statement × Resolved) → BlockBy
block_made x d = record { id = to_block_id x.0; statements = x.1.0; terminator = x.1.1 d }

abbrev pub block_by_text : BlockBy → List ℕ
block_by_text b = block_text (b (λ n. false))

abbrev pub PlainBlock : Family → Part Lexeme Placed → Part Lexeme RawBlock
PlainBlock T P = Made to_block (Then (Tok class_of (32 ∷ [])) (Made kept_body (Past class_of (11 ∷ []) (Braces (Body T P)))))

seven : (a l b s i t e : List ℕ) → a ++ (l ++ (b ++ ((s ++ (i ++ t)) ++ e))) ≡ (((((a ++ l) ++ b) ++ s) ++ i) ++ t) ++ e
seven a l b s i t e = search (rules, append_assoc)

block_is : (x : ℕ × (List Statement × Resolved)) → codes "\n    " ++ (label_text x.0 ++ (codes ": " ++ (codes "{\n" ++ ((statements_text x.1.0 ++ (codes "        " ++ resolved_text x.1.1)) ++ codes "\n    }\n")))) ≡ block_by_text (block_made x)
unfolding block_text
block_is x = seven (codes "\n    ") (label_text x.0) (codes ": {\n") (statements_text x.1.0) (codes "        ") (resolved_text x.1.1) (codes "\n    }\n")

pub brace_inside : inside class_of (5 ∷ []) (sign (codes "{")) ≡ true
unfolding inside class_of
brace_inside = refl

pub brace_end_inside : inside class_of (6 ∷ []) (sign (codes "}")) ≡ true
unfolding inside class_of
brace_end_inside = refl

pub brace_line : Fits all_leads (7 ∷ []) (codes "{\n") (sign (codes "{") ∷ [])
brace_line = fits_join fits.brace fits.fits_line refl

brace_end_line : Fits all_leads (7 ∷ []) (codes "\n    }\n") (sign (codes "}") ∷ [])
brace_end_line = fits_join line_blanks (fits_join fits.brace_end fits.fits_line refl) refl

-- text before a part that is no token
pub as_behind : {A B T : Type 0} {s l u m q : List ℕ} {R : Part Lexeme A} {W : Part Lexeme B} {n : A → T} {h : B → T} {f : T → List ℕ} → Fits u m q [] → subset l u ≡ true → ToldAs s l R W n h f → ToldAs s m R W n h (λ x. q ++ f x)
as_behind w e c = record {
  tell = λ ts rest a r p. let k = c.tell ts rest a r p in record { lexemes = k.lexemes; value = k.value; same = k.same; reads = k.reads; fits = fits_join w k.fits e };
  left = c.left;
}

plain_told : {T U : Family} {P Q : Part Lexeme Placed} (c : ℕ → Bool) → Retold T U → TypesTold (T AnyType) (U AnyType) → PlacesTold P Q
    → ToldAs all_leads (7 ∷ []) (PlainBlock T P) (PlainBlock U Q) (block_with c) block_again block_by_text
unfolding to_block
plain_told {T} {U} {P} {Q} c q t p = as_made to_block to_block (block_with c) block_again block_made block_by_text (λ v. refl) (λ v. refl) block_is
    (as_behind line_blanks refl (as_then (as_told label_told) (as_made kept_body kept_body (λ v. both_of kept_of (ending_with c) v.1) (λ v. both_of kept_of ending_of v.1) (λ x. x) (λ x. codes ": " ++ (codes "{\n" ++ ((statements_text x.0 ++ (codes "        " ++ resolved_text x.1)) ++ codes "\n    }\n")))
    (λ v. refl) (λ v. refl) (λ x. refl) (as_past (11 ∷ []) (sign (codes ":")) colon_inside refl (fits.spaced fits.colon refl) (as_past (5 ∷ []) (sign (codes "{")) brace_inside refl brace_line
    (as_ended (6 ∷ []) (sign (codes "}")) brace_end_inside refl brace_end_line (body_told c q t p) refl) refl) refl)) refl))

-- What any block leaves.

terminator_leaves : {T U : Family} {P Q : Part Lexeme Placed} → Retold T U → PlacesTold P Q → Leaves (TerminatorOf T P)
terminator_leaves q p = record { leaves = (terminator_told (λ n. false) q p).left }

pub block_leaves : {T U : Family} {P Q : Part Lexeme Placed} → Retold T U → TypesTold (T AnyType) (U AnyType) → PlacesTold P Q → Leaves (BlockPart T P)
block_leaves {T} {U} {P} {Q} q t p = leaves_made to_block (leaves_then (leaves_tok (32 ∷ []) refl) (leaves_either (leaves_made kept_body (leaves_past (11 ∷ []) refl (leaves_past (5 ∷ []) refl (leaves_ended (6 ∷ []) refl
    (leaves_then (leaves_each (statement_leaves q t p)) (terminator_leaves q p))))))
    (leaves_made cleanup_body (leaves_past (1 ∷ []) refl (leaves_past (174 ∷ []) refl (leaves_past (2 ∷ []) refl (leaves_past (11 ∷ []) refl (leaves_past (5 ∷ []) refl (leaves_ended (6 ∷ []) refl
    (leaves_then (leaves_each (statement_leaves q t p)) (leaves_either (terminator_leaves q p) resumed_leaves)))))))))))
  where
    resumed_leaves : Leaves Resumed
    resumed_leaves = leaves_either (leaves_made to_resume (leaves_past (173 ∷ []) refl (leaves_tok (10 ∷ []) refl))) (leaves_made to_resume (leaves_past (172 ∷ []) refl (leaves_past (1 ∷ []) refl (leaves_ended (10 ∷ []) refl (leaves_ended (2 ∷ []) refl (leaves_tok any_word refl))))))

-- Blocks that are kept, of all.

to_plain_block : (T : Family) (P : Part Lexeme Placed) (ts rest : List Lexeme) (b : RawBlock) → BlockPart T P ts b rest → b.is_cleanup ≡ false → PlainBlock T P ts b rest
unfolding to_block
to_plain_block T P ts rest b h e = elim (h.2.2) [
  | inl x ↦ (h.0, h.1, (h.2.0, h.2.1, x))
  | inr x ↦ absurd (cc (ap (λ (v : Bool × (List Kept × EndingAt)). v.0) x.1, ap (λ (y : RawBlock). y.is_cleanup) h.1, e))
]

pub from_plain_block : (T : Family) (P : Part Lexeme Placed) (ts rest : List Lexeme) (b : RawBlock) → PlainBlock T P ts b rest → BlockPart T P ts b rest
from_plain_block T P ts rest b h = (h.0, h.1, (h.2.0, h.2.1, inl h.2.2))

pub plain_block : (T : Family) (P : Part Lexeme Placed) (ts rest : List Lexeme) (b : RawBlock) → PlainBlock T P ts b rest → b.is_cleanup ≡ false
unfolding to_block
plain_block T P ts rest b h = sym (ap (λ (y : RawBlock). y.is_cleanup) h.1) ∙ sym (ap (λ (v : Bool × (List Kept × EndingAt)). v.0) h.2.2.1)

abbrev pub blocks_with : (ℕ → Bool) → List RawBlock → List BlockBy
blocks_with c [] = []
blocks_with c (b ∷ bs) = if b.is_cleanup then blocks_with c bs else block_with c b ∷ blocks_with c bs

abbrev pub blocks_by_text : List BlockBy → List ℕ
blocks_by_text [] = []
blocks_by_text (b ∷ bs) = block_by_text b ++ blocks_by_text bs

abbrev BlocksTelling : Family → Part Lexeme Placed → List BlockBy → Type 0
BlocksTelling U Q bs = Telling (7 ∷ []) (7 ∷ []) (Each (PlainBlock U Q)) (map block_again) (blocks_by_text bs) bs

no_blocks : (U : Family) (Q : Part Lexeme Placed) → BlocksTelling U Q []
no_blocks U Q = record { lexemes = []; value = []; same = refl; reads = λ k. refl; fits = fits_none (7 ∷ []) }

more_blocks : (U : Family) (Q : Part Lexeme Placed) (b : BlockBy) (bs : List BlockBy) → Telling all_leads (7 ∷ []) (PlainBlock U Q) block_again (block_by_text b) b → BlocksTelling U Q bs → BlocksTelling U Q (b ∷ bs)
more_blocks U Q b bs x y = record {
  lexemes = x.lexemes ++ y.lexemes;
  value = x.value ∷ y.value;
  same = ap (λ z. z ∷ map block_again y.value) x.same ∙ ap (λ z. b ∷ z) y.same;
  reads = λ k. subst (λ w. Each (PlainBlock U Q) w (x.value ∷ y.value) k) (sym (append_assoc x.lexemes y.lexemes k)) (y.lexemes ++ k, x.reads (y.lexemes ++ k), y.reads k);
  fits = fits_join x.fits y.fits refl;
}

block_tell : {T U : Family} {P Q : Part Lexeme Placed} (c : ℕ → Bool) → Retold T U → TypesTold (T AnyType) (U AnyType) → PlacesTold P Q → (ts mid : List Lexeme) (b : RawBlock) (bs : List BlockBy) → BlockPart T P ts b mid → ArePrintable ts → BlocksTelling U Q bs
    → (e : Bool) → b.is_cleanup ≡ e → BlocksTelling U Q (if e then bs else block_with c b ∷ bs)
block_tell {T} {U} {P} {Q} c q t p ts mid b bs h r y true e = y
block_tell {T} {U} {P} {Q} c q t p ts mid b bs h r y false e = more_blocks U Q (block_with c b) bs ((plain_told c q t p).tell ts mid b (to_plain_block T P ts mid b h e) r) y

blocks_tell : {T U : Family} {P Q : Part Lexeme Placed} (c : ℕ → Bool) → Retold T U → TypesTold (T AnyType) (U AnyType) → PlacesTold P Q → (ts rest : List Lexeme) (bs : List RawBlock) → Each (BlockPart T P) ts bs rest → ArePrintable ts → BlocksTelling U Q (blocks_with c bs)
blocks_tell {T} {U} {P} {Q} c q t p ts rest [] h r = no_blocks U Q
blocks_tell {T} {U} {P} {Q} c q t p ts rest (b ∷ bs) h r = block_tell c q t p ts h.0 b (blocks_with c bs) h.1 r (blocks_tell c q t p h.0 rest bs h.2 ((block_leaves q t p).leaves ts h.0 b h.1 r)) b.is_cleanup refl

pub blocks_told : {T U : Family} {P Q : Part Lexeme Placed} (c : ℕ → Bool) → Retold T U → TypesTold (T AnyType) (U AnyType) → PlacesTold P Q → ToldAs (7 ∷ []) (7 ∷ []) (Each (BlockPart T P)) (Each (PlainBlock U Q)) (blocks_with c) (map block_again) blocks_by_text
blocks_told c q t p = record { tell = blocks_tell c q t p; left = (leaves_each (block_leaves q t p)).leaves }
