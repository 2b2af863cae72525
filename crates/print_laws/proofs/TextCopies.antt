-- Whole texts do not look at where their tokens start.
use Rattle.std.proofs.Common.{◌≡◌, ℕ, zero, suc, Bool, List, [], ◌∷◌, ◌++◌, map, ◌∙◌, ap}
use Rattle.grammar_words.specs.Grammar.{Part, Made, Each, Never}
use Rattle.mir_grammar.specs.declared.named.Named.{Named}
use Rattle.mir_grammar.specs.declared.trees.Placed.{Placed}
use Rattle.mir_grammar.specs.declared.trees.Declared.{Declared}
use Rattle.mir_grammar.specs.declared.trees.RawBlock.{RawBlock}
use Rattle.mir_grammar.specs.declared.trees.RawFunction.{RawFunction}
use Rattle.mir_grammar.specs.Lexemes.{Lexeme, local_number, label_number}
use Rattle.mir_grammar.specs.Types.{Family, AnyType, any_word}
use Rattle.mir_grammar.specs.Places.{locals}
use Rattle.mir_grammar.specs.Blocks.{Kept, EndingAt}
use Rattle.mir_grammar.specs.Functions.{debug_tokens, scope_tokens, to_declared, one_item, no_items, concat, to_items, Items, DeclaredPart, Let, Debug, ItemPart, ScopeName, inner_items, ScopeLevel, to_block, kept_body, cleanup_body, BlockPart, to_function, Text}
use Rattle.print_laws.proofs.Copies.{SameLexeme, SameEach, SamePair, SameBool, Copies, copies_tok, copies_then, copies_made, copies_either, copies_never, copies_nothing, copies_each, copies_past, copies_ended, copies_listed, copies_perhaps_token}
use Rattle.print_laws.proofs.TypeCopies.{unplaced, SameNamed, CopiesAll, types_copied, free_path, same_map}
use Rattle.print_laws.proofs.ValueCopies.{Equal, lex, copies_both, copies_all, copies_equal, places_copied}
use Rattle.print_laws.proofs.LineCopies.{statement, terminator, resumed}

abbrev pub declared_unplaced : Declared → Declared
declared_unplaced d = record { id = d.id; word = d.word; start = 0; ty = unplaced d.ty }

abbrev pub block_unplaced : RawBlock → RawBlock
block_unplaced b = record { id = b.id; word = b.word; start = 0; is_cleanup = b.is_cleanup; statements = b.statements; ending = b.ending }

abbrev SameDeclared : Declared → Declared → Type 0
SameDeclared a b = declared_unplaced a ≡ declared_unplaced b

abbrev SameBlock : RawBlock → RawBlock → Type 0
SameBlock a b = block_unplaced a ≡ block_unplaced b

abbrev pub function_unplaced : RawFunction → RawFunction
function_unplaced f = record { name = unplaced f.name; parameters = map declared_unplaced f.parameters; result = unplaced f.result; items = map declared_unplaced f.items; blocks = map block_unplaced f.blocks }

abbrev pub SameFunction : RawFunction → RawFunction → Type 0
SameFunction a b = function_unplaced a ≡ function_unplaced b

-- Declarations.

abbrev SameTyped : Lexeme × Named → Lexeme × Named → Type 0
SameTyped = SamePair SameLexeme SameNamed

declared_same : (a b : Lexeme × Named) → SameTyped a b → SameDeclared (to_declared a) (to_declared b)
unfolding to_declared local_number
declared_same a b h = ap (λ x. declared_unplaced (to_declared (lex x, a.1))) h.0.1 ∙ ap (λ (n : Named). declared_unplaced (to_declared (b.0, n))) h.1

declared : {T : Part Lexeme Named} (set : List ℕ) → Copies T SameNamed → Copies (DeclaredPart set T) SameDeclared
declared set t = copies_made to_declared declared_same (copies_then (copies_tok set) (copies_past (11 ∷ []) t))

abbrev SameItems : Items → Items → Type 0
SameItems = SameEach SameDeclared

abbrev SameLet : Bool × Declared → Bool × Declared → Type 0
SameLet = SamePair SameBool SameDeclared

let_part : {T : Part Lexeme Named} → Copies T SameNamed → Copies (Let T) SameItems
let_part t = copies_made one_item (λ a b h. (h, tt)) (copies_past (176 ∷ []) (copies_ended (10 ∷ []) (copies_made {E = SameLet} (λ v. v.1) (λ a b h. h.1) (copies_then (copies_perhaps_token (117 ∷ [])) (declared locals t)))))

debug : Copies Debug SameItems
debug = copies_made no_items (λ a b h. tt) (copies_past (177 ∷ []) (copies_ended (10 ∷ []) (copies_each (copies_tok debug_tokens))))

item : {T : Part Lexeme Named} {S : Part Lexeme Items} → Copies T SameNamed → Copies S SameItems → Copies (ItemPart T S) SameItems
item t s = copies_either (let_part t) (copies_either debug s)

same_append : (a b c d : Items) → SameItems a b → SameItems c d → SameItems (a ++ c) (b ++ d)
same_append [] [] c d h i = i
same_append [] (y ∷ b) c d h i = absurd h
same_append (x ∷ a) [] c d h i = absurd h
same_append (x ∷ a) (y ∷ b) c d h i = (h.0, same_append a b c d h.1 i)

same_concat : (a b : List Items) → SameEach SameItems a b → SameItems (concat a) (concat b)
same_concat [] [] h = tt
same_concat [] (y ∷ b) h = absurd h
same_concat (x ∷ a) [] h = absurd h
same_concat (x ∷ a) (y ∷ b) h = same_append x y (concat a) (concat b) h.0 (same_concat a b h.1)

items : {T : Part Lexeme Named} {S : Part Lexeme Items} → Copies T SameNamed → Copies S SameItems → Copies (Made to_items (Each (ItemPart T S))) SameItems
unfolding to_items
items t s = copies_made to_items same_concat (copies_each (item t s))

scope_name : Copies ScopeName (SameEach SameLexeme)
scope_name = copies_either (copies_past (1 ∷ []) (copies_ended (2 ∷ []) (copies_each (copies_tok scope_tokens)))) (copies_nothing [] tt)

abbrev SameScope : Lexeme × (List Lexeme × Items) → Lexeme × (List Lexeme × Items) → Type 0
SameScope = SamePair SameLexeme (SamePair (SameEach SameLexeme) SameItems)

scopes : {T : Part Lexeme Named} → Copies T SameNamed → (d : ℕ) → Copies (ScopeLevel Never T d) SameItems
scopes t zero = copies_never
scopes t (suc d) = copies_made {E = SameScope} inner_items (λ a b h. h.1.1) (copies_past (178 ∷ []) (copies_then (copies_tok (35 ∷ [])) (copies_then scope_name (copies_past (5 ∷ []) (copies_ended (6 ∷ []) (items t (scopes t d)))))))

-- Blocks.

abbrev SameBody : Lexeme × (Bool × (List Kept × EndingAt)) → Lexeme × (Bool × (List Kept × EndingAt)) → Type 0
SameBody = SamePair SameLexeme Equal

block_same : (a b : Lexeme × (Bool × (List Kept × EndingAt))) → SameBody a b → SameBlock (to_block a) (to_block b)
unfolding to_block label_number
block_same a b h = ap (λ x. block_unplaced (to_block (lex x, a.1))) h.0.1 ∙ ap (λ x. block_unplaced (to_block (b.0, x))) h.1

block : {T : Family} {P : Part Lexeme Placed} → CopiesAll T → Copies P Equal → Copies (BlockPart T P) SameBlock
block t p = copies_made to_block block_same (copies_then (copies_tok (32 ∷ [])) (copies_either (copies_equal kept_body (copies_past (11 ∷ []) (copies_past (5 ∷ []) (copies_ended (6 ∷ []) (copies_both (copies_all (statement t p)) (terminator t p))))))
    (copies_equal cleanup_body (copies_past (1 ∷ []) (copies_past (174 ∷ []) (copies_past (2 ∷ []) (copies_past (11 ∷ []) (copies_past (5 ∷ []) (copies_ended (6 ∷ []) (copies_both (copies_all (statement t p)) (copies_either (terminator t p) resumed)))))))))))

-- Functions.

abbrev FunctionParts : Type 0
FunctionParts = Named × (List Declared × (Named × (Items × List RawBlock)))

abbrev SameParts : FunctionParts → FunctionParts → Type 0
SameParts = SamePair SameNamed (SamePair SameItems (SamePair SameNamed (SamePair SameItems (SameEach SameBlock))))

abbrev from_parts : Named → List Declared → Named → List Declared → List RawBlock → RawFunction
from_parts n ps r ds bs = record { name = n; parameters = ps; result = r; items = ds; blocks = bs }

function_same : (a b : FunctionParts) → SameParts a b → SameFunction (to_function a) (to_function b)
unfolding to_function
function_same a b h =
    ap (λ x. from_parts x (map declared_unplaced a.1.0) (unplaced a.1.1.0) (map declared_unplaced a.1.1.1.0) (map block_unplaced a.1.1.1.1)) h.0
    ∙ ap (λ x. from_parts (unplaced b.0) x (unplaced a.1.1.0) (map declared_unplaced a.1.1.1.0) (map block_unplaced a.1.1.1.1)) (same_map declared_unplaced a.1.0 b.1.0 h.1.0)
    ∙ ap (λ x. from_parts (unplaced b.0) (map declared_unplaced b.1.0) x (map declared_unplaced a.1.1.1.0) (map block_unplaced a.1.1.1.1)) h.1.1.0
    ∙ ap (λ x. from_parts (unplaced b.0) (map declared_unplaced b.1.0) (unplaced b.1.1.0) x (map block_unplaced a.1.1.1.1)) (same_map declared_unplaced a.1.1.1.0 b.1.1.1.0 h.1.1.1.0)
    ∙ ap (from_parts (unplaced b.0) (map declared_unplaced b.1.0) (unplaced b.1.1.0) (map declared_unplaced b.1.1.1.0)) (same_map block_unplaced a.1.1.1.1 b.1.1.1.1 h.1.1.1.1)

pub texts_copied : (d : ℕ) → Copies (Text d) (SameEach SameFunction)
texts_copied d =
    let t = types_copied (suc d) in let a = t.of_want AnyType in let p = places_copied a (suc d) in
    copies_each (copies_made to_function function_same (copies_past (175 ∷ []) (copies_then (free_path any_word t) (copies_then (copies_past (1 ∷ []) (copies_ended (2 ∷ []) (copies_listed (9 ∷ []) (declared (31 ∷ []) a))))
    (copies_past (20 ∷ []) (copies_then a (copies_past (5 ∷ []) (copies_ended (6 ∷ []) (copies_then (items a (scopes a (suc d))) (copies_each (block t p)))))))))))
