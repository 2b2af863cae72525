-- Functions and whole texts: each statement, each operand and each type that is written takes a token of its own.
use Rattle.std.proofs.Common.{◌≡◌, ℕ, zero, suc, ◌+◌, List, [], ◌∷◌, ◌++◌, refl, le_refl, arith}
use Rattle.grammar_words.specs.Grammar.{Part, Then, Made, Each, Never}
use Rattle.grammar_words.specs.Classes.{Perhaps_token}
use Rattle.mir_grammar.specs.declared.named.Named.{Named}
use Rattle.mir_grammar.specs.declared.trees.Placed.{Placed}
use Rattle.mir_grammar.specs.declared.trees.Declared.{Declared}
use Rattle.mir_grammar.specs.declared.trees.RawBlock.{RawBlock}
use Rattle.mir_grammar.specs.declared.trees.RawFunction.{RawFunction}
use Rattle.mir_grammar.specs.Lexemes.{Lexeme, class_of}
use Rattle.mir_grammar.specs.Types.{Family, AnyType, any_word}
use Rattle.mir_grammar.specs.Places.{locals}
use Rattle.mir_grammar.specs.Functions.{debug_tokens, scope_tokens, to_declared, one_item, no_items, concat, to_items, Items, DeclaredPart, Let, Debug, ItemPart, ScopeName, inner_items, Scope, ScopeLevel, to_block, kept_body, cleanup_body, BlockPart, to_function, Parameters, FunctionPart, Text}
use Rattle.program_laws.proofs.Takes.{Takes, Anything, nil, Every, total, takes_any, takes_made, takes_then, takes_either, takes_never, takes_past, takes_ended, takes_each, takes_perhaps, takes_perhaps_token, takes_listed, takes_into}
use Rattle.program_laws.proofs.TypesTake.{named_count, types_take, by_one, free_path_takes}
use Rattle.program_laws.proofs.PlacesTake.{places_take}
use Rattle.program_laws.proofs.ValuesTake.{PartsTake}
use Rattle.program_laws.proofs.StatementsTake.{IsRightStatement, kept_weight, IsRightEnding, ending_weight, IsRightBody, body_weight, body_takes, cleanup_takes}

-- Locals and scopes.

abbrev pub declared_weight : Declared → ℕ
declared_weight d = named_count d.ty

abbrev pub items_weight : Items → ℕ
items_weight ds = total declared_weight ds

declared_takes : {T : Part Lexeme Named} (set : List ℕ) → Takes T Anything named_count → Takes (DeclaredPart set T) Anything declared_weight
unfolding to_declared
declared_takes set t = takes_made to_declared (λ x g. (tt, omega arith)) (takes_then (takes_any set) (takes_past (11 ∷ []) t))

let_takes : {T : Part Lexeme Named} → Takes T Anything named_count → Takes (Let T) Anything items_weight
let_takes {T} t = takes_made one_item (λ d g. (tt, omega arith)) (takes_past (176 ∷ []) (takes_ended (10 ∷ []) inner))
  where
    inner : Takes (Made (λ v. v.1) (Then (Perhaps_token class_of (117 ∷ [])) (DeclaredPart locals T))) Anything declared_weight
    inner = takes_made (λ v. v.1) (λ x g. (tt, omega arith)) (takes_then (takes_perhaps_token (117 ∷ [])) (declared_takes locals t))

debug_takes : Takes Debug Anything items_weight
debug_takes = takes_made no_items (λ ts g. (tt, omega arith)) (takes_past (177 ∷ []) (takes_ended (10 ∷ []) (takes_each (takes_any debug_tokens))))

item_takes : {T : Part Lexeme Named} {S : Part Lexeme Items} → Takes T Anything named_count → Takes S Anything items_weight → Takes (ItemPart T S) Anything items_weight
item_takes t s = takes_either (let_takes t) (takes_either debug_takes s)

weighs_both : (a b : Items) → items_weight (a ++ b) ≡ items_weight a + items_weight b
weighs_both [] b = omega arith
weighs_both (d ∷ a) b = let e = weighs_both a b in omega arith

weighs_all : (ds : List Items) → items_weight (concat ds) ≡ total items_weight ds
weighs_all [] = refl
weighs_all (d ∷ ds) = let e = weighs_all ds in let f = weighs_both d (concat ds) in omega arith

items_take : {R : Part Lexeme Items} → Takes R Anything items_weight → Takes (Made to_items (Each R)) Anything items_weight
unfolding to_items
items_take r = takes_made to_items (λ ds g. (tt, let e = weighs_all ds in omega arith)) (takes_each r)

name_takes : Takes ScopeName Anything nil
name_takes = takes_perhaps [] tt refl (takes_into (λ x g. (tt, omega arith)) (takes_past (1 ∷ []) (takes_ended (2 ∷ []) (takes_each (takes_any scope_tokens)))))

scope_takes : {T : Part Lexeme Named} {S : Part Lexeme Items} → Takes T Anything named_count → Takes S Anything items_weight → Takes (Scope T S) Anything items_weight
scope_takes t s = takes_made inner_items (λ x g. (tt, omega arith)) (takes_past (178 ∷ []) (takes_then (takes_any (35 ∷ [])) (takes_then name_takes (takes_past (5 ∷ []) (takes_ended (6 ∷ []) (items_take (item_takes t s)))))))

scopes_take : {T : Part Lexeme Named} → Takes T Anything named_count → (d : ℕ) → Takes (ScopeLevel Never T d) Anything items_weight
scopes_take t zero = takes_never Anything items_weight
scopes_take t (suc d) = scope_takes t (scopes_take t d)

-- Blocks.

abbrev pub IsRightBlock : RawBlock → Type 0
IsRightBlock b = Every IsRightStatement b.statements × IsRightEnding b.ending

-- one for each statement that is kept, for each operand, and for each type that is written
abbrev pub block_weight : RawBlock → ℕ
block_weight b = total kept_weight b.statements + ending_weight b.ending

block_takes : {T : Family} {P : Part Lexeme Placed} → PartsTake T P → Takes (BlockPart T P) IsRightBlock block_weight
unfolding to_block
block_takes q = takes_made to_block (λ x g. (g.1, omega arith)) (takes_then (takes_any (32 ∷ [])) (takes_either
    (takes_made {O = λ v. IsRightBody v.1} {v = λ v. body_weight v.1} kept_body (λ v g. (g, le_refl (body_weight v))) (takes_past (11 ∷ []) (takes_past (5 ∷ []) (takes_ended (6 ∷ []) (body_takes q)))))
    (takes_made {O = λ v. IsRightBody v.1} {v = λ v. body_weight v.1} cleanup_body (λ v g. (g, le_refl (body_weight v)))
    (takes_past (1 ∷ []) (takes_past (174 ∷ []) (takes_past (2 ∷ []) (takes_past (11 ∷ []) (takes_past (5 ∷ []) (takes_ended (6 ∷ []) (cleanup_takes q))))))))))

-- Functions.

abbrev pub IsRightFunction : RawFunction → Type 0
IsRightFunction f = Every IsRightBlock f.blocks

abbrev pub function_weight : RawFunction → ℕ
function_weight f = items_weight f.parameters + (named_count f.result + (items_weight f.items + total block_weight f.blocks))

parameters_take : {T : Part Lexeme Named} → Takes T Anything named_count → Takes (Parameters T) (Every Anything) items_weight
parameters_take t = takes_past (1 ∷ []) (takes_ended (2 ∷ []) (takes_listed (9 ∷ []) (declared_takes (31 ∷ []) t)))

function_takes : {T : Family} {P : Part Lexeme Placed} {S : Part Lexeme Items} → PartsTake T P → Takes S Anything items_weight → Takes (FunctionPart T P S) IsRightFunction function_weight
unfolding to_function
function_takes q s = takes_made to_function (λ x g. (g.1.1.1.1, omega arith)) (takes_past (175 ∷ []) (takes_then (free_path_takes by_one q.types any_word) (takes_then (parameters_take (q.types.each AnyType)) (takes_past (20 ∷ []) (takes_then (q.types.each AnyType)
    (takes_past (5 ∷ []) (takes_ended (6 ∷ []) (takes_then (items_take (item_takes (q.types.each AnyType) s)) (takes_each (block_takes q))))))))))

pub text_takes : (d : ℕ) → Takes (Text d) (Every IsRightFunction) (total function_weight)
text_takes d =
    let t = types_take (suc d) in
    let p = places_take (t.each AnyType) (suc d) in
    takes_each (function_takes (record { types = t; places = p }) (scopes_take (t.each AnyType) (suc d)))
