-- Functions and whole texts are ready, and each answer is right.
use Rattle.std.proofs.Common.{◌≡◌, inl, inr, ℕ, zero, suc, ◌+◌, ◌≤◌, Bool, true, false, List, [], ◌∷◌, ◌++◌, length, codes, refl, arith}
use Rattle.grammar_words.specs.Grammar.{Part, Made, Each, Never, At}
use Rattle.grammar_words.specs.Reading.{Reader, until, guard}
use Rattle.grammar_words.specs.Classes.{has, inside, outside, tok, ended}
use Rattle.grammar_words.proofs.Laws.{any, Goes}
use Rattle.grammar_words.proofs.Ready.{Shape, Ready, token_shape, tok-ready, made-ready, wider-ready}
use Rattle.grammar_words.proofs.ReadyJoin.{then-ready, either-ready, left_short}
use Rattle.grammar_words.proofs.ReadyMany.{many-ready}
use Rattle.grammar_words.proofs.ReadyUntil.{until-ready}
use Rattle.grammar_words.proofs.Until.{Closes}
use Rattle.grammar_words.proofs.ReadyWords.{past-ready, ended-ready, ended_shape, perhaps-ready, listed-ready}
use Rattle.grammar_words.proofs.ReadyLimit.{limit_shape, limit-ready, guard-ready, spelled-ready, levels}
use Rattle.grammar_words.proofs.Starts.{starts-made, starts-past, starts-opens}
use Rattle.grammar_words.proofs.Fork.{Moves, Seen, moves-tok, moves-made, moves-joined, moves-right, moves-guard}
use Rattle.grammar_words.proofs.Seen.{seen-alone, seen-made, seen-either, seen-then, behind_any}
use Rattle.grammar_words.proofs.Whole.{right}
use Rattle.mir_grammar.specs.Lexemes.{Lexeme, class_of, sign, word}
use Rattle.mir_grammar.specs.Names.{Named}
use Rattle.mir_grammar.specs.Types.{Family, Readers, AnyType, TypeLevel, type_at, any_word, FreePath, free_path_at}
use Rattle.mir_grammar.specs.Places.{Placed, PlaceBody, PlaceLevel, place_at, place_firsts, locals, to_place, to_local_place, place_body, Index, in_parentheses_at}
use Rattle.mir_grammar.specs.Values.{operand_firsts, tuple_seconds}
use Rattle.mir_grammar.specs.Blocks.{Body, CleanupBody, LinePart, line_at, cleanup_line_at, to_return, statement_words, terminator_words}
use Rattle.mir_grammar.specs.Functions.{debug_tokens, scope_tokens, to_declared, one_item, no_items, to_items, Items, DeclaredPart, Let, Debug, ItemPart, ScopeName, inner_items, Scope, ScopeLevel, to_block, kept_body, cleanup_body, BlockPart, to_function, Parameters, Inside, FunctionPart, Text, TypeHole, HoledText, declared_at, let_at, debug_at, item_at, item_words, items_at, scope_name_at, scope_body, scope_at, block_at, parameters_at, inside_at, function_at, text_at, answer, EachAnswerIsRight, PathText, PlaceText, type_answer, path_answer, place_answer, EachTypeIsRight, EachPathIsRight, EachPlaceIsRight}
use Rattle.mir_grammar.proofs.Samples.{name, plain_number, plain_number_class}
use Rattle.mir_grammar.proofs.TypeReady.{near, AllReady, word_path_ready}
use Rattle.mir_grammar.proofs.TypeLevels.{close, type_ready, near_type_ready}
use Rattle.mir_grammar.proofs.PlaceReady.{flat, TypeReady, PlaceReady, PlaceHole, number-ready, place_ready, place_body_ready, in_parentheses_ready, index_ready}
use Rattle.mir_grammar.proofs.ValueReady.{PlaceKit}
use Rattle.mir_grammar.proofs.BlockReady.{label, local, line_ready, cleanup_line_ready}
use Rattle.mir_grammar.proofs.Lines.{body_on, body_off, cleanup_body_on, cleanup_body_off}

-- Places above the last level.

place_moves : {m : ℕ} {x : List Lexeme} {T U : Part Lexeme Named} {S : List Lexeme → Part Lexeme Named} {t u : Reader Lexeme Named} {R W : Part Lexeme Placed} {H : List Lexeme → Part Lexeme Placed} {p w : Reader Lexeme Placed}
    → TypeReady m x T U S t u → PlaceReady m x R W H p w → Moves class_of (1 ∷ []) (guard (inside class_of place_firsts) (place_body m t p))
unfolding place_body class_of
place_moves {m} {x} {T} {U} {S} {t} {u} {R} {W} {H} {p} {w} i r = moves-guard class_of (1 ∷ []) place_firsts _ refl (moves-made class_of (1 ∷ []) to_place _ (moves-joined class_of (1 ∷ []) _ _
    (moves-right class_of (1 ∷ []) locals _ _ refl (moves-made class_of (1 ∷ []) (λ v. v.1) _ (moves-joined class_of (1 ∷ []) (tok class_of (1 ∷ [])) (ended class_of (in_parentheses_at t p) (2 ∷ [])) (moves-tok class_of (1 ∷ []) (1 ∷ []) refl)
    (left_short (ended-ready (2 ∷ []) (sign (codes ")")) refl (in_parentheses_ready i r) refl).laws))))
    (left_short (many-ready {c = class_of} {m = m} {x = x} (3 ∷ []) (index_ready m x) refl).laws)))

place_seen : {m : ℕ} {x : List Lexeme} {T U : Part Lexeme Named} {S : List Lexeme → Part Lexeme Named} {t u : Reader Lexeme Named} {R W : Part Lexeme Placed} {H : List Lexeme → Part Lexeme Placed} {p w : Reader Lexeme Placed}
    → TypeReady m x T U S t u → PlaceReady m x R W H p w → (y : List Lexeme) → Seen class_of operand_firsts (1 ∷ []) tuple_seconds any true (PlaceBody (S y) (H y))
unfolding class_of
place_seen {m} {x} {T} {U} {S} {t} {u} {R} {W} {H} {p} {w} i r y = seen-made to_place (seen-then (Each Index) (seen-either
    (seen-made to_local_place (seen-alone (token_shape locals) operand_firsts (1 ∷ []) tuple_seconds (tok-ready class_of m locals local refl x).opens refl))
    (seen-made (λ v. v.1) (behind_any (ended_shape (limit_shape (12 ∷ 7 ∷ 18 ∷ 3 ∷ []) (16 ∷ place_firsts)) (2 ∷ [])) operand_firsts (1 ∷ []) tuple_seconds (1 ∷ []) ((ended-ready (2 ∷ []) (sign (codes ")")) refl (in_parentheses_ready i r) refl).opens_holed y) refl))))

place_kit : {m : ℕ} {x : List Lexeme} {T U : Part Lexeme Named} {S : List Lexeme → Part Lexeme Named} {t u : Reader Lexeme Named} → TypeReady m x T U S t u → (d e : ℕ) → d + 4 ≤ e
    → PlaceKit m x (PlaceLevel Never T (suc d)) (PlaceLevel Never U (suc e)) (λ y. PlaceLevel (PlaceHole x y) (S y) (suc d)) (place_at m t (suc d)) (place_at m u (suc e))
place_kit {m} {x} {T} {U} {S} {t} {u} i d e h = record {
  ready = guard-ready place_firsts (place_body_ready i (place_ready i d e h)) refl;
  moves = place_moves i (place_ready i d e h);
  seen = place_seen i (place_ready i d e h);
}

-- Items.

abbrev pub ScopeReady : ℕ → List Lexeme → Part Lexeme Items → Part Lexeme Items → (List Lexeme → Part Lexeme Items) → Reader Lexeme Items → Reader Lexeme Items → Type 0
ScopeReady m x R W H p w = Ready class_of m (limit_shape [] (178 ∷ [])) x R W H p w

local_type_ready : {m : ℕ} {x : List Lexeme} {T U : Part Lexeme Named} {S : List Lexeme → Part Lexeme Named} {t u : Reader Lexeme Named} → TypeReady m x T U S t u → Ready class_of m (limit_shape (12 ∷ 7 ∷ 18 ∷ []) locals) x (DeclaredPart locals T) (DeclaredPart locals U) (λ y. DeclaredPart locals (S y)) (declared_at locals t) (declared_at locals u)
unfolding class_of
local_type_ready {m} {x} i = wider-ready _ (made-ready to_declared (then-ready (tok-ready class_of m locals local refl x) (past-ready (11 ∷ []) (sign (codes ":")) refl i refl) refl)) refl

parameter_ready : {m : ℕ} {x : List Lexeme} {T U : Part Lexeme Named} {S : List Lexeme → Part Lexeme Named} {t u : Reader Lexeme Named} → TypeReady m x T U S t u → Ready class_of m (limit_shape (12 ∷ 7 ∷ 18 ∷ []) (31 ∷ [])) x (DeclaredPart (31 ∷ []) T) (DeclaredPart (31 ∷ []) U) (λ y. DeclaredPart (31 ∷ []) (S y)) (declared_at (31 ∷ []) t) (declared_at (31 ∷ []) u)
unfolding class_of
parameter_ready {m} {x} i = wider-ready _ (made-ready to_declared (then-ready (tok-ready class_of m (31 ∷ []) local refl x) (past-ready (11 ∷ []) (sign (codes ":")) refl i refl) refl)) refl

let_ready : {m : ℕ} {x : List Lexeme} {T U : Part Lexeme Named} {S : List Lexeme → Part Lexeme Named} {t u : Reader Lexeme Named} → TypeReady m x T U S t u → Ready class_of m (limit_shape [] (176 ∷ [])) x (Let T) (Let U) (λ y. Let (S y)) (let_at t) (let_at u)
unfolding class_of
let_ready {m} {x} i = wider-ready _ (made-ready one_item (past-ready (176 ∷ []) (word (codes "let")) refl (ended-ready (10 ∷ []) (sign (codes ";")) refl (made-ready (λ v. v.1) (then-ready (perhaps-ready (117 ∷ []) false (made-ready (λ a. true) (tok-ready class_of m (117 ∷ []) (word (codes "mut")) refl x)) refl) (local_type_ready i) refl)) refl) refl)) refl

pub debug_ready : (m : ℕ) (x : List Lexeme) → Ready class_of m (flat (177 ∷ [])) x Debug Debug (λ y. Debug) (debug_at m) (debug_at m)
unfolding class_of
debug_ready m x = wider-ready _ (made-ready no_items (past-ready (177 ∷ []) (word (codes "debug")) refl (ended-ready (10 ∷ []) (sign (codes ";")) refl (many-ready debug_tokens (tok-ready class_of m debug_tokens name refl x) refl) refl) refl)) refl

item_ready : {m : ℕ} {x : List Lexeme} {T U : Part Lexeme Named} {S : List Lexeme → Part Lexeme Named} {t u : Reader Lexeme Named} {R W : Part Lexeme Items} {H : List Lexeme → Part Lexeme Items} {p w : Reader Lexeme Items} → TypeReady m x T U S t u → ScopeReady m x R W H p w → Ready class_of m (near [] item_words) x (ItemPart T R) (ItemPart U W) (λ y. ItemPart (S y) (H y)) (item_at m t p) (item_at m u w)
unfolding class_of
item_ready {m} {x} i r = wider-ready _ (either-ready (176 ∷ []) (let_ready i) (either-ready (177 ∷ []) (debug_ready m x) r refl) refl) refl

abbrev pub ItemsPart : Part Lexeme Named → Part Lexeme Items → Part Lexeme Items
ItemsPart T S = Made to_items (Each (ItemPart T S))

abbrev pub items_shape : Shape
items_shape = record { stops = item_words; firsts = item_words; empty = true; flat = false; near = true }

items_ready : {m : ℕ} {x : List Lexeme} {T U : Part Lexeme Named} {S : List Lexeme → Part Lexeme Named} {t u : Reader Lexeme Named} {R W : Part Lexeme Items} {H : List Lexeme → Part Lexeme Items} {p w : Reader Lexeme Items} → TypeReady m x T U S t u → ScopeReady m x R W H p w → Ready class_of m items_shape x (ItemsPart T R) (ItemsPart U W) (λ y. ItemsPart (S y) (H y)) (items_at m t p) (items_at m u w)
unfolding class_of
items_ready {m} {x} i r = wider-ready _ (made-ready to_items (many-ready item_words (item_ready i r) refl)) refl

pub scope_name_ready : (m : ℕ) (x : List Lexeme) → Ready class_of m (record { stops = 1 ∷ []; firsts = 1 ∷ []; empty = true; flat = true; near = true }) x ScopeName ScopeName (λ y. ScopeName) (scope_name_at m) (scope_name_at m)
unfolding class_of
scope_name_ready m x = wider-ready _ (perhaps-ready (1 ∷ []) [] (past-ready (1 ∷ []) (sign (codes "(")) refl (ended-ready (2 ∷ []) (sign (codes ")")) refl (many-ready scope_tokens (tok-ready class_of m scope_tokens name refl x) refl) refl) refl) refl) refl

scope_body_ready : {m : ℕ} {x : List Lexeme} {T U : Part Lexeme Named} {S : List Lexeme → Part Lexeme Named} {t u : Reader Lexeme Named} {R W : Part Lexeme Items} {H : List Lexeme → Part Lexeme Items} {p w : Reader Lexeme Items} → TypeReady m x T U S t u → ScopeReady m x R W H p w → Ready class_of m (near [] (178 ∷ [])) x (Scope T R) (Scope U W) (λ y. Scope (S y) (H y)) (scope_body m t p) (scope_body m u w)
unfolding scope_body class_of
scope_body_ready {m} {x} i r = wider-ready _ (made-ready inner_items (past-ready (178 ∷ []) (word (codes "scope")) refl (then-ready (number-ready m x) (then-ready (scope_name_ready m x) (past-ready (5 ∷ []) (sign (codes "{")) refl (ended-ready (6 ∷ []) (sign (codes "}")) refl (items_ready i r) refl) refl) refl) refl) refl)) refl

-- scope 1 { }
scope_goes : (z : Lexeme → Bool) (T : Part Lexeme Named) (S : Part Lexeme Items) (t : Lexeme) → has (178 ∷ []) (class_of t) ≡ true → Goes z (Scope T S) (t ∷ [])
unfolding inside class_of
scope_goes z T S t h = (
  plain_number ∷ sign (codes "{") ∷ sign (codes "}") ∷ [],
  to_items [],
  λ k n. (
    (plain_number, ([], to_items [])),
    refl,
    (
      (t, (plain_number, ([], to_items []))),
      refl,
      (
        _,
        (h, refl),
        (
          _,
          (rw plain_number_class refl, refl),
          (
            _,
            inr (refl, refl),
            ((sign (codes "{"), to_items []), refl, (sign (codes "}") ∷ k, (refl, refl), ((to_items [], sign (codes "}")), refl, (sign (codes "}") ∷ k, ([], refl, refl), (refl, refl))))),
          ),
        ),
      ),
    ),
  ),
)

scope_sentence : (z : Lexeme → Bool) (T : Part Lexeme Named) (S : Part Lexeme Items) → Goes z (Scope T S) []
unfolding class_of
scope_sentence z T S = let g = scope_goes z T S (word (codes "scope")) refl in (word (codes "scope") ∷ g.0, g.1, λ k n. g.2 k n)

inside_scope : (t : Lexeme) → inside class_of (178 ∷ []) t ≡ true → has (178 ∷ []) (class_of t) ≡ true
unfolding inside
inside_scope t h = h

scope_ready : {m : ℕ} {x : List Lexeme} {T U : Part Lexeme Named} {S : List Lexeme → Part Lexeme Named} {t u : Reader Lexeme Named} → TypeReady m x T U S t u → (d e : ℕ) → d + 4 ≤ e
    → ScopeReady m x (ScopeLevel Never T d) (ScopeLevel Never U e) (λ y. ScopeLevel (At (inside class_of (178 ∷ [])) x y) (S y) d) (scope_at m t d) (scope_at m u e)
scope_ready r zero zero h = absurd (omega arith)
scope_ready {m} {x} {T} {U} {S} {t} {u} r zero (suc e) h = limit-ready [] (178 ∷ []) (scope_body m u (scope_at m u e))
    (λ a i. scope_goes (outside class_of []) U (ScopeLevel Never U e) a (inside_scope a i)) (scope_sentence (outside class_of []) U (ScopeLevel Never U e)) (starts-opens [] (starts-made inner_items (starts-past class_of (178 ∷ []) (178 ∷ []) _ refl)))
scope_ready r (suc d) zero h = absurd (omega arith)
scope_ready r (suc d) (suc e) h = wider-ready (limit_shape [] (178 ∷ [])) (guard-ready (178 ∷ []) (scope_body_ready r (scope_ready r d e (omega arith))) refl) refl

-- Blocks.

-- return ;
closes : (T : Family) (P : Part Lexeme Placed) → Closes (LinePart T P)
unfolding inside class_of
closes T P = (word (codes "return") ∷ sign (codes ";") ∷ [], to_return (sign (codes ";")), λ k. inr (inr (to_return (sign (codes ";")), refl, inr (inl (sign (codes ";"), refl, ((word (codes "return"), sign (codes ";")), refl, (sign (codes ";") ∷ k, (refl, refl), (refl, refl))))))))

abbrev pub line_firsts : List ℕ
line_firsts = 30 ∷ 31 ∷ 1 ∷ statement_words ++ terminator_words

pub body_ready : {m : ℕ} {x : List Lexeme} {T U : Family} {S : List Lexeme → Family} {t u : Readers} {R W : Part Lexeme Placed} {H : List Lexeme → Part Lexeme Placed} {p w : Reader Lexeme Placed} → AllReady m x T U S t u → PlaceKit m x R W H p w
    → Ready class_of m (near [] line_firsts) x (Body T R) (Body U W) (λ y. Body (S y) (H y)) (until (line_at m t p) m) (until (line_at m u w) m)
unfolding class_of
body_ready {m} {x} {T} {U} {S} {t} {u} {R} {W} {H} {p} {w} i r = spelled-ready (Body T R) (Body U W) (λ y. Body (S y) (H y)) (body_on T R) (body_off T R) (body_on U W) (body_off U W) (λ y. body_on (S y) (H y)) (λ y. body_off (S y) (H y))
    (wider-ready _ (until-ready (line_ready i r) (closes T R) refl) refl)

pub cleanup_body_ready : {m : ℕ} {x : List Lexeme} {T U : Family} {S : List Lexeme → Family} {t u : Readers} {R W : Part Lexeme Placed} {H : List Lexeme → Part Lexeme Placed} {p w : Reader Lexeme Placed} → AllReady m x T U S t u → PlaceKit m x R W H p w
    → Ready class_of m (near [] (173 ∷ 172 ∷ line_firsts)) x (CleanupBody T R) (CleanupBody U W) (λ y. CleanupBody (S y) (H y)) (until (cleanup_line_at m t p) m) (until (cleanup_line_at m u w) m)
unfolding class_of
cleanup_body_ready {m} {x} {T} {U} {S} {t} {u} {R} {W} {H} {p} {w} i r = spelled-ready (CleanupBody T R) (CleanupBody U W) (λ y. CleanupBody (S y) (H y)) (cleanup_body_on T R) (cleanup_body_off T R) (cleanup_body_on U W) (cleanup_body_off U W) (λ y. cleanup_body_on (S y) (H y)) (λ y. cleanup_body_off (S y) (H y))
    (wider-ready _ (until-ready (cleanup_line_ready i r) (let c = closes T R in (c.0, c.1, λ k. inr (c.2 k))) refl) refl)

pub block_ready : {m : ℕ} {x : List Lexeme} {T U : Family} {S : List Lexeme → Family} {t u : Readers} {R W : Part Lexeme Placed} {H : List Lexeme → Part Lexeme Placed} {p w : Reader Lexeme Placed} → AllReady m x T U S t u → PlaceKit m x R W H p w
    → Ready class_of m (near [] (32 ∷ [])) x (BlockPart T R) (BlockPart U W) (λ y. BlockPart (S y) (H y)) (block_at m t p) (block_at m u w)
unfolding block_at class_of
block_ready {m} {x} i r = wider-ready _ (made-ready to_block (then-ready (tok-ready class_of m (32 ∷ []) label refl x) (either-ready (11 ∷ []) (made-ready kept_body (past-ready (11 ∷ []) (sign (codes ":")) refl (past-ready (5 ∷ []) (sign (codes "{")) refl (ended-ready (6 ∷ []) (sign (codes "}")) refl (body_ready i r) refl) refl) refl)) (made-ready cleanup_body (past-ready (1 ∷ []) (sign (codes "(")) refl (past-ready (174 ∷ []) (word (codes "cleanup")) refl (past-ready (2 ∷ []) (sign (codes ")")) refl (past-ready (11 ∷ []) (sign (codes ":")) refl (past-ready (5 ∷ []) (sign (codes "{")) refl (ended-ready (6 ∷ []) (sign (codes "}")) refl (cleanup_body_ready i r) refl) refl) refl) refl) refl) refl)) refl) refl)) refl

parameters_ready : {m : ℕ} {x : List Lexeme} {T U : Part Lexeme Named} {S : List Lexeme → Part Lexeme Named} {t u : Reader Lexeme Named} → TypeReady m x T U S t u → Ready class_of m (near [] (1 ∷ [])) x (Parameters T) (Parameters U) (λ y. Parameters (S y)) (parameters_at m t) (parameters_at m u)
unfolding class_of
parameters_ready {m} {x} i = wider-ready _ (past-ready (1 ∷ []) (sign (codes "(")) refl (ended-ready (2 ∷ []) (sign (codes ")")) refl (listed-ready (31 ∷ []) (9 ∷ []) (sign (codes ",")) refl (parameter_ready i) refl) refl) refl) refl

abbrev pub inside_shape : Shape
inside_shape = record { stops = 32 ∷ item_words; firsts = 32 ∷ item_words; empty = true; flat = false; near = true }

inside_ready : {m : ℕ} {x : List Lexeme} {T U : Family} {S : List Lexeme → Family} {t u : Readers} {R W : Part Lexeme Placed} {H : List Lexeme → Part Lexeme Placed} {p w : Reader Lexeme Placed} {C D : Part Lexeme Items} {G : List Lexeme → Part Lexeme Items} {s v : Reader Lexeme Items} → AllReady m x T U S t u → Ready class_of m (close AnyType) x (T AnyType) (U AnyType) (λ y. S y AnyType) (t AnyType) (u AnyType) → PlaceKit m x R W H p w → ScopeReady m x C D G s v
    → Ready class_of m inside_shape x (Inside T R C) (Inside U W D) (λ y. Inside (S y) (H y) (G y)) (inside_at m t p s) (inside_at m u w v)
unfolding class_of
inside_ready {m} {x} i n r o = wider-ready _ (then-ready (items_ready (i AnyType) o) (many-ready (32 ∷ []) (block_ready i r) refl) refl) refl

function_ready : {m : ℕ} {x : List Lexeme} {T U : Family} {S : List Lexeme → Family} {t u : Readers} {R W : Part Lexeme Placed} {H : List Lexeme → Part Lexeme Placed} {p w : Reader Lexeme Placed} {C D : Part Lexeme Items} {G : List Lexeme → Part Lexeme Items} {s v : Reader Lexeme Items} → AllReady m x T U S t u → Ready class_of m (close AnyType) x (T AnyType) (U AnyType) (λ y. S y AnyType) (t AnyType) (u AnyType) → PlaceKit m x R W H p w → ScopeReady m x C D G s v
    → Ready class_of m (near [] (175 ∷ [])) x (FunctionPart T R C) (FunctionPart U W D) (λ y. FunctionPart (S y) (H y) (G y)) (function_at m t p s) (function_at m u w v)
unfolding function_at class_of
function_ready {m} {x} i n r o = wider-ready _ (made-ready to_function (past-ready (175 ∷ []) (word (codes "fn")) refl (then-ready (word_path_ready i) (then-ready (parameters_ready (i AnyType)) (past-ready (20 ∷ []) (sign (codes "->")) refl (then-ready n (past-ready (5 ∷ []) (sign (codes "{")) refl (ended-ready (6 ∷ []) (sign (codes "}")) refl (inside_ready i n r o) refl) refl) refl) refl) refl) refl) refl)) refl

-- Whole texts.

abbrev pub text_shape : Shape
text_shape = record { stops = 175 ∷ []; firsts = 175 ∷ []; empty = true; flat = false; near = true }

text_ready : (m : ℕ) (x : List Lexeme) (d e : ℕ) → d + 4 ≤ e → Ready class_of m text_shape x (Text d) (Text e) (λ y. HoledText d x y) (text_at m d) (text_at m e)
unfolding text_at
text_ready m x d e h =
    let i = type_ready m x (suc d) (suc e) (omega arith) in
    wider-ready _ (many-ready (175 ∷ []) (function_ready i (near_type_ready m x d e h) (place_kit (i AnyType) d e h) (scope_ready (i AnyType) (suc d) (suc e) (omega arith))) refl) refl

pub each_answer_is_right : EachAnswerIsRight
unfolding answer
each_answer_is_right d ts = right (levels (text_ready (length ts + 1))) d ts (omega arith)

-- Types, paths and places alone.

path_text_ready : (m : ℕ) (x : List Lexeme) (d e : ℕ) → d + 4 ≤ e
    → Ready class_of m (near (12 ∷ 7 ∷ []) (43 ∷ 7 ∷ any_word)) x (PathText d) (PathText e) (λ y. FreePath any_word (TypeLevel (TypeHole x y) (suc d))) (free_path_at m any_word (type_at m (suc d))) (free_path_at m any_word (type_at m (suc e)))
path_text_ready m x d e h = word_path_ready (type_ready m x (suc d) (suc e) (omega arith))

place_text_ready : (m : ℕ) (x : List Lexeme) (d e : ℕ) → d + 4 ≤ e
    → Ready class_of m (near (3 ∷ []) place_firsts) x (PlaceText d) (PlaceText e) (λ y. PlaceLevel (PlaceHole x y) (TypeLevel (TypeHole x y) (suc d) AnyType) (suc d)) (place_at m (type_at m (suc d) AnyType) (suc d)) (place_at m (type_at m (suc e) AnyType) (suc e))
place_text_ready m x d e h = (place_kit (type_ready m x (suc d) (suc e) (omega arith) AnyType) d e h).ready

pub each_type_is_right : EachTypeIsRight
unfolding type_answer
each_type_is_right d ts = right (levels (near_type_ready (length ts + 1))) d ts (omega arith)

pub each_path_is_right : EachPathIsRight
unfolding path_answer
each_path_is_right d ts = right (levels (path_text_ready (length ts + 1))) d ts (omega arith)

pub each_place_is_right : EachPlaceIsRight
unfolding place_answer
each_place_is_right d ts = right (levels (place_text_ready (length ts + 1))) d ts (omega arith)
