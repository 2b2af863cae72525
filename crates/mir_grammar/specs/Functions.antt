-- Functions and whole texts.
--   text     := function*
--   function := fn path ( list(param) ) -> type { item* (block | cleanup)* }
--   param    := local : type
--   item     := let mut? local : type ; | debug (any token but ; { })* ; | scope number (( (any token but ( ) { })* ))? { item* }
--   block    := label : { statement* terminator }
--   cleanup  := label ( cleanup ) : { statement* (terminator | resume ; | terminate ( word ) ;) }
-- A parameter is not _0.
use Rattle.std.specs.Prelude.{◌≡◌, ℕ, zero, suc, Bool, true, false, List, [], ◌∷◌, ◌++◌, length, ◌+◌}
use Rattle.grammar_words.specs.Grammar.{Part, Then, Made, Either, Each, Never, At}
use Rattle.grammar_words.specs.Reading.{Outcome, Reader, joined, made, pick, many, until, guard, deep}
use Rattle.grammar_words.specs.Classes.{inside, Tok, tok, Past, past, Ended, ended, Perhaps, perhaps, Perhaps_token, Listed, listed}
use Rattle.grammar_words.specs.Exact.{whole, IsRight}
pub use Rattle.mir_grammar.specs.declared.trees.Declared.{Declared}
pub use Rattle.mir_grammar.specs.declared.trees.RawBlock.{RawBlock}
pub use Rattle.mir_grammar.specs.declared.trees.RawFunction.{RawFunction}
use Rattle.mir_grammar.specs.Lexemes.{Lexeme, class_of, local_number, label_number}
use Rattle.mir_grammar.specs.Names.{Named}
use Rattle.mir_grammar.specs.Types.{Family, Readers, AnyType, NoType, TypeLevel, type_at, firsts_of, any_word, run, without, FreePath, free_path_at, perhaps_token}
use Rattle.mir_grammar.specs.Places.{Placed, to_local_id, PlaceLevel, place_at, place_firsts, locals}
use Rattle.mir_grammar.specs.Blocks.{to_block_id, Kept, EndingAt, Body, CleanupBody, line_at, cleanup_line_at}

-- Sets of classes.

abbrev pub any_token : List ℕ
any_token = run 1 21 ++ (run 30 14 ++ run 100 79)

abbrev pub debug_tokens : List ℕ
debug_tokens = without (10 ∷ 5 ∷ 6 ∷ []) any_token

abbrev pub scope_tokens : List ℕ
scope_tokens = without (1 ∷ 2 ∷ 5 ∷ 6 ∷ []) any_token

-- Items.

unfoldable pub to_declared : Lexeme × Named → Declared
to_declared v = record { id = to_local_id (local_number v.0); word = v.0.text; start = v.0.start; ty = v.1 }

abbrev pub one_item : Declared → List Declared
one_item d = d ∷ []

abbrev pub no_items : List Lexeme → List Declared
no_items ts = []

abbrev pub concat : List (List Declared) → List Declared
concat [] = []
concat (ds ∷ more) = ds ++ concat more

unfoldable pub to_items : List (List Declared) → List Declared
to_items ds = concat ds

abbrev pub Items : Type 0
Items = List Declared

-- local : type
abbrev pub DeclaredPart : List ℕ → Part Lexeme Named → Part Lexeme Declared
DeclaredPart set T = Made to_declared (Then (Tok class_of set) (Past class_of (11 ∷ []) T))

-- let mut? local : type ;
abbrev pub Let : Part Lexeme Named → Part Lexeme Items
Let T = Made one_item (Past class_of (176 ∷ []) (Ended class_of (Made (λ v. v.1) (Then (Perhaps_token class_of (117 ∷ [])) (DeclaredPart locals T))) (10 ∷ [])))

abbrev pub Debug : Part Lexeme Items
Debug = Made no_items (Past class_of (177 ∷ []) (Ended class_of (Each (Tok class_of debug_tokens)) (10 ∷ [])))

-- where S stands for the scopes in it
abbrev pub ItemPart : Part Lexeme Named → Part Lexeme Items → Part Lexeme Items
ItemPart T S = Either (Let T) (Either Debug S)

abbrev pub ScopeName : Part Lexeme (List Lexeme)
ScopeName = Perhaps [] (Past class_of (1 ∷ []) (Ended class_of (Each (Tok class_of scope_tokens)) (2 ∷ [])))

abbrev pub inner_items : Lexeme × (List Lexeme × Items) → Items
inner_items v = v.1.1

abbrev pub Scope : Part Lexeme Named → Part Lexeme Items → Part Lexeme Items
Scope T S = Made inner_items (Past class_of (178 ∷ []) (Then (Tok class_of (35 ∷ [])) (Then ScopeName (Past class_of (5 ∷ []) (Ended class_of (Made to_items (Each (ItemPart T S))) (6 ∷ []))))))

-- scopes so many levels deep, where B stands for those below
abbrev pub ScopeLevel : Part Lexeme Items → Part Lexeme Named → ℕ → Part Lexeme Items
ScopeLevel B T zero = B
ScopeLevel B T (suc d) = Scope T (ScopeLevel B T d)

-- Blocks.

unfoldable pub to_block : Lexeme × (Bool × (List Kept × EndingAt)) → RawBlock
to_block v = record { id = to_block_id (label_number v.0); word = v.0.text; start = v.0.start; is_cleanup = v.1.0; statements = v.1.1.0; ending = v.1.1.1 }

abbrev pub kept_body : List Kept × EndingAt → Bool × (List Kept × EndingAt)
kept_body v = (false, v)

abbrev pub cleanup_body : List Kept × EndingAt → Bool × (List Kept × EndingAt)
cleanup_body v = (true, v)

abbrev pub Braces : {A : Type 0} → Part Lexeme A → Part Lexeme A
Braces R = Past class_of (5 ∷ []) (Ended class_of R (6 ∷ []))

abbrev pub BlockPart : Family → Part Lexeme Placed → Part Lexeme RawBlock
BlockPart T P = Made to_block (Then (Tok class_of (32 ∷ [])) (Either (Made kept_body (Past class_of (11 ∷ []) (Braces (Body T P))))
    (Made cleanup_body (Past class_of (1 ∷ []) (Past class_of (174 ∷ []) (Past class_of (2 ∷ []) (Past class_of (11 ∷ []) (Braces (CleanupBody T P)))))))))

-- Functions.

unfoldable pub to_function : Named × (List Declared × (Named × (Items × List RawBlock))) → RawFunction
to_function v = record { name = v.0; parameters = v.1.0; result = v.1.1.0; items = v.1.1.1.0; blocks = v.1.1.1.1 }

abbrev pub Parameters : Part Lexeme Named → Part Lexeme (List Declared)
Parameters T = Past class_of (1 ∷ []) (Ended class_of (Listed class_of (9 ∷ []) (DeclaredPart (31 ∷ []) T)) (2 ∷ []))

abbrev pub Inside : Family → Part Lexeme Placed → Part Lexeme Items → Part Lexeme (Items × List RawBlock)
Inside T P S = Then (Made to_items (Each (ItemPart (T AnyType) S))) (Each (BlockPart T P))

abbrev pub FunctionPart : Family → Part Lexeme Placed → Part Lexeme Items → Part Lexeme RawFunction
FunctionPart T P S = Made to_function (Past class_of (175 ∷ []) (Then (FreePath any_word T) (Then (Parameters (T AnyType)) (Past class_of (20 ∷ []) (Then (T AnyType) (Braces (Inside T P S)))))))

-- the texts whose types, places and scopes are nested at most d + 1 deep
abbrev pub Text : ℕ → Part Lexeme (List RawFunction)
Text d = Each (FunctionPart (TypeLevel NoType (suc d)) (PlaceLevel Never (TypeLevel NoType (suc d) AnyType) (suc d)) (ScopeLevel Never (TypeLevel NoType (suc d) AnyType) (suc d)))

-- where a type, a path in angle brackets, a place or a scope of any depth may stand at x, with y behind it, one level
-- below the limit
abbrev pub TypeHole : List Lexeme → List Lexeme → Family
TypeHole x y want = At (inside class_of (firsts_of want)) x y

abbrev pub HoledText : ℕ → List Lexeme → List Lexeme → Part Lexeme (List RawFunction)
HoledText d x y = Each (FunctionPart (TypeLevel (TypeHole x y) (suc d)) (PlaceLevel (At (inside class_of place_firsts) x y) (TypeLevel (TypeHole x y) (suc d) AnyType) (suc d))
    (ScopeLevel (At (inside class_of (178 ∷ [])) x y) (TypeLevel (TypeHole x y) (suc d) AnyType) (suc d)))

-- Their readings.

abbrev pub declared_at : List ℕ → Reader Lexeme Named → Reader Lexeme Declared
declared_at set t = made to_declared (joined (tok class_of set) (past class_of (11 ∷ []) t))

abbrev pub let_at : Reader Lexeme Named → Reader Lexeme Items
let_at t = made one_item (past class_of (176 ∷ []) (ended class_of (made (λ v. v.1) (joined (perhaps_token (117 ∷ [])) (declared_at locals t))) (10 ∷ [])))

abbrev pub debug_at : ℕ → Reader Lexeme Items
debug_at m = made no_items (past class_of (177 ∷ []) (ended class_of (many (inside class_of debug_tokens) (tok class_of debug_tokens) m) (10 ∷ [])))

abbrev pub item_at : ℕ → Reader Lexeme Named → Reader Lexeme Items → Reader Lexeme Items
item_at m t s = pick (inside class_of (176 ∷ [])) (let_at t) (pick (inside class_of (177 ∷ [])) (debug_at m) s)

abbrev pub item_words : List ℕ
item_words = 176 ∷ 177 ∷ 178 ∷ []

abbrev pub items_at : ℕ → Reader Lexeme Named → Reader Lexeme Items → Reader Lexeme Items
items_at m t s = made to_items (many (inside class_of item_words) (item_at m t s) m)

abbrev pub scope_name_at : ℕ → Reader Lexeme (List Lexeme)
scope_name_at m = perhaps class_of (1 ∷ []) [] (past class_of (1 ∷ []) (ended class_of (many (inside class_of scope_tokens) (tok class_of scope_tokens) m) (2 ∷ [])))

unfoldable pub scope_body : ℕ → Reader Lexeme Named → Reader Lexeme Items → Reader Lexeme Items
scope_body m t s = made inner_items (past class_of (178 ∷ []) (joined (tok class_of (35 ∷ [])) (joined (scope_name_at m) (past class_of (5 ∷ []) (ended class_of (items_at m t s) (6 ∷ []))))))

-- scopes nested at most so deep, with m turns for each list
abbrev pub scope_at : ℕ → Reader Lexeme Named → ℕ → Reader Lexeme Items
scope_at m t zero = guard (inside class_of (178 ∷ [])) deep
scope_at m t (suc d) = guard (inside class_of (178 ∷ [])) (scope_body m t (scope_at m t d))

abbrev pub braces_at : {A : Type 0} → Reader Lexeme A → Reader Lexeme A
braces_at r = past class_of (5 ∷ []) (ended class_of r (6 ∷ []))

unfoldable pub block_at : ℕ → Readers → Reader Lexeme Placed → Reader Lexeme RawBlock
block_at m t p = made to_block (joined (tok class_of (32 ∷ [])) (pick (inside class_of (11 ∷ [])) (made kept_body (past class_of (11 ∷ []) (braces_at (until (line_at m t p) m))))
    (made cleanup_body (past class_of (1 ∷ []) (past class_of (174 ∷ []) (past class_of (2 ∷ []) (past class_of (11 ∷ []) (braces_at (until (cleanup_line_at m t p) m)))))))))

abbrev pub parameters_at : ℕ → Reader Lexeme Named → Reader Lexeme (List Declared)
parameters_at m t = past class_of (1 ∷ []) (ended class_of (listed class_of (31 ∷ []) (9 ∷ []) (declared_at (31 ∷ []) t) m) (2 ∷ []))

abbrev pub inside_at : ℕ → Readers → Reader Lexeme Placed → Reader Lexeme Items → Reader Lexeme (Items × List RawBlock)
inside_at m t p s = joined (items_at m (t AnyType) s) (many (inside class_of (32 ∷ [])) (block_at m t p) m)

unfoldable pub function_at : ℕ → Readers → Reader Lexeme Placed → Reader Lexeme Items → Reader Lexeme RawFunction
function_at m t p s = made to_function (past class_of (175 ∷ []) (joined (free_path_at m any_word t) (joined (parameters_at m (t AnyType)) (past class_of (20 ∷ []) (joined (t AnyType) (braces_at (inside_at m t p s)))))))

unfoldable pub text_at : ℕ → ℕ → Reader Lexeme (List RawFunction)
text_at m d = many (inside class_of (175 ∷ [])) (function_at m (type_at m (suc d)) (place_at m (type_at m (suc d) AnyType) (suc d)) (scope_at m (type_at m (suc d) AnyType) (suc d))) m

-- the answer to a text whose types, places and scopes may be nested d + 1 deep
unfoldable pub answer : ℕ → List Lexeme → Outcome Lexeme (List RawFunction)
answer d ts = whole (text_at (length ts + 1) d ts)

-- each answer is right
abbrev pub EachAnswerIsRight : Type 0
EachAnswerIsRight = (d : ℕ) (ts : List Lexeme) → IsRight Text HoledText d ts (answer d ts)

-- Types, paths and places alone.

abbrev pub TypeText : ℕ → Part Lexeme Named
TypeText d = TypeLevel NoType (suc d) AnyType

abbrev pub PathText : ℕ → Part Lexeme Named
PathText d = FreePath any_word (TypeLevel NoType (suc d))

abbrev pub PlaceText : ℕ → Part Lexeme Placed
PlaceText d = PlaceLevel Never (TypeLevel NoType (suc d) AnyType) (suc d)

unfoldable pub type_answer : ℕ → List Lexeme → Outcome Lexeme Named
type_answer d ts = whole (type_at (length ts + 1) (suc d) AnyType ts)

unfoldable pub path_answer : ℕ → List Lexeme → Outcome Lexeme Named
path_answer d ts = whole (free_path_at (length ts + 1) any_word (type_at (length ts + 1) (suc d)) ts)

unfoldable pub place_answer : ℕ → List Lexeme → Outcome Lexeme Placed
place_answer d ts = whole (place_at (length ts + 1) (type_at (length ts + 1) (suc d) AnyType) (suc d) ts)

abbrev pub EachTypeIsRight : Type 0
EachTypeIsRight = (d : ℕ) (ts : List Lexeme) → IsRight TypeText (λ e x y. TypeLevel (TypeHole x y) (suc e) AnyType) d ts (type_answer d ts)

abbrev pub EachPathIsRight : Type 0
EachPathIsRight = (d : ℕ) (ts : List Lexeme) → IsRight PathText (λ e x y. FreePath any_word (TypeLevel (TypeHole x y) (suc e))) d ts (path_answer d ts)

abbrev pub EachPlaceIsRight : Type 0
EachPlaceIsRight = (d : ℕ) (ts : List Lexeme) → IsRight PlaceText (λ e x y. PlaceLevel (At (inside class_of place_firsts) x y) (TypeLevel (TypeHole x y) (suc e) AnyType) (suc e)) d ts (place_answer d ts)

-- no text means two lists of functions, whatever the depths of nesting
abbrev pub HasOneReading : Type 0
HasOneReading = (d e : ℕ) (ts : List Lexeme) (a b : List RawFunction) → Text d ts a [] → Text e ts b [] → a ≡ b
