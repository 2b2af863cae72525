-- Places.
--   place := base ([ index ])*
--   base  := local | ( * place ) | ( place . number : type ) | ( place as word )
--   index := local | number of number | - number of number
use Rattle.std.specs.Prelude.{ℕ, zero, suc, Bool, false, ◌||◌, nat_le, List, [], ◌∷◌, ◌++◌}
use Rattle.vk_core.specs.declared.ids.LocalId.{LocalId}
use Rattle.mir_ir.specs.declared.places.Projection.TheVariants as step
use Rattle.grammar_words.specs.Grammar.{Part, Then, Made, Either, Each}
use Rattle.grammar_words.specs.Reading.{Reader, joined, made, pick, many, guard, deep}
use Rattle.grammar_words.specs.Classes.{inside, Tok, tok, Past, past, Ended, ended}
pub use Rattle.mir_grammar.specs.declared.limits.Passed.{Passed}
pub use Rattle.mir_grammar.specs.declared.trees.Placed.{Placed}
pub use Rattle.mir_grammar.specs.declared.trees.Stepped.{Stepped}
use Rattle.mir_grammar.specs.Lexemes.{Lexeme, class_of, local_number, number_value}
use Rattle.mir_grammar.specs.Names.{Named}
use Rattle.mir_grammar.specs.Types.{any_word}

abbrev pub none_passed : Passed
none_passed = record { locals = false; blocks = false; names = false }

abbrev pub both_passed : Passed → Passed → Passed
both_passed a b = record { locals = a.locals || b.locals; blocks = a.blocks || b.blocks; names = a.names || b.names }

abbrev pub is_far : ℕ → Bool
is_far n = nat_le 4096 n

abbrev pub local_passed : ℕ → Passed
local_passed n = record { locals = is_far n; blocks = false; names = false }

abbrev pub block_passed : ℕ → Passed
block_passed n = record { locals = false; blocks = is_far n; names = false }

abbrev pub far_local : Lexeme → Passed
far_local l = local_passed (local_number l)

abbrev pub long_name : Bool → Passed
long_name b = record { locals = false; blocks = false; names = b }

abbrev pub to_local_id : ℕ → LocalId
to_local_id n = record { 0 = n }

unfoldable pub to_local_place : Lexeme → Placed
to_local_place l = record { place = record { local = to_local_id (local_number l); steps = [] }; passed = far_local l }

abbrev pub with_step : Placed → Stepped → Placed
with_step p s = record { place = record { local = p.place.local; steps = p.place.steps ++ s.step ∷ [] }; passed = both_passed p.passed s.passed }

abbrev pub with_steps : Placed → List Stepped → Placed
with_steps p [] = p
with_steps p (s ∷ ss) = with_steps (with_step p s) ss

unfoldable pub to_stepped : Placed × Stepped → Placed
to_stepped v = with_step v.0 v.1

unfoldable pub to_place : Placed × List Stepped → Placed
to_place v = with_steps v.0 v.1

abbrev pub deref_step : Stepped
deref_step = record { step = step.Deref; passed = none_passed }

unfoldable pub to_deref : Placed → Placed
to_deref p = with_step p deref_step

unfoldable pub to_field : Lexeme × Named → Stepped
to_field v = record { step = step.Field (number_value v.0) v.1.ty; passed = long_name v.1.is_long }

unfoldable pub to_downcast : Lexeme → Stepped
to_downcast l = record { step = step.Downcast l.text; passed = none_passed }

unfoldable pub to_index : Lexeme → Stepped
to_index l = record { step = step.Index (to_local_id (local_number l)); passed = far_local l }

unfoldable pub to_front : Lexeme × Lexeme → Stepped
to_front v = record { step = step.FromFront (number_value v.0) (number_value v.1); passed = none_passed }

unfoldable pub to_back : Lexeme × Lexeme → Stepped
to_back v = record { step = step.FromBack (number_value v.0) (number_value v.1); passed = none_passed }

-- Sets of classes.

abbrev pub locals : List ℕ
locals = 30 ∷ 31 ∷ []

abbrev pub place_firsts : List ℕ
place_firsts = 30 ∷ 31 ∷ 1 ∷ []

-- Each production, over the types and the places of one level less.

-- number of number
abbrev pub NumberOf : Part Lexeme (Lexeme × Lexeme)
NumberOf = Then (Tok class_of (35 ∷ [])) (Past class_of (119 ∷ []) (Tok class_of (35 ∷ [])))

abbrev pub IndexInside : Part Lexeme Stepped
IndexInside = Either (Made to_index (Tok class_of locals)) (Either (Made to_front NumberOf) (Made to_back (Past class_of (19 ∷ []) NumberOf)))

abbrev pub Index : Part Lexeme Stepped
Index = Past class_of (3 ∷ []) (Ended class_of IndexInside (4 ∷ []))

-- . number : type, or as word
abbrev pub Selector : Part Lexeme Named → Part Lexeme Stepped
Selector T = Either (Made to_field (Past class_of (13 ∷ []) (Then (Tok class_of (35 ∷ [])) (Past class_of (11 ∷ []) T)))) (Made to_downcast (Past class_of (118 ∷ []) (Tok class_of any_word)))

-- behind (
abbrev pub InParentheses : Part Lexeme Named → Part Lexeme Placed → Part Lexeme Placed
InParentheses T P = Either (Made to_deref (Past class_of (16 ∷ []) P)) (Made to_stepped (Then P (Selector T)))

abbrev pub Base : Part Lexeme Named → Part Lexeme Placed → Part Lexeme Placed
Base T P = Either (Made to_local_place (Tok class_of locals)) (Past class_of (1 ∷ []) (Ended class_of (InParentheses T P) (2 ∷ [])))

abbrev pub PlaceBody : Part Lexeme Named → Part Lexeme Placed → Part Lexeme Placed
PlaceBody T P = Made to_place (Then (Base T P) (Each Index))

-- places so many levels deep, where B stands for those below
abbrev pub PlaceLevel : Part Lexeme Placed → Part Lexeme Named → ℕ → Part Lexeme Placed
PlaceLevel B T zero = B
PlaceLevel B T (suc d) = PlaceBody T (PlaceLevel B T d)

-- Their readings.

abbrev pub number_of_at : Reader Lexeme (Lexeme × Lexeme)
number_of_at = joined (tok class_of (35 ∷ [])) (past class_of (119 ∷ []) (tok class_of (35 ∷ [])))

abbrev pub index_inside_at : Reader Lexeme Stepped
index_inside_at = pick (inside class_of locals) (made to_index (tok class_of locals)) (pick (inside class_of (35 ∷ [])) (made to_front number_of_at) (made to_back (past class_of (19 ∷ []) number_of_at)))

abbrev pub index_at : Reader Lexeme Stepped
index_at = past class_of (3 ∷ []) (ended class_of index_inside_at (4 ∷ []))

abbrev pub selector_at : Reader Lexeme Named → Reader Lexeme Stepped
selector_at t = pick (inside class_of (13 ∷ [])) (made to_field (past class_of (13 ∷ []) (joined (tok class_of (35 ∷ [])) (past class_of (11 ∷ []) t)))) (made to_downcast (past class_of (118 ∷ []) (tok class_of any_word)))

abbrev pub in_parentheses_at : Reader Lexeme Named → Reader Lexeme Placed → Reader Lexeme Placed
in_parentheses_at t p = pick (inside class_of (16 ∷ [])) (made to_deref (past class_of (16 ∷ []) p)) (made to_stepped (joined p (selector_at t)))

abbrev pub base_at : Reader Lexeme Named → Reader Lexeme Placed → Reader Lexeme Placed
base_at t p = pick (inside class_of locals) (made to_local_place (tok class_of locals)) (past class_of (1 ∷ []) (ended class_of (in_parentheses_at t p) (2 ∷ [])))

unfoldable pub place_body : ℕ → Reader Lexeme Named → Reader Lexeme Placed → Reader Lexeme Placed
place_body m t p = made to_place (joined (base_at t p) (many (inside class_of (3 ∷ [])) index_at m))

-- places nested at most so deep, with m turns for each list
abbrev pub place_at : ℕ → Reader Lexeme Named → ℕ → Reader Lexeme Placed
place_at m t zero = guard (inside class_of place_firsts) deep
place_at m t (suc d) = guard (inside class_of place_firsts) (place_body m t (place_at m t d))
