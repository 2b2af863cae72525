-- What is printed reads again.
use Rattle.std.specs.Prelude.{◌≡◌, ℕ, List, [], ◌∷◌, None}
use Rattle.vk_core.specs.declared.text_place.TextPlace.{TextPlace}
use Rattle.mir_grammar.specs.declared.trees.RawFunction.{RawFunction}
use Rattle.canonical_text.specs.Functions.{functions_text}
use Rattle.mir_ir.specs.declared.tree.Function.{Function}
use Rattle.raw_functions.specs.Meant.{function_at, functions_of}
use Rattle.raw_functions.specs.Doubles.{duplicate_of}
use Rattle.raw_functions.specs.Limits.{limit_of}
use Rattle.mir_grammar.specs.Lexemes.{Lexeme}
use Rattle.mir_grammar.specs.declared.named.Named.{Named}
use Rattle.mir_grammar.specs.Functions.{TypeText, PathText, PlaceText, Text}
use Rattle.mir_grammar.specs.declared.trees.Placed.{Placed}
use Rattle.canonical_text.specs.Places.{place_text}
use Rattle.canonical_text.specs.declared.positions.Position.TheVariants.{AsType, Alone}
use Rattle.canonical_text.specs.Names.{path_written}
use Rattle.canonical_text.specs.Types.{type_text}
use Rattle.mir_lex.specs.declared.token.Token.{Token}
use Rattle.mir_lex.specs.Tokens.{Lexes}
use Rattle.mir_pieces.specs.Seen.{lexemes}
use Rattle.print_laws.specs.Printed.{Writes, ArePrintable}

-- the canonical text of each type, as it stands in a longer path, is tokens that mean the same, nested no deeper
abbrev pub EachTypeReadsAgain : Type 0
EachTypeReadsAgain = (d : ℕ) (ts : List Lexeme) (n : Named) → TypeText d ts n [] → ArePrintable ts → (ls : List Lexeme) × Writes (path_written AsType n.text) ls × TypeText d ls n []

-- and so is that of each path
abbrev pub EachPathReadsAgain : Type 0
EachPathReadsAgain = (d : ℕ) (ts : List Lexeme) (n : Named) → PathText d ts n [] → ArePrintable ts → (ls : List Lexeme) × Writes (path_written Alone n.text) ls × PathText d ls n []

-- a type that is printed on its own is tokens that mean this type, nested no deeper
abbrev pub EachTypeIsPrinted : Type 0
EachTypeIsPrinted = (d : ℕ) (ts : List Lexeme) (n : Named) → TypeText d ts n [] → ArePrintable ts → (ls : List Lexeme) × (m : Named) × Writes (type_text n.ty) ls × TypeText d ls m [] × (m.ty ≡ n.ty)

-- and so is a place
abbrev pub EachPlaceIsPrinted : Type 0
EachPlaceIsPrinted = (d : ℕ) (ts : List Lexeme) (p : Placed) → PlaceText d ts p [] → ArePrintable ts → (ls : List Lexeme) × (q : Placed) × Writes (place_text p.place) ls × PlaceText d ls q [] × (q.place ≡ p.place)

-- functions that all stand here
abbrev pub functions_at : TextPlace → List RawFunction → List Function
functions_at here [] = []
functions_at here (f ∷ fs) = function_at here f ∷ functions_at here fs

-- The functions of a text, printed wherever they stand, are tokens that mean these functions. Where no name of the text
-- stands twice and it is within the limits, no name of what is printed stands twice.
abbrev pub EachTextIsPrinted : Type 0
EachTextIsPrinted = (d : ℕ) (ts : List Lexeme) (fs : List RawFunction) (here : TextPlace) → Text d ts fs [] → ArePrintable ts
    → (ls : List Lexeme) × (gs : List RawFunction) × Writes (functions_text (functions_at here fs)) ls × Text d ls gs [] × (functions_at here gs ≡ functions_at here fs) × (duplicate_of fs ≡ None → limit_of fs ≡ None → duplicate_of gs ≡ None)

-- the same by the tokens of the printed text itself, with the places where they start
abbrev pub EachTextReadsAgain : Type 0
EachTextReadsAgain = (d : ℕ) (ts : List Lexeme) (fs : List RawFunction) (here : TextPlace) → Text d ts fs [] → ArePrintable ts
    → (us : List Token) × (gs : List RawFunction) × Lexes (functions_text (functions_at here fs)) us × Text d (lexemes (functions_text (functions_at here fs)) us) gs [] × (functions_at here gs ≡ functions_at here fs) × (duplicate_of fs ≡ None → limit_of fs ≡ None → duplicate_of gs ≡ None)

-- the same functions, all placed here
abbrev pub all_placed : TextPlace → List Function → List Function
all_placed here [] = []
all_placed here (f ∷ fs) = record { name = f.name; place = here; parameters = f.parameters; result = f.result; locals = f.locals; blocks = f.blocks } ∷ all_placed here fs

-- the functions that a text means, printed, are tokens that mean the same functions but for their places
abbrev pub EachMeaningReadsAgain : Type 0
EachMeaningReadsAgain = (d : ℕ) (text : List ℕ) (ts : List Lexeme) (fs : List RawFunction) (here : TextPlace) → Text d ts fs [] → ArePrintable ts
    → (us : List Token) × (gs : List RawFunction) × Lexes (functions_text (functions_of text fs)) us × Text d (lexemes (functions_text (functions_of text fs)) us) gs []
    × (all_placed here (functions_of (functions_text (functions_of text fs)) gs) ≡ all_placed here (functions_of text fs)) × (duplicate_of fs ≡ None → limit_of fs ≡ None → duplicate_of gs ≡ None)
