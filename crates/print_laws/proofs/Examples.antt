-- Texts that can be written again, and why others cannot.
use Rattle.std.proofs.Common.{◌≡◌, ℕ, Bool, true, false, ◌&&◌, List, [], ◌∷◌, codes, refl, arith}
use Rattle.grammar_words.specs.Reading.{Outcome, Got, Fault, chained, made, choose, guard}
use Rattle.grammar_words.specs.Classes.{has, inside}
use Rattle.mir_ir.specs.Names as names
use Rattle.mir_grammar.specs.Lexemes.{Lexeme, class_of, word_class, number_value, number_type, sign, word}
use Rattle.mir_grammar.specs.Functions.{type_answer}
use Rattle.mir_grammar.specs.Types.{type_body, type_words}
use Rattle.mir_grammar.specs.Values.{truths, value_words}
use Rattle.canonical_text.specs.declared.positions.Position.TheVariants.{AsValue, AsConstant, AsType}
use Rattle.canonical_text.specs.Names.{is_reserved, path_written, words_of}
use Rattle.print_laws.specs.Printed.{ArePrintable}

abbrev is_read : {A : Type 0} → Outcome Lexeme A → Bool
is_read (Got n rest) = true
is_read (Fault why rest) = false

-- a::<u8>
printable : ArePrintable (word (codes "a") ∷ sign (codes "::") ∷ sign (codes "<") ∷ word (codes "u8") ∷ sign (codes ">") ∷ [])
unfolding class_of inside number_value number_type
printable = ((refl, omega arith), refl, (refl, refl, (refl, refl, ((refl, omega arith), refl, (refl, refl, tt)))))

-- u8::<a> is a type, and its canonical text u8<a> reads as none
reserved_read : is_read (type_answer 63 (word (codes "u8") ∷ sign (codes "::") ∷ sign (codes "<") ∷ word (codes "a") ∷ sign (codes ">") ∷ [])) ≡ true
unfolding type_answer type_body class_of number_value number_type names.is_int_named names.name_of_int inside chained made choose guard
reserved_read = refl

reserved_printed : is_read (type_answer 63 (word (codes "u8") ∷ sign (codes "<") ∷ word (codes "a") ∷ sign (codes ">") ∷ [])) ≡ false
unfolding type_answer type_body class_of number_value number_type names.is_int_named names.name_of_int inside chained made choose guard
reserved_printed = refl

-- so it is written u8::<a>
reserved_written : path_written AsType (codes "u8<a>") ≡ codes "u8::<a>"
unfolding path_written is_reserved
reserved_written = refl

-- Add<a> reads as a type, and is written so
operator_read : is_read (type_answer 63 (word (codes "Add") ∷ sign (codes "<") ∷ word (codes "a") ∷ sign (codes ">") ∷ [])) ≡ true
unfolding type_answer type_body class_of number_value number_type names.is_int_named names.name_of_int inside chained made choose guard
operator_read = refl

operator_written : path_written AsType (codes "Add<a>") ≡ codes "Add<a>"
unfolding path_written is_reserved
operator_written = refl

-- each of these words has such a class
abbrev all_inside : List ℕ → List (List ℕ) → Bool
all_inside set [] = true
all_inside set (w ∷ ws) = has set (word_class w) && all_inside set ws

-- the words behind which :: is written are just those that begin something else by the grammar: of types, and mut behind &
type_words_alone : all_inside (117 ∷ type_words) (words_of AsType) ≡ true
type_words_alone = refl

value_words_alone : all_inside value_words (words_of AsValue) ≡ true
value_words_alone = refl

constant_words_alone : all_inside truths (words_of AsConstant) ≡ true
constant_words_alone = refl

-- &(mut) is the type & of the path mut, and its text &mut is none
mut_read : is_read (type_answer 63 (sign (codes "&") ∷ sign (codes "(") ∷ word (codes "mut") ∷ sign (codes ")") ∷ [])) ≡ true
unfolding type_answer type_body class_of number_value number_type names.is_int_named names.name_of_int inside chained made choose guard
mut_read = refl

mut_printed : is_read (type_answer 63 (sign (codes "&") ∷ word (codes "mut") ∷ [])) ≡ false
unfolding type_answer type_body class_of number_value number_type names.is_int_named names.name_of_int inside chained made choose guard
mut_printed = refl
