-- What an answer unfolds to compute the type, the path or the place of a literal.
use Rattle.std.specs.Prelude.{⊤}
use Rattle.grammar_words.specs.Reading.{chained, choose, guard, made}
use Rattle.grammar_words.specs.Classes.{inside, outside}
use Rattle.mir_ir.specs.Names as names
use Rattle.mir_lex.specs.Bytes.{number_within}
use Rattle.mir_lex.specs.Lexing.{lexed, token_at, word_at, suffix_len, number_at, text_at, scalar_len, code_len, lifetime_at, quote_at, segment_at, sign_at}
use Rattle.mir_grammar.specs.Lexemes.{class_of, local_number, number_type, number_value}
use Rattle.mir_grammar.specs.Names.{to_array, to_dyn, to_keyed_path, to_mut_path, to_path, to_plain, to_qualified, to_raw, to_ref, to_tuple}
use Rattle.mir_grammar.specs.Types.{type_body}
use Rattle.mir_grammar.specs.Places.{place_body, to_back, to_deref, to_downcast, to_field, to_front, to_index, to_local_place, to_place, to_stepped}
use Rattle.mir_grammar.specs.Functions.{type_answer, path_answer, place_answer}
use Rattle.part_texts.specs.Parts.{type_in_text, path_in_text, place_in_text}

unfoldable pub texts_on_literals : ⊤
unfolding type_in_text path_in_text place_in_text lexed token_at word_at suffix_len number_at text_at scalar_len code_len lifetime_at quote_at segment_at sign_at number_within type_answer path_answer place_answer type_body place_body class_of local_number number_type number_value names.is_int_named names.name_of_int to_array to_dyn to_keyed_path to_mut_path to_path to_plain to_qualified to_raw to_ref to_tuple to_back to_deref to_downcast to_field to_front to_index to_local_place to_place to_stepped inside outside chained choose guard made
texts_on_literals = tt
