-- Texts by their tokens, and what they mean.
use Rattle.std.proofs.Common.{◌≡◌, Bool, true, false, [], ◌∷◌, codes, refl}
use Rattle.grammar_words.specs.declared.stop.Why.TheVariants.{Wrong, Deep}
use Rattle.grammar_words.specs.Reading.{Outcome, Got, Fault, chained, made, choose, guard}
use Rattle.grammar_words.specs.Classes.{inside}
use Rattle.mir_ir.specs.Names as names
use Rattle.mir_grammar.specs.Lexemes.{Lexeme, class_of, sign, word, number, number_value, number_type}
use Rattle.mir_grammar.specs.Types.{type_body}
use Rattle.mir_grammar.specs.Places.{place_body}
use Rattle.mir_grammar.specs.Values.{constant_at, operand_at, used_or_tuple_at}
use Rattle.mir_grammar.specs.Blocks.{value_line_at, line_at, cleanup_line_at}
use Rattle.mir_grammar.specs.Functions.{type_answer, scope_body, block_at, function_at, text_at, answer}
use Rattle.mir_grammar.proofs.ValueReady.{text}

-- the text means something
abbrev is_read : {A : Type 0} → Outcome Lexeme A → Bool
is_read (Got a rest) = true
is_read (Fault why rest) = false

-- & ; is wrong at its second token, and & & bool passes a limit of two at the third.

wrong_target : type_answer 1 (sign (codes "&") ∷ sign (codes ";") ∷ []) ≡ Fault Wrong (sign (codes ";") ∷ [])
unfolding type_answer type_body class_of inside chained made choose guard
wrong_target = refl

deep_target : type_answer 1 (sign (codes "&") ∷ sign (codes "&") ∷ word (codes "bool") ∷ []) ≡ Fault Deep (word (codes "bool") ∷ [])
unfolding type_answer type_body class_of inside chained made choose guard
deep_target = refl

-- fn f() -> () { bb0: { return; } }
smallest : is_read (answer 63 (word (codes "fn") ∷ word (codes "f") ∷ sign (codes "(") ∷ sign (codes ")") ∷ sign (codes "->") ∷ sign (codes "(") ∷ sign (codes ")") ∷ sign (codes "{") ∷ word (codes "bb0") ∷ sign (codes ":") ∷ sign (codes "{") ∷ word (codes "return") ∷ sign (codes ";") ∷ sign (codes "}") ∷ sign (codes "}") ∷ [])) ≡ true
unfolding answer text_at function_at block_at scope_body type_body place_body constant_at operand_at used_or_tuple_at value_line_at line_at cleanup_line_at class_of number_value number_type names.is_int_named names.name_of_int inside chained made choose guard
smallest = refl

-- fn f(_1: u8, _2: &mut [u8]) -> bool { let mut _3: u8; scope 1 { let _4: (u8,); scope 2 (inlined a) { } } debug x => _1; bb0: { _0 = Lt(copy _1, const 3_u8); return; } }
parameters : is_read (answer 63 (word (codes "fn") ∷ word (codes "f") ∷ sign (codes "(") ∷ word (codes "_1") ∷ sign (codes ":") ∷ word (codes "u8") ∷ sign (codes ",") ∷ word (codes "_2") ∷ sign (codes ":") ∷ sign (codes "&") ∷ word (codes "mut") ∷ sign (codes "[") ∷ word (codes "u8") ∷ sign (codes "]") ∷ sign (codes ")") ∷ sign (codes "->") ∷ word (codes "bool") ∷ sign (codes "{") ∷ word (codes "let") ∷ word (codes "mut") ∷ word (codes "_3") ∷ sign (codes ":") ∷ word (codes "u8") ∷ sign (codes ";") ∷ word (codes "scope") ∷ number (codes "1") ∷ sign (codes "{") ∷ word (codes "let") ∷ word (codes "_4") ∷ sign (codes ":") ∷ sign (codes "(") ∷ word (codes "u8") ∷ sign (codes ",") ∷ sign (codes ")") ∷ sign (codes ";") ∷ word (codes "scope") ∷ number (codes "2") ∷ sign (codes "(") ∷ word (codes "inlined") ∷ word (codes "a") ∷ sign (codes ")") ∷ sign (codes "{") ∷ sign (codes "}") ∷ sign (codes "}") ∷ word (codes "debug") ∷ word (codes "x") ∷ sign (codes "=>") ∷ word (codes "_1") ∷ sign (codes ";") ∷ word (codes "bb0") ∷ sign (codes ":") ∷ sign (codes "{") ∷ word (codes "_0") ∷ sign (codes "=") ∷ word (codes "Lt") ∷ sign (codes "(") ∷ word (codes "copy") ∷ word (codes "_1") ∷ sign (codes ",") ∷ word (codes "const") ∷ number (codes "3_u8") ∷ sign (codes ")") ∷ sign (codes ";") ∷ word (codes "return") ∷ sign (codes ";") ∷ sign (codes "}") ∷ sign (codes "}") ∷ [])) ≡ true
unfolding answer text_at function_at block_at scope_body type_body place_body constant_at operand_at used_or_tuple_at value_line_at line_at cleanup_line_at class_of number_value number_type names.is_int_named names.name_of_int inside chained made choose guard
parameters = refl

-- fn <u8 as T>::f() -> () { bb0: { _1 = a::<u8>::g(copy _2, const true) -> [return: bb1, unwind continue]; } bb1: { drop((*_1)) -> bb2; } bb2: { _1 = S { x: copy _2, y: const -1_i8 }; _1 = E::V(move _2); _1 = E::U; goto -> bb3; } bb3 (cleanup): { resume; } }
calls : is_read (answer 63 (word (codes "fn") ∷ sign (codes "<") ∷ word (codes "u8") ∷ word (codes "as") ∷ word (codes "T") ∷ sign (codes ">") ∷ sign (codes "::") ∷ word (codes "f") ∷ sign (codes "(") ∷ sign (codes ")") ∷ sign (codes "->") ∷ sign (codes "(") ∷ sign (codes ")") ∷ sign (codes "{") ∷ word (codes "bb0") ∷ sign (codes ":") ∷ sign (codes "{") ∷ word (codes "_1") ∷ sign (codes "=") ∷ word (codes "a") ∷ sign (codes "::") ∷ sign (codes "<") ∷ word (codes "u8") ∷ sign (codes ">") ∷ sign (codes "::") ∷ word (codes "g") ∷ sign (codes "(") ∷ word (codes "copy") ∷ word (codes "_2") ∷ sign (codes ",") ∷ word (codes "const") ∷ word (codes "true") ∷ sign (codes ")") ∷ sign (codes "->") ∷ sign (codes "[") ∷ word (codes "return") ∷ sign (codes ":") ∷ word (codes "bb1") ∷ sign (codes ",") ∷ word (codes "unwind") ∷ word (codes "continue") ∷ sign (codes "]") ∷ sign (codes ";") ∷ sign (codes "}") ∷ word (codes "bb1") ∷ sign (codes ":") ∷ sign (codes "{") ∷ word (codes "drop") ∷ sign (codes "(") ∷ sign (codes "(") ∷ sign (codes "*") ∷ word (codes "_1") ∷ sign (codes ")") ∷ sign (codes ")") ∷ sign (codes "->") ∷ word (codes "bb2") ∷ sign (codes ";") ∷ sign (codes "}") ∷ word (codes "bb2") ∷ sign (codes ":") ∷ sign (codes "{") ∷ word (codes "_1") ∷ sign (codes "=") ∷ word (codes "S") ∷ sign (codes "{") ∷ word (codes "x") ∷ sign (codes ":") ∷ word (codes "copy") ∷ word (codes "_2") ∷ sign (codes ",") ∷ word (codes "y") ∷ sign (codes ":") ∷ word (codes "const") ∷ sign (codes "-") ∷ number (codes "1_i8") ∷ sign (codes "}") ∷ sign (codes ";") ∷ word (codes "_1") ∷ sign (codes "=") ∷ word (codes "E") ∷ sign (codes "::") ∷ word (codes "V") ∷ sign (codes "(") ∷ word (codes "move") ∷ word (codes "_2") ∷ sign (codes ")") ∷ sign (codes ";") ∷ word (codes "_1") ∷ sign (codes "=") ∷ word (codes "E") ∷ sign (codes "::") ∷ word (codes "U") ∷ sign (codes ";") ∷ word (codes "goto") ∷ sign (codes "->") ∷ word (codes "bb3") ∷ sign (codes ";") ∷ sign (codes "}") ∷ word (codes "bb3") ∷ sign (codes "(") ∷ word (codes "cleanup") ∷ sign (codes ")") ∷ sign (codes ":") ∷ sign (codes "{") ∷ word (codes "resume") ∷ sign (codes ";") ∷ sign (codes "}") ∷ sign (codes "}") ∷ [])) ≡ true
unfolding answer text_at function_at block_at scope_body type_body place_body constant_at operand_at used_or_tuple_at value_line_at line_at cleanup_line_at class_of number_value number_type names.is_int_named names.name_of_int inside chained made choose guard
calls = refl

-- fn f() -> () { bb0: { _1 = (copy _2, const 1_u8,); _1 = (_2.0: u8); _1 = [copy _2; 3]; _1 = [const 1_u8, const 2_u8]; _1 = &mut (*_2); _1 = &raw const _2[_3]; _1 = copy _2 as u16 (IntToInt); _1 = const u8::MAX; _1 = Len(_2[1 of 3]); switchInt(move _1) -> [0: bb1, 1: bb2, otherwise: bb3]; } }
values : is_read (answer 63 (word (codes "fn") ∷ word (codes "f") ∷ sign (codes "(") ∷ sign (codes ")") ∷ sign (codes "->") ∷ sign (codes "(") ∷ sign (codes ")") ∷ sign (codes "{") ∷ word (codes "bb0") ∷ sign (codes ":") ∷ sign (codes "{") ∷ word (codes "_1") ∷ sign (codes "=") ∷ sign (codes "(") ∷ word (codes "copy") ∷ word (codes "_2") ∷ sign (codes ",") ∷ word (codes "const") ∷ number (codes "1_u8") ∷ sign (codes ",") ∷ sign (codes ")") ∷ sign (codes ";") ∷ word (codes "_1") ∷ sign (codes "=") ∷ sign (codes "(") ∷ word (codes "_2") ∷ sign (codes ".") ∷ number (codes "0") ∷ sign (codes ":") ∷ word (codes "u8") ∷ sign (codes ")") ∷ sign (codes ";") ∷ word (codes "_1") ∷ sign (codes "=") ∷ sign (codes "[") ∷ word (codes "copy") ∷ word (codes "_2") ∷ sign (codes ";") ∷ number (codes "3") ∷ sign (codes "]") ∷ sign (codes ";") ∷ word (codes "_1") ∷ sign (codes "=") ∷ sign (codes "[") ∷ word (codes "const") ∷ number (codes "1_u8") ∷ sign (codes ",") ∷ word (codes "const") ∷ number (codes "2_u8") ∷ sign (codes "]") ∷ sign (codes ";") ∷ word (codes "_1") ∷ sign (codes "=") ∷ sign (codes "&") ∷ word (codes "mut") ∷ sign (codes "(") ∷ sign (codes "*") ∷ word (codes "_2") ∷ sign (codes ")") ∷ sign (codes ";") ∷ word (codes "_1") ∷ sign (codes "=") ∷ sign (codes "&") ∷ word (codes "raw") ∷ word (codes "const") ∷ word (codes "_2") ∷ sign (codes "[") ∷ word (codes "_3") ∷ sign (codes "]") ∷ sign (codes ";") ∷ word (codes "_1") ∷ sign (codes "=") ∷ word (codes "copy") ∷ word (codes "_2") ∷ word (codes "as") ∷ word (codes "u16") ∷ sign (codes "(") ∷ word (codes "IntToInt") ∷ sign (codes ")") ∷ sign (codes ";") ∷ word (codes "_1") ∷ sign (codes "=") ∷ word (codes "const") ∷ word (codes "u8") ∷ sign (codes "::") ∷ word (codes "MAX") ∷ sign (codes ";") ∷ word (codes "_1") ∷ sign (codes "=") ∷ word (codes "Len") ∷ sign (codes "(") ∷ word (codes "_2") ∷ sign (codes "[") ∷ number (codes "1") ∷ word (codes "of") ∷ number (codes "3") ∷ sign (codes "]") ∷ sign (codes ")") ∷ sign (codes ";") ∷ word (codes "switchInt") ∷ sign (codes "(") ∷ word (codes "move") ∷ word (codes "_1") ∷ sign (codes ")") ∷ sign (codes "->") ∷ sign (codes "[") ∷ number (codes "0") ∷ sign (codes ":") ∷ word (codes "bb1") ∷ sign (codes ",") ∷ number (codes "1") ∷ sign (codes ":") ∷ word (codes "bb2") ∷ sign (codes ",") ∷ word (codes "otherwise") ∷ sign (codes ":") ∷ word (codes "bb3") ∷ sign (codes "]") ∷ sign (codes ";") ∷ sign (codes "}") ∷ sign (codes "}") ∷ [])) ≡ true
unfolding answer text_at function_at block_at scope_body type_body place_body constant_at operand_at used_or_tuple_at value_line_at line_at cleanup_line_at class_of number_value number_type names.is_int_named names.name_of_int inside chained made choose guard
values = refl

-- fn f() -> () { bb0: { assert(!move _1, "a", copy _2) -> [success: bb1, unwind: bb2]; } bb1: { StorageLive(_1); StorageDead(_1); discriminant(_1) = 2; nop; PlaceMention(_1); unreachable; } bb2 (cleanup): { terminate(abi); } }
asserts : is_read (answer 63 (word (codes "fn") ∷ word (codes "f") ∷ sign (codes "(") ∷ sign (codes ")") ∷ sign (codes "->") ∷ sign (codes "(") ∷ sign (codes ")") ∷ sign (codes "{") ∷ word (codes "bb0") ∷ sign (codes ":") ∷ sign (codes "{") ∷ word (codes "assert") ∷ sign (codes "(") ∷ sign (codes "!") ∷ word (codes "move") ∷ word (codes "_1") ∷ sign (codes ",") ∷ text ∷ sign (codes ",") ∷ word (codes "copy") ∷ word (codes "_2") ∷ sign (codes ")") ∷ sign (codes "->") ∷ sign (codes "[") ∷ word (codes "success") ∷ sign (codes ":") ∷ word (codes "bb1") ∷ sign (codes ",") ∷ word (codes "unwind") ∷ sign (codes ":") ∷ word (codes "bb2") ∷ sign (codes "]") ∷ sign (codes ";") ∷ sign (codes "}") ∷ word (codes "bb1") ∷ sign (codes ":") ∷ sign (codes "{") ∷ word (codes "StorageLive") ∷ sign (codes "(") ∷ word (codes "_1") ∷ sign (codes ")") ∷ sign (codes ";") ∷ word (codes "StorageDead") ∷ sign (codes "(") ∷ word (codes "_1") ∷ sign (codes ")") ∷ sign (codes ";") ∷ word (codes "discriminant") ∷ sign (codes "(") ∷ word (codes "_1") ∷ sign (codes ")") ∷ sign (codes "=") ∷ number (codes "2") ∷ sign (codes ";") ∷ word (codes "nop") ∷ sign (codes ";") ∷ word (codes "PlaceMention") ∷ sign (codes "(") ∷ word (codes "_1") ∷ sign (codes ")") ∷ sign (codes ";") ∷ word (codes "unreachable") ∷ sign (codes ";") ∷ sign (codes "}") ∷ word (codes "bb2") ∷ sign (codes "(") ∷ word (codes "cleanup") ∷ sign (codes ")") ∷ sign (codes ":") ∷ sign (codes "{") ∷ word (codes "terminate") ∷ sign (codes "(") ∷ word (codes "abi") ∷ sign (codes ")") ∷ sign (codes ";") ∷ sign (codes "}") ∷ sign (codes "}") ∷ [])) ≡ true
unfolding answer text_at function_at block_at scope_body type_body place_body constant_at operand_at used_or_tuple_at value_line_at line_at cleanup_line_at class_of number_value number_type names.is_int_named names.name_of_int inside chained made choose guard
asserts = refl

-- no token
no_functions : is_read (answer 63 ([])) ≡ true
unfolding answer text_at function_at block_at scope_body type_body place_body constant_at operand_at used_or_tuple_at value_line_at line_at cleanup_line_at class_of number_value number_type names.is_int_named names.name_of_int inside chained made choose guard
no_functions = refl

-- fn f() -> () { bb0: { _1 = Add(copy _1, copy _2) -> bb1; } }
call_of_operator : answer 63 (word (codes "fn") ∷ word (codes "f") ∷ sign (codes "(") ∷ sign (codes ")") ∷ sign (codes "->") ∷ sign (codes "(") ∷ sign (codes ")") ∷ sign (codes "{") ∷ word (codes "bb0") ∷ sign (codes ":") ∷ sign (codes "{") ∷ word (codes "_1") ∷ sign (codes "=") ∷ word (codes "Add") ∷ sign (codes "(") ∷ word (codes "copy") ∷ word (codes "_1") ∷ sign (codes ",") ∷ word (codes "copy") ∷ word (codes "_2") ∷ sign (codes ")") ∷ sign (codes "->") ∷ word (codes "bb1") ∷ sign (codes ";") ∷ sign (codes "}") ∷ sign (codes "}") ∷ []) ≡ Fault Wrong (sign (codes "->") ∷ word (codes "bb1") ∷ sign (codes ";") ∷ sign (codes "}") ∷ sign (codes "}") ∷ [])
unfolding answer text_at function_at block_at scope_body type_body place_body constant_at operand_at used_or_tuple_at value_line_at line_at cleanup_line_at class_of number_value number_type names.is_int_named names.name_of_int inside chained made choose guard
call_of_operator = refl

-- fn f(_0: u8) -> () { }
parameter_zero : answer 63 (word (codes "fn") ∷ word (codes "f") ∷ sign (codes "(") ∷ word (codes "_0") ∷ sign (codes ":") ∷ word (codes "u8") ∷ sign (codes ")") ∷ sign (codes "->") ∷ sign (codes "(") ∷ sign (codes ")") ∷ sign (codes "{") ∷ sign (codes "}") ∷ []) ≡ Fault Wrong (word (codes "_0") ∷ sign (codes ":") ∷ word (codes "u8") ∷ sign (codes ")") ∷ sign (codes "->") ∷ sign (codes "(") ∷ sign (codes ")") ∷ sign (codes "{") ∷ sign (codes "}") ∷ [])
unfolding answer text_at function_at block_at scope_body type_body place_body constant_at operand_at used_or_tuple_at value_line_at line_at cleanup_line_at class_of number_value number_type names.is_int_named names.name_of_int inside chained made choose guard
parameter_zero = refl

-- fn f() -> () { bb0: { _1 = const 256_u8; return; } }
number_out_of_range : answer 63 (word (codes "fn") ∷ word (codes "f") ∷ sign (codes "(") ∷ sign (codes ")") ∷ sign (codes "->") ∷ sign (codes "(") ∷ sign (codes ")") ∷ sign (codes "{") ∷ word (codes "bb0") ∷ sign (codes ":") ∷ sign (codes "{") ∷ word (codes "_1") ∷ sign (codes "=") ∷ word (codes "const") ∷ number (codes "256_u8") ∷ sign (codes ";") ∷ word (codes "return") ∷ sign (codes ";") ∷ sign (codes "}") ∷ sign (codes "}") ∷ []) ≡ Fault Wrong (number (codes "256_u8") ∷ sign (codes ";") ∷ word (codes "return") ∷ sign (codes ";") ∷ sign (codes "}") ∷ sign (codes "}") ∷ [])
unfolding answer text_at function_at block_at scope_body type_body place_body constant_at operand_at used_or_tuple_at value_line_at line_at cleanup_line_at class_of number_value number_type names.is_int_named names.name_of_int inside chained made choose guard
number_out_of_range = refl

-- fn f() -> () { bb0: { return;
text_ends : answer 63 (word (codes "fn") ∷ word (codes "f") ∷ sign (codes "(") ∷ sign (codes ")") ∷ sign (codes "->") ∷ sign (codes "(") ∷ sign (codes ")") ∷ sign (codes "{") ∷ word (codes "bb0") ∷ sign (codes ":") ∷ sign (codes "{") ∷ word (codes "return") ∷ sign (codes ";") ∷ []) ≡ Fault Wrong ([])
unfolding answer text_at function_at block_at scope_body type_body place_body constant_at operand_at used_or_tuple_at value_line_at line_at cleanup_line_at class_of number_value number_type names.is_int_named names.name_of_int inside chained made choose guard
text_ends = refl
