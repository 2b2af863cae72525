-- Constants: an integer is one of its type, and a character is a Unicode scalar value.
use Rattle.std.proofs.Common.{◌≡◌, inl, inr, ℕ, ◌-◌, ◌^◌, ◌<◌, Bool, true, false, ◌++◌, nat_lt, nat_le, if◌then◌else◌, List, [], ◌∷◌, codes, Option, Some, None, refl, subst, arith, mod-lt}
use Rattle.std.proofs.lemmas.Bool.{and_parts, or_cases, ltb-true, leb-true}
use Rattle.std.specs.Str.{bytes_eq}
use Rattle.mir_lex.specs.Bytes.{is_char, within}
use Rattle.mir_lex.specs.Tokens.{IsToken}
use Rattle.mir_ir.specs.declared.types.IntTy.{IntTy}
use Rattle.mir_ir.specs.declared.tree.Constant.{Constant}
use Rattle.mir_ir.specs.Integers.{width_of, is_signed}
use Rattle.mir_ir.specs.Names.{all_ints, name_of_int}
use Rattle.grammar_words.specs.Classes.{has}
use Rattle.mir_grammar.specs.declared.limits.Limited.{Limited}
use Rattle.mir_grammar.specs.Lexemes.{Lexeme, class_of, char_value, number_type, number_value}
use Rattle.mir_grammar.specs.Types.{Family}
use Rattle.mir_grammar.specs.Values.{integer_of, to_plus, to_minus, to_bool, to_char, to_text, to_unit, bound_or_name, to_named, truths, constant_words, FormedConstant, ConstantOf}
use Rattle.mir_program.specs.Numbers.{IsCharacter}
use Rattle.mir_program.specs.Functions.{IsConstant}
use Rattle.print_laws.proofs.Bands.{is_character_kind}
use Rattle.print_laws.proofs.Characters.{token_char}
use Rattle.print_laws.proofs.Integers.{half, some_number}
use Rattle.program_laws.proofs.Takes.{Takes, takes_tok, takes_any, takes_made, takes_either, takes_past}
use Rattle.program_laws.proofs.TypesTake.{TypesTake, by_one, path_from_takes}

abbrev pub IsRightConstant : Limited Constant → Type 0
IsRightConstant c = IsConstant c.value

abbrev one : Limited Constant → ℕ
one c = 1

-- Integers.

integer_right : (minus : Bool) (o : Option IntTy) (n : ℕ) → IsConstant (integer_of minus o n)
integer_right minus None n = tt
integer_right false (Some i) n = (refl, mod-lt n (some_number i))
integer_right true (Some i) n = (refl, mod-lt (2 ^ width_of i - n) (some_number i))

least_right : (i : IntTy) (s : Bool) → (if s then 2 ^ (width_of i - 1) else 0) < 2 ^ width_of i
least_right i true = let a = half i in let b = some_number i in omega arith
least_right i false = some_number i

greatest_right : (i : IntTy) (s : Bool) → (if s then 2 ^ (width_of i - 1) - 1 else 2 ^ width_of i - 1) < 2 ^ width_of i
greatest_right i true = let a = half i in let b = some_number i in omega arith
greatest_right i false = let b = some_number i in omega arith

constant_if : (c : Bool) (a b : Constant) → IsConstant a → IsConstant b → IsConstant (if c then a else b)
constant_if true a b h k = h
constant_if false a b h k = k

named_right : (is : List IntTy) (text : List ℕ) → IsConstant (bound_or_name is text)
named_right [] text = tt
named_right (i ∷ is) text = constant_if (bytes_eq (name_of_int i ++ codes "::MIN") text) _ _ (refl, least_right i (is_signed i))
    (constant_if (bytes_eq (name_of_int i ++ codes "::MAX") text) _ _ (refl, greatest_right i (is_signed i)) (named_right is text))

-- Characters.

character_right : (n : ℕ) → is_char n ≡ true → IsCharacter n
character_right n h = elim (or_cases (nat_lt n 55296) (within 57344 1114111 n) h) [
  | inl i ↦ inl (ltb-true n 55296 i)
  | inr i ↦ let p = and_parts (nat_le 57344 n) (nat_le n 1114111) i in let a = leb-true 57344 n p.0 in let b = leb-true n 1114111 p.1 in inr (a, omega arith)
]

token_right : (t : Lexeme) → has (41 ∷ []) (class_of t) ≡ true → IsToken t.kind t.text → IsCharacter (char_value t)
unfolding char_value
token_right t h i = character_right (char_value t) (token_char t.text (subst (λ k. IsToken k t.text) (is_character_kind (41 ∷ []) t h refl) i))

-- Each form of a constant.

formed_takes : Takes FormedConstant IsRightConstant one
unfolding to_plus to_minus to_bool to_char to_text to_unit
formed_takes = takes_either (takes_made to_plus (λ t g. (integer_right false (number_type t) (number_value t), omega arith)) (takes_any (36 ∷ 37 ∷ [])))
    (takes_either (takes_made to_minus (λ t g. (integer_right true (number_type t) (number_value t), omega arith)) (takes_past (19 ∷ []) (takes_any (36 ∷ 38 ∷ []))))
    (takes_either (takes_made to_bool (λ t g. (tt, omega arith)) (takes_any truths))
    (takes_either (takes_made to_char (λ t g. (g, omega arith)) (takes_tok (41 ∷ []) (λ t. IsCharacter (char_value t)) token_right))
    (takes_either (takes_made to_text (λ t g. (tt, omega arith)) (takes_any (40 ∷ []))) (takes_made to_unit (λ t g. (tt, omega arith)) (takes_past (1 ∷ []) (takes_any (2 ∷ []))))))))

pub constant_takes : {T : Family} → TypesTake T → Takes (ConstantOf T) IsRightConstant one
unfolding to_named
constant_takes q = takes_either formed_takes (takes_made to_named (λ n g. (named_right all_ints n.text, omega arith)) (path_from_takes by_one q truths constant_words))
