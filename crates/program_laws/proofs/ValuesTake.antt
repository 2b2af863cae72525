-- Operands and rvalues: each operand and each type that is written in them takes a token of its own, and each constant is right.
use Rattle.std.proofs.Common.{◌≡◌, ℕ, ◌+◌, ◌≤◌, Bool, true, false, if◌then◌else◌, List, [], ◌∷◌, codes, length, Option, Some, None, refl, le_refl, arith, flat_map, length-append}
use Rattle.std.specs.Bool.{⊤}
use Rattle.std.specs.Str.{bytes_eq}
use Rattle.mir_ir.specs.declared.tree.Operand.{Operand}
use Rattle.mir_ir.specs.declared.tree.NamedOperand.{NamedOperand}
use Rattle.mir_ir.specs.declared.tree.Rvalue.{Rvalue}
use Rattle.mir_ir.specs.declared.tree.Rvalue.TheVariants as rvalue
use Rattle.mir_ir.specs.declared.tree.CastKind.{CastKind}
use Rattle.grammar_words.specs.Grammar.{Part, Made}
use Rattle.mir_grammar.specs.declared.limits.Limited.{Limited}
use Rattle.mir_grammar.specs.declared.named.Named.{Named}
use Rattle.mir_grammar.specs.declared.trees.Placed.{Placed}
use Rattle.mir_grammar.specs.declared.trees.ArrayTail.{ArrayTail}
use Rattle.mir_grammar.specs.declared.trees.ArrayTail.TheVariants.{Times, Others}
use Rattle.mir_grammar.specs.Lexemes.{Lexeme}
use Rattle.mir_grammar.specs.Types.{Family, AnyType, any_word}
use Rattle.mir_grammar.specs.Values.{to_copy, to_move, to_const, Marked, OperandOf, values_of, Operands, to_plain_kind, to_coercion, Coercion, Kind, CastTo, Value, to_used, Used, to_binary, binaries, Binary, unary_value, to_unary, Unary, measured_value, to_measured, Measured, sized_value, to_sized, Sized, to_ref_of, to_raw_of, mutable, immutable, Reference, to_array_of, to_no_array, to_times, ArrayRest, ArrayOf, to_tuple_of, TupleOf, Operator, FormedValue, value_words, free_words, ValuePath, to_field, Fields, to_path_unit, to_path_tuple, to_path_fields, RvalueOf}
use Rattle.mir_program.specs.Joined.{written}
use Rattle.mir_program.specs.Functions.{named_operand, rvalue_operands, IsOperand}
use Rattle.mir_program.specs.Mentions.{operand_types, named_operand_types, rvalue_types}
use Rattle.program_laws.proofs.Takes.{Takes, Anything, nil, Every, total, takes_any, takes_made, takes_then, takes_either, takes_past, takes_ended, takes_each, takes_perhaps, takes_listed, takes_trailed}
use Rattle.program_laws.proofs.TypesTake.{TypesTake, named_count, by_one, by_argument, path_from_takes}
use Rattle.program_laws.proofs.TypeCounts.{optional}
use Rattle.program_laws.proofs.PlacesTake.{place_weight}
use Rattle.program_laws.proofs.ConstantsTake.{constant_takes}

-- Operands.

abbrev pub IsRightOperand : Limited Operand → Type 0
IsRightOperand o = IsOperand o.value

-- one for the operand, and one for each type that is written in it
abbrev pub operand_weight : Limited Operand → ℕ
operand_weight o = 1 + length (operand_types written o.value)

pub values_right : (os : List (Limited Operand)) → Every IsRightOperand os → Every IsOperand (values_of os)
values_right [] h = tt
values_right (o ∷ os) h = (h.0, values_right os h.1)

pub values_weight : (os : List (Limited Operand)) → length (values_of os) + length (flat_map (operand_types written) (values_of os)) ≡ total operand_weight os
values_weight [] = refl
values_weight (o ∷ os) = let e = values_weight os in omega (arith, length-append (operand_types written o.value) (flat_map (operand_types written) (values_of os)))

-- over types and places that take tokens so
pub record PartsTake (T : Family) (P : Part Lexeme Placed) : Type 0 where
  pub types : TypesTake T
  pub places : Takes P Anything place_weight

copy_takes : {P : Part Lexeme Placed} → Takes P Anything place_weight → Takes (Made to_copy P) IsRightOperand operand_weight
unfolding to_copy
copy_takes p = takes_made to_copy (λ a g. (tt, le_refl (place_weight a))) p

move_takes : {P : Part Lexeme Placed} → Takes P Anything place_weight → Takes (Made to_move P) IsRightOperand operand_weight
unfolding to_move
move_takes p = takes_made to_move (λ a g. (tt, le_refl (place_weight a))) p

marked_takes : {T : Family} {P : Part Lexeme Placed} → PartsTake T P → Takes (Marked T P) IsRightOperand operand_weight
unfolding to_const
marked_takes q = takes_either (copy_takes (takes_past (120 ∷ []) q.places)) (takes_either (move_takes (takes_past (121 ∷ []) q.places)) (takes_made to_const (λ c g. (g, omega arith)) (takes_past (116 ∷ []) (constant_takes q.types))))

pub operand_takes : {T : Family} {P : Part Lexeme Placed} → PartsTake T P → Takes (OperandOf T P) IsRightOperand operand_weight
operand_takes q = takes_either (copy_takes q.places) (marked_takes q)

pub operands_take : {T : Family} {P : Part Lexeme Placed} → PartsTake T P → Takes (Operands T P) (Every IsRightOperand) (total operand_weight)
operands_take q = takes_past (1 ∷ []) (takes_ended (2 ∷ []) (takes_listed (9 ∷ []) (operand_takes q)))

-- Rvalues.

abbrev pub IsRightValue : Value → Type 0
IsRightValue v = Every IsOperand (rvalue_operands v.value)

-- one for each operand, and one for each type that is written in it
abbrev pub rvalue_weight : Rvalue → ℕ
rvalue_weight r = length (rvalue_operands r) + length (rvalue_types written r)

abbrev pub value_weight : Value → ℕ
value_weight v = rvalue_weight v.value

-- a rvalue that is right and weighs no more
abbrev IsWithin : ℕ → Rvalue → Type 0
IsWithin n r = Every IsOperand (rvalue_operands r) × (rvalue_weight r ≤ n)

within_if : (n : ℕ) (c : Bool) (a b : Rvalue) → IsWithin n a → IsWithin n b → IsWithin n (if c then a else b)
within_if n true a b h k = h
within_if n false a b h k = k

-- Casts.

coercion_takes : Takes Coercion Anything nil
coercion_takes = takes_made to_coercion (λ x g. (tt, omega arith)) (takes_then (takes_any (155 ∷ 156 ∷ [])) (takes_perhaps {P = Anything} {w = nil} false tt refl (takes_made (λ t. true) (λ t g. (tt, omega arith)) (takes_past (9 ∷ []) (takes_any any_word)))))

kind_takes : Takes Kind Anything nil
kind_takes = takes_either (takes_made to_plain_kind (λ t g. (tt, omega arith)) (takes_any (152 ∷ 153 ∷ []))) (takes_past (154 ∷ []) (takes_past (1 ∷ []) (takes_ended (2 ∷ []) coercion_takes)))

abbrev cast_weight : Option (Named × CastKind) → ℕ
cast_weight None = 0
cast_weight (Some v) = named_count v.0

cast_takes : {T : Family} → TypesTake T → Takes (CastTo T) Anything cast_weight
cast_takes q = takes_made Some (λ v g. (tt, omega arith)) (takes_past (118 ∷ []) (takes_then (q.each AnyType) (takes_past (1 ∷ []) (takes_ended (2 ∷ []) kind_takes))))

used_within : (x : Limited Operand × Option (Named × CastKind)) → IsRightOperand x.0 → IsWithin (operand_weight x.0 + cast_weight x.1) (to_used x).value
unfolding to_used
used_within (o, None) h = ((h, tt), omega arith)
used_within (o, Some v) h = ((h, tt), omega (arith, length-append (operand_types written o.value) (written false v.0.ty)))

used_takes : {T : Family} {P : Part Lexeme Placed} → PartsTake T P → Takes (Used T P) IsRightValue value_weight
used_takes q = takes_made to_used (λ x g. used_within x g.0) (takes_then (operand_takes q) (takes_perhaps None tt refl (cast_takes q.types)))

-- Operators.

binary_takes : {T : Family} {P : Part Lexeme Placed} → PartsTake T P → Takes (Binary T P) IsRightValue value_weight
unfolding to_binary
binary_takes q = takes_made to_binary (λ x g. ((g.1.0, (g.1.1, tt)), omega (arith, length-append (operand_types written x.1.0.value) (operand_types written x.1.1.value))))
    (takes_then (takes_any binaries) (takes_past (1 ∷ []) (takes_then (operand_takes q) (takes_past (9 ∷ []) (takes_ended (2 ∷ []) (operand_takes q))))))

unary_within : (text : List ℕ) (o : Limited Operand) → IsRightOperand o → IsWithin (operand_weight o) (unary_value text o.value)
unary_within text o h = within_if (operand_weight o) (bytes_eq (codes "Not") text) (rvalue.Not o.value) _ ((h, tt), le_refl (operand_weight o))
    (within_if (operand_weight o) (bytes_eq (codes "Neg") text) (rvalue.Neg o.value) (rvalue.PtrMetadata o.value) ((h, tt), le_refl (operand_weight o)) ((h, tt), le_refl (operand_weight o)))

grown : (n : ℕ) (r : Rvalue) → IsWithin n r → IsWithin (1 + n) r
grown n r h = (h.0, let e = h.1 in omega arith)

unary_takes : {T : Family} {P : Part Lexeme Placed} → PartsTake T P → Takes (Unary T P) IsRightValue value_weight
unfolding to_unary
unary_takes q = takes_made to_unary (λ x g. grown (operand_weight x.1) (unary_value x.0.text x.1.value) (unary_within x.0.text x.1 g.1)) (takes_then (takes_any (144 ∷ 145 ∷ 146 ∷ [])) (takes_past (1 ∷ []) (takes_ended (2 ∷ []) (operand_takes q))))

measured_within : (text : List ℕ) (p : Placed) → IsWithin (place_weight p) (measured_value text p)
measured_within text p = within_if (place_weight p) (bytes_eq (codes "Len") text) (rvalue.Len p.place) (rvalue.Discriminant p.place) (tt, omega arith) (tt, omega arith)

measured_takes : {P : Part Lexeme Placed} → Takes P Anything place_weight → Takes (Measured P) IsRightValue value_weight
unfolding to_measured
measured_takes p = takes_made to_measured (λ x g. grown (place_weight x.1) (measured_value x.0.text x.1) (measured_within x.0.text x.1)) (takes_then (takes_any (147 ∷ 148 ∷ [])) (takes_past (1 ∷ []) (takes_ended (2 ∷ []) p)))

sized_within : (text : List ℕ) (n : Named) → IsWithin (named_count n) (sized_value text n)
sized_within text n = within_if (named_count n) (bytes_eq (codes "SizeOf") text) (rvalue.SizeOf n.ty) (rvalue.AlignOf n.ty) (tt, omega arith) (tt, omega arith)

sized_takes : {T : Family} → TypesTake T → Takes (Sized T) IsRightValue value_weight
unfolding to_sized
sized_takes q = takes_made to_sized (λ x g. grown (named_count x.1) (sized_value x.0.text x.1) (sized_within x.0.text x.1)) (takes_then (takes_any (149 ∷ 150 ∷ [])) (takes_past (1 ∷ []) (takes_ended (2 ∷ []) (q.each AnyType))))

operator_takes : {T : Family} {P : Part Lexeme Placed} → PartsTake T P → Takes (Operator T P) IsRightValue value_weight
operator_takes q = takes_either (binary_takes q) (takes_either (unary_takes q) (takes_either (measured_takes q.places) (sized_takes q.types)))

-- References.

abbrev target_weight : Bool × Placed → ℕ
target_weight v = place_weight v.1

mutable_takes : {P : Part Lexeme Placed} → Takes P Anything place_weight → Takes (Made mutable P) Anything target_weight
mutable_takes p = takes_made mutable (λ a g. (tt, le_refl (place_weight a))) p

immutable_takes : {P : Part Lexeme Placed} → Takes P Anything place_weight → Takes (Made immutable P) Anything target_weight
immutable_takes p = takes_made immutable (λ a g. (tt, le_refl (place_weight a))) p

reference_takes : {P : Part Lexeme Placed} → Takes P Anything place_weight → Takes (Reference P) IsRightValue value_weight
unfolding to_raw_of to_ref_of
reference_takes p = takes_past (15 ∷ []) (takes_either
    (takes_made to_raw_of (λ v g. (tt, omega arith)) (takes_past (151 ∷ []) (takes_either (mutable_takes (takes_past (117 ∷ []) p)) (immutable_takes (takes_past (116 ∷ []) p)))))
    (takes_made to_ref_of (λ v g. (tt, omega arith)) (takes_either (mutable_takes (takes_past (117 ∷ []) p)) (immutable_takes p))))

-- Arrays and tuples.

abbrev IsRightTail : ArrayTail → Type 0
IsRightTail (Times n) = ⊤
IsRightTail (Others os) = Every IsRightOperand os

abbrev tail_weight : ArrayTail → ℕ
tail_weight (Times n) = 0
tail_weight (Others os) = total operand_weight os

rest_takes : {T : Family} {P : Part Lexeme Placed} → PartsTake T P → Takes (ArrayRest T P) IsRightTail tail_weight
unfolding to_times
rest_takes q = takes_either (takes_made to_times (λ l g. (tt, omega arith)) (takes_past (10 ∷ []) (takes_ended (4 ∷ []) (takes_any (35 ∷ [])))))
    (takes_made Others (λ os g. (g, le_refl (total operand_weight os))) (takes_ended (4 ∷ []) (takes_each (takes_past (9 ∷ []) (operand_takes q)))))

array_within : (x : Limited Operand × ArrayTail) → IsRightOperand x.0 → IsRightTail x.1 → IsWithin (operand_weight x.0 + tail_weight x.1) (to_array_of x).value
unfolding to_array_of
array_within (o, Times n) h k = ((h, tt), omega arith)
array_within (o, Others os) h k = ((h, values_right os k), let e = values_weight os in omega (arith, length-append (operand_types written o.value) (flat_map (operand_types written) (values_of os))))

array_takes : {T : Family} {P : Part Lexeme Placed} → PartsTake T P → Takes (ArrayOf T P) IsRightValue value_weight
unfolding to_no_array
array_takes q = takes_past (3 ∷ []) (takes_either (takes_made to_no_array (λ l g. (tt, omega arith)) (takes_any (4 ∷ []))) (takes_made to_array_of (λ x g. array_within x g.0 g.1) (takes_then (operand_takes q) (rest_takes q))))

tuple_takes : {T : Family} {P : Part Lexeme Placed} → PartsTake T P → Takes (TupleOf T P) IsRightValue value_weight
unfolding to_tuple_of
tuple_takes q = takes_made to_tuple_of (λ x g. (values_right x.0 g, let e = values_weight x.0 in omega arith)) (takes_past (1 ∷ []) (takes_ended (2 ∷ []) (takes_trailed (9 ∷ []) (marked_takes q))))

formed_takes : {T : Family} {P : Part Lexeme Placed} → PartsTake T P → Takes (FormedValue T P) IsRightValue value_weight
formed_takes q = takes_either (takes_either (used_takes q) (tuple_takes q)) (takes_either (operator_takes q) (takes_either (reference_takes q.places) (array_takes q)))

-- Paths as values.

pub value_path_takes : {T : Family} → TypesTake T → Takes (ValuePath T) Anything (λ (n : Named). optional n.argument)
value_path_takes q = path_from_takes by_argument q value_words free_words

some_path_takes : {T : Family} → TypesTake T → Takes (ValuePath T) Anything (λ (n : Named). 1)
some_path_takes q = path_from_takes by_one q value_words free_words

abbrev IsRightField : Limited NamedOperand → Type 0
IsRightField f = IsOperand f.value.operand

abbrev field_weight : Limited NamedOperand → ℕ
field_weight f = 1 + length (operand_types written f.value.operand)

fields_right : (fs : List (Limited NamedOperand)) → Every IsRightField fs → Every IsOperand (flat_map named_operand (values_of fs))
fields_right [] h = tt
fields_right (f ∷ fs) h = (h.0, fields_right fs h.1)

fields_weight : (fs : List (Limited NamedOperand)) → length (flat_map named_operand (values_of fs)) + length (flat_map (named_operand_types written) (values_of fs)) ≡ total field_weight fs
fields_weight [] = refl
fields_weight (f ∷ fs) = let e = fields_weight fs in omega (arith, length-append (operand_types written f.value.operand) (flat_map (named_operand_types written) (values_of fs)))

fields_take : {T : Family} {P : Part Lexeme Placed} → PartsTake T P → Takes (Fields T P) (Every IsRightField) (total field_weight)
unfolding to_field
fields_take q = takes_past (5 ∷ []) (takes_ended (6 ∷ []) (takes_listed (9 ∷ []) (takes_made to_field (λ x g. (g.1, omega arith)) (takes_then (takes_any any_word) (takes_past (11 ∷ []) (operand_takes q))))))

pub rvalue_takes : {T : Family} {P : Part Lexeme Placed} → PartsTake T P → Takes (RvalueOf T P) IsRightValue value_weight
unfolding to_path_unit to_path_tuple to_path_fields
rvalue_takes q = takes_either (formed_takes q) (takes_either (takes_made to_path_unit (λ n g. (tt, omega arith)) (some_path_takes q.types))
    (takes_either (takes_made to_path_tuple (λ x g. (values_right x.1 g.1, let e = values_weight x.1 in omega arith)) (takes_then (some_path_takes q.types) (operands_take q)))
    (takes_made to_path_fields (λ x g. (fields_right x.1 g.1, let e = fields_weight x.1 in omega arith)) (takes_then (some_path_takes q.types) (fields_take q)))))
