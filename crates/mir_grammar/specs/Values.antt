-- Operands and rvalues.
--   operand  := (copy | move) place | const constant | place
--   constant := -? typed number | true | false | character | text | ( ) | path
--   rvalue   := operand | operand as type ( kind ) | binary ( operand , operand ) | (Not | Neg | PtrMetadata) ( operand )
--             | & mut? place | & raw (const | mut) place | (discriminant | Len) ( place ) | (SizeOf | AlignOf) ( type )
--             | [ list(operand) ] | [ operand ; number ] | ( list(marked) ,? ) | path | path ( list(operand) )
--             | path { list(word : operand) }
--   marked   := an operand that begins with copy, move or const
--   kind     := IntToInt | PtrToPtr | PointerCoercion ( (Unsize | MutToConstPointer) (, word)? )
use Rattle.std.specs.Prelude.{ℕ, ◌-◌, ◌%◌, ◌^◌, Bool, true, false, if◌then◌else◌, List, [], ◌∷◌, ◌++◌, codes, Option, Some, None}
use Rattle.std.specs.Str.{bytes_eq}
use Rattle.word_bits.specs.declared.word.Word.{Word}
use Rattle.mir_ir.specs.declared.types.IntTy.{IntTy}
use Rattle.mir_ir.specs.declared.tree.Constant.{Constant}
use Rattle.mir_ir.specs.declared.tree.Constant.TheVariants as constant
use Rattle.mir_ir.specs.declared.tree.Operand.{Operand}
use Rattle.mir_ir.specs.declared.tree.Operand.TheVariants as operand
use Rattle.mir_ir.specs.declared.tree.NamedOperand.{NamedOperand}
use Rattle.mir_ir.specs.declared.tree.Rvalue.{Rvalue}
use Rattle.mir_ir.specs.declared.tree.Rvalue.TheVariants as rvalue
use Rattle.mir_ir.specs.declared.tree.CastKind.{CastKind}
use Rattle.mir_ir.specs.declared.tree.CastKind.TheVariants as cast
use Rattle.mir_ir.specs.declared.tree.BinaryOp.{BinaryOp}
use Rattle.mir_ir.specs.declared.tree.BinaryOp.TheVariants as op
use Rattle.mir_ir.specs.Integers.{width_of, is_signed}
use Rattle.mir_ir.specs.Names.{all_ints, binary_of_name, name_of_int}
use Rattle.grammar_words.specs.Grammar.{Part, Then, Made, Either, Each}
use Rattle.grammar_words.specs.Reading.{Reader, joined, made, pick, choose, many}
use Rattle.grammar_words.specs.Classes.{inside, Tok, tok, Past, past, Ended, ended, Perhaps, perhaps, Listed, listed, Trailed, trailed, bare}
pub use Rattle.mir_grammar.specs.declared.limits.Limited.{Limited}
pub use Rattle.mir_grammar.specs.declared.trees.ArrayTail.{ArrayTail}
pub use Rattle.mir_grammar.specs.declared.trees.ArrayTail.TheVariants.{Times, Others}
use Rattle.mir_grammar.specs.Lexemes.{Lexeme, class_of, number_value, number_type, text_body, char_value}
use Rattle.mir_grammar.specs.Names.{Named}
use Rattle.mir_grammar.specs.Types.{Family, Readers, AnyType, any_word, colons, run, without, PathFrom, path_from_at}
use Rattle.mir_grammar.specs.Places.{Passed, none_passed, both_passed, long_name, Placed, place_firsts}

-- Constants.

-- n in two's complement of so many bits, or -n
abbrev pub plus_word : ℕ → ℕ → Word
plus_word width n = record { width = width; value = n % 2 ^ width }

abbrev pub minus_word : ℕ → ℕ → Word
minus_word width n = record { width = width; value = (2 ^ width - n) % 2 ^ width }

abbrev pub integer_of : Bool → Option IntTy → ℕ → Constant
integer_of minus None n = constant.Unit
integer_of false (Some i) n = constant.Integer i (plus_word (width_of i) n)
integer_of true (Some i) n = constant.Integer i (minus_word (width_of i) n)

abbrev pub fixed : Constant → Limited Constant
fixed c = record { value = c; passed = none_passed }

unfoldable pub to_plus : Lexeme → Limited Constant
to_plus l = fixed (integer_of false (number_type l) (number_value l))

unfoldable pub to_minus : Lexeme → Limited Constant
to_minus l = fixed (integer_of true (number_type l) (number_value l))

unfoldable pub to_bool : Lexeme → Limited Constant
to_bool l = fixed (constant.Bool (bytes_eq (codes "true") l.text))

unfoldable pub to_char : Lexeme → Limited Constant
to_char l = fixed (constant.Char (char_value l))

unfoldable pub to_text : Lexeme → Limited Constant
to_text l = fixed (constant.Text (text_body l))

unfoldable pub to_unit : Lexeme → Limited Constant
to_unit l = fixed constant.Unit

-- the least and the greatest number of a type
abbrev pub least_word : IntTy → Word
least_word i = record { width = width_of i; value = if is_signed i then 2 ^ (width_of i - 1) else 0 }

abbrev pub greatest_word : IntTy → Word
greatest_word i = record { width = width_of i; value = if is_signed i then 2 ^ (width_of i - 1) - 1 else 2 ^ width_of i - 1 }

-- T::MIN and T::MAX of these integer types, or the name of a constant
abbrev pub bound_or_name : List IntTy → List ℕ → Constant
bound_or_name [] text = constant.Named text
bound_or_name (i ∷ is) text = if bytes_eq (name_of_int i ++ codes "::MIN") text then constant.Integer i (least_word i)
    else (if bytes_eq (name_of_int i ++ codes "::MAX") text then constant.Integer i (greatest_word i) else bound_or_name is text)

unfoldable pub to_named : Named → Limited Constant
to_named n = record { value = bound_or_name all_ints n.text; passed = long_name n.is_long }

abbrev pub truths : List ℕ
truths = 122 ∷ 123 ∷ []

abbrev pub constant_words : List ℕ
constant_words = without truths any_word

abbrev pub FormedConstant : Part Lexeme (Limited Constant)
FormedConstant = Either (Made to_plus (Tok class_of (36 ∷ 37 ∷ []))) (Either (Made to_minus (Past class_of (19 ∷ []) (Tok class_of (36 ∷ 38 ∷ [])))) (Either (Made to_bool (Tok class_of truths))
    (Either (Made to_char (Tok class_of (41 ∷ []))) (Either (Made to_text (Tok class_of (40 ∷ []))) (Made to_unit (Past class_of (1 ∷ []) (Tok class_of (2 ∷ []))))))))

abbrev pub ConstantOf : Family → Part Lexeme (Limited Constant)
ConstantOf T = Either FormedConstant (Made to_named (PathFrom truths constant_words T))

-- Operands.

unfoldable pub to_copy : Placed → Limited Operand
to_copy p = record { value = operand.Copy p.place; passed = p.passed }

unfoldable pub to_move : Placed → Limited Operand
to_move p = record { value = operand.Move p.place; passed = p.passed }

unfoldable pub to_const : Limited Constant → Limited Operand
to_const c = record { value = operand.Const c.value; passed = c.passed }

-- an operand that begins with copy, move or const
abbrev pub Marked : Family → Part Lexeme Placed → Part Lexeme (Limited Operand)
Marked T P = Either (Made to_copy (Past class_of (120 ∷ []) P)) (Either (Made to_move (Past class_of (121 ∷ []) P)) (Made to_const (Past class_of (116 ∷ []) (ConstantOf T))))

abbrev pub OperandOf : Family → Part Lexeme Placed → Part Lexeme (Limited Operand)
OperandOf T P = Either (Made to_copy P) (Marked T P)

abbrev pub marks : List ℕ
marks = 120 ∷ 121 ∷ 116 ∷ []

abbrev pub operand_firsts : List ℕ
operand_firsts = 30 ∷ 31 ∷ 1 ∷ marks

abbrev pub values_of : {A : Type 0} → List (Limited A) → List A
values_of [] = []
values_of (a ∷ as_) = a.value ∷ values_of as_

abbrev pub all_passed : {A : Type 0} → List (Limited A) → Passed
all_passed [] = none_passed
all_passed (a ∷ as_) = both_passed a.passed (all_passed as_)

-- operands in parentheses
abbrev pub Operands : Family → Part Lexeme Placed → Part Lexeme (List (Limited Operand))
Operands T P = Past class_of (1 ∷ []) (Ended class_of (Listed class_of (9 ∷ []) (OperandOf T P)) (2 ∷ []))

-- Casts.

abbrev pub plain_kind : List ℕ → CastKind
plain_kind text = if bytes_eq (codes "IntToInt") text then cast.IntToInt else cast.PtrToPtr

unfoldable pub to_plain_kind : Lexeme → CastKind
to_plain_kind l = plain_kind l.text

abbrev pub coercion : List ℕ → CastKind
coercion text = if bytes_eq (codes "Unsize") text then cast.Unsize else cast.MutToConstPointer

unfoldable pub to_coercion : Lexeme × Bool → CastKind
to_coercion v = coercion v.0.text

abbrev pub Coercion : Part Lexeme CastKind
Coercion = Made to_coercion (Then (Tok class_of (155 ∷ 156 ∷ [])) (Perhaps false (Made (λ t. true) (Past class_of (9 ∷ []) (Tok class_of any_word)))))

abbrev pub Kind : Part Lexeme CastKind
Kind = Either (Made to_plain_kind (Tok class_of (152 ∷ 153 ∷ []))) (Past class_of (154 ∷ []) (Past class_of (1 ∷ []) (Ended class_of Coercion (2 ∷ []))))

-- as type ( kind )
abbrev pub CastTo : Family → Part Lexeme (Option (Named × CastKind))
CastTo T = Made Some (Past class_of (118 ∷ []) (Then (T AnyType) (Past class_of (1 ∷ []) (Ended class_of Kind (2 ∷ [])))))

abbrev pub Value : Type 0
Value = Limited Rvalue

unfoldable pub to_used : Limited Operand × Option (Named × CastKind) → Value
to_used (o, None) = record { value = rvalue.Use o.value; passed = o.passed }
to_used (o, Some v) = record { value = rvalue.Cast o.value v.0.ty v.1; passed = both_passed o.passed (long_name v.0.is_long) }

abbrev pub Used : Family → Part Lexeme Placed → Part Lexeme Value
Used T P = Made to_used (Then (OperandOf T P) (Perhaps None (CastTo T)))

-- Operators.

abbrev pub binary_or_add : Option BinaryOp → BinaryOp
binary_or_add None = op.Add
binary_or_add (Some o) = o

unfoldable pub to_binary : Lexeme × (Limited Operand × Limited Operand) → Value
to_binary v = record { value = rvalue.Binary (binary_or_add (binary_of_name v.0.text)) v.1.0.value v.1.1.value; passed = both_passed v.1.0.passed v.1.1.passed }

abbrev pub binaries : List ℕ
binaries = run 124 20

abbrev pub Binary : Family → Part Lexeme Placed → Part Lexeme Value
Binary T P = Made to_binary (Then (Tok class_of binaries) (Past class_of (1 ∷ []) (Then (OperandOf T P) (Past class_of (9 ∷ []) (Ended class_of (OperandOf T P) (2 ∷ []))))))

abbrev pub unary_value : List ℕ → Operand → Rvalue
unary_value text o = if bytes_eq (codes "Not") text then rvalue.Not o else (if bytes_eq (codes "Neg") text then rvalue.Neg o else rvalue.PtrMetadata o)

unfoldable pub to_unary : Lexeme × Limited Operand → Value
to_unary v = record { value = unary_value v.0.text v.1.value; passed = v.1.passed }

abbrev pub Unary : Family → Part Lexeme Placed → Part Lexeme Value
Unary T P = Made to_unary (Then (Tok class_of (144 ∷ 145 ∷ 146 ∷ [])) (Past class_of (1 ∷ []) (Ended class_of (OperandOf T P) (2 ∷ []))))

abbrev pub measured_value : List ℕ → Placed → Rvalue
measured_value text p = if bytes_eq (codes "Len") text then rvalue.Len p.place else rvalue.Discriminant p.place

unfoldable pub to_measured : Lexeme × Placed → Value
to_measured v = record { value = measured_value v.0.text v.1; passed = v.1.passed }

abbrev pub Measured : Part Lexeme Placed → Part Lexeme Value
Measured P = Made to_measured (Then (Tok class_of (147 ∷ 148 ∷ [])) (Past class_of (1 ∷ []) (Ended class_of P (2 ∷ []))))

abbrev pub sized_value : List ℕ → Named → Rvalue
sized_value text n = if bytes_eq (codes "SizeOf") text then rvalue.SizeOf n.ty else rvalue.AlignOf n.ty

unfoldable pub to_sized : Lexeme × Named → Value
to_sized v = record { value = sized_value v.0.text v.1; passed = long_name v.1.is_long }

abbrev pub Sized : Family → Part Lexeme Value
Sized T = Made to_sized (Then (Tok class_of (149 ∷ 150 ∷ [])) (Past class_of (1 ∷ []) (Ended class_of (T AnyType) (2 ∷ []))))

-- References.

unfoldable pub to_ref_of : Bool × Placed → Value
to_ref_of v = record { value = rvalue.RefOf v.0 v.1.place; passed = v.1.passed }

unfoldable pub to_raw_of : Bool × Placed → Value
to_raw_of v = record { value = rvalue.RawOf v.0 v.1.place; passed = v.1.passed }

abbrev pub mutable : Placed → Bool × Placed
mutable p = (true, p)

abbrev pub immutable : Placed → Bool × Placed
immutable p = (false, p)

abbrev pub Reference : Part Lexeme Placed → Part Lexeme Value
Reference P = Past class_of (15 ∷ []) (Either (Made to_raw_of (Past class_of (151 ∷ []) (Either (Made mutable (Past class_of (117 ∷ []) P)) (Made immutable (Past class_of (116 ∷ []) P)))))
    (Made to_ref_of (Either (Made mutable (Past class_of (117 ∷ []) P)) (Made immutable P))))

-- Arrays and tuples.

unfoldable pub to_array_of : Limited Operand × ArrayTail → Value
to_array_of (o, Times n) = record { value = rvalue.Repeat o.value n; passed = o.passed }
to_array_of (o, Others os) = record { value = rvalue.Array (o.value ∷ values_of os); passed = both_passed o.passed (all_passed os) }

unfoldable pub to_no_array : Lexeme → Value
to_no_array l = record { value = rvalue.Array []; passed = none_passed }

unfoldable pub to_times : Lexeme → ArrayTail
to_times l = Times (number_value l)

abbrev pub ArrayRest : Family → Part Lexeme Placed → Part Lexeme ArrayTail
ArrayRest T P = Either (Made to_times (Past class_of (10 ∷ []) (Ended class_of (Tok class_of (35 ∷ [])) (4 ∷ [])))) (Made Others (Ended class_of (Each (Past class_of (9 ∷ []) (OperandOf T P))) (4 ∷ [])))

-- [ list(operand) ], or [ operand ; number ]
abbrev pub ArrayOf : Family → Part Lexeme Placed → Part Lexeme Value
ArrayOf T P = Past class_of (3 ∷ []) (Either (Made to_no_array (Tok class_of (4 ∷ []))) (Made to_array_of (Then (OperandOf T P) (ArrayRest T P))))

unfoldable pub to_tuple_of : List (Limited Operand) × Bool → Value
to_tuple_of v = record { value = rvalue.Tuple (values_of v.0); passed = all_passed v.0 }

abbrev pub TupleOf : Family → Part Lexeme Placed → Part Lexeme Value
TupleOf T P = Made to_tuple_of (Past class_of (1 ∷ []) (Ended class_of (Trailed class_of (9 ∷ []) (Marked T P)) (2 ∷ [])))

-- what begins with a word of the rvalues
abbrev pub Operator : Family → Part Lexeme Placed → Part Lexeme Value
Operator T P = Either (Binary T P) (Either (Unary T P) (Either (Measured P) (Sized T)))

-- a rvalue that begins with no path
abbrev pub FormedValue : Family → Part Lexeme Placed → Part Lexeme Value
FormedValue T P = Either (Either (Used T P) (TupleOf T P)) (Either (Operator T P) (Either (Reference P) (ArrayOf T P)))

-- Paths as values.

-- words that begin another form of a rvalue
abbrev pub value_words : List ℕ
value_words = 116 ∷ 120 ∷ 121 ∷ run 124 27

abbrev pub free_words : List ℕ
free_words = without value_words any_word

abbrev pub ValuePath : Family → Part Lexeme Named
ValuePath T = PathFrom value_words free_words T

unfoldable pub to_field : Lexeme × Limited Operand → Limited NamedOperand
to_field v = record { value = record { name = v.0.text; operand = v.1.value }; passed = v.1.passed }

-- word : operand
abbrev pub Field : Family → Part Lexeme Placed → Part Lexeme (Limited NamedOperand)
Field T P = Made to_field (Then (Tok class_of any_word) (Past class_of (11 ∷ []) (OperandOf T P)))

abbrev pub Fields : Family → Part Lexeme Placed → Part Lexeme (List (Limited NamedOperand))
Fields T P = Past class_of (5 ∷ []) (Ended class_of (Listed class_of (9 ∷ []) (Field T P)) (6 ∷ []))

unfoldable pub to_path_unit : Named → Value
to_path_unit n = record { value = rvalue.PathUnit n.text; passed = long_name n.is_long }

unfoldable pub to_path_tuple : Named × List (Limited Operand) → Value
to_path_tuple v = record { value = rvalue.PathTuple v.0.text (values_of v.1); passed = both_passed (long_name v.0.is_long) (all_passed v.1) }

unfoldable pub to_path_fields : Named × List (Limited NamedOperand) → Value
to_path_fields v = record { value = rvalue.PathFields v.0.text (values_of v.1); passed = both_passed (long_name v.0.is_long) (all_passed v.1) }

abbrev pub RvalueOf : Family → Part Lexeme Placed → Part Lexeme Value
RvalueOf T P = Either (FormedValue T P) (Either (Made to_path_unit (ValuePath T)) (Either (Made to_path_tuple (Then (ValuePath T) (Operands T P))) (Made to_path_fields (Then (ValuePath T) (Fields T P)))))

-- Their readings.

abbrev pub formed_constant_at : Reader Lexeme (Limited Constant)
formed_constant_at = pick (inside class_of (36 ∷ 37 ∷ [])) (made to_plus (tok class_of (36 ∷ 37 ∷ []))) (pick (inside class_of (19 ∷ [])) (made to_minus (past class_of (19 ∷ []) (tok class_of (36 ∷ 38 ∷ []))))
    (pick (inside class_of truths) (made to_bool (tok class_of truths)) (pick (inside class_of (41 ∷ [])) (made to_char (tok class_of (41 ∷ [])))
    (pick (inside class_of (40 ∷ [])) (made to_text (tok class_of (40 ∷ []))) (made to_unit (past class_of (1 ∷ []) (tok class_of (2 ∷ []))))))))

abbrev pub constant_firsts : List ℕ
constant_firsts = 36 ∷ 37 ∷ 19 ∷ 41 ∷ 40 ∷ 1 ∷ truths

unfoldable pub constant_at : ℕ → Readers → Reader Lexeme (Limited Constant)
constant_at m t = choose (bare class_of constant_firsts truths colons) formed_constant_at (made to_named (path_from_at m truths constant_words t))

abbrev pub marked_at : ℕ → Readers → Reader Lexeme Placed → Reader Lexeme (Limited Operand)
marked_at m t p = pick (inside class_of (120 ∷ [])) (made to_copy (past class_of (120 ∷ []) p)) (pick (inside class_of (121 ∷ [])) (made to_move (past class_of (121 ∷ []) p)) (made to_const (past class_of (116 ∷ []) (constant_at m t))))

unfoldable pub operand_at : ℕ → Readers → Reader Lexeme Placed → Reader Lexeme (Limited Operand)
operand_at m t p = pick (inside class_of place_firsts) (made to_copy p) (marked_at m t p)

abbrev pub operands_at : ℕ → Readers → Reader Lexeme Placed → Reader Lexeme (List (Limited Operand))
operands_at m t p = past class_of (1 ∷ []) (ended class_of (listed class_of operand_firsts (9 ∷ []) (operand_at m t p) m) (2 ∷ []))

abbrev pub coercion_at : Reader Lexeme CastKind
coercion_at = made to_coercion (joined (tok class_of (155 ∷ 156 ∷ [])) (perhaps class_of (9 ∷ []) false (made (λ t. true) (past class_of (9 ∷ []) (tok class_of any_word)))))

abbrev pub kind_at : Reader Lexeme CastKind
kind_at = pick (inside class_of (152 ∷ 153 ∷ [])) (made to_plain_kind (tok class_of (152 ∷ 153 ∷ []))) (past class_of (154 ∷ []) (past class_of (1 ∷ []) (ended class_of coercion_at (2 ∷ []))))

abbrev pub cast_to_at : Readers → Reader Lexeme (Option (Named × CastKind))
cast_to_at t = made Some (past class_of (118 ∷ []) (joined (t AnyType) (past class_of (1 ∷ []) (ended class_of kind_at (2 ∷ [])))))

abbrev pub used_at : ℕ → Readers → Reader Lexeme Placed → Reader Lexeme Value
used_at m t p = made to_used (joined (operand_at m t p) (perhaps class_of (118 ∷ []) None (cast_to_at t)))

abbrev pub binary_at : ℕ → Readers → Reader Lexeme Placed → Reader Lexeme Value
binary_at m t p = made to_binary (joined (tok class_of binaries) (past class_of (1 ∷ []) (joined (operand_at m t p) (past class_of (9 ∷ []) (ended class_of (operand_at m t p) (2 ∷ []))))))

abbrev pub unaries : List ℕ
unaries = 144 ∷ 145 ∷ 146 ∷ []

abbrev pub measures : List ℕ
measures = 147 ∷ 148 ∷ []

abbrev pub sizes : List ℕ
sizes = 149 ∷ 150 ∷ []

abbrev pub unary_at : ℕ → Readers → Reader Lexeme Placed → Reader Lexeme Value
unary_at m t p = made to_unary (joined (tok class_of unaries) (past class_of (1 ∷ []) (ended class_of (operand_at m t p) (2 ∷ []))))

abbrev pub measured_at : Reader Lexeme Placed → Reader Lexeme Value
measured_at p = made to_measured (joined (tok class_of measures) (past class_of (1 ∷ []) (ended class_of p (2 ∷ []))))

abbrev pub sized_at : Readers → Reader Lexeme Value
sized_at t = made to_sized (joined (tok class_of sizes) (past class_of (1 ∷ []) (ended class_of (t AnyType) (2 ∷ []))))

abbrev pub reference_at : Reader Lexeme Placed → Reader Lexeme Value
reference_at p = past class_of (15 ∷ []) (pick (inside class_of (151 ∷ [])) (made to_raw_of (past class_of (151 ∷ []) (pick (inside class_of (117 ∷ [])) (made mutable (past class_of (117 ∷ []) p)) (made immutable (past class_of (116 ∷ []) p)))))
    (made to_ref_of (pick (inside class_of (117 ∷ [])) (made mutable (past class_of (117 ∷ []) p)) (made immutable p))))

abbrev pub array_rest_at : ℕ → Readers → Reader Lexeme Placed → Reader Lexeme ArrayTail
array_rest_at m t p = pick (inside class_of (10 ∷ [])) (made to_times (past class_of (10 ∷ []) (ended class_of (tok class_of (35 ∷ [])) (4 ∷ [])))) (made Others (ended class_of (many (inside class_of (9 ∷ [])) (past class_of (9 ∷ []) (operand_at m t p)) m) (4 ∷ [])))

abbrev pub array_of_at : ℕ → Readers → Reader Lexeme Placed → Reader Lexeme Value
array_of_at m t p = past class_of (3 ∷ []) (pick (inside class_of (4 ∷ [])) (made to_no_array (tok class_of (4 ∷ []))) (made to_array_of (joined (operand_at m t p) (array_rest_at m t p))))

abbrev pub tuple_of_at : ℕ → Readers → Reader Lexeme Placed → Reader Lexeme Value
tuple_of_at m t p = made to_tuple_of (past class_of (1 ∷ []) (ended class_of (trailed class_of marks (9 ∷ []) (marked_at m t p) m) (2 ∷ [])))

abbrev pub operator_at : ℕ → Readers → Reader Lexeme Placed → Reader Lexeme Value
operator_at m t p = pick (inside class_of binaries) (binary_at m t p) (pick (inside class_of unaries) (unary_at m t p) (pick (inside class_of measures) (measured_at p) (sized_at t)))

-- what stands behind ( in a tuple
abbrev pub tuple_seconds : List ℕ
tuple_seconds = 2 ∷ 9 ∷ marks

unfoldable pub used_or_tuple_at : ℕ → Readers → Reader Lexeme Placed → Reader Lexeme Value
used_or_tuple_at m t p = choose (bare class_of operand_firsts (1 ∷ []) tuple_seconds) (used_at m t p) (tuple_of_at m t p)

abbrev pub formed_value_at : ℕ → Readers → Reader Lexeme Placed → Reader Lexeme Value
formed_value_at m t p = pick (inside class_of operand_firsts) (used_or_tuple_at m t p) (pick (inside class_of (run 124 27)) (operator_at m t p) (pick (inside class_of (15 ∷ [])) (reference_at p) (array_of_at m t p)))

abbrev pub formed_value_firsts : List ℕ
formed_value_firsts = 30 ∷ 31 ∷ 1 ∷ 15 ∷ 3 ∷ value_words

abbrev pub value_path_at : ℕ → Readers → Reader Lexeme Named
value_path_at m t = path_from_at m value_words free_words t

abbrev pub field_at : ℕ → Readers → Reader Lexeme Placed → Reader Lexeme (Limited NamedOperand)
field_at m t p = made to_field (joined (tok class_of any_word) (past class_of (11 ∷ []) (operand_at m t p)))

abbrev pub fields_at : ℕ → Readers → Reader Lexeme Placed → Reader Lexeme (List (Limited NamedOperand))
fields_at m t p = past class_of (5 ∷ []) (ended class_of (listed class_of any_word (9 ∷ []) (field_at m t p) m) (6 ∷ []))
