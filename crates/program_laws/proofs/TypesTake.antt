-- Types and paths: each type that is written in them takes a token of its own.
use Rattle.std.proofs.Common.{◌≡◌, ℕ, zero, suc, ◌+◌, ◌≤◌, Bool, true, false, if◌then◌else◌, List, [], ◌∷◌, codes, Option, Some, None, refl, le_refl, arith}
use Rattle.std.specs.Str.{bytes_eq}
use Rattle.mir_ir.specs.declared.types.Ty.{Ty}
use Rattle.mir_ir.specs.declared.types.Ty.TheVariants as ty
use Rattle.mir_ir.specs.declared.types.IntTy.{IntTy}
use Rattle.mir_ir.specs.Names.{int_of_name}
use Rattle.grammar_words.specs.Grammar.{Part, Then, Made, Each}
use Rattle.grammar_words.specs.Reading.{cons, first, second}
use Rattle.grammar_words.specs.Classes.{Perhaps_token}
use Rattle.mir_grammar.specs.declared.named.Named.{Named}
use Rattle.mir_grammar.specs.declared.named.Argument.{Argument}
use Rattle.mir_grammar.specs.declared.named.Argument.TheVariants.{TypeArgument, OtherArgument}
use Rattle.mir_grammar.specs.declared.named.Head.{Head}
use Rattle.mir_grammar.specs.declared.named.Head.TheVariants.{HeadWord, HeadText}
use Rattle.mir_grammar.specs.declared.named.Step.{Step}
use Rattle.mir_grammar.specs.declared.named.Step.TheVariants.{StepWord, StepArguments, StepImpl}
use Rattle.mir_grammar.specs.Lexemes.{Lexeme, class_of, number_value}
use Rattle.mir_grammar.specs.Names.{only_type, only_arguments, boxed_behind, boxed_type, box_or_name, only_where, words_then, first_some, argument_of, path_text, to_path, to_keyed_path, to_mut_path, qualified_text, to_qualified, named_head, word_head, impl_head, word_step, impl_step, written_argument, int_or_name, plain_type, to_plain, types_of, tuple_type, to_tuple, to_array, to_ref, to_raw, to_dyn}
use Rattle.mir_grammar.specs.Types.{Family, Want, AnyType, NotMut, BehindMut, Qualified, any_word, colons, type_names, type_words, path_words, path_words_but_mut, ArgumentOf, Arguments, Segment, PathStep, KeyedSteps, FreeHead, FreePath, KeyedPath, PathFrom, QualifiedHead, PlainType, TupleType, ArrayEnd, ArrayType, unmarked, marked, RefTarget, RefType, RawType, Bound, DynType, FormedType, TypeBody, TypeLevel, NoType}
use Rattle.program_laws.proofs.Takes.{Takes, Anything, nil, Every, total, takes_any, takes_made, takes_then, takes_either, takes_never, takes_past, takes_past_more, takes_ended, takes_each, takes_perhaps, takes_perhaps_token, takes_listed, takes_trailed}
use Rattle.program_laws.proofs.TypeCounts.{count, optional, count_some, count_bool, count_char, count_never, count_str, count_int, count_named, count_dyn, count_box, count_slice, count_array, count_ref, count_raw, count_tuple}

abbrev pub named_count : Named → ℕ
named_count n = count n.ty

abbrev argument_count : Argument → ℕ
argument_count (TypeArgument n) = count n.ty
argument_count (OtherArgument text) = 0

abbrev step_count : Step → ℕ
step_count (StepWord w) = 0
step_count (StepArguments arguments) = total argument_count arguments
step_count (StepImpl text) = 0

-- What a path means has no more types than its steps.

if_low : (c : Bool) (a b : Option Ty) (n : ℕ) → optional a ≤ n → optional b ≤ n → optional (if c then a else b) ≤ n
if_low true a b n h k = h
if_low false a b n h k = k

only_type_low : (arguments : List Argument) → optional (only_type arguments) ≤ total argument_count arguments
only_type_low [] = omega arith
only_type_low (TypeArgument n ∷ []) = omega arith
only_type_low (TypeArgument n ∷ b ∷ more) = omega arith
only_type_low (OtherArgument text ∷ more) = omega arith

only_arguments_low : (steps : List Step) → optional (only_arguments steps) ≤ total step_count steps
only_arguments_low [] = omega arith
only_arguments_low (StepWord w ∷ more) = omega arith
only_arguments_low (StepArguments arguments ∷ []) = let h = only_type_low arguments in omega arith
only_arguments_low (StepArguments arguments ∷ s ∷ more) = omega arith
only_arguments_low (StepImpl text ∷ more) = omega arith

boxed_behind_low : (steps : List Step) → optional (boxed_behind steps) ≤ total step_count steps
boxed_behind_low [] = omega arith
boxed_behind_low (StepWord a ∷ []) = omega arith
boxed_behind_low (StepWord a ∷ StepWord b ∷ more) = if_low _ (only_arguments more) None (total step_count (StepWord a ∷ StepWord b ∷ more)) (let h = only_arguments_low more in omega arith) (omega arith)
boxed_behind_low (StepWord a ∷ StepArguments arguments ∷ more) = omega arith
boxed_behind_low (StepWord a ∷ StepImpl text ∷ more) = omega arith
boxed_behind_low (StepArguments arguments ∷ more) = omega arith
boxed_behind_low (StepImpl text ∷ more) = omega arith

boxed_type_low : (head : Head) (steps : List Step) → optional (boxed_type head steps) ≤ total step_count steps
boxed_type_low (HeadWord w start) steps = if_low (bytes_eq (codes "Box") w) (only_arguments steps) (if bytes_eq (codes "std") w then boxed_behind steps else None) (total step_count steps) (only_arguments_low steps)
    (if_low (bytes_eq (codes "std") w) (boxed_behind steps) None (total step_count steps) (boxed_behind_low steps) (omega arith))
boxed_type_low (HeadText text long start) steps = omega arith

box_or_name_low : (o : Option Ty) (text : List ℕ) → count (box_or_name o text) ≤ 1 + optional o
box_or_name_low None text = let e = count_named text in omega arith
box_or_name_low (Some t) text = let e = count_box t in omega arith

only_where_low : (xs ys : List (List ℕ)) (o : Option Ty) → optional (only_where xs ys o) ≤ optional o
only_where_low [] [] o = le_refl (optional o)
only_where_low [] (y ∷ ys) o = omega arith
only_where_low (x ∷ xs) [] o = omega arith
only_where_low (x ∷ xs) (y ∷ ys) o = if_low (bytes_eq x y) (only_where xs ys o) None (optional o) (only_where_low xs ys o) (omega arith)

words_then_low : (words last : List (List ℕ)) (steps : List Step) → optional (words_then words last steps) ≤ total step_count steps
words_then_low [] last [] = omega arith
words_then_low [] last (StepWord w ∷ steps) = omega arith
words_then_low [] last (StepImpl text ∷ steps) = omega arith
words_then_low [] last (StepArguments arguments ∷ []) = let h = only_where_low last [] (only_type arguments) in let k = only_type_low arguments in omega arith
words_then_low [] last (StepArguments arguments ∷ StepWord w ∷ []) = let h = only_where_low last (w ∷ []) (only_type arguments) in let k = only_type_low arguments in omega arith
words_then_low [] last (StepArguments arguments ∷ StepWord w ∷ s ∷ steps) = omega arith
words_then_low [] last (StepArguments arguments ∷ StepArguments more ∷ steps) = omega arith
words_then_low [] last (StepArguments arguments ∷ StepImpl text ∷ steps) = omega arith
words_then_low (a ∷ words) last [] = omega arith
words_then_low (a ∷ words) last (StepWord w ∷ steps) = if_low (bytes_eq a w) (words_then words last steps) None (total step_count (StepWord w ∷ steps)) (let h = words_then_low words last steps in omega arith) (omega arith)
words_then_low (a ∷ words) last (StepArguments arguments ∷ steps) = omega arith
words_then_low (a ∷ words) last (StepImpl text ∷ steps) = omega arith

first_some_low : (a b : Option Ty) (n : ℕ) → optional a ≤ n → optional b ≤ n → optional (first_some a b) ≤ n
first_some_low None b n h k = k
first_some_low (Some t) b n h k = h

std_low : (steps : List Step) → optional (first_some (words_then (codes "boxed" ∷ codes "Box" ∷ []) (codes "new" ∷ []) steps) (first_some (words_then (codes "ptr" ∷ codes "null" ∷ []) [] steps) (words_then (codes "ptr" ∷ codes "null_mut" ∷ []) [] steps))) ≤ total step_count steps
std_low steps = first_some_low (words_then (codes "boxed" ∷ codes "Box" ∷ []) (codes "new" ∷ []) steps) _ (total step_count steps) (words_then_low (codes "boxed" ∷ codes "Box" ∷ []) (codes "new" ∷ []) steps)
    (first_some_low (words_then (codes "ptr" ∷ codes "null" ∷ []) [] steps) _ (total step_count steps) (words_then_low (codes "ptr" ∷ codes "null" ∷ []) [] steps) (words_then_low (codes "ptr" ∷ codes "null_mut" ∷ []) [] steps))

argument_low : (head : Head) (steps : List Step) → optional (argument_of head steps) ≤ total step_count steps
argument_low (HeadText text long start) steps = omega arith
argument_low (HeadWord w start) steps = if_low (bytes_eq (codes "kani") w) _ _ (total step_count steps) (words_then_low (codes "any" ∷ []) [] steps)
    (if_low (bytes_eq (codes "Box") w) _ _ (total step_count steps) (words_then_low [] (codes "new" ∷ []) steps) (if_low (bytes_eq (codes "std") w) _ None (total step_count steps) (std_low steps) (omega arith)))

-- a weight of what a path means that is no more than one and the types of its steps
pub record IsPathWeight (v : Named → ℕ) : Type 0 where
  pub low : (x : Head × List Step) → v (to_path x) ≤ 1 + total step_count x.1

pub by_type : IsPathWeight named_count
unfolding to_path
by_type = record { low = λ x. let h = box_or_name_low (boxed_type x.0 x.1) (path_text x.0 x.1) in let k = boxed_type_low x.0 x.1 in omega arith }

pub by_argument : IsPathWeight (λ n. optional n.argument)
unfolding to_path
by_argument = record { low = λ x. let h = argument_low x.0 x.1 in omega arith }

pub by_one : IsPathWeight (λ n. 1)
by_one = record { low = λ x. omega arith }

-- Paths, over types that take tokens so.

pub record TypesTake (T : Family) : Type 0 where
  pub each : (want : Want) → Takes (T want) Anything named_count

argument_takes : {T : Family} → TypesTake T → Takes (ArgumentOf T) Anything argument_count
argument_takes q = takes_either (takes_made written_argument (λ t g. (tt, omega arith)) (takes_any (35 ∷ 42 ∷ []))) (takes_made TypeArgument (λ n g. (tt, le_refl (count n.ty))) (q.each AnyType))

arguments_take : {T : Family} → TypesTake T → Takes (Arguments T) (Every Anything) (total argument_count)
arguments_take q = takes_past (7 ∷ []) (takes_ended (8 ∷ []) (takes_listed (9 ∷ []) (argument_takes q)))

in_brackets : {T : Family} → TypesTake T → Takes (Made StepArguments (Arguments T)) Anything step_count
in_brackets q = takes_made StepArguments (λ a g. (tt, le_refl (total argument_count a))) (arguments_take q)

segment_takes : {T : Family} → TypesTake T → Takes (Segment T) Anything step_count
segment_takes q = takes_either (takes_made word_step (λ t g. (tt, omega arith)) (takes_any any_word)) (takes_either (takes_made impl_step (λ t g. (tt, omega arith)) (takes_any (43 ∷ []))) (in_brackets q))

steps_take : {T : Family} → TypesTake T → Takes (Each (PathStep T)) (Every Anything) (total step_count)
steps_take q = takes_each (takes_either (takes_past colons (segment_takes q)) (in_brackets q))

keyed_steps_take : {T : Family} → TypesTake T → Takes (KeyedSteps T) Anything (λ (s : List Step). 1 + total step_count s)
keyed_steps_take q = takes_made cons (λ x g. (tt, omega arith)) (takes_then (takes_past_more colons (segment_takes q)) (steps_take q))

head_takes : {T : Family} (words : List ℕ) → TypesTake T → Takes (FreeHead words T) Anything (λ (h : Head). 1)
head_takes words q = takes_either (takes_made word_head (λ t g. (tt, omega arith)) (takes_any words)) (takes_either (takes_made impl_head (λ t g. (tt, omega arith)) (takes_any (43 ∷ []))) (takes_made named_head (λ n g. (tt, count_some n.ty)) (q.each Qualified)))

pub free_path_takes : {T : Family} {v : Named → ℕ} → IsPathWeight v → TypesTake T → (words : List ℕ) → Takes (FreePath words T) Anything v
free_path_takes l q words = takes_made to_path (λ x g. (tt, l.low x)) (takes_then (head_takes words q) (steps_take q))

keyed_path_takes : {T : Family} {v : Named → ℕ} → IsPathWeight v → TypesTake T → (keys : List ℕ) → Takes (KeyedPath keys T) Anything v
unfolding to_keyed_path
keyed_path_takes l q keys = takes_made to_keyed_path (λ x g. (tt, let h = l.low (HeadWord x.0.text x.0.start, x.1) in omega arith)) (takes_then (takes_any keys) (keyed_steps_take q))

pub path_from_takes : {T : Family} {v : Named → ℕ} → IsPathWeight v → TypesTake T → (keys words : List ℕ) → Takes (PathFrom keys words T) Anything v
path_from_takes l q keys words = takes_either (keyed_path_takes l q keys) (free_path_takes l q words)

-- Types that are no paths.

plain_if : (c : Bool) (a b : Ty) → count a ≤ 1 → count b ≤ 1 → count (if c then a else b) ≤ 1
plain_if true a b h k = h
plain_if false a b h k = k

int_low : (o : Option IntTy) (text : List ℕ) → count (int_or_name o text) ≤ 1
int_low (Some i) text = let e = count_int i in omega arith
int_low None text = let e = count_named text in omega arith

plain_low : (text : List ℕ) → count (plain_type text) ≤ 1
plain_low text = plain_if (bytes_eq (codes "bool") text) ty.Bool _ (let e = count_bool in omega arith) (plain_if (bytes_eq (codes "char") text) ty.Char _ (let e = count_char in omega arith)
    (plain_if (bytes_eq (codes "!") text) ty.Never _ (let e = count_never in omega arith) (plain_if (bytes_eq (codes "str") text) ty.Str _ (let e = count_str in omega arith) (int_low (int_of_name text) text))))

plain_takes : Takes PlainType Anything named_count
unfolding to_plain
plain_takes = takes_made to_plain (λ t g. (tt, plain_low t.text)) (takes_any (17 ∷ type_names))

types_count : (ns : List Named) → total count (types_of ns) ≡ total named_count ns
types_count [] = refl
types_count (n ∷ ns) = let e = types_count ns in omega arith

tuple_low : (ns : List Named) (comma : Bool) → count (tuple_type ns comma) ≤ 1 + total named_count ns
tuple_low [] comma = let e = count_tuple [] in omega arith
tuple_low (n ∷ []) true = let e = count_tuple (n.ty ∷ []) in omega arith
tuple_low (n ∷ []) false = omega arith
tuple_low (n ∷ m ∷ more) comma = let e = count_tuple (n.ty ∷ m.ty ∷ types_of more) in let f = types_count more in omega arith

tuple_takes : {T : Family} → TypesTake T → Takes (TupleType T) Anything named_count
unfolding to_tuple
tuple_takes q = takes_made to_tuple (λ x g. (tt, tuple_low x.0 x.1)) (takes_past_more (1 ∷ []) (takes_ended (2 ∷ []) (takes_trailed (9 ∷ []) (q.each AnyType))))

array_low : (x : Named × Option Lexeme) → named_count (to_array x) ≤ 1 + (count x.0.ty + 0)
unfolding to_array
array_low (item, None) = let e = count_slice item.ty in omega arith
array_low (item, Some n) = let e = count_array item.ty (number_value n) in omega arith

array_end_takes : Takes ArrayEnd Anything nil
array_end_takes = takes_either (takes_made (λ t. None) (λ t g. (tt, omega arith)) (takes_any (4 ∷ []))) (takes_past (10 ∷ []) (takes_ended (4 ∷ []) (takes_made Some (λ t g. (tt, omega arith)) (takes_any (35 ∷ [])))))

array_takes : {T : Family} → TypesTake T → Takes (ArrayType T) Anything named_count
array_takes q = takes_made to_array (λ x g. (tt, array_low x)) (takes_past_more (3 ∷ []) (takes_then (q.each AnyType) array_end_takes))

abbrev target_count : Bool × Named → ℕ
target_count v = count v.1.ty

unmarked_takes : {R : Part Lexeme Named} → Takes R Anything named_count → Takes (Made unmarked R) Anything target_count
unmarked_takes r = takes_made unmarked (λ n g. (tt, le_refl (count n.ty))) r

marked_takes : {R : Part Lexeme Named} → Takes R Anything named_count → Takes (Made marked R) Anything target_count
marked_takes r = takes_made marked (λ n g. (tt, le_refl (count n.ty))) r

target_takes : {T : Family} → TypesTake T → Takes (RefTarget T) Anything target_count
target_takes q = takes_either (takes_past (117 ∷ []) (takes_either (unmarked_takes (q.each BehindMut)) (marked_takes (q.each AnyType)))) (unmarked_takes (q.each NotMut))

ref_takes : {T : Family} → TypesTake T → Takes (RefType T) Anything named_count
unfolding to_ref
ref_takes {T} q = takes_made to_ref (λ v g. (tt, let e = count_ref v.0 v.1.ty in omega arith)) (takes_past_more (15 ∷ []) inner)
  where
    inner : Takes (Made second (Then (Perhaps_token class_of (42 ∷ [])) (RefTarget T))) Anything target_count
    inner = takes_made second (λ x g. (tt, omega arith)) (takes_then (takes_perhaps_token (42 ∷ [])) (target_takes q))

raw_takes : {T : Family} → TypesTake T → Takes (RawType T) Anything named_count
unfolding to_raw
raw_takes q = takes_made to_raw (λ v g. (tt, let e = count_raw v.0 v.1.ty in omega arith)) (takes_past_more (16 ∷ []) (takes_either (takes_past (117 ∷ []) (marked_takes (q.each AnyType))) (takes_past (116 ∷ []) (unmarked_takes (q.each AnyType)))))

bound_takes : Takes Bound Anything nil
bound_takes = takes_perhaps false tt refl (takes_made (λ t. true) (λ t g. (tt, omega arith)) (takes_past (18 ∷ []) (takes_any (42 ∷ []))))

dyn_takes : {T : Family} → TypesTake T → Takes (DynType T) Anything named_count
unfolding to_dyn
dyn_takes {T} q = takes_made to_dyn (λ n g. (tt, let e = count_dyn n.text in omega arith)) (takes_past (115 ∷ []) inner)
  where
    inner : Takes (Made first (Then (FreePath any_word T) Bound)) Anything (λ (n : Named). 1)
    inner = takes_made first (λ x g. (tt, omega arith)) (takes_then (free_path_takes by_one q any_word) bound_takes)

qualified_takes : {T : Family} → TypesTake T → Takes (QualifiedHead T) Anything named_count
unfolding to_qualified
qualified_takes q = takes_made to_qualified (λ v g. (tt, let e = count_named (qualified_text v.1.0.text v.1.1.text) in omega arith))
    (takes_then (takes_any (7 ∷ [])) (takes_then (q.each AnyType) (takes_past (118 ∷ []) (takes_ended (8 ∷ []) (free_path_takes by_one q any_word)))))

formed_takes : {T : Family} → TypesTake T → Takes (FormedType T) Anything named_count
formed_takes q = takes_either plain_takes (takes_either (tuple_takes q) (takes_either (array_takes q) (takes_either (ref_takes q) (takes_either (raw_takes q) (dyn_takes q)))))

mut_takes : {T : Family} → TypesTake T → Takes (Made to_mut_path (KeyedSteps T)) Anything named_count
unfolding to_mut_path
mut_takes q = takes_made to_mut_path (λ s g. (tt, by_type.low (HeadWord (codes "mut") 0, s))) (keyed_steps_take q)

body_takes : {T : Family} → TypesTake T → (want : Want) → Takes (TypeBody T want) Anything named_count
body_takes q AnyType = takes_either (formed_takes q) (path_from_takes by_type q type_words path_words)
body_takes q NotMut = takes_either (formed_takes q) (path_from_takes by_type q type_words path_words_but_mut)
body_takes q BehindMut = mut_takes q
body_takes q Qualified = qualified_takes q

pub types_take : (d : ℕ) → TypesTake (TypeLevel NoType d)
types_take zero = record { each = λ want. takes_never Anything named_count }
types_take (suc d) = record { each = body_takes (types_take d) }
