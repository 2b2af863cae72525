-- Types and paths do not look at where their tokens start.
use Rattle.std.proofs.Common.{◌≡◌, ℕ, zero, suc, Bool, true, false, ◌&&◌, ◌||◌, if◌then◌else◌, List, [], ◌∷◌, ◌++◌, codes, map, Option, Some, None, refl, sym, ◌∙◌, ap}
use Rattle.std.specs.Bool.{⊤}
use Rattle.std.specs.Str.{bytes_eq}
use Rattle.grammar_words.specs.Grammar.{Part, Made}
use Rattle.grammar_words.specs.Reading.{cons, first, second}
use Rattle.mir_ir.specs.declared.types.Ty.{Ty}
use Rattle.mir_ir.specs.declared.types.Ty.TheVariants as ty
use Rattle.mir_grammar.specs.Lexemes.{Lexeme, number_value}
use Rattle.mir_grammar.specs.declared.named.Named.{Named}
use Rattle.mir_grammar.specs.declared.named.Argument.{Argument}
use Rattle.mir_grammar.specs.declared.named.Argument.TheVariants.{TypeArgument, OtherArgument}
use Rattle.mir_grammar.specs.declared.named.Head.{Head}
use Rattle.mir_grammar.specs.declared.named.Head.TheVariants.{HeadWord, HeadText}
use Rattle.mir_grammar.specs.declared.named.Step.{Step}
use Rattle.mir_grammar.specs.declared.named.Step.TheVariants.{StepWord, StepArguments, StepImpl}
use Rattle.mir_grammar.specs.Names.{argument_text, argument_is_long, list_text, texts_of, some_is, head_is_long, step_text, step_is_long, steps_text, path_text, only_type, only_arguments, boxed_behind, boxed_type, box_or_name, only_where, words_then, first_some, argument_of, is_over, to_path, to_keyed_path, to_mut_path, to_qualified, named_head, word_head, impl_head, word_step, impl_step, written_argument, to_plain}
use Rattle.mir_grammar.specs.Names.{types_of, tuple_type, comma_where, named_text, named_is_long, to_tuple, to_array, to_ref, to_raw, to_dyn}
use Rattle.mir_grammar.specs.Types.{Family, any_word, colons, type_names, type_words, path_words, path_words_but_mut, Want, AnyType, NotMut, BehindMut, Qualified, Arguments, Segment, PathStep, KeyedSteps, FreeHead, FreePath, KeyedPath, PathFrom, QualifiedHead, PlainType, TupleType, ArrayType, unmarked, marked, RefTarget, RefType, RawType, DynType, FormedType, TypeBody, TypeLevel, NoType}
use Rattle.mir_lex.specs.declared.token.TokenKind.TheVariants as kind
use Rattle.print_laws.proofs.Copies.{SameLexeme, SameEach, SamePair, SameBool, Copies, copies_tok, copies_then, copies_made, copies_either, copies_never, copies_nothing, copies_each, copies_past, copies_ended, copies_listed, copies_perhaps_token, copies_trailed}

-- without where it starts
abbrev pub unplaced : Named → Named
unplaced n = record { ty = n.ty; text = n.text; is_long = n.is_long; argument = n.argument; start = 0 }

abbrev pub SameNamed : Named → Named → Type 0
SameNamed n m = unplaced n ≡ unplaced m

abbrev argument_unplaced : Argument → Argument
argument_unplaced (TypeArgument n) = TypeArgument (unplaced n)
argument_unplaced (OtherArgument text) = OtherArgument text

abbrev head_unplaced : Head → Head
head_unplaced (HeadWord w start) = HeadWord w 0
head_unplaced (HeadText text long start) = HeadText text long 0

abbrev step_unplaced : Step → Step
step_unplaced (StepWord w) = StepWord w
step_unplaced (StepArguments as_) = StepArguments (map argument_unplaced as_)
step_unplaced (StepImpl text) = StepImpl text

pub same_map : {A B : Type 0} (z : A → B) (as_ bs : List A) → SameEach (λ a b. z a ≡ z b) as_ bs → map z as_ ≡ map z bs
same_map z [] [] h = refl
same_map z [] (b ∷ bs) h = absurd h
same_map z (a ∷ as_) [] h = absurd h
same_map z (a ∷ as_) (b ∷ bs) h = ap (λ x. x ∷ map z as_) h.0 ∙ ap (λ x. z b ∷ x) (same_map z as_ bs h.1)

-- What names are made of does not hang on it.

one_argument_text : (a : Argument) → argument_text (argument_unplaced a) ≡ argument_text a
one_argument_text (TypeArgument n) = refl
one_argument_text (OtherArgument text) = refl

one_argument_long : (a : Argument) → argument_is_long (argument_unplaced a) ≡ argument_is_long a
one_argument_long (TypeArgument n) = refl
one_argument_long (OtherArgument text) = refl

arguments_text : (as_ : List Argument) → texts_of argument_text (map argument_unplaced as_) ≡ texts_of argument_text as_
arguments_text [] = refl
arguments_text (a ∷ as_) = ap (λ x. x ∷ texts_of argument_text (map argument_unplaced as_)) (one_argument_text a) ∙ ap (λ x. argument_text a ∷ x) (arguments_text as_)

arguments_long : (as_ : List Argument) → some_is argument_is_long (map argument_unplaced as_) ≡ some_is argument_is_long as_
arguments_long [] = refl
arguments_long (a ∷ as_) = ap (λ x. x || some_is argument_is_long (map argument_unplaced as_)) (one_argument_long a) ∙ ap (λ x. argument_is_long a || x) (arguments_long as_)

one_step_text : (s : Step) → step_text (step_unplaced s) ≡ step_text s
one_step_text (StepWord w) = refl
one_step_text (StepArguments as_) = ap (λ x. codes "<" ++ (list_text x ++ codes ">")) (arguments_text as_)
one_step_text (StepImpl text) = refl

one_step_long : (s : Step) → step_is_long (step_unplaced s) ≡ step_is_long s
one_step_long (StepWord w) = refl
one_step_long (StepArguments as_) = arguments_long as_
one_step_long (StepImpl text) = refl

all_steps_text : (ss : List Step) → steps_text (map step_unplaced ss) ≡ steps_text ss
all_steps_text [] = refl
all_steps_text (s ∷ ss) = ap (λ x. x ++ steps_text (map step_unplaced ss)) (one_step_text s) ∙ ap (λ x. step_text s ++ x) (all_steps_text ss)

all_steps_long : (ss : List Step) → some_is step_is_long (map step_unplaced ss) ≡ some_is step_is_long ss
all_steps_long [] = refl
all_steps_long (s ∷ ss) = ap (λ x. x || some_is step_is_long (map step_unplaced ss)) (one_step_long s) ∙ ap (λ x. step_is_long s || x) (all_steps_long ss)

whole_text : (h : Head) (ss : List Step) → path_text (head_unplaced h) (map step_unplaced ss) ≡ path_text h ss
whole_text (HeadWord w start) ss = ap (λ x. w ++ x) (all_steps_text ss)
whole_text (HeadText text long start) ss = ap (λ x. text ++ x) (all_steps_text ss)

same_only : (as_ : List Argument) → only_type (map argument_unplaced as_) ≡ only_type as_
same_only [] = refl
same_only (TypeArgument n ∷ []) = refl
same_only (TypeArgument n ∷ b ∷ more) = refl
same_only (OtherArgument text ∷ more) = refl

same_only_arguments : (ss : List Step) → only_arguments (map step_unplaced ss) ≡ only_arguments ss
same_only_arguments [] = refl
same_only_arguments (StepWord w ∷ more) = refl
same_only_arguments (StepArguments as_ ∷ []) = same_only as_
same_only_arguments (StepArguments as_ ∷ s ∷ more) = refl
same_only_arguments (StepImpl text ∷ more) = refl

same_behind : (ss : List Step) → boxed_behind (map step_unplaced ss) ≡ boxed_behind ss
same_behind [] = refl
same_behind (StepWord a ∷ []) = refl
same_behind (StepWord a ∷ StepWord b ∷ more) = ap (λ x. if bytes_eq (codes "boxed") a && bytes_eq (codes "Box") b then x else None) (same_only_arguments more)
same_behind (StepWord a ∷ StepArguments as_ ∷ more) = refl
same_behind (StepWord a ∷ StepImpl text ∷ more) = refl
same_behind (StepArguments as_ ∷ more) = refl
same_behind (StepImpl text ∷ more) = refl

same_boxed : (h : Head) (ss : List Step) → boxed_type (head_unplaced h) (map step_unplaced ss) ≡ boxed_type h ss
same_boxed (HeadWord w start) ss = ap (λ x. if bytes_eq (codes "Box") w then x else (if bytes_eq (codes "std") w then boxed_behind (map step_unplaced ss) else None)) (same_only_arguments ss)
    ∙ ap (λ x. if bytes_eq (codes "Box") w then only_arguments ss else (if bytes_eq (codes "std") w then x else None)) (same_behind ss)
same_boxed (HeadText text long start) ss = refl

same_words : (ws last : List (List ℕ)) (ss : List Step) → words_then ws last (map step_unplaced ss) ≡ words_then ws last ss
same_words [] last [] = refl
same_words [] last (StepWord w ∷ ss) = refl
same_words [] last (StepImpl w ∷ ss) = refl
same_words [] last (StepArguments as_ ∷ []) = ap (only_where last []) (same_only as_)
same_words [] last (StepArguments as_ ∷ StepWord w ∷ []) = ap (only_where last (w ∷ [])) (same_only as_)
same_words [] last (StepArguments as_ ∷ StepWord w ∷ s ∷ ss) = refl
same_words [] last (StepArguments as_ ∷ StepArguments bs ∷ ss) = refl
same_words [] last (StepArguments as_ ∷ StepImpl w ∷ ss) = refl
same_words (a ∷ ws) last [] = refl
same_words (a ∷ ws) last (StepWord w ∷ ss) = ap (λ x. if bytes_eq a w then x else None) (same_words ws last ss)
same_words (a ∷ ws) last (StepArguments as_ ∷ ss) = refl
same_words (a ∷ ws) last (StepImpl w ∷ ss) = refl

abbrev std_argument : Option Ty → Option Ty → Option Ty → Option Ty
std_argument a b c = first_some a (first_some b c)

abbrev argument_among : List ℕ → Option Ty → Option Ty → Option Ty → Option Ty
argument_among w a b c = if bytes_eq (codes "kani") w then a else (if bytes_eq (codes "Box") w then b else (if bytes_eq (codes "std") w then c else None))

same_std : (ss : List Step) → std_argument (words_then (codes "boxed" ∷ codes "Box" ∷ []) (codes "new" ∷ []) (map step_unplaced ss)) (words_then (codes "ptr" ∷ codes "null" ∷ []) [] (map step_unplaced ss)) (words_then (codes "ptr" ∷ codes "null_mut" ∷ []) [] (map step_unplaced ss))
    ≡ std_argument (words_then (codes "boxed" ∷ codes "Box" ∷ []) (codes "new" ∷ []) ss) (words_then (codes "ptr" ∷ codes "null" ∷ []) [] ss) (words_then (codes "ptr" ∷ codes "null_mut" ∷ []) [] ss)
same_std ss = ap (λ x. std_argument x (words_then (codes "ptr" ∷ codes "null" ∷ []) [] (map step_unplaced ss)) (words_then (codes "ptr" ∷ codes "null_mut" ∷ []) [] (map step_unplaced ss))) (same_words (codes "boxed" ∷ codes "Box" ∷ []) (codes "new" ∷ []) ss)
    ∙ ap (λ x. std_argument (words_then (codes "boxed" ∷ codes "Box" ∷ []) (codes "new" ∷ []) ss) x (words_then (codes "ptr" ∷ codes "null_mut" ∷ []) [] (map step_unplaced ss))) (same_words (codes "ptr" ∷ codes "null" ∷ []) [] ss)
    ∙ ap (std_argument (words_then (codes "boxed" ∷ codes "Box" ∷ []) (codes "new" ∷ []) ss) (words_then (codes "ptr" ∷ codes "null" ∷ []) [] ss)) (same_words (codes "ptr" ∷ codes "null_mut" ∷ []) [] ss)

same_argument : (h : Head) (ss : List Step) → argument_of (head_unplaced h) (map step_unplaced ss) ≡ argument_of h ss
same_argument (HeadText text long start) ss = refl
same_argument (HeadWord w start) ss =
    ap (λ x. argument_among w x (words_then [] (codes "new" ∷ []) (map step_unplaced ss)) (std_argument (words_then (codes "boxed" ∷ codes "Box" ∷ []) (codes "new" ∷ []) (map step_unplaced ss)) (words_then (codes "ptr" ∷ codes "null" ∷ []) [] (map step_unplaced ss)) (words_then (codes "ptr" ∷ codes "null_mut" ∷ []) [] (map step_unplaced ss)))) (same_words (codes "any" ∷ []) [] ss)
    ∙ ap (λ x. argument_among w (words_then (codes "any" ∷ []) [] ss) x (std_argument (words_then (codes "boxed" ∷ codes "Box" ∷ []) (codes "new" ∷ []) (map step_unplaced ss)) (words_then (codes "ptr" ∷ codes "null" ∷ []) [] (map step_unplaced ss)) (words_then (codes "ptr" ∷ codes "null_mut" ∷ []) [] (map step_unplaced ss)))) (same_words [] (codes "new" ∷ []) ss)
    ∙ ap (argument_among w (words_then (codes "any" ∷ []) [] ss) (words_then [] (codes "new" ∷ []) ss)) (same_std ss)

head_long : (h : Head) → head_is_long (head_unplaced h) ≡ head_is_long h
head_long (HeadWord w start) = refl
head_long (HeadText text long start) = refl

abbrev made : Option Ty → List ℕ → Bool → Bool → Option Ty → Named
made box text long steps argument = record { ty = box_or_name box text; text = text; is_long = is_over text || (long || steps); argument = argument; start = 0 }

-- a path from a head and steps without places
natural : (h : Head) (ss : List Step) → unplaced (to_path (head_unplaced h, map step_unplaced ss)) ≡ unplaced (to_path (h, ss))
unfolding to_path
natural h ss =
    let p = head_unplaced h in let qs = map step_unplaced ss in
    ap (λ x. made x (path_text (head_unplaced h) (map step_unplaced ss)) (head_is_long (head_unplaced h)) (some_is step_is_long (map step_unplaced ss)) (argument_of (head_unplaced h) (map step_unplaced ss))) (same_boxed h ss)
    ∙ ap (λ x. made (boxed_type h ss) x (head_is_long (head_unplaced h)) (some_is step_is_long (map step_unplaced ss)) (argument_of (head_unplaced h) (map step_unplaced ss))) (whole_text h ss)
    ∙ ap (λ x. made (boxed_type h ss) (path_text h ss) x (some_is step_is_long (map step_unplaced ss)) (argument_of (head_unplaced h) (map step_unplaced ss))) (head_long h)
    ∙ ap (λ x. made (boxed_type h ss) (path_text h ss) (head_is_long h) x (argument_of (head_unplaced h) (map step_unplaced ss))) (all_steps_long ss)
    ∙ ap (made (boxed_type h ss) (path_text h ss) (head_is_long h) (some_is step_is_long ss)) (same_argument h ss)

pub same_path : (h k : Head) (ss ts : List Step) → head_unplaced h ≡ head_unplaced k → map step_unplaced ss ≡ map step_unplaced ts → SameNamed (to_path (h, ss)) (to_path (k, ts))
same_path h k ss ts e f = sym (natural h ss) ∙ ap (λ x. unplaced (to_path (x, map step_unplaced ss))) e ∙ ap (λ x. unplaced (to_path (head_unplaced k, x))) f ∙ natural k ts

-- Productions.

abbrev SameArgument : Argument → Argument → Type 0
SameArgument a b = argument_unplaced a ≡ argument_unplaced b

abbrev SameStep : Step → Step → Type 0
SameStep a b = step_unplaced a ≡ step_unplaced b

abbrev SameHead : Head → Head → Type 0
SameHead a b = head_unplaced a ≡ head_unplaced b

pub record CopiesAll (T : Family) : Type 0 where
  pub of_want : (w : Want) → Copies (T w) SameNamed

arguments : {T : Family} → CopiesAll T → Copies (Arguments T) (SameEach SameArgument)
arguments t = copies_past (7 ∷ []) (copies_ended (8 ∷ []) (copies_listed (9 ∷ []) (copies_either (copies_made written_argument (λ a b h. ap OtherArgument h.1) (copies_tok (35 ∷ 42 ∷ []))) (copies_made TypeArgument (λ a b h. ap TypeArgument h) (t.of_want AnyType)))))

step_arguments : {T : Family} → CopiesAll T → Copies (Made StepArguments (Arguments T)) SameStep
step_arguments t = copies_made StepArguments (λ a b h. ap StepArguments (same_map argument_unplaced a b h)) (arguments t)

segment : {T : Family} → CopiesAll T → Copies (Segment T) SameStep
segment t = copies_either (copies_made word_step (λ a b h. ap StepWord h.1) (copies_tok any_word)) (copies_either (copies_made impl_step (λ a b h. ap StepImpl h.1) (copies_tok (43 ∷ []))) (step_arguments t))

path_step : {T : Family} → CopiesAll T → Copies (PathStep T) SameStep
path_step t = copies_either (copies_past colons (segment t)) (step_arguments t)

keyed_steps : {T : Family} → CopiesAll T → Copies (KeyedSteps T) (SameEach SameStep)
keyed_steps t = copies_made cons (λ a b h. h) (copies_then (copies_past colons (segment t)) (copies_each (path_step t)))

free_head : {T : Family} (words : List ℕ) → CopiesAll T → Copies (FreeHead words T) SameHead
free_head words t = copies_either (copies_made word_head (λ a b h. ap (λ w. HeadWord w 0) h.1) (copies_tok words)) (copies_either (copies_made impl_head (λ a b h. ap (λ w. HeadText w false 0) h.1) (copies_tok (43 ∷ [])))
    (copies_made named_head (λ a b h. ap (λ (n : Named). HeadText n.text n.is_long 0) h) (t.of_want Qualified)))

pub free_path : {T : Family} (words : List ℕ) → CopiesAll T → Copies (FreePath words T) SameNamed
free_path words t = copies_made to_path (λ a b h. same_path a.0 b.0 a.1 b.1 h.0 (same_map step_unplaced a.1 b.1 h.1)) (copies_then (free_head words t) (copies_each (path_step t)))

keyed_path : {T : Family} (keys : List ℕ) → CopiesAll T → Copies (KeyedPath keys T) SameNamed
unfolding to_keyed_path
keyed_path keys t = copies_made to_keyed_path (λ a b h. same_path (HeadWord a.0.text a.0.start) (HeadWord b.0.text b.0.start) a.1 b.1 (ap (λ w. HeadWord w 0) h.0.1) (same_map step_unplaced a.1 b.1 h.1)) (copies_then (copies_tok keys) (keyed_steps t))

pub path_from : {T : Family} (keys words : List ℕ) → CopiesAll T → Copies (PathFrom keys words T) SameNamed
path_from keys words t = copies_either (keyed_path keys t) (free_path words t)

mut_path : {T : Family} → CopiesAll T → Copies (Made to_mut_path (KeyedSteps T)) SameNamed
unfolding to_mut_path
mut_path t = copies_made to_mut_path (λ a b h. same_path (HeadWord (codes "mut") 0) (HeadWord (codes "mut") 0) a b refl (same_map step_unplaced a b h)) (keyed_steps t)

abbrev SameQualified : Lexeme × (Named × Named) → Lexeme × (Named × Named) → Type 0
SameQualified = SamePair SameLexeme (SamePair SameNamed SameNamed)

qualified_same : (a b : Lexeme × (Named × Named)) → SameQualified a b → SameNamed (to_qualified a) (to_qualified b)
unfolding to_qualified
qualified_same a b h = ap (λ (n : Named). unplaced (to_qualified (a.0, (n, a.1.1)))) h.1.0 ∙ ap (λ (n : Named). unplaced (to_qualified (a.0, (b.1.0, n)))) h.1.1

qualified_head : {T : Family} → CopiesAll T → Copies (QualifiedHead T) SameNamed
qualified_head t = copies_made to_qualified qualified_same (copies_then (copies_tok (7 ∷ [])) (copies_then (t.of_want AnyType) (copies_past (118 ∷ []) (copies_ended (8 ∷ []) (free_path any_word t)))))

plain_type : Copies PlainType SameNamed
unfolding to_plain
plain_type = copies_made to_plain (λ a b h. ap (λ w. unplaced (to_plain (record { kind = kind.Word; text = w; start = 0 }))) h.1) (copies_tok (17 ∷ type_names))

texts_unplaced : (ns : List Named) → texts_of named_text (map unplaced ns) ≡ texts_of named_text ns
texts_unplaced [] = refl
texts_unplaced (n ∷ ns) = ap (λ x. n.text ∷ x) (texts_unplaced ns)

long_unplaced : (ns : List Named) → some_is named_is_long (map unplaced ns) ≡ some_is named_is_long ns
long_unplaced [] = refl
long_unplaced (n ∷ ns) = ap (λ x. n.is_long || x) (long_unplaced ns)

types_unplaced : (ns : List Named) → types_of (map unplaced ns) ≡ types_of ns
types_unplaced [] = refl
types_unplaced (n ∷ ns) = ap (λ x. n.ty ∷ x) (types_unplaced ns)

tuple_unplaced : (ns : List Named) (c : Bool) → tuple_type (map unplaced ns) c ≡ tuple_type ns c
tuple_unplaced [] c = refl
tuple_unplaced (n ∷ []) true = refl
tuple_unplaced (n ∷ []) false = refl
tuple_unplaced (n ∷ m ∷ more) c = ap (λ x. ty.Tuple (n.ty ∷ m.ty ∷ x)) (types_unplaced more)

abbrev tuple_made : Ty → List (List ℕ) → Bool → Bool → Named
tuple_made t texts c long = record { ty = t; text = codes "(" ++ (list_text texts ++ (comma_where c ++ codes ")")); is_long = long; argument = None; start = 0 }

tuple_natural : (ns : List Named) (c : Bool) → unplaced (to_tuple (map unplaced ns, c)) ≡ unplaced (to_tuple (ns, c))
unfolding to_tuple
tuple_natural ns c = ap (λ x. tuple_made x (texts_of named_text (map unplaced ns)) c (some_is named_is_long (map unplaced ns))) (tuple_unplaced ns c) ∙ ap (λ x. tuple_made (tuple_type ns c) x c (some_is named_is_long (map unplaced ns))) (texts_unplaced ns)
    ∙ ap (tuple_made (tuple_type ns c) (texts_of named_text ns) c) (long_unplaced ns)

abbrev SameTuple : List Named × Bool → List Named × Bool → Type 0
SameTuple = SamePair (SameEach SameNamed) SameBool

tuple_same : (a b : List Named × Bool) → SameTuple a b → SameNamed (to_tuple a) (to_tuple b)
tuple_same a b h = sym (tuple_natural a.0 a.1) ∙ ap (λ x. unplaced (to_tuple (x, a.1))) (same_map unplaced a.0 b.0 h.0) ∙ ap (λ x. unplaced (to_tuple (map unplaced b.0, x))) h.1 ∙ tuple_natural b.0 b.1

tuple_copies : {T : Family} → CopiesAll T → Copies (TupleType T) SameNamed
tuple_copies t = copies_made to_tuple tuple_same (copies_past (1 ∷ []) (copies_ended (2 ∷ []) (copies_trailed (9 ∷ []) (t.of_want AnyType))))

abbrev SameOption : Option Lexeme → Option Lexeme → Type 0
SameOption None None = ⊤
SameOption None (Some m) = ⊥
SameOption (Some l) None = ⊥
SameOption (Some l) (Some m) = SameLexeme l m

array_same : (a b : Named × Option Lexeme) → SamePair SameNamed SameOption a b → SameNamed (to_array a) (to_array b)
unfolding to_array number_value
array_same (n, None) (m, None) h = ap (λ (x : Named). unplaced (to_array (x, None))) h.0
array_same (n, None) (m, Some k) h = absurd (h.1)
array_same (n, Some l) (m, None) h = absurd (h.1)
array_same (n, Some l) (m, Some k) h = ap (λ (x : Named). unplaced (to_array (x, Some l))) h.0 ∙ ap (λ w. unplaced (to_array (m, Some (record { kind = kind.Number; text = w; start = 0 })))) h.1.1

array_copies : {T : Family} → CopiesAll T → Copies (ArrayType T) SameNamed
array_copies t = copies_made to_array array_same (copies_past (3 ∷ []) (copies_then (t.of_want AnyType) (copies_either (copies_made (λ x. None) (λ a b h. tt) (copies_tok (4 ∷ []))) (copies_past (10 ∷ []) (copies_ended (4 ∷ []) (copies_made Some (λ a b h. h) (copies_tok (35 ∷ []))))))))

abbrev SameMarked : Bool × Named → Bool × Named → Type 0
SameMarked = SamePair SameBool SameNamed

ref_same : (a b : Bool × Named) → SameMarked a b → SameNamed (to_ref a) (to_ref b)
unfolding to_ref
ref_same a b h = ap (λ x. unplaced (to_ref (x, a.1))) h.0 ∙ ap (λ (n : Named). unplaced (to_ref (b.0, n))) h.1

raw_same : (a b : Bool × Named) → SameMarked a b → SameNamed (to_raw a) (to_raw b)
unfolding to_raw
raw_same a b h = ap (λ x. unplaced (to_raw (x, a.1))) h.0 ∙ ap (λ (n : Named). unplaced (to_raw (b.0, n))) h.1

plain_mark : {R : Part Lexeme Named} → Copies R SameNamed → Copies (Made unmarked R) SameMarked
plain_mark c = copies_made unmarked (λ a b h. (refl, h)) c

mut_mark : {R : Part Lexeme Named} → Copies R SameNamed → Copies (Made marked R) SameMarked
mut_mark c = copies_made marked (λ a b h. (refl, h)) c

ref_target : {T : Family} → CopiesAll T → Copies (RefTarget T) SameMarked
ref_target t = copies_either (copies_past (117 ∷ []) (copies_either (plain_mark (t.of_want BehindMut)) (mut_mark (t.of_want AnyType)))) (plain_mark (t.of_want NotMut))

ref_copies : {T : Family} → CopiesAll T → Copies (RefType T) SameNamed
ref_copies t = copies_made to_ref ref_same (copies_past (15 ∷ []) (copies_made second (λ a b h. h.1) (copies_then (copies_perhaps_token (42 ∷ [])) (ref_target t))))

raw_copies : {T : Family} → CopiesAll T → Copies (RawType T) SameNamed
raw_copies t = copies_made to_raw raw_same (copies_past (16 ∷ []) (copies_either (copies_past (117 ∷ []) (mut_mark (t.of_want AnyType))) (copies_past (116 ∷ []) (plain_mark (t.of_want AnyType)))))

dyn_copies : {T : Family} → CopiesAll T → Copies (DynType T) SameNamed
unfolding to_dyn
dyn_copies t = copies_made to_dyn (λ a b h. ap (λ (n : Named). unplaced (to_dyn n)) h) (copies_past (115 ∷ []) (copies_made first (λ a b h. h.0) (copies_then (free_path any_word t) (copies_either {E = SameBool} (copies_made (λ x. true) (λ a b h. refl) (copies_past (18 ∷ []) (copies_tok (42 ∷ [])))) (copies_nothing false refl)))))

formed : {T : Family} → CopiesAll T → Copies (FormedType T) SameNamed
formed t = copies_either plain_type (copies_either (tuple_copies t) (copies_either (array_copies t) (copies_either (ref_copies t) (copies_either (raw_copies t) (dyn_copies t)))))

body : {T : Family} → CopiesAll T → CopiesAll (TypeBody T)
body {T} t = record { of_want = by_want }
  where
    by_want : (w : Want) → Copies (TypeBody T w) SameNamed
    by_want AnyType = copies_either (formed t) (path_from type_words path_words t)
    by_want NotMut = copies_either (formed t) (path_from type_words path_words_but_mut t)
    by_want BehindMut = mut_path t
    by_want Qualified = qualified_head t

-- at each depth
pub types_copied : (d : ℕ) → CopiesAll (TypeLevel NoType d)
types_copied zero = record { of_want = λ w. copies_never }
types_copied (suc d) = body (types_copied d)
