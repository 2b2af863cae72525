-- Types and paths.
--   type    := bool | char | integer name | ! | str | ( list(type) ,? ) | [ type ; number ] | [ type ]
--            | & lifetime? mut? type | * (const | mut) type | dyn path (+ lifetime)? | path
--   path    := head (:: segment | < list(argument) >)*
--   head    := word | < type as path > | impl segment
--   segment := word | < list(argument) > | impl segment
--   argument := type | lifetime | number
-- A word that begins another form of a type begins a path there only before ::, and so does mut behind &. A head
-- < type as path > counts as a type of its own where nesting is counted.
use Rattle.std.specs.Prelude.{ℕ, zero, suc, ◌+◌, Bool, true, false, if◌then◌else◌, List, [], ◌∷◌, Option, Some, None}
use Rattle.grammar_words.specs.Grammar.{Part, Then, Made, Either, Each, Never}
use Rattle.grammar_words.specs.Reading.{Reader, joined, made, pick, choose, many, guard, deep, cons, first, second}
use Rattle.grammar_words.specs.Classes.{has, inside, Tok, tok, Past, past, Ended, ended, Perhaps, perhaps, Perhaps_token, Listed, listed, Trailed, trailed, bare}
use Rattle.mir_grammar.specs.Lexemes.{Lexeme, class_of}
use Rattle.mir_grammar.specs.Names.{Named, Argument, TypeArgument, Head, Step, StepArguments, to_path, to_keyed_path, to_mut_path, to_qualified, named_head, word_head, impl_head, word_step, impl_step, written_argument, to_plain, to_tuple, to_array, to_ref, to_raw, to_dyn}

-- Sets of classes.

abbrev pub run : ℕ → ℕ → List ℕ
run n zero = []
run n (suc k) = n ∷ run (n + 1) k

-- the classes of a list that are not in a set
abbrev pub without : List ℕ → List ℕ → List ℕ
without set [] = []
without set (x ∷ xs) = if has set x then without set xs else x ∷ without set xs

abbrev pub any_word : List ℕ
any_word = 33 ∷ run 100 79

abbrev pub colons : List ℕ
colons = 12 ∷ []

-- bool, char, the integer types and str
abbrev pub type_names : List ℕ
type_names = run 100 15

-- these and dyn
abbrev pub type_words : List ℕ
type_words = run 100 16

-- words that begin a path at the place of a type
abbrev pub path_words : List ℕ
path_words = without type_words any_word

abbrev pub path_words_but_mut : List ℕ
path_words_but_mut = without (117 ∷ []) path_words

-- what is wanted one level deeper: a type; one that does not begin with mut; how a path goes on whose
-- first word is mut; a path
pub data Want : Type 0 where
  AnyType : Want
  NotMut : Want
  BehindMut : Want
  Qualified : Want

abbrev pub Family : Type 1
Family = Want → Part Lexeme Named

-- Each production, over those of one level less.

abbrev pub ArgumentOf : Family → Part Lexeme Argument
ArgumentOf T = Either (Made written_argument (Tok class_of (35 ∷ 42 ∷ []))) (Made TypeArgument (T AnyType))

abbrev pub Arguments : Family → Part Lexeme (List Argument)
Arguments T = Past class_of (7 ∷ []) (Ended class_of (Listed class_of (9 ∷ []) (ArgumentOf T)) (8 ∷ []))

abbrev pub Segment : Family → Part Lexeme Step
Segment T = Either (Made word_step (Tok class_of any_word)) (Either (Made impl_step (Tok class_of (43 ∷ []))) (Made StepArguments (Arguments T)))

abbrev pub PathStep : Family → Part Lexeme Step
PathStep T = Either (Past class_of colons (Segment T)) (Made StepArguments (Arguments T))

-- how a path goes on behind a word that begins one only before ::
abbrev pub KeyedSteps : Family → Part Lexeme (List Step)
KeyedSteps T = Made cons (Then (Past class_of colons (Segment T)) (Each (PathStep T)))

-- a head that is one of these words or no word
abbrev pub FreeHead : List ℕ → Family → Part Lexeme Head
FreeHead words T = Either (Made word_head (Tok class_of words)) (Either (Made impl_head (Tok class_of (43 ∷ []))) (Made named_head (T Qualified)))

abbrev pub FreePath : List ℕ → Family → Part Lexeme Named
FreePath words T = Made to_path (Then (FreeHead words T) (Each (PathStep T)))

abbrev pub KeyedPath : List ℕ → Family → Part Lexeme Named
KeyedPath keys T = Made to_keyed_path (Then (Tok class_of keys) (KeyedSteps T))

-- a path where the words `keys` begin one only before ::
abbrev pub PathFrom : List ℕ → List ℕ → Family → Part Lexeme Named
PathFrom keys words T = Either (KeyedPath keys T) (FreePath words T)

abbrev pub QualifiedHead : Family → Part Lexeme Named
QualifiedHead T = Made to_qualified (Then (Tok class_of (7 ∷ [])) (Then (T AnyType) (Past class_of (118 ∷ []) (Ended class_of (FreePath any_word T) (8 ∷ [])))))

abbrev pub PlainType : Part Lexeme Named
PlainType = Made to_plain (Tok class_of (17 ∷ type_names))

abbrev pub TupleType : Family → Part Lexeme Named
TupleType T = Made to_tuple (Past class_of (1 ∷ []) (Ended class_of (Trailed class_of (9 ∷ []) (T AnyType)) (2 ∷ [])))

-- ] or ; N ]
abbrev pub ArrayEnd : Part Lexeme (Option Lexeme)
ArrayEnd = Either (Made (λ t. None) (Tok class_of (4 ∷ []))) (Past class_of (10 ∷ []) (Ended class_of (Made Some (Tok class_of (35 ∷ []))) (4 ∷ [])))

abbrev pub ArrayType : Family → Part Lexeme Named
ArrayType T = Made to_array (Past class_of (3 ∷ []) (Then (T AnyType) ArrayEnd))

abbrev pub unmarked : Named → Bool × Named
unmarked n = (false, n)

abbrev pub marked : Named → Bool × Named
marked n = (true, n)

abbrev pub RefTarget : Family → Part Lexeme (Bool × Named)
RefTarget T = Either (Past class_of (117 ∷ []) (Either (Made unmarked (T BehindMut)) (Made marked (T AnyType)))) (Made unmarked (T NotMut))

abbrev pub RefType : Family → Part Lexeme Named
RefType T = Made to_ref (Past class_of (15 ∷ []) (Made second (Then (Perhaps_token class_of (42 ∷ [])) (RefTarget T))))

abbrev pub RawType : Family → Part Lexeme Named
RawType T = Made to_raw (Past class_of (16 ∷ []) (Either (Past class_of (117 ∷ []) (Made marked (T AnyType))) (Past class_of (116 ∷ []) (Made unmarked (T AnyType)))))

-- + and a lifetime, or nothing
abbrev pub Bound : Part Lexeme Bool
Bound = Perhaps false (Made (λ t. true) (Past class_of (18 ∷ []) (Tok class_of (42 ∷ []))))

abbrev pub DynType : Family → Part Lexeme Named
DynType T = Made to_dyn (Past class_of (115 ∷ []) (Made first (Then (FreePath any_word T) Bound)))

-- a type that is no path
abbrev pub FormedType : Family → Part Lexeme Named
FormedType T = Either PlainType (Either (TupleType T) (Either (ArrayType T) (Either (RefType T) (Either (RawType T) (DynType T)))))

abbrev pub TypeBody : Family → Family
TypeBody T AnyType = Either (FormedType T) (PathFrom type_words path_words T)
TypeBody T NotMut = Either (FormedType T) (PathFrom type_words path_words_but_mut T)
TypeBody T BehindMut = Made to_mut_path (KeyedSteps T)
TypeBody T Qualified = QualifiedHead T

-- types so many levels deep, where B stands for those below
abbrev pub TypeLevel : Family → ℕ → Family
TypeLevel B zero = B
TypeLevel B (suc d) = TypeBody (TypeLevel B d)

abbrev pub NoType : Family
NoType want = Never

-- Their readings, with m turns for each list.

abbrev pub Readers : Type 0
Readers = Want → Reader Lexeme Named

abbrev pub formed_firsts : List ℕ
formed_firsts = 17 ∷ 1 ∷ 3 ∷ 15 ∷ 16 ∷ type_words

abbrev pub head_firsts : List ℕ
head_firsts = 43 ∷ 7 ∷ []

abbrev pub type_firsts : List ℕ
type_firsts = 17 ∷ 1 ∷ 3 ∷ 15 ∷ 16 ∷ 43 ∷ 7 ∷ any_word

-- the tokens that may come first
abbrev pub firsts_of : Want → List ℕ
firsts_of AnyType = type_firsts
firsts_of NotMut = without (117 ∷ []) type_firsts
firsts_of BehindMut = colons
firsts_of Qualified = 7 ∷ []

abbrev pub argument_at : Readers → Reader Lexeme Argument
argument_at t = pick (inside class_of (35 ∷ 42 ∷ [])) (made written_argument (tok class_of (35 ∷ 42 ∷ []))) (made TypeArgument (t AnyType))

abbrev pub arguments_at : ℕ → Readers → Reader Lexeme (List Argument)
arguments_at m t = past class_of (7 ∷ []) (ended class_of (listed class_of (35 ∷ 42 ∷ type_firsts) (9 ∷ []) (argument_at t) m) (8 ∷ []))

abbrev pub segment_at : ℕ → Readers → Reader Lexeme Step
segment_at m t = pick (inside class_of any_word) (made word_step (tok class_of any_word)) (pick (inside class_of (43 ∷ [])) (made impl_step (tok class_of (43 ∷ []))) (made StepArguments (arguments_at m t)))

abbrev pub path_step_at : ℕ → Readers → Reader Lexeme Step
path_step_at m t = pick (inside class_of colons) (past class_of colons (segment_at m t)) (made StepArguments (arguments_at m t))

abbrev pub path_steps_at : ℕ → Readers → Reader Lexeme (List Step)
path_steps_at m t = many (inside class_of (12 ∷ 7 ∷ [])) (path_step_at m t) m

abbrev pub keyed_steps_at : ℕ → Readers → Reader Lexeme (List Step)
keyed_steps_at m t = made cons (joined (past class_of colons (segment_at m t)) (path_steps_at m t))

abbrev pub free_head_at : List ℕ → Readers → Reader Lexeme Head
free_head_at words t = pick (inside class_of words) (made word_head (tok class_of words)) (pick (inside class_of (43 ∷ [])) (made impl_head (tok class_of (43 ∷ []))) (made named_head (t Qualified)))

abbrev pub free_path_at : ℕ → List ℕ → Readers → Reader Lexeme Named
free_path_at m words t = made to_path (joined (free_head_at words t) (path_steps_at m t))

abbrev pub keyed_path_at : ℕ → List ℕ → Readers → Reader Lexeme Named
keyed_path_at m keys t = made to_keyed_path (joined (tok class_of keys) (keyed_steps_at m t))

abbrev pub path_from_at : ℕ → List ℕ → List ℕ → Readers → Reader Lexeme Named
path_from_at m keys words t = pick (inside class_of keys) (keyed_path_at m keys t) (free_path_at m words t)

abbrev pub qualified_at : ℕ → Readers → Reader Lexeme Named
qualified_at m t = made to_qualified (joined (tok class_of (7 ∷ [])) (joined (t AnyType) (past class_of (118 ∷ []) (ended class_of (free_path_at m any_word t) (8 ∷ [])))))

abbrev pub plain_at : Reader Lexeme Named
plain_at = made to_plain (tok class_of (17 ∷ type_names))

abbrev pub tuple_at : ℕ → Readers → Reader Lexeme Named
tuple_at m t = made to_tuple (past class_of (1 ∷ []) (ended class_of (trailed class_of type_firsts (9 ∷ []) (t AnyType) m) (2 ∷ [])))

abbrev pub array_end_at : Reader Lexeme (Option Lexeme)
array_end_at = pick (inside class_of (4 ∷ [])) (made (λ t. None) (tok class_of (4 ∷ []))) (past class_of (10 ∷ []) (ended class_of (made Some (tok class_of (35 ∷ []))) (4 ∷ [])))

abbrev pub array_at : Readers → Reader Lexeme Named
array_at t = made to_array (past class_of (3 ∷ []) (joined (t AnyType) array_end_at))

abbrev pub perhaps_token : List ℕ → Reader Lexeme Bool
perhaps_token set = perhaps class_of set false (made (λ t. true) (tok class_of set))

abbrev pub ref_target_at : Readers → Reader Lexeme (Bool × Named)
ref_target_at t = pick (inside class_of (117 ∷ [])) (past class_of (117 ∷ []) (pick (inside class_of colons) (made unmarked (t BehindMut)) (made marked (t AnyType)))) (made unmarked (t NotMut))

abbrev pub ref_at : Readers → Reader Lexeme Named
ref_at t = made to_ref (past class_of (15 ∷ []) (made second (joined (perhaps_token (42 ∷ [])) (ref_target_at t))))

abbrev pub raw_at : Readers → Reader Lexeme Named
raw_at t = made to_raw (past class_of (16 ∷ []) (pick (inside class_of (117 ∷ [])) (past class_of (117 ∷ []) (made marked (t AnyType))) (past class_of (116 ∷ []) (made unmarked (t AnyType)))))

abbrev pub bound_at : Reader Lexeme Bool
bound_at = perhaps class_of (18 ∷ []) false (made (λ t. true) (past class_of (18 ∷ []) (tok class_of (42 ∷ []))))

abbrev pub dyn_at : ℕ → Readers → Reader Lexeme Named
dyn_at m t = made to_dyn (past class_of (115 ∷ []) (made first (joined (free_path_at m any_word t) bound_at)))

abbrev pub formed_at : ℕ → Readers → Reader Lexeme Named
formed_at m t = pick (inside class_of (17 ∷ type_names)) plain_at (pick (inside class_of (1 ∷ [])) (tuple_at m t) (pick (inside class_of (3 ∷ [])) (array_at t)
    (pick (inside class_of (15 ∷ [])) (ref_at t) (pick (inside class_of (16 ∷ [])) (raw_at t) (dyn_at m t)))))

unfoldable pub type_body : ℕ → Readers → Readers
type_body m t AnyType = choose (bare class_of formed_firsts type_words colons) (formed_at m t) (path_from_at m type_words path_words t)
type_body m t NotMut = choose (bare class_of formed_firsts type_words colons) (formed_at m t) (path_from_at m type_words path_words_but_mut t)
type_body m t BehindMut = made to_mut_path (keyed_steps_at m t)
type_body m t Qualified = qualified_at m t

-- types nested at most so deep, with m turns for each list
abbrev pub type_at : ℕ → ℕ → Readers
type_at m zero want = guard (inside class_of (firsts_of want)) deep
type_at m (suc d) want = guard (inside class_of (firsts_of want)) (type_body m (type_at m d) want)
