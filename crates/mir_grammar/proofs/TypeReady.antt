-- Types and paths are ready.
use Rattle.std.proofs.Common.{ℕ, true, false, List, [], ◌∷◌, codes, Some, None, refl}
use Rattle.grammar_words.specs.Grammar.{Part, Then, Made, Each}
use Rattle.grammar_words.specs.Reading.{Reader, joined, made, cons, first, second}
use Rattle.grammar_words.proofs.Ready.{Shape, Ready, tok-ready, made-ready, wider-ready}
use Rattle.grammar_words.proofs.ReadyJoin.{then-ready, either-ready}
use Rattle.grammar_words.proofs.ReadyMany.{many-ready}
use Rattle.grammar_words.proofs.ReadyWords.{past-ready, ended-ready, perhaps-ready, listed-ready}
use Rattle.grammar_words.proofs.ReadyLimit.{limit_shape}
use Rattle.grammar_words.proofs.Trailing.{trailed-ready}
use Rattle.mir_grammar.specs.Lexemes.{Lexeme, class_of, sign, word}
use Rattle.mir_grammar.specs.Names.{Named, TypeArgument, StepArguments, to_path, to_keyed_path, to_qualified, named_head, word_head, impl_head, word_step, impl_step, written_argument, to_plain, to_tuple, to_array, to_ref, to_raw, to_dyn}
use Rattle.mir_grammar.specs.Types.{Family, Readers, Want, AnyType, NotMut, BehindMut, Qualified, any_word, colons, type_names, type_words, path_words, path_words_but_mut, firsts_of, type_firsts, formed_firsts, without, ArgumentOf, Arguments, Segment, PathStep, KeyedSteps, QualifiedHead, FreeHead, FreePath, KeyedPath, PathFrom, PlainType, TupleType, ArrayEnd, ArrayType, unmarked, marked, RefTarget, RefType, RawType, Bound, DynType, FormedType, argument_at, arguments_at, segment_at, path_step_at, path_steps_at, keyed_steps_at, qualified_at, free_head_at, free_path_at, keyed_path_at, path_from_at, plain_at, tuple_at, array_end_at, array_at, ref_target_at, ref_at, raw_at, bound_at, dyn_at, formed_at}
use Rattle.mir_grammar.proofs.Samples.{lifetime, impl_segment, plain_number, plain_number_class, name}

-- no ::, < or + may stand behind a type
abbrev pub type_stops : List ℕ
type_stops = 12 ∷ 7 ∷ 18 ∷ []

abbrev pub stops_of : Want → List ℕ
stops_of AnyType = type_stops
stops_of NotMut = type_stops
stops_of BehindMut = type_stops
stops_of Qualified = []

abbrev pub far : Want → Shape
far want = limit_shape (stops_of want) (firsts_of want)

abbrev pub near : List ℕ → List ℕ → Shape
near stops firsts = record { stops = stops; firsts = firsts; empty = false; flat = false; near = true }

abbrev pub AllReady : ℕ → List Lexeme → Family → Family → (List Lexeme → Family) → Readers → Readers → Type 0
AllReady m x R W H p w = (k : Want) → Ready class_of m (far k) x (R k) (W k) (λ y. H y k) (p k) (w k)

pub argument_ready : {m : ℕ} {x : List Lexeme} {R W : Family} {H : List Lexeme → Family} {p w : Readers} → AllReady m x R W H p w
    → Ready class_of m (near type_stops (35 ∷ 42 ∷ type_firsts)) x (ArgumentOf R) (ArgumentOf W) (λ y. ArgumentOf (H y)) (argument_at p) (argument_at w)
unfolding class_of
argument_ready {m} {x} r = wider-ready _ (either-ready (35 ∷ 42 ∷ []) (made-ready written_argument (tok-ready class_of m (35 ∷ 42 ∷ []) lifetime refl x)) (made-ready TypeArgument (r AnyType)) refl) refl

pub arguments_ready : {m : ℕ} {x : List Lexeme} {R W : Family} {H : List Lexeme → Family} {p w : Readers} → AllReady m x R W H p w
    → Ready class_of m (near [] (7 ∷ [])) x (Arguments R) (Arguments W) (λ y. Arguments (H y)) (arguments_at m p) (arguments_at m w)
unfolding class_of
arguments_ready {m} {x} r = wider-ready _ (past-ready (7 ∷ []) (sign (codes "<")) refl (ended-ready (8 ∷ []) (sign (codes ">")) refl (listed-ready (35 ∷ 42 ∷ type_firsts) (9 ∷ []) (sign (codes ",")) refl (argument_ready r) refl) refl) refl) refl

pub segment_ready : {m : ℕ} {x : List Lexeme} {R W : Family} {H : List Lexeme → Family} {p w : Readers} → AllReady m x R W H p w
    → Ready class_of m (near [] (7 ∷ 43 ∷ any_word)) x (Segment R) (Segment W) (λ y. Segment (H y)) (segment_at m p) (segment_at m w)
unfolding class_of
segment_ready {m} {x} r = wider-ready _ (either-ready any_word (made-ready word_step (tok-ready class_of m any_word name refl x))
    (either-ready (43 ∷ []) (made-ready impl_step (tok-ready class_of m (43 ∷ []) impl_segment refl x)) (made-ready StepArguments (arguments_ready r)) refl) refl) refl

pub path_step_ready : {m : ℕ} {x : List Lexeme} {R W : Family} {H : List Lexeme → Family} {p w : Readers} → AllReady m x R W H p w
    → Ready class_of m (near [] (12 ∷ 7 ∷ [])) x (PathStep R) (PathStep W) (λ y. PathStep (H y)) (path_step_at m p) (path_step_at m w)
unfolding class_of
path_step_ready {m} {x} r = wider-ready _ (either-ready colons (past-ready colons (sign (codes "::")) refl (segment_ready r) refl) (made-ready StepArguments (arguments_ready r)) refl) refl

abbrev pub steps_shape : Shape
steps_shape = record { stops = 12 ∷ 7 ∷ []; firsts = 12 ∷ 7 ∷ []; empty = true; flat = false; near = true }

pub path_steps_ready : {m : ℕ} {x : List Lexeme} {R W : Family} {H : List Lexeme → Family} {p w : Readers} → AllReady m x R W H p w
    → Ready class_of m steps_shape x (Each (PathStep R)) (Each (PathStep W)) (λ y. Each (PathStep (H y))) (path_steps_at m p) (path_steps_at m w)
path_steps_ready r = wider-ready _ (many-ready (12 ∷ 7 ∷ []) (path_step_ready r) refl) refl

pub keyed_steps_ready : {m : ℕ} {x : List Lexeme} {R W : Family} {H : List Lexeme → Family} {p w : Readers} → AllReady m x R W H p w
    → Ready class_of m (near (12 ∷ 7 ∷ []) colons) x (KeyedSteps R) (KeyedSteps W) (λ y. KeyedSteps (H y)) (keyed_steps_at m p) (keyed_steps_at m w)
unfolding class_of
keyed_steps_ready {m} {x} r = wider-ready _ (made-ready cons (then-ready (past-ready colons (sign (codes "::")) refl (segment_ready r) refl) (path_steps_ready r) refl)) refl

pub word_path_head_ready : {m : ℕ} {x : List Lexeme} {R W : Family} {H : List Lexeme → Family} {p w : Readers} → AllReady m x R W H p w
    → Ready class_of m (near [] (43 ∷ 7 ∷ any_word)) x (FreeHead any_word R) (FreeHead any_word W) (λ y. FreeHead any_word (H y)) (free_head_at any_word p) (free_head_at any_word w)
unfolding class_of
word_path_head_ready {m} {x} r = wider-ready _ (either-ready any_word (made-ready word_head (tok-ready class_of m any_word name refl x))
    (either-ready (43 ∷ []) (made-ready impl_head (tok-ready class_of m (43 ∷ []) impl_segment refl x)) (made-ready named_head (r Qualified)) refl) refl) refl

pub word_path_ready : {m : ℕ} {x : List Lexeme} {R W : Family} {H : List Lexeme → Family} {p w : Readers} → AllReady m x R W H p w
    → Ready class_of m (near (12 ∷ 7 ∷ []) (43 ∷ 7 ∷ any_word)) x (FreePath any_word R) (FreePath any_word W) (λ y. FreePath any_word (H y)) (free_path_at m any_word p) (free_path_at m any_word w)
unfolding class_of
word_path_ready {m} {x} r = wider-ready _ (made-ready to_path (then-ready (word_path_head_ready r) (path_steps_ready r) refl)) refl

pub type_path_head_ready : {m : ℕ} {x : List Lexeme} {R W : Family} {H : List Lexeme → Family} {p w : Readers} → AllReady m x R W H p w
    → Ready class_of m (near [] (43 ∷ 7 ∷ path_words)) x (FreeHead path_words R) (FreeHead path_words W) (λ y. FreeHead path_words (H y)) (free_head_at path_words p) (free_head_at path_words w)
unfolding class_of
type_path_head_ready {m} {x} r = wider-ready _ (either-ready path_words (made-ready word_head (tok-ready class_of m path_words name refl x))
    (either-ready (43 ∷ []) (made-ready impl_head (tok-ready class_of m (43 ∷ []) impl_segment refl x)) (made-ready named_head (r Qualified)) refl) refl) refl

pub type_path_ready : {m : ℕ} {x : List Lexeme} {R W : Family} {H : List Lexeme → Family} {p w : Readers} → AllReady m x R W H p w
    → Ready class_of m (near (12 ∷ 7 ∷ []) (43 ∷ 7 ∷ path_words)) x (FreePath path_words R) (FreePath path_words W) (λ y. FreePath path_words (H y)) (free_path_at m path_words p) (free_path_at m path_words w)
unfolding class_of
type_path_ready {m} {x} r = wider-ready _ (made-ready to_path (then-ready (type_path_head_ready r) (path_steps_ready r) refl)) refl

pub path_but_mut_head_ready : {m : ℕ} {x : List Lexeme} {R W : Family} {H : List Lexeme → Family} {p w : Readers} → AllReady m x R W H p w
    → Ready class_of m (near [] (43 ∷ 7 ∷ path_words_but_mut)) x (FreeHead path_words_but_mut R) (FreeHead path_words_but_mut W) (λ y. FreeHead path_words_but_mut (H y)) (free_head_at path_words_but_mut p) (free_head_at path_words_but_mut w)
unfolding class_of
path_but_mut_head_ready {m} {x} r = wider-ready _ (either-ready path_words_but_mut (made-ready word_head (tok-ready class_of m path_words_but_mut name refl x))
    (either-ready (43 ∷ []) (made-ready impl_head (tok-ready class_of m (43 ∷ []) impl_segment refl x)) (made-ready named_head (r Qualified)) refl) refl) refl

pub path_but_mut_ready : {m : ℕ} {x : List Lexeme} {R W : Family} {H : List Lexeme → Family} {p w : Readers} → AllReady m x R W H p w
    → Ready class_of m (near (12 ∷ 7 ∷ []) (43 ∷ 7 ∷ path_words_but_mut)) x (FreePath path_words_but_mut R) (FreePath path_words_but_mut W) (λ y. FreePath path_words_but_mut (H y)) (free_path_at m path_words_but_mut p) (free_path_at m path_words_but_mut w)
unfolding class_of
path_but_mut_ready {m} {x} r = wider-ready _ (made-ready to_path (then-ready (path_but_mut_head_ready r) (path_steps_ready r) refl)) refl

pub qualified_ready : {m : ℕ} {x : List Lexeme} {R W : Family} {H : List Lexeme → Family} {p w : Readers} → AllReady m x R W H p w
    → Ready class_of m (limit_shape [] (7 ∷ [])) x (QualifiedHead R) (QualifiedHead W) (λ y. QualifiedHead (H y)) (qualified_at m p) (qualified_at m w)
unfolding class_of
qualified_ready {m} {x} r = wider-ready _ (made-ready to_qualified (then-ready (tok-ready class_of m (7 ∷ []) (sign (codes "<")) refl x)
    (then-ready (r AnyType) (past-ready (118 ∷ []) (word (codes "as")) refl (ended-ready (8 ∷ []) (sign (codes ">")) refl (word_path_ready r) refl) refl) refl) refl)) refl

pub keyed_path_ready : {m : ℕ} {x : List Lexeme} {R W : Family} {H : List Lexeme → Family} {p w : Readers} → AllReady m x R W H p w
    → Ready class_of m (near (12 ∷ 7 ∷ []) type_words) x (KeyedPath type_words R) (KeyedPath type_words W) (λ y. KeyedPath type_words (H y)) (keyed_path_at m type_words p) (keyed_path_at m type_words w)
unfolding class_of
keyed_path_ready {m} {x} r = wider-ready _ (made-ready to_keyed_path (then-ready (tok-ready class_of m type_words (word (codes "str")) refl x) (keyed_steps_ready r) refl)) refl

pub type_path_from_ready : {m : ℕ} {x : List Lexeme} {R W : Family} {H : List Lexeme → Family} {p w : Readers} → AllReady m x R W H p w
    → Ready class_of m (near (12 ∷ 7 ∷ []) (43 ∷ 7 ∷ any_word)) x (PathFrom type_words path_words R) (PathFrom type_words path_words W) (λ y. PathFrom type_words path_words (H y)) (path_from_at m type_words path_words p) (path_from_at m type_words path_words w)
unfolding class_of
type_path_from_ready {m} {x} r = wider-ready _ (either-ready type_words (keyed_path_ready r) (type_path_ready r) refl) refl

pub path_from_but_mut_ready : {m : ℕ} {x : List Lexeme} {R W : Family} {H : List Lexeme → Family} {p w : Readers} → AllReady m x R W H p w
    → Ready class_of m (near (12 ∷ 7 ∷ []) (43 ∷ 7 ∷ without (117 ∷ []) any_word)) x (PathFrom type_words path_words_but_mut R) (PathFrom type_words path_words_but_mut W) (λ y. PathFrom type_words path_words_but_mut (H y)) (path_from_at m type_words path_words_but_mut p) (path_from_at m type_words path_words_but_mut w)
unfolding class_of
path_from_but_mut_ready {m} {x} r = wider-ready _ (either-ready type_words (keyed_path_ready r) (path_but_mut_ready r) refl) refl

pub plain_ready : (m : ℕ) (x : List Lexeme) → Ready class_of m (record { stops = []; firsts = 17 ∷ type_names; empty = false; flat = true; near = true }) x PlainType PlainType (λ y. PlainType) plain_at plain_at
unfolding class_of
plain_ready m x = made-ready to_plain (tok-ready class_of m (17 ∷ type_names) (sign (codes "!")) refl x)

pub tuple_ready : {m : ℕ} {x : List Lexeme} {R W : Family} {H : List Lexeme → Family} {p w : Readers} → AllReady m x R W H p w
    → Ready class_of m (near [] (1 ∷ [])) x (TupleType R) (TupleType W) (λ y. TupleType (H y)) (tuple_at m p) (tuple_at m w)
unfolding class_of
tuple_ready {m} {x} r = wider-ready _ (made-ready to_tuple (past-ready (1 ∷ []) (sign (codes "(")) refl (ended-ready (2 ∷ []) (sign (codes ")")) refl (trailed-ready type_firsts (9 ∷ []) (sign (codes ",")) refl (r AnyType) refl) refl) refl)) refl

pub array_end_ready : (m : ℕ) (x : List Lexeme) → Ready class_of m (record { stops = []; firsts = 4 ∷ 10 ∷ []; empty = false; flat = true; near = true }) x ArrayEnd ArrayEnd (λ y. ArrayEnd) array_end_at array_end_at
unfolding class_of
array_end_ready m x = wider-ready _ (either-ready (4 ∷ []) (made-ready (λ t. None) (tok-ready class_of m (4 ∷ []) (sign (codes "]")) refl x))
    (past-ready (10 ∷ []) (sign (codes ";")) refl (ended-ready (4 ∷ []) (sign (codes "]")) refl (made-ready Some (tok-ready class_of m (35 ∷ []) plain_number (rw plain_number_class refl) x)) refl) refl) refl) refl

pub array_ready : {m : ℕ} {x : List Lexeme} {R W : Family} {H : List Lexeme → Family} {p w : Readers} → AllReady m x R W H p w
    → Ready class_of m (limit_shape [] (3 ∷ [])) x (ArrayType R) (ArrayType W) (λ y. ArrayType (H y)) (array_at p) (array_at w)
unfolding class_of
array_ready {m} {x} r = wider-ready _ (made-ready to_array (past-ready (3 ∷ []) (sign (codes "[")) refl (then-ready (r AnyType) (array_end_ready m x) refl) refl)) refl

pub ref_target_ready : {m : ℕ} {x : List Lexeme} {R W : Family} {H : List Lexeme → Family} {p w : Readers} → AllReady m x R W H p w
    → Ready class_of m (limit_shape type_stops (firsts_of AnyType)) x (RefTarget R) (RefTarget W) (λ y. RefTarget (H y)) (ref_target_at p) (ref_target_at w)
unfolding class_of
ref_target_ready {m} {x} r = wider-ready _ (either-ready (117 ∷ []) (past-ready (117 ∷ []) (word (codes "mut")) refl (either-ready colons (made-ready unmarked (r BehindMut)) (made-ready marked (r AnyType)) refl) refl) (made-ready unmarked (r NotMut)) refl) refl

pub ref_ready : {m : ℕ} {x : List Lexeme} {R W : Family} {H : List Lexeme → Family} {p w : Readers} → AllReady m x R W H p w
    → Ready class_of m (limit_shape type_stops (15 ∷ [])) x (RefType R) (RefType W) (λ y. RefType (H y)) (ref_at p) (ref_at w)
unfolding class_of
ref_ready {m} {x} r = wider-ready _ (made-ready to_ref (past-ready (15 ∷ []) (sign (codes "&")) refl
    (made-ready second (then-ready (perhaps-ready (42 ∷ []) false (made-ready (λ t. true) (tok-ready class_of m (42 ∷ []) lifetime refl x)) refl) (ref_target_ready r) refl)) refl)) refl

pub raw_ready : {m : ℕ} {x : List Lexeme} {R W : Family} {H : List Lexeme → Family} {p w : Readers} → AllReady m x R W H p w
    → Ready class_of m (limit_shape type_stops (16 ∷ [])) x (RawType R) (RawType W) (λ y. RawType (H y)) (raw_at p) (raw_at w)
unfolding class_of
raw_ready {m} {x} r = wider-ready _ (made-ready to_raw (past-ready (16 ∷ []) (sign (codes "*")) refl
    (either-ready (117 ∷ []) (past-ready (117 ∷ []) (word (codes "mut")) refl (made-ready marked (r AnyType)) refl) (past-ready (116 ∷ []) (word (codes "const")) refl (made-ready unmarked (r AnyType)) refl) refl) refl)) refl

pub bound_ready : (m : ℕ) (x : List Lexeme) → Ready class_of m (record { stops = 18 ∷ []; firsts = 18 ∷ []; empty = true; flat = true; near = true }) x Bound Bound (λ y. Bound) bound_at bound_at
unfolding class_of
bound_ready m x = wider-ready _ (perhaps-ready (18 ∷ []) false (made-ready (λ t. true) (past-ready (18 ∷ []) (sign (codes "+")) refl (tok-ready class_of m (42 ∷ []) lifetime refl x) refl)) refl) refl

abbrev pub DynBody : Family → Part Lexeme Named
DynBody T = Made first (Then (FreePath any_word T) Bound)

abbrev pub dyn_body_at : ℕ → Readers → Reader Lexeme Named
dyn_body_at m t = made first (joined (free_path_at m any_word t) bound_at)

pub dyn_body_ready : {m : ℕ} {x : List Lexeme} {R W : Family} {H : List Lexeme → Family} {p w : Readers} → AllReady m x R W H p w
    → Ready class_of m (near type_stops (43 ∷ 7 ∷ any_word)) x (DynBody R) (DynBody W) (λ y. DynBody (H y)) (dyn_body_at m p) (dyn_body_at m w)
unfolding class_of
dyn_body_ready {m} {x} r = wider-ready _ (made-ready first (then-ready (word_path_ready r) (bound_ready m x) refl)) refl

pub dyn_ready : {m : ℕ} {x : List Lexeme} {R W : Family} {H : List Lexeme → Family} {p w : Readers} → AllReady m x R W H p w
    → Ready class_of m (near type_stops (115 ∷ [])) x (DynType R) (DynType W) (λ y. DynType (H y)) (dyn_at m p) (dyn_at m w)
unfolding class_of
dyn_ready {m} {x} r = wider-ready _ (made-ready to_dyn (past-ready (115 ∷ []) (word (codes "dyn")) refl (dyn_body_ready r) refl)) refl

pub formed_ready : {m : ℕ} {x : List Lexeme} {R W : Family} {H : List Lexeme → Family} {p w : Readers} → AllReady m x R W H p w
    → Ready class_of m (near type_stops formed_firsts) x (FormedType R) (FormedType W) (λ y. FormedType (H y)) (formed_at m p) (formed_at m w)
unfolding class_of
formed_ready {m} {x} r = wider-ready _ (either-ready (17 ∷ type_names) (plain_ready m x) (either-ready (1 ∷ []) (tuple_ready r) (either-ready (3 ∷ []) (array_ready r)
    (either-ready (15 ∷ []) (ref_ready r) (either-ready (16 ∷ []) (raw_ready r) (dyn_ready r) refl) refl) refl) refl) refl) refl
