-- Operands and rvalues are ready.
use Rattle.std.proofs.Common.{◌≡◌, ℕ, Bool, true, false, List, [], ◌∷◌, codes, Some, None, refl}
use Rattle.grammar_words.specs.Grammar.{Part, Made}
use Rattle.grammar_words.specs.Reading.{Reader, second}
use Rattle.grammar_words.specs.Classes.{has, outside, Tok, tok}
use Rattle.grammar_words.proofs.Laws.{any}
use Rattle.grammar_words.proofs.Ready.{Ready, tok-ready, made-ready, wider-ready}
use Rattle.grammar_words.proofs.ReadyJoin.{then-ready, either-ready, left_short}
use Rattle.grammar_words.proofs.ReadyMany.{many-ready}
use Rattle.grammar_words.proofs.ReadyWords.{past-ready, ended-ready, perhaps-ready, listed-ready}
use Rattle.grammar_words.proofs.ReadyLimit.{limit_shape}
use Rattle.grammar_words.proofs.Trailing.{trailed-ready}
use Rattle.grammar_words.proofs.Sets.{apart}
use Rattle.grammar_words.proofs.Fork.{Moves, Seen, moves-tok, moves-made, moves-joined, moves-left, moves-right, fork-ready}
use Rattle.grammar_words.proofs.Seen.{seen-apart, seen-token, seen-behind, seen-before, seen-made, seen-either}
use Rattle.mir_lex.specs.declared.token.TokenKind.TheVariants as kind
use Rattle.mir_ir.specs.Names as names
use Rattle.mir_grammar.specs.Lexemes.{Lexeme, class_of, sign, word, number, number_value, number_type}
use Rattle.mir_grammar.specs.Names.{to_path, to_keyed_path, word_head, impl_head, named_head}
use Rattle.mir_grammar.specs.Types.{Family, Readers, AnyType, Qualified, any_word, colons, run, FreePath, KeyedPath, PathFrom, free_head_at, FreeHead, free_path_at, keyed_path_at, keyed_steps_at, path_from_at}
use Rattle.mir_grammar.specs.Places.{Placed, place_firsts}
use Rattle.mir_grammar.specs.Values.{to_plus, to_minus, to_bool, to_char, to_text, to_unit, to_named, truths, constant_words, FormedConstant, ConstantOf, to_copy, to_move, to_const, Marked, OperandOf, marks, operand_firsts, Operands, to_plain_kind, to_coercion, Coercion, Kind, CastTo, to_used, Used, to_binary, binaries, Binary, to_unary, Unary, to_measured, Measured, to_sized, Sized, to_ref_of, to_raw_of, mutable, immutable, Reference, Others, to_times, to_array_of, to_no_array, ArrayRest, ArrayOf, to_tuple_of, TupleOf, Operator, value_words, free_words, to_field, Field, Fields, formed_constant_at, constant_firsts, constant_at, marked_at, operand_at, operands_at, coercion_at, kind_at, cast_to_at, used_at, binary_at, unaries, measures, sizes, unary_at, measured_at, sized_at, reference_at, array_rest_at, array_of_at, tuple_of_at, operator_at, tuple_seconds, field_at, fields_at}
use Rattle.mir_grammar.proofs.Samples.{impl_segment, name}
use Rattle.mir_grammar.proofs.TypeReady.{near, AllReady, keyed_steps_ready, path_steps_ready}
use Rattle.mir_grammar.proofs.PlaceReady.{flat, number-ready}

-- a place of a level that is not the last, its first token taken, and told from a tuple by two tokens
pub record PlaceKit (m : ℕ) (x : List Lexeme) (R W : Part Lexeme Placed) (H : List Lexeme → Part Lexeme Placed) (p w : Reader Lexeme Placed) : Type 0 where
  pub ready : Ready class_of m (near (3 ∷ []) place_firsts) x R W H p w
  pub moves : Moves class_of (1 ∷ []) p
  pub seen : (y : List Lexeme) → Seen class_of operand_firsts (1 ∷ []) tuple_seconds any true (H y)

abbrev pub character : Lexeme
character = record { kind = kind.Character; text = codes "'a'"; start = 0 }

abbrev pub text : Lexeme
text = record { kind = kind.Text; text = codes "a"; start = 0 }

abbrev pub small : Lexeme
small = number (codes "1_i8")

pub small_class : class_of small ≡ 36
unfolding class_of number_value number_type names.is_int_named names.name_of_int
small_class = refl

pub constant_head_ready : {m : ℕ} {x : List Lexeme} {T U : Family} {S : List Lexeme → Family} {t u : Readers} → AllReady m x T U S t u
    → Ready class_of m (near [] (43 ∷ 7 ∷ constant_words)) x (FreeHead constant_words T) (FreeHead constant_words U) (λ y. FreeHead constant_words (S y)) (free_head_at constant_words t) (free_head_at constant_words u)
unfolding class_of
constant_head_ready {m} {x} i = wider-ready _ (either-ready constant_words (made-ready word_head (tok-ready class_of m constant_words name refl x))
    (either-ready (43 ∷ []) (made-ready impl_head (tok-ready class_of m (43 ∷ []) impl_segment refl x)) (made-ready named_head (i Qualified)) refl) refl) refl

pub constant_free_ready : {m : ℕ} {x : List Lexeme} {T U : Family} {S : List Lexeme → Family} {t u : Readers} → AllReady m x T U S t u
    → Ready class_of m (near (12 ∷ 7 ∷ []) (43 ∷ 7 ∷ constant_words)) x (FreePath constant_words T) (FreePath constant_words U) (λ y. FreePath constant_words (S y)) (free_path_at m constant_words t) (free_path_at m constant_words u)
unfolding class_of
constant_free_ready {m} {x} i = wider-ready _ (made-ready to_path (then-ready (constant_head_ready i) (path_steps_ready i) refl)) refl

pub constant_keyed_ready : {m : ℕ} {x : List Lexeme} {T U : Family} {S : List Lexeme → Family} {t u : Readers} → AllReady m x T U S t u
    → Ready class_of m (near (12 ∷ 7 ∷ []) truths) x (KeyedPath truths T) (KeyedPath truths U) (λ y. KeyedPath truths (S y)) (keyed_path_at m truths t) (keyed_path_at m truths u)
unfolding class_of
constant_keyed_ready {m} {x} i = wider-ready _ (made-ready to_keyed_path (then-ready (tok-ready class_of m truths (word (codes "true")) refl x) (keyed_steps_ready i) refl)) refl

pub constant_path_ready : {m : ℕ} {x : List Lexeme} {T U : Family} {S : List Lexeme → Family} {t u : Readers} → AllReady m x T U S t u
    → Ready class_of m (near (12 ∷ 7 ∷ []) (43 ∷ 7 ∷ any_word)) x (PathFrom truths constant_words T) (PathFrom truths constant_words U) (λ y. PathFrom truths constant_words (S y)) (path_from_at m truths constant_words t) (path_from_at m truths constant_words u)
unfolding class_of
constant_path_ready {m} {x} i = wider-ready _ (either-ready truths (constant_keyed_ready i) (constant_free_ready i) refl) refl

pub constant_path_moves : {m : ℕ} {x : List Lexeme} {T U : Family} {S : List Lexeme → Family} {t u : Readers} → AllReady m x T U S t u → Moves class_of truths (path_from_at m truths constant_words t)
constant_path_moves {m} {x} {T} {U} {S} {t} {u} i =
    moves-left class_of truths truths (keyed_path_at m truths t) (free_path_at m constant_words t) refl
    (moves-made class_of truths to_keyed_path _ (moves-joined class_of truths (tok class_of truths) (keyed_steps_at m t) (moves-tok class_of truths truths refl) (left_short (keyed_steps_ready i).laws)))

pub constant_path_seen : {m : ℕ} {x : List Lexeme} {T U : Family} {S : List Lexeme → Family} {t u : Readers} → AllReady m x T U S t u → (b : List ℕ) → (z : Lexeme → Bool) → apart (43 ∷ 7 ∷ constant_words) b ≡ true → (y : List Lexeme) → Seen class_of b truths colons z false (PathFrom truths constant_words (S y))
constant_path_seen {m} {x} i b z e y =
    seen-either (seen-made to_keyed_path (seen-before (near (12 ∷ 7 ∷ []) colons) b truths colons truths ((keyed_steps_ready i).opens_holed y) refl))
    (seen-apart (near (12 ∷ 7 ∷ []) (43 ∷ 7 ∷ constant_words)) b truths colons ((constant_free_ready i).opens_holed y) e)

pub value_head_ready : {m : ℕ} {x : List Lexeme} {T U : Family} {S : List Lexeme → Family} {t u : Readers} → AllReady m x T U S t u
    → Ready class_of m (near [] (43 ∷ 7 ∷ free_words)) x (FreeHead free_words T) (FreeHead free_words U) (λ y. FreeHead free_words (S y)) (free_head_at free_words t) (free_head_at free_words u)
unfolding class_of
value_head_ready {m} {x} i = wider-ready _ (either-ready free_words (made-ready word_head (tok-ready class_of m free_words name refl x))
    (either-ready (43 ∷ []) (made-ready impl_head (tok-ready class_of m (43 ∷ []) impl_segment refl x)) (made-ready named_head (i Qualified)) refl) refl) refl

pub value_free_ready : {m : ℕ} {x : List Lexeme} {T U : Family} {S : List Lexeme → Family} {t u : Readers} → AllReady m x T U S t u
    → Ready class_of m (near (12 ∷ 7 ∷ []) (43 ∷ 7 ∷ free_words)) x (FreePath free_words T) (FreePath free_words U) (λ y. FreePath free_words (S y)) (free_path_at m free_words t) (free_path_at m free_words u)
unfolding class_of
value_free_ready {m} {x} i = wider-ready _ (made-ready to_path (then-ready (value_head_ready i) (path_steps_ready i) refl)) refl

pub value_keyed_ready : {m : ℕ} {x : List Lexeme} {T U : Family} {S : List Lexeme → Family} {t u : Readers} → AllReady m x T U S t u
    → Ready class_of m (near (12 ∷ 7 ∷ []) value_words) x (KeyedPath value_words T) (KeyedPath value_words U) (λ y. KeyedPath value_words (S y)) (keyed_path_at m value_words t) (keyed_path_at m value_words u)
unfolding class_of
value_keyed_ready {m} {x} i = wider-ready _ (made-ready to_keyed_path (then-ready (tok-ready class_of m value_words (word (codes "Add")) refl x) (keyed_steps_ready i) refl)) refl

pub value_path_ready : {m : ℕ} {x : List Lexeme} {T U : Family} {S : List Lexeme → Family} {t u : Readers} → AllReady m x T U S t u
    → Ready class_of m (near (12 ∷ 7 ∷ []) (43 ∷ 7 ∷ any_word)) x (PathFrom value_words free_words T) (PathFrom value_words free_words U) (λ y. PathFrom value_words free_words (S y)) (path_from_at m value_words free_words t) (path_from_at m value_words free_words u)
unfolding class_of
value_path_ready {m} {x} i = wider-ready _ (either-ready value_words (value_keyed_ready i) (value_free_ready i) refl) refl

pub value_path_moves : {m : ℕ} {x : List Lexeme} {T U : Family} {S : List Lexeme → Family} {t u : Readers} → AllReady m x T U S t u → Moves class_of value_words (path_from_at m value_words free_words t)
value_path_moves {m} {x} {T} {U} {S} {t} {u} i =
    moves-left class_of value_words value_words (keyed_path_at m value_words t) (free_path_at m free_words t) refl
    (moves-made class_of value_words to_keyed_path _ (moves-joined class_of value_words (tok class_of value_words) (keyed_steps_at m t) (moves-tok class_of value_words value_words refl) (left_short (keyed_steps_ready i).laws)))

pub value_path_seen : {m : ℕ} {x : List Lexeme} {T U : Family} {S : List Lexeme → Family} {t u : Readers} → AllReady m x T U S t u → (b : List ℕ) → (z : Lexeme → Bool) → apart (43 ∷ 7 ∷ free_words) b ≡ true → (y : List Lexeme) → Seen class_of b value_words colons z false (PathFrom value_words free_words (S y))
value_path_seen {m} {x} i b z e y =
    seen-either (seen-made to_keyed_path (seen-before (near (12 ∷ 7 ∷ []) colons) b value_words colons value_words ((keyed_steps_ready i).opens_holed y) refl))
    (seen-apart (near (12 ∷ 7 ∷ []) (43 ∷ 7 ∷ free_words)) b value_words colons ((value_free_ready i).opens_holed y) e)

pub formed_constant_ready : (m : ℕ) (x : List Lexeme) → Ready class_of m (flat constant_firsts) x FormedConstant FormedConstant (λ y. FormedConstant) formed_constant_at formed_constant_at
unfolding class_of
formed_constant_ready m x = wider-ready _ (either-ready (36 ∷ 37 ∷ []) (made-ready to_plus (tok-ready class_of m (36 ∷ 37 ∷ []) small (rw small_class refl) x))
    (either-ready (19 ∷ []) (made-ready to_minus (past-ready (19 ∷ []) (sign (codes "-")) refl (tok-ready class_of m (36 ∷ 38 ∷ []) small (rw small_class refl) x) refl))
    (either-ready truths (made-ready to_bool (tok-ready class_of m truths (word (codes "true")) refl x))
    (either-ready (41 ∷ []) (made-ready to_char (tok-ready class_of m (41 ∷ []) character refl x))
    (either-ready (40 ∷ []) (made-ready to_text (tok-ready class_of m (40 ∷ []) text refl x)) (made-ready to_unit (past-ready (1 ∷ []) (sign (codes "(")) refl (tok-ready class_of m (2 ∷ []) (sign (codes ")")) refl x) refl)) refl) refl) refl) refl) refl) refl

formed_constant_moves : Moves class_of truths formed_constant_at
formed_constant_moves = moves-right class_of truths (36 ∷ 37 ∷ []) _ _ refl (moves-right class_of truths (19 ∷ []) _ _ refl (moves-left class_of truths truths _ _ refl (moves-made class_of truths to_bool _ (moves-tok class_of truths truths refl))))

formed_constant_seen : (m : ℕ) → Seen class_of constant_firsts truths colons (outside class_of (12 ∷ 7 ∷ [])) true FormedConstant
unfolding class_of
formed_constant_seen m =
    let one : (a : Lexeme) → has (36 ∷ 37 ∷ []) (class_of a) ≡ true → Seen class_of constant_firsts truths colons (outside class_of (12 ∷ 7 ∷ [])) true (Made to_plus (Tok class_of (36 ∷ 37 ∷ [])))
    = λ a h. seen-made to_plus (seen-token (12 ∷ 7 ∷ []) constant_firsts truths colons (36 ∷ 37 ∷ []) refl) in
    seen-either (one small (rw small_class refl))
    (seen-either (seen-made to_minus (seen-made second (seen-behind (flat (36 ∷ 38 ∷ [])) (12 ∷ 7 ∷ []) constant_firsts truths colons (19 ∷ []) (tok-ready class_of m (36 ∷ 38 ∷ []) small (rw small_class refl) []).opens refl)))
    (seen-either (seen-made to_bool (seen-token (12 ∷ 7 ∷ []) constant_firsts truths colons truths refl))
    (seen-either (seen-made to_char (seen-token (12 ∷ 7 ∷ []) constant_firsts truths colons (41 ∷ []) refl))
    (seen-either (seen-made to_text (seen-token (12 ∷ 7 ∷ []) constant_firsts truths colons (40 ∷ []) refl))
    (seen-made to_unit (seen-made second (seen-behind (flat (2 ∷ [])) (12 ∷ 7 ∷ []) constant_firsts truths colons (1 ∷ []) (tok-ready class_of m (2 ∷ []) (sign (codes ")")) refl []).opens refl)))))))

pub constant_ready : {m : ℕ} {x : List Lexeme} {T U : Family} {S : List Lexeme → Family} {t u : Readers} → AllReady m x T U S t u
    → Ready class_of m (near (12 ∷ 7 ∷ []) (43 ∷ 7 ∷ 36 ∷ 37 ∷ 19 ∷ 41 ∷ 40 ∷ 1 ∷ any_word)) x (ConstantOf T) (ConstantOf U) (λ y. ConstantOf (S y)) (constant_at m t) (constant_at m u)
unfolding constant_at
constant_ready {m} {x} i = wider-ready _ (fork-ready constant_firsts truths colons (formed_constant_ready m x) (made-ready to_named (constant_path_ready i)) refl formed_constant_moves
    (moves-made class_of truths to_named _ (constant_path_moves i)) (λ y. formed_constant_seen m) (λ y. seen-made to_named (constant_path_seen i constant_firsts _ refl y))) refl

pub marked_ready : {m : ℕ} {x : List Lexeme} {T U : Family} {S : List Lexeme → Family} {t u : Readers} {R W : Part Lexeme Placed} {H : List Lexeme → Part Lexeme Placed} {p w : Reader Lexeme Placed} → AllReady m x T U S t u → PlaceKit m x R W H p w
    → Ready class_of m (near (3 ∷ 12 ∷ 7 ∷ []) marks) x (Marked T R) (Marked U W) (λ y. Marked (S y) (H y)) (marked_at m t p) (marked_at m u w)
unfolding class_of
marked_ready {m} {x} i r = wider-ready _ (either-ready (120 ∷ []) (made-ready to_copy (past-ready (120 ∷ []) (word (codes "copy")) refl r.ready refl))
    (either-ready (121 ∷ []) (made-ready to_move (past-ready (121 ∷ []) (word (codes "move")) refl r.ready refl)) (made-ready to_const (past-ready (116 ∷ []) (word (codes "const")) refl (constant_ready i) refl)) refl) refl) refl

pub operand_ready : {m : ℕ} {x : List Lexeme} {T U : Family} {S : List Lexeme → Family} {t u : Readers} {R W : Part Lexeme Placed} {H : List Lexeme → Part Lexeme Placed} {p w : Reader Lexeme Placed} → AllReady m x T U S t u → PlaceKit m x R W H p w
    → Ready class_of m (near (3 ∷ 12 ∷ 7 ∷ []) operand_firsts) x (OperandOf T R) (OperandOf U W) (λ y. OperandOf (S y) (H y)) (operand_at m t p) (operand_at m u w)
unfolding operand_at
operand_ready {m} {x} i r = wider-ready _ (either-ready place_firsts (made-ready to_copy r.ready) (marked_ready i r) refl) refl

pub operands_ready : {m : ℕ} {x : List Lexeme} {T U : Family} {S : List Lexeme → Family} {t u : Readers} {R W : Part Lexeme Placed} {H : List Lexeme → Part Lexeme Placed} {p w : Reader Lexeme Placed} → AllReady m x T U S t u → PlaceKit m x R W H p w
    → Ready class_of m (near [] (1 ∷ [])) x (Operands T R) (Operands U W) (λ y. Operands (S y) (H y)) (operands_at m t p) (operands_at m u w)
unfolding class_of
operands_ready {m} {x} i r = wider-ready _ (past-ready (1 ∷ []) (sign (codes "(")) refl (ended-ready (2 ∷ []) (sign (codes ")")) refl (listed-ready operand_firsts (9 ∷ []) (sign (codes ",")) refl (operand_ready i r) refl) refl) refl) refl

pub coercion_ready : (m : ℕ) (x : List Lexeme) → Ready class_of m (record { stops = 9 ∷ []; firsts = 155 ∷ 156 ∷ []; empty = false; flat = true; near = true }) x Coercion Coercion (λ y. Coercion) coercion_at coercion_at
unfolding class_of
coercion_ready m x = wider-ready _ (made-ready to_coercion (then-ready (tok-ready class_of m (155 ∷ 156 ∷ []) (word (codes "Unsize")) refl x)
    (perhaps-ready (9 ∷ []) false (made-ready (λ t. true) (past-ready (9 ∷ []) (sign (codes ",")) refl (tok-ready class_of m any_word name refl x) refl)) refl) refl)) refl

pub kind_ready : (m : ℕ) (x : List Lexeme) → Ready class_of m (flat (152 ∷ 153 ∷ 154 ∷ [])) x Kind Kind (λ y. Kind) kind_at kind_at
unfolding class_of
kind_ready m x = wider-ready _ (either-ready (152 ∷ 153 ∷ []) (made-ready to_plain_kind (tok-ready class_of m (152 ∷ 153 ∷ []) (word (codes "IntToInt")) refl x))
    (past-ready (154 ∷ []) (word (codes "PointerCoercion")) refl (past-ready (1 ∷ []) (sign (codes "(")) refl (ended-ready (2 ∷ []) (sign (codes ")")) refl (coercion_ready m x) refl) refl) refl) refl) refl

pub cast_ready : {m : ℕ} {x : List Lexeme} {T U : Family} {S : List Lexeme → Family} {t u : Readers} → AllReady m x T U S t u
    → Ready class_of m (limit_shape [] (118 ∷ [])) x (CastTo T) (CastTo U) (λ y. CastTo (S y)) (cast_to_at t) (cast_to_at u)
unfolding class_of
cast_ready {m} {x} i = wider-ready _ (made-ready Some (past-ready (118 ∷ []) (word (codes "as")) refl (then-ready (i AnyType) (past-ready (1 ∷ []) (sign (codes "(")) refl (ended-ready (2 ∷ []) (sign (codes ")")) refl (kind_ready m x) refl) refl) refl) refl)) refl

pub used_ready : {m : ℕ} {x : List Lexeme} {T U : Family} {S : List Lexeme → Family} {t u : Readers} {R W : Part Lexeme Placed} {H : List Lexeme → Part Lexeme Placed} {p w : Reader Lexeme Placed} → AllReady m x T U S t u → PlaceKit m x R W H p w
    → Ready class_of m (near (118 ∷ 3 ∷ 12 ∷ 7 ∷ []) operand_firsts) x (Used T R) (Used U W) (λ y. Used (S y) (H y)) (used_at m t p) (used_at m u w)
unfolding class_of
used_ready {m} {x} i r = wider-ready _ (made-ready to_used (then-ready (operand_ready i r) (perhaps-ready (118 ∷ []) None (cast_ready i) refl) refl)) refl

pub binary_ready : {m : ℕ} {x : List Lexeme} {T U : Family} {S : List Lexeme → Family} {t u : Readers} {R W : Part Lexeme Placed} {H : List Lexeme → Part Lexeme Placed} {p w : Reader Lexeme Placed} → AllReady m x T U S t u → PlaceKit m x R W H p w
    → Ready class_of m (near [] binaries) x (Binary T R) (Binary U W) (λ y. Binary (S y) (H y)) (binary_at m t p) (binary_at m u w)
unfolding class_of
binary_ready {m} {x} i r = wider-ready _ (made-ready to_binary (then-ready (tok-ready class_of m binaries (word (codes "Add")) refl x) (past-ready (1 ∷ []) (sign (codes "(")) refl
    (then-ready (operand_ready i r) (past-ready (9 ∷ []) (sign (codes ",")) refl (ended-ready (2 ∷ []) (sign (codes ")")) refl (operand_ready i r) refl) refl) refl) refl) refl)) refl

pub unary_ready : {m : ℕ} {x : List Lexeme} {T U : Family} {S : List Lexeme → Family} {t u : Readers} {R W : Part Lexeme Placed} {H : List Lexeme → Part Lexeme Placed} {p w : Reader Lexeme Placed} → AllReady m x T U S t u → PlaceKit m x R W H p w
    → Ready class_of m (near [] unaries) x (Unary T R) (Unary U W) (λ y. Unary (S y) (H y)) (unary_at m t p) (unary_at m u w)
unfolding class_of
unary_ready {m} {x} i r = wider-ready _ (made-ready to_unary (then-ready (tok-ready class_of m unaries (word (codes "Not")) refl x) (past-ready (1 ∷ []) (sign (codes "(")) refl (ended-ready (2 ∷ []) (sign (codes ")")) refl (operand_ready i r) refl) refl) refl)) refl

pub measured_ready : {m : ℕ} {x : List Lexeme} {T U : Family} {S : List Lexeme → Family} {t u : Readers} {R W : Part Lexeme Placed} {H : List Lexeme → Part Lexeme Placed} {p w : Reader Lexeme Placed} → AllReady m x T U S t u → PlaceKit m x R W H p w
    → Ready class_of m (near [] measures) x (Measured R) (Measured W) (λ y. Measured (H y)) (measured_at p) (measured_at w)
unfolding class_of
measured_ready {m} {x} i r = wider-ready _ (made-ready to_measured (then-ready (tok-ready class_of m measures (word (codes "Len")) refl x) (past-ready (1 ∷ []) (sign (codes "(")) refl (ended-ready (2 ∷ []) (sign (codes ")")) refl r.ready refl) refl) refl)) refl

pub sized_ready : {m : ℕ} {x : List Lexeme} {T U : Family} {S : List Lexeme → Family} {t u : Readers} → AllReady m x T U S t u
    → Ready class_of m (limit_shape [] sizes) x (Sized T) (Sized U) (λ y. Sized (S y)) (sized_at t) (sized_at u)
unfolding class_of
sized_ready {m} {x} i = wider-ready _ (made-ready to_sized (then-ready (tok-ready class_of m sizes (word (codes "SizeOf")) refl x) (past-ready (1 ∷ []) (sign (codes "(")) refl (ended-ready (2 ∷ []) (sign (codes ")")) refl (i AnyType) refl) refl) refl)) refl

pub operator_ready : {m : ℕ} {x : List Lexeme} {T U : Family} {S : List Lexeme → Family} {t u : Readers} {R W : Part Lexeme Placed} {H : List Lexeme → Part Lexeme Placed} {p w : Reader Lexeme Placed} → AllReady m x T U S t u → PlaceKit m x R W H p w
    → Ready class_of m (near [] (run 124 27)) x (Operator T R) (Operator U W) (λ y. Operator (S y) (H y)) (operator_at m t p) (operator_at m u w)
unfolding class_of
operator_ready {m} {x} i r = wider-ready _ (either-ready binaries (binary_ready i r) (either-ready unaries (unary_ready i r) (either-ready measures (measured_ready i r) (sized_ready i) refl) refl) refl) refl

pub reference_ready : {m : ℕ} {x : List Lexeme} {T U : Family} {S : List Lexeme → Family} {t u : Readers} {R W : Part Lexeme Placed} {H : List Lexeme → Part Lexeme Placed} {p w : Reader Lexeme Placed} → AllReady m x T U S t u → PlaceKit m x R W H p w
    → Ready class_of m (near (3 ∷ []) (15 ∷ [])) x (Reference R) (Reference W) (λ y. Reference (H y)) (reference_at p) (reference_at w)
unfolding class_of
reference_ready {m} {x} i r = wider-ready _ (past-ready (15 ∷ []) (sign (codes "&")) refl (either-ready (151 ∷ [])
    (made-ready to_raw_of (past-ready (151 ∷ []) (word (codes "raw")) refl (either-ready (117 ∷ []) (made-ready mutable (past-ready (117 ∷ []) (word (codes "mut")) refl r.ready refl)) (made-ready immutable (past-ready (116 ∷ []) (word (codes "const")) refl r.ready refl)) refl) refl))
    (made-ready to_ref_of (either-ready (117 ∷ []) (made-ready mutable (past-ready (117 ∷ []) (word (codes "mut")) refl r.ready refl)) (made-ready immutable r.ready) refl)) refl) refl) refl

pub array_rest_ready : {m : ℕ} {x : List Lexeme} {T U : Family} {S : List Lexeme → Family} {t u : Readers} {R W : Part Lexeme Placed} {H : List Lexeme → Part Lexeme Placed} {p w : Reader Lexeme Placed} → AllReady m x T U S t u → PlaceKit m x R W H p w
    → Ready class_of m (near [] (10 ∷ 9 ∷ 4 ∷ [])) x (ArrayRest T R) (ArrayRest U W) (λ y. ArrayRest (S y) (H y)) (array_rest_at m t p) (array_rest_at m u w)
unfolding class_of
array_rest_ready {m} {x} i r = wider-ready _ (either-ready (10 ∷ []) (made-ready to_times (past-ready (10 ∷ []) (sign (codes ";")) refl (ended-ready (4 ∷ []) (sign (codes "]")) refl (number-ready m x) refl) refl))
    (made-ready Others (ended-ready (4 ∷ []) (sign (codes "]")) refl (many-ready (9 ∷ []) (past-ready (9 ∷ []) (sign (codes ",")) refl (operand_ready i r) refl) refl) refl)) refl) refl

pub array_of_ready : {m : ℕ} {x : List Lexeme} {T U : Family} {S : List Lexeme → Family} {t u : Readers} {R W : Part Lexeme Placed} {H : List Lexeme → Part Lexeme Placed} {p w : Reader Lexeme Placed} → AllReady m x T U S t u → PlaceKit m x R W H p w
    → Ready class_of m (near [] (3 ∷ [])) x (ArrayOf T R) (ArrayOf U W) (λ y. ArrayOf (S y) (H y)) (array_of_at m t p) (array_of_at m u w)
unfolding class_of
array_of_ready {m} {x} i r = wider-ready _ (past-ready (3 ∷ []) (sign (codes "[")) refl (either-ready (4 ∷ []) (made-ready to_no_array (tok-ready class_of m (4 ∷ []) (sign (codes "]")) refl x))
    (made-ready to_array_of (then-ready (operand_ready i r) (array_rest_ready i r) refl)) refl) refl) refl

pub tuple_of_ready : {m : ℕ} {x : List Lexeme} {T U : Family} {S : List Lexeme → Family} {t u : Readers} {R W : Part Lexeme Placed} {H : List Lexeme → Part Lexeme Placed} {p w : Reader Lexeme Placed} → AllReady m x T U S t u → PlaceKit m x R W H p w
    → Ready class_of m (near [] (1 ∷ [])) x (TupleOf T R) (TupleOf U W) (λ y. TupleOf (S y) (H y)) (tuple_of_at m t p) (tuple_of_at m u w)
unfolding class_of
tuple_of_ready {m} {x} i r = wider-ready _ (made-ready to_tuple_of (past-ready (1 ∷ []) (sign (codes "(")) refl (ended-ready (2 ∷ []) (sign (codes ")")) refl (trailed-ready marks (9 ∷ []) (sign (codes ",")) refl (marked_ready i r) refl) refl) refl)) refl

pub field_ready : {m : ℕ} {x : List Lexeme} {T U : Family} {S : List Lexeme → Family} {t u : Readers} {R W : Part Lexeme Placed} {H : List Lexeme → Part Lexeme Placed} {p w : Reader Lexeme Placed} → AllReady m x T U S t u → PlaceKit m x R W H p w
    → Ready class_of m (near (3 ∷ 12 ∷ 7 ∷ []) any_word) x (Field T R) (Field U W) (λ y. Field (S y) (H y)) (field_at m t p) (field_at m u w)
unfolding class_of
field_ready {m} {x} i r = wider-ready _ (made-ready to_field (then-ready (tok-ready class_of m any_word name refl x) (past-ready (11 ∷ []) (sign (codes ":")) refl (operand_ready i r) refl) refl)) refl

pub fields_ready : {m : ℕ} {x : List Lexeme} {T U : Family} {S : List Lexeme → Family} {t u : Readers} {R W : Part Lexeme Placed} {H : List Lexeme → Part Lexeme Placed} {p w : Reader Lexeme Placed} → AllReady m x T U S t u → PlaceKit m x R W H p w
    → Ready class_of m (near [] (5 ∷ [])) x (Fields T R) (Fields U W) (λ y. Fields (S y) (H y)) (fields_at m t p) (fields_at m u w)
unfolding class_of
fields_ready {m} {x} i r = wider-ready _ (past-ready (5 ∷ []) (sign (codes "{")) refl (ended-ready (6 ∷ []) (sign (codes "}")) refl (listed-ready any_word (9 ∷ []) (sign (codes ",")) refl (field_ready i r) refl) refl) refl) refl
