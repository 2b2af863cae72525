-- Types and paths at each limit are ready.
use Rattle.std.proofs.Common.{◌≡◌, ℕ, zero, suc, ◌+◌, ◌≤◌, true, false, List, [], ◌∷◌, ◌++◌, if◌then◌else◌, refl, ap, arith}
use Rattle.grammar_words.specs.Grammar.{Made, Each, At}
use Rattle.grammar_words.specs.Reading.{guard}
use Rattle.grammar_words.specs.Classes.{has, inside, outside, tok}
use Rattle.grammar_words.proofs.Ready.{Shape, Ready, made-ready, wider-ready}
use Rattle.grammar_words.proofs.ReadyJoin.{left_short}
use Rattle.grammar_words.proofs.ReadyLimit.{limit_shape, limit-ready, guard-ready}
use Rattle.grammar_words.proofs.Fork.{Moves, Seen, moves-tok, moves-made, moves-joined, moves-left, moves-right, moves-both, fork-ready}
use Rattle.grammar_words.proofs.Seen.{seen-apart, seen-alone, seen-token, seen-behind, seen-before, seen-made, seen-either}
use Rattle.mir_grammar.specs.Lexemes.{Lexeme, class_of}
use Rattle.mir_grammar.specs.Names.{to_path, to_keyed_path, to_plain, to_dyn, to_mut_path, to_qualified, to_tuple, to_array, to_ref, to_raw, word_head, impl_head, named_head}
use Rattle.mir_grammar.specs.Types.{Family, Readers, Want, AnyType, NotMut, BehindMut, Qualified, any_word, colons, type_names, type_words, path_words, path_words_but_mut, firsts_of, type_firsts, formed_firsts, PathStep, FreePath, KeyedSteps, PathFrom, FormedType, keyed_steps_at, free_path_at, keyed_path_at, path_from_at, dyn_at, formed_at, tuple_at, array_at, ref_at, raw_at, plain_at, TypeBody, type_body, TypeLevel, NoType, type_at}
use Rattle.grammar_words.proofs.Sets.{subset}
use Rattle.grammar_words.proofs.Starts.{Starts, starts-tok, starts-made, starts-then, starts-past, starts-either, starts-wider, starts-opens}
use Rattle.mir_grammar.proofs.TypeFirsts.{each_first, each_sentence}
use Rattle.mir_grammar.proofs.TypeReady.{type_stops, stops_of, far, near, AllReady, dyn_body_at, dyn_body_ready, keyed_steps_ready, type_path_ready, path_but_mut_ready, type_path_from_ready, path_from_but_mut_ready, qualified_ready, tuple_ready, array_ready, ref_ready, raw_ready, formed_ready}

-- the words of types are taken by both forms

keyed_moves : {m : ℕ} {x : List Lexeme} {R W : Family} {H : List Lexeme → Family} {p w : Readers} → AllReady m x R W H p w → (words : List ℕ) → Moves class_of type_words (path_from_at m type_words words p)
keyed_moves {m} {x} {R} {W} {H} {p} {w} r words =
    moves-left class_of type_words type_words (keyed_path_at m type_words p) (free_path_at m words p) refl
    (moves-made class_of type_words to_keyed_path _ (moves-joined class_of type_words (tok class_of type_words) (keyed_steps_at m p) (moves-tok class_of type_words type_words refl) (left_short (keyed_steps_ready r).laws)))

formed_moves : {m : ℕ} {x : List Lexeme} {R W : Family} {H : List Lexeme → Family} {p w : Readers} → AllReady m x R W H p w → Moves class_of type_words (formed_at m p)
formed_moves {m} {x} {R} {W} {H} {p} {w} r =
    moves-both class_of type_names (115 ∷ []) (formed_at m p)
    (moves-left class_of type_names (17 ∷ type_names) plain_at _ refl (moves-made class_of type_names to_plain _ (moves-tok class_of type_names (17 ∷ type_names) refl)))
    (moves-right class_of (115 ∷ []) (17 ∷ type_names) plain_at _ refl (moves-right class_of (115 ∷ []) (1 ∷ []) (tuple_at m p) _ refl (moves-right class_of (115 ∷ []) (3 ∷ []) (array_at p) _ refl
    (moves-right class_of (115 ∷ []) (15 ∷ []) (ref_at p) _ refl (moves-right class_of (115 ∷ []) (16 ∷ []) (raw_at p) (dyn_at m p) refl
    (moves-made class_of (115 ∷ []) to_dyn _ (moves-made class_of (115 ∷ []) (λ v. v.1) _ (moves-joined class_of (115 ∷ []) (tok class_of (115 ∷ [])) (dyn_body_at m p) (moves-tok class_of (115 ∷ []) (115 ∷ []) refl) (left_short (dyn_body_ready r).laws)))))))))

-- what two tokens tell

stops : List ℕ
stops = type_stops ++ 12 ∷ 7 ∷ []

formed_seen : {m : ℕ} {x : List Lexeme} {R W : Family} {H : List Lexeme → Family} {p w : Readers} → AllReady m x R W H p w → (y : List Lexeme)
    → Seen class_of formed_firsts type_words colons (outside class_of (type_stops ++ 12 ∷ 7 ∷ [])) true (FormedType (H y))
formed_seen {m} {x} r y =
    seen-either (seen-made to_plain (seen-token (type_stops ++ 12 ∷ 7 ∷ []) formed_firsts type_words colons (17 ∷ type_names) refl))
    (seen-either (seen-alone (near [] (1 ∷ [])) formed_firsts type_words colons ((tuple_ready r).opens_holed y) refl)
    (seen-either (seen-alone (limit_shape [] (3 ∷ [])) formed_firsts type_words colons ((array_ready r).opens_holed y) refl)
    (seen-either (seen-alone (limit_shape type_stops (15 ∷ [])) formed_firsts type_words colons ((ref_ready r).opens_holed y) refl)
    (seen-either (seen-alone (limit_shape type_stops (16 ∷ [])) formed_firsts type_words colons ((raw_ready r).opens_holed y) refl)
    (seen-made to_dyn (seen-made (λ v. v.1) (seen-behind (near type_stops (43 ∷ 7 ∷ any_word)) (type_stops ++ 12 ∷ 7 ∷ []) formed_firsts type_words colons (115 ∷ []) ((dyn_body_ready r).opens_holed y) refl)))))))

path_seen : {m : ℕ} {x : List Lexeme} {R W : Family} {H : List Lexeme → Family} {p w : Readers} → AllReady m x R W H p w → (y : List Lexeme)
    → Seen class_of formed_firsts type_words colons (outside class_of (type_stops ++ 12 ∷ 7 ∷ [])) false (PathFrom type_words path_words (H y))
path_seen {m} {x} r y =
    seen-either (seen-made to_keyed_path (seen-before (near (12 ∷ 7 ∷ []) colons) formed_firsts type_words colons type_words ((keyed_steps_ready r).opens_holed y) refl))
    (seen-apart (near (12 ∷ 7 ∷ []) (43 ∷ 7 ∷ path_words)) formed_firsts type_words colons ((type_path_ready r).opens_holed y) refl)

path_but_mut_seen : {m : ℕ} {x : List Lexeme} {R W : Family} {H : List Lexeme → Family} {p w : Readers} → AllReady m x R W H p w → (y : List Lexeme)
    → Seen class_of formed_firsts type_words colons (outside class_of (type_stops ++ 12 ∷ 7 ∷ [])) false (PathFrom type_words path_words_but_mut (H y))
path_but_mut_seen {m} {x} r y =
    seen-either (seen-made to_keyed_path (seen-before (near (12 ∷ 7 ∷ []) colons) formed_firsts type_words colons type_words ((keyed_steps_ready r).opens_holed y) refl))
    (seen-apart (near (12 ∷ 7 ∷ []) (43 ∷ 7 ∷ path_words_but_mut)) formed_firsts type_words colons ((path_but_mut_ready r).opens_holed y) refl)

guard_body : (m : ℕ) (x : List Lexeme) (R W : Family) (H : List Lexeme → Family) (p w : Readers) (k : Want) → Ready class_of m (far k) x (TypeBody R k) (TypeBody W k) (λ y. TypeBody (H y) k) (type_body m p k) (type_body m w k)
    → Ready class_of m (far k) x (TypeBody R k) (TypeBody W k) (λ y. TypeBody (H y) k) (guard (inside class_of (firsts_of k)) (type_body m p k)) (guard (inside class_of (firsts_of k)) (type_body m w k))
guard_body m x R W H p w AnyType r = guard-ready type_firsts r refl
guard_body m x R W H p w NotMut r = guard-ready (firsts_of NotMut) r refl
guard_body m x R W H p w BehindMut r = guard-ready colons r refl
guard_body m x R W H p w Qualified r = guard-ready (7 ∷ []) r refl

-- each form of what is wanted

abbrev pub close : Want → Shape
close want = near (stops_of want) (firsts_of want)

any_ready : {m : ℕ} {x : List Lexeme} {R W : Family} {H : List Lexeme → Family} {p w : Readers} → AllReady m x R W H p w
    → Ready class_of m (close AnyType) x (TypeBody R AnyType) (TypeBody W AnyType) (λ y. TypeBody (H y) AnyType) (type_body m p AnyType) (type_body m w AnyType)
unfolding type_body
any_ready r = wider-ready _ (fork-ready formed_firsts type_words colons (formed_ready r) (type_path_from_ready r) refl (formed_moves r) (keyed_moves r path_words) (formed_seen r) (path_seen r)) refl

not_mut_ready : {m : ℕ} {x : List Lexeme} {R W : Family} {H : List Lexeme → Family} {p w : Readers} → AllReady m x R W H p w
    → Ready class_of m (close NotMut) x (TypeBody R NotMut) (TypeBody W NotMut) (λ y. TypeBody (H y) NotMut) (type_body m p NotMut) (type_body m w NotMut)
unfolding type_body
not_mut_ready r = wider-ready _ (fork-ready formed_firsts type_words colons (formed_ready r) (path_from_but_mut_ready r) refl (formed_moves r) (keyed_moves r path_words_but_mut) (formed_seen r) (path_but_mut_seen r)) refl

body_ready : {m : ℕ} {x : List Lexeme} {R W : Family} {H : List Lexeme → Family} {p w : Readers} → AllReady m x R W H p w → (k : Want)
    → Ready class_of m (far k) x (TypeBody R k) (TypeBody W k) (λ y. TypeBody (H y) k) (type_body m p k) (type_body m w k)
unfolding type_body
body_ready r AnyType = wider-ready _ (any_ready r) refl
body_ready r NotMut = wider-ready _ (not_mut_ready r) refl
body_ready r BehindMut = wider-ready _ (made-ready to_mut_path (keyed_steps_ready r)) refl
body_ready r Qualified = wider-ready _ (qualified_ready r) refl

-- The first tokens of what is wanted, by the words alone.

path_starts : (b words : List ℕ) (T : Family) → subset words b ≡ true → has b 43 ≡ true → Starts class_of b (Made named_head (T Qualified)) → Starts class_of b (FreePath words T)
path_starts b words T s e q = starts-made to_path (starts-then (Each (PathStep T)) (starts-either (starts-made word_head (starts-tok class_of b words s)) (starts-either (starts-made impl_head (starts-tok class_of b (43 ∷ []) (ap (λ v. if v then true else false) e))) q)))

formed_starts : (b : List ℕ) (T : Family) → subset formed_firsts b ≡ true → Starts class_of b (FormedType T)
formed_starts b T s = starts-wider formed_firsts b s
    (starts-either (starts-made to_plain (starts-tok class_of formed_firsts (17 ∷ type_names) refl))
    (starts-either (starts-made to_tuple (starts-past class_of formed_firsts (1 ∷ []) _ refl))
    (starts-either (starts-made to_array (starts-past class_of formed_firsts (3 ∷ []) _ refl))
    (starts-either (starts-made to_ref (starts-past class_of formed_firsts (15 ∷ []) _ refl))
    (starts-either (starts-made to_raw (starts-past class_of formed_firsts (16 ∷ []) _ refl))
    (starts-made to_dyn (starts-past class_of formed_firsts (115 ∷ []) _ refl)))))))

head_starts : (d : ℕ) → Starts class_of (7 ∷ []) (TypeLevel NoType d Qualified)
head_starts zero = record { first = λ ts rest a h. absurd h }
head_starts (suc d) = starts-made to_qualified (starts-then _ (starts-tok class_of (7 ∷ []) (7 ∷ []) refl))

level_starts : (d : ℕ) (want : Want) → Starts class_of (firsts_of want) (TypeLevel NoType (suc d) want)
level_starts d AnyType = starts-either (formed_starts type_firsts (TypeLevel NoType d) refl)
    (starts-either (starts-made to_keyed_path (starts-then (KeyedSteps (TypeLevel NoType d)) (starts-tok class_of type_firsts type_words refl)))
    (path_starts type_firsts path_words (TypeLevel NoType d) refl refl (starts-made named_head (starts-wider (7 ∷ []) type_firsts refl (head_starts d)))))
level_starts d NotMut = starts-either (formed_starts (firsts_of NotMut) (TypeLevel NoType d) refl)
    (starts-either (starts-made to_keyed_path (starts-then (KeyedSteps (TypeLevel NoType d)) (starts-tok class_of (firsts_of NotMut) type_words refl)))
    (path_starts (firsts_of NotMut) path_words_but_mut (TypeLevel NoType d) refl refl (starts-made named_head (starts-wider (7 ∷ []) (firsts_of NotMut) refl (head_starts d)))))
level_starts d BehindMut = starts-made to_mut_path (starts-made (λ v. v.0 ∷ v.1) (starts-then (Each (PathStep (TypeLevel NoType d))) (starts-past class_of colons colons _ refl)))
level_starts d Qualified = head_starts (suc d)

-- where a part of any depth may stand at x, with y behind it
abbrev pub Hole : List Lexeme → List Lexeme → Family
Hole x y want = At (inside class_of (firsts_of want)) x y

inside_firsts : (want : Want) (t : Lexeme) → inside class_of (firsts_of want) t ≡ true → has (firsts_of want) (class_of t) ≡ true
unfolding inside
inside_firsts want t h = h

pub type_ready : (m : ℕ) (x : List Lexeme) (d e : ℕ) → d + 4 ≤ e → AllReady m x (TypeLevel NoType d) (TypeLevel NoType e) (λ y. TypeLevel (Hole x y) d) (type_at m d) (type_at m e)
type_ready m x zero zero h k = absurd (omega arith)
type_ready m x zero (suc zero) h k = absurd (omega arith)
type_ready m x zero (suc (suc zero)) h k = absurd (omega arith)
type_ready m x zero (suc (suc (suc e))) h k = limit-ready (stops_of k) (firsts_of k) (type_body m (type_at m (suc (suc e))) k)
    (λ t i. each_first e (outside class_of (stops_of k)) k t (inside_firsts k t i)) (each_sentence e (outside class_of (stops_of k)) k) (starts-opens (stops_of k) (level_starts (suc (suc e)) k))
type_ready m x (suc d) zero h k = absurd (omega arith)
type_ready m x (suc d) (suc e) h k = guard_body m x (TypeLevel NoType d) (TypeLevel NoType e) (λ y. TypeLevel (Hole x y) d) (type_at m d) (type_at m e) k (body_ready (type_ready m x d e (omega arith)) k)

-- above the last level a type has a text within the limit
pub near_type_ready : (m : ℕ) (x : List Lexeme) (d e : ℕ) → d + 4 ≤ e
    → Ready class_of m (close AnyType) x (TypeLevel NoType (suc d) AnyType) (TypeLevel NoType (suc e) AnyType) (λ y. TypeLevel (Hole x y) (suc d) AnyType) (type_at m (suc d) AnyType) (type_at m (suc e) AnyType)
near_type_ready m x d e h = guard-ready type_firsts (any_ready (type_ready m x d e h)) refl
