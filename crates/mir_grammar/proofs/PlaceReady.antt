-- Places are ready.
use Rattle.std.proofs.Common.{◌≡◌, inl, inr, ℕ, zero, suc, ◌+◌, ◌≤◌, Bool, true, false, List, [], ◌∷◌, codes, refl, arith}
use Rattle.grammar_words.specs.Grammar.{Part, Each, Never, At}
use Rattle.grammar_words.specs.Reading.{Reader}
use Rattle.grammar_words.specs.Classes.{has, inside, outside, Tok, tok}
use Rattle.grammar_words.proofs.Sets.{subset_has}
use Rattle.grammar_words.proofs.Laws.{Goes}
use Rattle.grammar_words.proofs.Ready.{Shape, Ready, tok-ready, made-ready, wider-ready}
use Rattle.grammar_words.proofs.ReadyJoin.{then-ready, either-ready}
use Rattle.grammar_words.proofs.ReadyMany.{many-ready}
use Rattle.grammar_words.proofs.ReadyWords.{past-ready, ended-ready}
use Rattle.grammar_words.proofs.ReadyLimit.{limit_shape, limit-ready, guard-ready}
use Rattle.grammar_words.proofs.Starts.{Starts, starts-tok, starts-made, starts-then, starts-past, starts-either, starts-opens, one_of}
use Rattle.mir_grammar.specs.Lexemes.{Lexeme, class_of, sign, word}
use Rattle.mir_grammar.specs.Names.{Named}
use Rattle.mir_grammar.specs.Types.{AnyType, any_word}
use Rattle.mir_grammar.specs.Places.{Placed, to_local_place, to_stepped, to_place, to_deref, to_field, to_downcast, to_index, to_front, to_back, locals, place_firsts, NumberOf, IndexInside, Index, Selector, InParentheses, Base, PlaceBody, PlaceLevel, number_of_at, index_inside_at, index_at, selector_at, in_parentheses_at, base_at, place_body, place_at}
use Rattle.mir_grammar.proofs.Samples.{plain_number, plain_number_class, name}
use Rattle.mir_grammar.proofs.TypeReady.{far, near}

abbrev pub flat : List ℕ → Shape
flat firsts = record { stops = []; firsts = firsts; empty = false; flat = true; near = true }

abbrev pub local : Lexeme
local = word (codes "_1")

abbrev pub far_place : Shape
far_place = limit_shape (3 ∷ []) place_firsts

abbrev pub TypeReady : ℕ → List Lexeme → Part Lexeme Named → Part Lexeme Named → (List Lexeme → Part Lexeme Named) → Reader Lexeme Named → Reader Lexeme Named → Type 0
TypeReady m x T U S t u = Ready class_of m (far AnyType) x T U S t u

abbrev pub PlaceReady : ℕ → List Lexeme → Part Lexeme Placed → Part Lexeme Placed → (List Lexeme → Part Lexeme Placed) → Reader Lexeme Placed → Reader Lexeme Placed → Type 0
PlaceReady m x R W H p w = Ready class_of m far_place x R W H p w

pub number-ready : (m : ℕ) (x : List Lexeme) → Ready class_of m (flat (35 ∷ [])) x (Tok class_of (35 ∷ [])) (Tok class_of (35 ∷ [])) (λ y. Tok class_of (35 ∷ [])) (tok class_of (35 ∷ [])) (tok class_of (35 ∷ []))
number-ready m x = tok-ready class_of m (35 ∷ []) plain_number (rw plain_number_class refl) x

number_of_ready : (m : ℕ) (x : List Lexeme) → Ready class_of m (flat (35 ∷ [])) x NumberOf NumberOf (λ y. NumberOf) number_of_at number_of_at
unfolding class_of
number_of_ready m x = wider-ready _ (then-ready (number-ready m x) (past-ready (119 ∷ []) (word (codes "of")) refl (number-ready m x) refl) refl) refl

index_inside_ready : (m : ℕ) (x : List Lexeme) → Ready class_of m (flat (30 ∷ 31 ∷ 35 ∷ 19 ∷ [])) x IndexInside IndexInside (λ y. IndexInside) index_inside_at index_inside_at
unfolding class_of
index_inside_ready m x = wider-ready _ (either-ready locals (made-ready to_index (tok-ready class_of m locals local refl x))
    (either-ready (35 ∷ []) (made-ready to_front (number_of_ready m x)) (made-ready to_back (past-ready (19 ∷ []) (sign (codes "-")) refl (number_of_ready m x) refl)) refl) refl) refl

pub index_ready : (m : ℕ) (x : List Lexeme) → Ready class_of m (flat (3 ∷ [])) x Index Index (λ y. Index) index_at index_at
unfolding class_of
index_ready m x = wider-ready _ (past-ready (3 ∷ []) (sign (codes "[")) refl (ended-ready (4 ∷ []) (sign (codes "]")) refl (index_inside_ready m x) refl) refl) refl

selector_ready : {m : ℕ} {x : List Lexeme} {T U : Part Lexeme Named} {S : List Lexeme → Part Lexeme Named} {t u : Reader Lexeme Named} → TypeReady m x T U S t u
    → Ready class_of m (near (12 ∷ 7 ∷ 18 ∷ []) (13 ∷ 118 ∷ [])) x (Selector T) (Selector U) (λ y. Selector (S y)) (selector_at t) (selector_at u)
unfolding class_of
selector_ready {m} {x} r = wider-ready _ (either-ready (13 ∷ []) (made-ready to_field (past-ready (13 ∷ []) (sign (codes ".")) refl (then-ready (number-ready m x) (past-ready (11 ∷ []) (sign (codes ":")) refl r refl) refl) refl))
    (made-ready to_downcast (past-ready (118 ∷ []) (word (codes "as")) refl (tok-ready class_of m any_word name refl x) refl)) refl) refl

pub in_parentheses_ready : {m : ℕ} {x : List Lexeme} {T U : Part Lexeme Named} {S : List Lexeme → Part Lexeme Named} {t u : Reader Lexeme Named} {R W : Part Lexeme Placed} {H : List Lexeme → Part Lexeme Placed} {p w : Reader Lexeme Placed}
    → TypeReady m x T U S t u → PlaceReady m x R W H p w
    → Ready class_of m (limit_shape (12 ∷ 7 ∷ 18 ∷ 3 ∷ []) (16 ∷ place_firsts)) x (InParentheses T R) (InParentheses U W) (λ y. InParentheses (S y) (H y)) (in_parentheses_at t p) (in_parentheses_at u w)
unfolding class_of
in_parentheses_ready i r = wider-ready _ (either-ready (16 ∷ []) (made-ready to_deref (past-ready (16 ∷ []) (sign (codes "*")) refl r refl)) (made-ready to_stepped (then-ready r (selector_ready i) refl)) refl) refl

base_ready : {m : ℕ} {x : List Lexeme} {T U : Part Lexeme Named} {S : List Lexeme → Part Lexeme Named} {t u : Reader Lexeme Named} {R W : Part Lexeme Placed} {H : List Lexeme → Part Lexeme Placed} {p w : Reader Lexeme Placed}
    → TypeReady m x T U S t u → PlaceReady m x R W H p w → Ready class_of m (near [] place_firsts) x (Base T R) (Base U W) (λ y. Base (S y) (H y)) (base_at t p) (base_at u w)
unfolding class_of
base_ready {m} {x} i r = wider-ready _ (either-ready locals (made-ready to_local_place (tok-ready class_of m locals local refl x))
    (past-ready (1 ∷ []) (sign (codes "(")) refl (ended-ready (2 ∷ []) (sign (codes ")")) refl (in_parentheses_ready i r) refl) refl) refl) refl

pub place_body_ready : {m : ℕ} {x : List Lexeme} {T U : Part Lexeme Named} {S : List Lexeme → Part Lexeme Named} {t u : Reader Lexeme Named} {R W : Part Lexeme Placed} {H : List Lexeme → Part Lexeme Placed} {p w : Reader Lexeme Placed}
    → TypeReady m x T U S t u → PlaceReady m x R W H p w → Ready class_of m (near (3 ∷ []) place_firsts) x (PlaceBody T R) (PlaceBody U W) (λ y. PlaceBody (S y) (H y)) (place_body m t p) (place_body m u w)
unfolding place_body
place_body_ready {m} {x} i r = wider-ready _ (made-ready to_place (then-ready (base_ready i r) (many-ready (3 ∷ []) (index_ready m x) refl) refl)) refl

-- Each first token begins a place.

local_goes : (z : Lexeme → Bool) (T : Part Lexeme Named) (P : Part Lexeme Placed) (t : Lexeme) → has locals (class_of t) ≡ true → Goes z (PlaceBody T P) (t ∷ [])
unfolding inside
local_goes z T P t h = ([], to_place (to_local_place t, []), λ k n. ((to_local_place t, []), refl, (k, inl (t, refl, (h, refl)), refl)))

deref_goes : (z : Lexeme → Bool) (T : Part Lexeme Named) (P : Part Lexeme Placed) (t : Lexeme) → has (1 ∷ []) (class_of t) ≡ true → Goes z (PlaceBody T (PlaceBody T P)) (t ∷ [])
unfolding inside class_of
deref_goes z T P t h =
    let inner = to_place (to_local_place local, []) in (
      sign (codes "*") ∷ local ∷ sign (codes ")") ∷ [],
      to_place (to_deref inner, []),
      λ k n. (
        (to_deref inner, []),
        refl,
        (
          k,
          inr (
            (t, to_deref inner),
            refl,
            (
              _,
              (h, refl),
              (
                (to_deref inner, sign (codes ")")),
                refl,
                (
                  sign (codes ")") ∷ k,
                  inl (inner, refl, ((sign (codes "*"), inner), refl, (local ∷ sign (codes ")") ∷ k, (refl, refl), ((to_local_place local, []), refl, (sign (codes ")") ∷ k, inl (local, refl, (refl, refl)), refl))))),
                  (refl, refl),
                ),
              ),
            ),
          ),
          refl,
        ),
      ),
    )

each_place_first : (z : Lexeme → Bool) (T : Part Lexeme Named) (e : ℕ) (t : Lexeme) → has place_firsts (class_of t) ≡ true → Goes z (PlaceLevel Never T (suc (suc e))) (t ∷ [])
each_place_first z T e t h = elim (one_of 30 (class_of t) (31 ∷ 1 ∷ []) h) [
  | inl i ↦ local_goes z T (PlaceLevel Never T (suc e)) t (subset_has (30 ∷ []) locals (class_of t) refl i)
  | inr i ↦ elim (one_of 31 (class_of t) (1 ∷ []) i) [ inl j ↦ local_goes z T (PlaceLevel Never T (suc e)) t (subset_has (31 ∷ []) locals (class_of t) refl j) | inr j ↦ deref_goes z T (PlaceLevel Never T e) t j ]
]

place_sentence : (z : Lexeme → Bool) (T : Part Lexeme Named) (e : ℕ) → Goes z (PlaceLevel Never T (suc (suc e))) []
unfolding class_of
place_sentence z T e = let g = local_goes z T (PlaceLevel Never T (suc e)) local refl in (local ∷ g.0, g.1, λ k n. g.2 k n)

place_starts : (T : Part Lexeme Named) (P : Part Lexeme Placed) → Starts class_of place_firsts (PlaceBody T P)
place_starts T P = starts-made to_place (starts-then (Each Index) (starts-either (starts-made to_local_place (starts-tok class_of place_firsts locals refl)) (starts-past class_of place_firsts (1 ∷ []) _ refl)))

-- where a part of any depth may stand at x, with y behind it
abbrev pub PlaceHole : List Lexeme → List Lexeme → Part Lexeme Placed
PlaceHole x y = At (inside class_of place_firsts) x y

inside_place : (t : Lexeme) → inside class_of place_firsts t ≡ true → has place_firsts (class_of t) ≡ true
unfolding inside
inside_place t h = h

pub place_ready : {m : ℕ} {x : List Lexeme} {T U : Part Lexeme Named} {S : List Lexeme → Part Lexeme Named} {t u : Reader Lexeme Named} → TypeReady m x T U S t u
    → (d e : ℕ) → d + 4 ≤ e → PlaceReady m x (PlaceLevel Never T d) (PlaceLevel Never U e) (λ y. PlaceLevel (PlaceHole x y) (S y) d) (place_at m t d) (place_at m u e)
place_ready r zero zero h = absurd (omega arith)
place_ready r zero (suc zero) h = absurd (omega arith)
place_ready {m} {x} {T} {U} {S} {t} {u} r zero (suc (suc e)) h = limit-ready (3 ∷ []) place_firsts (place_body m u (place_at m u (suc e)))
    (λ a i. each_place_first (outside class_of (3 ∷ [])) U e a (inside_place a i)) (place_sentence (outside class_of (3 ∷ [])) U e) (starts-opens (3 ∷ []) (place_starts U (PlaceLevel Never U (suc e))))
place_ready r (suc d) zero h = absurd (omega arith)
place_ready r (suc d) (suc e) h = wider-ready far_place (guard-ready place_firsts (place_body_ready r (place_ready r d e (omega arith))) refl) refl
