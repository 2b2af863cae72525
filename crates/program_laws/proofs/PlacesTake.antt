-- Places: each type that is written in a place takes a token of its own, and so does the place.
use Rattle.std.proofs.Common.{◌≡◌, ℕ, zero, suc, ◌+◌, List, [], ◌∷◌, ◌++◌, length, arith, flat_map, length-append}
use Rattle.mir_ir.specs.declared.places.Projection.{Projection}
use Rattle.grammar_words.specs.Grammar.{Part}
use Rattle.mir_grammar.specs.declared.named.Named.{Named}
use Rattle.mir_grammar.specs.declared.trees.Placed.{Placed}
use Rattle.mir_grammar.specs.declared.trees.Stepped.{Stepped}
use Rattle.mir_grammar.specs.Lexemes.{Lexeme}
use Rattle.mir_grammar.specs.Types.{any_word}
use Rattle.mir_grammar.specs.Places.{to_local_place, with_step, with_steps, to_stepped, to_place, deref_step, to_deref, to_field, to_downcast, to_index, to_front, to_back, locals, NumberOf, IndexInside, Index, Selector, InParentheses, Base, PlaceBody, PlaceLevel}
use Rattle.grammar_words.specs.Grammar.{Never}
use Rattle.mir_program.specs.Joined.{written}
use Rattle.mir_program.specs.Mentions.{step_types, place_types}
use Rattle.program_laws.proofs.Takes.{Takes, Anything, nil, total, takes_any, takes_made, takes_then, takes_either, takes_never, takes_past, takes_ended, takes_each, takes_into}
use Rattle.program_laws.proofs.TypesTake.{named_count}

-- one for the place, and one for each type that is written in it
abbrev pub place_weight : Placed → ℕ
place_weight p = 1 + length (place_types written p.place)

abbrev step_weight : Stepped → ℕ
step_weight s = length (step_types written s.step)

steps_more : (xs : List Projection) (s : Projection) → length (flat_map (step_types written) (xs ++ s ∷ [])) ≡ length (flat_map (step_types written) xs) + length (step_types written s)
steps_more [] s = omega (arith, length-append (step_types written s) [])
steps_more (x ∷ xs) s = let e = steps_more xs s in
    omega (arith, length-append (step_types written x) (flat_map (step_types written) (xs ++ s ∷ [])), length-append (step_types written x) (flat_map (step_types written) xs))

step_more : (p : Placed) (s : Stepped) → place_weight (with_step p s) ≡ place_weight p + step_weight s
step_more p s = let e = steps_more p.place.steps s.step in omega arith

weighs_all : (p : Placed) (ss : List Stepped) → place_weight (with_steps p ss) ≡ place_weight p + total step_weight ss
weighs_all p [] = omega arith
weighs_all p (s ∷ ss) = let e = weighs_all (with_step p s) ss in let f = step_more p s in omega arith

number_of_takes : Takes NumberOf Anything nil
number_of_takes = takes_into (λ x g. (tt, omega arith)) (takes_then (takes_any (35 ∷ [])) (takes_past (119 ∷ []) (takes_any (35 ∷ []))))

index_inside_takes : Takes IndexInside Anything step_weight
unfolding to_index to_front to_back
index_inside_takes = takes_either (takes_made to_index (λ t g. (tt, omega arith)) (takes_any locals))
    (takes_either (takes_made to_front (λ x g. (tt, omega arith)) number_of_takes) (takes_made to_back (λ x g. (tt, omega arith)) (takes_past (19 ∷ []) number_of_takes)))

index_takes : Takes Index Anything step_weight
index_takes = takes_past (3 ∷ []) (takes_ended (4 ∷ []) index_inside_takes)

selector_takes : {T : Part Lexeme Named} → Takes T Anything named_count → Takes (Selector T) Anything step_weight
unfolding to_field to_downcast
selector_takes t = takes_either (takes_made to_field (λ x g. (tt, omega arith)) (takes_past (13 ∷ []) (takes_then (takes_any (35 ∷ [])) (takes_past (11 ∷ []) t))))
    (takes_made to_downcast (λ l g. (tt, omega arith)) (takes_past (118 ∷ []) (takes_any any_word)))

parentheses_take : {T : Part Lexeme Named} {P : Part Lexeme Placed} → Takes T Anything named_count → Takes P Anything place_weight → Takes (InParentheses T P) Anything place_weight
unfolding to_deref to_stepped
parentheses_take t p = takes_either (takes_made to_deref (λ a g. (tt, let e = step_more a deref_step in omega arith)) (takes_past (16 ∷ []) p))
    (takes_made to_stepped (λ x g. (tt, let e = step_more x.0 x.1 in omega arith)) (takes_then p (selector_takes t)))

base_takes : {T : Part Lexeme Named} {P : Part Lexeme Placed} → Takes T Anything named_count → Takes P Anything place_weight → Takes (Base T P) Anything place_weight
unfolding to_local_place
base_takes t p = takes_either (takes_made to_local_place (λ l g. (tt, omega arith)) (takes_any locals)) (takes_past (1 ∷ []) (takes_ended (2 ∷ []) (parentheses_take t p)))

body_takes : {T : Part Lexeme Named} {P : Part Lexeme Placed} → Takes T Anything named_count → Takes P Anything place_weight → Takes (PlaceBody T P) Anything place_weight
unfolding to_place
body_takes t p = takes_made to_place (λ x g. (tt, let e = weighs_all x.0 x.1 in omega arith)) (takes_then (base_takes t p) (takes_each index_takes))

pub places_take : {T : Part Lexeme Named} → Takes T Anything named_count → (d : ℕ) → Takes (PlaceLevel Never T d) Anything place_weight
places_take t zero = takes_never Anything place_weight
places_take t (suc d) = body_takes t (places_take t d)
