-- One level of places.
use Rattle.std.proofs.Common.{◌≡◌, ℕ, zero, suc, ◌-◌, Bool, true, false, List, length, Result, Err, refl, ap, ◌∙◌, sym, arith}
use Rattle.grammar_words.specs.declared.stop.Why.TheVariants.{Wrong, Deep}
use Rattle.grammar_words.specs.declared.stop.Stop.{Stop}
use Rattle.grammar_words.specs.Grammar.{starts}
use Rattle.grammar_words.specs.Reading.{Fault, Reader, guard, deep}
use Rattle.grammar_words.specs.Classes.{inside}
use Rattle.grammar_words.specs.Coded.{counted, stop_at}
use Rattle.mir_grammar.specs.Lexemes.{Lexeme, class_of}
use Rattle.mir_grammar.specs.declared.trees.Placed.{Placed}
use Rattle.mir_grammar.specs.Places.{place_firsts, place_body, place_at}
use Rattle.value_reader.specs.Levels.{any_type, level_place}

guard_true : {K A : Type 0} (test : K → Bool) (p : Reader K A) (ts : List K) → starts test ts ≡ true → guard test p ts ≡ p ts
unfolding guard
guard_true test p ts h = rw h refl

guard_false : {K A : Type 0} (test : K → Bool) (p : Reader K A) (ts : List K) → starts test ts ≡ false → guard test p ts ≡ Fault Wrong ts
unfolding guard
guard_false test p ts h = rw h refl

pub level_none : (m d l : ℕ) (ts : List Lexeme) (s : Stop) → starts (inside class_of place_firsts) ts ≡ true → l ≡ 0 → s ≡ stop_at Deep (length ts)
    → ◌≡◌ {A = Result (Placed × List Lexeme) Stop} (Err s) (counted (level_place m d l ts))
unfolding level_place
level_none m d l ts s h e f = rw e (rw f (ap counted (sym (guard_true (inside class_of place_firsts) deep ts h))))

pub level_more : (m d l : ℕ) (ts : List Lexeme) (r : Result (Placed × List Lexeme) Stop) → starts (inside class_of place_firsts) ts ≡ true → (l ≡ 0 → ⊥)
    → r ≡ counted (place_body m (any_type m d) (level_place m d (l - 1)) ts) → r ≡ counted (level_place m d l ts)
unfolding level_place
level_more m d zero ts r h n e = absurd (n refl)
level_more m d (suc k) ts r h n e =
    let z : suc k - 1 ≡ k = omega arith in
    e ∙ (ap (λ j. counted (place_body m (any_type m d) (place_at m (any_type m d) j) ts)) z ∙ ap counted (sym (guard_true (inside class_of place_firsts) (place_body m (any_type m d) (place_at m (any_type m d) k)) ts h)))

pub level_not : (m d l : ℕ) (ts : List Lexeme) (s : Stop) → starts (inside class_of place_firsts) ts ≡ false → s ≡ stop_at Wrong (length ts)
    → ◌≡◌ {A = Result (Placed × List Lexeme) Stop} (Err s) (counted (level_place m d l ts))
unfolding level_place
level_not m d zero ts s h f = rw f (ap counted (sym (guard_false (inside class_of place_firsts) deep ts h)))
level_not m d (suc k) ts s h f = rw f (ap counted (sym (guard_false (inside class_of place_firsts) (place_body m (any_type m d) (place_at m (any_type m d) k)) ts h)))
