-- Loops of the code that read a part any number of times, and what they answer.
use Rattle.std.proofs.Common.{◌≡◌, ℕ, ◌+◌, ◌-◌, ◌<◌, ◌≤◌, Bool, true, false, List, [], ◌∷◌, ◌++◌, length, Result, Ok, Err, refl, ap, ◌∙◌, sym, arith}
use Rattle.grammar_words.specs.declared.stop.Why.TheVariants.{Spent}
use Rattle.grammar_words.specs.declared.stop.Stop.{Stop}
use Rattle.grammar_words.specs.Grammar.{starts}
use Rattle.grammar_words.specs.Reading.{Outcome, Got, Fault, Reader, many}
use Rattle.grammar_words.specs.Coded.{counted, stop_at, SoFar}
use Rattle.grammar_words.proofs.Turns.{so_far_begin, so_far_more, so_far_stop, so_far_fault, so_far_spent, counted_ok, counted_fault}

pub more : {K A : Type 0} (test : K → Bool) (p : Reader K A) (turns : ℕ) (ts : List K) (done : ℕ) (front new : List A) (rest mid later : List K) (a : A) (b : Bool)
    → SoFar test p turns ts done front rest → (done ≡ turns → ⊥) → b ≡ starts test rest → b ≡ true → ◌≡◌ {A = Result (A × List K) Stop} (Ok (a, mid)) (counted (p rest)) → new ≡ front ++ a ∷ [] → later ≡ mid
    → SoFar test p turns ts (done + 1) new later
more test p turns ts done front new rest mid later a b h l s t e n m =
    let o : done ≤ turns = h.0 in
    so_far_more test p turns ts done front new rest later a h (omega (arith, o, l)) (sym s ∙ t) (counted_ok (p rest) a mid e ∙ ap (λ r. Got a r) (sym m)) n

pub smaller : (turns done : ℕ) → done ≤ turns → (done ≡ turns → ⊥) → turns - (done + 1) < turns - done
smaller turns done h l = omega (arith, h, l)

pub spent : {K A : Type 0} (test : K → Bool) (p : Reader K A) (turns : ℕ) (ts : List K) (done : ℕ) (front : List A) (rest : List K) (b : Bool) (s : Stop)
    → SoFar test p turns ts done front rest → done ≡ turns → b ≡ starts test rest → b ≡ true → s ≡ stop_at Spent (length rest) → ◌≡◌ {A = Result (List A × List K) Stop} (Err s) (counted (many test p turns ts))
spent test p turns ts done front rest b s h l e t w =
    rw (so_far_spent test p turns ts done front rest h (omega (arith, l)) (sym e ∙ t)) (ap (λ u. Err u) w)

pub fault : {K A : Type 0} (test : K → Bool) (p : Reader K A) (turns : ℕ) (ts : List K) (done : ℕ) (front : List A) (rest : List K) (b : Bool) (s : Stop)
    → SoFar test p turns ts done front rest → (done ≡ turns → ⊥) → b ≡ starts test rest → b ≡ true → ◌≡◌ {A = Result (A × List K) Stop} (Err s) (counted (p rest)) → ◌≡◌ {A = Result (List A × List K) Stop} (Err s) (counted (many test p turns ts))
fault test p turns ts done front rest b s h l e t f =
    let o : done ≤ turns = h.0 in
    counted_fault (p rest) (many test p turns ts) s f (λ why end g. so_far_fault test p turns ts done front rest end why h (omega (arith, o, l)) (sym e ∙ t) g)

pub stopped : {K A : Type 0} (test : K → Bool) (p : Reader K A) (turns : ℕ) (ts : List K) (done : ℕ) (front : List A) (rest : List K) (b : Bool)
    → SoFar test p turns ts done front rest → b ≡ starts test rest → b ≡ false → ◌≡◌ {A = Result (List A × List K) Stop} (Ok (front, rest)) (counted (many test p turns ts))
stopped test p turns ts done front rest b h e t = rw (so_far_stop test p turns ts done front rest h (sym e ∙ t)) refl
