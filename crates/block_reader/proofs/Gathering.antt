-- Loops of the code that read a part any number of times and keep one value that is made of the parts.
use Rattle.std.proofs.Common.{◌≡◌, ℕ, ◌+◌, ◌<◌, ◌≤◌, Bool, true, false, List, [], ◌∷◌, ◌++◌, length, Result, Ok, Err, refl, ap, ◌∙◌, sym, arith}
use Rattle.grammar_words.specs.declared.stop.Why.TheVariants.{Spent}
use Rattle.grammar_words.specs.declared.stop.Stop.{Stop}
use Rattle.grammar_words.specs.Grammar.{starts}
use Rattle.grammar_words.specs.Reading.{Outcome, Got, Fault, Reader, made, many}
use Rattle.grammar_words.specs.Coded.{counted, stop_at, SoFar}
use Rattle.grammar_words.proofs.Turns.{so_far_begin}
use Rattle.line_reader.proofs.Loops as loops
use Rattle.line_reader.proofs.Steps as steps

-- so many of the turns of `many` are made, g is made of their parts, and the rest is still to be read
abbrev pub Gathered : {K A B : Type 0} → (List A → B) → (K → Bool) → Reader K A → ℕ → List K → ℕ → B → List K → Type 0
Gathered {K} {A} f test p turns ts done g rest = (front : List A) × (g ≡ f front) × SoFar test p turns ts done front rest

pub at_most : {K A B : Type 0} (f : List A → B) (test : K → Bool) (p : Reader K A) (turns : ℕ) (ts : List K) (done : ℕ) (g : B) (rest : List K) → Gathered f test p turns ts done g rest → done ≤ turns
at_most f test p turns ts done g rest h = h.2.0

pub begin : {K A B : Type 0} (f : List A → B) (test : K → Bool) (p : Reader K A) (turns : ℕ) (ts : List K) (g : B) → g ≡ f [] → Gathered f test p turns ts 0 g ts
begin f test p turns ts g e = ([], e, so_far_begin test p turns ts [] refl)

pub more : {K A B : Type 0} (f : List A → B) (test : K → Bool) (p : Reader K A) (turns : ℕ) (ts : List K) (done : ℕ) (g new : B) (rest mid later : List K) (a : A) (b : Bool)
    → Gathered f test p turns ts done g rest → (done ≡ turns → ⊥) → b ≡ starts test rest → b ≡ true → ◌≡◌ {A = Result (A × List K) Stop} (Ok (a, mid)) (counted (p rest))
    → ((front : List A) → g ≡ f front → new ≡ f (front ++ a ∷ [])) → later ≡ mid → Gathered f test p turns ts (done + 1) new later
more f test p turns ts done g new rest mid later a b h l s t e n m =
    (h.0 ++ a ∷ [], n h.0 h.1, loops.more test p turns ts done h.0 (h.0 ++ a ∷ []) rest mid later a b h.2 l s t e refl m)

pub spent : {K A B : Type 0} (f : List A → B) (test : K → Bool) (p : Reader K A) (turns : ℕ) (ts : List K) (done : ℕ) (g : B) (rest : List K) (b : Bool) (s : Stop)
    → Gathered f test p turns ts done g rest → done ≡ turns → b ≡ starts test rest → b ≡ true → s ≡ stop_at Spent (length rest) → ◌≡◌ {A = Result (B × List K) Stop} (Err s) (counted (made f (many test p turns) ts))
spent f test p turns ts done g rest b s h l e t w =
    steps.stop f (many test p turns) ts s (loops.spent test p turns ts done h.0 rest b s h.2 l e t w)

pub fault : {K A B : Type 0} (f : List A → B) (test : K → Bool) (p : Reader K A) (turns : ℕ) (ts : List K) (done : ℕ) (g : B) (rest : List K) (b : Bool) (s : Stop)
    → Gathered f test p turns ts done g rest → (done ≡ turns → ⊥) → b ≡ starts test rest → b ≡ true → ◌≡◌ {A = Result (A × List K) Stop} (Err s) (counted (p rest)) → ◌≡◌ {A = Result (B × List K) Stop} (Err s) (counted (made f (many test p turns) ts))
fault f test p turns ts done g rest b s h l e t w =
    steps.stop f (many test p turns) ts s (loops.fault test p turns ts done h.0 rest b s h.2 l e t w)

pub stopped : {K A B : Type 0} (f : List A → B) (test : K → Bool) (p : Reader K A) (turns : ℕ) (ts : List K) (done : ℕ) (g : B) (rest : List K) (b : Bool)
    → Gathered f test p turns ts done g rest → b ≡ starts test rest → b ≡ false → ◌≡◌ {A = Result (B × List K) Stop} (Ok (g, rest)) (counted (made f (many test p turns) ts))
stopped f test p turns ts done g rest b h e t =
    ap (λ v. Ok (v, rest)) h.1 ∙ steps.got f (many test p turns) ts rest h.0 (loops.stopped test p turns ts done h.0 rest b h.2 e t)
