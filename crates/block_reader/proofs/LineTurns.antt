-- Loops of the code that read lines up to the last one.
use Rattle.std.proofs.Common.{◌≡◌, ℕ, zero, suc, ◌+◌, ◌-◌, ◌<◌, ◌≤◌, Bool, true, false, List, [], ◌∷◌, ◌++◌, length, Result, Ok, Err, refl, ap, ◌∙◌, sym, arith}
use Rattle.std.proofs.lemmas.List.{append_assoc, append-nil}
use Rattle.grammar_words.specs.declared.stop.Why.{Why}
use Rattle.grammar_words.specs.declared.stop.Why.TheVariants.{Spent}
use Rattle.grammar_words.specs.declared.stop.Stop.{Stop}
use Rattle.grammar_words.specs.Grammar.{Next, More, Last}
use Rattle.grammar_words.specs.Reading.{Outcome, Got, Fault, Reader, pair, second, turned, made, put, nothing, onward, until}
use Rattle.grammar_words.specs.Coded.{counted, stop_at}
use Rattle.grammar_words.proofs.Join.{chained_got, chained_fault}
use Rattle.grammar_words.proofs.Turns.{counted_ok, counted_fault}

-- lines before those that are read
abbrev pub ahead : {K S T : Type 0} → List S → Outcome K (List S × T) → Outcome K (List S × T)
ahead front o = turned (λ v. (front ++ v.0, v.1)) o

-- so many of the turns of `until` are made, with these lines, and the rest is still to be read
abbrev pub LinesSoFar : {K S T : Type 0} → Reader K (Next S T) → ℕ → List K → ℕ → List S → List K → Type 0
LinesSoFar p turns ts done front rest = (done ≤ turns) × (ahead front (until p (turns - done) rest) ≡ until p turns ts)

put_twice : {K S T : Type 0} (x : Next S T) (s : S) (o : Outcome K (List S × T)) → turned second (turned (pair x) (turned (put s) o)) ≡ turned (put s) o
put_twice x s (Got v r) = refl
put_twice x s (Fault why r) = refl

until_more : {K S T : Type 0} (p : Reader K (Next S T)) (n : ℕ) (ts rest : List K) (s : S) → p ts ≡ Got (More s) rest → until p (suc n) ts ≡ turned (put s) (until p n rest)
unfolding made
until_more {K} {S} {T} p n ts rest s e = ap (turned second) (chained_got p (onward (until p n)) ts rest (More s) e) ∙ put_twice {K = K} {S = S} {T = T} (More s) s (until p n rest)

until_last : {K S T : Type 0} (p : Reader K (Next S T)) (n : ℕ) (ts rest : List K) (t : T) → p ts ≡ Got (Last t) rest → until p (suc n) ts ≡ Got ([], t) rest
unfolding made
until_last p n ts rest t e = ap (turned second) (chained_got p (onward (until p n)) ts rest (Last t) e)

until_fault : {K S T : Type 0} (p : Reader K (Next S T)) (n : ℕ) (ts rest : List K) (why : Why) → p ts ≡ Fault why rest → until p (suc n) ts ≡ Fault why rest
unfolding made
until_fault p n ts rest why e = ap (turned second) (chained_fault p (onward (until p n)) ts rest why e)

ahead_put : {K S T : Type 0} (front : List S) (s : S) (o : Outcome K (List S × T)) → ahead front (turned (put s) o) ≡ ahead (front ++ s ∷ []) o
ahead_put front s (Got v rest) = ap (λ l. Got (l, v.1) rest) (sym (append_assoc front (s ∷ []) v.0))
ahead_put front s (Fault why rest) = refl

turns_left : (turns done : ℕ) → done < turns → turns - done ≡ suc (turns - (done + 1))
turns_left turns done h = omega arith

pub begin : {K S T : Type 0} (p : Reader K (Next S T)) (turns : ℕ) (ts : List K) (front : List S) → front ≡ [] → LinesSoFar p turns ts 0 front ts
begin {K} {S} {T} p turns ts front e = let z : turns - 0 ≡ turns = omega arith in (omega arith, rw (e, z) (none (until p turns ts)))
  where
    none : (o : Outcome K (List S × T)) → ahead [] o ≡ o
    none (Got v r) = refl
    none (Fault why r) = refl

pub more : {K S T : Type 0} (p : Reader K (Next S T)) (turns : ℕ) (ts : List K) (done : ℕ) (front new : List S) (rest mid later : List K) (s : S)
    → LinesSoFar p turns ts done front rest → done < turns → ◌≡◌ {A = Result (Next S T × List K) Stop} (Ok (More s, mid)) (counted (p rest)) → new ≡ front ++ s ∷ [] → later ≡ mid → LinesSoFar p turns ts (done + 1) new later
more p turns ts done front new rest mid later s h l e n m = (
  omega (arith, l),
  rw n (sym (ahead_put front s (until p (turns - (done + 1)) later))
      ∙ (ap (ahead front) (sym (until_more p (turns - (done + 1)) rest later s (counted_ok (p rest) (More s) mid e ∙ ap (λ r. Got (More s) r) (sym m))) ∙ ap (λ k. until p k rest) (sym (turns_left turns done l))) ∙ h.1)),
)

pub last : {K S T : Type 0} (p : Reader K (Next S T)) (turns : ℕ) (ts : List K) (done : ℕ) (front : List S) (rest later : List K) (t : T)
    → LinesSoFar p turns ts done front rest → done < turns → ◌≡◌ {A = Result (Next S T × List K) Stop} (Ok (Last t, later)) (counted (p rest)) → ◌≡◌ {A = Result ((List S × T) × List K) Stop} (Ok ((front, t), later)) (counted (until p turns ts))
last p turns ts done front rest later t h l e =
    let g = sym h.1 ∙ (ap (ahead front) (ap (λ k. until p k rest) (turns_left turns done l) ∙ until_last p (turns - (done + 1)) rest later t (counted_ok (p rest) (Last t) later e)) ∙ ap (λ f. Got (f, t) later) (append-nil front)) in
    rw g refl

pub fault : {K S T : Type 0} (p : Reader K (Next S T)) (turns : ℕ) (ts : List K) (done : ℕ) (front : List S) (rest : List K) (s : Stop)
    → LinesSoFar p turns ts done front rest → done < turns → ◌≡◌ {A = Result (Next S T × List K) Stop} (Err s) (counted (p rest)) → ◌≡◌ {A = Result ((List S × T) × List K) Stop} (Err s) (counted (until p turns ts))
fault p turns ts done front rest s h l e =
    counted_fault (p rest) (until p turns ts) s e (λ why end g. sym h.1 ∙ ap (ahead front) (ap (λ k. until p k rest) (turns_left turns done l) ∙ until_fault p (turns - (done + 1)) rest end why g))

pub spent : {K S T : Type 0} (p : Reader K (Next S T)) (turns : ℕ) (ts : List K) (done : ℕ) (front : List S) (rest : List K) (s : Stop)
    → LinesSoFar p turns ts done front rest → turns ≤ done → s ≡ stop_at Spent (length rest) → ◌≡◌ {A = Result ((List S × T) × List K) Stop} (Err s) (counted (until p turns ts))
spent p turns ts done front rest s h l w =
    let z : turns - done ≡ 0 = omega arith in
    let g = sym h.1 ∙ ap (ahead front) (ap (λ k. until p k rest) z) in
    rw g (ap (λ u. Err u) w)
