-- Loops of the code that read a part any number of times.
use Rattle.std.proofs.Common.{◌≡◌, ℕ, zero, suc, ◌<◌, ◌≤◌, ◌+◌, ◌-◌, Bool, true, false, List, [], ◌∷◌, ◌++◌, length, Result, Ok, Err, refl, ap, ◌∙◌, sym, arith}
use Rattle.std.proofs.lemmas.List.{append_assoc, append-nil}
use Rattle.grammar_words.specs.declared.stop.Why.{Why}
use Rattle.grammar_words.specs.declared.stop.Why.TheVariants.{Spent}
use Rattle.grammar_words.specs.declared.stop.Stop.{Stop}
use Rattle.grammar_words.specs.Grammar.{starts}
use Rattle.grammar_words.specs.Reading.{Outcome, Got, Fault, Reader, pair, turned, made, joined, nothing, spent, cons, many}
use Rattle.grammar_words.specs.Coded.{counted, stop_at, behind, SoFar}
use Rattle.grammar_words.proofs.Pick.{chosen_true, chosen_false}
use Rattle.grammar_words.proofs.Join.{chained_got, chained_fault}

-- how `many` goes on with a part
many_got : {K A : Type 0} (test : K → Bool) (p : Reader K A) (n : ℕ) (ts rest : List K) (a : A) → starts test ts ≡ true → p ts ≡ Got a rest → many test p (suc n) ts ≡ turned (λ as_. a ∷ as_) (many test p n rest)
unfolding made
many_got {K} {A} test p n ts rest a s e =
    chosen_true (starts test) (made cons (joined p (many test p n))) (nothing []) ts s
    ∙ (ap (turned cons) (chained_got p (λ b. many test p n) ts rest a e) ∙ twice (many test p n rest))
  where
    twice : (o : Outcome K (List A)) → turned cons (turned (pair a) o) ≡ turned (λ as_. a ∷ as_) o
    twice (Got as_ r) = refl
    twice (Fault why r) = refl

many_fault : {K A : Type 0} (test : K → Bool) (p : Reader K A) (n : ℕ) (ts rest : List K) (why : Why) → starts test ts ≡ true → p ts ≡ Fault why rest → many test p (suc n) ts ≡ Fault why rest
unfolding made
many_fault test p n ts rest why s e =
    chosen_true (starts test) (made cons (joined p (many test p n))) (nothing []) ts s ∙ ap (turned cons) (chained_fault p (λ b. many test p n) ts rest why e)

many_stop : {K A : Type 0} (test : K → Bool) (p : Reader K A) (n : ℕ) (ts : List K) → starts test ts ≡ false → many test p n ts ≡ Got [] ts
many_stop test p zero ts s = chosen_false (starts test) spent (nothing []) ts s
many_stop test p (suc n) ts s = chosen_false (starts test) (made cons (joined p (many test p n))) (nothing []) ts s

behind_more : {K A : Type 0} (front : List A) (a : A) (o : Outcome K (List A)) → behind front (turned (λ as_. a ∷ as_) o) ≡ behind (front ++ a ∷ []) o
behind_more front a (Got as_ rest) = ap (λ l. Got l rest) (sym (append_assoc front (a ∷ []) as_))
behind_more front a (Fault why rest) = refl

pub so_far_begin : {K A : Type 0} (test : K → Bool) (p : Reader K A) (turns : ℕ) (ts : List K) (front : List A) → front ≡ [] → SoFar test p turns ts 0 front ts
so_far_begin {K} {A} test p turns ts front e = let z : turns - 0 ≡ turns = omega arith in (omega arith, rw (e, z) (none (many test p turns ts)))
  where
    none : (o : Outcome K (List A)) → behind [] o ≡ o
    none (Got as_ r) = refl
    none (Fault why r) = refl

turns_left : (turns done : ℕ) → done < turns → turns - done ≡ suc (turns - (done + 1))
turns_left turns done h = omega arith

pub so_far_more : {K A : Type 0} (test : K → Bool) (p : Reader K A) (turns : ℕ) (ts : List K) (done : ℕ) (front new : List A) (rest later : List K) (a : A)
    → SoFar test p turns ts done front rest → done < turns → starts test rest ≡ true → p rest ≡ Got a later → new ≡ front ++ a ∷ [] → SoFar test p turns ts (done + 1) new later
so_far_more test p turns ts done front new rest later a h l s e n = (
  omega arith,
  rw n (sym (behind_more front a (many test p (turns - (done + 1)) later))
      ∙ (ap (behind front) (sym (many_got test p (turns - (done + 1)) rest later a s e) ∙ ap (λ k. many test p k rest) (sym (turns_left turns done l))) ∙ h.1)),
)

pub so_far_stop : {K A : Type 0} (test : K → Bool) (p : Reader K A) (turns : ℕ) (ts : List K) (done : ℕ) (front : List A) (rest : List K)
    → SoFar test p turns ts done front rest → starts test rest ≡ false → many test p turns ts ≡ Got front rest
so_far_stop test p turns ts done front rest h s = sym h.1 ∙ (ap (behind front) (many_stop test p (turns - done) rest s) ∙ ap (λ l. Got l rest) (append-nil front))

pub so_far_fault : {K A : Type 0} (test : K → Bool) (p : Reader K A) (turns : ℕ) (ts : List K) (done : ℕ) (front : List A) (rest end : List K) (why : Why)
    → SoFar test p turns ts done front rest → done < turns → starts test rest ≡ true → p rest ≡ Fault why end → many test p turns ts ≡ Fault why end
so_far_fault test p turns ts done front rest end why h l s e =
    sym h.1 ∙ ap (behind front) (ap (λ k. many test p k rest) (turns_left turns done l) ∙ many_fault test p (turns - (done + 1)) rest end why s e)

pub so_far_spent : {K A : Type 0} (test : K → Bool) (p : Reader K A) (turns : ℕ) (ts : List K) (done : ℕ) (front : List A) (rest : List K)
    → SoFar test p turns ts done front rest → turns ≤ done → starts test rest ≡ true → many test p turns ts ≡ Fault Spent rest
so_far_spent test p turns ts done front rest h l s =
    let z : turns - done ≡ 0 = omega arith in
    sym h.1 ∙ ap (behind front) (ap (λ k. many test p k rest) z ∙ chosen_true (starts test) spent (nothing []) rest s)

pub counted_ok : {K A : Type 0} (o : Outcome K A) (a : A) (rest : List K) → ◌≡◌ {A = Result (A × List K) Stop} (Ok (a, rest)) (counted o) → o ≡ Got a rest
counted_ok {K} {A} (Got b r) a rest e =
    let h : ◌≡◌ {A = A × List K} (a, rest) (b, r) = cc in rw (ap (λ v. v.0) h) (rw (ap (λ v. v.1) h) refl)
counted_ok (Fault why r) a rest e = cc

-- a fault of a part is the fault of what it is a part of
pub counted_fault : {K A B : Type 0} (o : Outcome K A) (q : Outcome K B) (s : Stop) → ◌≡◌ {A = Result (A × List K) Stop} (Err s) (counted o)
    → ((why : Why) (rest : List K) → o ≡ Fault why rest → q ≡ Fault why rest) → ◌≡◌ {A = Result (B × List K) Stop} (Err s) (counted q)
counted_fault (Got b r) q s e h = cc
counted_fault {K} {A} {B} (Fault why r) q s e h = let n : s ≡ stop_at why (length r) = (cc) in rw (h why r refl) (ap (λ t. Err t) n)
