-- How a reader goes on behind one of its parts.
use Rattle.std.proofs.Common.{◌≡◌, ℕ, List, Result, Ok, Err, refl, ap, ◌∙◌, sym}
use Rattle.grammar_words.specs.declared.stop.Stop.{Stop}
use Rattle.grammar_words.specs.Reading.{Outcome, Got, Fault, Reader, pair, first, second, after, turned, chained, joined, made}
use Rattle.grammar_words.specs.Classes.{tok, past, ended}
use Rattle.grammar_words.specs.Coded.{counted}
use Rattle.grammar_words.proofs.Join.{chained_got, chained_fault}
use Rattle.grammar_words.proofs.Turns.{counted_ok, counted_fault}

twice : {K A B C : Type 0} (f : B → C) (g : A → B) (o : Outcome K A) → turned f (turned g o) ≡ turned (λ a. f (g a)) o
twice f g (Got a rest) = refl
twice f g (Fault why rest) = refl

pub joined_on : {K A B C : Type 0} (f : A × B → C) (p : Reader K A) (q : Reader K B) (ts mid : List K) (a : A) → ◌≡◌ {A = Result (A × List K) Stop} (Ok (a, mid)) (counted (p ts)) → made f (joined p q) ts ≡ made (λ b. f (a, b)) q mid
unfolding made
joined_on f p q ts mid a e = ap (turned f) (chained_got p (λ b. q) ts mid a (counted_ok (p ts) a mid e)) ∙ twice f (pair a) (q mid)

pub past_on : {K A B : Type 0} (f : A → B) (c : K → ℕ) (set : List ℕ) (p : Reader K A) (ts mid : List K) (t : K) → ◌≡◌ {A = Result (K × List K) Stop} (Ok (t, mid)) (counted (tok c set ts)) → made f (past c set p) ts ≡ made f p mid
unfolding made
past_on f c set p ts mid t e = twice f second (joined (tok c set) p ts) ∙ joined_on (λ v. f v.1) (tok c set) p ts mid t e

pub ended_on : {K A B : Type 0} (f : A → B) (c : K → ℕ) (set : List ℕ) (p : Reader K A) (ts mid : List K) (a : A) → ◌≡◌ {A = Result (A × List K) Stop} (Ok (a, mid)) (counted (p ts)) → made f (ended c p set) ts ≡ made (λ t. f a) (tok c set) mid
unfolding made
ended_on f c set p ts mid a e = twice f first (joined p (tok c set) ts) ∙ joined_on (λ v. f v.0) p (tok c set) ts mid a e

pub made_on : {K A B C : Type 0} (f : B → C) (g : A → B) (p : Reader K A) (ts : List K) → made f (made g p) ts ≡ made (λ a. f (g a)) p ts
unfolding made
made_on f g p ts = twice f g (p ts)

pub got : {K A B : Type 0} (f : A → B) (p : Reader K A) (ts mid : List K) (a : A) → ◌≡◌ {A = Result (A × List K) Stop} (Ok (a, mid)) (counted (p ts)) → ◌≡◌ {A = Result (B × List K) Stop} (Ok (f a, mid)) (counted (made f p ts))
unfolding made
got f p ts mid a e = rw (counted_ok (p ts) a mid e) refl

pub stop : {K A B : Type 0} (f : A → B) (p : Reader K A) (ts : List K) (s : Stop) → ◌≡◌ {A = Result (A × List K) Stop} (Err s) (counted (p ts)) → ◌≡◌ {A = Result (B × List K) Stop} (Err s) (counted (made f p ts))
unfolding made
stop f p ts s e = counted_fault (p ts) (made f p ts) s e (λ why rest g. ap (turned f) g)

pub joined_stop : {K A B C : Type 0} (f : A × B → C) (p : Reader K A) (q : Reader K B) (ts : List K) (s : Stop) → ◌≡◌ {A = Result (A × List K) Stop} (Err s) (counted (p ts)) → ◌≡◌ {A = Result (C × List K) Stop} (Err s) (counted (made f (joined p q) ts))
unfolding made
joined_stop f p q ts s e = counted_fault (p ts) (made f (joined p q) ts) s e (λ why rest g. ap (turned f) (chained_fault p (λ b. q) ts rest why g))
