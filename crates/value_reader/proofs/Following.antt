-- What stands behind a part, and before one.
use Rattle.std.proofs.Common.{◌≡◌, ℕ, List, Result, Ok, Err, refl, ap, ◌∙◌, sym}
use Rattle.grammar_words.specs.declared.stop.Why.{Why}
use Rattle.grammar_words.specs.declared.stop.Stop.{Stop}
use Rattle.grammar_words.specs.Reading.{Outcome, Got, Fault, Reader, pair, after, turned, made, joined, chained, first, second}
use Rattle.grammar_words.specs.Classes.{tok, past, ended}
use Rattle.grammar_words.specs.Coded.{counted}
use Rattle.grammar_words.proofs.Turns.{counted_fault}
use Rattle.value_pieces.proofs.Going.{joined_by, turned_ok, turned_stop}

same_turned : {K A : Type 0} (o : Outcome K A) → turned (λ b. b) o ≡ o
same_turned (Got b r) = refl
same_turned (Fault why r) = refl

-- the answer of what follows a token is that of both
pub past_by : {K A : Type 0} (c : K → ℕ) (set : List ℕ) (q : Reader K A) (ts rest : List K) (t : K) (r : Result (A × List K) Stop)
    → ◌≡◌ {A = Result (K × List K) Stop} (Ok (t, rest)) (counted (tok c set ts)) → r ≡ counted (q rest) → r ≡ counted (past c set q ts)
past_by c set q ts rest t r e h = joined_by second (tok c set) q ts rest t r e (h ∙ ap counted (sym (same_turned (q rest))))

joined_faults : {K A B C : Type 0} (f : A × B → C) (p : Reader K A) (q : Reader K B) (ts : List K) (why : Why) (end : List K) → p ts ≡ Fault why end → made f (joined p q) ts ≡ Fault why end
unfolding made chained
joined_faults f p q ts why end h = ap (λ o. turned f (after (λ x r. turned (pair x) (q r)) o)) h

-- the fault of the first of two parts is that of both
pub joined_stop : {K A B C : Type 0} (f : A × B → C) (p : Reader K A) (q : Reader K B) (ts : List K) (s : Stop)
    → ◌≡◌ {A = Result (A × List K) Stop} (Err s) (counted (p ts)) → ◌≡◌ {A = Result (C × List K) Stop} (Err s) (counted (made f (joined p q) ts))
joined_stop f p q ts s e = counted_fault (p ts) (made f (joined p q) ts) s e (λ why end h. joined_faults f p q ts why end h)

-- both parts are read
pub joined_ok : {K A B C : Type 0} (f : A × B → C) (p : Reader K A) (q : Reader K B) (ts mid end : List K) (a : A) (b : B) (x : C)
    → ◌≡◌ {A = Result (A × List K) Stop} (Ok (a, mid)) (counted (p ts)) → ◌≡◌ {A = Result (B × List K) Stop} (Ok (b, end)) (counted (q mid)) → x ≡ f (a, b)
    → ◌≡◌ {A = Result (C × List K) Stop} (Ok (x, end)) (counted (made f (joined p q) ts))
joined_ok f p q ts mid end a b x e g h = joined_by f p q ts mid a _ e (turned_ok (λ y. f (a, y)) (q mid) b x end g h)

-- the first is read, and the second is at fault
pub joined_late : {K A B C : Type 0} (f : A × B → C) (p : Reader K A) (q : Reader K B) (ts mid : List K) (a : A) (s : Stop)
    → ◌≡◌ {A = Result (A × List K) Stop} (Ok (a, mid)) (counted (p ts)) → ◌≡◌ {A = Result (B × List K) Stop} (Err s) (counted (q mid)) → ◌≡◌ {A = Result (C × List K) Stop} (Err s) (counted (made f (joined p q) ts))
joined_late f p q ts mid a s e g = joined_by f p q ts mid a _ e (turned_stop (λ y. f (a, y)) (q mid) s g)

-- a part with a token behind it
pub ended_ok : {K A : Type 0} (c : K → ℕ) (p : Reader K A) (set : List ℕ) (ts mid end : List K) (a : A) (t : K)
    → ◌≡◌ {A = Result (A × List K) Stop} (Ok (a, mid)) (counted (p ts)) → ◌≡◌ {A = Result (K × List K) Stop} (Ok (t, end)) (counted (tok c set mid)) → ◌≡◌ {A = Result (A × List K) Stop} (Ok (a, end)) (counted (ended c p set ts))
ended_ok c p set ts mid end a t e g = joined_ok first p (tok c set) ts mid end a t a e g refl

pub ended_late : {K A : Type 0} (c : K → ℕ) (p : Reader K A) (set : List ℕ) (ts mid : List K) (a : A) (s : Stop)
    → ◌≡◌ {A = Result (A × List K) Stop} (Ok (a, mid)) (counted (p ts)) → ◌≡◌ {A = Result (K × List K) Stop} (Err s) (counted (tok c set mid)) → ◌≡◌ {A = Result (A × List K) Stop} (Err s) (counted (ended c p set ts))
ended_late c p set ts mid a s e g = joined_late first p (tok c set) ts mid a s e g

pub ended_stop : {K A : Type 0} (c : K → ℕ) (p : Reader K A) (set : List ℕ) (ts : List K) (s : Stop)
    → ◌≡◌ {A = Result (A × List K) Stop} (Err s) (counted (p ts)) → ◌≡◌ {A = Result (A × List K) Stop} (Err s) (counted (ended c p set ts))
ended_stop c p set ts s e = joined_stop first p (tok c set) ts s e
