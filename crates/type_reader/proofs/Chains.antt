-- What a reading gives by what its parts give.
use Rattle.std.proofs.Common.{◌≡◌, ℕ, Bool, true, false, if◌then◌else◌, List, [], ◌∷◌, length, drop, Result, Ok, Err, refl, ap, ◌∙◌, sym}
use Rattle.std.specs.Borrow.{Bor}
use Rattle.grammar_words.specs.declared.stop.Why.{Why}
use Rattle.grammar_words.specs.declared.stop.Why.TheVariants.{Wrong}
use Rattle.grammar_words.specs.declared.stop.Stop.{Stop}
use Rattle.grammar_words.specs.Grammar.{starts}
use Rattle.grammar_words.specs.Reading.{Outcome, Got, Fault, Reader, after, turned, pair, chained, made, joined, first, second}
use Rattle.grammar_words.specs.Classes.{inside, tok, past, ended}
use Rattle.grammar_words.specs.Coded.{counted, stop_at}
use Rattle.grammar_words.proofs.Turns.{counted_ok, counted_fault}
use Rattle.mir_pieces.specs.Views.{read_view, token_view}

pub read_ok : {A K : Type 0} (o : Outcome K A) (r : Result (A × Bor (List K)) Stop) (v : A × Bor (List K)) → read_view r ≡ counted o → r ≡ Ok v → o ≡ Got v.0 v.1.now
read_ok o r v e i = counted_ok o v.0 v.1.now (sym (ap read_view i) ∙ e)

pub read_err : {A B K : Type 0} (o : Outcome K A) (q : Outcome K B) (r : Result (A × Bor (List K)) Stop) (s : Stop) → read_view r ≡ counted o → r ≡ Err s
    → ((why : Why) (rest : List K) → o ≡ Fault why rest → q ≡ Fault why rest) → ◌≡◌ {A = Result (B × List K) Stop} (Err s) (counted q)
read_err o q r s e i h = counted_fault o q s (sym (ap read_view i) ∙ e) h

pub made_got : {A B K : Type 0} (f : A → B) (p : Reader K A) (ts rest : List K) (a : A) → p ts ≡ Got a rest → made f p ts ≡ Got (f a) rest
unfolding made
made_got f p ts rest a e = ap (turned f) e

pub made_fault : {A B K : Type 0} (f : A → B) (p : Reader K A) (ts rest : List K) (why : Why) → p ts ≡ Fault why rest → made f p ts ≡ Fault why rest
unfolding made
made_fault f p ts rest why e = ap (turned f) e

pub joined_got : {A B K : Type 0} (p : Reader K A) (q : Reader K B) (ts mid rest : List K) (a : A) (b : B) → p ts ≡ Got a mid → q mid ≡ Got b rest → joined p q ts ≡ Got (a, b) rest
unfolding chained
joined_got {A} {B} {K} p q ts mid rest a b e f = ap (after (λ (x : A) (r : List K). turned (pair x) (q r))) e ∙ ap (turned (pair a)) f

pub joined_then : {A B K : Type 0} (p : Reader K A) (q : Reader K B) (ts mid rest : List K) (a : A) (why : Why) → p ts ≡ Got a mid → q mid ≡ Fault why rest → joined p q ts ≡ Fault why rest
unfolding chained
joined_then {A} {B} {K} p q ts mid rest a why e f = ap (after (λ (x : A) (r : List K). turned (pair x) (q r))) e ∙ ap (turned (pair a)) f

pub past_got : {A K : Type 0} (c : K → ℕ) (set : List ℕ) (p : Reader K A) (ts mid : List K) (x : K) → tok c set ts ≡ Got x mid → past c set p ts ≡ p mid
unfolding made chained
past_got {A} {K} c set p ts mid x e = ap (λ o. turned second (after (λ (y : K) (r : List K). turned (pair y) (p r)) o)) e ∙ twice (p mid)
  where
    twice : (o : Outcome K A) → turned second (turned (pair x) o) ≡ o
    twice (Got a r) = refl
    twice (Fault why r) = refl

-- where such a token comes, it is passed over
pub past_first : {A K : Type 0} (c : K → ℕ) (set : List ℕ) (p : Reader K A) (ts : List K) → starts (inside c set) ts ≡ true → past c set p ts ≡ p (drop 1 ts)
past_first c set p [] s = cc
past_first {A} {K} c set p (x ∷ ts) s = past_got c set p (x ∷ ts) ts x (first_token (inside c set x) s)
  where
    first_token : (b : Bool) → b ≡ true → ◌≡◌ {A = Outcome K K} (if b then Got x ts else Fault Wrong (x ∷ ts)) (Got x ts)
    first_token true h = refl
    first_token false h = cc

pub ended_got : {A K : Type 0} (c : K → ℕ) (set : List ℕ) (p : Reader K A) (ts mid rest : List K) (a : A) (x : K) → p ts ≡ Got a mid → tok c set mid ≡ Got x rest → ended c p set ts ≡ Got a rest
ended_got c set p ts mid rest a x e f = made_got first (joined p (tok c set)) ts rest (a, x) (joined_got p (tok c set) ts mid rest a x e f)

pub ended_fault : {A K : Type 0} (c : K → ℕ) (set : List ℕ) (p : Reader K A) (ts mid rest : List K) (a : A) (why : Why) → p ts ≡ Got a mid → tok c set mid ≡ Fault why rest → ended c p set ts ≡ Fault why rest
ended_fault c set p ts mid rest a why e f = made_fault first (joined p (tok c set)) ts rest why (joined_then p (tok c set) ts mid rest a why e f)

-- a fault that the code makes
pub stops : {A K : Type 0} (o : Outcome K A) (why : Why) (rest : List K) (s : Stop) → s ≡ stop_at why (length rest) → o ≡ Fault why rest → ◌≡◌ {A = Result (A × List K) Stop} (Err s) (counted o)
stops o why rest s e f = rw f (ap Err e)

-- a value that the code makes
pub gives : {A K : Type 0} (o : Outcome K A) (a : A) (rest : List K) → o ≡ Got a rest → ◌≡◌ {A = Result (A × List K) Stop} (Ok (a, rest)) (counted o)
gives o a rest f = rw f refl

pub token_ok : {K : Type 0} (o : Outcome K K) (r : Result (Bor K × Bor (List K)) Stop) (v : Bor K × Bor (List K)) → token_view r ≡ counted o → r ≡ Ok v → o ≡ Got v.0.now v.1.now
token_ok o r v e i = counted_ok o v.0.now v.1.now (sym (ap token_view i) ∙ e)

pub token_err : {B K : Type 0} (o : Outcome K K) (q : Outcome K B) (r : Result (Bor K × Bor (List K)) Stop) (s : Stop) → token_view r ≡ counted o → r ≡ Err s
    → ((why : Why) (rest : List K) → o ≡ Fault why rest → q ≡ Fault why rest) → ◌≡◌ {A = Result (B × List K) Stop} (Err s) (counted q)
token_err o q r s e i h = counted_fault o q s (sym (ap token_view i) ∙ e) h
