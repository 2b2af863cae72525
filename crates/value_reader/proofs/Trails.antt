-- Loops over parts with a token between each two and perhaps one behind them.
use Rattle.std.proofs.Common.{◌≡◌, ℕ, zero, suc, ◌<◌, ◌+◌, ◌-◌, Bool, true, false, List, [], ◌∷◌, ◌++◌, length, Option, Some, None, Result, Ok, Err, if◌then◌else◌, refl, ap, ◌∙◌, sym, subst, arith}
use Rattle.std.proofs.lemmas.List.{append_assoc, append-nil}
use Rattle.grammar_words.specs.declared.stop.Why.TheVariants.{Spent}
use Rattle.grammar_words.specs.declared.stop.Stop.{Stop}
use Rattle.grammar_words.specs.Grammar.{starts}
use Rattle.grammar_words.specs.Reading.{Outcome, Got, Fault, Reader, pair, after, turned, made, joined, chained, choose, pick, nothing, spent, second}
use Rattle.grammar_words.specs.Classes.{inside, tok, past, lead, trail}
use Rattle.grammar_words.specs.Coded.{counted, stop_at}
use Rattle.grammar_words.proofs.Pick.{chosen_true, chosen_false}
use Rattle.grammar_words.proofs.Turns.{counted_ok, counted_fault}
use Rattle.value_pieces.proofs.Going.{pair_turned}
use Rattle.value_reader.specs.Trailing.{next_or_end, led, Trailing}

-- what is read behind a part or none
abbrev goes_on : {K A : Type 0} → Reader K (List A × Bool) → Option A → Reader K (List A × Bool)
goes_on r (Some a) ts = turned (λ v. lead (a, v)) (r ts)
goes_on r None ts = Got ([], true) ts

second_pair : {K A B : Type 0} (a : A) (o : Outcome K B) → turned second (turned (pair a) o) ≡ o
second_pair a (Got b r) = refl
second_pair a (Fault why r) = refl

past_on : {K A B : Type 0} (g : Option A → Reader K B) (long : Reader K B) (short : Reader K (Option A)) (o : Outcome K K) → ((r : List K) → long r ≡ after g (short r))
    → turned second (after (λ t r. turned (pair t) (long r)) o) ≡ after g (turned second (after (λ t r. turned (pair t) (short r)) o))
past_on g long short (Got t r) h = second_pair t (long r) ∙ (h r ∙ ap (after g) (sym (second_pair t (short r))))
past_on g long short (Fault why r) h = refl

part_on : {K A : Type 0} (r : Reader K (List A × Bool)) (o : Outcome K A) → turned lead (after (λ a rest. turned (pair a) (r rest)) o) ≡ after (goes_on r) (turned Some o)
part_on r (Got a rest) = pair_turned lead a (r rest)
part_on r (Fault why rest) = refl

pick_on : {K A : Type 0} (s : Bool) (r : Reader K (List A × Bool)) (o : Outcome K A) (ts : List K)
    → (if s then turned lead (after (λ a rest. turned (pair a) (r rest)) o) else Got ([], true) ts) ≡ after (goes_on r) (if s then turned Some o else Got None ts)
pick_on true r o ts = part_on r o
pick_on false r o ts = refl

trail_on : {K A : Type 0} (c : K → ℕ) (b k : List ℕ) (p : Reader K A) (r : Reader K (List A × Bool)) (ts : List K)
    → past c k (pick (inside c b) (made lead (joined p r)) (nothing ([], true))) ts ≡ after (goes_on r) (next_or_end c b k p ts)
unfolding made chained choose
trail_on c b k p r ts = past_on (goes_on r) (λ us. if starts (inside c b) us then turned lead (after (λ a rest. turned (pair a) (r rest)) (p us)) else Got ([], true) us)
    (λ us. if starts (inside c b) us then turned Some (p us) else Got None us) (tok c k ts) (λ us. pick_on (starts (inside c b) us) r (p us) us)

trail_more : {K A : Type 0} (c : K → ℕ) (b k : List ℕ) (p : Reader K A) (n : ℕ) (ts : List K) → starts (inside c k) ts ≡ true
    → trail c b k p (suc n) ts ≡ after (goes_on (trail c b k p n)) (next_or_end c b k p ts)
trail_more c b k p n ts h = chosen_true (starts (inside c k)) _ (nothing ([], false)) ts h ∙ trail_on c b k p (trail c b k p n) ts

trail_stop : {K A : Type 0} (c : K → ℕ) (b k : List ℕ) (p : Reader K A) (n : ℕ) (ts : List K) → starts (inside c k) ts ≡ false → trail c b k p n ts ≡ Got ([], false) ts
trail_stop c b k p zero ts h = chosen_false (starts (inside c k)) spent (nothing ([], false)) ts h
trail_stop c b k p (suc n) ts h = chosen_false (starts (inside c k)) _ (nothing ([], false)) ts h

turns_left : (turns done : ℕ) → done < turns → turns - done ≡ suc (turns - (done + 1))
turns_left turns done h = omega arith

twice : {K A B C : Type 0} (f : B → C) (g : A → B) (h : A → C) (o : Outcome K A) → ((a : A) → f (g a) ≡ h a) → turned f (turned g o) ≡ turned h o
twice f g h (Got a r) e = ap (λ x. Got x r) (e a)
twice f g h (Fault why r) e = refl

pub trailing_begin : {K A B : Type 0} (c : K → ℕ) (b k : List ℕ) (p : Reader K A) (turns : ℕ) (f : List A × Bool → B) (ts : List K) → Trailing c b k p turns (turned f (trail c b k p turns ts)) 0 f ts
trailing_begin c b k p turns f ts = let z : turns - 0 ≡ turns = omega arith in record { within = omega arith; goes = rw z refl }

goes_further : {K A B : Type 0} {c : K → ℕ} {b k : List ℕ} {p : Reader K A} {turns : ℕ} {wanted : Outcome K B} {done : ℕ} {f : List A × Bool → B} {rest : List K}
    → Trailing c b k p turns wanted done f rest → done < turns → starts (inside c k) rest ≡ true
    → turned f (after (goes_on (trail c b k p (turns - (done + 1)))) (next_or_end c b k p rest)) ≡ wanted
goes_further {c = c} {b = b} {k = k} {p = p} {turns = turns} {done = done} {f = f} {rest = rest} h l s =
    ap (turned f) (sym (trail_more c b k p (turns - (done + 1)) rest s) ∙ ap (λ n. trail c b k p n rest) (sym (turns_left turns done l))) ∙ h.goes

pub trailing_more : {K A B : Type 0} {c : K → ℕ} {b k : List ℕ} {p : Reader K A} {turns : ℕ} {wanted : Outcome K B} {done : ℕ} {f : List A × Bool → B} {rest : List K} (g : List A × Bool → B) (later : List K) (a : A)
    → Trailing c b k p turns wanted done f rest → ((done ≡ turns) → ⊥) → starts (inside c k) rest ≡ true → ◌≡◌ {A = Result (Option A × List K) Stop} (Ok (Some a, later)) (counted (next_or_end c b k p rest))
    → ((v : List A × Bool) → f (lead (a, v)) ≡ g v) → Trailing c b k p turns wanted (done + 1) g later
trailing_more {c = c} {b = b} {k = k} {p = p} {turns = turns} {done = done} {f = f} {rest = rest} g later a h l s e n =
    let within = h.within in
    let less : done < turns = omega arith in record {
      within = omega arith;
      goes = sym (twice f (λ v. lead (a, v)) g (trail c b k p (turns - (done + 1)) later) n)
          ∙ (ap (λ o. turned f (after (goes_on (trail c b k p (turns - (done + 1)))) o)) (sym (counted_ok (next_or_end c b k p rest) (Some a) later e)) ∙ goes_further h less s);
    }

pub trailing_last : {K A B : Type 0} {c : K → ℕ} {b k : List ℕ} {p : Reader K A} {turns : ℕ} {wanted : Outcome K B} {done : ℕ} {f : List A × Bool → B} {rest : List K} (later : List K) (x : B)
    → Trailing c b k p turns wanted done f rest → ((done ≡ turns) → ⊥) → starts (inside c k) rest ≡ true → ◌≡◌ {A = Result (Option A × List K) Stop} (Ok (None, later)) (counted (next_or_end c b k p rest))
    → x ≡ f ([], true) → ◌≡◌ {A = Result (B × List K) Stop} (Ok (x, later)) (counted wanted)
trailing_last {A = A} {c = c} {b = b} {k = k} {p = p} {turns = turns} {done = done} {f = f} {rest = rest} later x h l s e n =
    let within = h.within in
    let less : done < turns = omega arith in
    rw n (ap counted (ap (λ o. turned f (after (goes_on (trail c b k p (turns - (done + 1)))) o)) (sym (counted_ok (next_or_end c b k p rest) None later e)) ∙ goes_further h less s))

pub trailing_end : {K A B : Type 0} {c : K → ℕ} {b k : List ℕ} {p : Reader K A} {turns : ℕ} {wanted : Outcome K B} {done : ℕ} {f : List A × Bool → B} {rest : List K} (x : B)
    → Trailing c b k p turns wanted done f rest → starts (inside c k) rest ≡ false → x ≡ f ([], false) → ◌≡◌ {A = Result (B × List K) Stop} (Ok (x, rest)) (counted wanted)
trailing_end {c = c} {b = b} {k = k} {p = p} {turns = turns} {done = done} {f = f} {rest = rest} x h s n =
    rw n (ap counted (ap (turned f) (sym (trail_stop c b k p (turns - done) rest s)) ∙ h.goes))

pub trailing_fault : {K A B : Type 0} {c : K → ℕ} {b k : List ℕ} {p : Reader K A} {turns : ℕ} {wanted : Outcome K B} {done : ℕ} {f : List A × Bool → B} {rest : List K} (stop : Stop)
    → Trailing c b k p turns wanted done f rest → ((done ≡ turns) → ⊥) → starts (inside c k) rest ≡ true → ◌≡◌ {A = Result (Option A × List K) Stop} (Err stop) (counted (next_or_end c b k p rest))
    → ◌≡◌ {A = Result (B × List K) Stop} (Err stop) (counted wanted)
trailing_fault {c = c} {b = b} {k = k} {p = p} {turns = turns} {wanted = wanted} {done = done} {f = f} {rest = rest} stop h l s e =
    let within = h.within in
    let less : done < turns = omega arith in
    counted_fault (next_or_end c b k p rest) wanted stop e (λ why end g. sym (goes_further h less s) ∙ ap (λ o. turned f (after (goes_on (trail c b k p (turns - (done + 1)))) o)) g)

pub trailing_spent : {K A B : Type 0} {c : K → ℕ} {b k : List ℕ} {p : Reader K A} {turns : ℕ} {wanted : Outcome K B} {done : ℕ} {f : List A × Bool → B} {rest : List K} (stop : Stop)
    → Trailing c b k p turns wanted done f rest → done ≡ turns → starts (inside c k) rest ≡ true → stop ≡ stop_at Spent (length rest) → ◌≡◌ {A = Result (B × List K) Stop} (Err stop) (counted wanted)
trailing_spent {c = c} {b = b} {k = k} {p = p} {turns = turns} {done = done} {f = f} {rest = rest} stop h l s e =
    let z : turns - done ≡ 0 = omega arith in
    rw e (ap counted (ap (turned f) (sym (ap (λ n. trail c b k p n rest) z ∙ chosen_true (starts (inside c k)) spent (nothing ([], false)) rest s)) ∙ h.goes))

pub led_more : {A : Type 0} (front new : List A) (a : A) (v : List A × Bool) → new ≡ front ++ a ∷ [] → led front (lead (a, v)) ≡ led new v
led_more front new a v e = rw e (ap (λ l. (l, v.1)) (sym (append_assoc front (a ∷ []) v.0)))

pub led_end : {A : Type 0} (items all : List A) (comma : Bool) → all ≡ items → ◌≡◌ {A = List A × Bool} (all, comma) (led items ([], comma))
led_end items all comma e = ap (λ l. (l, comma)) (e ∙ sym (append-nil items))

pub trailing_first : {K A : Type 0} (c : K → ℕ) (b k : List ℕ) (p : Reader K A) (turns : ℕ) (ts : List K) (first : A) (front empty : List A) → front ≡ empty ++ first ∷ [] → empty ≡ []
    → Trailing c b k p turns (turned (λ more. lead (first, more)) (trail c b k p turns ts)) 0 (led front) ts
trailing_first c b k p turns ts first front empty e f = subst (λ x. Trailing c b k p turns (turned (λ more. lead (first, more)) (trail c b k p turns ts)) 0 (led x) ts)
    (sym (e ∙ ap (λ l. l ++ first ∷ []) f)) (trailing_begin c b k p turns (led (first ∷ [])) ts)
