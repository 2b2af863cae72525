-- Loops that make something of parts on the way.
use Rattle.std.proofs.Common.{◌≡◌, ℕ, ◌<◌, ◌+◌, ◌-◌, Bool, true, false, List, [], ◌∷◌, length, Result, Ok, Err, refl, ap, ◌∙◌, sym, arith}
use Rattle.grammar_words.specs.declared.stop.Why.{Why}
use Rattle.grammar_words.specs.declared.stop.Why.TheVariants.{Spent}
use Rattle.grammar_words.specs.declared.stop.Stop.{Stop}
use Rattle.grammar_words.specs.Grammar.{starts}
use Rattle.grammar_words.specs.Reading.{Outcome, Got, Fault, Reader, pair, after, turned, made, joined, chained, many}
use Rattle.grammar_words.specs.Coded.{behind, counted, stop_at}
use Rattle.grammar_words.proofs.Turns.{so_far_begin, so_far_more, so_far_stop, so_far_fault, so_far_spent, counted_ok, counted_fault}
use Rattle.value_pieces.specs.Onward.{Onward}

turned_behind : {K A B : Type 0} (f g : List A → B) (a : A) (o : Outcome K (List A)) → ((as_ : List A) → f (a ∷ as_) ≡ g as_) → turned f (behind (a ∷ []) o) ≡ turned g o
turned_behind f g a (Got as_ r) h = ap (λ b. Got b r) (h as_)
turned_behind f g a (Fault why r) h = refl

pub onward_begin : {K A B : Type 0} (test : K → Bool) (p : Reader K A) (turns : ℕ) (f : List A → B) (ts : List K) → Onward test p turns (turned f (many test p turns ts)) 0 f ts
onward_begin test p turns f ts = let z : turns - 0 ≡ turns = omega arith in record { within = omega arith; goes = rw z refl }

less_one : (turns done : ℕ) → (turns - done) - 1 ≡ turns - (done + 1)
less_one turns done = omega arith

pub onward_more : {K A B : Type 0} {test : K → Bool} {p : Reader K A} {turns : ℕ} {wanted : Outcome K B} {done : ℕ} {f : List A → B} {rest : List K} (g : List A → B) (later : List K) (a : A)
    → Onward test p turns wanted done f rest → ((done ≡ turns) → ⊥) → starts test rest ≡ true → ◌≡◌ {A = Result (A × List K) Stop} (Ok (a, later)) (counted (p rest)) → ((as_ : List A) → f (a ∷ as_) ≡ g as_)
    → Onward test p turns wanted (done + 1) g later
onward_more {test = test} {p = p} {turns = turns} {done = done} {f = f} {rest = rest} g later a h l s e n =
    let within = h.within in
    let less : done < turns = omega arith in
    let step = so_far_more test p (turns - done) rest 0 [] (a ∷ []) rest later a (so_far_begin test p (turns - done) rest [] refl) (omega arith) s (counted_ok (p rest) a later e) refl in record {
      within = omega arith;
      goes = sym (turned_behind f g a (many test p (turns - (done + 1)) later) n)
          ∙ (ap (turned f) (ap (λ k. behind (a ∷ []) (many test p k later)) (sym (less_one turns done)) ∙ step.1) ∙ h.goes);
    }

onward_stop : {K A B : Type 0} {test : K → Bool} {p : Reader K A} {turns : ℕ} {wanted : Outcome K B} {done : ℕ} {f : List A → B} {rest : List K}
    → Onward test p turns wanted done f rest → starts test rest ≡ false → wanted ≡ Got (f []) rest
onward_stop {test = test} {p = p} {turns = turns} {done = done} {f = f} {rest = rest} h s =
    sym h.goes ∙ ap (turned f) (so_far_stop test p (turns - done) rest 0 [] rest (so_far_begin test p (turns - done) rest [] refl) s)

pub onward_end : {K A B : Type 0} {test : K → Bool} {p : Reader K A} {turns : ℕ} {wanted : Outcome K B} {done : ℕ} {f : List A → B} {rest : List K} (v : B)
    → Onward test p turns wanted done f rest → starts test rest ≡ false → v ≡ f [] → ◌≡◌ {A = Result (B × List K) Stop} (Ok (v, rest)) (counted wanted)
onward_end {B = B} {rest = rest} v h s e = rw e (ap counted (sym (onward_stop h s)))

onward_faults : {K A B : Type 0} {test : K → Bool} {p : Reader K A} {turns : ℕ} {wanted : Outcome K B} {done : ℕ} {f : List A → B} {rest : List K} (end : List K) (why : Why)
    → Onward test p turns wanted done f rest → done < turns → starts test rest ≡ true → p rest ≡ Fault why end → wanted ≡ Fault why end
onward_faults {test = test} {p = p} {turns = turns} {done = done} {f = f} {rest = rest} end why h l s e =
    sym h.goes ∙ ap (turned f) (so_far_fault test p (turns - done) rest 0 [] rest end why (so_far_begin test p (turns - done) rest [] refl) (omega arith) s e)

pub onward_fault : {K A B : Type 0} {test : K → Bool} {p : Reader K A} {turns : ℕ} {wanted : Outcome K B} {done : ℕ} {f : List A → B} {rest : List K} (s : Stop)
    → Onward test p turns wanted done f rest → ((done ≡ turns) → ⊥) → starts test rest ≡ true → ◌≡◌ {A = Result (A × List K) Stop} (Err s) (counted (p rest)) → ◌≡◌ {A = Result (B × List K) Stop} (Err s) (counted wanted)
onward_fault {p = p} {turns = turns} {wanted = wanted} {done = done} {rest = rest} s h l t e =
    let within = h.within in
    let less : done < turns = omega arith in
    counted_fault (p rest) wanted s e (λ why end f. onward_faults end why h less t f)

pub onward_spent : {K A B : Type 0} {test : K → Bool} {p : Reader K A} {turns : ℕ} {wanted : Outcome K B} {done : ℕ} {f : List A → B} {rest : List K} (s : Stop)
    → Onward test p turns wanted done f rest → done ≡ turns → starts test rest ≡ true → s ≡ stop_at Spent (length rest) → ◌≡◌ {A = Result (B × List K) Stop} (Err s) (counted wanted)
onward_spent {test = test} {p = p} {turns = turns} {done = done} {f = f} {rest = rest} s h l t e =
    rw e (ap counted (sym (sym h.goes ∙ ap (turned f) (so_far_spent test p (turns - done) rest 0 [] rest (so_far_begin test p (turns - done) rest [] refl) (omega arith) t))))

-- A part and what follows it.

pub pair_turned : {K A B C : Type 0} (f : A × B → C) (a : A) (o : Outcome K B) → turned f (turned (pair a) o) ≡ turned (λ b. f (a, b)) o
pair_turned f a (Got b r) = refl
pair_turned f a (Fault why r) = refl

joined_is : {K A B C : Type 0} (f : A × B → C) (p : Reader K A) (q : Reader K B) (ts rest : List K) (a : A) → ◌≡◌ {A = Result (A × List K) Stop} (Ok (a, rest)) (counted (p ts))
    → made f (joined p q) ts ≡ turned (λ b. f (a, b)) (q rest)
unfolding made chained
joined_is f p q ts rest a e = ap (λ o. turned f (after (λ x r. turned (pair x) (q r)) o)) (counted_ok (p ts) a rest e) ∙ pair_turned f a (q rest)

-- what is made of a part and of what follows it, where that is read from there
pub joined_by : {K A B C : Type 0} (f : A × B → C) (p : Reader K A) (q : Reader K B) (ts rest : List K) (a : A) (r : Result (C × List K) Stop)
    → ◌≡◌ {A = Result (A × List K) Stop} (Ok (a, rest)) (counted (p ts)) → r ≡ counted (turned (λ b. f (a, b)) (q rest)) → r ≡ counted (made f (joined p q) ts)
joined_by f p q ts rest a r e h = h ∙ ap counted (sym (joined_is f p q ts rest a e))

pub turned_ok : {K A B : Type 0} (f : A → B) (o : Outcome K A) (a : A) (b : B) (rest : List K) → ◌≡◌ {A = Result (A × List K) Stop} (Ok (a, rest)) (counted o) → b ≡ f a
    → ◌≡◌ {A = Result (B × List K) Stop} (Ok (b, rest)) (counted (turned f o))
turned_ok f o a b rest e h = rw h (ap (λ x. counted (turned f x)) (sym (counted_ok o a rest e)))

pub turned_stop : {K A B : Type 0} (f : A → B) (o : Outcome K A) (s : Stop) → ◌≡◌ {A = Result (A × List K) Stop} (Err s) (counted o) → ◌≡◌ {A = Result (B × List K) Stop} (Err s) (counted (turned f o))
turned_stop f o s e = counted_fault o (turned f o) s e (λ why rest h. ap (turned f) h)
