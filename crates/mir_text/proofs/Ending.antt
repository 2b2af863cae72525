-- A reading of a whole text, as the code has it.
use Rattle.std.proofs.Common.{◌≡◌, ℕ, ◌-◌, List, [], ◌∷◌, ◌++◌, length, drop, Some, None, Result, Ok, Err, refl, sym, ◌∙◌, ap, subst, arith, length-append}
use Rattle.grammar_words.specs.declared.stop.Why.TheVariants.{Wrong, Deep, Spent}
use Rattle.grammar_words.specs.declared.stop.Stop.{Stop}
use Rattle.grammar_words.specs.Grammar.{Part}
use Rattle.grammar_words.specs.Reading.{Outcome, Got, Fault}
use Rattle.grammar_words.specs.Coded.{counted, stop_at}
use Rattle.grammar_words.specs.Exact.{whole, IsRight}
use Rattle.std.proofs.lemmas.List.{append_assoc, append-nil}
use Rattle.mir_text.specs.Coded.{ended, value_of}

-- a value, or where reading stops
abbrev pub settled : {K A : Type 0} → Outcome K A → Result A Stop
settled (Got a rest) = Ok a
settled (Fault why rest) = Err (stop_at why (length rest))

pub settled_whole : {K A : Type 0} (o : Outcome K A) → ended (counted o) ≡ settled (whole o)
settled_whole (Got a []) = refl
settled_whole (Got a (t ∷ rest)) = refl
settled_whole (Fault why rest) = refl

drop_all : {A : Type 0} (front rest : List A) → drop (length front) (front ++ rest) ≡ rest
drop_all [] rest = refl
drop_all (x ∷ front) rest = drop_all front rest

pub last_tokens : {A : Type 0} (ts front rest : List A) → ts ≡ front ++ rest → drop (length ts - length rest) ts ≡ rest
last_tokens ts front rest e =
    let n : length ts - length rest ≡ length front = omega (arith, ap length e, length-append front rest) in
    ap (λ k. drop k ts) n ∙ ap (drop (length front)) e ∙ drop_all front rest

-- no text within the limit is read where a right answer is none
pub none_read : {K A : Type 0} (R : ℕ → Part K A) (H : ℕ → List K → List K → Part K A) (n : ℕ) (ts : List K) (o : Outcome K A) → IsRight R H n ts o → value_of (settled o) ≡ None → (a : A) → R n ts a [] → ⊥
none_read R H n ts (Got v rest) r e a h = absurd (cc)
none_read R H n ts (Fault Wrong []) r e a h = r.3 n a (subst (λ u. R n u a []) (r.1 ∙ append-nil r.0) h)
none_read R H n ts (Fault Wrong (t ∷ rest)) r e a h = r.3 (n, rest, a, subst (λ u. R n u a []) (r.1 ∙ sym (append_assoc r.0 (t ∷ []) rest)) h)
none_read R H n ts (Fault Deep []) r e a h = absurd r
none_read R H n ts (Fault Deep (t ∷ rest)) r e a h = r.3 rest a (subst (λ u. R n u a []) r.1 h)
none_read R H n ts (Fault Spent rest) r e a h = absurd r

-- a right answer's value is read, and no other one
pub one_read : {K A : Type 0} (R : ℕ → Part K A) (H : ℕ → List K → List K → Part K A) (n : ℕ) (ts : List K) (o : Outcome K A) (v : A) → IsRight R H n ts o → value_of (settled o) ≡ Some v → R n ts v [] × ((a : A) → R n ts a [] → a ≡ v)
one_read R H n ts (Got w rest) v r e = let q : w ≡ v = cc in (subst (λ u. R n ts u []) q (subst (λ u. R n ts w u) r.1 r.0), λ a h. r.2 n a h ∙ q)
one_read R H n ts (Fault why rest) v r e = absurd (cc)
