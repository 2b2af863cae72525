-- Loops that read a part any number of times, behind parts that stand before them.
use Rattle.std.proofs.Common.{◌≡◌, ℕ, ◌<◌, ◌≤◌, ◌+◌, ◌-◌, Bool, true, false, List, [], ◌∷◌, ◌++◌, refl, ap, ◌∙◌, sym, arith}
use Rattle.std.proofs.lemmas.List.{append_assoc, append-nil}
use Rattle.grammar_words.specs.declared.stop.Why.{Why}
use Rattle.grammar_words.specs.declared.stop.Why.TheVariants.{Spent}
use Rattle.grammar_words.specs.Grammar.{starts}
use Rattle.grammar_words.specs.Reading.{Outcome, Got, Fault, Reader, many}
use Rattle.grammar_words.specs.Coded.{behind}
use Rattle.grammar_words.proofs.Turns.{so_far_begin, so_far_more, so_far_stop, so_far_fault, so_far_spent}

-- so many turns are made, and what is left gives, behind these parts, what all gives behind those that stood before
abbrev pub Onward : {K A : Type 0} → (K → Bool) → Reader K A → ℕ → List A → List K → ℕ → List A → List K → Type 0
Onward test p turns before ts done front rest = (done ≤ turns) × (behind front (many test p (turns - done) rest) ≡ behind before (many test p turns ts))

behind_both : {K A : Type 0} (front : List A) (a : A) (o : Outcome K (List A)) → behind front (behind (a ∷ []) o) ≡ behind (front ++ a ∷ []) o
behind_both front a (Got as_ rest) = ap (λ l. Got l rest) (sym (append_assoc front (a ∷ []) as_))
behind_both front a (Fault why rest) = refl

many_more : {K A : Type 0} (test : K → Bool) (p : Reader K A) (n : ℕ) (rest later : List K) (a : A) → 0 < n → starts test rest ≡ true → p rest ≡ Got a later → many test p n rest ≡ behind (a ∷ []) (many test p (n - 1) later)
many_more test p n rest later a l s e = sym (so_far_more test p n rest 0 [] (a ∷ []) rest later a (so_far_begin test p n rest [] refl) l s e refl).1

pub onward_begin : {K A : Type 0} (test : K → Bool) (p : Reader K A) (turns : ℕ) (before : List A) (ts : List K) → Onward test p turns before ts 0 before ts
onward_begin test p turns before ts = let z : turns - 0 ≡ turns = omega arith in (omega arith, ap (λ k. behind before (many test p k ts)) z)

pub onward_more : {K A : Type 0} (test : K → Bool) (p : Reader K A) (turns : ℕ) (before : List A) (ts : List K) (done : ℕ) (front new : List A) (rest later : List K) (a : A)
    → Onward test p turns before ts done front rest → (done ≡ turns → ⊥) → starts test rest ≡ true → p rest ≡ Got a later → new ≡ front ++ a ∷ [] → Onward test p turns before ts (done + 1) new later
onward_more test p turns before ts done front new rest later a h l s e n =
    let c = h.0 in
    let k : 0 < turns - done = grind arith in
    let z : turns - (done + 1) ≡ (turns - done) - 1 = omega arith in (
      grind arith,
      rw (n, z) (sym (ap (behind front) (many_more test p (turns - done) rest later a k s e) ∙ behind_both front a (many test p ((turns - done) - 1) later)) ∙ h.1),
    )

pub onward_stop : {K A : Type 0} (test : K → Bool) (p : Reader K A) (turns : ℕ) (before : List A) (ts : List K) (done : ℕ) (front : List A) (rest : List K)
    → Onward test p turns before ts done front rest → starts test rest ≡ false → behind before (many test p turns ts) ≡ Got front rest
onward_stop test p turns before ts done front rest h s =
    sym h.1 ∙ (ap (behind front) (so_far_stop test p (turns - done) rest 0 [] rest (so_far_begin test p (turns - done) rest [] refl) s) ∙ ap (λ l. Got l rest) (append-nil front))

pub onward_fault : {K A : Type 0} (test : K → Bool) (p : Reader K A) (turns : ℕ) (before : List A) (ts : List K) (done : ℕ) (front : List A) (rest end : List K) (why : Why)
    → Onward test p turns before ts done front rest → (done ≡ turns → ⊥) → starts test rest ≡ true → p rest ≡ Fault why end → behind before (many test p turns ts) ≡ Fault why end
onward_fault test p turns before ts done front rest end why h l s e =
    let c = h.0 in
    let k : 0 < turns - done = grind arith in
    sym h.1 ∙ ap (behind front) (so_far_fault test p (turns - done) rest 0 [] rest end why (so_far_begin test p (turns - done) rest [] refl) k s e)

pub onward_spent : {K A : Type 0} (test : K → Bool) (p : Reader K A) (turns : ℕ) (before : List A) (ts : List K) (done : ℕ) (front : List A) (rest : List K)
    → Onward test p turns before ts done front rest → done ≡ turns → starts test rest ≡ true → behind before (many test p turns ts) ≡ Fault Spent rest
onward_spent test p turns before ts done front rest h l s =
    let z : turns - done ≤ 0 = omega arith in
    sym h.1 ∙ ap (behind front) (so_far_spent test p (turns - done) rest 0 [] rest (so_far_begin test p (turns - done) rest [] refl) z s)
