-- Guards and failures.
use Rattle.std.proofs.Common.{◌≡◌, ℕ, ◌==◌, ◌&&◌, ◌++◌, not, Bool, true, false, List, [], ◌∷◌, Some, subst, sym, ap, ◌∙◌, ◌⊎◌, inl, inr}
use Rattle.std.specs.Prelude.{slice_get}
use Rattle.std.proofs.lemmas.Bool.{eqb-true}
use Rattle.word_bits.specs.declared.word.Word.{Word}
use Rattle.sym_terms.specs.declared.term.Term.{Term}
use Rattle.sym_terms.specs.declared.term.Term.TheVariants.{Constant}
use Rattle.sym_terms.specs.declared.term.TermId.{TermId}
use Rattle.sym_terms.specs.Terms.{AreFitting, Keeps}
use Rattle.sym_terms.proofs.Grown.{value_at}
use Rattle.scalar_runs.specs.declared.breach.Breach.{Breach}
use Rattle.scalar_terms.specs.declared.failures.Failure.{Failure}
use Rattle.scalar_terms.specs.declared.ways.Split.{Split}
use Rattle.value_terms.specs.Made.{Grown, IsBit, IsTest, holds}
use Rattle.scalar_terms.specs.Ways.{AreFailures, IsNoted, IsSplit, Tells}
use Rattle.value_terms.proofs.MadeLaws.{bit_kept, grown_trans, holds_kept}

zero_never : (w : Word) → (w.value == 0) ≡ true → (w.value == 1) ≡ false
zero_never w e = ap (λ n. n == 1) (eqb-true w.value 0 e)

-- the constant 0 never holds
pub never_holds : (terms : List Term) (id : ℕ) (w : Word) → AreFitting terms → slice_get terms id ≡ Some (Constant w) → (w.value == 0) ≡ true → (inputs : ℕ → ℕ) → holds terms inputs id ≡ false
never_holds terms id w fitting at e inputs = ap (λ v. v.value == 1) (value_at terms id (Constant w) at (fitting.fitting id (Constant w) at) inputs) ∙ zero_never w e

failures_push : (terms : List Term) (xs : List Failure) (x : Failure) → AreFailures terms xs → IsBit terms x.term.0 → AreFailures terms (xs ++ x ∷ [])
failures_push terms [] x are bit = (bit, tt)
failures_push terms (y ∷ ys) x are bit = (are.0, failures_push terms ys x are.1 bit)

tells_push : (terms : List Term) (inputs : ℕ → ℕ) (xs : List Failure) (x : Failure) (b : Breach) → Tells terms inputs (xs ++ x ∷ []) b → Tells terms inputs xs b ⊎ ((x.breach ≡ b) × (holds terms inputs x.term.0 ≡ true))
tells_push terms inputs [] x b told = elim told [ inl this ↦ inr this | inr none ↦ absurd none ]
tells_push terms inputs (y ∷ ys) x b told = elim told [ inl this ↦ inl (inl this) | inr later ↦ elim (tells_push terms inputs ys x b later) [ inl before ↦ inl (inr before) | inr this ↦ inr this ] ]

push_tells : (terms : List Term) (inputs : ℕ → ℕ) (xs : List Failure) (x : Failure) (b : Breach) → Tells terms inputs xs b ⊎ ((x.breach ≡ b) × (holds terms inputs x.term.0 ≡ true)) → Tells terms inputs (xs ++ x ∷ []) b
push_tells terms inputs [] x b told = elim told [ inl none ↦ absurd none | inr this ↦ inl this ]
push_tells terms inputs (y ∷ ys) x b told = elim told [ inl before ↦ elim before [ inl this ↦ inl this | inr later ↦ inr (push_tells terms inputs ys x b (inl later)) ] | inr this ↦ inr (push_tells terms inputs ys x b (inr this)) ]

pub noted_push : (terms : List Term) (xs new : List Failure) (breach : Breach) (term : TermId) → IsBit terms term.0 → new ≡ xs ++ (record { breach = breach; term = term }) ∷ [] → IsNoted terms xs new breach term
noted_push terms xs new breach term bit e = subst (λ ys. IsNoted terms xs ys breach term) (sym e) (record {
  failures = λ are. failures_push terms xs (record { breach = breach; term = term }) are bit;
  tells = λ inputs b. (tells_push terms inputs xs (record { breach = breach; term = term }) b, push_tells terms inputs xs (record { breach = breach; term = term }) b);
})

false_true : (b : Bool) → b ≡ false → b ≡ true → ⊥
false_true b e f = cc

pub noted_never : (terms : List Term) (xs : List Failure) (breach : Breach) (term : TermId) → ((inputs : ℕ → ℕ) → holds terms inputs term.0 ≡ false) → IsNoted terms xs xs breach term
noted_never terms xs breach term never = record {
  failures = λ are. are;
  tells = λ inputs b. (λ told. inl told, λ told. elim told [ inl before ↦ before | inr this ↦ absurd (false_true (holds terms inputs term.0) (never inputs) this.1) ]);
}

-- a test of earlier terms that later ones keep
test_kept : (old mid new : List Term) (inputs : ℕ → ℕ) (id : ℕ) (t : (ℕ → ℕ) → Bool) → IsTest old mid id t → Keeps mid new → holds new inputs id ≡ t inputs
test_kept old mid new inputs id t test keeps = holds_kept mid new inputs id keeps test.bit.inside ∙ test.holds_is inputs

pub split_made : (o a b c d e : List Term) (guard first second ready : ℕ) (t : Split) → IsBit o guard → IsBit o first → IsBit o second
    → IsTest o a t.unset.0 (λ inputs. holds o inputs guard && not (holds o inputs first))
    → IsTest a b ready (λ inputs. holds a inputs guard && holds a inputs first)
    → IsTest b c t.unlawful.0 (λ inputs. holds b inputs ready && not (holds b inputs second))
    → IsTest c d t.guard.0 (λ inputs. holds c inputs ready && holds c inputs second)
    → IsTest d e t.always.0 (λ inputs. true) → IsSplit o e guard first second t
split_made o a b c d e guard first second ready t hg hf hs unset made unlawful goes always =
    let ab : Grown o b = grown_trans o a b unset.grown made.grown in
    let ac : Grown o c = grown_trans o b c ab unlawful.grown in
    let ce : Grown c e = grown_trans c d e goes.grown always.grown in
    let be : Grown b e = grown_trans b c e unlawful.grown ce in
    let ae : Grown a e = grown_trans a b e made.grown be in
    let ready_is : (inputs : ℕ → ℕ) → holds b inputs ready ≡ (holds o inputs guard && holds o inputs first) = λ inputs. made.holds_is inputs
    ∙ ap (λ x. x && holds a inputs first) (holds_kept o a inputs guard unset.grown.keeps hg.inside) ∙ ap (λ y. holds o inputs guard && y) (holds_kept o a inputs first unset.grown.keeps hf.inside) in
    record {
      grown = grown_trans o a e unset.grown ae;
      unset = bit_kept a e t.unset.0 ae.keeps unset.bit;
      unlawful = bit_kept c e t.unlawful.0 ce.keeps unlawful.bit;
      goes = bit_kept d e t.guard.0 always.grown.keeps goes.bit;
      always = always.bit;
      unset_is = λ inputs. test_kept o a e inputs t.unset.0 _ unset ae.keeps;
      unlawful_is = λ inputs. test_kept b c e inputs t.unlawful.0 _ unlawful ce.keeps ∙ ap (λ x. x && not (holds b inputs second)) (ready_is inputs)
          ∙ ap (λ y. (holds o inputs guard && holds o inputs first) && not y) (holds_kept o b inputs second ab.keeps hs.inside);
      goes_is = λ inputs. test_kept c d e inputs t.guard.0 _ goes always.grown.keeps ∙ ap (λ x. x && holds c inputs second) (holds_kept b c inputs ready unlawful.grown.keeps made.bit.inside ∙ ready_is inputs)
          ∙ ap (λ y. (holds o inputs guard && holds o inputs first) && y) (holds_kept o c inputs second ac.keeps hs.inside);
      always_is = λ inputs. always.holds_is inputs;
    }
