-- The two gates of a bit of a comparison.
use Rattle.std.proofs.Common.{◌≡◌, ℕ, ◌*◌, ◌<◌, Bool, not, ◌&&◌, cond, ◌∙◌, refl}
use Rattle.region_pool.specs.Literals.{negation}
use Rattle.bit_gates.specs.Values.{differ, valued}
use Rattle.bit_gates.specs.Circuit.{Circuit, size, value}
use Rattle.bit_gates.specs.Made.{IsMade}
use Rattle.bit_gates.proofs.LiteralLaws.{literal_value_negation}
use Rattle.bit_gates.proofs.MadeLaws.{extends_both}

pub less_gates : (a b c : Circuit) (x y k d l : ℕ) → y < 2 * size a → k < 2 * size a → IsMade a b d (λ v. differ (v x) (v y)) → IsMade b c l (λ v. cond (v d) (v y) (v k)) → IsMade a c l (λ v. cond (differ (v x) (v y)) (v y) (v k))
less_gates a b c x y k d l ly lk hd hl = record {
  extends = extends_both a b c hd.extends hl.extends;
  inside = hl.inside;
  value_is = λ bits. hl.value_is bits ∙ (rw (hd.value_is bits, hd.extends.kept bits y ly, hd.extends.kept bits k lk) refl);
}

pub value_negation : (c : Circuit) (bits : ℕ → Bool) (l : ℕ) → value c bits (negation l) ≡ not (value c bits l)
unfolding value
value_negation c bits l = literal_value_negation (valued bits c.inputs c.gates) l

pub equal_gates : (a b c : Circuit) (x y k d n l : ℕ) → k < 2 * size a → n ≡ negation d → IsMade a b d (λ v. differ (v x) (v y)) → IsMade b c l (λ v. v k && v n) → IsMade a c l (λ v. v k && not (differ (v x) (v y)))
equal_gates a b c x y k d n l lk en hd hl = record {
  extends = extends_both a b c hd.extends hl.extends;
  inside = hl.inside;
  value_is = λ bits. hl.value_is bits ∙ (rw (en, value_negation b bits d, hd.value_is bits, hd.extends.kept bits k lk) refl);
}
