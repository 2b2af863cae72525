-- The roles at the start of an analysis.
use Rattle.std.proofs.Common.{◌≡◌, ◌≢◌, ℕ, ◌++◌, List, length, get_or, take, drop, inl, inr, sym, ◌∙◌, subst}
use Rattle.std.proofs.lemmas.List.{take_at}
use Rattle.std.proofs.lemmas.List.Elements.{Contains-get_or}
use Rattle.region_pool.specs.Literals.{negation}
use Rattle.region_pool.specs.Refutation.{IsFalsified}
use Rattle.sat_core.specs.declared.roles.Role.{Role}
use Rattle.sat_core.specs.declared.roles.Role.TheVariants.{Unused, Kept, Resolved}
use Rattle.sat_core.specs.declared.trail.Step.{Step}
use Rattle.sat_core.specs.Roles.{role_at, Blames, Derives}
use Rattle.sat_core.specs.Steps.{literals_of_steps}
use Rattle.sat_core.proofs.StepLemmas.{place_of}

module _ (clauses : List (List ℕ)) (steps : List Step) (clause : List ℕ) (old new : List Role) (long : length old ≡ length steps) (none : (at : ℕ) → role_at old at ≡ Unused) (blames : Blames steps clause old new) where
  pub start_fresh : (at : ℕ) → role_at new at ≢ Resolved
  start_fresh at e = elim (blames.marks at) [
    | inl f ↦ let g : Unused ≡ Resolved = sym (none at) ∙ sym f ∙ e in absurd (cc)
    | inr (a, b, c, d) ↦ let g : Kept ≡ Resolved = sym c ∙ e in absurd (cc)
  ]

  pub start_derives : IsFalsified (literals_of_steps steps) clause → Derives clauses clause steps new
  start_derives falsified = record {
    long = blames.long ∙ long;
    falsified = λ k d h.
        let (at, hat, e) = place_of steps (negation (get_or clause k d)) (falsified k d h) in
        (at, hat, e, blames.covers at hat (get_or clause k d, Contains-get_or clause k d h, e));
    resolved = λ at h e. absurd (start_fresh at e);
  }

-- what a vector holds after its slice was written
pub written : (count : ℕ) (new old : List Role) → length new ≡ count → take count (new ++ drop (length new) old) ≡ new
written count new old e = take_at new (drop (length new) old) count e

pub blames_same : (steps : List Step) (a b : List ℕ) (c d new : List Role) → a ≡ b → c ≡ d → Blames steps a c new → Blames steps b d new
blames_same steps a b c d new e f blames = subst (λ (s : List ℕ). Blames steps s d new) e (subst (λ (r : List Role). Blames steps a r new) f blames)
