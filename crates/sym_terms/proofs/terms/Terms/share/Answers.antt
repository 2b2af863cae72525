use Rattle.std.proofs.Common.{◌≡◌, Some, sym, ap, ◌∙◌, subst, ◌++◌, ◌∷◌, [], List, not, true, length-append, arith, ℕ}
use Rattle.std.specs.Prelude.{slice_get, ◌⊎◌}
use Rattle.std.specs.List.{list_any}
use Rattle.std.proofs.lemmas.Bool.{cases_cond}
use Rattle.sym_terms.specs.declared.term.Term.{Term}
use Rattle.sym_terms.specs.contracts.term.TermPartialEq.TheImpl as the_impl
use Rattle.sym_terms.specs.Terms.{AreFitting, Fits, term_width, width_of}
use Rattle.sym_terms.proofs.Sameness.{same_term}
use Rattle.sym_terms.proofs.Grown.{IsInserted-at, AreFitting-push, widths_of_push, other_choice}
use Rattle.sym_terms.proofs.terms.Terms.share.Goals as goal

pub returns-else-is_new-clause-ok : goal.returns-else-is_new-clause-ok
returns-else-is_new-clause-ok c =
    let old = c.self.inside.terms.keys in
    let new = c.insert_full.new.self.keys in
    let term = c.args.term in
    let s = c.in_ok-at.ensures.stored in
    let e : term ≡ s.0 = same_term term s.0 s.2 in
    let at : slice_get new c.in_ok-at.at ≡ Some term = s.1 ∙ ap Some (sym e) in
    let fits : Fits old term = subst (λ (ts : List Term). Fits ts term) (sym c.self.view_is) c.requires in
    let keys : (new ≡ old) ⊎ (new ≡ old ++ term ∷ []) = cases_cond (list_any (the_impl.ghosts.eq term) old) old (old ++ term ∷ []) new c.in_ok-at.ensures.keys in
    rw (← c.self.view_is) (IsInserted-at old new term c.in_ok-at.at c.self.invariant.fitting fits keys at)

pub returns-in_ok-push-clause-ok : goal.returns-in_ok-push-clause-ok
returns-in_ok-push-clause-ok c =
    let old = c.self.inside.terms.keys in
    let new = c.insert_full.new.self.keys in
    let term = c.args.term in
    let s = c.in_ok-at.ensures.stored in
    let e : term ≡ s.0 = same_term term s.0 s.2 in
    let at : slice_get new c.in_ok-at.at ≡ Some term = s.1 ∙ ap Some (sym e) in
    let fits : Fits old term = subst (λ (ts : List Term). Fits ts term) (sym c.self.view_is) c.requires in
    let keys : (new ≡ old) ⊎ (new ≡ old ++ term ∷ []) = cases_cond (list_any (the_impl.ghosts.eq term) old) old (old ++ term ∷ []) new c.in_ok-at.ensures.keys in
    rw (← c.self.view_is) (IsInserted-at old new term c.in_ok-at.at c.self.invariant.fitting fits keys at)

pub invariant_of-self-in-Continue-branch-3 : goal.invariant_of-self-in-Continue-branch-3
invariant_of-self-in-Continue-branch-3 c =
    let old = c.self.inside.terms.keys in
    let new = c.insert_full.new.self.keys in
    let term = c.args.term in
    let fits : Fits old term = subst (λ (ts : List Term). Fits ts term) (sym c.self.view_is) c.requires in
    let absent : true ≡ not (list_any (the_impl.ghosts.eq term) old) = sym c.if-is_new.true ∙ c.in_ok-at.ensures.added in
    let keys : new ≡ old ++ term ∷ [] = other_choice (list_any (the_impl.ghosts.eq term) old) old (old ++ term ∷ []) new absent c.in_ok-at.ensures.keys in
    let widths = c.self.inside.widths.items in
    let width = c.width_of_term-width.result in
    let width_is : width ≡ term_width (width_of old) term = rw (← c.self.view_is) at c.width_of_term-width.ensures in
    let pushed : c.push.new.self.items ≡ widths ++ width ∷ [] = c.in_ok-push.ensures.items ∙ ap (λ (ws : List ℕ). ws ++ width ∷ []) c.in_ok-reserve.ensures.items in
    record {
      fitting = subst AreFitting (sym keys) (AreFitting-push old term c.self.invariant.fitting fits);
      one_each = rw (pushed, keys) (omega (arith, c.self.invariant.one_each, length-append widths (width ∷ []), length-append old (term ∷ [])));
      widths = rw (pushed, keys) (widths_of_push old widths term width c.self.invariant.one_each c.self.invariant.widths width_is);
    }
