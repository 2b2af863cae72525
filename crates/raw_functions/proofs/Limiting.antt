-- Limits that texts pass, in a row.
use Rattle.std.proofs.Common.{◌≡◌, Bool, true, false, ◌||◌, refl}
use Rattle.mir_grammar.specs.declared.limits.Passed.{Passed}
use Rattle.mir_grammar.specs.Places.{none_passed, both_passed}

or_none : (a : Bool) → (a || false) ≡ a
or_none true = refl
or_none false = refl

or_assoc : (a b c : Bool) → ((a || b) || c) ≡ (a || (b || c))
or_assoc true b c = refl
or_assoc false b c = refl

made : (a b c d e f : Bool) → a ≡ d → b ≡ e → c ≡ f → (let p : Passed = record { locals = a; blocks = b; names = c } in p) ≡ record { locals = d; blocks = e; names = f }
made a b c d e f p q r = cc

pub both_none : (p : Passed) → both_passed p none_passed ≡ p
both_none p = made _ _ _ _ _ _ (or_none p.locals) (or_none p.blocks) (or_none p.names)

pub both_assoc : (p q r : Passed) → both_passed (both_passed p q) r ≡ both_passed p (both_passed q r)
both_assoc p q r = made _ _ _ _ _ _ (or_assoc p.locals q.locals r.locals) (or_assoc p.blocks q.blocks r.blocks) (or_assoc p.names q.names r.names)
