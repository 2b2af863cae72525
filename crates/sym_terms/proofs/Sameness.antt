-- Terms that `==` finds equal are equal.
use Rattle.std.proofs.Common.{◌≡◌, true, rules, ap, ℕ}
use Rattle.std.proofs.lemmas.Bool.{and_parts, eqb-true}
use Rattle.std.specs.Prelude.{◌==◌, ◌&&◌}
use mathlib.Core.Bool.{beq}
use denote.Enum.Bare.{same_true}
use Rattle.word_bits.proofs.Overflows.{same_from_beq}
use Rattle.sym_terms.specs.contracts.term.TermOp as op
use Rattle.sym_terms.specs.declared.term.TermId.{TermId}
use Rattle.sym_terms.specs.declared.term.Term.{Term}
use Rattle.sym_terms.specs.declared.term.Term.TheVariants.{Constant, Input, Apply, Cast, Choose, Slice}
use Rattle.sym_terms.specs.declared.term.TermOp.{TermOp}
use Rattle.sym_terms.specs.contracts.term.TermPartialEq.TheImpl as term_impl
use Rattle.sym_terms.specs.contracts.term.TermOpPartialEq.TheImpl as op_impl

pub same_op : (x y : TermOp) → op_impl.ghosts.eq x y ≡ true → x ≡ y
same_op x y h = same_true op.the_type (search rules) x y h

pub same_id : (x y : TermId) → x.0 ≡ y.0 → x ≡ y
same_id x y e = ap (λ (n : ℕ). id_of n) e
  where
    id_of : ℕ → TermId
    id_of n = record { 0 = n }

pub same_term : (x y : Term) → term_impl.ghosts.eq x y ≡ true → x ≡ y
same_term (Constant a) (Constant b) h =
    let p : ((a.width == b.width) && (a.value == b.value)) ≡ true = h in
    let parts = and_parts (a.width == b.width) (a.value == b.value) p in
    let e = eqb-true a.width b.width parts.0 in
    let f = eqb-true a.value b.value parts.1 in
    λ j. Constant (record { width = e j; value = f j })
same_term (Input n w) (Input m v) h =
    let p : ((n == m) && (w == v)) ≡ true = h in
    let parts = and_parts (n == m) (w == v) p in
    let e = eqb-true n m parts.0 in
    let f = eqb-true w v parts.1 in
    λ j. Input (e j) (f j)
same_term (Apply o a b) (Apply p c d) h =
    let q : (op_impl.ghosts.eq o p && ((a.0 == c.0) && (b.0 == d.0))) ≡ true = h in
    let parts = and_parts (op_impl.ghosts.eq o p) ((a.0 == c.0) && (b.0 == d.0)) q in
    let rest = and_parts (a.0 == c.0) (b.0 == d.0) parts.1 in
    let e = same_op o p parts.0 in
    let f = same_id a c (eqb-true a.0 c.0 rest.0) in
    let g = same_id b d (eqb-true b.0 d.0 rest.1) in
    λ j. Apply (e j) (f j) (g j)
same_term (Cast a s w) (Cast b t v) h =
    let q : ((a.0 == b.0) && (beq s t && (w == v))) ≡ true = h in
    let parts = and_parts (a.0 == b.0) (beq s t && (w == v)) q in
    let rest = and_parts (beq s t) (w == v) parts.1 in
    let e = same_id a b (eqb-true a.0 b.0 parts.0) in
    let f = same_from_beq s t rest.0 in
    let g = eqb-true w v rest.1 in
    λ j. Cast (e j) (f j) (g j)
same_term (Choose t a b) (Choose u c d) h =
    let q : ((t.0 == u.0) && ((a.0 == c.0) && (b.0 == d.0))) ≡ true = h in
    let parts = and_parts (t.0 == u.0) ((a.0 == c.0) && (b.0 == d.0)) q in
    let rest = and_parts (a.0 == c.0) (b.0 == d.0) parts.1 in
    let e = same_id t u (eqb-true t.0 u.0 parts.0) in
    let f = same_id a c (eqb-true a.0 c.0 rest.0) in
    let g = same_id b d (eqb-true b.0 d.0 rest.1) in
    λ j. Choose (e j) (f j) (g j)
same_term (Slice a f w) (Slice b g v) h =
    let q : ((a.0 == b.0) && ((f == g) && (w == v))) ≡ true = h in
    let parts = and_parts (a.0 == b.0) ((f == g) && (w == v)) q in
    let rest = and_parts (f == g) (w == v) parts.1 in
    let d = same_id a b (eqb-true a.0 b.0 parts.0) in
    let e = eqb-true f g rest.0 in
    let i = eqb-true w v rest.1 in
    λ j. Slice (d j) (e j) (i j)
same_term _ _ h = cc
