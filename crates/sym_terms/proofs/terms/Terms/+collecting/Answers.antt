use Rattle.std.proofs.Common.{◌≡◌, ◌<◌, length, ℕ, ap, sym, ◌∙◌, refl, subst, arith}
use Rattle.std.specs.Prelude.{slice_get, Some}
use Rattle.word_bits.specs.Words.{IsWidth}
use Rattle.sym_terms.specs.declared.term.Term.TheVariants.{Apply}
use Rattle.sym_terms.specs.declared.term.TermOp.{TermOp}
use Rattle.sym_terms.specs.declared.term.TermOp.TheVariants.{Add, Sub, Mul, Neg, Shl}
use Rattle.sym_terms.specs.Terms.{width_of}
use Rattle.sym_terms.specs.Alike.{IsShiftFactor}
use Rattle.sym_terms.proofs.ValueWords.{IsWidth-width_of}
use Rattle.sym_terms.proofs.CollectLaws.{Collects-single, Collects-constant, Collects-add, Collects-mul, Collects-sub, Collects-neg, Collects-shl, Collects-both_at, Collects-pair, Collects-multiplied_at, AreParts, parts-add, parts-sub, parts-mul, below-neg, below-shl, amount-shl}
use Rattle.sym_terms.proofs.terms.Terms.+collecting.Goals as goal

pub collect-collect_both-requires : goal.collect-collect_both-requires
collect-collect_both-requires t c =
    let at : slice_get c.args.self.now c.args.id.0 ≡ Some (Apply Add c.in-Apply.a c.in-Apply.b) = c.in-Apply.ensures.term ∙ ap (λ (o : TermOp). Some (Apply o c.in-Apply.a c.in-Apply.b)) c.in-Add.is in
    let parts : AreParts c.args.self.now c.args.id.0 c.in-Apply.a.0 c.in-Apply.b.0 = parts-add c.args.self.now c.term.ensures.fitting c.args.id c.in-Apply.a c.in-Apply.b c.requires at in
    (omega (arith, c.decreases, parts.first_below, parts.second_below), (parts.first, (parts.second, parts.one_width)))

pub collect-collect_both-requires-in-Sub : goal.collect-collect_both-requires-in-Sub
collect-collect_both-requires-in-Sub t c =
    let at : slice_get c.args.self.now c.args.id.0 ≡ Some (Apply Sub c.in-Apply.a c.in-Apply.b) = c.in-Apply.ensures.term ∙ ap (λ (o : TermOp). Some (Apply o c.in-Apply.a c.in-Apply.b)) c.in-Sub.is in
    let parts : AreParts c.args.self.now c.args.id.0 c.in-Apply.a.0 c.in-Apply.b.0 = parts-sub c.args.self.now c.term.ensures.fitting c.args.id c.in-Apply.a c.in-Apply.b c.requires at in
    (omega (arith, c.decreases, parts.first_below, parts.second_below), (parts.first, (parts.second, parts.one_width)))

pub collect-collect-requires : goal.collect-collect-requires
collect-collect-requires t c =
    let at : slice_get c.args.self.now c.args.id.0 ≡ Some (Apply Neg c.in-Apply.a c.in-Apply.b) = c.in-Apply.ensures.term ∙ ap (λ (o : TermOp). Some (Apply o c.in-Apply.a c.in-Apply.b)) c.in-Neg.is in
    let below : c.in-Apply.a.0 < c.args.id.0 = below-neg c.args.self.now c.term.ensures.fitting c.args.id c.in-Apply.a c.in-Apply.b c.requires at in
    (omega (arith, c.decreases, below), omega (arith, below, c.requires))

pub collect-collect_product-requires : goal.collect-collect_product-requires
collect-collect_product-requires t c =
    let at : slice_get c.args.self.now c.args.id.0 ≡ Some (Apply Mul c.in-Apply.a c.in-Apply.b) = c.in-Apply.ensures.term ∙ ap (λ (o : TermOp). Some (Apply o c.in-Apply.a c.in-Apply.b)) c.in-Mul.is in
    let parts : AreParts c.args.self.now c.args.id.0 c.in-Apply.a.0 c.in-Apply.b.0 = parts-mul c.args.self.now c.term.ensures.fitting c.args.id c.in-Apply.a c.in-Apply.b c.requires at in
    (omega (arith, c.decreases, parts.first_below, parts.second_below), (parts.first, (parts.second, (parts.one_width, parts.few_bits))))

pub collect-width-requires : goal.collect-width-requires
collect-width-requires t c =
    let at : slice_get c.args.self.now c.args.id.0 ≡ Some (Apply Shl c.in-Apply.a c.in-Apply.b) = c.in-Apply.ensures.term ∙ ap (λ (o : TermOp). Some (Apply o c.in-Apply.a c.in-Apply.b)) c.in-Shl.is in
    let below : c.in-Apply.a.0 < c.args.id.0 = below-shl c.args.self.now c.term.ensures.fitting c.args.id c.in-Apply.a c.in-Apply.b c.requires at in
    omega (arith, below, c.requires)

pub collect-shift_factor-requires-clause-inside : goal.collect-shift_factor-requires-clause-inside
collect-shift_factor-requires-clause-inside t c =
    let at : slice_get c.args.self.now c.args.id.0 ≡ Some (Apply Shl c.in-Apply.a c.in-Apply.b) = c.in-Apply.ensures.term ∙ ap (λ (o : TermOp). Some (Apply o c.in-Apply.a c.in-Apply.b)) c.in-Shl.is in
    amount-shl c.args.self.now c.term.ensures.fitting c.args.id c.in-Apply.a c.in-Apply.b c.requires at

pub collect-shift_factor-requires-clause-width_is : goal.collect-shift_factor-requires-clause-width_is
collect-shift_factor-requires-clause-width_is t c =
    let at : slice_get c.args.self.now c.args.id.0 ≡ Some (Apply Shl c.in-Apply.a c.in-Apply.b) = c.in-Apply.ensures.term ∙ ap (λ (o : TermOp). Some (Apply o c.in-Apply.a c.in-Apply.b)) c.in-Shl.is in
    let below : c.in-Apply.a.0 < c.args.id.0 = below-shl c.args.self.now c.term.ensures.fitting c.args.id c.in-Apply.a c.in-Apply.b c.requires at in
    let first : c.in-Apply.a.0 < length c.args.self.now = omega (arith, below, c.requires) in
    subst IsWidth (sym c.width.ensures) (IsWidth-width_of c.args.self.now c.term.ensures.fitting c.in-Apply.a.0 first)

pub collect-collect-requires-in-Some : goal.collect-collect-requires-in-Some
collect-collect-requires-in-Some t c =
    let at : slice_get c.args.self.now c.args.id.0 ≡ Some (Apply Shl c.in-Apply.a c.in-Apply.b) = c.in-Apply.ensures.term ∙ ap (λ (o : TermOp). Some (Apply o c.in-Apply.a c.in-Apply.b)) c.in-Shl.is in
    let below : c.in-Apply.a.0 < c.args.id.0 = below-shl c.args.self.now c.term.ensures.fitting c.args.id c.in-Apply.a c.in-Apply.b c.requires at in
    (omega (arith, c.decreases, below), omega (arith, below, c.requires))

pub collect-returns-in-Constant : goal.collect-returns-in-Constant
collect-returns-in-Constant t c =
    λ found. Collects-constant c.args.self.now c.term.ensures.fitting c.args.sum.now.summands c.add.new.self.summands c.args.coefficient c.args.id c.in-Constant.word c.requires c.in-Constant.ensures.term (c.add.ensures found)

pub collect-returns-in-Add : goal.collect-returns-in-Add
collect-returns-in-Add t c =
    let at : slice_get c.args.self.now c.args.id.0 ≡ Some (Apply Add c.in-Apply.a c.in-Apply.b) = c.in-Apply.ensures.term ∙ ap (λ (o : TermOp). Some (Apply o c.in-Apply.a c.in-Apply.b)) c.in-Add.is in
    λ found. Collects-add c.args.self.now c.term.ensures.fitting c.args.sum.now.summands c.collect_both.new.sum.summands c.args.coefficient c.args.id c.in-Apply.a c.in-Apply.b c.requires at (c.collect_both.ensures found)

pub collect-returns-in-Sub : goal.collect-returns-in-Sub
collect-returns-in-Sub t c =
    let at : slice_get c.args.self.now c.args.id.0 ≡ Some (Apply Sub c.in-Apply.a c.in-Apply.b) = c.in-Apply.ensures.term ∙ ap (λ (o : TermOp). Some (Apply o c.in-Apply.a c.in-Apply.b)) c.in-Sub.is in
    λ found. Collects-sub c.args.self.now c.term.ensures.fitting c.args.sum.now.summands c.collect_both-in-Sub.new.sum.summands c.args.coefficient c.wrapping_neg.result c.wrapping_neg.ensures c.args.id c.in-Apply.a c.in-Apply.b c.requires at (c.collect_both-in-Sub.ensures found)

pub collect-returns-in-Neg : goal.collect-returns-in-Neg
collect-returns-in-Neg t c =
    let at : slice_get c.args.self.now c.args.id.0 ≡ Some (Apply Neg c.in-Apply.a c.in-Apply.b) = c.in-Apply.ensures.term ∙ ap (λ (o : TermOp). Some (Apply o c.in-Apply.a c.in-Apply.b)) c.in-Neg.is in
    λ found. Collects-neg c.args.self.now c.term.ensures.fitting c.args.sum.now.summands c.collect.new.sum.summands c.args.coefficient c.wrapping_neg-in-Neg.result c.wrapping_neg-in-Neg.ensures c.args.id c.in-Apply.a c.in-Apply.b c.requires at (c.collect.ensures found)

pub collect-returns-in-Mul : goal.collect-returns-in-Mul
collect-returns-in-Mul t c =
    let at : slice_get c.args.self.now c.args.id.0 ≡ Some (Apply Mul c.in-Apply.a c.in-Apply.b) = c.in-Apply.ensures.term ∙ ap (λ (o : TermOp). Some (Apply o c.in-Apply.a c.in-Apply.b)) c.in-Mul.is in
    λ found. Collects-mul c.args.self.now c.term.ensures.fitting c.args.sum.now.summands c.collect_product.new.sum.summands c.args.coefficient c.args.id c.in-Apply.a c.in-Apply.b c.requires at (c.collect_product.ensures found)

pub collect-returns-in-Some : goal.collect-returns-in-Some
collect-returns-in-Some t c =
    let at : slice_get c.args.self.now c.args.id.0 ≡ Some (Apply Shl c.in-Apply.a c.in-Apply.b) = c.in-Apply.ensures.term ∙ ap (λ (o : TermOp). Some (Apply o c.in-Apply.a c.in-Apply.b)) c.in-Shl.is in
    λ found. Collects-shl c.args.self.now c.term.ensures.fitting c.args.sum.now.summands c.collect-in-Some.new.sum.summands c.args.coefficient c.in-Some.factor c.args.id c.in-Apply.a c.in-Apply.b c.requires at (subst (λ (w : ℕ). IsShiftFactor c.args.self.now c.in-Apply.b.0 w c.in-Some.factor) c.width.ensures c.in-Some.ensures) (c.collect-in-Some.ensures found)

pub collect-returns-in-None : goal.collect-returns-in-None
collect-returns-in-None t c =
    λ found. Collects-single c.args.self.now c.term.ensures.fitting c.args.sum.now.summands c.add-in-None.new.self.summands c.args.coefficient c.args.id c.requires (c.add-in-None.ensures found)

pub collect-returns-in_default-op : goal.collect-returns-in_default-op
collect-returns-in_default-op t c =
    λ found. Collects-single c.args.self.now c.term.ensures.fitting c.args.sum.now.summands c.add-in_default-op.new.self.summands c.args.coefficient c.args.id c.requires (c.add-in_default-op.ensures found)

pub collect-returns-in_default : goal.collect-returns-in_default
collect-returns-in_default t c =
    λ found. Collects-single c.args.self.now c.term.ensures.fitting c.args.sum.now.summands c.add-in_default.new.self.summands c.args.coefficient c.args.id c.requires (c.add-in_default.ensures found)

pub collect_both-returns : goal.collect_both-returns
collect_both-returns t c =
    λ found. Collects-both_at c.requires.one_width (c.if-not-collect.ensures refl) (c.collect-2.ensures found)

pub collect_product-returns-in-None : goal.collect_product-returns-in-None
collect_product-returns-in-None t c =
    λ found. Collects-pair c.args.self.now (width_of c.args.self.now c.args.a.0) c.requires.few_bits c.args.sum.now.summands c.add.new.self.summands c.args.coefficient c.args.a c.args.b c.of_terms.result c.of_terms.ensures (c.add.ensures found)

pub multiplied_out-returns : goal.multiplied_out-returns
multiplied_out-returns t c =
    Collects-multiplied_at c.args.self.now (width_of c.args.self.now c.args.a.0) (width_of c.args.self.now c.args.b.0) c.requires.few_bits c.requires.one_width c.args.coefficient c.args.a c.args.b
    c.new-first.ensures c.new-second.ensures (c.if-not-collect.ensures refl) (c.if-not-collect-2.ensures refl) (c.if-not-add_product.ensures refl)
