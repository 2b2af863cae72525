use Rattle.std.proofs.Common.{◌≡◌, ◌+◌, ◌<◌, ◌≤◌, ℕ, Bool, true, false, Some, length, ap, sym, ◌∙◌, subst, arith}
use Rattle.std.specs.Prelude.{IsTrue}
use Rattle.region_pool.specs.Blocks.{block_at}
use Rattle.word_bits.specs.Words.{IsWidth, IsWord}
use Rattle.sym_terms.specs.declared.term.Term.TheVariants.{Cast}
use Rattle.sym_terms.specs.Terms.{width_of, is_shift_width, AreOperands}
use Rattle.bit_blast.proofs.Reaching.{first_operand, cast_part, slice_part, test_part, first_arm, second_arm}
use Rattle.bit_blast.proofs.Blasting.{part_width, part_is_width, second_width, second_inside, constant_blasted, input_blasted, apply_blasted, cast_blasted, choose_blasted, slice_blasted}
use Rattle.bit_blast.proofs.terms_to_gates.blast_term.Goals as goal

pub constant_word-requires-clause-few_bits : goal.constant_word-requires-clause-few_bits
constant_word-requires-clause-few_bits c =
    let f : IsWord c.in-Constant.word = c.in-Constant.ensures.fitting.fitting _ _ c.in-Constant.ensures.term in
    f.few_bits

pub constant_word-requires-clause-below : goal.constant_word-requires-clause-below
constant_word-requires-clause-below c =
    let f : IsWord c.in-Constant.word = c.in-Constant.ensures.fitting.fitting _ _ c.in-Constant.ensures.term in
    f.below

pub word_of-xs-requires : goal.word_of-xs-requires
word_of-xs-requires c =
    let f : AreOperands c.args.n (width_of c.args.terms.now) c.in-Apply.op c.in-Apply.a.0 c.in-Apply.b.0 = c.in-Apply.ensures.fitting.fitting _ _ c.in-Apply.ensures.term in
    omega (arith, f.0, c.requires.table.one_each)

pub second_word-ys-requires-clause-first : goal.second_word-ys-requires-clause-first
second_word-ys-requires-clause-first c =
    let f : AreOperands c.args.n (width_of c.args.terms.now) c.in-Apply.op c.in-Apply.a.0 c.in-Apply.b.0 = c.in-Apply.ensures.fitting.fitting _ _ c.in-Apply.ensures.term in
    omega (arith, f.0, c.requires.table.one_each)

pub second_word-ys-requires-clause-second : goal.second_word-ys-requires-clause-second
second_word-ys-requires-clause-second c =
    let f : AreOperands c.args.n (width_of c.args.terms.now) c.in-Apply.op c.in-Apply.a.0 c.in-Apply.b.0 = c.in-Apply.ensures.fitting.fitting _ _ c.in-Apply.ensures.term in
    λ s. omega (arith, f.1 s, c.requires.table.one_each)

pub apply-requires-clause-some_bits : goal.apply-requires-clause-some_bits
apply-requires-clause-some_bits c =
    let f : AreOperands c.args.n (width_of c.args.terms.now) c.in-Apply.op c.in-Apply.a.0 c.in-Apply.b.0 = c.in-Apply.ensures.fitting.fitting _ _ c.in-Apply.ensures.term in
    let e : length c.word_of-xs.result.now ≡ length (block_at c.args.table.now.blocks c.in-Apply.a.0) = ap length c.word_of-xs.ensures in
    let w : IsWidth (length (block_at c.args.table.now.blocks c.in-Apply.a.0)) = part_is_width c.args.net.now c.args.terms.now c.args.places.now c.args.n c.in-Apply.a.0 c.args.table.now.blocks c.in-Apply.ensures.fitting c.requires.inside c.requires.table f.0 (first_operand c.args.terms.now c.args.n c.in-Apply.op c.in-Apply.a c.in-Apply.b c.in-Apply.ensures.term) in
    omega (arith, w.some_bits)

pub apply-requires-clause-few_bits : goal.apply-requires-clause-few_bits
apply-requires-clause-few_bits c =
    let f : AreOperands c.args.n (width_of c.args.terms.now) c.in-Apply.op c.in-Apply.a.0 c.in-Apply.b.0 = c.in-Apply.ensures.fitting.fitting _ _ c.in-Apply.ensures.term in
    let e : length c.word_of-xs.result.now ≡ length (block_at c.args.table.now.blocks c.in-Apply.a.0) = ap length c.word_of-xs.ensures in
    let w : IsWidth (length (block_at c.args.table.now.blocks c.in-Apply.a.0)) = part_is_width c.args.net.now c.args.terms.now c.args.places.now c.args.n c.in-Apply.a.0 c.args.table.now.blocks c.in-Apply.ensures.fitting c.requires.inside c.requires.table f.0 (first_operand c.args.terms.now c.args.n c.in-Apply.op c.in-Apply.a c.in-Apply.b c.in-Apply.ensures.term) in
    omega (arith, w.few_bits)

pub apply-requires-clause-power : goal.apply-requires-clause-power
apply-requires-clause-power c =
    let f : AreOperands c.args.n (width_of c.args.terms.now) c.in-Apply.op c.in-Apply.a.0 c.in-Apply.b.0 = c.in-Apply.ensures.fitting.fitting _ _ c.in-Apply.ensures.term in
    let e : length c.word_of-xs.result.now ≡ length (block_at c.args.table.now.blocks c.in-Apply.a.0) = ap length c.word_of-xs.ensures in
    λ s. subst (λ (k : ℕ). IsTrue (is_shift_width k)) (sym (e ∙ part_width c.args.net.now c.args.terms.now c.args.places.now c.args.n c.in-Apply.a.0 c.args.table.now.blocks c.requires.table f.0 (first_operand c.args.terms.now c.args.n c.in-Apply.op c.in-Apply.a c.in-Apply.b c.in-Apply.ensures.term))) (f.2 s)

pub apply-requires-clause-one_width : goal.apply-requires-clause-one_width
apply-requires-clause-one_width c =
    let f : AreOperands c.args.n (width_of c.args.terms.now) c.in-Apply.op c.in-Apply.a.0 c.in-Apply.b.0 = c.in-Apply.ensures.fitting.fitting _ _ c.in-Apply.ensures.term in
    λ s. second_width c.args.net.now c.args.terms.now c.args.places.now c.args.n c.in-Apply.a c.in-Apply.b c.in-Apply.op c.args.table.now.blocks _ _ c.in-Apply.ensures.term c.requires.table f c.word_of-xs.ensures c.second_word-ys.ensures.binary c.second_word-ys.ensures.unary s

pub apply-requires-clause-ys_inside : goal.apply-requires-clause-ys_inside
apply-requires-clause-ys_inside c =
    let f : AreOperands c.args.n (width_of c.args.terms.now) c.in-Apply.op c.in-Apply.a.0 c.in-Apply.b.0 = c.in-Apply.ensures.fitting.fitting _ _ c.in-Apply.ensures.term in
    second_inside c.args.net.now c.args.terms.now c.args.places.now c.args.n c.in-Apply.a c.in-Apply.b c.in-Apply.op c.args.table.now.blocks _ c.in-Apply.ensures.term c.requires.table f c.second_word-ys.ensures.binary c.second_word-ys.ensures.unary

pub word_of-xs-requires-in-Cast : goal.word_of-xs-requires-in-Cast
word_of-xs-requires-in-Cast c =
    let f : (c.in-Cast.a.0 < c.args.n) × IsWidth c.in-Cast.width = c.in-Cast.ensures.fitting.fitting _ _ c.in-Cast.ensures.term in
    omega (arith, f.0, c.requires.table.one_each)

pub cast_signed-requires-clause-some_bits : goal.cast_signed-requires-clause-some_bits
cast_signed-requires-clause-some_bits c =
    let f : (c.in-Cast.a.0 < c.args.n) × IsWidth c.in-Cast.width = c.in-Cast.ensures.fitting.fitting _ _ c.in-Cast.ensures.term in
    let w : IsWidth (length (block_at c.args.table.now.blocks c.in-Cast.a.0)) = part_is_width c.args.net.now c.args.terms.now c.args.places.now c.args.n c.in-Cast.a.0 c.args.table.now.blocks c.in-Cast.ensures.fitting c.requires.inside c.requires.table f.0 (cast_part c.args.terms.now c.args.n c.in-Cast.a c.in-Cast.signed c.in-Cast.width c.in-Cast.ensures.term) in
    let e : length c.word_of-xs-in-Cast.result.now ≡ length (block_at c.args.table.now.blocks c.in-Cast.a.0) = ap length c.word_of-xs-in-Cast.ensures in
    omega (arith, w.some_bits)

pub word_of-bit-requires : goal.word_of-bit-requires
word_of-bit-requires c =
    let f : (c.in-Choose.test.0 < c.args.n) × (c.in-Choose.a.0 < c.args.n) × (c.in-Choose.b.0 < c.args.n) × (width_of c.args.terms.now c.in-Choose.test.0 ≡ 1) × (width_of c.args.terms.now c.in-Choose.b.0 ≡ width_of c.args.terms.now c.in-Choose.a.0) = c.in-Choose.ensures.fitting.fitting _ _ c.in-Choose.ensures.term in
    omega (arith, f.0, c.requires.table.one_each)

pub word_of-xs-requires-in-Choose : goal.word_of-xs-requires-in-Choose
word_of-xs-requires-in-Choose c =
    let f : (c.in-Choose.test.0 < c.args.n) × (c.in-Choose.a.0 < c.args.n) × (c.in-Choose.b.0 < c.args.n) × (width_of c.args.terms.now c.in-Choose.test.0 ≡ 1) × (width_of c.args.terms.now c.in-Choose.b.0 ≡ width_of c.args.terms.now c.in-Choose.a.0) = c.in-Choose.ensures.fitting.fitting _ _ c.in-Choose.ensures.term in
    omega (arith, f.1, c.requires.table.one_each)

pub word_of-ys-requires : goal.word_of-ys-requires
word_of-ys-requires c =
    let f : (c.in-Choose.test.0 < c.args.n) × (c.in-Choose.a.0 < c.args.n) × (c.in-Choose.b.0 < c.args.n) × (width_of c.args.terms.now c.in-Choose.test.0 ≡ 1) × (width_of c.args.terms.now c.in-Choose.b.0 ≡ width_of c.args.terms.now c.in-Choose.a.0) = c.in-Choose.ensures.fitting.fitting _ _ c.in-Choose.ensures.term in
    omega (arith, f.2, c.requires.table.one_each)

pub choose_word-requires-clause-one_bit : goal.choose_word-requires-clause-one_bit
choose_word-requires-clause-one_bit c =
    let f : (c.in-Choose.test.0 < c.args.n) × (c.in-Choose.a.0 < c.args.n) × (c.in-Choose.b.0 < c.args.n) × (width_of c.args.terms.now c.in-Choose.test.0 ≡ 1) × (width_of c.args.terms.now c.in-Choose.b.0 ≡ width_of c.args.terms.now c.in-Choose.a.0) = c.in-Choose.ensures.fitting.fitting _ _ c.in-Choose.ensures.term in
    ap length c.word_of-bit.ensures ∙ part_width c.args.net.now c.args.terms.now c.args.places.now c.args.n c.in-Choose.test.0 c.args.table.now.blocks c.requires.table f.0 (test_part c.args.terms.now c.args.n c.in-Choose.test c.in-Choose.a c.in-Choose.b c.in-Choose.ensures.term) ∙ f.3

pub choose_word-requires-clause-one_width : goal.choose_word-requires-clause-one_width
choose_word-requires-clause-one_width c =
    let f : (c.in-Choose.test.0 < c.args.n) × (c.in-Choose.a.0 < c.args.n) × (c.in-Choose.b.0 < c.args.n) × (width_of c.args.terms.now c.in-Choose.test.0 ≡ 1) × (width_of c.args.terms.now c.in-Choose.b.0 ≡ width_of c.args.terms.now c.in-Choose.a.0) = c.in-Choose.ensures.fitting.fitting _ _ c.in-Choose.ensures.term in
    ap length c.word_of-ys.ensures ∙ part_width c.args.net.now c.args.terms.now c.args.places.now c.args.n c.in-Choose.b.0 c.args.table.now.blocks c.requires.table f.2 (second_arm c.args.terms.now c.args.n c.in-Choose.test c.in-Choose.a c.in-Choose.b c.in-Choose.ensures.term) ∙ f.4 ∙ sym (part_width c.args.net.now c.args.terms.now c.args.places.now c.args.n c.in-Choose.a.0 c.args.table.now.blocks c.requires.table f.1 (first_arm c.args.terms.now c.args.n c.in-Choose.test c.in-Choose.a c.in-Choose.b c.in-Choose.ensures.term)) ∙ sym (ap length c.word_of-xs-in-Choose.ensures)

pub word_of-xs-requires-in-Slice : goal.word_of-xs-requires-in-Slice
word_of-xs-requires-in-Slice c =
    let f : (c.in-Slice.a.0 < c.args.n) × (1 ≤ c.in-Slice.width) × (c.in-Slice.from + c.in-Slice.width ≤ width_of c.args.terms.now c.in-Slice.a.0) = c.in-Slice.ensures.fitting.fitting _ _ c.in-Slice.ensures.term in
    omega (arith, f.0, c.requires.table.one_each)

pub slice_word-requires-clause-within : goal.slice_word-requires-clause-within
slice_word-requires-clause-within c =
    let f : (c.in-Slice.a.0 < c.args.n) × (1 ≤ c.in-Slice.width) × (c.in-Slice.from + c.in-Slice.width ≤ width_of c.args.terms.now c.in-Slice.a.0) = c.in-Slice.ensures.fitting.fitting _ _ c.in-Slice.ensures.term in
    let e : length c.word_of-xs-in-Slice.result.now ≡ width_of c.args.terms.now c.in-Slice.a.0 = ap length c.word_of-xs-in-Slice.ensures ∙ part_width c.args.net.now c.args.terms.now c.args.places.now c.args.n c.in-Slice.a.0 c.args.table.now.blocks c.requires.table f.0 (slice_part c.args.terms.now c.args.n c.in-Slice.a c.in-Slice.from c.in-Slice.width c.in-Slice.ensures.term) in
    omega (arith, f.2)

pub returns-in_ok-constant_word-in-Constant : goal.returns-in_ok-constant_word-in-Constant
returns-in_ok-constant_word-in-Constant c =
    constant_blasted _ c.args.terms.now c.args.places.now c.args.n _ _ c.in-Constant.ensures.fitting c.in-Constant.ensures.term c.in_ok-constant_word-in-Constant.ensures

pub returns-in_ok-input_word-in-Input : goal.returns-in_ok-input_word-in-Input
returns-in_ok-input_word-in-Input c =
    input_blasted _ c.args.terms.now c.args.places.now c.args.n c.in-Input.number c.in-Input.width _ c.in-Input.ensures.fitting c.in-Input.ensures.term c.in_ok-input_word-in-Input.ensures

pub returns-in_ok-apply-in-Apply : goal.returns-in_ok-apply-in-Apply
returns-in_ok-apply-in-Apply c =
    apply_blasted _ _ c.args.terms.now c.args.places.now c.args.n c.in-Apply.op c.in-Apply.a c.in-Apply.b c.args.table.now.blocks c.word_of-xs.result.now c.second_word-ys.result.now _ c.in-Apply.ensures.fitting c.in-Apply.ensures.term c.requires.table c.word_of-xs.ensures c.second_word-ys.ensures.binary c.in_ok-apply-in-Apply.ensures

pub returns-in_ok-cast_signed-in-Cast : goal.returns-in_ok-cast_signed-in-Cast
returns-in_ok-cast_signed-in-Cast c =
    cast_blasted _ _ c.args.terms.now c.args.places.now c.args.n c.in-Cast.a true c.in-Cast.width c.args.table.now.blocks c.word_of-xs-in-Cast.result.now _ c.in-Cast.ensures.fitting (c.in-Cast.ensures.term ∙ ap (λ (s : Bool). Some (Cast c.in-Cast.a s c.in-Cast.width)) c.if-signed.true) c.requires.table c.word_of-xs-in-Cast.ensures c.in_ok-cast_signed-in-Cast.ensures

pub returns-in_ok-cast_unsigned-in-Cast : goal.returns-in_ok-cast_unsigned-in-Cast
returns-in_ok-cast_unsigned-in-Cast c =
    cast_blasted _ _ c.args.terms.now c.args.places.now c.args.n c.in-Cast.a false c.in-Cast.width c.args.table.now.blocks c.word_of-xs-in-Cast.result.now _ c.in-Cast.ensures.fitting (c.in-Cast.ensures.term ∙ ap (λ (s : Bool). Some (Cast c.in-Cast.a s c.in-Cast.width)) c.if-signed.false) c.requires.table c.word_of-xs-in-Cast.ensures c.in_ok-cast_unsigned-in-Cast.ensures

pub returns-in_ok-choose_word-in-Choose : goal.returns-in_ok-choose_word-in-Choose
returns-in_ok-choose_word-in-Choose c =
    choose_blasted _ _ c.args.terms.now c.args.places.now c.args.n c.in-Choose.test c.in-Choose.a c.in-Choose.b c.args.table.now.blocks c.word_of-bit.result.now c.word_of-xs-in-Choose.result.now c.word_of-ys.result.now _ c.in-Choose.ensures.fitting c.in-Choose.ensures.term c.requires.table c.word_of-bit.ensures c.word_of-xs-in-Choose.ensures c.word_of-ys.ensures c.in_ok-choose_word-in-Choose.ensures

pub returns-in_ok-slice_word-in-Slice : goal.returns-in_ok-slice_word-in-Slice
returns-in_ok-slice_word-in-Slice c =
    slice_blasted _ _ c.args.terms.now c.args.places.now c.args.n c.in-Slice.a c.in-Slice.from c.in-Slice.width c.args.table.now.blocks c.word_of-xs-in-Slice.result.now _ c.in-Slice.ensures.fitting c.in-Slice.ensures.term c.requires.table c.word_of-xs-in-Slice.ensures c.in_ok-slice_word-in-Slice.ensures
