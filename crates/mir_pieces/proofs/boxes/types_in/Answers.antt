use Rattle.std.proofs.Common.{sym, ◌∙◌, ap, is_some}
use Rattle.mir_grammar.specs.Names.{boxed_type, argument_of}
use Rattle.mir_pieces.proofs.Boxing.{boxed_last, not_boxed, boxed_apart, argument_inner, no_argument, both_types}
use Rattle.mir_pieces.proofs.boxes.types_in.Goals as goal

pub returns-then-is_boxed : goal.returns-then-is_boxed
returns-then-is_boxed c =
    let e = ap (λ s. is_some (boxed_type c.args.head.now s)) (sym c.as_slice.ensures) ∙ sym c.is_boxed.ensures ∙ c.if-is_boxed.true in
    both_types c.args.head.now c.args.steps _ _ (c.last_type.ensures ∙ boxed_last c.args.head.now c.args.steps e) (boxed_apart c.args.head.now c.args.steps e)

pub returns-then-has_argument : goal.returns-then-has_argument
returns-then-has_argument c =
    let e = ap (λ s. is_some (boxed_type c.args.head.now s)) (sym c.as_slice.ensures) ∙ sym c.is_boxed.ensures ∙ c.if-is_boxed.false in
    let f = ap (λ s. is_some (argument_of c.args.head.now s)) (sym c.as_slice-else-is_boxed.ensures) ∙ sym c.has_argument.ensures ∙ c.if-has_argument.true in
    both_types c.args.head.now c.args.steps _ _ (not_boxed c.args.head.now c.args.steps e) (c.inner_type.ensures ∙ argument_inner c.args.head.now c.args.steps f)

pub returns-else-has_argument : goal.returns-else-has_argument
returns-else-has_argument c =
    let e = ap (λ s. is_some (boxed_type c.args.head.now s)) (sym c.as_slice.ensures) ∙ sym c.is_boxed.ensures ∙ c.if-is_boxed.false in
    let f = ap (λ s. is_some (argument_of c.args.head.now s)) (sym c.as_slice-else-is_boxed.ensures) ∙ sym c.has_argument.ensures ∙ c.if-has_argument.false in
    both_types c.args.head.now c.args.steps _ _ (not_boxed c.args.head.now c.args.steps e) (no_argument c.args.head.now c.args.steps f)
