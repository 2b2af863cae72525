use Rattle.std.proofs.Common.{◌∙◌, ap, refl, sym}
use Rattle.mir_ir.specs.declared.types.Ty.TheVariants as form
use Rattle.type_rules.specs.Types.{same_bool, same_type}
use Rattle.type_rules.proofs.SameForms.{and_decided, and_next, both_refs}
use Rattle.type_rules.proofs.values.is_ref.Goals as goal

pub returns-then-same_bool : goal.returns-then-same_bool
returns-then-same_bool c =
    and_next (same_type (form.Ref c.args.mutable c.args.target.now) c.args.ty.now) (same_bool c.args.mutable c.in-Ref.another) c.same_type.result (same_type c.args.target.now c.in-Ref.other)
    (both_refs (form.Ref c.args.mutable c.args.target.now) c.args.ty.now c.args.target.now c.in-Ref.other c.args.mutable c.in-Ref.another refl c.in-Ref.is)
    (sym c.same_bool.ensures ∙ c.if-same_bool.true) (c.same_type.ensures ∙ ap (same_type c.args.target.now) c.get.ensures)

pub returns-else-same_bool : goal.returns-else-same_bool
returns-else-same_bool c =
    and_decided (same_type (form.Ref c.args.mutable c.args.target.now) c.args.ty.now) (same_bool c.args.mutable c.in-Ref.another) c.same_bool.result (same_type c.args.target.now c.in-Ref.other)
    (both_refs (form.Ref c.args.mutable c.args.target.now) c.args.ty.now c.args.target.now c.in-Ref.other c.args.mutable c.in-Ref.another refl c.in-Ref.is)
    (sym c.same_bool.ensures ∙ c.if-same_bool.false) c.same_bool.ensures
