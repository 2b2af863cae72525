use Rattle.name_tables.proofs.PlainLaws.{told_by_marks}
use Rattle.name_tables.proofs.declared.Declared.is_plain.Goals as goal

pub returns : goal.returns
returns c =
    let kept = c.self.invariant in
    told_by_marks c.self.inside.declarations.now c.args.self.now c.self.inside.types.named c.self.inside.types.plain.items c.as_slice.result.now c.args.ty.now _ c.self.view_is kept.types_are kept.plain_are c.as_slice.ensures.value
    c.is_plain_by.ensures
