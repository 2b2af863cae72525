use Rattle.std.proofs.Common.{◌≡◌, length, rules}
use Rattle.typed_program.proofs.FileLaws.{filed_more}
use Rattle.typed_program.proofs.numbers.Numbers.push.Goals as goal

pub invariant_of-self-2 : goal.invariant_of-self-2
invariant_of-self-2 c =
    let long : c.len.result ≡ length c.self.inside.types.items = search rules in
    filed_more c.self.inside.files c.push.new.self c.file_number-at.result c.len.result c.file_number-at.ensures.within c.in_ok-push.ensures.ok c.self.inside.types.items c.push-2.new.self.items c.args.ty
    c.self.invariant c.file_number-at.ensures.value long c.in_ok-push-2.ensures.items
