use Rattle.decl_tests.proofs.AloneLaws.{alone_is_one}
use Rattle.decl_tests.proofs.joining.alone.Goals as goal

pub join-requires : goal.join-requires
join-requires c =
    let room = c.is_countable.ensures.0 c.if-not-is_countable.false in
    alone_is_one _ _ c.new.ensures (c.each_file_is_well_made.ensures.made _ c.in-Ok.ensures.ok room.0) room.1
