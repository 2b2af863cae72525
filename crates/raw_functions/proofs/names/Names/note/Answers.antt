use Rattle.std.proofs.Common.{◌∙◌, ap}
use Rattle.raw_functions.specs.Noted.{noted}
use Rattle.raw_functions.proofs.Noting.{noted_again, noted_first}
use Rattle.raw_functions.proofs.names.Names.note.Goals as goal

pub returns-then-not-is_new : goal.returns-then-not-is_new
returns-then-not-is_new c =
    noted_again c.self.inside.names.keys c.insert.new.self.keys c.args.name c.args.start c.self.inside.second c.earlier-self-inside.result c.in_ok-is_new.is_new c.in_ok-is_new.ensures.added c.if-not-is_new.true c.in_ok-is_new.ensures.keys c.earlier-self-inside.ensures
    ∙ ap (λ n. noted n (c.args.name.now, c.args.start)) c.self.view_is

pub returns-else-not-is_new : goal.returns-else-not-is_new
returns-else-not-is_new c =
    noted_first c.self.inside.names.keys c.insert.new.self.keys c.args.name c.args.start c.self.inside.second c.in_ok-is_new.is_new c.in_ok-is_new.ensures.added c.if-not-is_new.false c.in_ok-is_new.ensures.keys
    ∙ ap (λ n. noted n (c.args.name.now, c.args.start)) c.self.view_is
