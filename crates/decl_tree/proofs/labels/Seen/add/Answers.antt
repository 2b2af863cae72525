use Rattle.std.proofs.Common.{◌∙◌}
use Rattle.decl_tree.proofs.SeenKeys.{added_new}
use Rattle.decl_tree.proofs.labels.Seen.add.Goals as goal

pub returns-clause-new : goal.returns-clause-new
returns-clause-new c =
    added_new (c.in_ok-first.first, c.in_ok-second.second) c.self.inside.keys.keys _ _ _ c.self.view_is (c.in_ok-first.ensures.items ∙ c.as_bytes.ensures)
    (c.in_ok-second.ensures.items ∙ c.as_bytes-2.ensures) c.in_ok-_at.ensures.added
