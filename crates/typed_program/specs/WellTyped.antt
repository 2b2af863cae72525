-- A program whose layouts keep the rules and whose types fit one another.
use Rattle.std.specs.Prelude.{◌≡◌, Ok}
use Rattle.mir_program.specs.Joined.{Joined}
use Rattle.layout_rules.specs.Mentions.{program_rows}
use Rattle.layout_rules.specs.Rules.{AreKept, outlines_in, rules}
use Rattle.type_rules.specs.Entries.{typing}

pub record IsWellTyped (p : Joined) : Type 0 where
  pub layouts : AreKept (outlines_in p) (program_rows p) rules
  pub types : typing p.functions p.declarations ≡ Ok tt
