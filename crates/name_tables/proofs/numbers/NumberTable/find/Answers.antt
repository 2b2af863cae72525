use Rattle.std.proofs.Common.{◌==◌}
use Rattle.name_tables.proofs.Finding.{find_none, find_some}
use Rattle.name_tables.proofs.numbers.NumberTable.find.Goals as goal

pub returns-in-None : goal.returns-in-None
returns-in-None g c = find_none (λ x. g.T.Numbered.number_of x == c.args.number) c.args.self.now c.in-None.ensures

pub returns-in-Some : goal.returns-in-Some
returns-in-Some g c = find_some (λ x. g.T.Numbered.number_of x == c.args.number) c.args.self.now _ c.in-Some.place _ c.self.view_is c.in-Some.ensures c.at.ensures
