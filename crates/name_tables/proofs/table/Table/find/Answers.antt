use Rattle.type_rules.specs.Lookup.{is_name}
use Rattle.name_tables.proofs.Finding.{find_none, find_some}
use Rattle.name_tables.proofs.table.Table.find.Goals as goal

pub returns-in-None : goal.returns-in-None
returns-in-None g c = find_none (λ x. is_name c.args.name.now (g.T.Named.name_of x)) c.args.self.now c.in-None.ensures

pub returns-in-Some : goal.returns-in-Some
returns-in-Some g c = find_some (λ x. is_name c.args.name.now (g.T.Named.name_of x)) c.args.self.now _ c.in-Some.place _ c.self.view_is c.in-Some.ensures c.at.ensures
