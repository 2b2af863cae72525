use Rattle.std.proofs.Common.{◌∙◌, Some, ap, bytes_eq, cond, sym}
use Rattle.std.specs.Prelude.{option_copied}
use Rattle.std.proofs.lemmas.Map.Text.{hash_map_updates_str}
use Rattle.indexmap.specs.IndexMap.{get_by}
use Rattle.type_rules.specs.Lookup.{is_name}
use Rattle.name_tables.proofs.table.add.Goals as goal

pub returns-in-None : goal.returns-in-None
returns-in-None c = record {
  finds = λ name. sym (ap (λ own. cond (is_name name (option_copied own)) (Some c.args.place) (get_by (λ k. bytes_eq name k.now) c.args.places.now)) c.in-None.is);
}

pub returns-in_ok-insert-in-Some : goal.returns-in_ok-insert-in-Some
returns-in_ok-insert-in-Some c = record {
  finds = λ name.
      hash_map_updates_str c.in-Some.name.now c.args.places.now c.insert.new.self (Some c.args.place) c.in_ok-insert-in-Some.ensures.updates name
      ∙ ap (λ own. cond (is_name name (option_copied own)) (Some c.args.place) (get_by (λ k. bytes_eq name k.now) c.args.places.now)) (sym c.in-Some.is);
}
