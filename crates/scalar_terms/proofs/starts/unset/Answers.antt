use Rattle.std.proofs.lemmas.Nat.{pow_pos}
use Rattle.scalar_terms.proofs.StartLaws.{unset_made}
use Rattle.scalar_terms.proofs.starts.unset.Goals as goal

pub insert-requires : goal.insert-requires
insert-requires c = record { fitting = record { some_bits = c.requires.some_bits; few_bits = c.requires.few_bits; below = pow_pos c.args.width }; input = tt }

pub returns : goal.returns
returns c = unset_made c.args.terms.now c.bit.new.terms c.insert.new.self (record { set = c.in_ok-set.set; word = c.in_ok-word.word }) (record { width = c.args.width; value = 0 }) c.in_ok-set.ensures c.in_ok-word.ensures.ok
