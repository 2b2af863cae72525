use Rattle.std.proofs.Common.{◌≡◌, ◌<◌, length, sym, ◌∙◌, arith, rules}
use Rattle.std.proofs.lemmas.List.{get_or_read}
use Rattle.bit_gates.proofs.MadeLaws.{made_there}
use Rattle.bit_gates.proofs.net.Net.literal_at.Goals as goal

pub returns-then-eq : goal.returns-then-eq
returns-then-eq c =
    let same : c.index.result.now ≡ c.args.gate = search rules in
    let low : c.args.at < length c.self.inside.gates.items = omega (arith, c.self.inside.gates.ok.0) in
    made_there _ _ _ _ _ c.self.view_is c.self.invariant.in_order low
    (sym (get_or_read c.self.inside.gates.items _ _ low c.index.ensures c.args.gate) ∙ same)
