use Rattle.layout_rules.proofs.UnknownLaws.{text_put}
use Rattle.layout_rules.proofs.values.put_text.Goals as goal

pub returns : goal.returns
returns c = λ other. text_put (λ k. k.items) other c.args.text.now c.args.set.now.keys c.insert.new.self.keys c.in_ok-owned.owned
    c.in_ok-insert.ensures.keys c.in_ok-owned.ensures.items
