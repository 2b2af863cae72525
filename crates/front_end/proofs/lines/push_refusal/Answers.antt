use Rattle.front_end.proofs.LineLemmas.{declaration_line}
use Rattle.front_end.proofs.lines.push_refusal.Goals as goal

pub returns-in_ok-push_of-in-Declaration : goal.returns-in_ok-push_of-in-Declaration
returns-in_ok-push_of-in-Declaration c = declaration_line c.args.out.now.items c.push_of.new.out.items c.declaration_word.result.now c.args.refusal.now c.in-Declaration.kind c.in-Declaration.path c.in-Declaration.is c.declaration_word.ensures
    c.in_ok-push_of-in-Declaration.ensures
