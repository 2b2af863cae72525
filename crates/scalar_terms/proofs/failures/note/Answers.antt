use Rattle.scalar_terms.proofs.WayLaws.{noted_never, noted_push}
use Rattle.scalar_terms.proofs.failures.note.Goals as goal

pub returns-then-is_never : goal.returns-then-is_never
returns-then-is_never c = noted_never c.args.terms.now c.args.failures.now.items c.args.breach c.args.term (λ inputs. c.is_never.ensures c.if-is_never.true inputs)

pub returns-in_ok-push : goal.returns-in_ok-push
returns-in_ok-push c = noted_push c.args.terms.now c.args.failures.now.items _ c.args.breach c.args.term c.requires c.in_ok-push.ensures.items
