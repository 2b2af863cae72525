use Rattle.std.proofs.Common.{subst}
use Rattle.kani_mir.specs.Told.{IsFoundBehind}
use Rattle.kani_mir.proofs.CommandLemmas.{fits_read, found_behind}
use Rattle.kani_mir.proofs.command.verify.Goals as goal

pub returns-in_ok-answer-in-Ok-clause-found : goal.returns-in_ok-answer-in-Ok-clause-found
returns-in_ok-answer-in-Ok-clause-found g c = found_behind _ _ c.in-Ok.text.items _ (g.F.Files.faults c.read_file.new.files) _ c.in_ok-answer-in-Ok.answer
    (fits_read _ c.in-Ok.text.items c.in-Ok.ensures.told c.in-Ok.ensures.within) c.in-Ok.ensures.later
    (subst (λ d. IsFoundBehind c.in-Ok.text.items d (g.F.Files.faults c.read_file.new.files) (g.F.Files.faults c.verify_text.new.files) c.in_ok-answer-in-Ok.answer) (c.in-Ok.ensures.keeps c.args.declarations.now)
    (subst (λ m. IsFoundBehind m (g.F.Files.held c.read_file.new.files c.args.declarations.now) (g.F.Files.faults c.read_file.new.files) (g.F.Files.faults c.verify_text.new.files) c.in_ok-answer-in-Ok.answer) c.as_slice.ensures.value c.in_ok-answer-in-Ok.ensures.found))
