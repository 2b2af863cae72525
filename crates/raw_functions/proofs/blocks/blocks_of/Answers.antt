use Rattle.std.proofs.Common.{◌≡◌, ◌∙◌, subst}
use Rattle.std.proofs.lemmas.Result.{IfOk-at_ok}
use Rattle.raw_functions.specs.Steps.{HasNumbers}
use Rattle.raw_functions.proofs.Meaning.{blocks_made}
use Rattle.raw_functions.proofs.blocks.blocks_of.Goals as goal

pub returns : goal.returns
returns c =
    let numbers : HasNumbers c.in_ok-edges.edges.keys c.as_slice.result.now = IfOk-at_ok (λ n. HasNumbers n.keys c.as_slice.result.now) c.in_ok-edges.ensures.0 c.cleanup_numbers-edges.ensures in
    let written : c.in_ok-edges.blocks.items ≡ c.args.blocks = IfOk-at_ok (λ v. v.items ≡ c.args.blocks) c.in_ok-edges.ensures.1 c.into_vec.ensures in
    c.from_vec.ensures ∙ blocks_made c.in_ok-edges.edges.keys c.args.blocks c.in_ok-edges.blocks.items c.in_ok-made.made.items (subst (HasNumbers c.in_ok-edges.edges.keys) c.as_slice.ensures numbers) c.in_ok-made.ensures written
