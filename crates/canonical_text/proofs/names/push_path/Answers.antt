use Rattle.std.proofs.Common.{rules, arith, ◌≡◌, ◌<◌, ◌+◌, ◌-◌, ◌++◌, ◌∷◌, [], length, take, drop, get_or, refl, ◌∙◌, ap}
use Rattle.std.proofs.lemmas.List.{take_rest}
use Rattle.canonical_text.specs.Names.{colons_before, open_behind, position_behind}
use Rattle.canonical_text.proofs.Turns.{start_behind, written_turn, open_within, start_within}
use Rattle.canonical_text.proofs.names.push_path.Goals as goal

pub loop-at-preserved : goal.loop-at-preserved
loop-at-preserved c =
    let name = c.as_bytes-name.result.now in let at = c.loop-at.at in let start = c.loop-at.start in let depth = c.loop-at.depth in
    let more : c.loop-at.at < length c.as_bytes-name.result.now = omega (arith, c.loop-at-test.true) in
    let rest : take (length c.as_bytes-name.result.now - (c.loop-at.at + 1)) (drop (c.loop-at.at + 1) c.as_bytes-name.result.now) ≡ drop (c.loop-at.at + 1) c.as_bytes-name.result.now = take_rest c.as_bytes-name.result.now (c.loop-at.at + 1) in
    let opened : c.open_behind-depth.result ≡ open_behind c.loop-at.depth (get_or c.as_bytes-name.result.now c.loop-at.at 0) (drop (c.loop-at.at + 1) c.as_bytes-name.result.now) =
    c.open_behind-depth.ensures ∙ ap (open_behind c.loop-at.depth (get_or c.as_bytes-name.result.now c.loop-at.at 0)) rest in
    let placed : c.position_behind-here.result ≡ position_behind c.loop-at.here (take (c.loop-at.at - c.loop-at.start) (drop c.loop-at.start c.as_bytes-name.result.now)) (get_or c.as_bytes-name.result.now c.loop-at.at 0) = c.position_behind-here.ensures in
    let started : c.word_start-start.result ≡ start_behind c.loop-at.start c.loop-at.at (get_or c.as_bytes-name.result.now c.loop-at.at 0) = c.word_start-start.ensures in
    let before : c.colons_before.result.now ≡ colons_before c.loop-at.here (take (c.loop-at.at - c.loop-at.start) (drop c.loop-at.start c.as_bytes-name.result.now)) c.loop-at.depth (get_or c.as_bytes-name.result.now c.loop-at.at 0) (drop (c.loop-at.at + 1) c.as_bytes-name.result.now) =
    c.colons_before.ensures ∙ ap (colons_before c.loop-at.here (take (c.loop-at.at - c.loop-at.start) (drop c.loop-at.start c.as_bytes-name.result.now)) c.loop-at.depth (get_or c.as_bytes-name.result.now c.loop-at.at 0)) rest in
    let texted : c.push_text.new.out.items ≡ c.loop-at.out.items ++ c.colons_before.result.now = search rules in
    let colons : c.push_text.new.out.items ≡ c.loop-at.out.items ++ colons_before c.loop-at.here (take (c.loop-at.at - c.loop-at.start) (drop c.loop-at.start c.as_bytes-name.result.now)) c.loop-at.depth (get_or c.as_bytes-name.result.now c.loop-at.at 0) (drop (c.loop-at.at + 1) c.as_bytes-name.result.now) =
    texted ∙ ap (λ x. c.loop-at.out.items ++ x) before in
    let pushed : c.push.new.self.items ≡ c.push_text.new.out.items ++ get_or c.as_bytes-name.result.now c.loop-at.at 0 ∷ [] = search rules in (
      omega (arith, more),
      start_within start (get_or name at 0) at c.word_start-start.result (at + 1) c.loop-at.invariant.1 started refl,
      open_within depth (get_or name at 0) at c.open_behind-depth.result (at + 1) (drop (at + 1) name) c.loop-at.invariant.2 opened refl,
      written_turn name c.loop-at.out.items c.push_text.new.out.items c.push.new.self.items _ c.loop-at.here c.position_behind-here.result start at depth (get_or name at 0) 0 c.word_start-start.result c.open_behind-depth.result (at + 1) more c.loop-at.invariant.1 refl c.loop-at.invariant.3 colons pushed placed opened started refl,
    )
