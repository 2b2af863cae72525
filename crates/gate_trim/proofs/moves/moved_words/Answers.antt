use Rattle.std.proofs.Common.{◌≡◌, ◌<◌, ◌++◌, ◌∷◌, ℕ, [], length, get_or, sym, ap, ◌∙◌, arith, Vec, Global}
use Rattle.std.specs.Prelude.{map}
use Rattle.std.proofs.lemmas.List.{length-map, get_or-map, map_push}
use Rattle.gate_trim.specs.Moves.{moved}
use Rattle.gate_trim.proofs.MoveLaws.{word_more}
use Rattle.gate_trim.proofs.moves.moved_words.Goals as goal

pub loop-i-preserved : goal.loop-i-preserved
loop-i-preserved c =
    let inside : c.loop-i.i < length (map (λ (w : Vec ℕ Global). w.items) c.args.words.now) = omega (arith, length-map c.args.words.now (λ (w : Vec ℕ Global). w.items), c.loop-i-test.true) in
    let word : c.as_slice.result.now ≡ get_or (map (λ (w : Vec ℕ Global). w.items) c.args.words.now) c.loop-i.i [] =
    c.as_slice.ensures.value ∙ ap (λ (w : Vec ℕ Global). w.items) c.index-words-i.is ∙ sym (get_or-map (λ (w : Vec ℕ Global). w.items) c.args.words.now c.loop-i.i c.index-words-i.result [] c.loop-i-test.true) in
    let more : map (λ (w : Vec ℕ Global). w.items) c.push.new.self.items ≡ map (λ (w : Vec ℕ Global). w.items) c.loop-i.all.items ++ c.in_ok-word.word.items ∷ [] =
    ap (map (λ (w : Vec ℕ Global). w.items)) c.in_ok-push.ensures.items ∙ map_push (λ (w : Vec ℕ Global). w.items) c.loop-i.all.items c.in_ok-word.word in
    word_more (map (moved c.args.places.now c.args.inputs)) (map (λ (w : Vec ℕ Global). w.items) c.loop-i.all.items) (map (λ (w : Vec ℕ Global). w.items) c.push.new.self.items) (map (λ (w : Vec ℕ Global). w.items) c.args.words.now) c.loop-i.i c.as_slice.result.now c.in_ok-word.word.items inside word c.in_ok-word.ensures c.loop-i.invariant more
