use Rattle.std.proofs.Common.{◌≡◌, ◌<◌, ℕ, [], length, get_or, sym, ap, ◌∙◌, arith, Vec, Global}
use Rattle.std.specs.Prelude.{map}
use Rattle.std.proofs.lemmas.List.{length-map, get_or-map}
use Rattle.gate_trim.proofs.MarkLaws.{marked_word}
use Rattle.gate_trim.proofs.marks.mark_words.Goals as goal

pub loop-i-preserved : goal.loop-i-preserved
loop-i-preserved c =
    let inside : c.loop-i.i < length (map (λ (w : Vec ℕ Global). w.items) c.args.words.now) = omega (arith, length-map c.args.words.now (λ (w : Vec ℕ Global). w.items), c.loop-i-test.true) in
    let word : c.as_slice.result.now ≡ get_or (map (λ (w : Vec ℕ Global). w.items) c.args.words.now) c.loop-i.i [] =
    c.as_slice.ensures.value ∙ ap (λ (w : Vec ℕ Global). w.items) c.index-words-i.is ∙ sym (get_or-map (λ (w : Vec ℕ Global). w.items) c.args.words.now c.loop-i.i c.index-words-i.result [] c.loop-i-test.true) in
    marked_word c.args.marks.now c.loop-i.marks c.mark_word.new.marks c.args.inputs c.loop-i.i c.as_slice.result.now (map (λ (w : Vec ℕ Global). w.items) c.args.words.now) inside word c.loop-i.invariant c.mark_word.ensures
