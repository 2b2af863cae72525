use Rattle.std.proofs.Common.{◌≡◌, ℕ, Bool, List, length, ap, sym, ◌∙◌, subst, arith, Vec, Global}
use Rattle.std.specs.Prelude.{map}
use Rattle.std.specs.List.{All}
use Rattle.bit_gates.specs.Circuit.{Circuit}
use Rattle.bit_gates.specs.Made.{AreIn}
use Rattle.gate_trim.specs.Trimmed.{circuit, IsTrimmed}
use Rattle.bit_blast.specs.Inputs.{ArePlaced}
use Rattle.bit_blast.specs.Blasted.{IsTable}
use Rattle.bit_blast.proofs.Finished.{room_made, gates_made, words_inside, table_seen, words_seen, circuit_seen, trimmed_seen}
use Rattle.bit_blast.proofs.terms_to_gates.blast.Goals as goal

pub blast_terms-requires-clause-places : goal.blast_terms-requires-clause-places
blast_terms-requires-clause-places c =
    let places : c.as_slice-2.result.now ≡ c.in_ok-bits.field-0.places.items = c.as_slice-2.ensures.value in
    let count : c.len.result ≡ length c.in_ok-bits.field-0.bits.items = omega (arith, c.in_ok-bits.field-0.bits.ok.0) in
    room_made c.in_ok-net.net c.args.terms.now c.in_ok-widths.widths.items c.as_slice.result.now c.in_ok-bits.field-0.places.items c.as_slice-2.result.now c.in_ok-bits.field-0.bits.items c.len.result
    c.len-count.ensures.fitting c.in_ok-widths.ensures.have c.as_slice.ensures.value c.in_ok-bits.ensures places c.in_ok-net.ensures count

pub trim-requires-clause-roots : goal.trim-requires-clause-roots
trim-requires-clause-roots c =
    subst (λ (k : Circuit). All (λ (w : Vec ℕ Global). AreIn k w.items) c.as_slice-4.result.now) (sym (circuit_seen c.blast_terms.new.net c.inputs-count.result c.into_gates-whole.result.items c.inputs-count.ensures c.into_gates-whole.ensures.gates))
    (words_seen c.blast_terms.new.net c.as_slice-4.result.now c.in_ok-words.words.items c.as_slice-4.ensures.value
    (words_inside c.blast_terms.new.net c.args.terms.now c.args.roots.now c.as_slice-2.result.now c.in_ok-marks.marks.items c.in_ok-table.table.blocks (map (λ (w : Vec ℕ Global). w.items) c.in_ok-words.words.items) c.in_ok-marks.ensures.one_each c.in_ok-marks.ensures.reached
    (subst (λ (m : List Bool). IsTable c.blast_terms.new.net c.args.terms.now c.as_slice-2.result.now m (length c.args.terms.now) c.in_ok-table.table.blocks) c.as_slice-3.ensures.value c.in_ok-table.ensures.1) c.in_ok-words.ensures c.requires))

pub returns : goal.returns
returns c =
    let places : c.as_slice-2.result.now ≡ c.in_ok-bits.field-0.places.items = c.as_slice-2.ensures.value in
    let count : c.len.result ≡ length c.in_ok-bits.field-0.bits.items = omega (arith, c.in_ok-bits.field-0.bits.ok.0) in
    let inputs : c.blast_terms.new.net.inputs ≡ length c.in_ok-bits.field-0.bits.items = c.in_ok-table.ensures.0 ∙ ap (λ (k : Circuit). k.inputs) c.in_ok-net.ensures ∙ count in
    gates_made c.blast_terms.new.net c.args.terms.now c.args.roots.now c.in_ok-widths.widths.items c.in_ok-bits.field-0.places.items c.in_ok-marks.marks.items c.in_ok-table.table.blocks (map (λ (w : Vec ℕ Global). w.items) c.in_ok-words.words.items) _
    inputs c.len-count.ensures.fitting c.in_ok-widths.ensures.have c.in_ok-widths.ensures.few
    (subst (λ (k : List ℕ). ArePlaced k c.in_ok-bits.field-0.bits.items c.in_ok-bits.field-0.places.items) c.as_slice.ensures.value c.in_ok-bits.ensures)
    c.in_ok-marks.ensures.one_each c.in_ok-marks.ensures.reached
    (table_seen c.blast_terms.new.net c.args.terms.now c.as_slice-2.result.now c.in_ok-bits.field-0.places.items c.as_slice-3.result.now c.in_ok-marks.marks.items c.in_ok-table.table.blocks places c.as_slice-3.ensures.value c.in_ok-table.ensures.1)
    c.in_ok-words.ensures c.requires
    (trimmed_seen c.blast_terms.new.net c.inputs-count.result c.into_gates-whole.result.items c.in_ok-gates.field-0.gates.items _ _ c.inputs-count.ensures c.into_gates-whole.ensures.gates
    (subst (λ (ws : List (Vec ℕ Global)). IsTrimmed (circuit c.inputs-count.result c.into_gates-whole.result.items) (map (λ (w : Vec ℕ Global). w.items) ws) (circuit c.inputs-count.result c.in_ok-gates.field-0.gates.items) (map (λ (w : Vec ℕ Global). w.items) c.in_ok-gates.field-0.roots.items)) c.as_slice-4.ensures.value c.in_ok-gates.ensures))
