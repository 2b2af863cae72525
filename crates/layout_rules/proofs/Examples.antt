-- Worked layouts that break a rule, and others that break none.
use Rattle.std.proofs.Common.{◌≡◌, ℕ, zero, suc, Bool, true, false, true≢false, List, [], ◌∷◌, Some, None, Err, refl, sym}
use Rattle.std.specs.Prelude.{codes}
use Rattle.type_layouts.specs.declared.extent.Extent.{Extent}
use Rattle.type_layouts.specs.declared.extent.Form.TheVariants as form
use Rattle.type_layouts.specs.declared.outline.Outline.{Outline}
use Rattle.type_layouts.specs.declared.outline.Spot.{Spot}
use Rattle.type_layouts.specs.declared.row.Row.{Row}
use Rattle.type_layouts.specs.Extents.{empty, number_extent}
use Rattle.type_layouts.specs.Parts.{is_too_big, parts_table}
use Rattle.type_layouts.specs.Recursion.{Leads, NoneRecursive}
use Rattle.layout_rules.specs.declared.fault.LayoutFault.TheVariants as fault
use Rattle.layout_rules.specs.declared.fault.LayoutKind.TheVariants as kind
use Rattle.layout_rules.specs.Placing.{is_misaligned, is_outside, is_overlapping}
use Rattle.layout_rules.specs.Rules.{IsAnswer, is_unknown}

abbrev spot : ℕ → ℕ → Spot
spot offset bytes = record { offset = offset; size = bytes; align = bytes }

-- a struct `A` that holds no declared type
abbrev struct : ℕ → ℕ → List Spot → Outline
struct size align spots = record { text = codes "A"; size = size; align = align; tag = None; groups = spots ∷ []; parts = 3; held = [] }

abbrev row : List ℕ → Bool → Extent → Row
row text is_value extent = record { text = text; is_value = is_value; extent = extent }

-- a `u32` at 0 and a `u8` at 3, of size 4
abbrev a : Outline
a = struct 4 4 (spot 0 4 ∷ spot 3 1 ∷ [])

abbrev a_rows : List Row
a_rows = row (codes "A") false (record empty { size = 4; align = 4; parts = 0; held = record { entry = 0; times = 1 } ∷ [] })
    ∷ row (codes "u32") true (number_extent 4) ∷ row (codes "u8") true (number_extent 1) ∷ []

nothing_led : (i k : ℕ) (path : List ℕ) → Leads (a ∷ []) i path k → ⊥
nothing_led zero k [] h = true≢false (sym h)
nothing_led (suc i) k [] h = true≢false (sym h)
nothing_led zero k (j ∷ path) h = true≢false (sym h.0)
nothing_led (suc i) k (j ∷ path) h = true≢false (sym h.0)

a_holds_nothing : NoneRecursive (a ∷ [])
a_holds_nothing i r = nothing_led i i r.path r.leads

overlap_of_a : IsAnswer (a ∷ []) a_rows (Err (fault.Rule kind.Overlap (codes "A")))
unfolding is_unknown is_too_big parts_table is_misaligned is_outside is_overlapping
overlap_of_a = ((refl, (a_holds_nothing, (refl, (refl, (refl, tt))))), refl)

-- the `u8` at 4 of size 8 breaks no rule; the third field overlaps the first, which is no neighbour; a field without bytes overlaps none
apart : is_overlapping (struct 8 4 (spot 0 4 ∷ spot 4 1 ∷ [])) ≡ false
unfolding is_overlapping
apart = refl

no_neighbours : is_overlapping (struct 8 4 (spot 0 4 ∷ spot 4 2 ∷ spot 2 2 ∷ [])) ≡ true
unfolding is_overlapping
no_neighbours = refl

without_bytes : is_overlapping (struct 8 4 (spot 0 4 ∷ record { offset = 2; size = 0; align = 1 } ∷ [])) ≡ false
unfolding is_overlapping
without_bytes = refl

-- a tag over the field of the second variant
abbrev tagged : List (List Spot) → Outline
tagged groups = record { text = codes "E"; size = 8; align = 4; tag = Some (spot 0 1); groups = groups; parts = 3; held = [] }

tag_apart : is_overlapping (tagged ((spot 4 4 ∷ []) ∷ (spot 4 4 ∷ []) ∷ [])) ≡ false
unfolding is_overlapping
tag_apart = refl

tag_covered : is_overlapping (tagged ((spot 4 4 ∷ []) ∷ (spot 0 4 ∷ []) ∷ [])) ≡ true
unfolding is_overlapping
tag_covered = refl

-- a field that ends at 5 of size 4; a size of 6 at alignment 4; a `u32` in a struct of alignment 2
outside : is_outside (struct 4 4 (spot 0 4 ∷ spot 4 1 ∷ [])) ≡ true
unfolding is_outside
outside = refl

odd_size : is_misaligned (struct 6 4 (spot 0 4 ∷ [])) ≡ true
unfolding is_misaligned
odd_size = refl

low_alignment : is_misaligned (struct 8 2 (spot 0 4 ∷ [])) ≡ true
unfolding is_misaligned
low_alignment = refl

well_placed : is_misaligned (struct 8 4 (spot 0 4 ∷ spot 4 1 ∷ [])) ≡ false
unfolding is_misaligned
well_placed = refl

-- `[u8]` is known behind a pointer, and not where a value of it stands
abbrev slice : Bool → Row
slice is_value = row (codes "[u8]") is_value (record empty { form = form.Slice })

behind_a_pointer : is_unknown (slice false ∷ []) (slice false) ≡ false
unfolding is_unknown
behind_a_pointer = refl

as_a_value : is_unknown (slice false ∷ slice true ∷ []) (slice false) ≡ true
unfolding is_unknown
as_a_value = refl
