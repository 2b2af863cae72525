-- Functions are well made, and no two have one name.
use Rattle.std.proofs.Common.{◌≡◌, ℕ, ◌+◌, ◌*◌, ◌^◌, ◌<◌, ◌≤◌, ◌==◌, ◌||◌, nat_le, Bool, true, false, if◌then◌else◌, List, [], ◌∷◌, ◌++◌, length, take, drop, flat_map, bytes_eq, None, refl, sym, ◌∙◌, ap, arith, length-append}
use Rattle.std.specs.List.{list_any}
use Rattle.std.proofs.lemmas.Bool.{or_parts}
use Rattle.std.proofs.lemmas.Slice.Eq.{bytes_eq-Decides}
use Rattle.std.proofs.lemmas.List.{take-append-drop}
use Rattle.std.proofs.lemmas.Grind.{flat_map-append}
use Rattle.mir_ir.specs.declared.types.Ty.{Ty}
use Rattle.mir_ir.specs.declared.tree.Local.{Local}
use Rattle.mir_grammar.specs.declared.trees.Declared.{Declared}
use Rattle.mir_grammar.specs.declared.trees.RawFunction.{RawFunction}
use Rattle.raw_functions.specs.Doubles.{label_spots, local_spots, function_spots, second_of, second_in, second_inside}
use Rattle.raw_functions.specs.Limits.{declared_passed, blocks_passed, function_passed, functions_passed}
use Rattle.raw_functions.specs.Meant.{is_cleanup, blocks_among, blocks_of, local_of, locals_of, result_type, result_local, others_of, put_by_number, by_number, all_locals, function_of, functions_of}
use Rattle.print_laws.proofs.Distinct.{Apart, Distinct, names, second_distinct}
use Rattle.print_laws.proofs.Single.{earlier_parts}
use Rattle.print_laws.proofs.Worded.{AreWorded}
use Rattle.mir_program.specs.Apart.{AreApart}
use Rattle.mir_program.specs.Functions.{IsFunction}
use Rattle.mir_program.specs.Joined.{written, same_function}
use Rattle.mir_program.specs.Mentions.{local_types, block_types, function_types}
use Rattle.program_laws.proofs.Takes.{Every, total}
use Rattle.program_laws.proofs.TypeCounts.{count, written_same}
use Rattle.program_laws.proofs.TextTakes.{declared_weight, items_weight, IsRightFunction, function_weight}
use Rattle.program_laws.proofs.LocalsMade.{neither, locals_made}
use Rattle.program_laws.proofs.BlocksMade.{blocks_near, blocks_apart, blocks_made, blocks_low}

-- Each function.

function_made : (text : List ℕ) (f : RawFunction) → AreWorded f → IsRightFunction f → function_weight f < 2 ^ 32 → second_in f ≡ None → (function_passed f).locals ≡ false → (function_passed f).blocks ≡ false → IsFunction (function_of text f)
unfolding second_in blocks_of
function_made text f w r n s l m =
    let t = earlier_parts (second_of (label_spots f.blocks)) (second_of (local_spots f.parameters ++ local_spots f.items)) s in
    let l1 = or_parts ((declared_passed f.parameters).locals || (declared_passed f.items).locals) (blocks_passed f.blocks).locals l in
    let l2 = or_parts (declared_passed f.parameters).locals (declared_passed f.items).locals l1.0 in
    let m1 = or_parts ((declared_passed f.parameters).blocks || (declared_passed f.items).blocks) (blocks_passed f.blocks).blocks m in
    let near = blocks_near f.blocks m1.1 in record {
      locals = locals_made f.parameters f.items f.result.ty w.parameters w.some w.items l2.0 l2.1 t.1;
      apart = blocks_apart (is_cleanup f.blocks) f.blocks w.blocks near t.0;
      blocks = blocks_made (is_cleanup f.blocks) f.blocks near r (omega arith);
    }

pub functions_made : (text : List ℕ) (fs : List RawFunction) → Every AreWorded fs → Every IsRightFunction fs → total function_weight fs < 2 ^ 32 → second_inside fs ≡ None → (functions_passed fs).locals ≡ false → (functions_passed fs).blocks ≡ false
    → Every IsFunction (functions_of text fs)
unfolding functions_passed
functions_made text [] w r n s l m = tt
functions_made text (f ∷ fs) w r n s l m =
    let t = earlier_parts (second_in f) (second_inside fs) s in
    let l1 = or_parts (function_passed f).locals (functions_passed fs).locals l in
    let m1 = or_parts (function_passed f).blocks (functions_passed fs).blocks m in
    (function_made text f w.0 r.0 (omega arith) t.0 l1.0 m1.0, functions_made text fs w.1 r.1 (omega arith) t.1 l1.1 m1.1)

-- Names.

unlike : (text : List ℕ) (f : RawFunction) (fs : List RawFunction) → Apart f.name.text (names (function_spots fs)) → list_any (same_function (function_of text f)) (functions_of text fs) ≡ false
unlike text f [] h = refl
unlike text f (g ∷ gs) h = neither (bytes_eq f.name.text g.name.text) (list_any (same_function (function_of text f)) (functions_of text gs)) (differs (bytes_eq f.name.text g.name.text) refl) (unlike text f gs h.1)
  where
    differs : (c : Bool) → bytes_eq f.name.text g.name.text ≡ c → c ≡ false
    differs true e = absurd (h.0 ((bytes_eq-Decides f.name.text g.name.text).0 e))
    differs false e = refl

apart_by : (text : List ℕ) (fs : List RawFunction) → Distinct (names (function_spots fs)) → AreApart same_function (functions_of text fs)
apart_by text [] h = tt
apart_by text (f ∷ fs) h = (unlike text f fs h.0, apart_by text fs h.1)

pub functions_apart : (text : List ℕ) (fs : List RawFunction) → second_of (function_spots fs) ≡ None → AreApart same_function (functions_of text fs)
functions_apart text fs h = apart_by text fs (second_distinct (function_spots fs) h)

pub count_same : (text : List ℕ) (fs : List RawFunction) → length (functions_of text fs) ≡ length fs
count_same text [] = refl
count_same text (f ∷ fs) = let e = count_same text fs in omega arith

-- Types.

abbrev local_count : Local → ℕ
local_count l = count l.ty

locals_length : (ls : List Local) → length (flat_map (local_types written) ls) ≡ total local_count ls
locals_length [] = refl
locals_length (l ∷ ls) = let e = locals_length ls in let f : length (written true l.ty) ≡ count l.ty = ap length (written_same l.ty) in
    omega (arith, e, f, length-append (written true l.ty) (flat_map (local_types written) ls))

halves : (n : ℕ) (ls : List Local) → length (flat_map (local_types written) (take n ls)) + length (flat_map (local_types written) (drop n ls)) ≡ total local_count ls
halves n ls = sym (length-append (flat_map (local_types written) (take n ls)) (flat_map (local_types written) (drop n ls))) ∙ ap length (sym (flat_map-append (local_types written) (take n ls) (drop n ls)))
    ∙ ap (λ x. length (flat_map (local_types written) x)) (take-append-drop n ls) ∙ locals_length ls

parameters_count : (ps : List Declared) (ls : List Local) → total local_count (locals_of ps ++ ls) ≡ items_weight ps + total local_count ls
parameters_count [] ls = omega arith
parameters_count (p ∷ ps) ls = let e = parameters_count ps ls in omega arith

result_low : (t : Ty) (ds : List Declared) → count (result_type t ds) ≤ count t + items_weight ds
result_low t [] = omega arith
result_low t (d ∷ ds) = by_zero (d.id.0 == 0) (result_low t ds)
  where
    by_zero : (c : Bool) → count (result_type t ds) ≤ count t + items_weight ds → count (if c then d.ty.ty else result_type t ds) ≤ count t + (declared_weight d + items_weight ds)
    by_zero true h = omega arith
    by_zero false h = omega arith

others_low : (ds : List Declared) → total local_count (others_of ds) ≤ items_weight ds
others_low [] = omega arith
others_low (d ∷ ds) = by_zero (d.id.0 == 0) (others_low ds)
  where
    by_zero : (c : Bool) → total local_count (others_of ds) ≤ items_weight ds → total local_count (if c then others_of ds else local_of d ∷ others_of ds) ≤ declared_weight d + items_weight ds
    by_zero true h = omega arith
    by_zero false h = omega arith

put_count : (l : Local) (ms : List Local) → total local_count (put_by_number l ms) ≡ local_count l + total local_count ms
put_count l [] = refl
put_count l (m ∷ ms) = by_order (nat_le l.id.0 m.id.0) (put_count l ms)
  where
    by_order : (c : Bool) → total local_count (put_by_number l ms) ≡ local_count l + total local_count ms → total local_count (if c then l ∷ m ∷ ms else m ∷ put_by_number l ms) ≡ local_count l + (local_count m + total local_count ms)
    by_order true e = refl
    by_order false e = omega arith

sort_count : (ls : List Local) → total local_count (by_number ls) ≡ total local_count ls
sort_count [] = refl
sort_count (l ∷ ls) = let e = sort_count ls in let f = put_count l (by_number ls) in omega arith

locals_low : (ps ds : List Declared) (t : Ty) → total local_count (all_locals ps t ds) ≤ items_weight ps + (count t + (items_weight ds + items_weight ds))
unfolding all_locals
locals_low ps ds t =
    let a = parameters_count ps (result_local t ds ∷ by_number (others_of ds)) in
    let b = result_low t ds in
    let c = sort_count (others_of ds) in
    let d = others_low ds in omega arith

-- each type that is written stands on a token of its own, but the result's, which is that of _0 too
function_low : (text : List ℕ) (f : RawFunction) → length (function_types written (function_of text f)) ≤ 2 * function_weight f
unfolding blocks_of
function_low text f =
    let ls = all_locals f.parameters f.result.ty f.items in
    let n = length f.parameters in
    let first = flat_map (local_types written) (take n ls) in
    let then_ = flat_map (local_types written) (drop n ls) in
    let blocks = flat_map (block_types written) (blocks_among (is_cleanup f.blocks) f.blocks) in
    let r : length (written true f.result.ty) ≡ count f.result.ty = ap length (written_same f.result.ty) in
    omega (
      arith,
      r,
      halves n ls,
      locals_low f.parameters f.items f.result.ty,
      blocks_low (is_cleanup f.blocks) f.blocks,
      length-append (first ++ written true f.result.ty ++ then_) blocks,
      length-append (first ++ written true f.result.ty) then_,
      length-append first (written true f.result.ty),
    )

pub types_low : (text : List ℕ) (fs : List RawFunction) → length (flat_map (function_types written) (functions_of text fs)) ≤ 2 * total function_weight fs
types_low text [] = omega arith
types_low text (f ∷ fs) = let a = function_low text f in let b = types_low text fs in
    omega (arith, a, b, length-append (function_types written (function_of text f)) (flat_map (function_types written) (functions_of text fs)))
