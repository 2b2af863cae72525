-- No name stands twice in a function that is printed, where none did in the one that was read.
use Rattle.std.proofs.Common.{◌≡◌, ℕ, ◌≤◌, ◌||◌, Bool, true, false, if◌then◌else◌, List, [], ◌∷◌, ◌++◌, map, Option, Some, None, refl, sym, ◌∙◌, ap, subst, arith}
use Rattle.std.specs.Bool.{⊤}
use Rattle.std.proofs.lemmas.Bool.{or_parts, leb-false}
use Rattle.mir_ir.specs.declared.tree.Block.{Block}
use Rattle.mir_grammar.specs.declared.trees.Declared.{Declared}
use Rattle.mir_grammar.specs.declared.trees.RawBlock.{RawBlock}
use Rattle.mir_grammar.specs.declared.trees.RawFunction.{RawFunction}
use Rattle.mir_grammar.specs.Places.{is_far}
use Rattle.mir_grammar.specs.Values.{all_passed}
use Rattle.canonical_text.specs.Places.{local_text, label_text}
use Rattle.raw_functions.specs.Meant.{is_cleanup, block_of, blocks_among, blocks_of, local_of, others_of, by_number, result_local}
use Rattle.raw_functions.specs.Doubles.{Spot, label_spots, local_spots, earlier, second_of, second_in}
use Rattle.raw_functions.specs.Limits.{declared_passed, block_all_passed, blocks_passed, function_passed}
use Rattle.print_laws.proofs.Distinct.{Apart, Distinct, distinct_map, names, second_distinct, distinct_second, numbers, declared_numbers, distinct_printed}
use Rattle.print_laws.proofs.Worded.{number_in, label_in, AllWorded, AllLabelled, AllSome, AreWorded}

-- Within the limits.

near : (n : ℕ) → is_far n ≡ false → n ≤ 4095
near n h = let e = leb-false 4096 n h in omega (arith, e)

abbrev AllNear : List Declared → Type 0
AllNear [] = ⊤
AllNear (d ∷ ds) = (d.id.0 ≤ 4095) × AllNear ds

declared_near : (ds : List Declared) → (declared_passed ds).locals ≡ false → AllNear ds
declared_near [] h = tt
declared_near (d ∷ ds) h =
    let p = or_parts (is_far d.id.0 || false) (declared_passed ds).locals h in
    (near d.id.0 (or_parts (is_far d.id.0) false p.0).0, declared_near ds p.1)

abbrev AreNear : List RawBlock → Type 0
AreNear [] = ⊤
AreNear (b ∷ bs) = (b.id.0 ≤ 4095) × AreNear bs

blocks_near : (bs : List RawBlock) → (blocks_passed bs).blocks ≡ false → AreNear bs
blocks_near [] h = tt
blocks_near (b ∷ bs) h =
    let p = or_parts (block_all_passed b).blocks (blocks_passed bs).blocks h in
    (near b.id.0 (or_parts (is_far b.id.0) ((all_passed b.statements).blocks || b.ending.passed.blocks) p.0).0, blocks_near bs p.1)

-- Locals.

map_on : {A B : Type 0} (f : A → B) (xs ys : List A) → map f (xs ++ ys) ≡ map f xs ++ map f ys
map_on f [] ys = refl
map_on f (x ∷ xs) ys = ap (λ z. f x ∷ z) (map_on f xs ys)

names_on : (xs ys : List Spot) → names (xs ++ ys) ≡ names xs ++ names ys
names_on [] ys = refl
names_on (x ∷ xs) ys = ap (λ z. x.0 ∷ z) (names_on xs ys)

local_names : (ds : List Declared) → AllWorded ds → AllNear ds → names (local_spots ds) ≡ map local_text (declared_numbers ds)
local_names [] h n = refl
local_names (d ∷ ds) h n = ap (λ x. x ∷ names (local_spots ds)) (h.0.canonical n.0) ∙ ap (λ x. local_text d.id.0 ∷ x) (local_names ds h.1 n.1)

local_numbers : (ds : List Declared) → AllWorded ds → declared_numbers ds ≡ map number_in (names (local_spots ds))
local_numbers [] h = refl
local_numbers (d ∷ ds) h = ap (λ x. x ∷ declared_numbers ds) h.0.number ∙ ap (λ x. number_in d.word ∷ x) (local_numbers ds h.1)

locals_distinct : (ps ds : List Declared) → AllWorded ps → AllWorded ds → AllNear ps → AllNear ds → second_of (local_spots ps ++ local_spots ds) ≡ None → Distinct (declared_numbers ps ++ declared_numbers ds)
locals_distinct ps ds wp wd np nd h =
    let e : names (local_spots ps ++ local_spots ds) ≡ map local_text (declared_numbers ps ++ declared_numbers ds) =
    names_on (local_spots ps) (local_spots ds) ∙ ap (λ x. x ++ names (local_spots ds)) (local_names ps wp np) ∙ ap (λ x. map local_text (declared_numbers ps) ++ x) (local_names ds wd nd) ∙ sym (map_on local_text (declared_numbers ps) (declared_numbers ds)) in
    distinct_map local_text (declared_numbers ps ++ declared_numbers ds) (subst (λ x. Distinct x) e (second_distinct (local_spots ps ++ local_spots ds) h))

locals_single : (ps ds : List Declared) → AllWorded ps → AllWorded ds → Distinct (declared_numbers ps ++ declared_numbers ds) → second_of (local_spots ps ++ local_spots ds) ≡ None
locals_single ps ds wp wd h =
    let e : declared_numbers ps ++ declared_numbers ds ≡ map number_in (names (local_spots ps ++ local_spots ds)) =
    ap (λ x. x ++ declared_numbers ds) (local_numbers ps wp) ∙ ap (λ x. map number_in (names (local_spots ps)) ++ x) (local_numbers ds wd) ∙ sym (map_on number_in (names (local_spots ps)) (names (local_spots ds)))
    ∙ ap (map number_in) (sym (names_on (local_spots ps) (local_spots ds))) in
    distinct_second (local_spots ps ++ local_spots ds) (distinct_map number_in (names (local_spots ps ++ local_spots ds)) (subst (λ x. Distinct x) e h))

numbers_of : (ds : List Declared) → declared_numbers ds ≡ numbers (map local_of ds)
numbers_of [] = refl
numbers_of (d ∷ ds) = ap (λ x. d.id.0 ∷ x) (numbers_of ds)

some_apart : (ds : List Declared) → AllSome ds → Apart 0 (declared_numbers ds)
some_apart [] h = tt
some_apart (d ∷ ds) h = (λ e. absurd (omega (arith, e, h.0)), some_apart ds h.1)

-- Blocks.

abbrev block_numbers : List RawBlock → List ℕ
block_numbers [] = []
block_numbers (b ∷ bs) = b.id.0 ∷ block_numbers bs

abbrev kept_numbers : List Block → List ℕ
kept_numbers [] = []
kept_numbers (b ∷ bs) = b.id.0 ∷ kept_numbers bs

abbrev pub AllPlain : List RawBlock → Type 0
AllPlain [] = ⊤
AllPlain (b ∷ bs) = (b.is_cleanup ≡ false) × AllPlain bs

label_names : (bs : List RawBlock) → AllLabelled bs → AreNear bs → names (label_spots bs) ≡ map label_text (block_numbers bs)
label_names [] h n = refl
label_names (b ∷ bs) h n = ap (λ x. x ∷ names (label_spots bs)) (h.0.canonical n.0) ∙ ap (λ x. label_text b.id.0 ∷ x) (label_names bs h.1 n.1)

label_numbers : (bs : List RawBlock) → AllLabelled bs → block_numbers bs ≡ map label_in (names (label_spots bs))
label_numbers [] h = refl
label_numbers (b ∷ bs) h = ap (λ x. x ∷ block_numbers bs) h.0.number ∙ ap (λ x. label_in b.word ∷ x) (label_numbers bs h.1)

apart_kept : (e : ℕ → Bool) (n : ℕ) (bs : List RawBlock) → Apart n (block_numbers bs) → Apart n (kept_numbers (blocks_among e bs))
apart_kept e n [] h = tt
apart_kept e n (b ∷ bs) h = kept_by b.is_cleanup (apart_kept e n bs h.1)
  where
    kept_by : (c : Bool) → Apart n (kept_numbers (blocks_among e bs)) → Apart n (kept_numbers (if c then blocks_among e bs else block_of e b ∷ blocks_among e bs))
    kept_by true k = k
    kept_by false k = (h.0, k)

distinct_kept : (e : ℕ → Bool) (bs : List RawBlock) → Distinct (block_numbers bs) → Distinct (kept_numbers (blocks_among e bs))
distinct_kept e [] h = tt
distinct_kept e (b ∷ bs) h = kept_by b.is_cleanup (distinct_kept e bs h.1)
  where
    kept_by : (c : Bool) → Distinct (kept_numbers (blocks_among e bs)) → Distinct (kept_numbers (if c then blocks_among e bs else block_of e b ∷ blocks_among e bs))
    kept_by true k = k
    kept_by false k = (apart_kept e b.id.0 bs h.0, k)

plain_numbers : (e : ℕ → Bool) (bs : List RawBlock) → AllPlain bs → kept_numbers (blocks_among e bs) ≡ block_numbers bs
plain_numbers e [] h = refl
plain_numbers e (b ∷ bs) h = rw (h.0) (ap (λ x. b.id.0 ∷ x) (plain_numbers e bs h.1))

labels_single : (as_ bs : List RawBlock) → AllLabelled as_ → AllLabelled bs → AreNear as_ → AllPlain bs → blocks_of bs ≡ blocks_of as_ → second_of (label_spots as_) ≡ None → second_of (label_spots bs) ≡ None
unfolding blocks_of
labels_single as_ bs wa wb n p e h =
    let d = distinct_map label_text (block_numbers as_) (subst (λ x. Distinct x) (label_names as_ wa n) (second_distinct (label_spots as_) h)) in
    let k = distinct_kept (is_cleanup as_) as_ d in
    let f : kept_numbers (blocks_among (is_cleanup as_) as_) ≡ map label_in (names (label_spots bs)) = sym (ap kept_numbers e) ∙ plain_numbers (is_cleanup bs) bs p ∙ label_numbers bs wb in
    distinct_second (label_spots bs) (distinct_map label_in (names (label_spots bs)) (subst (λ x. Distinct x) f k))

-- Functions.

pub earlier_parts : (a b : Option ℕ) → earlier a b ≡ None → (a ≡ None) × (b ≡ None)
earlier_parts None b h = (refl, h)
earlier_parts (Some m) None h = absurd (cc h)
earlier_parts (Some m) (Some n) h = absurd (cc h)

pub neither : (a b : Option ℕ) → a ≡ None → b ≡ None → earlier a b ≡ None
neither a b h k = ap (λ x. earlier x b) h ∙ k

pub single_function : (f v : RawFunction) → AreWorded f → AreWorded v → map local_of v.parameters ≡ map local_of f.parameters → map local_of v.items ≡ result_local f.result.ty f.items ∷ by_number (others_of f.items) → blocks_of v.blocks ≡ blocks_of f.blocks
    → AllPlain v.blocks → (function_passed f).locals ≡ false → (function_passed f).blocks ≡ false → second_in f ≡ None → second_in v ≡ None
unfolding second_in
single_function f v wf wv ps is bs p l m h =
    let s = earlier_parts (second_of (label_spots f.blocks)) (second_of (local_spots f.parameters ++ local_spots f.items)) h in
    let l1 = or_parts ((declared_passed f.parameters).locals || (declared_passed f.items).locals) (blocks_passed f.blocks).locals l in
    let l2 = or_parts (declared_passed f.parameters).locals (declared_passed f.items).locals l1.0 in
    let m1 = or_parts ((declared_passed f.parameters).blocks || (declared_passed f.items).blocks) (blocks_passed f.blocks).blocks m in
    let d = locals_distinct f.parameters f.items wf.parameters wf.items (declared_near f.parameters l2.0) (declared_near f.items l2.1) s.1 in
    let e : declared_numbers f.parameters ++ 0 ∷ numbers (by_number (others_of f.items)) ≡ declared_numbers v.parameters ++ declared_numbers v.items =
    sym (ap (λ x. x ++ declared_numbers v.items) (numbers_of v.parameters ∙ ap numbers ps ∙ sym (numbers_of f.parameters)) ∙ ap (λ x. declared_numbers f.parameters ++ x) (numbers_of v.items ∙ ap numbers is)) in
    let x = locals_single v.parameters v.items wv.parameters wv.items (subst (λ y. Distinct y) e (distinct_printed f.parameters f.items (some_apart f.parameters wf.some) d)) in
    let y = labels_single f.blocks v.blocks wf.blocks wv.blocks (blocks_near f.blocks m1.1) p bs s.0 in
    neither (second_of (label_spots v.blocks)) (second_of (local_spots v.parameters ++ local_spots v.items)) y x
