-- The locals of a function are well made: in order, apart and within the limit.
use Rattle.std.proofs.Common.{◌≡◌, ℕ, ◌<◌, ◌≤◌, ◌==◌, ◌||◌, nat_le, Bool, true, false, if◌then◌else◌, List, [], ◌∷◌, ◌++◌, length, map, None, refl, sym, ◌∙◌, ap, subst, arith, All, eq-or-lt_of_le, inl, inr, zero, suc}
use Rattle.std.specs.List.{list_any}
use Rattle.std.proofs.lemmas.Bool.{or_parts, leb-true, leb-false, ne_eqb}
use Rattle.std.proofs.lemmas.List.Elements.{All-nil, All-cons}
use Rattle.mir_ir.specs.declared.types.Ty.{Ty}
use Rattle.mir_ir.specs.declared.tree.Local.{Local}
use Rattle.mir_grammar.specs.declared.trees.Declared.{Declared}
use Rattle.mir_grammar.specs.Places.{is_far}
use Rattle.raw_functions.specs.Doubles.{Spot, local_spots, second_of}
use Rattle.raw_functions.specs.Limits.{declared_passed}
use Rattle.raw_functions.specs.Meant.{local_of, locals_of, result_local, others_of, put_by_number, by_number, all_locals}
use Rattle.canonical_text.specs.Places.{local_text}
use Rattle.print_laws.proofs.Distinct.{Apart, Distinct, distinct_map, distinct_parts, names, second_distinct, numbers, declared_numbers, distinct_printed}
use Rattle.print_laws.proofs.Worded.{AllWorded, AllSome}
use Rattle.mir_program.specs.Apart.{AreApart}
use Rattle.mir_program.specs.Functions.{RiseFrom, same_local, IsLocal, AreLocals}
use Rattle.program_laws.proofs.Takes.{Every}

-- Lists.

pub every_all : {X : Type 0} (P : X → Type 0) (xs : List X) → Every P xs → All P xs
every_all P [] h = All-nil P
every_all P (x ∷ xs) h = All-cons P x xs h.0 (every_all P xs h.1)

pub every_both : {X : Type 0} (P : X → Type 0) (xs ys : List X) → Every P xs → Every P ys → Every P (xs ++ ys)
every_both P [] ys h k = k
every_both P (x ∷ xs) ys h k = (h.0, every_both P xs ys h.1 k)

pub neither : (a b : Bool) → a ≡ false → b ≡ false → (a || b) ≡ false
neither true b e f = e
neither false b e f = f

pub map_on : {A B : Type 0} (f : A → B) (xs ys : List A) → map f (xs ++ ys) ≡ map f xs ++ map f ys
map_on f [] ys = refl
map_on f (x ∷ xs) ys = ap (λ z. f x ∷ z) (map_on f xs ys)

-- Within the limit.

pub near : (n : ℕ) → is_far n ≡ false → n ≤ 4095
near n h = let e = leb-false 4096 n h in omega (arith, e)

abbrev IsNear : Declared → Type 0
IsNear d = d.id.0 ≤ 4095

declared_near : (ds : List Declared) → (declared_passed ds).locals ≡ false → Every IsNear ds
declared_near [] h = tt
declared_near (d ∷ ds) h =
    let p = or_parts (is_far d.id.0 || false) (declared_passed ds).locals h in
    (near d.id.0 (or_parts (is_far d.id.0) false p.0).0, declared_near ds p.1)

parameters_near : (ps : List Declared) (ls : List Local) → Every IsNear ps → Every IsLocal ls → Every IsLocal (locals_of ps ++ ls)
parameters_near [] ls h k = k
parameters_near (p ∷ ps) ls h k = (h.0, parameters_near ps ls h.1 k)

others_near : (ds : List Declared) → Every IsNear ds → Every IsLocal (others_of ds)
others_near [] h = tt
others_near (d ∷ ds) h = by_zero (d.id.0 == 0) (others_near ds h.1)
  where
    by_zero : (c : Bool) → Every IsLocal (others_of ds) → Every IsLocal (if c then others_of ds else local_of d ∷ others_of ds)
    by_zero true k = k
    by_zero false k = (h.0, k)

put_near : (l : Local) (ms : List Local) → IsLocal l → Every IsLocal ms → Every IsLocal (put_by_number l ms)
put_near l [] h k = (h, tt)
put_near l (m ∷ ms) h k = by_order (nat_le l.id.0 m.id.0) (put_near l ms h k.1)
  where
    by_order : (c : Bool) → Every IsLocal (put_by_number l ms) → Every IsLocal (if c then l ∷ m ∷ ms else m ∷ put_by_number l ms)
    by_order true p = (h, k)
    by_order false p = (k.0, p)

sort_near : (ls : List Local) → Every IsLocal ls → Every IsLocal (by_number ls)
sort_near [] h = tt
sort_near (l ∷ ls) h = put_near l (by_number ls) h.0 (sort_near ls h.1)

-- Apart.

numbers_on : (ps : List Declared) (ls : List Local) → numbers (locals_of ps ++ ls) ≡ declared_numbers ps ++ numbers ls
numbers_on [] ls = refl
numbers_on (p ∷ ps) ls = ap (λ x. p.id.0 ∷ x) (numbers_on ps ls)

unlike : (l : Local) (ls : List Local) → Apart l.id.0 (numbers ls) → list_any (same_local l) ls ≡ false
unlike l [] h = refl
unlike l (m ∷ ms) h = neither (l.id.0 == m.id.0) (list_any (same_local l) ms) (ne_eqb l.id.0 m.id.0 h.0) (unlike l ms h.1)

locals_apart : (ls : List Local) → Distinct (numbers ls) → AreApart same_local ls
locals_apart [] h = tt
locals_apart (l ∷ ls) h = (unlike l ls h.0, locals_apart ls h.1)

names_on : (xs ys : List Spot) → names (xs ++ ys) ≡ names xs ++ names ys
names_on [] ys = refl
names_on (x ∷ xs) ys = ap (λ z. x.0 ∷ z) (names_on xs ys)

local_names : (ds : List Declared) → AllWorded ds → Every IsNear ds → names (local_spots ds) ≡ map local_text (declared_numbers ds)
local_names [] h n = refl
local_names (d ∷ ds) h n = ap (λ x. x ∷ names (local_spots ds)) (h.0.canonical n.0) ∙ ap (λ x. local_text d.id.0 ∷ x) (local_names ds h.1 n.1)

numbers_distinct : (ps ds : List Declared) → AllWorded ps → AllWorded ds → Every IsNear ps → Every IsNear ds → second_of (local_spots ps ++ local_spots ds) ≡ None → Distinct (declared_numbers ps ++ declared_numbers ds)
numbers_distinct ps ds wp wd np nd h =
    let e : names (local_spots ps ++ local_spots ds) ≡ map local_text (declared_numbers ps ++ declared_numbers ds) =
    names_on (local_spots ps) (local_spots ds) ∙ ap (λ x. x ++ names (local_spots ds)) (local_names ps wp np) ∙ ap (λ x. map local_text (declared_numbers ps) ++ x) (local_names ds wd nd) ∙ sym (map_on local_text (declared_numbers ps) (declared_numbers ds)) in
    distinct_map local_text (declared_numbers ps ++ declared_numbers ds) (subst (λ x. Distinct x) e (second_distinct (local_spots ps ++ local_spots ds) h))

some_apart : (ds : List Declared) → AllSome ds → Apart 0 (declared_numbers ds)
some_apart [] h = tt
some_apart (d ∷ ds) h = (λ e. absurd (omega (arith, e, h.0)), some_apart ds h.1)

-- Rising.

strictly : (m n : ℕ) → m ≤ n → (m ≡ n → ⊥) → m < n
strictly m n h d = elim (eq-or-lt_of_le h) [ inl e ↦ absurd (d e) | inr l ↦ l ]

not_zero : (n : ℕ) → (n == 0) ≡ false → 0 < n
not_zero zero e = absurd cc
not_zero (suc n) e = omega arith

apart_put : (n : ℕ) (l : Local) (ms : List Local) → (n ≡ l.id.0 → ⊥) → Apart n (numbers ms) → Apart n (numbers (put_by_number l ms))
apart_put n l [] h k = (h, tt)
apart_put n l (m ∷ ms) h k = by_order (nat_le l.id.0 m.id.0) (apart_put n l ms h k.1)
  where
    by_order : (c : Bool) → Apart n (numbers (put_by_number l ms)) → Apart n (numbers (if c then l ∷ m ∷ ms else m ∷ put_by_number l ms))
    by_order true p = (h, k)
    by_order false p = (k.0, p)

apart_sort : (n : ℕ) (ls : List Local) → Apart n (numbers ls) → Apart n (numbers (by_number ls))
apart_sort n [] h = tt
apart_sort n (l ∷ ls) h = apart_put n l (by_number ls) h.0 (apart_sort n ls h.1)

put_rises : (n : ℕ) (l : Local) (ms : List Local) → n < l.id.0 → RiseFrom n ms → Apart l.id.0 (numbers ms) → RiseFrom n (put_by_number l ms)
put_rises n l [] h r a = (h, tt)
put_rises n l (m ∷ ms) h r a = by_order (nat_le l.id.0 m.id.0) refl (λ k. put_rises m.id.0 l ms k r.1 a.1)
  where
    by_order : (c : Bool) → nat_le l.id.0 m.id.0 ≡ c → (m.id.0 < l.id.0 → RiseFrom m.id.0 (put_by_number l ms)) → RiseFrom n (if c then l ∷ m ∷ ms else m ∷ put_by_number l ms)
    by_order true e f = (h, (strictly l.id.0 m.id.0 (leb-true l.id.0 m.id.0 e) a.0, r.1))
    by_order false e f = (r.0, f (leb-false l.id.0 m.id.0 e))

abbrev IsSome : Local → Type 0
IsSome l = 0 < l.id.0

sort_rises : (ls : List Local) → Every IsSome ls → Distinct (numbers ls) → RiseFrom 0 (by_number ls)
sort_rises [] s d = tt
sort_rises (l ∷ ls) s d = put_rises 0 l (by_number ls) s.0 (sort_rises ls s.1 d.1) (apart_sort l.id.0 ls d.0)

others_some : (ds : List Declared) → Every IsSome (others_of ds)
others_some [] = tt
others_some (d ∷ ds) = by_zero (d.id.0 == 0) refl (others_some ds)
  where
    by_zero : (c : Bool) → (d.id.0 == 0) ≡ c → Every IsSome (others_of ds) → Every IsSome (if c then others_of ds else local_of d ∷ others_of ds)
    by_zero true e k = k
    by_zero false e k = (not_zero d.id.0 e, k)

apart_others : (n : ℕ) (ds : List Declared) → Apart n (declared_numbers ds) → Apart n (numbers (others_of ds))
apart_others n [] h = tt
apart_others n (d ∷ ds) h = by_zero (d.id.0 == 0) (apart_others n ds h.1)
  where
    by_zero : (c : Bool) → Apart n (numbers (others_of ds)) → Apart n (numbers (if c then others_of ds else local_of d ∷ others_of ds))
    by_zero true k = k
    by_zero false k = (h.0, k)

distinct_others : (ds : List Declared) → Distinct (declared_numbers ds) → Distinct (numbers (others_of ds))
distinct_others [] h = tt
distinct_others (d ∷ ds) h = by_zero (d.id.0 == 0) (distinct_others ds h.1)
  where
    by_zero : (c : Bool) → Distinct (numbers (others_of ds)) → Distinct (numbers (if c then others_of ds else local_of d ∷ others_of ds))
    by_zero true k = k
    by_zero false k = (apart_others d.id.0 ds h.0, k)

length_of : (ds : List Declared) → length (locals_of ds) ≡ length ds
length_of [] = refl
length_of (d ∷ ds) = let e = length_of ds in omega arith

-- All of it.

pub locals_made : (ps ds : List Declared) (result : Ty) → AllWorded ps → AllSome ps → AllWorded ds → (declared_passed ps).locals ≡ false → (declared_passed ds).locals ≡ false
    → second_of (local_spots ps ++ local_spots ds) ≡ None → AreLocals (length ps) (all_locals ps result ds)
unfolding all_locals
locals_made ps ds result wp sp wd lp ld h =
    let np = declared_near ps lp in
    let nd = declared_near ds ld in
    let d = numbers_distinct ps ds wp wd np nd h in
    let all = distinct_printed ps ds (some_apart ps sp) d in
    let zero_near : 0 ≤ 4095 = omega arith in
    let own = (distinct_parts (declared_numbers ps) (declared_numbers ds) d).1.1 in record {
      parameters = locals_of ps;
      returned = result_local result ds;
      others = by_number (others_of ds);
      in_order = refl;
      counted = length_of ps;
      is_zero = refl;
      rising = sort_rises (others_of ds) (others_some ds) (distinct_others ds own);
      apart = locals_apart (locals_of ps ++ result_local result ds ∷ by_number (others_of ds)) (subst (λ x. Distinct x) (sym (numbers_on ps (result_local result ds ∷ by_number (others_of ds)))) all);
      numbers = every_all IsLocal (locals_of ps ++ result_local result ds ∷ by_number (others_of ds)) (parameters_near ps (result_local result ds ∷ by_number (others_of ds)) np (zero_near, sort_near (others_of ds) (others_near ds nd)));
    }
