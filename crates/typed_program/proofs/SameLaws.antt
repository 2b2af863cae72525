-- The test whether two types are one is true of equal types alone.
use Rattle.std.proofs.Common.{◌≡◌, Bool, true, false, true≢false, ◌&&◌, ◌==◌, List, [], ◌∷◌, eqb-true, eq-eqb, map, refl, sym, subst, ap, ◌∙◌}
use Rattle.std.proofs.lemmas.Slice.Eq.{bytes_eq-Decides}
use Rattle.mir_ir.specs.declared.types.IntTy.{IntTy}
use Rattle.mir_ir.specs.declared.types.IntTy.TheVariants as int
use Rattle.mir_ir.specs.declared.types.Ty.{Ty, out-Ty, map-Ty}
use Rattle.mir_ir.specs.declared.types.Ty.TheOpen.{Ty-F}
use Rattle.mir_ir.specs.declared.types.Ty.TheViews.{out-roll-Ty, roll-Ty, roll-out-Ty}
use Rattle.mir_ir.specs.declared.types.Ty.TheFolds.{ind-Ty}
use Rattle.type_rules.specs.Types.{all_hold, same_bool, same_int, same_level, same_type}
use Rattle.type_rules.proofs.SameTypes.{same_type_out}

-- one level of a type, each part being the test of being that part
abbrev tests : Ty-F Ty → Ty-F (Ty → Bool)
tests x = map-Ty Ty (Ty → Bool) same_type x

same_rolled : (x : Ty-F Ty) (b : Ty) → same_type (roll-Ty x) b ≡ same_level (tests x) (out-Ty b)
same_rolled x b = same_type_out (roll-Ty x) b ∙ ap (λ y. same_level (tests y) (out-Ty b)) (out-roll-Ty x)

-- ---- words, numbers and flags

both_true : (a b : Bool) → (a && b) ≡ true → (a ≡ true) × (b ≡ true)
both_true true b h = (refl, h)
both_true false b h = absurd (true≢false (sym h))

int_exact : (i j : IntTy) → same_int i j ≡ true → i ≡ j
int_exact int.I8 int.I8 h = refl
int_exact int.I16 int.I16 h = refl
int_exact int.I32 int.I32 h = refl
int_exact int.I64 int.I64 h = refl
int_exact int.I128 int.I128 h = refl
int_exact int.Isize int.Isize h = refl
int_exact int.U8 int.U8 h = refl
int_exact int.U16 int.U16 h = refl
int_exact int.U32 int.U32 h = refl
int_exact int.U64 int.U64 h = refl
int_exact int.U128 int.U128 h = refl
int_exact int.Usize int.Usize h = refl
int_exact _ _ h = absurd (true≢false (sym h))

int_same : (i : IntTy) → same_int i i ≡ true
int_same int.I8 = refl
int_same int.I16 = refl
int_same int.I32 = refl
int_same int.I64 = refl
int_same int.I128 = refl
int_same int.Isize = refl
int_same int.U8 = refl
int_same int.U16 = refl
int_same int.U32 = refl
int_same int.U64 = refl
int_same int.U128 = refl
int_same int.Usize = refl

bool_exact : (a b : Bool) → same_bool a b ≡ true → a ≡ b
bool_exact true b h = sym h
bool_exact false true h = absurd (true≢false (sym h))
bool_exact false false h = refl

bool_same : (a : Bool) → same_bool a a ≡ true
bool_same true = refl
bool_same false = refl

-- ---- one level

abbrev IsExact : Ty → Type 0
IsExact t = (b : Ty) → same_type t b ≡ true → t ≡ b

abbrev Exact : Type 0
Exact = (t : Ty) × IsExact t

abbrev bare : Exact → Ty
bare e = e.0

all_exact : (es : List Exact) (bs : List Ty) → all_hold (map same_type (map bare es)) bs ≡ true → map bare es ≡ bs
all_exact [] [] h = refl
all_exact [] (b ∷ bs) h = absurd (true≢false (sym h))
all_exact (e ∷ es) [] h = absurd (true≢false (sym h))
all_exact (e ∷ es) (b ∷ bs) h =
    let p = both_true (same_type e.0 b) (all_hold (map same_type (map bare es)) bs) h in
    λ i. e.1 b p.0 i ∷ all_exact es bs p.1 i

level_exact : (y : Ty-F Exact) (z : Ty-F Ty) → same_level (tests (map-Ty Exact Ty bare y)) z ≡ true → map-Ty Exact Ty bare y ≡ z
level_exact Ty-F.Bool Ty-F.Bool h = refl
level_exact Ty-F.Char Ty-F.Char h = refl
level_exact (Ty-F.Int i) (Ty-F.Int j) h = ap (λ k. Ty-F.Int k) (int_exact i j h)
level_exact Ty-F.Never Ty-F.Never h = refl
level_exact Ty-F.Str Ty-F.Str h = refl
level_exact (Ty-F.Tuple es) (Ty-F.Tuple bs) h = ap (λ l. Ty-F.Tuple l) (all_exact es bs h)
level_exact (Ty-F.Array e n) (Ty-F.Array b m) h =
    let p = both_true (n == m) (same_type e.0 b) h in
    λ i. Ty-F.Array (e.1 b p.1 i) (eqb-true n m p.0 i)
level_exact (Ty-F.Slice e) (Ty-F.Slice b) h = ap (λ l. Ty-F.Slice l) (e.1 b h)
level_exact (Ty-F.Ref m e) (Ty-F.Ref n b) h =
    let p = both_true (same_bool m n) (same_type e.0 b) h in
    λ i. Ty-F.Ref (bool_exact m n p.0 i) (e.1 b p.1 i)
level_exact (Ty-F.Raw m e) (Ty-F.Raw n b) h =
    let p = both_true (same_bool m n) (same_type e.0 b) h in
    λ i. Ty-F.Raw (bool_exact m n p.0 i) (e.1 b p.1 i)
level_exact (Ty-F.BoxOf e) (Ty-F.BoxOf b) h = ap (λ l. Ty-F.BoxOf l) (e.1 b h)
level_exact (Ty-F.Dyn p) (Ty-F.Dyn q) h = ap (λ l. Ty-F.Dyn l) ((bytes_eq-Decides p q).0 h)
level_exact (Ty-F.Named p) (Ty-F.Named q) h = ap (λ l. Ty-F.Named l) ((bytes_eq-Decides p q).0 h)
level_exact _ _ h = absurd (true≢false (sym h))

pub same_exact : (t : Ty) → IsExact t
same_exact = ind-Ty IsExact (λ x y is b h.
    let P : Ty-F Ty → Type 0 = λ z. same_level (tests z) (out-Ty b) ≡ true → z ≡ out-Ty b in
    ap roll-Ty (subst P is (level_exact y (out-Ty b)) (sym (same_rolled x b) ∙ h)) ∙ roll-out-Ty b)

abbrev IsSame : Ty → Type 0
IsSame t = same_type t t ≡ true

abbrev Same : Type 0
Same = (t : Ty) × IsSame t

abbrev own : Same → Ty
own e = e.0

all_same : (es : List Same) → all_hold (map same_type (map own es)) (map own es) ≡ true
all_same [] = refl
all_same (e ∷ es) = λ i. e.1 i && all_same es i

level_same : (y : Ty-F Same) → same_level (tests (map-Ty Same Ty own y)) (map-Ty Same Ty own y) ≡ true
level_same Ty-F.Bool = refl
level_same Ty-F.Char = refl
level_same (Ty-F.Int i) = int_same i
level_same Ty-F.Never = refl
level_same Ty-F.Str = refl
level_same (Ty-F.Tuple es) = all_same es
level_same (Ty-F.Array e n) = λ i. eq-eqb n n refl i && e.1 i
level_same (Ty-F.Slice e) = e.1
level_same (Ty-F.Ref m e) = λ i. bool_same m i && e.1 i
level_same (Ty-F.Raw m e) = λ i. bool_same m i && e.1 i
level_same (Ty-F.BoxOf e) = e.1
level_same (Ty-F.Dyn p) = (bytes_eq-Decides p p).1 refl
level_same (Ty-F.Named p) = (bytes_eq-Decides p p).1 refl

pub same_own : (t : Ty) → IsSame t
same_own = ind-Ty IsSame (λ x y is.
    let P : Ty-F Ty → Type 0 = λ z. same_level (tests z) z ≡ true in
    same_rolled x (roll-Ty x) ∙ ap (same_level (tests x)) (out-roll-Ty x) ∙ subst P is (level_same y))
