-- Texts of numbers: they write numbers of their types, and different texts write different ones.
use Rattle.std.proofs.Common.{◌≡◌, ℕ, ◌+◌, ◌-◌, ◌^◌, ◌<◌, ◌≤◌, ◌==◌, ◌&&◌, not, nat_le, nat_lt, Bool, true, false, if◌then◌else◌, List, [], ◌∷◌, codes, Option, Some, None, option_map, inl, inr, ◌⊎◌, refl, sym, subst, ◌∙◌, ap, arith, lit<, mod-eq_of_lt, mod-lt}
use Rattle.std.specs.Str.{bytes_eq}
use Rattle.std.proofs.lemmas.Bool.{and_parts, eqb-false, eqb-true, leb-true, ltb-true, not-true, or_cases}
use Rattle.word_bits.specs.declared.word.Word.{Word}
use Rattle.mir_ir.specs.declared.types.IntTy.{IntTy}
use Rattle.mir_ir.specs.declared.types.IntTy.TheVariants as int
use Rattle.mir_ir.specs.declared.types.Ty.{Ty, out-Ty}
use Rattle.mir_ir.specs.declared.types.Ty.TheOpen.{Ty-F}
use Rattle.mir_ir.specs.Integers.{width_of}
use Rattle.mir_lex.specs.Bytes.{first_is, is_char, number_within, value_from, within}
use Rattle.mir_lex.specs.Views.{is_index}
use Rattle.mir_grammar.specs.Values.{minus_word, plus_word}
use Rattle.mir_program.specs.Numbers.{HasBits, HasNumbers, HasNumbersIn, IsCharacter, IsNumberIn, IsNumberOf}
use Rattle.decl_texts.specs.declared.forms.Scalar.{Scalar}
use Rattle.decl_texts.specs.declared.forms.Scalar.TheVariants as scalar
use Rattle.decl_texts.specs.Decimals.{bit_word, bool_word, char_word, decimal_word, deepest, greatest, int_word, is_decimal, number_word, unsigned_within, value_word}
use Rattle.decl_texts.specs.Forms.{form_in, form_of, scalar_in}
use Rattle.decl_laws.proofs.Digits.{index_counts, index_same}
use Rattle.decl_laws.proofs.Outcomes.{some_same}

within_ok : (base most : ℕ) (ds : List ℕ) (n : ℕ) → number_within base most ds ≡ Some n → (n ≡ value_from base 0 ds) × (n ≤ most)
unfolding number_within
within_ok base most ds n e = by_test (nat_le (value_from base 0 ds) most) refl e
  where
    by_test : (c : Bool) → nat_le (value_from base 0 ds) most ≡ c → (if c then Some (value_from base 0 ds) else None) ≡ Some n → (n ≡ value_from base 0 ds) × (n ≤ most)
    by_test true t f = let s : value_from base 0 ds ≡ n = some_same (value_from base 0 ds) n f in let l = leb-true (value_from base 0 ds) most t in (sym s, omega arith)
    by_test false t f = absurd cc

pub mapped_ok : {A B : Type 0} (f : A → B) (o : Option A) (y : B) → option_map f o ≡ Some y → (x : A) × (o ≡ Some x) × (y ≡ f x)
mapped_ok f (Some x) y e = (x, refl, sym (some_same (f x) y e))
mapped_ok f None y e = absurd cc

-- The numbers of a scalar type: up to its greatest, and so many below zero, in two's complement.

abbrev most_of : Scalar → ℕ
most_of (scalar.Int i) = greatest i
most_of scalar.Bool = 1
most_of scalar.Char = 1114111

abbrev below_of : Scalar → ℕ
below_of (scalar.Int i) = deepest i
below_of scalar.Bool = 0
below_of scalar.Char = 0

abbrev count_of : Scalar → ℕ
count_of (scalar.Int i) = 2 ^ width_of i
count_of scalar.Bool = 2
count_of scalar.Char = 4294967296

int_room : (i : IntTy) → greatest i + deepest i < 2 ^ width_of i
int_room int.I8 = lit< tt
int_room int.I16 = lit< tt
int_room int.I32 = lit< tt
int_room int.I64 = lit< tt
int_room int.I128 = lit< tt
int_room int.Isize = lit< tt
int_room int.U8 = lit< tt
int_room int.U16 = lit< tt
int_room int.U32 = lit< tt
int_room int.U64 = lit< tt
int_room int.U128 = lit< tt
int_room int.Usize = lit< tt

room : (s : Scalar) → most_of s + below_of s < count_of s
room (scalar.Int i) = int_room i
room scalar.Bool = lit< tt
room scalar.Char = lit< tt

-- How a text writes a number: as its digits, or with a minus.

record IsPlain (most : ℕ) (text : List ℕ) (w : Word) : Type 0 where
  index : is_index text ≡ true
  value : w.value ≡ value_from 10 0 text
  within : w.value ≤ most

record IsBelow (most count : ℕ) (text : List ℕ) (w : Word) : Type 0 where
  digits : List ℕ
  whole : text ≡ 45 ∷ digits
  index : is_index digits ≡ true
  value : w.value + value_from 10 0 digits ≡ count
  some : 0 < value_from 10 0 digits
  within : value_from 10 0 digits ≤ most

abbrev IsSpelled : Scalar → List ℕ → Word → Type 0
IsSpelled s text w = IsPlain (most_of s) text w ⊎ IsBelow (below_of s) (count_of s) text w

spelled_same : (s : Scalar) (a b : List ℕ) (v w : Word) → IsSpelled s a v → IsSpelled s b w → v.value ≡ w.value → a ≡ b
spelled_same s a b v w (inl h) (inl k) e = index_same a b h.index k.index (sym h.value ∙ e ∙ k.value)
spelled_same s a b v w (inl h) (inr k) e = let r = room s in let l = h.within in let m = k.within in let n = k.value in absurd (omega arith)
spelled_same s a b v w (inr h) (inl k) e = let r = room s in let l = k.within in let m = h.within in let n = h.value in absurd (omega arith)
spelled_same s a b v w (inr h) (inr k) e =
    let n = h.value in
    let m = k.value in
    let same : value_from 10 0 h.digits ≡ value_from 10 0 k.digits = omega arith in
    h.whole ∙ ap (λ ds. 45 ∷ ds) (index_same h.digits k.digits h.index k.index same) ∙ sym k.whole

-- digits that do not begin with a zero
digits_count : (ds : List ℕ) → is_index ds ≡ true → first_is (λ d. d == 48) ds ≡ false → 0 < value_from 10 0 ds
digits_count [] h k = absurd cc
digits_count (d ∷ ds) h k = index_counts d ds h (eqb-false d 48 k)

plain_int : (i : IntTy) (text : List ℕ) (w : Word) → is_index text ≡ true → option_map (plus_word (width_of i)) (number_within 10 (greatest i) text) ≡ Some w → IsSpelled (scalar.Int i) text w
plain_int i text w d e =
    let o = mapped_ok (plus_word (width_of i)) (number_within 10 (greatest i) text) w e in
    let n = within_ok 10 (greatest i) text o.0 o.1 in
    let r = int_room i in
    let small : o.0 < 2 ^ width_of i = omega (arith, n.1) in
    let v : w.value ≡ o.0 = ap (λ x. x.value) o.2 ∙ mod-eq_of_lt small in
    inl (record { index = d; value = v ∙ n.0; within = omega (arith, n.1) })

below_int : (i : IntTy) (digits : List ℕ) (w : Word) → is_index digits ≡ true → first_is (λ d. d == 48) digits ≡ false → option_map (minus_word (width_of i)) (number_within 10 (deepest i) digits) ≡ Some w → IsSpelled (scalar.Int i) (45 ∷ digits) w
below_int i digits w d z e =
    let o = mapped_ok (minus_word (width_of i)) (number_within 10 (deepest i) digits) w e in
    let n = within_ok 10 (deepest i) digits o.0 o.1 in
    let r = int_room i in
    let c = digits_count digits d z in
    let low : o.0 ≤ deepest i = n.1 in
    let is : o.0 ≡ value_from 10 0 digits = n.0 in
    let small : 2 ^ width_of i - o.0 < 2 ^ width_of i = omega arith in
    let v : w.value ≡ 2 ^ width_of i - o.0 = ap (λ x. x.value) o.2 ∙ mod-eq_of_lt small in
    inr (record { digits = digits; whole = refl; index = d; value = omega arith; some = c; within = omega arith })

int_spelled : (i : IntTy) (text : List ℕ) (w : Word) → is_decimal text ≡ true → int_word i text ≡ Some w → IsSpelled (scalar.Int i) text w
int_spelled i [] w d e = absurd cc
int_spelled i (a ∷ digits) w d e = by_sign (a == 45) refl d e
  where
    by_sign : (c : Bool) → (a == 45) ≡ c → (if c then is_index digits && not (first_is (λ x. x == 48) digits) else is_index (a ∷ digits)) ≡ true
        → (if c then option_map (minus_word (width_of i)) (number_within 10 (deepest i) digits) else option_map (plus_word (width_of i)) (number_within 10 (greatest i) (a ∷ digits))) ≡ Some w
        → IsSpelled (scalar.Int i) (a ∷ digits) w
    by_sign true t f g =
        let p = and_parts (is_index digits) (not (first_is (λ x. x == 48) digits)) f in
        subst (λ x. IsSpelled (scalar.Int i) (x ∷ digits) w) (sym (eqb-true a 45 t)) (below_int i digits w p.0 (not-true (first_is (λ x. x == 48) digits) p.1) g)
    by_sign false t f g = plain_int i (a ∷ digits) w f g

-- without a minus
unsigned_ok : (most : ℕ) (text : List ℕ) (n : ℕ) → is_decimal text ≡ true → unsigned_within most text ≡ Some n → (is_index text ≡ true) × ((n ≡ value_from 10 0 text) × (n ≤ most))
unsigned_ok most [] n d e = absurd cc
unsigned_ok most (a ∷ digits) n d e = by_sign (a == 45) refl d e
  where
    by_sign : (c : Bool) → (a == 45) ≡ c → (if c then is_index digits && not (first_is (λ x. x == 48) digits) else is_index (a ∷ digits)) ≡ true
        → (if c then None else number_within 10 most (a ∷ digits)) ≡ Some n → (is_index (a ∷ digits) ≡ true) × ((n ≡ value_from 10 0 (a ∷ digits)) × (n ≤ most))
    by_sign true t f g = absurd cc
    by_sign false t f g = (f, within_ok 10 most (a ∷ digits) n g)

bit_ok : (o : Option ℕ) (w : Word) → bit_word o ≡ Some w → (n : ℕ) × (o ≡ Some n) × (w ≡ record { width = 1; value = n })
bit_ok (Some n) w e = (n, refl, sym (some_same (record { width = 1; value = n }) w e))
bit_ok None w e = absurd cc

char_ok : (o : Option ℕ) (w : Word) → char_word o ≡ Some w → (n : ℕ) × (o ≡ Some n) × (is_char n ≡ true) × (w ≡ record { width = 32; value = n })
char_ok None w e = absurd cc
char_ok (Some n) w e = by_test (is_char n) refl e
  where
    by_test : (c : Bool) → is_char n ≡ c → (if c then Some (let r : Word = record { width = 32; value = n } in r) else None) ≡ Some w → (m : ℕ) × (Some n ≡ Some m) × (is_char m ≡ true) × (w ≡ record { width = 32; value = m })
    by_test true t f = (n, refl, t, sym (some_same (record { width = 32; value = n }) w f))
    by_test false t f = absurd cc

number_spelled : (s : Scalar) (text : List ℕ) (w : Word) → is_decimal text ≡ true → number_word s text ≡ Some w → IsSpelled s text w
number_spelled (scalar.Int i) text w d e = int_spelled i text w d e
number_spelled scalar.Bool text w d e =
    let o = bit_ok (unsigned_within 1 text) w e in
    let n = unsigned_ok 1 text o.0 d o.1 in
    let v : w.value ≡ o.0 = ap (λ x. x.value) o.2 in
    inl (record { index = n.0; value = v ∙ n.1.0; within = omega (arith, n.1.1) })
number_spelled scalar.Char text w d e =
    let o = char_ok (unsigned_within 1114111 text) w e in
    let n = unsigned_ok 1114111 text o.0 d o.1 in
    let v : w.value ≡ o.0 = ap (λ x. x.value) o.3 in
    inl (record { index = n.0; value = v ∙ n.1.0; within = omega (arith, n.1.1) })

-- texts that write one number of a type are one text
pub number_same : (s : Scalar) (a b : List ℕ) (v w : Word) → is_decimal a ≡ true → is_decimal b ≡ true → number_word s a ≡ Some v → number_word s b ≡ Some w → v.value ≡ w.value → a ≡ b
number_same s a b v w c d h k e = spelled_same s a b v w (number_spelled s a v c h) (number_spelled s b w d k) e

-- Numbers of types.

abbrev pub IsScalar : Scalar → Word → Type 0
IsScalar (scalar.Int i) w = HasBits (width_of i) w
IsScalar scalar.Bool w = HasBits 1 w
IsScalar scalar.Char w = HasBits 32 w × IsCharacter w.value

power_some : (i : IntTy) → 0 < 2 ^ width_of i
power_some i = let r = int_room i in omega arith

plus_bits : (i : IntTy) (o : Option ℕ) (w : Word) → option_map (plus_word (width_of i)) o ≡ Some w → HasBits (width_of i) w
plus_bits i o w e = let m = mapped_ok (plus_word (width_of i)) o w e in subst (HasBits (width_of i)) (sym m.2) (refl, mod-lt m.0 (power_some i))

minus_bits : (i : IntTy) (o : Option ℕ) (w : Word) → option_map (minus_word (width_of i)) o ≡ Some w → HasBits (width_of i) w
minus_bits i o w e = let m = mapped_ok (minus_word (width_of i)) o w e in subst (HasBits (width_of i)) (sym m.2) (refl, mod-lt (2 ^ width_of i - m.0) (power_some i))

pub int_bits : (i : IntTy) (text : List ℕ) (w : Word) → int_word i text ≡ Some w → HasBits (width_of i) w
int_bits i [] w e = absurd cc
int_bits i (a ∷ digits) w e = by_sign (a == 45) e
  where
    by_sign : (c : Bool) → (if c then option_map (minus_word (width_of i)) (number_within 10 (deepest i) digits) else option_map (plus_word (width_of i)) (number_within 10 (greatest i) (a ∷ digits))) ≡ Some w → HasBits (width_of i) w
    by_sign true g = minus_bits i (number_within 10 (deepest i) digits) w g
    by_sign false g = plus_bits i (number_within 10 (greatest i) (a ∷ digits)) w g

unsigned_low : (most : ℕ) (text : List ℕ) (n : ℕ) → unsigned_within most text ≡ Some n → n ≤ most
unsigned_low most text n e = by_sign (first_is (λ d. d == 45) text) e
  where
    by_sign : (c : Bool) → (if c then None else number_within 10 most text) ≡ Some n → n ≤ most
    by_sign true g = absurd cc
    by_sign false g = (within_ok 10 most text n g).1

bit_low : (n : ℕ) (w : Word) → n ≤ 1 → w ≡ record { width = 1; value = n } → HasBits 1 w
bit_low n w l e = subst (HasBits 1) (sym e) (refl, omega arith)

char_among : (n : ℕ) → is_char n ≡ true → IsCharacter n
char_among n h = elim (or_cases (nat_lt n 55296) (within 57344 1114111 n) h) [
  | inl e ↦ inl (ltb-true n 55296 e)
  | inr e ↦ let p = and_parts (nat_le 57344 n) (nat_le n 1114111) e in let l = leb-true n 1114111 p.1 in inr (leb-true 57344 n p.0, omega arith)
]

char_low : (n : ℕ) → IsCharacter n → n < 2 ^ 32
char_low n (inl h) = omega arith
char_low n (inr h) = omega (arith, h.1)

pub number_scalar : (s : Scalar) (text : List ℕ) (w : Word) → number_word s text ≡ Some w → IsScalar s w
number_scalar (scalar.Int i) text w e = int_bits i text w e
number_scalar scalar.Bool text w e = let o = bit_ok (unsigned_within 1 text) w e in bit_low o.0 w (unsigned_low 1 text o.0 o.1) o.2
number_scalar scalar.Char text w e = let o = char_ok (unsigned_within 1114111 text) w e in let c = char_among o.0 o.2 in subst (IsScalar scalar.Char) (sym o.3) ((refl, char_low o.0 c), c)

decimal_scalar : (s : Scalar) (text : List ℕ) (w : Word) → decimal_word s text ≡ Some w → IsScalar s w
decimal_scalar s text w e = by_test (is_decimal text) e
  where
    by_test : (c : Bool) → (if c then number_word s text else None) ≡ Some w → IsScalar s w
    by_test true f = number_scalar s text w f
    by_test false f = absurd cc

bool_bits : (text : List ℕ) (w : Word) → bool_word text ≡ Some w → HasBits 1 w
bool_bits text w e = by_tests (bytes_eq text (codes "false")) (bytes_eq text (codes "true")) e
  where
    by_tests : (c d : Bool) → (if c then bit_word (Some 0) else (if d then bit_word (Some 1) else None)) ≡ Some w → HasBits 1 w
    by_tests true d f = bit_low 0 w (omega arith) (sym (some_same (record { width = 1; value = 0 }) w f))
    by_tests false true f = bit_low 1 w (omega arith) (sym (some_same (record { width = 1; value = 1 }) w f))
    by_tests false false f = absurd cc

pub value_scalar : (s : Scalar) (text : List ℕ) (w : Word) → value_word s text ≡ Some w → IsScalar s w
value_scalar (scalar.Int i) text w e = decimal_scalar (scalar.Int i) text w e
value_scalar scalar.Bool text w e = bool_bits text w e
value_scalar scalar.Char text w e = decimal_scalar scalar.Char text w e

-- a type with numbers
of_scalar : (P : Scalar → Type 0) (a b : Scalar) → Some a ≡ Some b → P b → P a
of_scalar P a b e h = subst P (sym (some_same a b e)) h

number_in : (x : Ty-F Ty) (s : Scalar) (w : Word) → scalar_in (form_in x) ≡ Some s → IsScalar s w → IsNumberIn x w
number_in Ty-F.Bool s w e h = of_scalar (λ t. IsScalar t w) scalar.Bool s e h
number_in Ty-F.Char s w e h = of_scalar (λ t. IsScalar t w) scalar.Char s e h
number_in (Ty-F.Int i) s w e h = of_scalar (λ t. IsScalar t w) (scalar.Int i) s e h
number_in _ s w e h = absurd cc

pub number_of_type : (t : Ty) (s : Scalar) (w : Word) → scalar_in (form_of t) ≡ Some s → IsScalar s w → IsNumberOf t w
number_of_type t s w e h = record { number = number_in (out-Ty t) s w e h }

numbers_in : (x : Ty-F Ty) (s : Scalar) → scalar_in (form_in x) ≡ Some s → HasNumbersIn x
numbers_in Ty-F.Bool s e = tt
numbers_in Ty-F.Char s e = tt
numbers_in (Ty-F.Int i) s e = tt
numbers_in _ s e = absurd cc

pub numbers_of_type : (t : Ty) (s : Scalar) → scalar_in (form_of t) ≡ Some s → HasNumbers t
numbers_of_type t s e = record { numbers = numbers_in (out-Ty t) s e }
