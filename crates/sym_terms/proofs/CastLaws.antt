-- Laws of casts and slices of words.
use Rattle.std.proofs.Common.{◌≡◌, ℕ, ◌+◌, ◌-◌, ◌*◌, ◌/◌, ◌%◌, ◌^◌, ◌<◌, ◌≤◌, ap, sym, ◌∙◌, refl, subst, arith, Bool, true, false}
use Rattle.std.specs.Prelude.{ℤ, pos, negsuc}
use Rattle.std.proofs.Math.Nat.{mod-lt, mod-eq_of_lt, div-one, pow-le-pow_right}
use Rattle.std.proofs.Math.Pow.{mod-mod-pow}
use Rattle.std.proofs.lemmas.Nat.{pow_pos, pow-add, field_of, shr-shr}
use Rattle.word_bits.specs.declared.word.Word.{Word}
use Rattle.word_bits.specs.Words.{IsWord, IsWidth, word, word_of, value_of, recast}
use Rattle.word_bits.specs.Signs.{is_below_zero}
use Rattle.word_bits.proofs.Cuts.{word_at, less_mod}
use Rattle.word_bits.proofs.Kept.{word-value, IsWord-word_of, width-word_of}
use Rattle.word_bits.proofs.SignedValues.{value_of-below, value_of-above}
use Rattle.sym_terms.specs.Terms.{sliced}

-- a shorter cut after a longer one
pub mod_shorter : (n u w : ℕ) → w ≤ u → n % 2 ^ u % 2 ^ w ≡ n % 2 ^ w
mod_shorter n u w h =
    let e : u ≡ (u - w) + w = omega arith in
    ap (λ k. n % 2 ^ k % 2 ^ w) e ∙ mod-mod-pow n (u - w) w

-- all bits less a number, cut shorter
pub less_shorter : (u w n : ℕ) → w ≤ u → n < 2 ^ u → (2 ^ u - 1 - n) % 2 ^ w ≡ 2 ^ w - 1 - n % 2 ^ w
less_shorter u w n h below =
    let e : u ≡ (u - w) + w = omega arith in
    let split : 2 ^ u ≡ 2 ^ (u - w) * 2 ^ w = ap (λ k. 2 ^ k) e ∙ pow-add 2 (u - w) w in
    ap (λ k. (k - 1 - n) % 2 ^ w) split ∙ less_mod (2 ^ (u - w)) (2 ^ w) n (pow_pos w) (subst (λ (k : ℕ). n < k) split below)

-- a cut word, cut shorter
pub word-word_of : (u w : ℕ) (z : ℤ) → w ≤ u → word w (word_of u z).value ≡ word_of w z
word-word_of u w (pos n) h = ap (word_at w) (mod_shorter n u w h)
word-word_of u w (negsuc n) h =
    let below : n % 2 ^ u < 2 ^ u = mod-lt n (pow_pos u) in
    ap (word_at w) (less_shorter u w (n % 2 ^ u) h below ∙ ap (λ k. 2 ^ w - 1 - k) (mod_shorter n u w h))

-- a cast to no more bits takes the low ones, with or without a sign
pub recast_narrow : (x : Word) → IsWord x → (signed : Bool) (w : ℕ) → w ≤ x.width → recast x signed w ≡ word w x.value
recast_narrow x is signed w h = by (is_below_zero (value_of signed x)) refl
  where
    by : (t : Bool) → is_below_zero (value_of signed x) ≡ t → recast x signed w ≡ word w x.value
    by true e =
        let below : x.value < 2 ^ x.width = is.below in
        let some : 0 < 2 ^ w = pow_pos w in
        let rest : x.value % 2 ^ w < 2 ^ w = mod-lt x.value some in
        let same : 2 ^ x.width - x.value - 1 ≡ 2 ^ x.width - 1 - x.value = omega arith in
        let cut : (2 ^ x.width - x.value - 1) % 2 ^ w ≡ 2 ^ w - 1 - x.value % 2 ^ w = ap (λ k. k % 2 ^ w) same ∙ less_shorter x.width w x.value h below in
        ap (word_of w) (value_of-below signed x e) ∙ ap (word_at w) (ap (λ k. 2 ^ w - 1 - k) cut ∙ omega arith)
    by false e = ap (word_of w) (value_of-above signed x e)

-- a cast to the same width
pub recast_same : (x : Word) → IsWord x → (signed : Bool) → recast x signed x.width ≡ x
recast_same x is signed = recast_narrow x is signed x.width (omega arith) ∙ word-value x is

-- a cast to fewer bits after another
pub recast_recast : (x : Word) → IsWord x → (first second : Bool) (u w : ℕ) → IsWidth u → w ≤ u → recast (recast x first u) second w ≡ recast x first w
recast_recast x is first second u w width h =
    let middle = IsWord-word_of u (value_of first x) width in
    let few : w ≤ (word_of u (value_of first x)).width = subst (λ (k : ℕ). w ≤ k) (sym (width-word_of u (value_of first x))) h in
    recast_narrow (word_of u (value_of first x)) middle second w few ∙ word-word_of u w (value_of first x) h

-- a number that fits stays under a cast without a sign
pub value_unsigned : (x : Word) → IsWord x → (u : ℕ) → x.width ≤ u → value_of false (recast x false u) ≡ value_of false x
value_unsigned x is u h =
    let order : 2 ^ x.width ≤ 2 ^ u = pow-le-pow_right {n = 2} (omega arith) h in
    let below : x.value < 2 ^ x.width = is.below in
    let small : x.value < 2 ^ u = omega arith in
    ap pos (mod-eq_of_lt small)

pub recast_wider : (x : Word) → IsWord x → (u w : ℕ) → x.width ≤ u → recast (recast x false u) false w ≡ recast x false w
recast_wider x is u w h = ap (word_of w) (value_unsigned x is u h)

-- the low bits and those above them
pub sliced_all : (x : Word) (w : ℕ) → sliced x 0 w ≡ recast x false w
sliced_all x w = ap (word w) (div-one x.value)

pub sliced_whole : (x : Word) → IsWord x → sliced x 0 x.width ≡ x
sliced_whole x is = ap (word x.width) (div-one x.value) ∙ word-value x is

pub sliced_sliced : (x : Word) (f u g w : ℕ) → g + w ≤ u → sliced (sliced x f u) g w ≡ sliced x (f + g) w
sliced_sliced x f u g w h =
    let n = x.value / 2 ^ f in
    let e : u ≡ (u - g) + g = omega arith in
    let inner : n % 2 ^ u / 2 ^ g ≡ n / 2 ^ g % 2 ^ (u - g) = ap (λ k. n % 2 ^ k / 2 ^ g) e ∙ field_of n (u - g) g in
    let few : w ≤ u - g = omega arith in
    ap (word_at w) (ap (λ k. k % 2 ^ w) inner ∙ mod_shorter (n / 2 ^ g) (u - g) w few ∙ ap (λ k. k % 2 ^ w) (shr-shr x.value f g))

-- a slice looks at the bits below its end alone
pub sliced_low : (y : Word) (f w : ℕ) → sliced y f w ≡ word_at w ((word (w + f) y.value).value / 2 ^ f)
sliced_low y f w = ap (word_at w) (sym (field_of y.value w f))

pub sliced_recast : (x : Word) → IsWord x → (signed : Bool) (u f w : ℕ) → f + w ≤ u → f + w ≤ x.width → sliced (recast x signed u) f w ≡ sliced x f w
sliced_recast x is signed u f w inside source =
    let few : w + f ≤ u = omega arith in
    let low : w + f ≤ x.width = omega arith in
    sliced_low (recast x signed u) f w
    ∙ ap (λ (y : Word). word_at w (y.value / 2 ^ f)) (word-word_of u (w + f) (value_of signed x) few ∙ recast_narrow x is signed (w + f) low)
    ∙ sym (sliced_low x f w)
