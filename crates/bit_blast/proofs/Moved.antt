-- Shifts, casts and slices as words.
use Rattle.std.proofs.Common.{◌≡◌, ℕ, ◌+◌, ◌-◌, ◌*◌, ◌/◌, ◌%◌, ◌^◌, ◌<◌, ◌≤◌, Bool, true, false, cond, eqb, List, [], ◌∷◌, ◌++◌, length, take, drop, replicate, get_or, min, sym, ap, ◌∙◌, refl, arith, subst, inl, inr, length-append}
use Rattle.std.proofs.Math.Nat.{mod-eq_of_lt, pow-le-pow_right}
use Rattle.std.proofs.lemmas.Bool.{cases_lt}
use Rattle.std.proofs.lemmas.Nat.{pow-add, pow_pos, shr_le, mod_below}
use Rattle.std.proofs.lemmas.List.{length-take-le, length-replicate, length-drop, take_all, append-nil}
use Rattle.std.proofs.lemmas.List.Elements.{All-append, All-drop}
use Rattle.word_bits.specs.declared.word.Word.{Word}
use Rattle.word_bits.specs.Words.{IsWord, shifted_left, shifted_right, recast, word_of, halved, signed_value, value_of}
use Rattle.word_bits.specs.Signs.{is_below_zero}
use Rattle.word_bits.proofs.Cuts.{less_mod}
use Rattle.word_bits.proofs.SignedValues.{halved-below, halved-above, value_of-below, value_of-above}
use Rattle.sym_terms.specs.Terms.{sliced}
use Rattle.bit_gates.specs.Circuit.{Circuit, size, value}
use Rattle.bit_gates.specs.Shifts.{shifted_up, shifted_down}
use Rattle.bit_gates.specs.Made.{IsConstant, IsWordMade, AreIn, number, bit}
use Rattle.bit_gates.proofs.MadeLaws.{extends_itself}
use Rattle.bit_gates.proofs.NumberLaws.{number_append, number_below, number_replicate, number_zero, number_nil, number_cons, in_take, in_copies, in_at, list_parts, list_none}
use Rattle.bit_gates.proofs.ShiftLaws.{number_take, number_drop}
use Rattle.bit_blast.specs.Blasted.{word_at, IsMadeWord}
use Rattle.bit_blast.proofs.Arithmetical.{same_word, word_made}
use Rattle.bit_blast.proofs.Signed.{sign_bit}

pub shifted_left_made : (a b : Circuit) (xs by word : List ℕ) → IsWordMade a b word (length xs) (λ v. shifted_up (length xs) (number v xs) (number v by % length xs)) → IsMadeWord a b word (λ v. shifted_left (word_at v xs) (word_at v by))
shifted_left_made a b xs by word w = word_made a b word (length xs) (λ v. shifted_up (length xs) (number v xs) (number v by % length xs)) (λ v. shifted_left (word_at v xs) (word_at v by)) w (λ bits. refl)

pub shifted_unsigned_made : (a b : Circuit) (xs by word : List ℕ) (falsity : ℕ) → IsConstant a falsity false → IsWordMade a b word (length xs) (λ v. shifted_down (v falsity) (length xs) (number v xs) (number v by % length xs)) → IsMadeWord a b word (λ v. shifted_right (word_at v xs) (word_at v by) false)
shifted_unsigned_made a b xs by word falsity off w = word_made a b word (length xs) (λ v. shifted_down (v falsity) (length xs) (number v xs) (number v by % length xs)) (λ v. shifted_right (word_at v xs) (word_at v by) false) w
    (λ bits.
    let k = number (value a bits) by % length xs in
    let x = number (value a bits) xs in
    let low : x / 2 ^ k < 2 ^ length xs = omega (arith, shr_le x k, number_below (value a bits) xs) in
    rw (off.value_is bits) (same_word _ _ _ _ refl (sym (mod-eq_of_lt low))))

down_signed : (w : Word) (k : ℕ) (t : Bool) → IsWord w → is_below_zero (signed_value w) ≡ t → (let r : Word = record { width = w.width; value = shifted_down t w.width w.value k } in r) ≡ word_of w.width (halved (value_of true w) k)
down_signed w k true is e = halved-below true w k is e
down_signed w k false is e = halved-above true w k is e

pub shifted_signed_made : (a b : Circuit) (xs by word : List ℕ) → 1 ≤ length xs → length xs ≤ 128 → IsWordMade a b word (length xs) (λ v. shifted_down (v (get_or xs (length xs - 1) 0)) (length xs) (number v xs) (number v by % length xs)) → IsMadeWord a b word (λ v. shifted_right (word_at v xs) (word_at v by) true)
shifted_signed_made a b xs by word some few w = word_made a b word (length xs) (λ v. shifted_down (v (get_or xs (length xs - 1) 0)) (length xs) (number v xs) (number v by % length xs)) (λ v. shifted_right (word_at v xs) (word_at v by) true) w
    (λ bits. down_signed (word_at (value a bits) xs) (number (value a bits) by % length xs) (value a bits (get_or xs (length xs - 1) 0)) (record { some_bits = some; few_bits = few; below = number_below (value a bits) xs }) (sign_bit (value a bits) xs some))

-- the number of a word that is cut, or extended by one literal
resized_number : (v : ℕ → Bool) (xs : List ℕ) (width fill : ℕ) → width ≤ length xs → number v (take (min width (length xs)) xs ++ replicate (width - length xs) fill) ≡ number v xs % 2 ^ width
resized_number v xs width fill l =
    let m : min width (length xs) ≡ width = omega arith in
    let z : width - length xs ≡ 0 = omega arith in
    rw (m, z) (ap (number v) (append-nil (take width xs)) ∙ number_take v xs width l)

longer_number : (v : ℕ → Bool) (xs : List ℕ) (width fill : ℕ) → length xs ≤ width → number v (take (min width (length xs)) xs ++ replicate (width - length xs) fill) ≡ number v xs + 2 ^ length xs * number v (replicate (width - length xs) fill)
longer_number v xs width fill l =
    let m : min width (length xs) ≡ length xs = omega arith in
    rw m (ap (λ (k : List ℕ). number v (k ++ replicate (width - length xs) fill)) (take_all (length xs) xs (omega arith)) ∙ number_append v xs (replicate (width - length xs) fill))

resized_width : (xs : List ℕ) (width fill : ℕ) → length (take (min width (length xs)) xs ++ replicate (width - length xs) fill) ≡ width
resized_width xs width fill =
    let m : min width (length xs) ≤ length xs = omega arith in
    omega (arith, length-append (take (min width (length xs)) xs) (replicate (width - length xs) fill), length-take-le (min width (length xs)) xs m, length-replicate (width - length xs) fill)

power_rest : (n w : ℕ) → n ≤ w → 2 ^ w ≡ 2 ^ n * 2 ^ (w - n)
power_rest n w l =
    let e : w ≡ n + (w - n) = omega arith in
    ap (λ (k : ℕ). 2 ^ k) e ∙ pow-add 2 n (w - n)

power_less : (n w : ℕ) → n ≤ w → 2 ^ n ≤ 2 ^ w
power_less n w l = pow-le-pow_right {n = 2} (omega arith) l

cut_signed : (n w x : ℕ) (t : Bool) → w ≤ n → x < 2 ^ n → x % 2 ^ w ≡ cond t (2 ^ w - 1 - (2 ^ n - x - 1) % 2 ^ w) (x % 2 ^ w)
cut_signed n w x true l below =
    let p : 2 ^ n ≡ 2 ^ (n - w) * 2 ^ w = power_rest w n l ∙ omega arith in
    let e : 2 ^ n - x - 1 ≡ 2 ^ (n - w) * 2 ^ w - 1 - x = omega arith in
    let m : (2 ^ (n - w) * 2 ^ w - 1 - x) % 2 ^ w ≡ 2 ^ w - 1 - x % 2 ^ w = less_mod (2 ^ (n - w)) (2 ^ w) x (pow_pos w) (omega arith) in
    let r : x % 2 ^ w < 2 ^ w = mod_below x (2 ^ w) (pow_pos w) in
    rw (e, m) (omega arith)
cut_signed n w x false l below = refl

extended_signed : (n w x r : ℕ) (t : Bool) → n ≤ w → x < 2 ^ n → r + bit t ≡ bit t * 2 ^ (w - n) → x + 2 ^ n * r ≡ cond t (2 ^ w - 1 - (2 ^ n - x - 1) % 2 ^ w) (x % 2 ^ w)
extended_signed n w x r true l below e =
    let p : 2 ^ w ≡ 2 ^ n * 2 ^ (w - n) = power_rest n w l in
    let q : r + 1 ≡ 2 ^ (w - n) = omega arith in
    let m : 2 ^ n * (r + 1) ≡ 2 ^ n * 2 ^ (w - n) = ap (λ (k : ℕ). 2 ^ n * k) q in
    let g : 2 ^ n ≤ 2 ^ w = power_less n w l in
    let f : (2 ^ n - x - 1) % 2 ^ w ≡ 2 ^ n - x - 1 = mod-eq_of_lt (omega arith) in
    rw f (omega arith)
extended_signed n w x r false l below e =
    let g : 2 ^ n ≤ 2 ^ w = power_less n w l in
    let z : r ≡ 0 = number_zero r 0 (2 ^ (w - n)) refl e in
    let f : x % 2 ^ w ≡ x = mod-eq_of_lt (omega arith) in
    rw (z, f) (omega arith)

-- what a fill above makes of a number
cast_number : (v : ℕ → Bool) (xs : List ℕ) (width fill : ℕ)
    → number v (take (min width (length xs)) xs ++ replicate (width - length xs) fill) ≡ cond (v fill) (2 ^ width - 1 - (2 ^ length xs - number v xs - 1) % 2 ^ width) (number v xs % 2 ^ width)
cast_number v xs width fill = elim (cases_lt width (length xs)) [
  | inl h ↦ resized_number v xs width fill (omega arith) ∙ cut_signed (length xs) width (number v xs) (v fill) (omega arith) (number_below v xs)
  | inr h ↦ longer_number v xs width fill h ∙ extended_signed (length xs) width (number v xs) (number v (replicate (width - length xs) fill)) (v fill) h (number_below v xs) (number_replicate v (width - length xs) fill)
]

resized_inside : (c : Circuit) (xs : List ℕ) (width fill : ℕ) → fill < 2 * size c → AreIn c xs → AreIn c (take (min width (length xs)) xs ++ replicate (width - length xs) fill)
resized_inside c xs width fill f h = All-append (λ literal. literal < 2 * size c) (take (min width (length xs)) xs) (replicate (width - length xs) fill) (in_take c xs (min width (length xs)) h) (in_copies c (width - length xs) fill f)

pub cast_unsigned_made : (a : Circuit) (xs word : List ℕ) (width falsity : ℕ) → AreIn a xs → IsConstant a falsity false → word ≡ take (min width (length xs)) xs ++ replicate (width - length xs) falsity → IsMadeWord a a word (λ v. recast (word_at v xs) false width)
cast_unsigned_made a xs word width falsity h off e = subst (λ (k : List ℕ). IsMadeWord a a k (λ v. recast (word_at v xs) false width)) (sym e) (record {
  extends = extends_itself a;
  inside = resized_inside a xs width falsity off.inside h;
  word_is = λ bits. same_word _ _ _ _ (resized_width xs width falsity) (cast_number (value a bits) xs width falsity ∙ ap (λ (k : Bool). cond k (2 ^ width - 1 - (2 ^ length xs - number (value a bits) xs - 1) % 2 ^ width) (number (value a bits) xs % 2 ^ width)) (off.value_is bits));
})

recast_signed : (w : Word) (width : ℕ) (t : Bool) → is_below_zero (signed_value w) ≡ t → (let r : Word = record { width = width; value = cond t (2 ^ width - 1 - (2 ^ w.width - w.value - 1) % 2 ^ width) (w.value % 2 ^ width) } in r) ≡ recast w true width
recast_signed w width true e = rw (value_of-below true w e) refl
recast_signed w width false e = rw (value_of-above true w e) refl

pub cast_signed_made : (a : Circuit) (xs word : List ℕ) (width : ℕ) → 1 ≤ length xs → AreIn a xs → word ≡ take (min width (length xs)) xs ++ replicate (width - length xs) (get_or xs (length xs - 1) 0) → IsMadeWord a a word (λ v. recast (word_at v xs) true width)
cast_signed_made a xs word width some h e = subst (λ (k : List ℕ). IsMadeWord a a k (λ v. recast (word_at v xs) true width)) (sym e) (record {
  extends = extends_itself a;
  inside = resized_inside a xs width (get_or xs (length xs - 1) 0) (in_at a xs (length xs - 1) (get_or xs (length xs - 1) 0) (omega arith) refl h) h;
  word_is = λ bits. same_word _ _ _ _ (resized_width xs width (get_or xs (length xs - 1) 0)) (cast_number (value a bits) xs width (get_or xs (length xs - 1) 0))
      ∙ recast_signed (word_at (value a bits) xs) width (value a bits (get_or xs (length xs - 1) 0)) (sign_bit (value a bits) xs some);
})

pub slice_made : (a : Circuit) (xs word : List ℕ) (from width : ℕ) → from + width ≤ length xs → AreIn a xs → word ≡ take width (drop from xs) → IsMadeWord a a word (λ v. sliced (word_at v xs) from width)
slice_made a xs word from width l h e =
    let n : length (drop from xs) ≡ length xs - from = length-drop from xs in
    let few : width ≤ length (drop from xs) = omega arith in
    subst (λ (k : List ℕ). IsMadeWord a a k (λ v. sliced (word_at v xs) from width)) (sym e) (record {
      extends = extends_itself a;
      inside = in_take a (drop from xs) width (All-drop (λ literal. literal < 2 * size a) from xs h);
      word_is = λ bits. same_word _ _ _ _ (length-take-le width (drop from xs) few) (number_take (value a bits) (drop from xs) width few ∙ ap (λ (k : ℕ). k % 2 ^ width) (number_drop (value a bits) xs from (omega arith)));
    })

choice_word : (t : Bool) (n m x y : ℕ) → m ≡ n → (let r : Word = record { width = n; value = cond t x y } in r) ≡ cond (eqb (bit t) 1) (record { width = n; value = x }) (record { width = m; value = y })
choice_word true n m x y e = refl
choice_word false n m x y e = same_word _ _ _ _ (sym e) refl

single : (v : ℕ → Bool) (test : List ℕ) → length test ≡ 1 → number v test ≡ bit (v (get_or test 0 0))
single v test l =
    let e : get_or test 0 0 ∷ take (length test - 1) (drop 1 test) ≡ test = list_parts test (omega arith) in
    let n : length (take (length test - 1) (drop 1 test)) < 1 = omega (arith, ap length e) in
    let z : take (length test - 1) (drop 1 test) ≡ [] = list_none (take (length test - 1) (drop 1 test)) n in
    ap (number v) (sym e) ∙ number_cons v (get_or test 0 0) (take (length test - 1) (drop 1 test)) ∙ ap (λ (k : List ℕ). bit (v (get_or test 0 0)) + 2 * number v k) z ∙ (rw (number_nil v) (omega arith))

pub choice_made : (a b : Circuit) (test xs ys word : List ℕ) → length test ≡ 1 → length ys ≡ length xs → IsWordMade a b word (length xs) (λ v. cond (v (get_or test 0 0)) (number v xs) (number v ys))
    → IsMadeWord a b word (λ v. cond (eqb (number v test) 1) (word_at v xs) (word_at v ys))
choice_made a b test xs ys word one widths w = word_made a b word (length xs) (λ v. cond (v (get_or test 0 0)) (number v xs) (number v ys)) (λ v. cond (eqb (number v test) 1) (word_at v xs) (word_at v ys)) w
    (λ bits. choice_word (value a bits (get_or test 0 0)) (length xs) (length ys) (number (value a bits) xs) (number (value a bits) ys) widths
    ∙ ap (λ (k : ℕ). cond (eqb k 1) (word_at (value a bits) xs) (word_at (value a bits) ys)) (sym (single (value a bits) test one)))
