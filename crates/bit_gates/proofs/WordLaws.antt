-- Lists of literals that grow by a bit.
use Rattle.std.proofs.Common.{◌≡◌, ℕ, ◌+◌, ◌*◌, ◌^◌, ◌<◌, ◌≤◌, Bool, List, [], ◌∷◌, ◌++◌, length, take, get_or, sym, ap, ◌∙◌, refl, arith, subst, length-append}
use Rattle.std.proofs.lemmas.List.{length-take-le, take_all}
use Rattle.std.proofs.lemmas.List.Elements.{All-nil, All-push}
use Rattle.std.proofs.lemmas.Grind.{pow_more}
use Rattle.bit_gates.specs.Circuit.{Circuit, size, value}
use Rattle.bit_gates.specs.Made.{Extends, IsConstant, IsMade, IsWordMade, IsBitSum, IsSum, AreIn, number, bit}
use Rattle.bit_gates.proofs.MadeLaws.{extends_both, extends_itself}
use Rattle.bit_gates.proofs.NumberLaws.{number_kept, number_nil, number_push, number_below, are_in_kept, take_next, in_at}

pub in_nil : (c : Circuit) → AreIn c []
in_nil c = All-nil (λ literal. literal < 2 * size c)

pub in_push : (a b : Circuit) (xs : List ℕ) (x : ℕ) → Extends a b → AreIn a xs → x < 2 * size b → AreIn b (xs ++ x ∷ [])
in_push a b xs x e h l = All-push (λ literal. literal < 2 * size b) xs x (are_in_kept a b xs e h) l

-- a word with one more bit above
pub word_more : (a b c : Circuit) (ls : List ℕ) (n l : ℕ) (f h : (ℕ → Bool) → ℕ) (g : (ℕ → Bool) → Bool) → IsWordMade a b ls n f → IsMade b c l g
    → ((bits : ℕ → Bool) → f (value a bits) + 2 ^ n * bit (g (value b bits)) ≡ h (value a bits))
    → IsWordMade a c (ls ++ l ∷ []) (n + 1) h
word_more a b c ls n l f h g w m same = record {
  extends = extends_both a b c w.extends m.extends;
  inside = in_push b c ls l m.extends w.inside m.inside;
  width_is = omega (arith, length-append ls (l ∷ []), w.width_is);
  number_is = λ bits.
      number_push (value c bits) ls l
      ∙ (rw (number_kept b c bits ls m.extends w.inside, w.number_is bits, w.width_is, m.value_is bits) (same bits));
}

-- no bits yet
pub word_none : (a : Circuit) (f : (ℕ → Bool) → ℕ) → ((bits : ℕ → Bool) → 0 ≡ f (value a bits)) → IsWordMade a a [] 0 f
word_none a f same = record {
  extends = extends_itself a;
  inside = in_nil a;
  width_is = refl;
  number_is = λ bits. number_nil (value a bits) ∙ same bits;
}

pub sum_none : (a : Circuit) (xs ys : List ℕ) (carry : ℕ) → carry < 2 * size a → IsSum a a (take 0 xs) (take 0 ys) carry [] carry
sum_none a xs ys carry l = record {
  extends = extends_itself a;
  inside = in_nil a;
  next_inside = l;
  width_is = refl;
  sum_is = λ bits. rw (number_nil (value a bits)) (omega arith);
}

sums_add : (p sums xs ys carry x y s n next : ℕ) → sums + p * next ≡ xs + ys + carry → s + 2 * n ≡ x + y + next → sums + p * s + p * 2 * n ≡ xs + p * x + (ys + p * y) + carry
sums_add p sums xs ys carry x y s n next old one =
    let m : p * (s + 2 * n) ≡ p * (x + y + next) = ap (λ (k : ℕ). p * k) one in
    omega arith

-- a sum with one more bit above
pub sum_more : (a b c : Circuit) (xs ys sums : List ℕ) (i x y carry next s n : ℕ) → i < length xs → i < length ys → x ≡ get_or xs i 0 → y ≡ get_or ys i 0 → AreIn a xs → AreIn a ys
    → IsSum a b (take i xs) (take i ys) carry sums next → IsBitSum b c x y next s n
    → IsSum a c (take (i + 1) xs) (take (i + 1) ys) carry (sums ++ s ∷ []) n
sum_more a b c xs ys sums i x y carry next s n lx ly ex ey ix iy w m =
    let ex' : take (i + 1) xs ≡ take i xs ++ x ∷ [] = take_next xs i x lx ex in
    let ey' : take (i + 1) ys ≡ take i ys ++ y ∷ [] = take_next ys i y ly ey in
    let nx : length (take i xs) ≡ i = length-take-le i xs (omega arith) in
    let ny : length (take i ys) ≡ i = length-take-le i ys (omega arith) in
    let ns : length sums ≡ i = w.width_is ∙ nx in
    let px : length (take i xs ++ x ∷ []) ≡ i + 1 = omega (arith, length-append (take i xs) (x ∷ [])) in
    rw (ex', ey') (record {
      extends = extends_both a b c w.extends m.extends;
      inside = in_push b c sums s m.extends w.inside m.sum_inside;
      next_inside = m.next_inside;
      width_is = omega (arith, length-append sums (s ∷ []));
      sum_is = λ bits.
          let kx : value b bits x ≡ value a bits x = w.extends.kept bits x (in_at a xs i x lx ex ix) in
          let ky : value b bits y ≡ value a bits y = w.extends.kept bits y (in_at a ys i y ly ey iy) in
          let ks : number (value c bits) sums ≡ number (value b bits) sums = number_kept b c bits sums m.extends w.inside in
          let hs : number (value c bits) (sums ++ s ∷ []) ≡ number (value c bits) sums + 2 ^ length sums * bit (value c bits s) = number_push (value c bits) sums s in
          let hx : number (value a bits) (take i xs ++ x ∷ []) ≡ number (value a bits) (take i xs) + 2 ^ length (take i xs) * bit (value a bits x) = number_push (value a bits) (take i xs) x in
          let hy : number (value a bits) (take i ys ++ y ∷ []) ≡ number (value a bits) (take i ys) + 2 ^ length (take i ys) * bit (value a bits y) = number_push (value a bits) (take i ys) y in
          let hp : 2 ^ length (take i xs ++ x ∷ []) ≡ 2 ^ i * 2 = ap (λ (k : ℕ). 2 ^ k) px ∙ pow_more 2 i in
          let old : number (value b bits) sums + 2 ^ i * bit (value b bits next) ≡ number (value a bits) (take i xs) + number (value a bits) (take i ys) + bit (value a bits carry) =
          subst (λ (k : ℕ). number (value b bits) sums + 2 ^ k * bit (value b bits next) ≡ number (value a bits) (take i xs) + number (value a bits) (take i ys) + bit (value a bits carry)) nx (w.sum_is bits) in
          let one : bit (value c bits s) + 2 * bit (value c bits n) ≡ bit (value a bits x) + bit (value a bits y) + bit (value b bits next) =
          m.sum_is bits ∙ ap (λ (k : Bool). bit k + bit (value b bits y) + bit (value b bits next)) kx ∙ ap (λ (k : Bool). bit (value a bits x) + bit k + bit (value b bits next)) ky in
          rw (hs, hx, hy, hp, ks, nx, ny, ns)
          (sums_add (2 ^ i) (number (value b bits) sums) (number (value a bits) (take i xs)) (number (value a bits) (take i ys)) (bit (value a bits carry)) (bit (value a bits x)) (bit (value a bits y)) (bit (value c bits s)) (bit (value c bits n)) (bit (value b bits next)) old one);
    })

-- a sum of all bits
pub sum_whole : (a b : Circuit) (xs ys sums : List ℕ) (i carry next : ℕ) → length xs ≤ i → length ys ≤ i → IsSum a b (take i xs) (take i ys) carry sums next → IsSum a b xs ys carry sums next
sum_whole a b xs ys sums i carry next lx ly w =
    subst (λ (k : List ℕ). IsSum a b k ys carry sums next) (take_all i xs lx)
    (subst (λ (k : List ℕ). IsSum a b (take i xs) k carry sums next) (take_all i ys ly) w)

-- the same word, said in other words
pub word_as : (a b : Circuit) (ls : List ℕ) (n m : ℕ) (f g : (ℕ → Bool) → ℕ) → IsWordMade a b ls n f → n ≡ m → ((bits : ℕ → Bool) → f (value a bits) ≡ g (value a bits)) → IsWordMade a b ls m g
word_as a b ls n m f g w e same = record {
  extends = w.extends;
  inside = w.inside;
  width_is = w.width_is ∙ e;
  number_is = λ bits. w.number_is bits ∙ same bits;
}

pub made_as : (a b : Circuit) (l : ℕ) (f g : (ℕ → Bool) → Bool) → IsMade a b l f → ((bits : ℕ → Bool) → f (value a bits) ≡ g (value a bits)) → IsMade a b l g
made_as a b l f g w same = record {
  extends = w.extends;
  inside = w.inside;
  value_is = λ bits. w.value_is bits ∙ same bits;
}

-- the number of one more bit of a list
pub number_take_next : (v : ℕ → Bool) (xs : List ℕ) (i x : ℕ) → i < length xs → x ≡ get_or xs i 0 → number v (take (i + 1) xs) ≡ number v (take i xs) + 2 ^ i * bit (v x)
number_take_next v xs i x l e =
    let n : length (take i xs) ≡ i = length-take-le i xs (omega arith) in
    ap (number v) (take_next xs i x l e) ∙ number_push v (take i xs) x ∙ ap (λ (k : ℕ). number v (take i xs) + 2 ^ k * bit (v x)) n

pub number_take_below : (v : ℕ → Bool) (xs : List ℕ) (i : ℕ) → i ≤ length xs → number v (take i xs) < 2 ^ i
number_take_below v xs i l =
    let n : length (take i xs) ≡ i = length-take-le i xs l in
    subst (λ (k : ℕ). number v (take i xs) < 2 ^ k) n (number_below v (take i xs))

-- two words, bit by bit
pub pair_more : (a b c : Circuit) (xs ys ls : List ℕ) (i x y l : ℕ) (w : (ℕ → Bool) → ℕ → ℕ → ℕ) (g : (ℕ → Bool) → Bool → Bool → Bool)
    → ((bits : ℕ → Bool) (m n : ℕ) (p q : Bool) → m < 2 ^ i → n < 2 ^ i → w (value a bits) m n + 2 ^ i * bit (g (value b bits) p q) ≡ w (value a bits) (m + 2 ^ i * bit p) (n + 2 ^ i * bit q))
    → i < length xs → i < length ys → x ≡ get_or xs i 0 → y ≡ get_or ys i 0 → AreIn a xs → AreIn a ys
    → IsWordMade a b ls i (λ v. w v (number v (take i xs)) (number v (take i ys))) → IsMade b c l (λ v. g v (v x) (v y))
    → IsWordMade a c (ls ++ l ∷ []) (i + 1) (λ v. w v (number v (take (i + 1) xs)) (number v (take (i + 1) ys)))
pair_more a b c xs ys ls i x y l w g step lx ly ex ey ix iy h m =
    word_more a b c ls i l (λ v. w v (number v (take i xs)) (number v (take i ys))) (λ v. w v (number v (take (i + 1) xs)) (number v (take (i + 1) ys))) (λ v. g v (v x) (v y)) h m
    (λ bits.
    let kx : value b bits x ≡ value a bits x = h.extends.kept bits x (in_at a xs i x lx ex ix) in
    let ky : value b bits y ≡ value a bits y = h.extends.kept bits y (in_at a ys i y ly ey iy) in
    rw (kx, ky, number_take_next (value a bits) xs i x lx ex, number_take_next (value a bits) ys i y ly ey)
    (step bits (number (value a bits) (take i xs)) (number (value a bits) (take i ys)) (value a bits x) (value a bits y)
    (number_take_below (value a bits) xs i (omega arith)) (number_take_below (value a bits) ys i (omega arith))))

pub pair_none : (a : Circuit) (xs ys : List ℕ) (w : (ℕ → Bool) → ℕ → ℕ → ℕ) → ((v : ℕ → Bool) → 0 ≡ w v 0 0) → IsWordMade a a [] 0 (λ v. w v (number v (take 0 xs)) (number v (take 0 ys)))
pair_none a xs ys w none = word_none a (λ v. w v (number v (take 0 xs)) (number v (take 0 ys))) (λ bits. rw number_nil (none (value a bits)))

pub pair_whole : (a b : Circuit) (xs ys ls : List ℕ) (i : ℕ) (w : (ℕ → Bool) → ℕ → ℕ → ℕ) → length xs ≡ i → length ys ≤ i → IsWordMade a b ls i (λ v. w v (number v (take i xs)) (number v (take i ys))) → IsWordMade a b ls (length xs) (λ v. w v (number v xs) (number v ys))
pair_whole a b xs ys ls i w lx ly h =
    word_as a b ls i (length xs) (λ v. w v (number v (take i xs)) (number v (take i ys))) (λ v. w v (number v xs) (number v ys)) h (sym lx)
    (λ bits. ap (λ (k : List ℕ). w (value a bits) (number (value a bits) k) (number (value a bits) (take i ys))) (take_all i xs (omega arith)) ∙ ap (λ (k : List ℕ). w (value a bits) (number (value a bits) xs) (number (value a bits) k)) (take_all i ys ly))

-- a test of two words, bit by bit
pub test_more : (a b c : Circuit) (xs ys : List ℕ) (i x y k l : ℕ) (w : ℕ → ℕ → Bool) (g : Bool → Bool → Bool → Bool)
    → ((m n : ℕ) (p q : Bool) → m < 2 ^ i → n < 2 ^ i → g (w m n) p q ≡ w (m + 2 ^ i * bit p) (n + 2 ^ i * bit q))
    → i < length xs → i < length ys → x ≡ get_or xs i 0 → y ≡ get_or ys i 0 → AreIn a xs → AreIn a ys
    → IsMade a b k (λ v. w (number v (take i xs)) (number v (take i ys))) → IsMade b c l (λ v. g (v k) (v x) (v y))
    → IsMade a c l (λ v. w (number v (take (i + 1) xs)) (number v (take (i + 1) ys)))
test_more a b c xs ys i x y k l w g step lx ly ex ey ix iy h m = record {
  extends = extends_both a b c h.extends m.extends;
  inside = m.inside;
  value_is = λ bits.
      let kx : value b bits x ≡ value a bits x = h.extends.kept bits x (in_at a xs i x lx ex ix) in
      let ky : value b bits y ≡ value a bits y = h.extends.kept bits y (in_at a ys i y ly ey iy) in
      m.value_is bits
      ∙ (rw (kx, ky, h.value_is bits, number_take_next (value a bits) xs i x lx ex, number_take_next (value a bits) ys i y ly ey)
      (step (number (value a bits) (take i xs)) (number (value a bits) (take i ys)) (value a bits x) (value a bits y)
      (number_take_below (value a bits) xs i (omega arith)) (number_take_below (value a bits) ys i (omega arith))));
}

pub test_whole : (a b : Circuit) (xs ys : List ℕ) (i l : ℕ) (w : ℕ → ℕ → Bool) → length xs ≤ i → length ys ≤ i → IsMade a b l (λ v. w (number v (take i xs)) (number v (take i ys))) → IsMade a b l (λ v. w (number v xs) (number v ys))
test_whole a b xs ys i l w lx ly h =
    made_as a b l (λ v. w (number v (take i xs)) (number v (take i ys))) (λ v. w (number v xs) (number v ys)) h
    (λ bits. ap (λ (k : List ℕ). w (number (value a bits) k) (number (value a bits) (take i ys))) (take_all i xs lx) ∙ ap (λ (k : List ℕ). w (number (value a bits) xs) (number (value a bits) k)) (take_all i ys ly))

-- a constant, as the test of no bits
pub test_none : (a : Circuit) (xs ys : List ℕ) (l : ℕ) (b : Bool) (w : ℕ → ℕ → Bool) → b ≡ w 0 0 → IsConstant a l b → IsMade a a l (λ v. w (number v (take 0 xs)) (number v (take 0 ys)))
test_none a xs ys l b w e h = record {
  extends = extends_itself a;
  inside = h.inside;
  value_is = λ bits. h.value_is bits ∙ (rw number_nil e);
}
