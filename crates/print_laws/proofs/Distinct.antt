-- Lists in which no item stands twice.
use Rattle.std.proofs.Common.{◌≡◌, ℕ, ◌==◌, ◌||◌, nat_le, Bool, true, false, if◌then◌else◌, List, [], ◌∷◌, ◌++◌, map, Option, Some, None, refl, sym, ap, subst, append_assoc, append-nil}
use Rattle.std.specs.Bool.{⊤}
use Rattle.std.specs.Str.{bytes_eq}
use Rattle.std.proofs.lemmas.Bool.{or_parts, eq-eqb}
use Rattle.std.proofs.lemmas.Slice.Eq.{bytes_eq-Decides}
use Rattle.mir_ir.specs.declared.tree.Local.{Local}
use Rattle.mir_grammar.specs.declared.trees.Declared.{Declared}
use Rattle.raw_functions.specs.Meant.{local_of, others_of, put_by_number, by_number}
use Rattle.raw_functions.specs.Doubles.{Spot, is_among, seconds, earlier, earliest, second_of}

abbrev pub Apart : {A : Type 0} → A → List A → Type 0
Apart a [] = ⊤
Apart a (b ∷ bs) = (a ≡ b → ⊥) × Apart a bs

abbrev pub Distinct : {A : Type 0} → List A → Type 0
Distinct [] = ⊤
Distinct (a ∷ as_) = Apart a as_ × Distinct as_

abbrev pub AllApart : {A : Type 0} → List A → List A → Type 0
AllApart [] ys = ⊤
AllApart (x ∷ xs) ys = Apart x ys × AllApart xs ys

apart_map : {A B : Type 0} (f : A → B) (a : A) (as_ : List A) → Apart (f a) (map f as_) → Apart a as_
apart_map f a [] h = tt
apart_map f a (b ∷ bs) h = (λ e. h.0 (ap f e), apart_map f a bs h.1)

pub distinct_map : {A B : Type 0} (f : A → B) (as_ : List A) → Distinct (map f as_) → Distinct as_
distinct_map f [] h = tt
distinct_map f (a ∷ as_) h = (apart_map f a as_ h.0, distinct_map f as_ h.1)

apart_parts : {A : Type 0} (a : A) (xs ys : List A) → Apart a (xs ++ ys) → Apart a xs × Apart a ys
apart_parts a [] ys h = (tt, h)
apart_parts a (x ∷ xs) ys h = let p = apart_parts a xs ys h.1 in ((h.0, p.0), p.1)

apart_both : {A : Type 0} (a : A) (xs ys : List A) → Apart a xs → Apart a ys → Apart a (xs ++ ys)
apart_both a [] ys h k = k
apart_both a (x ∷ xs) ys h k = (h.0, apart_both a xs ys h.1 k)

pub distinct_parts : {A : Type 0} (xs ys : List A) → Distinct (xs ++ ys) → Distinct xs × (AllApart xs ys × Distinct ys)
distinct_parts [] ys h = (tt, (tt, h))
distinct_parts (x ∷ xs) ys h = let p = distinct_parts xs ys h.1 in let q = apart_parts x xs ys h.0 in ((q.0, p.0), ((q.1, p.1.0), p.1.1))

pub distinct_both : {A : Type 0} (xs ys : List A) → Distinct xs → AllApart xs ys → Distinct ys → Distinct (xs ++ ys)
distinct_both [] ys h a k = k
distinct_both (x ∷ xs) ys h a k = (apart_both x xs ys h.0 a.0, distinct_both xs ys h.1 a.1 k)

-- Names.

abbrev pub names : List Spot → List (List ℕ)
names [] = []
names (s ∷ spots) = s.0 ∷ names spots

among_apart : (seen : List (List ℕ)) (w : List ℕ) → is_among seen w ≡ false → AllApart seen (w ∷ [])
among_apart [] w h = tt
among_apart (n ∷ ns) w h = let p = or_parts (bytes_eq w n) (is_among ns w) h in ((λ e. absurd (cc ((bytes_eq-Decides w n).1 (sym e), p.0)), tt), among_apart ns w p.1)

apart_among : (seen : List (List ℕ)) (w : List ℕ) (ws : List (List ℕ)) → AllApart seen (w ∷ ws) → is_among seen w ≡ false
apart_among [] w ws h = refl
apart_among (n ∷ ns) w ws h = by (bytes_eq w n) refl (apart_among ns w ws h.1)
  where
    by : (c : Bool) → bytes_eq w n ≡ c → is_among ns w ≡ false → (c || is_among ns w) ≡ false
    by true e k = absurd (h.0.0 (sym ((bytes_eq-Decides w n).0 e)))
    by false e k = k

some_first : (m : ℕ) (o : Option ℕ) → earlier (Some m) o ≡ None → ⊥
some_first m None h = cc
some_first m (Some n) h = cc

seconds_distinct : (seen : List (List ℕ)) (spots : List Spot) → earliest (seconds seen spots) ≡ None → Distinct seen → Distinct (seen ++ names spots)
seconds_distinct seen [] h d = subst (λ x. Distinct x) (sym (append-nil seen)) d
seconds_distinct seen (s ∷ spots) h d = step (is_among seen s.0) refl h (λ k i. seconds_distinct (seen ++ s.0 ∷ []) spots k i)
  where
    step : (c : Bool) → is_among seen s.0 ≡ c → earliest (if c then s.1 ∷ seconds seen spots else seconds (seen ++ s.0 ∷ []) spots) ≡ None
        → (earliest (seconds (seen ++ s.0 ∷ []) spots) ≡ None → Distinct (seen ++ s.0 ∷ []) → Distinct ((seen ++ s.0 ∷ []) ++ names spots)) → Distinct (seen ++ s.0 ∷ names spots)
    step true e k f = absurd (some_first s.1 (earliest (seconds seen spots)) k)
    step false e k f = subst (λ x. Distinct x) (append_assoc seen (s.0 ∷ []) (names spots)) (f k (distinct_both seen (s.0 ∷ []) d (among_apart seen s.0 e) (tt, tt)))

distinct_seconds : (seen : List (List ℕ)) (spots : List Spot) → Distinct (seen ++ names spots) → earliest (seconds seen spots) ≡ None
distinct_seconds seen [] h = refl
distinct_seconds seen (s ∷ spots) h = let p = distinct_parts seen (s.0 ∷ names spots) h in
    rw (apart_among seen s.0 (names spots) p.1.0) (distinct_seconds (seen ++ s.0 ∷ []) spots (subst (λ x. Distinct x) (sym (append_assoc seen (s.0 ∷ []) (names spots))) h))

pub second_distinct : (spots : List Spot) → second_of spots ≡ None → Distinct (names spots)
unfolding second_of
second_distinct spots h = seconds_distinct [] spots h tt

pub distinct_second : (spots : List Spot) → Distinct (names spots) → second_of spots ≡ None
unfolding second_of
distinct_second spots h = distinct_seconds [] spots h

-- Locals by number.

abbrev pub numbers : List Local → List ℕ
numbers [] = []
numbers (l ∷ ls) = l.id.0 ∷ numbers ls

apart_put : (n : ℕ) (l : Local) (ms : List Local) → (n ≡ l.id.0 → ⊥) → Apart n (numbers ms) → Apart n (numbers (put_by_number l ms))
apart_put n l [] h k = (h, tt)
apart_put n l (m ∷ ms) h k = put_by (nat_le l.id.0 m.id.0) (apart_put n l ms h k.1)
  where
    put_by : (c : Bool) → Apart n (numbers (put_by_number l ms)) → Apart n (numbers (if c then l ∷ m ∷ ms else m ∷ put_by_number l ms))
    put_by true p = (h, k)
    put_by false p = (k.0, p)

distinct_put : (l : Local) (ms : List Local) → Apart l.id.0 (numbers ms) → Distinct (numbers ms) → Distinct (numbers (put_by_number l ms))
distinct_put l [] a d = (tt, tt)
distinct_put l (m ∷ ms) a d = put_by (nat_le l.id.0 m.id.0) (distinct_put l ms a.1 d.1)
  where
    put_by : (c : Bool) → Distinct (numbers (put_by_number l ms)) → Distinct (numbers (if c then l ∷ m ∷ ms else m ∷ put_by_number l ms))
    put_by true p = (a, d)
    put_by false p = (apart_put m.id.0 l ms (λ e. a.0 (sym e)) d.0, p)

apart_sort : (n : ℕ) (ls : List Local) → Apart n (numbers ls) → Apart n (numbers (by_number ls))
apart_sort n [] h = tt
apart_sort n (l ∷ ls) h = apart_put n l (by_number ls) h.0 (apart_sort n ls h.1)

distinct_sort : (ls : List Local) → Distinct (numbers ls) → Distinct (numbers (by_number ls))
distinct_sort [] h = tt
distinct_sort (l ∷ ls) h = distinct_put l (by_number ls) (apart_sort l.id.0 ls h.0) (distinct_sort ls h.1)

abbrev pub declared_numbers : List Declared → List ℕ
declared_numbers [] = []
declared_numbers (d ∷ ds) = d.id.0 ∷ declared_numbers ds

apart_others : (n : ℕ) (ds : List Declared) → Apart n (declared_numbers ds) → Apart n (numbers (others_of ds))
apart_others n [] h = tt
apart_others n (d ∷ ds) h = others_by (d.id.0 == 0) (apart_others n ds h.1)
  where
    others_by : (c : Bool) → Apart n (numbers (others_of ds)) → Apart n (numbers (if c then others_of ds else local_of d ∷ others_of ds))
    others_by true k = k
    others_by false k = (h.0, k)

distinct_others : (ds : List Declared) → Distinct (declared_numbers ds) → Distinct (numbers (others_of ds))
distinct_others [] h = tt
distinct_others (d ∷ ds) h = others_by (d.id.0 == 0) (distinct_others ds h.1)
  where
    others_by : (c : Bool) → Distinct (numbers (others_of ds)) → Distinct (numbers (if c then others_of ds else local_of d ∷ others_of ds))
    others_by true k = k
    others_by false k = (apart_others d.id.0 ds h.0, k)

zero_others : (ds : List Declared) → Apart 0 (numbers (others_of ds))
zero_others [] = tt
zero_others (d ∷ ds) = others_by (d.id.0 == 0) refl (zero_others ds)
  where
    others_by : (c : Bool) → (d.id.0 == 0) ≡ c → Apart 0 (numbers (others_of ds)) → Apart 0 (numbers (if c then others_of ds else local_of d ∷ others_of ds))
    others_by true e k = k
    others_by false e k = (λ z. absurd (cc (eq-eqb d.id.0 0 (sym z), e)), k)

all_printed : (xs : List ℕ) (ds : List Declared) → Apart 0 xs → AllApart xs (declared_numbers ds) → AllApart xs (0 ∷ numbers (by_number (others_of ds)))
all_printed [] ds z h = tt
all_printed (x ∷ xs) ds z h = ((λ e. z.0 (sym e), apart_sort x (others_of ds) (apart_others x ds h.0)), all_printed xs ds z.1 h.1)

-- the numbers of the locals that are printed, where those that are read are different and no parameter is _0
pub distinct_printed : (ps ds : List Declared) → Apart 0 (declared_numbers ps) → Distinct (declared_numbers ps ++ declared_numbers ds) → Distinct (declared_numbers ps ++ 0 ∷ numbers (by_number (others_of ds)))
distinct_printed ps ds z h = let p = distinct_parts (declared_numbers ps) (declared_numbers ds) h in
    distinct_both (declared_numbers ps) (0 ∷ numbers (by_number (others_of ds))) p.0 (all_printed (declared_numbers ps) ds z p.1.0) (apart_sort 0 (others_of ds) (zero_others ds), distinct_sort (others_of ds) (distinct_others ds p.1.1))
