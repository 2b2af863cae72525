-- A type is found in the file of the number that is told of it.
use Rattle.std.proofs.Common.{◌≡◌, ℕ, zero, suc, ◌<◌, ◌%◌, ◌==◌, Bool, true, false, true≢false, ◌||◌, cond, List, [], ◌∷◌, ◌++◌, Option, Some, None, length, inl, inr, ◌⊎◌, refl, sym, ap, ◌∙◌, arith, eqb-true, eq-eqb, get_or-set_same, get_or-set_other}
use Rattle.std.specs.Prelude.{find, slice_get}
use Rattle.std.proofs.lemmas.List.{length-set}
use Rattle.std.proofs.lemmas.List.Folds.{list_any-append}
use Rattle.mir_ir.specs.declared.types.Ty.{Ty}
use Rattle.typed_program.specs.Filed.{AreFiled, file_at, file_of, is_at, is_in, is_type}
use Rattle.typed_program.specs.Files.{AreEmpty, with_number}
use Rattle.typed_program.specs.Hashes.{hash_of}
use Rattle.typed_program.specs.Numbers.{IsPlaceOf}
use Rattle.typed_program.proofs.SameLaws.{same_exact, same_own}

some_is : {X : Type 0} (x y : X) → Some x ≡ Some y → x ≡ y
some_is {X = X} x y h = ap (λ (o : Option X). elim o [ Some z ↦ z | None ↦ x ]) h

not_some : {X : Type 0} {Y : Type 0} (x : X) → ◌≡◌ {A = Option X} None (Some x) → Y
not_some {X = X} x h = absurd (true≢false (sym (ap (λ (o : Option X). elim o [ Some z ↦ true | None ↦ false ]) h)))

-- ---- a type and its place

is_type_exact : (t : Ty) (o : Option Ty) → is_type t o ≡ true → o ≡ Some t
is_type_exact t None h = absurd (true≢false (sym h))
is_type_exact t (Some u) h = ap (λ v. Some v) (sym (same_exact t u h))

is_type_own : (t : Ty) (o : Option Ty) → o ≡ Some t → is_type t o ≡ true
is_type_own t o h = ap (is_type t) h ∙ same_own t

-- ---- what is found passes the test, and where nothing is found nothing passes it

passes_by : (test : ℕ → Bool) (x n : ℕ) (rest : Option ℕ) (b : Bool) → test x ≡ b → cond b (Some x) rest ≡ Some n → (rest ≡ Some n → test n ≡ true) → test n ≡ true
passes_by test x n rest true is e later = ap test (sym (some_is x n e)) ∙ is
passes_by test x n rest false is e later = later e

found_passes : (test : ℕ → Bool) (file : List ℕ) (n : ℕ) → find test file ≡ Some n → test n ≡ true
found_passes test [] n h = not_some n h
found_passes test (x ∷ xs) n h = passes_by test x n (find test xs) (test x) refl h (found_passes test xs n)

fails_by : (test : ℕ → Bool) (x k : ℕ) (rest : Option ℕ) (more : Bool) (b : Bool) → test x ≡ b → cond b (Some x) rest ≡ None → (c : Bool) → (x == k) ≡ c → (c || more) ≡ true → test k ≡ true
    → (rest ≡ None → more ≡ true → ⊥) → ⊥
fails_by test x k rest more true is e c same r q later = not_some x (sym e)
fails_by test x k rest more false is e true same r q later = true≢false (sym q ∙ ap test (sym (eqb-true x k same)) ∙ is)
fails_by test x k rest more false is e false same r q later = later e r

none_passes : (test : ℕ → Bool) (file : List ℕ) (k : ℕ) → find test file ≡ None → is_in k file ≡ true → test k ≡ true → ⊥
none_passes test [] k h p q = true≢false (sym p)
none_passes test (x ∷ xs) k h p q = fails_by test x k (find test xs) (is_in k xs) (test x) refl h (x == k) refl p q (λ e r. none_passes test xs k e r q)

pub found_place : (files : List (List ℕ)) (types : List Ty) (t : Ty) (found : Option ℕ) → AreFiled files types → found ≡ find (is_at types t) (file_of files t) → IsPlaceOf types t found
found_place files types t None h is = λ k at.
    none_passes (is_at types t) (file_of files t) k (sym is) (h.filed k t at) (is_type_own t (slice_get types k) at)
found_place files types t (Some n) h is = is_type_exact t (slice_get types n) (found_passes (is_at types t) (file_of files t) n (sym is))

-- ---- files with one more number

-- a type of a list with one more stands in the list, or is the last
last_or : (xs : List Ty) (x u : Ty) (k : ℕ) → slice_get (xs ++ x ∷ []) k ≡ Some u → (slice_get xs k ≡ Some u) ⊎ ((k ≡ length xs) × (x ≡ u))
last_or [] x u zero e = inr (refl, some_is x u e)
last_or [] x u (suc k) e = not_some u e
last_or (y ∷ xs) x u zero e = inl e
last_or (y ∷ xs) x u (suc k) e = elim (last_or xs x u k e) [ inl p ↦ inl p | inr p ↦ inr (ap suc p.0, p.1) ]

pub none_filed : (files : List (List ℕ)) (types : List Ty) (rooms : ℕ) → AreEmpty rooms files → 0 < rooms → types ≡ [] → AreFiled files types
none_filed files types rooms e lt is = record {
  rooms = omega (arith, e.0);
  filed = λ k t at. not_some t (ap (λ (l : List Ty). slice_get l k) (sym is) ∙ at);
}

module _ (files new : List (List ℕ)) (at n : ℕ) (lt : at < length files) (is : new ≡ with_number files at n) where
  long : length new ≡ length files
  long = ap length is ∙ length-set files at (file_at files at ++ n ∷ [])

  -- each file keeps its numbers
  kept_at : (m k : ℕ) → is_in k (file_at files m) ≡ true → is_in k (file_at new m) ≡ true
  kept_at m k h = by (m == at) refl
    where
      by : (b : Bool) → (m == at) ≡ b → is_in k (file_at new m) ≡ true
      by true same =
          let m_is : m ≡ at = eqb-true m at same in
          ap (λ (f : List (List ℕ)). is_in k (file_at f m)) is ∙ ap (λ j. is_in k (file_at (with_number files at n) j)) m_is
          ∙ ap (is_in k) (get_or-set_same files at (file_at files at ++ n ∷ []) [] lt)
          ∙ list_any-append (λ j. j == k) (file_at files at) (n ∷ [])
          ∙ ap (λ b. b || is_in k (n ∷ [])) (ap (λ j. is_in k (file_at files j)) (sym m_is) ∙ h)
      by false other =
          ap (λ (f : List (List ℕ)). is_in k (file_at f m)) is
          ∙ ap (is_in k) (get_or-set_other files at m (file_at files at ++ n ∷ []) [] (λ e. true≢false (sym (eq-eqb m at e) ∙ other)))
          ∙ h

  added : is_in n (file_at new at) ≡ true
  added =
      ap (λ (f : List (List ℕ)). is_in n (file_at f at)) is
      ∙ ap (is_in n) (get_or-set_same files at (file_at files at ++ n ∷ []) [] lt)
      ∙ list_any-append (λ j. j == n) (file_at files at) (n ∷ [])
      ∙ last (is_in n (file_at files at)) (n == n) (eq-eqb n n refl)
    where
      last : (a b : Bool) → b ≡ true → (a || (b || false)) ≡ true
      last true b h = refl
      last false b h = ap (λ c. c || false) h

  kept : (u : Ty) (k : ℕ) → is_in k (file_of files u) ≡ true → is_in k (file_of new u) ≡ true
  kept u k h = ap (λ m. is_in k (file_at new (hash_of u % m))) long ∙ kept_at (hash_of u % length files) k h

  -- also where the type does not come behind
  pub filed_still : (types : List Ty) → AreFiled files types → AreFiled new types
  filed_still types h = record { rooms = omega (arith, h.rooms, long); filed = λ k u there. kept u k (h.filed k u there) }

  pub filed_more : (types more : List Ty) (t : Ty) → AreFiled files types → at ≡ hash_of t % length files → n ≡ length types → more ≡ types ++ t ∷ [] → AreFiled new more
  filed_more types more t h place number more_is = record { rooms = omega (arith, h.rooms, long); filed = filed }
    where
      filed : (k : ℕ) (u : Ty) → slice_get more k ≡ Some u → is_in k (file_of new u) ≡ true
      filed k u there = elim (last_or types t u k (ap (λ (l : List Ty). slice_get l k) (sym more_is) ∙ there)) [
        | inl before ↦ kept u k (h.filed k u before)
        | inr own ↦
            ap (λ j. is_in j (file_of new u)) (own.0 ∙ sym number)
            ∙ ap (λ m. is_in n (file_at new (hash_of u % m))) long
            ∙ ap (λ m. is_in n (file_at new m)) (ap (λ v. hash_of v % length files) (sym own.1) ∙ sym place)
            ∙ added
      ]
