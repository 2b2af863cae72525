-- Runs of bytes that pass a test.
use Rattle.std.proofs.Common.{◌≡◌, ℕ, ◌+◌, Bool, true, false, List, [], ◌∷◌, ◌++◌, length, Some, Result, Ok, Err, if◌then◌else◌, ◌⊎◌, inl, inr, refl, ap, arith}
use Rattle.std.proofs.lemmas.Bool.{and_parts}
use Rattle.std.specs.List.{prefix_len, list_all}
use Rattle.mir_lex.specs.Bytes.{first_is}

pub if_cases : {A : Type 0} (c : Bool) (x y z : A) → (if c then x else y) ≡ z → ((c ≡ true) × (x ≡ z)) ⊎ ((c ≡ false) × (y ≡ z))
if_cases true x y z h = inl (refl, h)
if_cases false x y z h = inr (refl, h)

pub same_ok : {A E : Type 0} (x y : A) → ◌≡◌ {A = Result A E} (Ok x) (Ok y) → x ≡ y
same_ok x y h = cc

pub same_err : {A E : Type 0} (x y : E) → ◌≡◌ {A = Result A E} (Err x) (Err y) → x ≡ y
same_err x y h = cc

pub same_some : {A : Type 0} (x y : A) → Some x ≡ Some y → x ≡ y
same_some x y h = cc

-- the longest front of bytes that pass, and the rest
pub record Run (p : ℕ → Bool) (xs : List ℕ) : Type 0 where
  pub front : List ℕ
  pub rest : List ℕ
  pub joins : xs ≡ front ++ rest
  pub all : list_all p front ≡ true
  pub stops : first_is p rest ≡ false
  pub size : length front ≡ prefix_len p xs

run_at : (p : ℕ → Bool) (b : ℕ) (xs : List ℕ) (c : Bool) → p b ≡ c → Run p xs → Run p (b ∷ xs)
run_at p b xs true h r = record { front = b ∷ r.front; rest = r.rest; joins = ap (λ x. b ∷ x) r.joins; all = rw h r.all; stops = r.stops; size = let e = r.size in rw h (omega arith) }
run_at p b xs false h r = record { front = []; rest = b ∷ xs; joins = refl; all = refl; stops = h; size = rw h refl }

pub run : (p : ℕ → Bool) (xs : List ℕ) → Run p xs
run p [] = record { front = []; rest = []; joins = refl; all = refl; stops = refl; size = refl }
run p (b ∷ xs) = run_at p b xs (p b) refl (run p xs)

-- a front that passes begins a run
pub run_on : (p : ℕ → Bool) (front rest : List ℕ) → list_all p front ≡ true → prefix_len p (front ++ rest) ≡ length front + prefix_len p rest
run_on p [] rest h = omega arith
run_on p (b ∷ front) rest h = let s = and_parts (p b) (list_all p front) h in let i = run_on p front rest s.1 in rw s.0 (omega arith)

pub run_none : (p : ℕ → Bool) (rest : List ℕ) → first_is p rest ≡ false → prefix_len p rest ≡ 0
run_none p [] h = refl
run_none p (b ∷ xs) h = rw h refl

pub run_ends : (p : ℕ → Bool) (front rest : List ℕ) → list_all p front ≡ true → first_is p rest ≡ false → prefix_len p (front ++ rest) ≡ length front
run_ends p front rest h s = let a = run_on p front rest h in let b = run_none p rest s in omega arith

-- the first byte of a run that is not empty
pub run_first : (p q : ℕ → Bool) (b : ℕ) (xs : List ℕ) (r : Run p (b ∷ xs)) → p b ≡ true → q b ≡ true → first_is q r.front ≡ true
run_first p q b xs r h k = first_at p q b xs r.front r.rest r.joins r.stops h k
  where
    first_at : (p q : ℕ → Bool) (b : ℕ) (xs front rest : List ℕ) → b ∷ xs ≡ front ++ rest → first_is p rest ≡ false → p b ≡ true → q b ≡ true → first_is q front ≡ true
    first_at p q b xs [] rest e s h k = cc (ap (first_is p) e)
    first_at p q b xs (c ∷ front) rest e s h k = cc (ap (first_is q) e)
