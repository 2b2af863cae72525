-- Where a whole is read, each of its parts was read.
use Rattle.std.proofs.Common.{◌≡◌, ℕ, ◌≤◌, ◌⊎◌, inl, inr, Bool, true, false, nat_le, ◌&&◌, if◌then◌else◌, pos, negsuc, ℤ, List, Option, Some, None, Result, Ok, Err, refl, sym, ap, arith}
use Rattle.std.proofs.lemmas.Bool.{and_parts, leb-true}
use Rattle.toml.specs.Data.{Data, string, integer, get}
use Rattle.decl_tree.specs.declared.fault.DeclKind.{DeclKind}
use Rattle.decl_tree.specs.declared.fault.DeclKind.TheVariants as kind
use Rattle.decl_tree.specs.declared.fault.KeyFault.{KeyFault}
use Rattle.decl_tree.specs.Faults.{and_then, here, there, under, key_step}
use Rattle.decl_tree.specs.Keys.{needed, held, defaulted, held_or}
use Rattle.decl_tree.specs.Values.{number_in, in_range}
use Rattle.decl_texts.specs.Texts.{read_as}
use Rattle.decl_file.specs.Gathered.{both}

pub ok_same : {A E : Type 0} (x y : A) → ◌≡◌ {A = Result A E} (Ok x) (Ok y) → x ≡ y
ok_same x y e = cc

pub some_same : {A : Type 0} (x y : A) → Some x ≡ Some y → x ≡ y
some_same x y e = cc

pub and_then_ok : {A B : Type 0} (r : Result A KeyFault) (f : A → Result B KeyFault) (y : B) → and_then r f ≡ Ok y → (x : A) × (r ≡ Ok x) × (f x ≡ Ok y)
and_then_ok (Ok x) f y e = (x, refl, e)
and_then_ok (Err g) f y e = absurd cc

pub under_ok : {A : Type 0} (step : List ℕ) (r : Result A KeyFault) (x : A) → under step r ≡ Ok x → r ≡ Ok x
under_ok step (Ok y) x e = e
under_ok step (Err f) x e = absurd cc

pub there_ok : {A : Type 0} (k : DeclKind) (o : Option A) (x : A) → there k o ≡ Ok x → o ≡ Some x
there_ok k (Some y) x e = cc
there_ok k None x e = absurd cc

pub both_ok : {A B : Type 0} (a : Result A KeyFault) (b : Result B KeyFault) (p : A × B) → both a b ≡ Ok p → (a ≡ Ok p.0) × (b ≡ Ok p.1)
both_ok (Ok x) (Ok y) p e = let f : (x, y) ≡ p = ok_same (x, y) p e in (ap (λ q. Ok q.0) f, ap (λ q. Ok q.1) f)
both_ok (Ok x) (Err g) p e = absurd cc
both_ok (Err g) b p e = absurd cc

held_ok : {A : Type 0} (one : Data → Result A KeyFault) (o : Option Data) (x : A) → held one o ≡ Ok x → (d : Data) × (o ≡ Some d) × (one d ≡ Ok x)
held_ok one (Some d) x e = (d, refl, e)
held_ok one None x e = absurd cc

pub needed_ok : {A : Type 0} (key : List ℕ) (one : Data → Result A KeyFault) (d : Data) (x : A) → needed key one d ≡ Ok x → (e : Data) × (get key d ≡ Some e) × (one e ≡ Ok x)
needed_ok key one d x e = held_ok one (get key d) x (under_ok (key_step key) (held one (get key d)) x e)

held_or_ok : {A : Type 0} (other : A) (one : Data → Result A KeyFault) (o : Option Data) (x : A) → held_or other one o ≡ Ok x → (x ≡ other) ⊎ ((d : Data) × (one d ≡ Ok x))
held_or_ok other one None x e = inl (sym (ok_same other x e))
held_or_ok other one (Some d) x e = inr (d, e)

-- a default, or what was read
pub defaulted_ok : {A : Type 0} (other : A) (key : List ℕ) (one : Data → Result A KeyFault) (d : Data) (x : A) → defaulted other key one d ≡ Ok x → (x ≡ other) ⊎ ((e : Data) × (one e ≡ Ok x))
defaulted_ok other key one d x e = held_or_ok other one (get key d) x (under_ok (key_step key) (held_or other one (get key d)) x e)

-- a text that gives it
pub read_as_ok : {A : Type 0} (read : List ℕ → Option A) (d : Data) (x : A) → read_as read d ≡ Ok x → (text : List ℕ) × (read text ≡ Some x)
read_as_ok read (string text) x e = (text, there_ok kind.WrongKind (read text) x e)
read_as_ok read _ x e = absurd cc

in_range_ok : (low high : ℕ) (z : ℤ) (n : ℕ) → in_range low high z ≡ Ok n → (low ≤ n) × (n ≤ high)
in_range_ok low high (pos m) n e = by_test (nat_le low m && nat_le m high) refl e
  where
    by_test : (c : Bool) → (nat_le low m && nat_le m high) ≡ c → (if c then Ok m else here kind.OutOfRange) ≡ Ok n → (low ≤ n) × (n ≤ high)
    by_test true t f =
        let p = and_parts (nat_le low m) (nat_le m high) t in
        let a = leb-true low m p.0 in
        let b = leb-true m high p.1 in
        let s : m ≡ n = ok_same m n f in (omega arith, omega arith)
    by_test false t f = absurd cc
in_range_ok low high (negsuc m) n e = absurd cc

pub number_in_ok : (low high : ℕ) (d : Data) (n : ℕ) → number_in low high d ≡ Ok n → (low ≤ n) × (n ≤ high)
number_in_ok low high (integer z) n e = in_range_ok low high z n e
number_in_ok low high _ n e = absurd cc

-- a number that a key holds
pub number_at_ok : (low high : ℕ) (key : List ℕ) (d : Data) (n : ℕ) → needed key (number_in low high) d ≡ Ok n → (low ≤ n) × (n ≤ high)
number_at_ok low high key d n e = let h = needed_ok key (number_in low high) d n e in number_in_ok low high h.0 n h.2
