-- Types that are taken, level by level and one after the other.
use Rattle.std.proofs.Common.{◌≡◌, ℕ, ◌+◌, ◌<◌, false, List, [], ◌∷◌, length, Option, Some, None, sym, subst, ◌∙◌, ap, arith}
use Rattle.mir_ir.specs.declared.types.Ty.{Ty, out-Ty, map-Ty, fold_out-Ty}
use Rattle.mir_ir.specs.declared.types.Ty.TheOpen.{Ty-F}
use Rattle.mir_program.specs.Joined.{written, written_in}
use Rattle.decl_counts.specs.Taking.{IsTaken}

-- one level of a type, whose parts are types
abbrev pub level : Ty-F Ty → List (Unit {0})
level x = written_in (map-Ty Ty (List (Unit {0})) (written false) x)

written_out : (t : Ty) → written false t ≡ level (out-Ty t)
unfolding written
written_out = fold_out-Ty (List (Unit {0})) written_in

taken_one : (left rest : ℕ) (xs : List (Unit {0})) (r : Option ℕ) → rest + 1 ≡ left → IsTaken rest xs r → IsTaken left (tt ∷ xs) r
taken_one left rest xs None e h = omega arith
taken_one left rest xs (Some n) e h = omega arith

-- a type, and what is written in it
pub taken_level : (left rest : ℕ) (t : Ty) (x : Ty-F Ty) (xs : List (Unit {0})) (r : Option ℕ) → out-Ty t ≡ x → level x ≡ tt ∷ xs → rest + 1 ≡ left → IsTaken rest xs r → IsTaken left (written false t) r
taken_level left rest t x xs r is parts e h = subst (λ l. IsTaken left l r) (sym (written_out t ∙ ap level is ∙ parts)) (taken_one left rest xs r e h)

-- none is left for a type
pub taken_none : (left : ℕ) (t : Ty) (r : Option ℕ) → r ≡ None → left < 1 → IsTaken left (written false t) r
taken_none left t r is h = subst (λ o. IsTaken left (written false t) o) (sym is) (subst (λ l. left < length l) (sym (written_out t)) (some (out-Ty t)))
  where
    some : (x : Ty-F Ty) → left < length (level x)
    some Ty-F.Bool = omega arith
    some Ty-F.Char = omega arith
    some (Ty-F.Int i) = omega arith
    some Ty-F.Never = omega arith
    some Ty-F.Str = omega arith
    some (Ty-F.Tuple items) = omega arith
    some (Ty-F.Array item n) = omega arith
    some (Ty-F.Slice item) = omega arith
    some (Ty-F.Ref m target) = omega arith
    some (Ty-F.Raw m target) = omega arith
    some (Ty-F.BoxOf target) = omega arith
    some (Ty-F.Dyn path) = omega arith
    some (Ty-F.Named path) = omega arith

-- a type in which no other is written
pub taken_alone : (left rest : ℕ) (t : Ty) (x : Ty-F Ty) → out-Ty t ≡ x → level x ≡ tt ∷ [] → rest + 1 ≡ left → rest + length (written false t) ≡ left
taken_alone left rest t x is parts e = let f : length (written false t) ≡ 1 = ap length (written_out t ∙ ap level is ∙ parts) in omega arith
