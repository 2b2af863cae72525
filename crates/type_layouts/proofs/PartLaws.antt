-- Levels of declared types that lie in one another.
use Rattle.std.proofs.Common.{◌≡◌, ℕ, zero, suc, ◌-◌, ◌<◌, true, List, bytes_eq, refl, ap, sym, ◌∙◌, arith}
use Rattle.std.proofs.lemmas.Slice.Eq.{bytes_eq-Decides}
use Rattle.type_layouts.specs.declared.outline.Outline.{Outline}
use Rattle.type_layouts.specs.Parts.{levels, one_level}

-- where one level more changes nothing, no level does
levels_stable : (n : ℕ) (outlines : List Outline) (table : List ℕ) → one_level outlines table ≡ table → levels n outlines table ≡ table
levels_stable zero outlines table e = refl
levels_stable (suc n) outlines table e = ap (levels n outlines) e ∙ levels_stable n outlines table e

level_first : (n m : ℕ) (outlines : List Outline) (table : List ℕ) → n ≡ suc m → levels n outlines table ≡ levels m outlines (one_level outlines table)
level_first n m outlines table e = ap (λ k. levels k outlines table) e

pub stable_at : (n : ℕ) (outlines : List Outline) (table next whole : List ℕ) → levels n outlines table ≡ whole → next ≡ one_level outlines table → bytes_eq next table ≡ true → table ≡ whole
stable_at n outlines table next whole h made same =
    sym (levels_stable n outlines table (sym made ∙ (bytes_eq-Decides next table).0 same)) ∙ h

pub level_left : (n : ℕ) (outlines : List Outline) (table next whole : List ℕ) → 0 < n → levels n outlines table ≡ whole → next ≡ one_level outlines table → levels (n - 1) outlines next ≡ whole
level_left n outlines table next whole some h made =
    let e : n ≡ suc (n - 1) = omega arith in
    ap (levels (n - 1) outlines) made ∙ sym (level_first n (n - 1) outlines table e) ∙ h
