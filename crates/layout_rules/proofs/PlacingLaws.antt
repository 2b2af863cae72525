-- Two fields share a byte exactly where the later start lies before the earlier end.
use Rattle.std.proofs.Common.{◌≡◌, ℕ, ◌+◌, ◌<◌, ◌≤◌, Bool, false, ◌||◌, List, [], ◌∷◌, min, max, Decides, refl, ap, sym, ◌∙◌, arith}
use Rattle.std.specs.List.{list_any}
use Rattle.std.proofs.lemmas.Bool.{le-ltb, lt-ltb, ltb-true}
use Rattle.type_layouts.specs.declared.outline.Spot.{Spot}
use Rattle.layout_rules.specs.Placing.{ShareAByte, share_a_byte}

shared : (p q m n : ℕ) → max p q < min m n → (byte : ℕ) × ((p ≤ byte) × (byte < m)) × ((q ≤ byte) × (byte < n))
shared p q m n lt = (max p q, (grind arith, grind arith), (grind arith, grind arith))

unshared : (p q m n byte : ℕ) → p ≤ byte → byte < m → q ≤ byte → byte < n → max p q < min m n
unshared p q m n byte a b c d = grind arith

pub share_tells : (r : Bool) (a b : Spot) → r ≡ share_a_byte a b → Decides r (ShareAByte a b)
share_tells r a b e = (
  (λ is. shared a.offset b.offset (a.offset + a.size) (b.offset + b.size) (ltb-true (max a.offset b.offset) (min (a.offset + a.size) (b.offset + b.size)) (sym e ∙ is))),
  (λ h. e ∙ lt-ltb (max a.offset b.offset) (min (a.offset + a.size) (b.offset + b.size)) (unshared a.offset b.offset (a.offset + a.size) (b.offset + b.size) h.0 h.1.0 h.1.1 h.2.0 h.2.1)),
)

-- a spot without bytes shares none
ends_at_start : (p z q n : ℕ) → z ≡ 0 → min (p + z) n ≤ max p q
ends_at_start p z q n e = grind arith

pub empty_shares : (s : Spot) (others : List Spot) → s.size ≡ 0 → list_any (share_a_byte s) others ≡ false
empty_shares s [] e = refl
empty_shares s (o ∷ others) e =
    ap (λ b. b || list_any (share_a_byte s) others) (le-ltb (max s.offset o.offset) (min (s.offset + s.size) (o.offset + o.size)) (ends_at_start s.offset s.size o.offset (o.offset + o.size) e))
    ∙ empty_shares s others e
