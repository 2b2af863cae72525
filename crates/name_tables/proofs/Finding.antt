-- One item more in front of those that are found, and what the place of an item tells of the item.
use Rattle.std.proofs.Common.{◌≡◌, ℕ, suc, ◌+◌, ◌<◌, Bool, true, false, cond, List, Option, Some, None, drop, length, get_or, slice_get, ltb, refl, ap, sym, ◌∙◌, arith}
use Rattle.std.specs.Prelude.{find, option_and_then}
use Rattle.std.specs.List.{position_from, position_or_len}
use Rattle.std.proofs.Math.Seq.{drop-cons}
use Rattle.std.proofs.lemmas.List.{drop_all}
use Rattle.std.proofs.lemmas.List.Folds.{find_at}
use Rattle.std.proofs.lemmas.Option.{slice_get_past}
use Rattle.std.proofs.lemmas.Iterator.Adapters.{position_from-zero}
use Rattle.std.proofs.lemmas.Bool.{ltb-false}

module _ {T : Type 0} (test : T → Bool) where
  -- the places from q on: q, where the item there passes, and those behind it
  here : (items : List T) (p q : ℕ) (own : T) → p ≡ suc q → q < length items → own ≡ get_or items q own
      → position_from test q (drop q items) ≡ cond (test own) (Some q) (position_from test p (drop p items))
  here items p q own e lt is =
      let next : q + 1 ≡ p = omega arith in
      ap (position_from test q) (drop-cons items q own lt)
      ∙ (λ i. cond (test (sym is i)) (Some q) (position_from test (next i) (drop (sym e i) items)))

  -- an item that passes comes in front
  pub found_step : (items : List T) (p q : ℕ) (own : T) (b : Bool) (old new : Option ℕ)
      → p ≡ suc q → q < length items → own ≡ get_or items q own → test own ≡ b → new ≡ cond b (Some q) old
      → old ≡ position_from test p (drop p items)
      → new ≡ position_from test q (drop q items)
  found_step items p q own b old new e lt is tells made h =
      made ∙ (λ i. cond (sym tells i) (Some q) (h i)) ∙ sym (here items p q own e lt is)

  -- behind the last item there are none
  pub found_none : (items : List T) (p : ℕ) → p ≡ length items → None ≡ position_from test p (drop p items)
  found_none items p e = sym (ap (position_from test p) (drop_all p items (omega arith)))

  -- from the first item on, they are those of the list
  pub found_all : (items : List T) (p : ℕ) (old : Option ℕ) → p ≡ 0 → old ≡ position_from test p (drop p items) → old ≡ position_from test 0 items
  found_all items p old e h = h ∙ ap (λ n. position_from test n (drop n items)) e

  reached : (b : Bool) (items : List T) (k : ℕ) → ltb k (length items) ≡ b → slice_get items k ≡ option_and_then (slice_get items) (cond b (Some k) None)
  reached true items k e = refl
  reached false items k e = slice_get_past items k (ltb-false k (length items) e)

  -- the first item that passes stands at the place that is found
  pub by_place : (items : List T) → find test items ≡ option_and_then (slice_get items) (position_from test 0 items)
  by_place items =
      let k = position_or_len test items in
      find_at test items ∙ reached (ltb k (length items)) items k refl ∙ ap (option_and_then (slice_get items)) (position_from-zero test items)

  pub find_none : (items : List T) → None ≡ position_from test 0 items → None ≡ find test items
  find_none items h = ap (option_and_then (slice_get items)) h ∙ sym (by_place items)

  pub find_some : (items others : List T) (n : ℕ) (r : Option T) → others ≡ items → Some n ≡ position_from test 0 items → r ≡ slice_get others n → r ≡ find test items
  find_some items others n r same h is = is ∙ ap (λ l. slice_get l n) same ∙ ap (option_and_then (slice_get items)) h ∙ sym (by_place items)
