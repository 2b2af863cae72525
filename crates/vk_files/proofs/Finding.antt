-- The first file of a name stands at the first place that has the name.
use Rattle.std.proofs.Common.{◌≡◌, ℕ, ◌<◌, ◌≤◌, inl, inr, List, [], Bool, true, Option, Some, None, IfSome, length, arith, refl, ap, sym, ◌∙◌}
use Rattle.std.proofs.lemmas.Grind.{common_steps}
use Rattle.std.proofs.lemmas.List.Folds.{find_at}
use Rattle.std.proofs.lemmas.Option.{slice_get_past, slice_get_cases}
use Rattle.std.specs.Prelude.{slice_get, is_some}
use Rattle.std.specs.Option.{option_map, unwrap_or}
use Rattle.std.specs.List.{find, position, position_or_len}
use Rattle.vk_files.specs.declared.files.Opened.TheVariants.{Found}
use Rattle.vk_files.specs.Memory.{Entry, has_name, first_named, bytes_at, opened_as}

found_there : {X : Type 0} (p : X → Bool) (xs : List X) (at : ℕ) → position p xs ≡ Some at → find p xs ≡ slice_get xs at
found_there p xs at is_place = grind (arith, common_steps, find_at p xs)

absent : {X : Type 0} (p : X → Bool) (xs : List X) → position p xs ≡ None → find p xs ≡ None
absent p xs is_place =
    let past : length xs ≤ position_or_len p xs = grind (arith, common_steps) in
    find_at p xs ∙ slice_get_past xs (position_or_len p xs) past

some_within : {X : Type 0} (xs : List X) (i : ℕ) → i < length xs → is_some (slice_get xs i) ≡ true
some_within xs i within =
    elim (slice_get_cases xs i).1 [
      | inl found ↦ ap (λ o. is_some o) found.2
      | inr past ↦ absurd (omega (arith, past.0))
    ]

inside : {X : Type 0} (p : X → Bool) (xs : List X) (at : ℕ) → position p xs ≡ Some at → is_some (slice_get xs at) ≡ true
inside p xs at is_place =
    let within : at < length xs = grind (arith, common_steps) in
    some_within xs at within

is_some-map : {X Y : Type 0} (f : X → Y) (o : Option X) → is_some o ≡ true → is_some (option_map f o) ≡ true
is_some-map f None h = h
is_some-map f (Some x) h = refl

pub first_at : (files : List Entry) (name : List ℕ) (at : ℕ) → Some at ≡ position (has_name name) files → first_named files name ≡ bytes_at files at
first_at files name at is_place = ap (λ o. option_map (λ f. f.1.items) o) (found_there (has_name name) files at (sym is_place))

pub first_absent : (files : List Entry) (name : List ℕ) → None ≡ position (has_name name) files → first_named files name ≡ None
first_absent files name is_place = ap (λ o. option_map (λ f. f.1.items) o) (absent (has_name name) files (sym is_place))

pub first_is_some : (files : List Entry) (name : List ℕ) (at : ℕ) → Some at ≡ position (has_name name) files → true ≡ is_some (first_named files name)
first_is_some files name at is_place =
    sym (ap (λ o. is_some o) (first_at files name at is_place) ∙ is_some-map (λ f. f.1.items) (slice_get files at) (inside (has_name name) files at (sym is_place)))

pub opened_found : (o : Option (List ℕ)) → true ≡ is_some o → Found ≡ opened_as o
opened_found None h = cc
opened_found (Some bytes) h = refl

pub left_whole : (o there : Option (List ℕ)) → o ≡ there → IfSome o (λ bytes. unwrap_or there [] ≡ bytes)
left_whole None there h = tt
left_whole (Some bytes) there h = ap (λ o. unwrap_or o []) (sym h)

pub same_place : {xs files : List Entry} {o : Option ℕ} (name : List ℕ) → o ≡ position (has_name name) xs → xs ≡ files → o ≡ position (has_name name) files
same_place name is_place same = is_place ∙ ap (λ (l : List Entry). position (has_name name) l) same
