-- How names that stand twice are found.
use Rattle.std.proofs.Common.{◌≡◌, ℕ, ◌<◌, length, Bool, true, false, not, ◌||◌, min, if◌then◌else◌, List, [], ◌∷◌, ◌++◌, Option, Some, None, refl, sym, ◌∙◌, ap, arith}
use Rattle.std.specs.Borrow.{Bor}
use Rattle.std.specs.List.{list_any}
use Rattle.std.proofs.lemmas.Bool.{not-true, not-false}
use Rattle.std.specs.Str.{bytes_eq}
use Rattle.mir_grammar.specs.declared.trees.RawBlock.{RawBlock}
use Rattle.mir_grammar.specs.declared.trees.RawFunction.{RawFunction}
use Rattle.raw_functions.specs.Doubles.{Spot, function_spots, label_spots, is_among, seconds, earlier, earliest, second_of}
use Rattle.raw_functions.specs.Noted.{Noted, none_noted, noted, all_noted, names_now}

pub earlier_none : (a : Option ℕ) → earlier a None ≡ a
earlier_none None = refl
earlier_none (Some m) = refl

min_assoc : (l m n : ℕ) → min (min l m) n ≡ min l (min m n)
min_assoc l m n = omega arith

pub earlier_assoc : (a b c : Option ℕ) → earlier (earlier a b) c ≡ earlier a (earlier b c)
earlier_assoc None b c = refl
earlier_assoc (Some l) None c = refl
earlier_assoc (Some l) (Some m) None = refl
earlier_assoc (Some l) (Some m) (Some n) = ap Some (min_assoc l m n)

second_step : (n : Noted) (s : Spot) (spots : List Spot) (b : Bool) → (all_noted (record { names = n.names; second = earlier n.second (Some s.1) }) spots).second ≡ earlier (earlier n.second (Some s.1)) (earliest (seconds n.names spots))
    → (all_noted (record { names = n.names ++ s.0 ∷ []; second = n.second }) spots).second ≡ earlier n.second (earliest (seconds (n.names ++ s.0 ∷ []) spots))
    → (all_noted (if b then record { names = n.names; second = earlier n.second (Some s.1) } else record { names = n.names ++ s.0 ∷ []; second = n.second }) spots).second
    ≡ earlier n.second (earliest (if b then s.1 ∷ seconds n.names spots else seconds (n.names ++ s.0 ∷ []) spots))
second_step n s spots true h k = h ∙ earlier_assoc n.second (Some s.1) (earliest (seconds n.names spots))
second_step n s spots false h k = k

second_all : (n : Noted) (spots : List Spot) → (all_noted n spots).second ≡ earlier n.second (earliest (seconds n.names spots))
second_all n [] = sym (earlier_none n.second)
second_all n (s ∷ spots) = second_step n s spots (is_among n.names s.0) (second_all (record { names = n.names; second = earlier n.second (Some s.1) }) spots) (second_all (record { names = n.names ++ s.0 ∷ []; second = n.second }) spots)

pub second_is : (spots : List Spot) → (all_noted none_noted spots).second ≡ second_of spots
unfolding second_of
second_is spots = second_all none_noted spots

pub noted_on : (n : Noted) (xs ys : List Spot) → all_noted (all_noted n xs) ys ≡ all_noted n (xs ++ ys)
noted_on n [] ys = refl
noted_on n (x ∷ xs) ys = noted_on (noted n x) xs ys

any_now : (k : Bor (List ℕ)) (ks : List (Bor (List ℕ))) → list_any (λ n. bytes_eq k.now n.now) ks ≡ is_among (names_now ks) k.now
any_now k [] = refl
any_now k (n ∷ ns) = ap (λ b. bytes_eq k.now n.now || b) (any_now k ns)

now_end : (ks : List (Bor (List ℕ))) (k : Bor (List ℕ)) → names_now (ks ++ k ∷ []) ≡ names_now ks ++ k.now ∷ []
now_end [] k = refl
now_end (n ∷ ns) k = ap (λ names. n.now ∷ names) (now_end ns k)

-- the name is among the keys
abbrev has_key : List (Bor (List ℕ)) → Bor (List ℕ) → Bool
has_key keys k = list_any (λ n. bytes_eq k.now n.now) keys

abbrev keys_with : List (Bor (List ℕ)) → Bor (List ℕ) → Bool → List (Bor (List ℕ))
keys_with keys k b = if b then keys else keys ++ k ∷ []

noted_where : List (List ℕ) → Option ℕ → Spot → Bool → Noted
noted_where names second s b = if b then record { names = names; second = earlier second (Some s.1) } else record { names = names ++ s.0 ∷ []; second = second }

same : (a b : List (List ℕ)) (m n : Option ℕ) → a ≡ b → m ≡ n → (let r : Noted = record { names = a; second = m } in r) ≡ record { names = b; second = n }
same a b m n p q = cc

pub noted_again : (keys new : List (Bor (List ℕ))) (k : Bor (List ℕ)) (start : ℕ) (second later : Option ℕ) (is_new : Bool) → is_new ≡ not (has_key keys k) → is_new ≡ false → new ≡ keys_with keys k (has_key keys k)
    → later ≡ earlier second (Some start) → (let r : Noted = record { names = names_now new; second = later } in r) ≡ noted (record { names = names_now keys; second = second }) (k.now, start)
unfolding noted_where
noted_again keys new k start second later is_new a f e l =
    let t : has_key keys k ≡ true = not-false (has_key keys k) (sym a ∙ f) in
    let u : names_now new ≡ names_now keys = ap names_now (e ∙ ap (λ b. keys_with keys k b) t) in
    let w : is_among (names_now keys) k.now ≡ true = sym (any_now k keys) ∙ t in
    same (names_now new) (names_now keys) later (earlier second (Some start)) u l ∙ sym (ap (λ b. noted_where (names_now keys) second (k.now, start) b) w)

pub noted_first : (keys new : List (Bor (List ℕ))) (k : Bor (List ℕ)) (start : ℕ) (second : Option ℕ) (is_new : Bool) → is_new ≡ not (has_key keys k) → is_new ≡ true → new ≡ keys_with keys k (has_key keys k)
    → (let r : Noted = record { names = names_now new; second = second } in r) ≡ noted (record { names = names_now keys; second = second }) (k.now, start)
unfolding noted_where
noted_first keys new k start second is_new a f e =
    let t : has_key keys k ≡ false = not-true (has_key keys k) (sym a ∙ f) in
    let u : names_now new ≡ names_now keys ++ k.now ∷ [] = ap names_now (e ∙ ap (λ b. keys_with keys k b) t) ∙ now_end keys k in
    let w : is_among (names_now keys) k.now ≡ false = sym (any_now k keys) ∙ t in
    same (names_now new) (names_now keys ++ k.now ∷ []) second second u refl ∙ sym (ap (λ b. noted_where (names_now keys) second (k.now, start) b) w)

pub functions_found : (n : Noted) (left all : List RawFunction) (second : Option ℕ) → all_noted n (function_spots left) ≡ all_noted none_noted (function_spots all) → length left < 1 → second ≡ n.second → second ≡ second_of (function_spots all)
functions_found n [] all second h l e = e ∙ ap (λ m. m.second) h ∙ second_is (function_spots all)
functions_found n (f ∷ left) all second h l e = absurd (omega arith)

pub labels_found : (n : Noted) (left all : List RawBlock) (second : Option ℕ) → all_noted n (label_spots left) ≡ all_noted none_noted (label_spots all) → length left < 1 → second ≡ n.second → second ≡ second_of (label_spots all)
labels_found n [] all second h l e = e ∙ ap (λ m. m.second) h ∙ second_is (label_spots all)
labels_found n (b ∷ left) all second h l e = absurd (omega arith)
