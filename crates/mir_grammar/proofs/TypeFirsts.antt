-- Each token that may come first begins a type.
use Rattle.std.proofs.Common.{◌≡◌, ◌⊎◌, inl, inr, ℕ, suc, Bool, true, false, ◌||◌, if◌then◌else◌, List, [], ◌∷◌, codes, None, refl, sym, ◌∙◌, ap, subst}
use Rattle.std.proofs.lemmas.Bool.{eqb-true}
use Rattle.std.specs.Prelude.{◌==◌}
use Rattle.grammar_words.specs.Grammar.{Part, Either}
use Rattle.grammar_words.specs.Classes.{has, inside}
use Rattle.grammar_words.proofs.Laws.{Goes}
use Rattle.grammar_words.proofs.Sets.{has_append}
use Rattle.grammar_words.proofs.Starts.{one_of}
use Rattle.mir_grammar.specs.Lexemes.{Lexeme, class_of, sign, word}
use Rattle.mir_grammar.specs.Names.{Named, to_path, to_plain, to_tuple, to_array, to_ref, to_raw, to_dyn, to_mut_path, to_qualified, word_head, impl_head, word_step, named_head}
use Rattle.mir_grammar.specs.Types.{Family, Want, AnyType, NotMut, BehindMut, Qualified, any_word, colons, type_names, type_words, path_words, path_words_but_mut, firsts_of, type_firsts, without, FreePath, KeyedSteps, PathFrom, FormedType, TypeLevel, NoType}
use Rattle.mir_grammar.proofs.Samples.{name}

has_without_step : (x n : ℕ) (set xs : List ℕ) (b c : Bool) → has set x ≡ b → (x == n) ≡ c → (if c then true else has xs n) ≡ true → (has xs n ≡ true → (has set n ≡ true) ⊎ (has (without set xs) n ≡ true))
    → (has set n ≡ true) ⊎ (has (if b then without set xs else x ∷ without set xs) n ≡ true)
has_without_step x n set xs true true e f h ih = inl (subst (λ k. has set k ≡ true) (eqb-true x n f) e)
has_without_step x n set xs true false e f h ih = ih h
has_without_step x n set xs false true e f h ih = inr (rw f refl)
has_without_step x n set xs false false e f h ih = elim (ih h) [ inl i ↦ inl i | inr i ↦ inr (rw f i) ]

-- a class of a list is in a set, or left when those of the set are taken out
has_without : (set xs : List ℕ) (n : ℕ) → has xs n ≡ true → (has set n ≡ true) ⊎ (has (without set xs) n ≡ true)
has_without set [] n h = inr h
has_without set (x ∷ xs) n h = has_without_step x n set xs (has set x) (x == n) refl refl h (has_without set xs n)

or_case : (a b : Bool) → (a || b) ≡ true → (a ≡ true) ⊎ (b ≡ true)
or_case true b e = inl refl
or_case false b e = inr e

bool_word : Lexeme
bool_word = word (codes "bool")

-- a sign that begins a type alone, and the names of types
starts_with : (t : Lexeme) → has (17 ∷ []) (class_of t) ≡ true → has (17 ∷ type_names) (class_of t) ≡ true
starts_with t h = has_append (17 ∷ []) type_names (class_of t) ∙ ap (λ b. b || has type_names (class_of t)) h

ends_with : (t : Lexeme) → has type_names (class_of t) ≡ true → has (17 ∷ type_names) (class_of t) ≡ true
ends_with t h = has_append (17 ∷ []) type_names (class_of t) ∙ (ap (λ b. has (17 ∷ []) (class_of t) || b) h ∙ or_true (has (17 ∷ []) (class_of t)))
  where
    or_true : (b : Bool) → (b || true) ≡ true
    or_true true = refl
    or_true false = refl

-- bool, at each level
any_bool : (e : ℕ) (k : List Lexeme) → TypeLevel NoType (suc e) AnyType (bool_word ∷ k) (to_plain bool_word) k
unfolding class_of inside bool_word
any_bool e k = inl (inl (bool_word, refl, (refl, refl)))

not_mut_bool : (e : ℕ) (k : List Lexeme) → TypeLevel NoType (suc e) NotMut (bool_word ∷ k) (to_plain bool_word) k
unfolding class_of inside bool_word
not_mut_bool e k = inl (inl (bool_word, refl, (refl, refl)))

-- a path of one word
one_word : (words : List ℕ) (T : Family) (t : Lexeme) (k : List Lexeme) → has words (class_of t) ≡ true → FreePath words T (t ∷ k) (to_path (word_head t, [])) k
unfolding inside
one_word words T t k h = ((word_head t, []), refl, (k, inl (t, refl, (h, refl)), refl))

-- < bool as a >
qualified : (e : ℕ) (t : Lexeme) (k : List Lexeme) → has (7 ∷ []) (class_of t) ≡ true
    → TypeLevel NoType (suc (suc e)) Qualified (t ∷ bool_word ∷ word (codes "as") ∷ name ∷ sign (codes ">") ∷ k) (to_qualified (t, (to_plain bool_word, to_path (word_head name, [])))) k
unfolding class_of inside
qualified e t k h =
    let path = to_path (word_head name, []) in (
      (t, (to_plain bool_word, path)),
      refl,
      (
        _,
        (h, refl),
        (
          _,
          any_bool e (word (codes "as") ∷ name ∷ sign (codes ">") ∷ k),
          ((word (codes "as"), path), refl, (_, (refl, refl), ((path, sign (codes ">")), refl, (_, one_word any_word (TypeLevel NoType (suc e)) name (sign (codes ">") ∷ k) refl, (refl, refl))))),
        ),
      ),
    )

-- Behind each first token: what goes on to a type that is no path.

Formed : ℕ → Part Lexeme Named
Formed e = FormedType (TypeLevel NoType (suc e))

plain_first : (e : ℕ) (z : Lexeme → Bool) (t : Lexeme) → has (17 ∷ type_names) (class_of t) ≡ true → Goes z (Formed e) (t ∷ [])
unfolding inside Formed
plain_first e z t h = ([], to_plain t, λ k n. inl (t, refl, (h, refl)))

tuple_first : (e : ℕ) (z : Lexeme → Bool) (t : Lexeme) → has (1 ∷ []) (class_of t) ≡ true → Goes z (Formed e) (t ∷ [])
unfolding class_of inside Formed
tuple_first e z t h = (
  sign (codes ")") ∷ [],
  to_tuple ([], false),
  λ k n. inr (inl (
    ([], false),
    refl,
    (
      (t, ([], false)),
      refl,
      (
        sign (codes ")") ∷ k,
        (h, refl),
        ((([], false), sign (codes ")")), refl, (sign (codes ")") ∷ k, (sign (codes ")") ∷ k, inr (refl, refl), inr (refl, refl)), (refl, refl))),
      ),
    ),
  )),
)

array_first : (e : ℕ) (z : Lexeme → Bool) (t : Lexeme) → has (3 ∷ []) (class_of t) ≡ true → Goes z (Formed e) (t ∷ [])
unfolding class_of inside Formed
array_first e z t h = (
  bool_word ∷ sign (codes "]") ∷ [],
  to_array (to_plain bool_word, None),
  λ k n. inr (inr (inl (
    (to_plain bool_word, None),
    refl,
    (
      (t, (to_plain bool_word, None)),
      refl,
      (bool_word ∷ sign (codes "]") ∷ k, (h, refl), (sign (codes "]") ∷ k, any_bool e (sign (codes "]") ∷ k), inl (sign (codes "]"), refl, (refl, refl)))),
    ),
  ))),
)

ref_first : (e : ℕ) (z : Lexeme → Bool) (t : Lexeme) → has (15 ∷ []) (class_of t) ≡ true → Goes z (Formed e) (t ∷ [])
unfolding class_of inside Formed
ref_first e z t h = (
  bool_word ∷ [],
  to_ref (false, to_plain bool_word),
  λ k n. inr (inr (inr (inl (
    (false, to_plain bool_word),
    refl,
    (
      (t, (false, to_plain bool_word)),
      refl,
      (bool_word ∷ k, (h, refl), ((false, (false, to_plain bool_word)), refl, (bool_word ∷ k, inr (refl, refl), inr (to_plain bool_word, refl, not_mut_bool e k)))),
    ),
  )))),
)

raw_first : (e : ℕ) (z : Lexeme → Bool) (t : Lexeme) → has (16 ∷ []) (class_of t) ≡ true → Goes z (Formed e) (t ∷ [])
unfolding class_of inside Formed
raw_first e z t h = (
  word (codes "const") ∷ bool_word ∷ [],
  to_raw (false, to_plain bool_word),
  λ k n. inr (inr (inr (inr (inl (
    (false, to_plain bool_word),
    refl,
    (
      (t, (false, to_plain bool_word)),
      refl,
      (word (codes "const") ∷ bool_word ∷ k, (h, refl), inr ((word (codes "const"), (false, to_plain bool_word)), refl, (bool_word ∷ k, (refl, refl), (to_plain bool_word, refl, any_bool e k)))),
    ),
  ))))),
)

dyn_first : (e : ℕ) (z : Lexeme → Bool) (t : Lexeme) → has (115 ∷ []) (class_of t) ≡ true → Goes z (Formed e) (t ∷ [])
unfolding class_of inside Formed
dyn_first e z t h =
    let path = to_path (word_head name, []) in
    (name ∷ [], to_dyn path, λ k n. inr (inr (inr (inr (inr (path, refl, ((t, path), refl, (name ∷ k, (h, refl), ((path, false), refl, (k, one_word any_word (TypeLevel NoType (suc e)) name k refl, inr (refl, refl)))))))))))

-- What goes on to a path.

impl_first : (words : List ℕ) (T : Family) (z : Lexeme → Bool) (t : Lexeme) → has (43 ∷ []) (class_of t) ≡ true → Goes z (FreePath words T) (t ∷ [])
unfolding inside
impl_first words T z t h = ([], to_path (impl_head t, []), λ k n. ((impl_head t, []), refl, (k, inr (inl (t, refl, (h, refl))), refl)))

angle_first : (words : List ℕ) (e : ℕ) (z : Lexeme → Bool) (t : Lexeme) → has (7 ∷ []) (class_of t) ≡ true → Goes z (FreePath words (TypeLevel NoType (suc (suc e)))) (t ∷ [])
angle_first words e z t h =
    let n = to_qualified (t, (to_plain bool_word, to_path (word_head name, []))) in
    (bool_word ∷ word (codes "as") ∷ name ∷ sign (codes ">") ∷ [], to_path (named_head n, []), λ k i. ((named_head n, []), refl, (k, inr (inr (n, refl, qualified e t k h)), refl)))

word_first : (words : List ℕ) (T : Family) (z : Lexeme → Bool) (t : Lexeme) → has words (class_of t) ≡ true → Goes z (FreePath words T) (t ∷ [])
word_first words T z t h = ([], to_path (word_head t, []), λ k n. one_word words T t k h)

colons_first : (e : ℕ) (z : Lexeme → Bool) (t : Lexeme) → has colons (class_of t) ≡ true → Goes z (KeyedSteps (TypeLevel NoType e)) (t ∷ [])
unfolding class_of inside
colons_first e z t h = (name ∷ [], word_step name ∷ [], λ k n. ((word_step name, []), refl, (k, ((t, word_step name), refl, (name ∷ k, (h, refl), inl (name, refl, (refl, refl)))), refl)))

-- Together.

above_formed : (e : ℕ) (z : Lexeme → Bool) (t : Lexeme) (P : Part Lexeme Named) → Goes z (Formed e) (t ∷ []) → Goes z (Either (FormedType (TypeLevel NoType (suc e))) P) (t ∷ [])
unfolding Formed
above_formed e z t P g = (g.0, g.1, λ k n. inl (g.2 k n))

above_path : (words : List ℕ) (T : Family) (z : Lexeme → Bool) (t : Lexeme) → Goes z (FreePath words T) (t ∷ []) → Goes z (Either (FormedType T) (PathFrom type_words words T)) (t ∷ [])
above_path words T z t g = (g.0, g.1, λ k n. inr (inr (g.2 k n)))

signs_first : (e : ℕ) (words more : List ℕ) (z : Lexeme → Bool) (t : Lexeme) → let T = TypeLevel NoType (suc (suc e)) in has (17 ∷ 1 ∷ 3 ∷ 15 ∷ 16 ∷ 43 ∷ 7 ∷ more) (class_of t) ≡ true
    → (has more (class_of t) ≡ true → Goes z (Either (FormedType T) (PathFrom type_words words T)) (t ∷ [])) → Goes z (Either (FormedType T) (PathFrom type_words words T)) (t ∷ [])
signs_first e words more z t h rest =
    let T = TypeLevel NoType (suc (suc e)) in
    let P = PathFrom type_words words T in
    elim (one_of 17 (class_of t) (1 ∷ 3 ∷ 15 ∷ 16 ∷ 43 ∷ 7 ∷ more) h) [
      | inl i ↦ above_formed (suc e) z t P (plain_first (suc e) z t (starts_with t i))
      | inr h₁ ↦
          elim (one_of 1 (class_of t) (3 ∷ 15 ∷ 16 ∷ 43 ∷ 7 ∷ more) h₁) [
            | inl i ↦ above_formed (suc e) z t P (tuple_first (suc e) z t i)
            | inr h₂ ↦
                elim (one_of 3 (class_of t) (15 ∷ 16 ∷ 43 ∷ 7 ∷ more) h₂) [
                  | inl i ↦ above_formed (suc e) z t P (array_first (suc e) z t i)
                  | inr h₃ ↦
                      elim (one_of 15 (class_of t) (16 ∷ 43 ∷ 7 ∷ more) h₃) [
                        | inl i ↦ above_formed (suc e) z t P (ref_first (suc e) z t i)
                        | inr h₄ ↦
                            elim (one_of 16 (class_of t) (43 ∷ 7 ∷ more) h₄) [
                              | inl i ↦ above_formed (suc e) z t P (raw_first (suc e) z t i)
                              | inr h₅ ↦
                                  elim (one_of 43 (class_of t) (7 ∷ more) h₅) [
                                    | inl i ↦ above_path words T z t (impl_first words T z t i)
                                    | inr h₆ ↦
                                        elim (one_of 7 (class_of t) more h₆) [ inl i ↦ above_path words T z t (angle_first words e z t i) | inr h₇ ↦ rest h₇ ]
                                  ]
                            ]
                      ]
                ]
          ]
    ]

type_words_first : (e : ℕ) (z : Lexeme → Bool) (t : Lexeme) (P : Part Lexeme Named) → has type_words (class_of t) ≡ true → Goes z (Either (FormedType (TypeLevel NoType (suc e))) P) (t ∷ [])
type_words_first e z t P h = elim (or_case _ _ (sym (has_append type_names (115 ∷ []) (class_of t)) ∙ h)) [
  | inl i ↦ above_formed e z t P (plain_first e z t (ends_with t i))
  | inr i ↦ above_formed e z t P (dyn_first e z t i)
]

any_firsts : (e : ℕ) (z : Lexeme → Bool) (t : Lexeme) → has type_firsts (class_of t) ≡ true → Goes z (TypeLevel NoType (suc (suc (suc e))) AnyType) (t ∷ [])
any_firsts e z t h = signs_first e path_words any_word z t h (λ w. elim (has_without type_words any_word (class_of t) w) [
  | inl i ↦ type_words_first (suc e) z t (PathFrom type_words path_words (TypeLevel NoType (suc (suc e)))) i
  | inr i ↦ above_path path_words (TypeLevel NoType (suc (suc e))) z t (word_first path_words (TypeLevel NoType (suc (suc e))) z t i)
])

not_mut_firsts : (e : ℕ) (z : Lexeme → Bool) (t : Lexeme) → has (firsts_of NotMut) (class_of t) ≡ true → Goes z (TypeLevel NoType (suc (suc (suc e))) NotMut) (t ∷ [])
not_mut_firsts e z t h = signs_first e path_words_but_mut (without (117 ∷ []) any_word) z t h (λ w. elim (has_without type_words (without (117 ∷ []) any_word) (class_of t) w) [
  | inl i ↦ type_words_first (suc e) z t (PathFrom type_words path_words_but_mut (TypeLevel NoType (suc (suc e)))) i
  | inr i ↦ above_path path_words_but_mut (TypeLevel NoType (suc (suc e))) z t (word_first path_words_but_mut (TypeLevel NoType (suc (suc e))) z t i)
])

pub each_first : (e : ℕ) (z : Lexeme → Bool) (want : Want) (t : Lexeme) → has (firsts_of want) (class_of t) ≡ true → Goes z (TypeLevel NoType (suc (suc (suc e))) want) (t ∷ [])
each_first e z AnyType t h = any_firsts e z t h
each_first e z NotMut t h = not_mut_firsts e z t h
each_first e z BehindMut t h = let g = colons_first (suc (suc e)) z t h in (g.0, to_mut_path g.1, λ k n. (g.1, refl, g.2 k n))
each_first e z Qualified t h = (bool_word ∷ word (codes "as") ∷ name ∷ sign (codes ">") ∷ [], to_qualified (t, (to_plain bool_word, to_path (word_head name, []))), λ k n. qualified (suc e) t k h)

-- a token that may come first, for what is wanted
first_of : Want → Lexeme
first_of AnyType = bool_word
first_of NotMut = bool_word
first_of BehindMut = sign (codes "::")
first_of Qualified = sign (codes "<")

first_fits : (want : Want) → has (firsts_of want) (class_of (first_of want)) ≡ true
unfolding first_of class_of bool_word
first_fits AnyType = refl
first_fits NotMut = refl
first_fits BehindMut = refl
first_fits Qualified = refl

pub each_sentence : (e : ℕ) (z : Lexeme → Bool) (want : Want) → Goes z (TypeLevel NoType (suc (suc (suc e))) want) []
each_sentence e z want = let g = each_first e z want (first_of want) (first_fits want) in (first_of want ∷ g.0, g.1, λ k n. g.2 k n)
