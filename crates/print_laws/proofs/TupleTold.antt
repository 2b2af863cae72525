-- Tuples and types at each depth, printed on their own.
use Rattle.std.proofs.Common.{◌≡◌, inl, inr, ℕ, zero, suc, ◌≤◌, ◌==◌, Bool, true, false, ◌&&◌, not, List, [], ◌∷◌, ◌++◌, codes, map, refl, sym, ◌∙◌, ap, subst, arith, append_assoc}
use Rattle.std.specs.Str.{bytes_eq}
use Rattle.std.proofs.lemmas.Bool.{and_parts, eqb-true, eq-eqb}
use Rattle.grammar_words.specs.Grammar.{Part, Either, starts}
use Rattle.grammar_words.specs.Classes.{has, inside, Perhaps_token, Listed, Trailed}
use Rattle.mir_ir.specs.declared.types.Ty.{Ty}
use Rattle.mir_ir.specs.declared.types.Ty.TheVariants as ty
use Rattle.mir_grammar.specs.Lexemes.{Lexeme, class_of, sign}
use Rattle.mir_grammar.specs.declared.named.Named.{Named}
use Rattle.mir_grammar.specs.Names.{types_of, comma_where, to_tuple}
use Rattle.mir_grammar.specs.Types.{Family, type_words, path_words, path_words_but_mut, AnyType, NotMut, PathFrom, TupleType, FormedType, TypeBody, TypeLevel, NoType}
use Rattle.canonical_text.specs.Types.{behind_commas, with_commas, comma_of_one, type_text}
use Rattle.print_laws.specs.Printed.{ArePrintable}
use Rattle.print_laws.proofs.Leads.{word_follow}
use Rattle.print_laws.proofs.Fits as fits
use Rattle.print_laws.proofs.Fits.{Fits, fits_none, fits_join, fits_text, fits_wide}
use Rattle.print_laws.proofs.Again.{past_token}
use Rattle.print_laws.proofs.TypeTexts as texts
use Rattle.print_laws.proofs.TypeTexts.{Retold, opening_inside, closing_inside}
use Rattle.print_laws.proofs.TypeEquations as text
use Rattle.print_laws.proofs.Told.{Telling, Told, told_into, told_from, told_both, told_listed}
use Rattle.print_laws.proofs.TypeTold.{ty_of, NotMutOf, Printed, plain_type_told, array_told, ref_told, raw_told, dyn_told, mut_path_told, path_told, path_but_mut}

-- the parts of a tuple
record Parts (T : Family) (ts : List Lexeme) (n : Named) (rest : List Lexeme) : Type 0 where
  pub v : List Named × Bool
  pub open_ : Lexeme
  pub inner : List Lexeme
  pub mid : List Lexeme
  pub made : to_tuple v ≡ n
  pub first : ts ≡ open_ ∷ inner
  pub opens : has (1 ∷ []) (class_of open_) ≡ true
  pub listed : Listed class_of (9 ∷ []) (T AnyType) inner v.0 mid

parts_of : (T : Family) (ts rest : List Lexeme) (n : Named) → TupleType T ts n rest → Parts T ts n rest
unfolding inside
parts_of T ts rest n h = let w = h.2 in let x = w.2.2 in record {
  v = x.0.0;
  open_ = w.0.0;
  inner = w.2.0;
  mid = x.2.1.0;
  made = ap to_tuple (x.1 ∙ w.1) ∙ h.1;
  first = w.2.1.1;
  opens = w.2.1.0;
  listed = x.2.1.1;
}

comma_inside : inside class_of (9 ∷ []) (sign (codes ",")) ≡ true
unfolding inside class_of
comma_inside = refl

-- the comma of a tuple of one
abbrev pub is_one : {A : Type 0} → List A → Bool
is_one [] = false
is_one (x ∷ []) = true
is_one (x ∷ y ∷ more) = false

abbrev pub commas : Bool → List Lexeme
commas true = sign (codes ",") ∷ []
commas false = []

pub commas_read : (c : Bool) (k : List Lexeme) → Perhaps_token class_of (9 ∷ []) (commas c ++ k) c k
commas_read true k = inl (sign (codes ","), refl, (comma_inside, refl))
commas_read false k = inr (refl, refl)

pub commas_fit : (c : Bool) → Fits (7 ∷ []) (7 ∷ []) (comma_where c) (commas c)
commas_fit true = fits_wide fits.comma refl refl
commas_fit false = fits_none (7 ∷ [])

comma_is : (ts : List Ty) → comma_where (is_one ts) ≡ comma_of_one (map type_text ts)
comma_is [] = refl
comma_is (t ∷ []) = refl
comma_is (t ∷ u ∷ more) = refl

types_map : (ns : List Named) → types_of ns ≡ map ty_of ns
types_map [] = refl
types_map (n ∷ ns) = ap (λ x. n.ty ∷ x) (types_map ns)

tuple_is : (ns : List Named) (c : Bool) → is_one (map ty_of ns) ≡ c → ty_of (to_tuple (ns, c)) ≡ ty.Tuple (map ty_of ns)
unfolding to_tuple
tuple_is [] c e = refl
tuple_is (n ∷ []) true e = refl
tuple_is (n ∷ []) false e = absurd cc
tuple_is (n ∷ m ∷ more) c e = ap (λ x. ty.Tuple (n.ty ∷ m.ty ∷ x)) (types_map more)

abbrev ListTold : Family → List Ty → Type 0
ListTold U ts = Telling (7 ∷ []) (1 ∷ 7 ∷ []) (Listed class_of (9 ∷ []) (U AnyType)) (map ty_of) (with_commas (map type_text ts)) ts

list_told : {T U : Family} → Printed T U → Told (7 ∷ []) (1 ∷ 7 ∷ []) (Listed class_of (9 ∷ []) (T AnyType)) (Listed class_of (9 ∷ []) (U AnyType)) (map ty_of) (λ ts. with_commas (map type_text ts))
list_told p = told_listed (7 ∷ []) (1 ∷ 7 ∷ []) (λ ts. with_commas (map type_text ts)) (λ ts. behind_commas (map type_text ts)) refl refl (λ x xs. refl) (λ x xs. refl) p.any refl refl refl refl refl

tuple_reads : (U : Family) (ls : List Lexeme) (ns : List Named) (c : Bool) → ((k : List Lexeme) → Listed class_of (9 ∷ []) (U AnyType) (ls ++ k) ns k) → (k : List Lexeme)
    → TupleType U ((sign (codes "(") ∷ ((ls ++ commas c) ++ sign (codes ")") ∷ [])) ++ k) (to_tuple (ns, c)) k
tuple_reads U ls ns c f k = (
  (ns, c),
  refl,
  (
    (sign (codes "("), (ns, c)),
    refl,
    (
      ((ls ++ commas c) ++ sign (codes ")") ∷ []) ++ k,
      (opening_inside, refl),
      (
        ((ns, c), sign (codes ")")),
        refl,
        (
          sign (codes ")") ∷ k,
          subst (λ z. Trailed class_of (9 ∷ []) (U AnyType) z (ns, c) (sign (codes ")") ∷ k)) (sym (append_assoc (ls ++ commas c) (sign (codes ")") ∷ []) k ∙ append_assoc ls (commas c) (sign (codes ")") ∷ k)))
              (commas c ++ sign (codes ")") ∷ k, f (commas c ++ sign (codes ")") ∷ k), commas_read c (sign (codes ")") ∷ k)),
          (closing_inside, refl),
        ),
      ),
    ),
  ),
)

-- a tuple that is no type in parentheses
tuple_of : (U : Family) (ts : List Ty) → ListTold U ts → Telling word_follow (1 ∷ 7 ∷ []) (TupleType U) ty_of (type_text (ty.Tuple ts)) (ty.Tuple ts)
tuple_of U ts k = let fit = fits_join (fits_join (fits_join fits.opening k.fits refl) (commas_fit (is_one ts)) refl) fits.closing refl in record {
  lexemes = sign (codes "(") ∷ ((k.lexemes ++ commas (is_one ts)) ++ sign (codes ")") ∷ []);
  value = to_tuple (k.value, is_one ts);
  same = tuple_is k.value (is_one ts) (ap is_one k.same) ∙ ap ty.Tuple k.same;
  reads = tuple_reads U k.lexemes k.value (is_one ts) k.reads;
  fits = fits_text (ap (λ x. codes "(" ++ with_commas (map type_text ts) ++ x ++ codes ")") (comma_is ts) ∙ sym (text.tuple_text ts)) (fits_wide fit refl refl);
}

-- how a type in parentheses is told
abbrev Inner : Family → Part Lexeme Named → Type 0
Inner T V = (ts rest : List Lexeme) (n : Named) → T AnyType ts n rest → ArePrintable ts → starts (inside class_of (117 ∷ [])) ts ≡ false → Telling word_follow (1 ∷ 7 ∷ []) V ty_of (type_text n.ty) n.ty

first_same : (v : Named × List Named) (n : Named) → v.0 ∷ v.1 ≡ n ∷ [] → v.0 ≡ n
first_same v n h = cc

single_told : (T : Family) {V : Part Lexeme Named} → Inner T V → (ts rest : List Lexeme) (n : Named) → Listed class_of (9 ∷ []) (T AnyType) ts (n ∷ []) rest → ArePrintable ts → starts (inside class_of (117 ∷ [])) ts ≡ false
    → Telling word_follow (1 ∷ 7 ∷ []) V ty_of (type_text n.ty) n.ty
single_told T i ts rest n (inl h) r s = i ts h.2.0 n (subst (λ m. T AnyType ts m h.2.0) (first_same h.0 n h.1) h.2.1) r s
single_told T i ts rest n (inr h) r s = absurd (cc (h.0))

into : (U : Family) (V : Part Lexeme Named) → ((ts rest : List Lexeme) (a : Named) → TupleType U ts a rest → V ts a rest) → (ts : List Ty) → Telling word_follow (1 ∷ 7 ∷ []) (TupleType U) ty_of (type_text (ty.Tuple ts)) (ty.Tuple ts)
    → Telling word_follow (1 ∷ 7 ∷ []) V ty_of (type_text (ty.Tuple ts)) (ty.Tuple ts)
into U V w ts k = record { lexemes = k.lexemes; value = k.value; same = k.same; reads = λ y. w (k.lexemes ++ y) y k.value (k.reads y); fits = k.fits }

tuple_cases : {T U : Family} {V : Part Lexeme Named} → Printed T U → ((ts rest : List Lexeme) (a : Named) → TupleType U ts a rest → V ts a rest) → Inner T V → (ns : List Named) (c : Bool) (ts rest : List Lexeme)
    → Listed class_of (9 ∷ []) (T AnyType) ts ns rest → ArePrintable ts → starts (inside class_of (117 ∷ [])) ts ≡ false → Telling word_follow (1 ∷ 7 ∷ []) V ty_of (type_text (ty_of (to_tuple (ns, c)))) (ty_of (to_tuple (ns, c)))
unfolding to_tuple
tuple_cases {T} {U} {V} p w i [] c ts rest h r s = into U V w [] (tuple_of U [] ((list_told p).tell ts rest [] h r))
tuple_cases {T} {U} {V} p w i (n ∷ []) false ts rest h r s = single_told T i ts rest n h r s
tuple_cases {T} {U} {V} p w i (n ∷ []) true ts rest h r s = into U V w (n.ty ∷ []) (tuple_of U (n.ty ∷ []) ((list_told p).tell ts rest (n ∷ []) h r))
tuple_cases {T} {U} {V} p w i (n ∷ m ∷ more) c ts rest h r s = subst (λ x. Telling word_follow (1 ∷ 7 ∷ []) V ty_of (type_text (ty.Tuple (n.ty ∷ m.ty ∷ x))) (ty.Tuple (n.ty ∷ m.ty ∷ x))) (sym (types_map more))
    (into U V w (map ty_of (n ∷ m ∷ more)) (tuple_of U (map ty_of (n ∷ m ∷ more)) ((list_told p).tell ts rest (n ∷ m ∷ more) h r)))

is_class : (m n : ℕ) → has (m ∷ []) n ≡ true → (c : Bool) → (m == n) ≡ c → (n == m) ≡ true
is_class m n h true e = ap (λ x. x == m) (sym (eqb-true m n e)) ∙ eq-eqb m m refl
is_class m n h false e = absurd (cc (h, e))

parenthesis_free : (t : Lexeme) (more : List Lexeme) → has (1 ∷ []) (class_of t) ≡ true → ArePrintable (t ∷ more) → starts (inside class_of (117 ∷ [])) more ≡ false
parenthesis_free t more h r =
    let p = and_parts (not (bytes_eq (codes "impl") t.text)) (not (class_of t == 1 && starts (inside class_of (117 ∷ [])) more)) r.1 in
    none_of (class_of t == 1) (starts (inside class_of (117 ∷ [])) more) (is_class 1 (class_of t) h (1 == class_of t) refl) p.1
  where
    none_of : (a b : Bool) → a ≡ true → not (a && b) ≡ true → b ≡ false
    none_of true true e f = absurd cc
    none_of true false e f = refl
    none_of false b e f = absurd cc

tuple_told : {T U : Family} {V : Part Lexeme Named} → Retold T U → Printed T U → ((ts rest : List Lexeme) (a : Named) → TupleType U ts a rest → V ts a rest) → Inner T V → Told word_follow (1 ∷ 7 ∷ []) (TupleType T) V ty_of type_text
tuple_told {T} {U} {V} q p w i = record {
  tell = λ ts rest n h r.
      let a = parts_of T ts rest n h in
      let o = subst ArePrintable a.first r in
      subst (λ m. Telling word_follow (1 ∷ 7 ∷ []) V ty_of (type_text (ty_of m)) (ty_of m)) a.made
      (tuple_cases p w i a.v.0 a.v.1 a.inner a.mid a.listed (past_token (1 ∷ []) a.open_ a.inner refl a.opens o) (parenthesis_free a.open_ a.inner a.opens o));
  left = λ ts rest n h r. ((texts.tuple_type q).keep ts rest n h r).left;
}

formed_told : {T U : Family} {V : Part Lexeme Named} → Retold T U → Printed T U → ((ts rest : List Lexeme) (a : Named) → FormedType U ts a rest → V ts a rest) → Inner T V → Told word_follow (1 ∷ 7 ∷ []) (FormedType T) V ty_of type_text
formed_told {T} {U} {V} q p w i = told_both word_follow (1 ∷ 7 ∷ []) (told_into {V = V} (λ ts rest a h. w ts rest a (inl h)) plain_type_told)
    (told_both word_follow (1 ∷ 7 ∷ []) (tuple_told q p (λ ts rest a h. w ts rest a (inr (inl h))) i)
    (told_both word_follow (1 ∷ 7 ∷ []) (told_into {V = V} (λ ts rest a h. w ts rest a (inr (inr (inl h)))) (array_told p))
    (told_both word_follow (1 ∷ 7 ∷ []) (told_into {V = V} (λ ts rest a h. w ts rest a (inr (inr (inr (inl h))))) (ref_told p))
    (told_both word_follow (1 ∷ 7 ∷ []) (told_into {V = V} (λ ts rest a h. w ts rest a (inr (inr (inr (inr (inl h)))))) (raw_told p))
    (told_into {V = V} (λ ts rest a h. w ts rest a (inr (inr (inr (inr (inr h)))))) (dyn_told q)) refl refl refl refl) refl refl refl refl) refl refl refl refl) refl refl refl refl) refl refl refl refl

free_inner : {T U : Family} → Printed T U → Inner T (U NotMut)
free_inner p ts rest n h r s = p.free.tell ts rest n (s, h) r

any_inner : {T U : Family} → Printed T U → Inner T (U AnyType)
any_inner p ts rest n h r s = p.any.tell ts rest n h r

free_from : (T : Family) (ts rest : List Lexeme) (n : Named) → ArePrintable ts → NotMutOf (TypeBody T AnyType) ts n rest → Either (FormedType T) (PathFrom type_words path_words_but_mut T) ts n rest
free_from T ts rest n r (f, inl h) = inl h
free_from T ts rest n r (f, inr h) = inr (path_but_mut T ts rest n f h)

body : {T U : Family} → Retold T U → Printed T U → Printed T (TypeBody U) → Printed (TypeBody T) (TypeBody U)
body {T} {U} q p r =
    let not_mut = told_both word_follow (1 ∷ 7 ∷ []) (formed_told {V = TypeBody U NotMut} q p (λ ts rest a h. inl h) (free_inner r))
    (told_into {V = TypeBody U NotMut} (λ ts rest a h. inr h) (path_told path_words_but_mut refl refl refl q p)) refl refl refl refl in record {
      any = told_both word_follow (1 ∷ 7 ∷ []) (formed_told {V = TypeBody U AnyType} q p (λ ts rest a h. inl h) (any_inner r))
          (told_into {V = TypeBody U AnyType} (λ ts rest a h. inr h) (path_told path_words refl refl refl q p)) refl refl refl refl;
      free = told_from (free_from T) not_mut;
      not_mut = not_mut;
      behind_mut = mut_path_told q;
    }

no_type : (U : Family) → Printed NoType U
no_type U = record {
  any = record { tell = λ ts rest a h r. absurd h; left = λ ts rest a h r. absurd h };
  free = record { tell = λ ts rest a h r. absurd (h.1); left = λ ts rest a h r. absurd (h.1) };
  not_mut = record { tell = λ ts rest a h r. absurd h; left = λ ts rest a h r. absurd h };
  behind_mut = record { tell = λ ts rest a h r. absurd (h.2.2); left = λ ts rest a h r. absurd (h.2.2) };
}

-- at each depth, and deeper
pub printed : (d e : ℕ) → d ≤ e → Printed (TypeLevel NoType d) (TypeLevel NoType e)
printed zero e h = no_type (TypeLevel NoType e)
printed (suc d) zero h = absurd (omega arith)
printed (suc d) (suc e) h = body (texts.levels d e (omega arith)) (printed d e (omega arith)) (printed d (suc e) (omega arith))
