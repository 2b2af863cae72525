-- The text of a constant reads again as this constant.
use Rattle.std.proofs.Common.{◌≡◌, ◌⊎◌, inl, inr, ℕ, ◌-◌, ◌%◌, ◌^◌, ◌<◌, ◌≤◌, ◌==◌, Bool, true, false, ◌&&◌, nat_le, if◌then◌else◌, List, [], ◌∷◌, ◌++◌, codes, Option, Some, None, refl, sym, ◌∙◌, ap, subst, arith, append_assoc}
use Rattle.std.proofs.lemmas.Bool.{and_from, le-leb, leb-true, leb-false, lt-ltb, or_right}
use Rattle.std.proofs.Math.Nat.{mod-eq_of_lt, mod-lt}
use Rattle.std.specs.Str.{bytes_eq}
use Rattle.std.specs.Fmt.{decimal, digits}
use Rattle.grammar_words.specs.Grammar.{Part, Made}
use Rattle.grammar_words.specs.Classes.{has, inside, Tok, Past}
use Rattle.mir_lex.specs.declared.token.TokenKind.TheVariants as kind
use Rattle.mir_lex.specs.Bytes.{is_char}
use Rattle.mir_lex.specs.Tokens.{Code, written, is_text_body, IsToken}
use Rattle.mir_lex.specs.Views.{between}
use Rattle.mir_ir.specs.declared.types.IntTy.{IntTy}
use Rattle.mir_ir.specs.declared.tree.Constant.{Constant}
use Rattle.mir_ir.specs.declared.tree.Constant.TheVariants as constant
use Rattle.mir_ir.specs.Integers.{width_of, is_signed}
use Rattle.mir_ir.specs.Names.{all_ints, name_of_int}
use Rattle.mir_grammar.specs.declared.limits.Limited.{Limited}
use Rattle.mir_grammar.specs.Lexemes.{Lexeme, class_of, sign, word, number, number_value, number_type, text_body, char_value, fits_plus, fits_minus}
use Rattle.mir_grammar.specs.Types.{Family, PathFrom}
use Rattle.mir_grammar.specs.Values.{integer_of, to_plus, to_minus, to_bool, to_char, to_text, to_unit, least_word, greatest_word, bound_or_name, to_named, truths, constant_words, FormedConstant, ConstantOf}
use Rattle.canonical_text.specs.declared.positions.Position.TheVariants.{AsConstant}
use Rattle.canonical_text.specs.Operands.{integer_text, char_text, quoted, constant_text}
use Rattle.print_laws.specs.Printed.{ArePrintable}
use Rattle.print_laws.proofs.Leads.{lead, all_leads, word_follow, quote_lead}
use Rattle.print_laws.proofs.Fits as fits
use Rattle.print_laws.proofs.Fits.{Fits, fits_join, fits_text, fits_token, fits_wide}
use Rattle.print_laws.proofs.Again.{past_token}
use Rattle.print_laws.proofs.Bands.{is_text_kind, is_character_kind}
use Rattle.print_laws.proofs.Reserved.{constant_keys}
use Rattle.print_laws.proofs.TypeTexts.{Retold, path_from, opening_inside, closing_inside}
use Rattle.print_laws.proofs.Integers.{half, low, some_number, typed_text, typed_type, typed_value, typed_fits, plus_inside, minus_inside}
use Rattle.print_laws.proofs.Characters.{char_code, between_quotes, printed_character, token_char}
use Rattle.print_laws.proofs.PlaceTold.{dash_inside}
use Rattle.print_laws.proofs.Told.{Telling, Told, told_made, told_both, told_into}

abbrev pub constant_of : Limited Constant → Constant
constant_of c = c.value

abbrev ConstantTelling : Part Lexeme (Limited Constant) → Constant → Type 0
ConstantTelling W c = Telling word_follow (1 ∷ 3 ∷ 7 ∷ []) W constant_of (constant_text c) c

-- The unit.

unit_telling : ConstantTelling FormedConstant constant.Unit
unfolding to_unit
unit_telling = record {
  lexemes = sign (codes "(") ∷ sign (codes ")") ∷ [];
  value = to_unit (sign (codes ")"));
  same = refl;
  reads = λ k. inr (inr (inr (inr (inr (sign (codes ")"), refl, ((sign (codes "("), sign (codes ")")), refl, (sign (codes ")") ∷ k, (opening_inside, refl), (closing_inside, refl))))))));
  fits = fits_wide (fits_join fits.opening fits.closing refl) refl refl;
}

-- Integers.

abbrev word_of : IntTy → ℕ → Constant
word_of i v = constant.Integer i (record { width = width_of i; value = v })

minus_is : (i : IntTy) (n v : ℕ) → n < 2 ^ 128 → v < 2 ^ width_of i → 2 ^ width_of i - n ≡ v → constant_of (to_minus (number (typed_text i n))) ≡ word_of i v
unfolding to_minus
minus_is i n v h l e = ap (λ o. integer_of true o (number_value (number (typed_text i n)))) (typed_type i n h) ∙ ap (λ m. integer_of true (Some i) m) (typed_value i n h)
    ∙ ap (word_of i) (ap (λ m. m % 2 ^ width_of i) e ∙ mod-eq_of_lt l)

plus_is : (i : IntTy) (v : ℕ) → v < 2 ^ 128 → v < 2 ^ width_of i → constant_of (to_plus (number (typed_text i v))) ≡ word_of i v
unfolding to_plus
plus_is i v h l = ap (λ o. integer_of false o (number_value (number (typed_text i v)))) (typed_type i v h) ∙ ap (λ m. integer_of false (Some i) m) (typed_value i v h)
    ∙ ap (word_of i) (mod-eq_of_lt l)

minus_telling : (i : IntTy) (v : ℕ) → v < 2 ^ width_of i → is_signed i ≡ true → 2 ^ (width_of i - 1) ≤ v
    → Telling word_follow (1 ∷ 3 ∷ 7 ∷ []) FormedConstant constant_of ((codes "-" ++ decimal (2 ^ width_of i - v)) ++ codes "_" ++ name_of_int i) (word_of i v)
minus_telling i v h s g =
    let n = 2 ^ width_of i - v in
    let a = half i in let b = low i in
    let l : 2 ^ width_of i - v < 2 ^ 128 = omega (arith, some_number i) in
    let f : fits_minus i (2 ^ width_of i - v) ≡ true = or_right ((2 ^ width_of i - v) == 0) _ (and_from (is_signed i) (nat_le (2 ^ width_of i - v) (2 ^ (width_of i - 1))) s (le-leb (2 ^ width_of i - v) (2 ^ (width_of i - 1)) (omega arith))) in
    let e : 2 ^ width_of i - (2 ^ width_of i - v) ≡ v = omega arith in
    let t = number (typed_text i (2 ^ width_of i - v)) in record {
      lexemes = sign (codes "-") ∷ t ∷ [];
      value = to_minus t;
      same = minus_is i (2 ^ width_of i - v) v l h e;
      reads = λ k. inr (inl (t, refl, ((sign (codes "-"), t), refl, (t ∷ k, (dash_inside, refl), (minus_inside i (2 ^ width_of i - v) l f, refl)))));
      fits = fits_text (sym (append_assoc (codes "-" ++ decimal (2 ^ width_of i - v)) (codes "_") (name_of_int i))) (fits_wide (fits_join fits.dash (typed_fits i (2 ^ width_of i - v) l) refl) refl refl);
    }

plus_telling : (i : IntTy) (v : ℕ) → v < 2 ^ width_of i → fits_plus i v ≡ true → Telling word_follow (1 ∷ 3 ∷ 7 ∷ []) FormedConstant constant_of (decimal v ++ codes "_" ++ name_of_int i) (word_of i v)
plus_telling i v h f =
    let b = low i in
    let l : v < 2 ^ 128 = omega arith in
    let t = number (typed_text i v) in record {
      lexemes = t ∷ [];
      value = to_plus t;
      same = plus_is i v l h;
      reads = λ k. inl (t, refl, (plus_inside i v l f, refl));
      fits = fits_text (sym (append_assoc (decimal v) (codes "_") (name_of_int i))) (fits_wide (typed_fits i v l) refl refl);
    }

integer_by : (i : IntTy) (v : ℕ) → v < 2 ^ width_of i → (s g : Bool) → is_signed i ≡ s → nat_le (2 ^ (width_of i - 1)) v ≡ g
    → Telling word_follow (1 ∷ 3 ∷ 7 ∷ []) FormedConstant constant_of ((if (s && g) then codes "-" ++ decimal (2 ^ width_of i - v) else decimal v) ++ codes "_" ++ name_of_int i) (word_of i v)
integer_by i v h true true e f = minus_telling i v h e (leb-true (2 ^ (width_of i - 1)) v f)
integer_by i v h true false e f = plus_telling i v h (rw e (lt-ltb v (2 ^ (width_of i - 1)) (leb-false (2 ^ (width_of i - 1)) v f)))
integer_by i v h false g e f = plus_telling i v h (rw e (lt-ltb v (2 ^ width_of i) h))

integer_telling : (i : IntTy) (v : ℕ) → v < 2 ^ width_of i → ConstantTelling FormedConstant (word_of i v)
unfolding integer_text
integer_telling i v h = integer_by i v h (is_signed i) (nat_le (2 ^ (width_of i - 1)) v) refl refl

any_integer : (minus : Bool) (o : Option IntTy) (n : ℕ) → ConstantTelling FormedConstant (integer_of minus o n)
any_integer minus None n = unit_telling
any_integer false (Some i) n = integer_telling i (n % 2 ^ width_of i) (mod-lt n (some_number i))
any_integer true (Some i) n = integer_telling i ((2 ^ width_of i - n) % 2 ^ width_of i) (mod-lt (2 ^ width_of i - n) (some_number i))

-- Truths.

true_inside : inside class_of truths (word (codes "true")) ≡ true
unfolding inside class_of
true_inside = refl

false_inside : inside class_of truths (word (codes "false")) ≡ true
unfolding inside class_of
false_inside = refl

bool_telling : (b : Bool) → ConstantTelling FormedConstant (constant.Bool b)
unfolding to_bool
bool_telling true = record { lexemes = word (codes "true") ∷ []; value = to_bool (word (codes "true")); same = refl; reads = λ k. inr (inr (inl (word (codes "true"), refl, (true_inside, refl)))); fits = fits_wide (fits.written_word (codes "true") refl (omega arith) refl) refl refl }
bool_telling false = record { lexemes = word (codes "false") ∷ []; value = to_bool (word (codes "false")); same = refl; reads = λ k. inr (inr (inl (word (codes "false"), refl, (false_inside, refl)))); fits = fits_wide (fits.written_word (codes "false") refl (omega arith) refl) refl refl }

-- Texts.

abbrev text_token : List ℕ → Lexeme
text_token body = record { kind = kind.Text; text = quoted body; start = 0 }

quote_lead_is : (body behind : List ℕ) → lead (quoted body ++ behind) ≡ 7
unfolding lead quoted
quote_lead_is body behind = refl

text_inside : (body : List ℕ) → inside class_of (40 ∷ []) (text_token body) ≡ true
unfolding inside class_of
text_inside body = refl

quoted_is : (body : List ℕ) → quoted body ≡ 34 ∷ (body ++ 34 ∷ [])
unfolding quoted
quoted_is body = refl

text_fits : (body : List ℕ) → is_text_body false body ≡ true → Fits all_leads (7 ∷ []) (quoted body) (text_token body ∷ [])
text_fits body i = fits_token all_leads (7 ∷ []) (text_token body) (body, quoted_is body, i) (λ behind h. refl) (λ behind h. ap (has (7 ∷ [])) (quote_lead_is body behind))

text_body_is : (body : List ℕ) → text_body (text_token body) ≡ body
unfolding text_body quoted
text_body_is body = between_quotes body

token_body : (t : Lexeme) → has (40 ∷ []) (class_of t) ≡ true → IsToken t.kind t.text → is_text_body false (text_body t) ≡ true
unfolding text_body
token_body t h i = let j = subst (λ k. IsToken k t.text) (is_text_kind (40 ∷ []) t h refl) i in subst (λ x. is_text_body false x ≡ true) (sym (ap between j.1 ∙ between_quotes j.0)) j.2

pub text_told : Told all_leads (7 ∷ []) (Tok class_of (40 ∷ [])) (Tok class_of (40 ∷ [])) text_body quoted
unfolding inside
text_told = record {
  tell = λ ts rest t r p. let b = token_body t r.0 (subst ArePrintable r.1 p).0 in record {
    lexemes = text_token (text_body t) ∷ [];
    value = text_token (text_body t);
    same = text_body_is (text_body t);
    reads = λ k. (text_inside (text_body t), refl);
    fits = text_fits (text_body t) b;
  };
  left = λ ts rest t r p. past_token (40 ∷ []) t rest refl r.0 (subst ArePrintable r.1 p);
}

-- Characters.

abbrev char_token : ℕ → Lexeme
char_token n = record { kind = kind.Character; text = 39 ∷ (written (Code (digits 16 false n)) ++ 39 ∷ []); start = 0 }

char_text_is : (n : ℕ) → 39 ∷ (written (Code (digits 16 false n)) ++ 39 ∷ []) ≡ char_text n
unfolding char_text
char_text_is n = ap (λ x. 39 ∷ 92 ∷ 117 ∷ 123 ∷ x) (append_assoc (digits 16 false n) (125 ∷ []) (39 ∷ []))

char_inside : (n : ℕ) → inside class_of (41 ∷ []) (char_token n) ≡ true
unfolding inside class_of
char_inside n = refl

char_fits : (n : ℕ) → is_char n ≡ true → Fits all_leads (3 ∷ []) (char_text n) (char_token n ∷ [])
char_fits n h = fits_text (char_text_is n) (fits_token all_leads (3 ∷ []) (char_token n) (Code (digits 16 false n), refl, (char_code n h).0) (λ behind i. refl)
    (λ behind i. ap (has (3 ∷ [])) (quote_lead (39 ∷ (written (Code (digits 16 false n)) ++ 39 ∷ [])) behind (written (Code (digits 16 false n)) ++ 39 ∷ []) refl)))

char_value_is : (n : ℕ) → is_char n ≡ true → char_value (char_token n) ≡ n
unfolding char_value
char_value_is n h = printed_character n h

token_value : (t : Lexeme) → has (41 ∷ []) (class_of t) ≡ true → IsToken t.kind t.text → is_char (char_value t) ≡ true
unfolding char_value
token_value t h i = token_char t.text (subst (λ k. IsToken k t.text) (is_character_kind (41 ∷ []) t h refl) i)

char_told : Told all_leads (3 ∷ []) (Tok class_of (41 ∷ [])) (Tok class_of (41 ∷ [])) char_value char_text
unfolding inside
char_told = record {
  tell = λ ts rest t r p. let c = token_value t r.0 (subst ArePrintable r.1 p).0 in record {
    lexemes = char_token (char_value t) ∷ [];
    value = char_token (char_value t);
    same = char_value_is (char_value t) c;
    reads = λ k. (char_inside (char_value t), refl);
    fits = char_fits (char_value t) c;
  };
  left = λ ts rest t r p. past_token (41 ∷ []) t rest refl r.0 (subst ArePrintable r.1 p);
}

-- Constants.

abbrev ConstantsTold : Part Lexeme (Limited Constant) → Part Lexeme (Limited Constant) → Type 0
ConstantsTold R W = Told word_follow (1 ∷ 3 ∷ 7 ∷ []) R W constant_of constant_text

plus_told : ConstantsTold (Made to_plus (Tok class_of (36 ∷ 37 ∷ []))) FormedConstant
unfolding inside to_plus
plus_told = record {
  tell = λ ts rest a r p. subst (λ x. ConstantTelling FormedConstant (constant_of x)) r.1 (any_integer false (number_type r.0) (number_value r.0));
  left = λ ts rest a r p. past_token (36 ∷ 37 ∷ []) r.0 rest refl r.2.0 (subst ArePrintable r.2.1 p);
}

minus_told : ConstantsTold (Made to_minus (Past class_of (19 ∷ []) (Tok class_of (36 ∷ 38 ∷ [])))) FormedConstant
unfolding inside to_minus
minus_told = record {
  tell = λ ts rest a r p. subst (λ x. ConstantTelling FormedConstant (constant_of x)) r.1 (any_integer true (number_type r.0) (number_value r.0));
  left = λ ts rest a r p. let q = r.2 in past_token (36 ∷ 38 ∷ []) q.0.1 rest refl q.2.2.0 (subst ArePrintable q.2.2.1 (past_token (19 ∷ []) q.0.0 q.2.0 refl q.2.1.0 (subst ArePrintable q.2.1.1 p)));
}

bool_told : ConstantsTold (Made to_bool (Tok class_of truths)) FormedConstant
unfolding inside to_bool
bool_told = record {
  tell = λ ts rest a r p. subst (λ x. ConstantTelling FormedConstant (constant_of x)) r.1 (bool_telling (bytes_eq (codes "true") r.0.text));
  left = λ ts rest a r p. past_token truths r.0 rest refl r.2.0 (subst ArePrintable r.2.1 p);
}

unit_told : ConstantsTold (Made to_unit (Past class_of (1 ∷ []) (Tok class_of (2 ∷ [])))) FormedConstant
unfolding inside to_unit
unit_told = record {
  tell = λ ts rest a r p. subst (λ x. ConstantTelling FormedConstant (constant_of x)) r.1 unit_telling;
  left = λ ts rest a r p. let q = r.2 in past_token (2 ∷ []) q.0.1 rest refl q.2.2.0 (subst ArePrintable q.2.2.1 (past_token (1 ∷ []) q.0.0 q.2.0 refl q.2.1.0 (subst ArePrintable q.2.1.1 p)));
}

formed_told : ConstantsTold FormedConstant FormedConstant
unfolding to_text to_char
formed_told = told_both word_follow (1 ∷ 3 ∷ 7 ∷ []) plus_told (told_both word_follow (1 ∷ 3 ∷ 7 ∷ []) minus_told (told_both word_follow (1 ∷ 3 ∷ 7 ∷ []) bool_told
    (told_both word_follow (1 ∷ 3 ∷ 7 ∷ []) (told_into {V = FormedConstant} (λ ts rest a h. inr (inr (inr (inl h)))) (told_made to_char constant_of constant.Char constant_text (λ l. refl) (λ n. refl) char_told))
    (told_both word_follow (1 ∷ 3 ∷ 7 ∷ []) (told_into {V = FormedConstant} (λ ts rest a h. inr (inr (inr (inr (inl h))))) (told_made to_text constant_of constant.Text constant_text (λ l. refl) (λ n. refl) text_told))
    unit_told refl refl refl refl) refl refl refl refl) refl refl refl refl) refl refl refl refl) refl refl refl refl

-- T::MIN and T::MAX are numbers, and another path is a name.

abbrev IsBound : Constant → Type 0
IsBound c = (i : IntTy) × (v : ℕ) × (v < 2 ^ width_of i) × (c ≡ word_of i v)

least_is : (i : IntTy) (s : Bool) → is_signed i ≡ s → IsBound (constant.Integer i (least_word i))
least_is i true e = (i, 2 ^ (width_of i - 1), (let a = half i in let b = some_number i in omega arith), rw e refl)
least_is i false e = (i, 0, some_number i, rw e refl)

greatest_is : (i : IntTy) (s : Bool) → is_signed i ≡ s → IsBound (constant.Integer i (greatest_word i))
greatest_is i true e = (i, 2 ^ (width_of i - 1) - 1, (let a = half i in let b = some_number i in omega arith), rw e refl)
greatest_is i false e = (i, 2 ^ width_of i - 1, (let b = some_number i in omega arith), rw e refl)

bound_by : (i : IntTy) (more : Constant) (text : List ℕ) → (more ≡ constant.Named text) ⊎ IsBound more → (a b : Bool)
    → ((if a then constant.Integer i (least_word i) else (if b then constant.Integer i (greatest_word i) else more)) ≡ constant.Named text)
    ⊎ IsBound (if a then constant.Integer i (least_word i) else (if b then constant.Integer i (greatest_word i) else more))
bound_by i more text h true b = inr (least_is i (is_signed i) refl)
bound_by i more text h false true = inr (greatest_is i (is_signed i) refl)
bound_by i more text h false false = h

bound_cases : (is : List IntTy) (text : List ℕ) → (bound_or_name is text ≡ constant.Named text) ⊎ IsBound (bound_or_name is text)
bound_cases [] text = inl refl
bound_cases (i ∷ is) text = bound_by i (bound_or_name is text) text (bound_cases is text) (bytes_eq (name_of_int i ++ codes "::MIN") text) (bytes_eq (name_of_int i ++ codes "::MAX") text)

name_told : {T U : Family} → Retold T U → ConstantsTold (Made to_named (PathFrom truths constant_words T)) (ConstantOf U)
unfolding to_named
name_told {T} {U} q = record {
  tell = λ ts rest a r p. subst (λ x. ConstantTelling (ConstantOf U) (constant_of x)) r.1 (elim (bound_cases all_ints r.0.text) [
    | inl e ↦ let k = (path_from AsConstant truths constant_words constant_keys refl refl refl refl q).keep ts rest r.0 r.2 p in record {
      lexemes = k.lexemes;
      value = to_named r.0;
      same = refl;
      reads = λ x. inr (r.0, refl, k.reads x);
      fits = fits_text (ap constant_text (sym e)) (fits_wide k.spelt.fits refl refl);
    }
    | inr b ↦ let k = integer_telling b.0 b.1 b.2 in subst (ConstantTelling (ConstantOf U)) (sym b.3) (record { lexemes = k.lexemes; value = k.value; same = k.same; reads = λ x. inl (k.reads x); fits = k.fits })
  ]);
  left = λ ts rest a r p. ((path_from AsConstant truths constant_words constant_keys refl refl refl refl q).keep ts rest r.0 r.2 p).left;
}

pub constant_told : {T U : Family} → Retold T U → ConstantsTold (ConstantOf T) (ConstantOf U)
constant_told {T} {U} q = told_both word_follow (1 ∷ 3 ∷ 7 ∷ []) (told_into {V = ConstantOf U} (λ ts rest a h. inl h) formed_told) (name_told q) refl refl refl refl
