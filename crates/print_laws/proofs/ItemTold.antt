-- The texts of parameters and locals read again.
use Rattle.std.proofs.Common.{◌≡◌, ◌⊎◌, inl, inr, ℕ, zero, suc, ◌≤◌, ◌==◌, Bool, true, false, nat_le, if◌then◌else◌, List, [], ◌∷◌, ◌++◌, drop, codes, map, refl, sym, ◌∙◌, ap, subst, arith, append_assoc}
use Rattle.std.proofs.lemmas.Bool.{eqb-true, ne_eqb}
use Rattle.std.specs.Bool.{⊤}
use Rattle.std.specs.Fmt.{decimal}
use Rattle.grammar_words.specs.Grammar.{Part, Made, Each, Never}
use Rattle.grammar_words.specs.Classes.{has, inside, Tok, Past, Ended}
use Rattle.grammar_words.proofs.Sets.{apart}
use Rattle.mir_lex.specs.Bytes.{value_from}
use Rattle.mir_lex.specs.Views.{is_local, is_label, capped}
use Rattle.mir_ir.specs.declared.types.Ty.{Ty}
use Rattle.mir_ir.specs.declared.tree.Local.{Local}
use Rattle.mir_grammar.specs.declared.named.Named.{Named}
use Rattle.mir_grammar.specs.declared.trees.Declared.{Declared}
use Rattle.mir_grammar.specs.Lexemes.{Lexeme, class_of, kind_class, word_class, number_among, words, sign, word, local_number}
use Rattle.mir_grammar.specs.Places.{to_local_id, locals}
use Rattle.mir_grammar.specs.Functions.{debug_tokens, scope_tokens, to_declared, one_item, no_items, concat, to_items, Items, DeclaredPart, Let, Debug, ItemPart, ScopeName, inner_items, Scope, ScopeLevel, Parameters}
use Rattle.canonical_text.specs.Types.{type_text}
use Rattle.canonical_text.specs.Places.{local_text}
use Rattle.canonical_text.specs.Functions.{declared_text, more_parameters, parameters_text}
use Rattle.print_laws.specs.Printed.{ArePrintable}
use Rattle.raw_functions.specs.Meant.{local_of}
use Rattle.print_laws.proofs.Leads.{all_leads, word_follow}
use Rattle.print_laws.proofs.Fits as fits
use Rattle.print_laws.proofs.Fits.{Fits, fits_join, fits_none}
use Rattle.print_laws.proofs.Again.{past_token}
use Rattle.print_laws.proofs.Bands.{among_most, is_word_kind}
use Rattle.print_laws.proofs.TypeTexts.{opening_inside, closing_inside}
use Rattle.print_laws.proofs.PlaceTold.{TypesTold, colon_inside}
use Rattle.print_laws.proofs.Digits.{decimal_digits}
use Rattle.print_laws.proofs.Locals.{index_of, local_told, local_fits, local_value, capped_is_low}
use Rattle.print_laws.proofs.Told.{Telling, Told, told_made, told_then, told_past, told_ended, told_listed, Leaves, leaves_tok, leaves_made, leaves_then, leaves_either, leaves_nothing, leaves_each, leaves_past, leaves_ended, told_leaves}

abbrev local_made : ℕ × Ty → Local
local_made x = record { id = to_local_id x.0; ty = x.1 }

pub declared_text_is : (x : ℕ × Ty) → local_text x.0 ++ (codes ": " ++ type_text x.1) ≡ declared_text (local_made x)
unfolding declared_text
declared_text_is x = sym (append_assoc (local_text x.0) (codes ": ") (type_text x.1))

declared_told : (set : List ℕ) → Told word_follow (1 ∷ []) (Tok class_of set) (Tok class_of set) local_number local_text → {T U : Part Lexeme Named} → TypesTold T U → Told word_follow (1 ∷ []) (DeclaredPart set T) (DeclaredPart set U) local_of declared_text
unfolding to_declared
declared_told set c t = told_made to_declared local_of local_made declared_text (λ v. refl) declared_text_is (told_then c (told_past (11 ∷ []) (sign (codes ":")) colon_inside refl (fits.spaced fits.colon refl) t refl) refl)

-- Parameters: locals but _0.

zero_by : (z : Bool) → ◌≡◌ {A = ℕ} (if z then 30 else 31) 31 → z ≡ false
zero_by true e = absurd (omega (arith, e))
zero_by false e = refl

label_by : (label : Bool) (n : ℕ) → ((n ≡ 33) ⊎ (100 ≤ n)) → (if label then 32 else n) ≡ 31 → ⊥
label_by true n h e = absurd (omega (arith, e))
label_by false n h e = elim h [ inl i ↦ absurd (omega (arith, e, i)) | inr i ↦ absurd (omega (arith, e, i)) ]

not_zero_by : (local zero_ label : Bool) (n : ℕ) → ((n ≡ 33) ⊎ (100 ≤ n)) → (if local then (if zero_ then 30 else 31) else (if label then 32 else n)) ≡ 31 → zero_ ≡ false
not_zero_by true z label n h e = zero_by z e
not_zero_by false z label n h e = absurd (label_by label n h e)

among_or : (text : List ℕ) → (number_among words 100 text 33 ≡ 33) ⊎ (100 ≤ number_among words 100 text 33)
among_or text = elim (among_most words 100 text 33) [ inl h ↦ inl h | inr h ↦ inr h.0 ]

only_class : (m n : ℕ) → has (m ∷ []) n ≡ true → (c : Bool) → (m == n) ≡ c → n ≡ m
only_class m n h true e = sym (eqb-true m n e)
only_class m n h false e = absurd (cc (h, e))

capped_some : (n : ℕ) → (n == 0) ≡ false → 1 ≤ capped n
capped_some n h = some_by n (nat_le n 4095) refl h
  where
    some_by : (n : ℕ) (c : Bool) → nat_le n 4095 ≡ c → (n == 0) ≡ false → 1 ≤ (if c then n else 4096)
    some_by zero true e h = absurd cc
    some_by (suc n) true e h = omega arith
    some_by n false e h = omega arith

pub parameter_some : (t : Lexeme) → has (31 ∷ []) (class_of t) ≡ true → 1 ≤ local_number t
unfolding class_of local_number
parameter_some t h =
    let k = is_word_kind (31 ∷ []) t h refl in
    let e : word_class t.text ≡ 31 = ap (λ x. kind_class x t) (sym k) ∙ only_class 31 (class_of t) h (31 == class_of t) refl in
    capped_some (value_from 10 0 (drop 1 t.text)) (not_zero_by (is_local t.text) (value_from 10 0 (drop 1 t.text) == 0) (is_label t.text) (number_among words 100 t.text 33) (among_or t.text) e)

parameter_inside : (n : ℕ) → n ≤ 4096 → 1 ≤ n → inside class_of (31 ∷ []) (word (local_text n)) ≡ true
unfolding inside class_of local_text
parameter_inside n h s = rw ((index_of n h).index) (rw (ne_eqb (value_from 10 0 (decimal n)) 0 (λ e. let v = (decimal_digits n (omega arith)).value in absurd (omega arith))) refl)

parameter_told : Told word_follow (1 ∷ []) (Tok class_of (31 ∷ [])) (Tok class_of (31 ∷ [])) local_number local_text
unfolding inside local_number
parameter_told = record {
  tell = λ ts rest t r p. let n = local_number t in let h = capped_is_low (value_from 10 0 (drop 1 t.text)) in record {
    lexemes = word (local_text n) ∷ [];
    value = word (local_text n);
    same = local_value n h;
    reads = λ k. (parameter_inside n h (parameter_some t r.0), refl);
    fits = local_fits n h;
  };
  left = λ ts rest t r p. past_token (31 ∷ []) t rest refl r.0 (subst ArePrintable r.1 p);
}

pub parameters_told : {T U : Part Lexeme Named} → TypesTold T U → Told all_leads (7 ∷ []) (Parameters T) (Parameters U) (map local_of) (λ ls. codes "(" ++ (parameters_text ls ++ codes ")"))
parameters_told t = told_past (1 ∷ []) (sign (codes "(")) opening_inside refl fits.opening (told_ended (2 ∷ []) (sign (codes ")")) closing_inside refl fits.closing
    (told_listed (7 ∷ []) (1 ∷ 7 ∷ []) parameters_text more_parameters refl refl (λ x xs. refl) (λ x xs. refl) (declared_told (31 ∷ []) parameter_told t) refl refl refl refl refl) refl) refl

-- Locals.

abbrev pub LocalTold : Part Lexeme Named → Local → Type 0
LocalTold U l = Telling word_follow (1 ∷ []) (DeclaredPart locals U) local_of (declared_text l) l

abbrev pub AllTold : Part Lexeme Named → List Local → Type 0
AllTold U [] = ⊤
AllTold U (l ∷ ls) = LocalTold U l × AllTold U ls

all_append : (U : Part Lexeme Named) (a b : List Local) → AllTold U a → AllTold U b → AllTold U (a ++ b)
all_append U [] b h i = i
all_append U (l ∷ a) b h i = (h.0, all_append U a b h.1 i)

-- the items that a part declares
pub record Declares (U : Part Lexeme Named) (R : Part Lexeme Items) : Type 0 where
  pub told : (ts rest : List Lexeme) (ds : Items) → R ts ds rest → ArePrintable ts → AllTold U (map local_of ds)
  pub left : Leaves R

let_leaves : {T U : Part Lexeme Named} → TypesTold T U → Leaves (Let T)
let_leaves t = leaves_made one_item (leaves_past (176 ∷ []) refl (leaves_ended (10 ∷ []) refl (leaves_made (λ v. v.1) (leaves_then (leaves_either (leaves_made (λ x. true) (leaves_tok (117 ∷ []) refl)) (leaves_nothing false)) (told_leaves (declared_told locals local_told t))))))

let_told : {T U : Part Lexeme Named} → TypesTold T U → Declares U (Let T)
unfolding inside
let_told {T} {U} t = record {
  told = λ ts rest ds h r.
      let v = h.2 in let w = v.2.2 in let x = w.2.1 in
      let p = past_token (176 ∷ []) v.0.0 v.2.0 refl v.2.1.0 (subst ArePrintable v.2.1.1 r) in
      let q = (leaves_either (leaves_made (λ y. true) (leaves_tok (117 ∷ []) refl)) (leaves_nothing false)).leaves v.2.0 x.2.0 x.0.0 x.2.1 p in
      let k = (declared_told locals local_told t).tell x.2.0 w.2.0 x.0.1 x.2.2 q in
      subst (λ z. AllTold U (map local_of z)) h.1 (subst (λ (d : Declared). LocalTold U (local_of d)) (x.1 ∙ w.1 ∙ v.1) k, tt);
  left = let_leaves t;
}

-- any tokens up to one
each_any : (set : List ℕ) (ts rest as_ : List Lexeme) → Each (Tok class_of set) ts as_ rest → ArePrintable ts → ArePrintable rest
each_any set ts rest [] h r = subst ArePrintable (sym h) r
each_any set ts rest (a ∷ as_) h r = each_any set h.0 rest as_ h.2 ((subst ArePrintable h.1.1 r).2)

any_leaves : (set end : List ℕ) → apart end (12 ∷ []) ≡ true → Leaves (Ended class_of (Each (Tok class_of set)) end)
unfolding inside
any_leaves set end n = record { leaves = λ ts rest a h r. past_token end h.0.1 rest n h.2.2.0 (subst ArePrintable h.2.2.1 (each_any set ts h.2.0 h.0.0 h.2.1 r)) }

debug_told : (U : Part Lexeme Named) → Declares U Debug
debug_told U = record {
  told = λ ts rest ds h r. subst (λ z. AllTold U (map local_of z)) h.1 tt;
  left = leaves_made no_items (leaves_past (177 ∷ []) refl (any_leaves debug_tokens (10 ∷ []) refl));
}

item_told : {T U : Part Lexeme Named} {S : Part Lexeme Items} → TypesTold T U → Declares U S → Declares U (ItemPart T S)
item_told {T} {U} {S} t s = record {
  told = λ ts rest ds h r. elim h [ inl x ↦ (let_told t).told ts rest ds x r | inr x ↦ elim x [ inl y ↦ (debug_told U).told ts rest ds y r | inr y ↦ s.told ts rest ds y r ] ];
  left = leaves_either (let_leaves t) (leaves_either (debug_told U).left s.left);
}

map_append : (a b : Items) → map local_of (a ++ b) ≡ map local_of a ++ map local_of b
map_append [] b = refl
map_append (d ∷ a) b = ap (λ x. local_of d ∷ x) (map_append a b)

each_items : {U : Part Lexeme Named} {R : Part Lexeme Items} → Declares U R → (ts rest : List Lexeme) (dss : List Items) → Each R ts dss rest → ArePrintable ts → AllTold U (map local_of (concat dss))
each_items s ts rest [] h r = tt
each_items {U} s ts rest (ds ∷ dss) h r = subst (AllTold U) (sym (map_append ds (concat dss))) (all_append U (map local_of ds) (map local_of (concat dss)) (s.told ts h.0 ds h.1 r) (each_items s h.0 rest dss h.2 (s.left.leaves ts h.0 ds h.1 r)))

pub items_told : {U : Part Lexeme Named} {R : Part Lexeme Items} → Declares U R → Declares U (Made to_items (Each R))
unfolding to_items
items_told {U} s = record {
  told = λ ts rest ds h r. subst (λ z. AllTold U (map local_of z)) h.1 (each_items s ts rest h.0 h.2 r);
  left = leaves_made to_items (leaves_each s.left);
}

-- Declares through the words that a scope has
declares_past : {U : Part Lexeme Named} {R : Part Lexeme Items} (set : List ℕ) → apart set (12 ∷ []) ≡ true → Declares U R → Declares U (Past class_of set R)
unfolding inside
declares_past {U} set n s = record {
  told = λ ts rest ds h r. subst (λ z. AllTold U (map local_of z)) h.1 (s.told h.2.0 rest h.0.1 h.2.2 (past_token set h.0.0 h.2.0 n h.2.1.0 (subst ArePrintable h.2.1.1 r)));
  left = leaves_past set n s.left;
}

declares_ended : {U : Part Lexeme Named} {R : Part Lexeme Items} (set : List ℕ) → apart set (12 ∷ []) ≡ true → Declares U R → Declares U (Ended class_of R set)
declares_ended {U} set n s = record {
  told = λ ts rest ds h r. subst (λ z. AllTold U (map local_of z)) h.1 (s.told ts h.2.0 h.0.0 h.2.1 r);
  left = leaves_ended set n s.left;
}

name_leaves : Leaves ScopeName
name_leaves = leaves_either (leaves_past (1 ∷ []) refl (any_leaves scope_tokens (2 ∷ []) refl)) (leaves_nothing [])

scope_told : {T U : Part Lexeme Named} {S : Part Lexeme Items} → TypesTold T U → Declares U S → Declares U (Scope T S)
unfolding inside
scope_told {T} {U} {S} t s = let i = declares_past (5 ∷ []) refl (declares_ended (6 ∷ []) refl (items_told (item_told t s))) in record {
  told = λ ts rest ds h r.
      let v = h.2 in let w = v.2.2 in
      let p = past_token (178 ∷ []) v.0.0 v.2.0 refl v.2.1.0 (subst ArePrintable v.2.1.1 r) in
      let q = past_token (35 ∷ []) v.0.1.0 w.0 refl w.1.0 (subst ArePrintable w.1.1 p) in
      let o = name_leaves.leaves w.0 w.2.0 v.0.1.1.0 w.2.1 q in
      subst (λ z. AllTold U (map local_of z)) (ap inner_items v.1 ∙ h.1) (i.told w.2.0 rest v.0.1.1.1 w.2.2 o);
  left = leaves_made inner_items (leaves_past (178 ∷ []) refl (leaves_then (leaves_tok (35 ∷ []) refl) (leaves_then name_leaves i.left)));
}

scopes_told : {T U : Part Lexeme Named} → TypesTold T U → (d : ℕ) → Declares U (ScopeLevel Never T d)
scopes_told t zero = record { told = λ ts rest ds h r. absurd h; left = record { leaves = λ ts rest ds h r. absurd h } }
scopes_told t (suc d) = scope_told t (scopes_told t d)

pub all_items_told : {T U : Part Lexeme Named} → TypesTold T U → (d : ℕ) → Declares U (Made to_items (Each (ItemPart T (ScopeLevel Never T d))))
all_items_told t d = items_told (item_told t (scopes_told t d))
