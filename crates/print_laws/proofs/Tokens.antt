-- Tokens that a grammar keeps, and their texts.
use Rattle.std.proofs.Common.{◌≡◌, inl, inr, ℕ, ◌-◌, ◌≤◌, Bool, true, false, ◌&&◌, not, ◌==◌, List, [], ◌∷◌, ◌++◌, codes, refl, sym, subst, arith}
use Rattle.std.proofs.lemmas.Bool.{and_parts, not-true, eqb-true}
use Rattle.std.specs.Str.{bytes_eq}
use Rattle.mir_lex.specs.declared.token.TokenKind.{TokenKind}
use Rattle.mir_lex.specs.declared.token.TokenKind.TheVariants as kind
use Rattle.mir_lex.specs.Tokens.{IsToken, ends}
use Rattle.grammar_words.specs.Grammar.{starts}
use Rattle.grammar_words.specs.Classes.{has, inside}
use Rattle.grammar_words.proofs.Starts.{one_of}
use Rattle.mir_grammar.specs.Lexemes.{Lexeme, class_of, sign, signs}
use Rattle.mir_grammar.specs.Types.{type_names}
use Rattle.canonical_text.specs.declared.positions.Position.{Position}
use Rattle.canonical_text.specs.declared.positions.Position.TheVariants.{AsType}
use Rattle.canonical_text.specs.Names.{path_written}
use Rattle.print_laws.specs.Printed.{ArePrintable}
use Rattle.print_laws.proofs.Leads.{lead, all_leads, word_follow, lifetime_follow, less_follow}
use Rattle.print_laws.proofs.Fits.{Spells, Fits, fits_wide, less, exclamation, word_fits}
use Rattle.print_laws.proofs.Bands.{all_of, is_word_kind, is_number_kind, is_lifetime_kind, is_segment_kind, is_sign_kind, nth, sign_text}
use Rattle.print_laws.proofs.Spelt.{all_fronts, path_follow, arguments_follow, Spelt, spelt_wide}
use Rattle.print_laws.proofs.NameTokens.{word_as_written, word_spelt, step_spelt, number_spelt, lifetime_spelt, segment_spelt, exclamation_spelt, less_spelt}

pub no_impl_word : (t : Lexeme) (more : List Lexeme) → ArePrintable (t ∷ more) → bytes_eq (codes "impl") t.text ≡ false
no_impl_word t more r = not-true (bytes_eq (codes "impl") t.text) (and_parts (not (bytes_eq (codes "impl") t.text)) (not (class_of t == 1 && starts (inside class_of (117 ∷ [])) more)) r.1).0

-- words of these classes
pub word_token : (set : List ℕ) → all_of 1 set ≡ true → (t : Lexeme) → has set (class_of t) ≡ true → (more : List Lexeme) → ArePrintable (t ∷ more) → Fits word_follow (1 ∷ []) t.text (t ∷ [])
word_token set a t h more r = word_fits t (is_word_kind set t h a) r.0 (no_impl_word t more r)

-- and so in names
pub word_name : (p : Position) (set : List ℕ) → all_of 1 set ≡ true → (t : Lexeme) → has set (class_of t) ≡ true → (more : List Lexeme) → ArePrintable (t ∷ more) → Spelt p AsType word_follow (1 ∷ []) t.text (t ∷ [])
word_name p set a t h more r = word_spelt p t (is_word_kind set t h a) r.0 (no_impl_word t more r)

pub step_name : (set : List ℕ) → all_of 1 set ≡ true → (t : Lexeme) → has set (class_of t) ≡ true → (more : List Lexeme) → ArePrintable (t ∷ more) → Spelt AsType AsType path_follow (5 ∷ []) (codes "::" ++ t.text) (sign (codes "::") ∷ t ∷ [])
step_name set a t h more r = step_spelt t (is_word_kind set t h a) r.0 (no_impl_word t more r)

pub number_name : (set : List ℕ) → all_of 2 set ≡ true → (t : Lexeme) → has set (class_of t) ≡ true → (more : List Lexeme) → ArePrintable (t ∷ more) → Spelt AsType AsType word_follow (1 ∷ []) t.text (t ∷ [])
number_name set a t h more r = number_spelt t (is_number_kind set t h a) r.0

pub segment_name : (p : Position) (t : Lexeme) → has (43 ∷ []) (class_of t) ≡ true → (more : List Lexeme) → ArePrintable (t ∷ more) → Spelt p AsType all_fronts (6 ∷ []) t.text (t ∷ [])
segment_name p t h more r = segment_spelt p t (is_segment_kind (43 ∷ []) t h refl) r.0

pub argument_name : (t : Lexeme) → has (35 ∷ 42 ∷ []) (class_of t) ≡ true → (more : List Lexeme) → ArePrintable (t ∷ more) → Spelt AsType AsType lifetime_follow (1 ∷ 3 ∷ []) t.text (t ∷ [])
argument_name t h more r = elim (one_of 35 (class_of t) (42 ∷ []) h) [
  | inl i ↦ spelt_wide (number_spelt t (is_number_kind (35 ∷ []) t i refl) r.0) refl refl
  | inr i ↦ spelt_wide (lifetime_spelt t (is_lifetime_kind (42 ∷ []) t i refl) r.0) refl refl
]

only_class : (m n : ℕ) → has (m ∷ []) n ≡ true → (c : Bool) → (m == n) ≡ c → n ≡ m
only_class m n h true e = sym (eqb-true m n e)
only_class m n h false e = absurd (cc (h, e))

-- a token of this kind and text
like : (s l : List ℕ) (k : TokenKind) (text : List ℕ) (start : ℕ) (t : Lexeme) → t.kind ≡ k → t.text ≡ text → Fits s l text (record { kind = k; text = text; start = start } ∷ []) → Fits s l t.text (t ∷ [])
like s l k text start t e f i = record {
  begins = λ behind h. subst (λ x. has l (lead (x ++ behind)) ≡ true) (sym f) (i.begins behind h);
  spells = λ behind more h p. subst (λ x. Spells (x ++ behind) (t ∷ more)) (sym f) (let q = i.spells behind more h p in
      (q.0, q.1, q.2, q.3, subst (λ x. q.1 ≡ x ++ q.2) (sym f) q.4, subst (λ x. IsToken x t.text) (sym e) (subst (λ x. IsToken k x) (sym f) q.5), subst (λ x. ends x t.text q.2 ≡ true) (sym e) (subst (λ x. ends k x q.2 ≡ true) (sym f) q.6), q.7));
}

sign_token : (n : ℕ) → all_of 0 (n ∷ []) ≡ true → 1 ≤ n → (t : Lexeme) → has (n ∷ []) (class_of t) ≡ true → (t.kind ≡ kind.Sign) × (t.text ≡ nth (n - 1) signs)
sign_token n a l t h = let k = is_sign_kind (n ∷ []) t h a in (k, sign_text t n k (only_class n (class_of t) h (n == class_of t) refl) l)

pub less_text : (t : Lexeme) → has (7 ∷ []) (class_of t) ≡ true → t.text ≡ codes "<"
less_text t h = (sign_token 7 refl (omega arith) t h).1

pub less_name : (p : Position) (t : Lexeme) → has (7 ∷ []) (class_of t) ≡ true → (more : List Lexeme) → ArePrintable (t ∷ more) → Spelt p AsType arguments_follow (6 ∷ []) t.text (t ∷ [])
less_name p t h more r = let k = sign_token 7 refl (omega arith) t h in less_spelt p t k.1 (like less_follow (7 ∷ []) kind.Sign (codes "<") 0 t k.0 k.1 less)

mark_token : (t : Lexeme) → has (17 ∷ []) (class_of t) ≡ true → (t.text ≡ codes "!") × Fits all_leads (7 ∷ []) t.text (t ∷ [])
mark_token t h = let k = sign_token 17 refl (omega arith) t h in (k.1, like all_leads (7 ∷ []) kind.Sign (codes "!") 0 t k.0 k.1 exclamation)

-- words of types, and !
pub plain_token : (t : Lexeme) → has (17 ∷ type_names) (class_of t) ≡ true → (more : List Lexeme) → ArePrintable (t ∷ more) → Fits word_follow (1 ∷ 7 ∷ []) t.text (t ∷ [])
plain_token t h more r = elim (one_of 17 (class_of t) type_names h) [
  | inl i ↦ fits_wide (mark_token t i).1 refl refl
  | inr i ↦ fits_wide (word_token type_names refl t i more r) refl refl
]

pub plain_name : (t : Lexeme) → has (17 ∷ type_names) (class_of t) ≡ true → (more : List Lexeme) → ArePrintable (t ∷ more) → Spelt AsType AsType word_follow (1 ∷ 7 ∷ []) t.text (t ∷ [])
plain_name t h more r = elim (one_of 17 (class_of t) type_names h) [
  | inl i ↦ let m = mark_token t i in spelt_wide (exclamation_spelt t m.0 m.1) refl refl
  | inr i ↦ spelt_wide (word_name AsType type_names refl t i more r) refl refl
]

mark_as_written : (text : List ℕ) → text ≡ codes "!" → path_written AsType text ≡ text
unfolding path_written
mark_as_written text e = subst (λ x. path_written AsType x ≡ x) (sym e) refl

pub plain_as_written : (t : Lexeme) → has (17 ∷ type_names) (class_of t) ≡ true → (more : List Lexeme) → ArePrintable (t ∷ more) → path_written AsType t.text ≡ t.text
plain_as_written t h more r = elim (one_of 17 (class_of t) type_names h) [
  | inl i ↦ mark_as_written t.text (mark_token t i).0
  | inr i ↦ word_as_written AsType t (is_word_kind type_names t i refl) r.0
]
