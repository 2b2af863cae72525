-- A grammar does not look at where its tokens start, but values may have it from them: from tokens that differ there alone a part reads a
-- value that is as the first one, by a relation of such values.
use Rattle.std.proofs.Common.{◌≡◌, inl, inr, ℕ, Bool, true, false, List, [], ◌∷◌, refl, sym, ◌∙◌, ap, subst}
use Rattle.std.specs.Bool.{⊤}
use Rattle.mir_lex.specs.declared.token.TokenKind.{TokenKind}
use Rattle.mir_lex.specs.declared.token.TokenKind.TheVariants as kind
use Rattle.grammar_words.specs.Grammar.{Part, Nothing, Then, Made, Either, Each, Never}
use Rattle.grammar_words.specs.Reading.{cons, first, second}
use Rattle.grammar_words.specs.Classes.{has, inside, Tok, Past, Ended, Perhaps_token, Listed, Trailed}
use Rattle.mir_grammar.specs.Lexemes.{Lexeme, class_of, kind_class, number_value, number_type}

-- the same kind and text
abbrev pub SameLexeme : Lexeme → Lexeme → Type 0
SameLexeme a b = (a.kind ≡ b.kind) × (a.text ≡ b.text)

abbrev pub SameLexemes : List Lexeme → List Lexeme → Type 0
SameLexemes [] [] = ⊤
SameLexemes [] (b ∷ bs) = ⊥
SameLexemes (a ∷ as_) [] = ⊥
SameLexemes (a ∷ as_) (b ∷ bs) = SameLexeme a b × SameLexemes as_ bs

class_by : (k : TokenKind) (a b : Lexeme) → a.text ≡ b.text → kind_class k a ≡ kind_class k b
unfolding number_value number_type
class_by kind.Word a b e = ap (λ t. kind_class kind.Word (record { kind = kind.Word; text = t; start = 0 })) e
class_by kind.Number a b e = ap (λ t. kind_class kind.Number (record { kind = kind.Number; text = t; start = 0 })) e
class_by kind.Text a b e = refl
class_by kind.Character a b e = refl
class_by kind.Lifetime a b e = refl
class_by kind.ImplSegment a b e = refl
class_by kind.Sign a b e = ap (λ t. kind_class kind.Sign (record { kind = kind.Sign; text = t; start = 0 })) e

pub same_class : (a b : Lexeme) → SameLexeme a b → class_of a ≡ class_of b
unfolding class_of
same_class a b h = class_by a.kind a b h.1 ∙ ap (λ k. kind_class k b) h.0

-- the reading of other tokens
pub record Copied {A : Type 0} (R : Part Lexeme A) (E : A → A → Type 0) (a : A) (us rest : List Lexeme) : Type 0 where
  pub value : A
  pub behind : List Lexeme
  pub reads : R us value behind
  pub same : SameLexemes rest behind
  pub equal : E a value

pub record Copies {A : Type 0} (R : Part Lexeme A) (E : A → A → Type 0) : Type 0 where
  pub copy : (ts us rest : List Lexeme) (a : A) → R ts a rest → SameLexemes ts us → Copied R E a us rest

tok_copied : (set : List ℕ) (us rest : List Lexeme) (t : Lexeme) → has set (class_of t) ≡ true → SameLexemes (t ∷ rest) us → Copied (Tok class_of set) SameLexeme t us rest
unfolding inside
tok_copied set [] rest t h s = absurd s
tok_copied set (u ∷ us) rest t h s = record { value = u; behind = us; reads = (subst (λ n. has set n ≡ true) (same_class t u s.0) h, refl); same = s.1; equal = s.0 }

pub copies_tok : (set : List ℕ) → Copies (Tok class_of set) SameLexeme
unfolding inside
copies_tok set = record { copy = λ ts us rest t h s. tok_copied set us rest t h.0 (subst (λ x. SameLexemes x us) h.1 s) }

pub copies_nothing : {A : Type 0} {E : A → A → Type 0} (a : A) → E a a → Copies (Nothing a) E
copies_nothing {A} {E} a e = record { copy = λ ts us rest v h s. record { value = a; behind = us; reads = (refl, refl); same = subst (λ x. SameLexemes x us) (sym h.1) s; equal = subst (λ x. E x a) (sym h.0) e } }

abbrev pub SamePair : {A B : Type 0} → (A → A → Type 0) → (B → B → Type 0) → A × B → A × B → Type 0
SamePair E F v w = E v.0 w.0 × F v.1 w.1

pub copies_then : {A B : Type 0} {R : Part Lexeme A} {Q : Part Lexeme B} {E : A → A → Type 0} {F : B → B → Type 0} → Copies R E → Copies Q F → Copies (Then R Q) (SamePair E F)
copies_then c d = record {
  copy = λ ts us rest v h s.
      let x = c.copy ts us h.0 v.0 h.1 s in
      let y = d.copy h.0 x.behind rest v.1 h.2 x.same in
      record { value = (x.value, y.value); behind = y.behind; reads = (x.behind, x.reads, y.reads); same = y.same; equal = (x.equal, y.equal) };
}

pub copies_made : {A B : Type 0} {R : Part Lexeme A} {E : A → A → Type 0} {F : B → B → Type 0} (f : A → B) → ((a b : A) → E a b → F (f a) (f b)) → Copies R E → Copies (Made f R) F
copies_made {A} {B} {R} {E} {F} f e c = record {
  copy = λ ts us rest v h s.
      let x = c.copy ts us rest h.0 h.2 s in
      record { value = f x.value; behind = x.behind; reads = (x.value, refl, x.reads); same = x.same; equal = subst (λ z. F z (f x.value)) h.1 (e h.0 x.value x.equal) };
}

pub copies_either : {A : Type 0} {R Q : Part Lexeme A} {E : A → A → Type 0} → Copies R E → Copies Q E → Copies (Either R Q) E
copies_either c d = record {
  copy = λ ts us rest v h s. elim h [
    | inl x ↦ let k = c.copy ts us rest v x s in record { value = k.value; behind = k.behind; reads = inl k.reads; same = k.same; equal = k.equal }
    | inr x ↦ let k = d.copy ts us rest v x s in record { value = k.value; behind = k.behind; reads = inr k.reads; same = k.same; equal = k.equal }
  ];
}

pub copies_never : {A : Type 0} {E : A → A → Type 0} → Copies Never E
copies_never = record { copy = λ ts us rest v h s. absurd h }

-- lists of values that are as those
abbrev pub SameEach : {A : Type 0} → (A → A → Type 0) → List A → List A → Type 0
SameEach E [] [] = ⊤
SameEach E [] (b ∷ bs) = ⊥
SameEach E (a ∷ as_) [] = ⊥
SameEach E (a ∷ as_) (b ∷ bs) = E a b × SameEach E as_ bs

pub copies_each : {A : Type 0} {R : Part Lexeme A} {E : A → A → Type 0} → Copies R E → Copies (Each R) (SameEach E)
copies_each {A} {R} {E} c = record { copy = each_copy }
  where
    each_copy : (ts us rest : List Lexeme) (as_ : List A) → Each R ts as_ rest → SameLexemes ts us → Copied (Each R) (SameEach E) as_ us rest
    each_copy ts us rest [] h s = record { value = []; behind = us; reads = refl; same = subst (λ x. SameLexemes x us) (sym h) s; equal = tt }
    each_copy ts us rest (a ∷ as_) h s =
        let x = c.copy ts us h.0 a h.1 s in
        let y = each_copy h.0 x.behind rest as_ h.2 x.same in
        record { value = x.value ∷ y.value; behind = y.behind; reads = (x.behind, x.reads, y.reads); same = y.same; equal = (x.equal, y.equal) }

pub copies_past : {A : Type 0} {R : Part Lexeme A} {E : A → A → Type 0} (set : List ℕ) → Copies R E → Copies (Past class_of set R) E
copies_past set c = copies_made second (λ a b h. h.1) (copies_then (copies_tok set) c)

pub copies_ended : {A : Type 0} {R : Part Lexeme A} {E : A → A → Type 0} (set : List ℕ) → Copies R E → Copies (Ended class_of R set) E
copies_ended set c = copies_made first (λ a b h. h.0) (copies_then c (copies_tok set))

pub copies_listed : {A : Type 0} {R : Part Lexeme A} {E : A → A → Type 0} (k : List ℕ) → Copies R E → Copies (Listed class_of k R) (SameEach E)
copies_listed k c = copies_either (copies_made cons (λ a b h. h) (copies_then c (copies_each (copies_past k c)))) (copies_nothing [] tt)

abbrev pub SameBool : Bool → Bool → Type 0
SameBool a b = a ≡ b

pub copies_perhaps_token : (set : List ℕ) → Copies (Perhaps_token class_of set) SameBool
copies_perhaps_token set = copies_either (copies_made (λ t. true) (λ a b h. refl) (copies_tok set)) (copies_nothing false refl)

pub copies_trailed : {A : Type 0} {R : Part Lexeme A} {E : A → A → Type 0} (k : List ℕ) → Copies R E → Copies (Trailed class_of k R) (SamePair (SameEach E) SameBool)
copies_trailed k c = copies_then (copies_listed k c) (copies_perhaps_token k)
