-- What a text is, as a relation and as a function.
use Rattle.std.proofs.Common.{◌≡◌, ℕ, suc, ◌+◌, ◌≤◌, le-leb, List, [], length, Option, Some, None, Result, Ok, Err, refl, sym, ◌∙◌, ap, subst}
use Rattle.mir_ir.specs.declared.types.Ty.{Ty}
use Rattle.mir_ir.specs.declared.places.PlaceExpr.{PlaceExpr}
use Rattle.mir_lex.specs.declared.token.Token.{Token}
use Rattle.mir_lex.specs.declared.front.Fault.{Fault}
use Rattle.mir_lex.specs.Lexing.{lexed}
use Rattle.mir_lex.proofs.LexLaws.{Answers, lexed_right, lexes_again}
use Rattle.grammar_words.specs.Grammar.{Part, At}
use Rattle.grammar_words.specs.Reading.{Outcome, Got, Fault as Missed}
use Rattle.grammar_words.specs.Coded.{counted}
use Rattle.grammar_words.specs.Classes.{inside}
use Rattle.grammar_words.specs.Exact.{whole, IsRight}
use Rattle.mir_grammar.specs.Lexemes.{Lexeme, class_of}
use Rattle.mir_grammar.specs.Types.{AnyType, any_word, FreePath, TypeLevel, type_at, free_path_at}
use Rattle.mir_grammar.specs.Places.{place_at, place_firsts, PlaceLevel}
use Rattle.mir_grammar.specs.Functions.{TypeText, PathText, PlaceText, TypeHole, type_answer, path_answer, place_answer}
use Rattle.mir_grammar.proofs.FunctionReady.{each_type_is_right, each_path_is_right, each_place_is_right}
use Rattle.mir_pieces.specs.Seen.{lexemes}
use Rattle.mir_text.specs.Answers.{HasTokens}
use Rattle.mir_text.specs.Coded.{ended, value_of}
use Rattle.mir_text.specs.Parts.{IsType, IsPath, IsPlace, IsFound, short_type, short_path, near_place}
use Rattle.mir_text.proofs.Ending.{settled, settled_whole, none_read}
use Rattle.mir_text.proofs.Answering.{same_tokens}
use Rattle.mir_text.proofs.Finding.{type_found, path_found, place_found}
use Rattle.part_texts.specs.Laws.{IsReadAsWritten}
use Rattle.part_texts.specs.Parts.{got, answered, bounded, type_in_text, path_in_text, place_in_text}

-- the value of an answer
got_settled : {A : Type 0} (p : Outcome Lexeme A) → got p ≡ value_of (settled p)
got_settled (Got a rest) = refl
got_settled (Missed why rest) = refl

got_value : {A : Type 0} (o : Outcome Lexeme A) → got (whole o) ≡ value_of (ended (counted o))
got_value o = got_settled (whole o) ∙ ap value_of (sym (settled_whole o))

tokens_of : (text : List ℕ) (ts : List Token) → lexed text ≡ Ok ts → HasTokens text (lexemes text ts)
tokens_of text ts e = record { tokens = ts; lexed = subst (Answers (length text) text) e (lexed_right text); seen = refl }

no_tokens : (text : List ℕ) (f : Fault) → lexed text ≡ Err f → (ts : List Lexeme) → HasTokens text ts → ⊥
no_tokens text f e ts h = let two : Ok h.tokens ≡ Err f = sym (lexes_again text h.tokens h.lexed) ∙ e in absurd (cc two)

type_by : (text : List ℕ) (r : Result (List Token) Fault) → lexed text ≡ r → IsFound (IsType text) (short_type (answered (type_answer 63) text r))
unfolding type_answer
type_by text (Ok ts) e =
    type_found text (lexemes text ts) (got (type_answer 63 (lexemes text ts))) _ (tokens_of text ts e) (got_value (type_at (length (lexemes text ts) + 1) 64 AnyType (lexemes text ts))) refl
type_by text (Err f) e = λ a h. no_tokens text f e h.tokens h.has

path_by : (text : List ℕ) (r : Result (List Token) Fault) → lexed text ≡ r → IsFound (IsPath text) (short_path (answered (path_answer 63) text r))
unfolding path_answer
path_by text (Ok ts) e =
    path_found text (lexemes text ts) (got (path_answer 63 (lexemes text ts))) _ (tokens_of text ts e)
    (got_value (free_path_at (length (lexemes text ts) + 1) any_word (type_at (length (lexemes text ts) + 1) 64) (lexemes text ts))) refl
path_by text (Err f) e = λ a h. no_tokens text f e h.tokens h.has

place_by : (text : List ℕ) (r : Result (List Token) Fault) → lexed text ≡ r → IsFound (IsPlace text) (near_place (answered (place_answer 63) text r))
unfolding place_answer
place_by text (Ok ts) e =
    place_found text (lexemes text ts) (got (place_answer 63 (lexemes text ts))) _ (tokens_of text ts e)
    (got_value (place_at (length (lexemes text ts) + 1) (type_at (length (lexemes text ts) + 1) 64 AnyType) 64 (lexemes text ts))) refl
place_by text (Err f) e = λ a h. no_tokens text f e h.tokens h.has

-- a whole text has at most one value
one_value : {A : Type 0} (R : ℕ → Part Lexeme A) (H : ℕ → List Lexeme → List Lexeme → Part Lexeme A) (n : ℕ) (ts : List Lexeme) (o : Outcome Lexeme A) → IsRight R H n ts o
    → (a b : A) → R n ts a [] → R n ts b [] → a ≡ b
one_value R H n ts (Got v rest) r a b h k = r.2 n a h ∙ sym (r.2 n b k)
one_value R H n ts (Missed why rest) r a b h k = absurd (none_read R H n ts (Missed why rest) r refl a h)

one_type : (text : List ℕ) (a b : Ty) → IsType text a → IsType text b → a ≡ b
one_type text a b h k =
    let reads : TypeText 63 k.tokens h.named [] = subst (λ u. TypeText 63 u h.named []) (same_tokens text h.tokens k.tokens h.has k.has) h.reads in
    h.is ∙ (ap (λ n. n.ty) (one_value TypeText (λ n x y. TypeLevel (TypeHole x y) (suc n) AnyType) 63 k.tokens (type_answer 63 k.tokens) (each_type_is_right 63 k.tokens) h.named k.named reads k.reads)
    ∙ sym k.is)

one_path : (text : List ℕ) (a b : List ℕ) → IsPath text a → IsPath text b → a ≡ b
one_path text a b h k =
    let reads : PathText 63 k.tokens h.named [] = subst (λ u. PathText 63 u h.named []) (same_tokens text h.tokens k.tokens h.has k.has) h.reads in
    h.is ∙ (ap (λ n. n.text) (one_value PathText (λ n x y. FreePath any_word (TypeLevel (TypeHole x y) (suc n))) 63 k.tokens (path_answer 63 k.tokens) (each_path_is_right 63 k.tokens) h.named k.named reads k.reads)
    ∙ sym k.is)

one_place : (text : List ℕ) (a b : PlaceExpr) → IsPlace text a → IsPlace text b → a ≡ b
one_place text a b h k =
    let reads : PlaceText 63 k.tokens h.placed [] = subst (λ u. PlaceText 63 u h.placed []) (same_tokens text h.tokens k.tokens h.has k.has) h.reads in
    h.is ∙ (ap (λ p. p.place) (one_value PlaceText (λ n x y. PlaceLevel (At (inside class_of place_firsts) x y) (TypeLevel (TypeHole x y) (suc n) AnyType) (suc n)) 63 k.tokens (place_answer 63 k.tokens)
    (each_place_is_right 63 k.tokens) h.placed k.placed reads k.reads)
    ∙ sym k.is)

module _ {A : Type 0} (Is : A → Type 0) where
  picked : ((a b : A) → Is a → Is b → a ≡ b) → (o : Option A) (a : A) → IsFound Is o → Is a → o ≡ Some a
  picked one None a f h = absurd (f a h)
  picked one (Some b) a f h = ap Some (one b a f h)

  missed : (o : Option A) → IsFound Is o → ((a : A) → Is a → ⊥) → o ≡ None
  missed None f h = refl
  missed (Some b) f h = absurd (h b f)

within : {A : Type 0} (text : List ℕ) (o : Option A) → length text ≤ 4194304 → bounded text o ≡ o
within text o h = rw (le-leb (length text) 4194304 h) refl

pub type_read : (text : List ℕ) (ty : Ty) → length text ≤ 4194304 → IsType text ty → type_in_text text ≡ Some ty
unfolding type_in_text
type_read text ty short h = within text _ short ∙ picked (IsType text) (one_type text) (short_type (answered (type_answer 63) text (lexed text))) ty (type_by text (lexed text) refl) h

pub type_missed : (text : List ℕ) → length text ≤ 4194304 → ((ty : Ty) → IsType text ty → ⊥) → type_in_text text ≡ None
unfolding type_in_text
type_missed text short h = within text _ short ∙ missed (IsType text) (short_type (answered (type_answer 63) text (lexed text))) (type_by text (lexed text) refl) h

pub path_read : (text path : List ℕ) → length text ≤ 4194304 → IsPath text path → path_in_text text ≡ Some path
unfolding path_in_text
path_read text path short h = within text _ short ∙ picked (IsPath text) (one_path text) (short_path (answered (path_answer 63) text (lexed text))) path (path_by text (lexed text) refl) h

pub path_missed : (text : List ℕ) → length text ≤ 4194304 → ((path : List ℕ) → IsPath text path → ⊥) → path_in_text text ≡ None
unfolding path_in_text
path_missed text short h = within text _ short ∙ missed (IsPath text) (short_path (answered (path_answer 63) text (lexed text))) (path_by text (lexed text) refl) h

pub place_read : (text : List ℕ) (place : PlaceExpr) → length text ≤ 4194304 → IsPlace text place → place_in_text text ≡ Some place
unfolding place_in_text
place_read text place short h = within text _ short ∙ picked (IsPlace text) (one_place text) (near_place (answered (place_answer 63) text (lexed text))) place (place_by text (lexed text) refl) h

pub place_missed : (text : List ℕ) → length text ≤ 4194304 → ((place : PlaceExpr) → IsPlace text place → ⊥) → place_in_text text ≡ None
unfolding place_in_text
place_missed text short h = within text _ short ∙ missed (IsPlace text) (near_place (answered (place_answer 63) text (lexed text))) (place_by text (lexed text) refl) h

type_written : (text : List ℕ) (ty : Ty) → length text ≤ 4194304 → type_in_text text ≡ Some ty → IsType text ty
unfolding type_in_text
type_written text ty short e =
    let o : Option Ty = short_type (answered (type_answer 63) text (lexed text)) in
    subst (λ (p : Option Ty). IsFound (IsType text) p) (sym (within text o short) ∙ e) (type_by text (lexed text) refl)

path_written : (text path : List ℕ) → length text ≤ 4194304 → path_in_text text ≡ Some path → IsPath text path
unfolding path_in_text
path_written text path short e =
    let o : Option (List ℕ) = short_path (answered (path_answer 63) text (lexed text)) in
    subst (λ (p : Option (List ℕ)). IsFound (IsPath text) p) (sym (within text o short) ∙ e) (path_by text (lexed text) refl)

place_written : (text : List ℕ) (place : PlaceExpr) → length text ≤ 4194304 → place_in_text text ≡ Some place → IsPlace text place
unfolding place_in_text
place_written text place short e =
    let o : Option PlaceExpr = near_place (answered (place_answer 63) text (lexed text)) in
    subst (λ (p : Option PlaceExpr). IsFound (IsPlace text) p) (sym (within text o short) ∙ e) (place_by text (lexed text) refl)

pub read_as_written : (text : List ℕ) → length text ≤ 4194304 → IsReadAsWritten text
read_as_written text short = record {
  types = λ ty. (type_written text ty short, type_read text ty short);
  paths = λ path. (path_written text path short, path_read text path short);
  places = λ place. (place_written text place short, place_read text place short);
}
