-- What is found of a type, a path or a place is what the text is.
use Rattle.std.proofs.Common.{◌≡◌, ℕ, suc, ◌+◌, Bool, true, false, ◌||◌, if◌then◌else◌, List, [], length, Option, Some, None, MatchOption, Err, refl, sym, ◌∙◌, ap, subst}
use Rattle.mir_ir.specs.declared.types.Ty.{Ty}
use Rattle.mir_ir.specs.declared.places.PlaceExpr.{PlaceExpr}
use Rattle.mir_lex.specs.declared.fault.FaultKind.TheVariants as fault
use Rattle.mir_lex.specs.declared.fault.LexFault.{LexFault}
use Rattle.mir_lex.specs.declared.fault.LexFault.TheVariants as lex
use Rattle.mir_lex.specs.Tokens.{IsLexing}
use Rattle.mir_lex.proofs.Agreeing.{has_one_lexing}
use Rattle.grammar_words.specs.Grammar.{Part, At}
use Rattle.grammar_words.specs.Reading.{Outcome}
use Rattle.grammar_words.specs.Coded.{counted}
use Rattle.grammar_words.specs.Classes.{inside}
use Rattle.grammar_words.specs.Exact.{IsRight}
use Rattle.mir_grammar.specs.declared.limits.Passed.{Passed}
use Rattle.mir_grammar.specs.declared.named.Named.{Named}
use Rattle.mir_grammar.specs.declared.trees.Placed.{Placed}
use Rattle.mir_grammar.specs.Lexemes.{Lexeme, class_of}
use Rattle.mir_grammar.specs.Types.{AnyType, any_word, FreePath, TypeLevel, type_at, free_path_at}
use Rattle.mir_grammar.specs.Places.{none_passed, place_at, place_firsts, PlaceLevel}
use Rattle.mir_grammar.specs.Functions.{TypeText, PathText, PlaceText, TypeHole, type_answer, path_answer, place_answer}
use Rattle.mir_grammar.proofs.FunctionReady.{each_type_is_right, each_path_is_right, each_place_is_right}
use Rattle.mir_text.specs.Answers.{HasTokens}
use Rattle.mir_text.specs.Coded.{HasNoTokens, is_memory, ended, value_of}
use Rattle.mir_text.specs.Parts.{IsType, IsPath, IsPlace, IsFound, short_type, short_path, near_place}
use Rattle.mir_text.proofs.Ending.{settled, settled_whole, none_read, one_read}
use Rattle.mir_text.proofs.Answering.{same_tokens}

-- a fault of tokens leaves none
pub none_lexed : (text : List ℕ) (f : LexFault) → IsLexing text (Err f) → is_memory f ≡ false → HasNoTokens text
none_lexed text (lex.BadByte place) h m ts t = (has_one_lexing text).apart t.tokens fault.BadByte h.0 t.lexed h.1
none_lexed text (lex.OpenText place) h m ts t = (has_one_lexing text).apart t.tokens fault.OpenText h.0 t.lexed h.1
none_lexed text (lex.NumberTooWide place) h m ts t = (has_one_lexing text).apart t.tokens fault.NumberTooWide h.0 t.lexed h.1
none_lexed text (lex.NameTooLong place) h m ts t = (has_one_lexing text).apart t.tokens fault.NameTooLong h.0 t.lexed h.1
none_lexed text lex.Memory h m ts t = absurd (cc)

pub no_type : (text : List ℕ) → HasNoTokens text → IsFound (IsType text) None
no_type text h ty t = h t.tokens t.has

pub no_path : (text : List ℕ) → HasNoTokens text → IsFound (IsPath text) None
no_path text h path t = h t.tokens t.has

pub no_place : (text : List ℕ) → HasNoTokens text → IsFound (IsPlace text) None
no_place text h place t = h t.tokens t.has

-- what is made of the value that a right answer has, where the text is made of each value that is read
found_right : {A B : Type 0} (R : ℕ → Part Lexeme A) (H : ℕ → List Lexeme → List Lexeme → Part Lexeme A) (ts : List Lexeme) (o : Outcome Lexeme A) (f : Option A → Option B) (Is : B → Type 0) → IsRight R H 63 ts o
    → (f None ≡ None) → ((b : B) → Is b → (a : A) × R 63 ts a [] × (f (Some a) ≡ Some b)) → ((a : A) (b : B) → R 63 ts a [] → f (Some a) ≡ Some b → Is b)
    → (v : Option A) → value_of (settled o) ≡ v → (r : Option B) → r ≡ f v → IsFound Is r
found_right R H ts o f Is right none out made None e None q = λ b h. let m = out b h in none_read R H 63 ts o right e m.0 m.1
found_right R H ts o f Is right none out made None e (Some b) q = absurd (cc (q, none))
found_right R H ts o f Is right none out made (Some v) e None q = λ b h.
    let m = out b h in let w = (one_read R H 63 ts o v right e).1 m.0 m.1 in let t : f (Some v) ≡ Some b = ap (λ x. f (Some x)) (sym w) ∙ m.2 in absurd (cc)
found_right R H ts o f Is right none out made (Some v) e (Some b) q = made v b (one_read R H 63 ts o v right e).0 (sym q)

short_is : {B : Type 0} (long : Bool) (b c : B) → (if long then None else Some b) ≡ Some c → (long ≡ false) × (b ≡ c)
short_is true b c h = absurd (cc)
short_is false b c h = (refl, cc)

is_short : {B : Type 0} (long : Bool) (b c : B) → long ≡ false → c ≡ b → (if long then None else Some b) ≡ Some c
is_short true b c h e = absurd (cc)
is_short false b c h e = ap Some (sym e)

pub type_found : (text : List ℕ) (ts : List Lexeme) (v : Option Named) (r : Option Ty) → HasTokens text ts → v ≡ value_of (ended (counted (type_at (length ts + 1) 64 AnyType ts))) → r ≡ short_type v → IsFound (IsType text) r
unfolding type_answer
type_found text ts v r has e q = found_right TypeText (λ n x y. TypeLevel (TypeHole x y) (suc n) AnyType) ts (type_answer 63 ts) short_type (IsType text) (each_type_is_right 63 ts) refl
    (λ b h. (h.named, subst (λ u. TypeText 63 u h.named []) (same_tokens text h.tokens ts h.has has) h.reads, is_short h.named.is_long h.named.ty b h.short h.is))
    (λ a b h s. let p = short_is a.is_long a.ty b s in record { tokens = ts; has = has; named = a; reads = h; short = p.0; is = sym p.1 })
    v (sym (ap value_of (settled_whole (type_at (length ts + 1) 64 AnyType ts))) ∙ sym e) r q

pub path_found : (text : List ℕ) (ts : List Lexeme) (v : Option Named) (r : Option (List ℕ)) → HasTokens text ts → v ≡ value_of (ended (counted (free_path_at (length ts + 1) any_word (type_at (length ts + 1) 64) ts))) → r ≡ short_path v → IsFound (IsPath text) r
unfolding path_answer
path_found text ts v r has e q = found_right PathText (λ n x y. FreePath any_word (TypeLevel (TypeHole x y) (suc n))) ts (path_answer 63 ts) short_path (IsPath text) (each_path_is_right 63 ts) refl
    (λ b h. (h.named, subst (λ u. PathText 63 u h.named []) (same_tokens text h.tokens ts h.has has) h.reads, is_short h.named.is_long h.named.text b h.short h.is))
    (λ a b h s. let p = short_is a.is_long a.text b s in record { tokens = ts; has = has; named = a; reads = h; short = p.0; is = sym p.1 })
    v (sym (ap value_of (settled_whole (free_path_at (length ts + 1) any_word (type_at (length ts + 1) 64) ts))) ∙ sym e) r q

abbrev any_passed : Passed → Bool
any_passed p = p.locals || (p.blocks || p.names)

none_is : (l b n : Bool) → (l || (b || n)) ≡ false → (let p : Passed = record { locals = l; blocks = b; names = n } in p) ≡ none_passed
none_is true b n h = absurd (cc)
none_is false true n h = absurd (cc)
none_is false false true h = absurd (cc)
none_is false false false h = refl

pub place_found : (text : List ℕ) (ts : List Lexeme) (v : Option Placed) (r : Option PlaceExpr) → HasTokens text ts
    → v ≡ value_of (ended (counted (place_at (length ts + 1) (type_at (length ts + 1) 64 AnyType) 64 ts))) → r ≡ near_place v → IsFound (IsPlace text) r
unfolding place_answer
place_found text ts v r has e q =
    found_right PlaceText (λ n x y. PlaceLevel (At (inside class_of place_firsts) x y) (TypeLevel (TypeHole x y) (suc n) AnyType) (suc n)) ts (place_answer 63 ts) near_place (IsPlace text) (each_place_is_right 63 ts) refl
    (λ b h. (h.placed, subst (λ u. PlaceText 63 u h.placed []) (same_tokens text h.tokens ts h.has has) h.reads, is_short (any_passed h.placed.passed) h.placed.place b (ap any_passed h.within) h.is))
    (λ a b h s. let p = short_is (any_passed a.passed) a.place b s in record { tokens = ts; has = has; placed = a; reads = h; within = none_is a.passed.locals a.passed.blocks a.passed.names p.0; is = sym p.1 })
    v (sym (ap value_of (settled_whole (place_at (length ts + 1) (type_at (length ts + 1) 64 AnyType) 64 ts))) ∙ sym e) r q

pub when_none : {X : Type 0} (o : Option X) (P : Type 0) (Q : X → Type 0) → MatchOption o P Q → o ≡ None → P
when_none None P Q h e = h
when_none (Some x) P Q h e = absurd (cc)

pub when_some : {X : Type 0} (o : Option X) (x : X) (P : Type 0) (Q : X → Type 0) → MatchOption o P Q → o ≡ Some x → Q x
when_some None x P Q h e = absurd (cc)
when_some (Some y) x P Q h e = let q : y ≡ x = cc in subst Q q h
