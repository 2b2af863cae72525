-- Places and values do not look at where their tokens start.
use Rattle.std.proofs.Common.{◌≡◌, ℕ, zero, suc, List, [], ◌∷◌, refl, sym, ◌∙◌, ap}
use Rattle.grammar_words.specs.Grammar.{Part, Then, Made, Each, Never}
use Rattle.grammar_words.specs.Classes.{Tok, Past, Listed}
use Rattle.mir_lex.specs.declared.token.TokenKind.TheVariants as kind
use Rattle.mir_grammar.specs.declared.named.Named.{Named}
use Rattle.mir_grammar.specs.declared.trees.Placed.{Placed}
use Rattle.mir_grammar.specs.Lexemes.{Lexeme, class_of, local_number, number_value}
use Rattle.mir_grammar.specs.Types.{any_word}
use Rattle.mir_grammar.specs.Places.{to_local_place, to_stepped, to_place, to_deref, to_field, to_downcast, to_index, to_front, to_back, locals, NumberOf, Index, Selector, Base, PlaceLevel}
use Rattle.print_laws.proofs.Copies.{SameLexeme, SameEach, SamePair, Copies, copies_tok, copies_then, copies_made, copies_either, copies_never, copies_each, copies_past, copies_ended, copies_listed}
use Rattle.print_laws.proofs.TypeCopies.{unplaced, SameNamed}

abbrev pub Equal : {A : Type 0} → A → A → Type 0
Equal a b = a ≡ b

-- a lexeme by its text alone
abbrev pub lex : List ℕ → Lexeme
lex text = record { kind = kind.Word; text = text; start = 0 }

pub copies_as : {A : Type 0} {R : Part Lexeme A} {E F : A → A → Type 0} → ((a b : A) → E a b → F a b) → Copies R E → Copies R F
copies_as e c = record { copy = λ ts us rest a h s. let k = c.copy ts us rest a h s in record { value = k.value; behind = k.behind; reads = k.reads; same = k.same; equal = e a k.value k.equal } }

pub copies_text : {B : Type 0} (f : Lexeme → B) → ((l : Lexeme) → f l ≡ f (lex l.text)) → (set : List ℕ) → Copies (Made f (Tok class_of set)) Equal
copies_text f e set = copies_made f (λ a b h. e a ∙ ap (λ t. f (lex t)) h.1 ∙ sym (e b)) (copies_tok set)

pub copies_equal : {A B : Type 0} {R : Part Lexeme A} (f : A → B) → Copies R Equal → Copies (Made f R) Equal
copies_equal f c = copies_made f (λ a b h. ap f h) c

pair_equal : {A B : Type 0} (a b : A × B) → SamePair Equal Equal a b → a ≡ b
pair_equal a b h = ap (λ x. (x, a.1)) h.0 ∙ ap (λ y. (b.0, y)) h.1

pub copies_both : {A B : Type 0} {R : Part Lexeme A} {Q : Part Lexeme B} → Copies R Equal → Copies Q Equal → Copies (Then R Q) Equal
copies_both c d = copies_as pair_equal (copies_then c d)

list_equal : {A : Type 0} (as_ bs : List A) → SameEach Equal as_ bs → as_ ≡ bs
list_equal [] [] h = refl
list_equal [] (b ∷ bs) h = absurd h
list_equal (a ∷ as_) [] h = absurd h
list_equal (a ∷ as_) (b ∷ bs) h = ap (λ x. x ∷ as_) h.0 ∙ ap (λ x. b ∷ x) (list_equal as_ bs h.1)

pub copies_all : {A : Type 0} {R : Part Lexeme A} → Copies R Equal → Copies (Each R) Equal
copies_all c = copies_as list_equal (copies_each c)

pub copies_list : {A : Type 0} {R : Part Lexeme A} (k : List ℕ) → Copies R Equal → Copies (Listed class_of k R) Equal
copies_list k c = copies_as list_equal (copies_listed k c)

pub copies_lexeme : {B C : Type 0} {Q : Part Lexeme B} (f : Lexeme × B → C) → ((v : Lexeme × B) → f v ≡ f (lex v.0.text, v.1)) → (set : List ℕ) → Copies Q Equal → Copies (Made f (Then (Tok class_of set) Q)) Equal
copies_lexeme f e set c = copies_made f (λ a b h. e a ∙ ap (λ t. f (lex t, a.1)) h.0.1 ∙ ap (λ y. f (lex b.0.text, y)) h.1 ∙ sym (e b)) (copies_then (copies_tok set) c)

pub copies_lexemes : {C : Type 0} {Q : Part Lexeme Lexeme} (f : Lexeme × Lexeme → C) → ((v : Lexeme × Lexeme) → f v ≡ f (lex v.0.text, lex v.1.text)) → Copies Q SameLexeme → (set : List ℕ) → Copies (Made f (Then (Tok class_of set) Q)) Equal
copies_lexemes f e c set = copies_made f (λ a b h. e a ∙ ap (λ t. f (lex t, lex a.1.text)) h.0.1 ∙ ap (λ t. f (lex b.0.text, lex t)) h.1.1 ∙ sym (e b)) (copies_then (copies_tok set) c)

pub copies_typed : {C : Type 0} {Q : Part Lexeme Named} (f : Lexeme × Named → C) → ((v : Lexeme × Named) → f v ≡ f (lex v.0.text, unplaced v.1)) → (set : List ℕ) → Copies Q SameNamed → Copies (Made f (Then (Tok class_of set) Q)) Equal
copies_typed f e set c = copies_made f (λ a b h. e a ∙ ap (λ t. f (lex t, unplaced a.1)) h.0.1 ∙ ap (λ n. f (lex b.0.text, n)) h.1 ∙ sym (e b)) (copies_then (copies_tok set) c)

-- Places.

number_pair : Copies (Past class_of (119 ∷ []) (Tok class_of (35 ∷ []))) SameLexeme
number_pair = copies_past (119 ∷ []) (copies_tok (35 ∷ []))

front : Copies (Made to_front NumberOf) Equal
unfolding to_front number_value
front = copies_lexemes to_front (λ v. refl) number_pair (35 ∷ [])

back : Copies (Made to_back (Past class_of (19 ∷ []) NumberOf)) Equal
unfolding to_back number_value
back = copies_made to_back (λ a b h. ap (λ t. to_back (lex t, a.1)) h.0.1 ∙ ap (λ t. to_back (b.0, lex t)) h.1.1) (copies_past (19 ∷ []) (copies_then (copies_tok (35 ∷ [])) number_pair))

index : Copies Index Equal
unfolding to_index local_number
index = copies_past (3 ∷ []) (copies_ended (4 ∷ []) (copies_either (copies_text to_index (λ l. refl) locals) (copies_either front back)))

selector : {T : Part Lexeme Named} → Copies T SameNamed → Copies (Selector T) Equal
unfolding to_field to_downcast number_value
selector t = copies_either (copies_made to_field (λ a b h. ap (λ x. to_field (lex x, unplaced a.1)) h.0.1 ∙ ap (λ (n : Named). to_field (b.0, n)) h.1) (copies_past (13 ∷ []) (copies_then (copies_tok (35 ∷ [])) (copies_past (11 ∷ []) t))))
    (copies_made to_downcast (λ a b h. ap (λ x. to_downcast (lex x)) h.1) (copies_past (118 ∷ []) (copies_tok any_word)))

base : {T : Part Lexeme Named} {P : Part Lexeme Placed} → Copies T SameNamed → Copies P Equal → Copies (Base T P) Equal
unfolding to_local_place local_number
base t p = copies_either (copies_text to_local_place (λ l. refl) locals) (copies_past (1 ∷ []) (copies_ended (2 ∷ []) (copies_either (copies_equal to_deref (copies_past (16 ∷ []) p)) (copies_equal to_stepped (copies_both p (selector t))))))

pub places_copied : {T : Part Lexeme Named} → Copies T SameNamed → (d : ℕ) → Copies (PlaceLevel Never T d) Equal
places_copied t zero = copies_never
places_copied t (suc d) = copies_equal to_place (copies_both (base t (places_copied t d)) (copies_all index))
