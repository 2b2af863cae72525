-- The canonical text of each type and path reads again as it.
use Rattle.std.proofs.Common.{◌≡◌, inl, inr, ℕ, zero, suc, ◌≤◌, Bool, true, false, List, [], ◌∷◌, ◌++◌, codes, Option, Some, None, refl, sym, ◌∙◌, ap, subst, arith, append_assoc, append-nil}
use Rattle.std.specs.Str.{bytes_eq}
use Rattle.mir_lex.specs.declared.token.TokenKind.TheVariants as kind
use Rattle.mir_lex.specs.Tokens.{IsToken}
use Rattle.canonical_text.specs.declared.positions.Position.{Position}
use Rattle.canonical_text.specs.declared.positions.Position.TheVariants.{AsType, Alone}
use Rattle.canonical_text.specs.Names.{is_reserved}
use Rattle.grammar_words.specs.Grammar.{Part, Then, Made, Either, Each, Never}
use Rattle.grammar_words.specs.Reading.{first, second}
use Rattle.grammar_words.specs.Classes.{inside, Tok, Past, Ended, Perhaps_token, Listed}
use Rattle.mir_grammar.specs.Lexemes.{Lexeme, class_of, sign, word}
use Rattle.mir_grammar.specs.declared.named.Named.{Named}
use Rattle.mir_grammar.specs.declared.named.Argument.{Argument}
use Rattle.mir_grammar.specs.declared.named.Argument.TheVariants.{TypeArgument}
use Rattle.mir_grammar.specs.declared.named.Head.{Head}
use Rattle.mir_grammar.specs.declared.named.Step.{Step}
use Rattle.mir_grammar.specs.declared.named.Step.TheVariants.{StepArguments}
use Rattle.mir_grammar.specs.Names.{argument_text, list_text, texts_of, head_text, step_text, steps_text, to_path, to_keyed_path, to_mut_path, to_qualified, named_head, word_head, impl_head, word_step, impl_step, written_argument, to_plain, comma_where, named_text, to_tuple, to_array, mut_where, to_ref, pointer_word, to_raw, to_dyn}
use Rattle.mir_grammar.specs.Types.{Family, any_word, colons, type_names, type_words, path_words, path_words_but_mut, AnyType, NotMut, BehindMut, Qualified, ArgumentOf, Arguments, Segment, PathStep, KeyedSteps, FreeHead, FreePath, KeyedPath, PathFrom, QualifiedHead, PlainType, TupleType, ArrayEnd, ArrayType, unmarked, marked, RefTarget, RefType, RawType, Bound, DynType, FormedType, TypeBody, TypeLevel, NoType}
use Rattle.grammar_words.proofs.Sets.{apart}
use Rattle.print_laws.specs.Printed.{ArePrintable}
use Rattle.print_laws.proofs.Bands.{all_of, is_word_kind}
use Rattle.print_laws.proofs.Leads.{word_follow, lifetime_follow}
use Rattle.print_laws.proofs.Spelt.{all_fronts, path_follow, arguments_follow, Spelt, spelt_join, spelt_text, spelt_wide}
use Rattle.print_laws.proofs.NameTokens as name
use Rattle.print_laws.proofs.NameTokens.{word_spelt, free_word_spelt, reserved_spelt}
use Rattle.print_laws.proofs.Reserved.{AreKeys, type_keys, reserved_text}
use Rattle.print_laws.proofs.Again.{past_token, past_colons, Kept, Again, again_tok, again_made, again_into, again_then, again_either, again_both, again_past, again_colons, again_no_colons, again_ended, again_each, again_listed, again_trailed, again_mark, again_tok_as, again_from, past_either, again_past_made, again_past_either}
use Rattle.print_laws.proofs.Tokens.{no_impl_word, word_name, step_name, number_name, segment_name, argument_name, less_name, less_text, plain_name}

-- what T reads has a text that U reads as the same
pub record Retold (T U : Family) : Type 0 where
  pub any : Again AsType word_follow (1 ∷ 6 ∷ 7 ∷ []) (T AnyType) (U AnyType) named_text
  pub not_mut : Again AsType word_follow (1 ∷ 6 ∷ 7 ∷ []) (T NotMut) (U NotMut) named_text
  pub behind_mut : Again AsType word_follow (1 ∷ []) (Past class_of (117 ∷ []) (T BehindMut)) (Past class_of (117 ∷ []) (U BehindMut)) named_text
  pub qualified : (p : Position) → Again p all_fronts (6 ∷ []) (T Qualified) (U Qualified) named_text

argument : {T U : Family} → Retold T U → Again AsType lifetime_follow (1 ∷ 3 ∷ 6 ∷ 7 ∷ []) (ArgumentOf T) (ArgumentOf U) argument_text
argument r = again_either lifetime_follow (1 ∷ 3 ∷ 6 ∷ 7 ∷ []) (again_made written_argument argument_text (λ t. refl) (again_tok lifetime_follow (1 ∷ 3 ∷ []) (35 ∷ 42 ∷ []) refl argument_name))
    (again_made TypeArgument argument_text (λ n. refl) r.any) refl refl refl refl

abbrev arguments_text : List Argument → List ℕ
arguments_text as_ = codes "<" ++ (list_text (texts_of argument_text as_) ++ codes ">")

pub less_inside : inside class_of (7 ∷ []) (sign (codes "<")) ≡ true
unfolding inside class_of
less_inside = refl

pub greater_inside : inside class_of (8 ∷ []) (sign (codes ">")) ≡ true
unfolding inside class_of
greater_inside = refl

pub colons_inside : inside class_of (12 ∷ []) (sign (codes "::")) ≡ true
unfolding inside class_of
colons_inside = refl

-- what stands behind <
abbrev Enclosed : Family → Part Lexeme (List Argument)
Enclosed T = Ended class_of (Listed class_of (9 ∷ []) (ArgumentOf T)) (8 ∷ [])

abbrev enclosed_text : List Argument → List ℕ
enclosed_text as_ = list_text (texts_of argument_text as_) ++ codes ">"

enclosed : {T U : Family} → Retold T U → Again AsType all_fronts (0 ∷ 1 ∷ 3 ∷ 4 ∷ 6 ∷ 7 ∷ []) (Enclosed T) (Enclosed U) enclosed_text
enclosed r = again_ended (8 ∷ []) (sign (codes ">")) greater_inside refl name.greater (again_listed (0 ∷ 4 ∷ []) (0 ∷ 1 ∷ 3 ∷ 4 ∷ 6 ∷ 7 ∷ []) (argument r) refl refl refl refl refl refl) refl

arguments : {T U : Family} → Retold T U → Again AsType all_fronts (6 ∷ []) (Arguments T) (Arguments U) arguments_text
arguments r = again_past (7 ∷ []) (sign (codes "<")) less_inside refl (name.less AsType) (enclosed r) refl

pub mut_inside : inside class_of (117 ∷ []) (word (codes "mut")) ≡ true
unfolding inside class_of
mut_inside = refl

pub const_inside : inside class_of (116 ∷ []) (word (codes "const")) ≡ true
unfolding inside class_of
const_inside = refl

pub dyn_inside : inside class_of (115 ∷ []) (word (codes "dyn")) ≡ true
unfolding inside class_of
dyn_inside = refl

pub as_inside : inside class_of (118 ∷ []) (word (codes "as")) ≡ true
unfolding inside class_of
as_inside = refl

pub opening_inside : inside class_of (1 ∷ []) (sign (codes "(")) ≡ true
unfolding inside class_of
opening_inside = refl

pub closing_inside : inside class_of (2 ∷ []) (sign (codes ")")) ≡ true
unfolding inside class_of
closing_inside = refl

pub bracket_inside : inside class_of (3 ∷ []) (sign (codes "[")) ≡ true
unfolding inside class_of
bracket_inside = refl

pub bracket_end_inside : inside class_of (4 ∷ []) (sign (codes "]")) ≡ true
unfolding inside class_of
bracket_end_inside = refl

pub semicolon_inside : inside class_of (10 ∷ []) (sign (codes ";")) ≡ true
unfolding inside class_of
semicolon_inside = refl

pub ampersand_inside : inside class_of (15 ∷ []) (sign (codes "&")) ≡ true
unfolding inside class_of
ampersand_inside = refl

pub star_inside : inside class_of (16 ∷ []) (sign (codes "*")) ≡ true
unfolding inside class_of
star_inside = refl

-- Steps of paths.

abbrev WordBehind : Part Lexeme Step
WordBehind = Past class_of colons (Made word_step (Tok class_of any_word))

abbrev ImplBehind : Part Lexeme Step
ImplBehind = Past class_of colons (Made impl_step (Tok class_of (43 ∷ [])))

abbrev ArgumentsBehind : Family → Part Lexeme Step
ArgumentsBehind T = Past class_of colons (Made StepArguments (Arguments T))

split_segment : (T : Family) (ts rest : List Lexeme) (s : Step) → Past class_of colons (Segment T) ts s rest → Either WordBehind (Either ImplBehind (ArgumentsBehind T)) ts s rest
split_segment T ts rest s h = elim (past_either colons (Made word_step (Tok class_of any_word)) (Either (Made impl_step (Tok class_of (43 ∷ []))) (Made StepArguments (Arguments T))) ts rest s h) [
  | inl x ↦ inl x
  | inr x ↦ inr (past_either colons (Made impl_step (Tok class_of (43 ∷ []))) (Made StepArguments (Arguments T)) ts rest s x)
]

into_word : (U : Family) (ts rest : List Lexeme) (s : Step) → WordBehind ts s rest → Past class_of colons (Segment U) ts s rest
into_word U ts rest s h = (h.0, h.1, (h.2.0, h.2.1, inl h.2.2))

into_impl : (U : Family) (ts rest : List Lexeme) (s : Step) → ImplBehind ts s rest → Past class_of colons (Segment U) ts s rest
into_impl U ts rest s h = (h.0, h.1, (h.2.0, h.2.1, inr (inl h.2.2)))

word_behind : Again AsType path_follow (5 ∷ []) WordBehind WordBehind step_text
unfolding inside
word_behind = record {
  keep = λ ts rest s h r.
      let t = h.2.2.0 in
      let q = subst ArePrintable h.2.2.2.1 (past_colons h.0.0 h.2.0 h.2.1.0 (subst ArePrintable h.2.1.1 r)) in
      subst (λ a. Kept AsType path_follow (5 ∷ []) WordBehind (step_text a) a rest) (h.2.2.1 ∙ h.1) (record {
        lexemes = sign (codes "::") ∷ t ∷ [];
        reads = λ k. ((sign (codes "::"), word_step t), refl, (t ∷ k, (colons_inside, refl), (t, refl, (h.2.2.2.0, refl))));
        spelt = step_name any_word refl t h.2.2.2.0 rest q;
        left = past_token any_word t rest refl h.2.2.2.0 q;
      });
}

impl_behind : Again AsType all_fronts (5 ∷ []) ImplBehind ImplBehind step_text
impl_behind = again_past_made colons (Tok class_of (43 ∷ [])) (Tok class_of (43 ∷ [])) impl_step (again_made impl_step step_text (λ t. refl) (again_colons (sign (codes "::")) colons_inside name.colons (again_tok all_fronts (6 ∷ []) (43 ∷ []) refl (segment_name Alone)) refl))

-- a word or an impl segment behind ::
named_behind : (U : Family) → Again AsType path_follow (5 ∷ []) (Either WordBehind ImplBehind) (Past class_of colons (Segment U)) step_text
named_behind U = again_both path_follow (5 ∷ []) (again_into (into_word U) word_behind) (again_into (into_impl U) impl_behind) refl refl refl refl

step_arguments : {T U : Family} → Retold T U → Again AsType all_fronts (6 ∷ []) (Made StepArguments (Arguments T)) (PathStep U) step_text
step_arguments {T} {U} r = again_into (λ ts rest s h. inr h) (again_made StepArguments step_text (λ as_. refl) (arguments r))

split_again : (T : Family) (ts rest : List Lexeme) (s : Step) → Past class_of colons (Segment T) ts s rest → Either (Either WordBehind ImplBehind) (ArgumentsBehind T) ts s rest
split_again T ts rest s h = elim (split_segment T ts rest s h) [ inl x ↦ inl (inl x) | inr x ↦ elim x [ inl y ↦ inl (inr y) | inr y ↦ inr y ] ]

segment_behind : {T U : Family} → Retold T U → Again AsType path_follow (5 ∷ 6 ∷ []) (Past class_of colons (Segment T)) (PathStep U) step_text
segment_behind {T} {U} r = again_from (λ ts rest s p. split_again T ts rest s)
    (again_both path_follow (5 ∷ 6 ∷ []) (again_into {W = Past class_of colons (Segment U)} (λ ts rest s h. inl h) (named_behind U)) (again_no_colons (step_arguments r)) refl refl refl refl)

pub path_step : {T U : Family} → Retold T U → Again AsType path_follow (5 ∷ 6 ∷ []) (PathStep T) (PathStep U) step_text
path_step r = again_both path_follow (5 ∷ 6 ∷ []) (segment_behind r) (step_arguments r) refl refl refl refl

path_steps : {T U : Family} → Retold T U → Again AsType path_follow path_follow (Each (PathStep T)) (Each (PathStep U)) steps_text
path_steps r = again_each path_follow path_follow steps_text refl (λ s ss. refl) (path_step r) refl refl refl refl

-- A word and the steps behind it. Where the word is reserved, the first of these is written with :: before it.

-- the steps behind a word, of which the first is read behind ::
record Behind (p : Position) (U : Family) (t : Lexeme) (s : Step) (more : List Step) (rest : List Lexeme) : Type 0 where
  pub lexemes : List Lexeme
  pub reads : (k : List Lexeme) → Then (Past class_of colons (Segment U)) (Each (PathStep U)) (lexemes ++ k) (s, more) k
  pub spelt : Spelt p AsType word_follow (1 ∷ []) (t.text ++ steps_text (s ∷ more)) (t ∷ lexemes)
  pub left : ArePrintable rest

named_first : {T U : Family} (p : Position) → Retold T U → (t : Lexeme) → Spelt p AsType word_follow (1 ∷ []) t.text (t ∷ []) → (ts mid rest : List Lexeme) (s : Step) (more : List Step) → Either WordBehind ImplBehind ts s mid → Each (PathStep T) mid more rest → ArePrintable ts
    → Behind p U t s more rest
named_first {T} {U} q r t w ts mid rest s more h e p = let k = (again_then (named_behind U) (path_steps r) refl).keep ts rest (s, more) (mid, h, e) p in
    record { lexemes = k.lexemes; reads = k.reads; spelt = spelt_wide (spelt_join w k.spelt refl) refl refl; left = k.left }

arguments_read : (U : Family) (xs : List Lexeme) (as_ : List Argument) (more : List Step) → ((k : List Lexeme) → Then (Enclosed U) (Each (PathStep U)) (xs ++ k) (as_, more) k) → (k : List Lexeme)
    → Then (Past class_of colons (Segment U)) (Each (PathStep U)) ((sign (codes "::") ∷ sign (codes "<") ∷ xs) ++ k) (StepArguments as_, more) k
arguments_read U xs as_ more f k = let z = f k in (
  z.0,
  ((sign (codes "::"), StepArguments as_), refl, (sign (codes "<") ∷ (xs ++ k), (colons_inside, refl), inr (inr (as_, refl, ((sign (codes "<"), as_), refl, (xs ++ k, (less_inside, refl), z.1)))))),
  z.2,
)

arguments_first : {T U : Family} (p : Position) → Retold T U → (t : Lexeme) → t.kind ≡ kind.Word → IsToken t.kind t.text → bytes_eq (codes "impl") t.text ≡ false → is_reserved p t.text ≡ true
    → (ts mid rest : List Lexeme) (as_ : List Argument) (more : List Step) → Arguments T ts as_ mid → Each (PathStep T) mid more rest → ArePrintable ts → Behind p U t (StepArguments as_) more rest
unfolding inside
arguments_first {T} {U} q r t w i n d ts mid rest as_ more h e p =
    let o = past_token (7 ∷ []) h.0.0 h.2.0 refl h.2.1.0 (subst ArePrintable h.2.1.1 p) in
    let k = (again_then (enclosed r) (path_steps r) refl).keep h.2.0 rest (as_, more) (mid, subst (λ x. Enclosed T h.2.0 x mid) h.1 h.2.2, e) o in
    record { lexemes = sign (codes "::") ∷ sign (codes "<") ∷ k.lexemes; reads = arguments_read U k.lexemes as_ more k.reads; spelt = spelt_wide (reserved_spelt q t w i n d k.spelt refl) refl refl; left = k.left }

-- behind a reserved word
reserved_behind : {T U : Family} (p : Position) → Retold T U → (t : Lexeme) → t.kind ≡ kind.Word → IsToken t.kind t.text → bytes_eq (codes "impl") t.text ≡ false → is_reserved p t.text ≡ true
    → (ts mid rest : List Lexeme) (s : Step) (more : List Step) → PathStep T ts s mid → Each (PathStep T) mid more rest → ArePrintable ts → Behind p U t s more rest
unfolding inside
reserved_behind {T} {U} q r t w i n d ts mid rest s more (inl h) e p = elim (split_again T ts mid s h) [
  | inl x ↦ named_first q r t (word_spelt q t w i n) ts mid rest s more x e p
  | inr x ↦ let a = x.2.2 in
      subst (λ z. Behind q U t z more rest) (a.1 ∙ x.1) (arguments_first q r t w i n d x.2.0 mid rest a.0 more a.2 e (past_colons x.0.0 x.2.0 x.2.1.0 (subst ArePrintable x.2.1.1 p)))
]
reserved_behind {T} {U} q r t w i n d ts mid rest s more (inr h) e p = subst (λ z. Behind q U t z more rest) h.1 (arguments_first q r t w i n d ts mid rest h.0 more h.2 e p)

-- behind any word
record Steps (p : Position) (U : Family) (t : Lexeme) (ss : List Step) (rest : List Lexeme) : Type 0 where
  pub lexemes : List Lexeme
  pub reads : (k : List Lexeme) → Each (PathStep U) (lexemes ++ k) ss k
  pub spelt : Spelt p AsType word_follow (1 ∷ []) (t.text ++ steps_text ss) (t ∷ lexemes)
  pub left : ArePrintable rest

steps_behind : {T U : Family} (p : Position) → Retold T U → (t : Lexeme) → t.kind ≡ kind.Word → IsToken t.kind t.text → bytes_eq (codes "impl") t.text ≡ false → (c : Bool) → is_reserved p t.text ≡ c
    → (mid rest : List Lexeme) (ss : List Step) → Each (PathStep T) mid ss rest → ArePrintable mid → Steps p U t ss rest
steps_behind q r t w i n false d mid rest ss e p = let k = (path_steps r).keep mid rest ss e p in
    record { lexemes = k.lexemes; reads = k.reads; spelt = spelt_wide (spelt_join (free_word_spelt q t w i n d) k.spelt refl) refl refl; left = k.left }
steps_behind q r t w i n true d mid rest [] e p = record { lexemes = []; reads = λ k. refl; spelt = spelt_text (sym (append-nil t.text)) (word_spelt q t w i n); left = subst ArePrintable (sym e) p }
steps_behind {T} {U} q r t w i n true d mid rest (s ∷ more) e p = let k = reserved_behind q r t w i n d mid e.0 rest s more e.1 e.2 p in
    record { lexemes = k.lexemes; reads = λ x. let z = k.reads x in (z.0, inl z.1, z.2); spelt = k.spelt; left = k.left }

-- Paths.

abbrev OtherHead : Family → Part Lexeme Head
OtherHead T = Either (Made impl_head (Tok class_of (43 ∷ []))) (Made named_head (T Qualified))

other_head : {T U : Family} (p : Position) → Retold T U → Again p all_fronts (6 ∷ []) (OtherHead T) (OtherHead U) head_text
other_head p r = again_either all_fronts (6 ∷ []) (again_made impl_head head_text (λ t. refl) (again_tok all_fronts (6 ∷ []) (43 ∷ []) refl (segment_name p))) (again_made named_head head_text (λ m. refl) (r.qualified p)) refl refl refl refl

pub free_head : {T U : Family} (p : Position) (words : List ℕ) → all_of 1 words ≡ true → apart words (12 ∷ []) ≡ true → Retold T U → Again p word_follow (1 ∷ 6 ∷ []) (FreeHead words T) (FreeHead words U) head_text
free_head p words a n r = again_either word_follow (1 ∷ 6 ∷ []) (again_made word_head head_text (λ t. refl) (again_tok word_follow (1 ∷ []) words n (word_name p words a))) (other_head p r) refl refl refl refl

abbrev WordPath : List ℕ → Family → Part Lexeme Named
WordPath words T = Made to_path (Then (Made word_head (Tok class_of words)) (Each (PathStep T)))

abbrev OtherPath : Family → Part Lexeme Named
OtherPath T = Made to_path (Then (OtherHead T) (Each (PathStep T)))

word_path : {T U : Family} (p : Position) (words : List ℕ) → all_of 1 words ≡ true → apart words (12 ∷ []) ≡ true → Retold T U → Again p word_follow (1 ∷ []) (WordPath words T) (FreePath words U) named_text
unfolding inside to_path
word_path {T} {U} g words a n r = record {
  keep = λ ts rest m h p.
      let x = h.2.1 in let t = x.0 in
      let o = subst ArePrintable x.2.1 p in
      let q = past_token words t h.2.0 n x.2.0 o in
      let k = steps_behind {U = U} g r t (is_word_kind words t x.2.0 a) o.0 (no_impl_word t h.2.0 o) (is_reserved g t.text) refl h.2.0 rest h.0.1 h.2.2 q in record {
        lexemes = t ∷ k.lexemes;
        reads = λ y. (h.0, h.1, (k.lexemes ++ y, inl (t, x.1, (x.2.0, refl)), k.reads y));
        spelt = spelt_text (ap (λ z. head_text z ++ steps_text h.0.1) x.1 ∙ ap named_text h.1) k.spelt;
        left = k.left;
      };
}

other_path : {T U : Family} (p : Position) (words : List ℕ) → Retold T U → Again p path_follow (6 ∷ []) (OtherPath T) (FreePath words U) named_text
unfolding to_path
other_path {T} {U} p words r = again_into {W = OtherPath U} (λ ts rest m h. (h.0, h.1, (h.2.0, inr h.2.1, h.2.2))) (again_made to_path named_text (λ v. refl) (again_then (other_head p r) (path_steps r) refl))

split_path : (words : List ℕ) (T : Family) (ts rest : List Lexeme) (m : Named) → FreePath words T ts m rest → Either (WordPath words T) (OtherPath T) ts m rest
split_path words T ts rest m h = elim (h.2.1) [ inl x ↦ inl (h.0, h.1, (h.2.0, x, h.2.2)) | inr x ↦ inr (h.0, h.1, (h.2.0, x, h.2.2)) ]

pub free_path : {T U : Family} (p : Position) (words : List ℕ) → all_of 1 words ≡ true → apart words (12 ∷ []) ≡ true → Retold T U → Again p word_follow (1 ∷ 6 ∷ []) (FreePath words T) (FreePath words U) named_text
free_path {T} {U} p words a n r = again_from (λ ts rest m q. split_path words T ts rest m) (again_both word_follow (1 ∷ 6 ∷ []) (word_path p words a n r) (other_path p words r) refl refl refl refl)

pub keyed_path : {T U : Family} (p : Position) (keys : List ℕ) → AreKeys p keys → all_of 1 keys ≡ true → apart keys (12 ∷ []) ≡ true → Retold T U → Again p word_follow (1 ∷ []) (KeyedPath keys T) (KeyedPath keys U) named_text
unfolding inside to_path to_keyed_path
keyed_path {T} {U} g keys s a n r = record {
  keep = λ ts rest m h p.
      let t = h.0.0 in let x = h.2.1 in let y = h.2.2 in
      let o = subst ArePrintable x.1 p in
      let q = past_token keys t h.2.0 n x.0 o in
      let d = reserved_text g keys s a t x.0 in
      let k = reserved_behind {U = U} g r t (is_word_kind keys t x.0 a) o.0 (no_impl_word t h.2.0 o) d h.2.0 y.2.0 rest y.0.0 y.0.1 (inl y.2.1) y.2.2 q in record {
        lexemes = t ∷ k.lexemes;
        reads = λ z. (h.0, h.1, (k.lexemes ++ z, (x.0, refl), (y.0, y.1, k.reads z)));
        spelt = spelt_text (ap (λ z. t.text ++ steps_text z) y.1 ∙ ap named_text h.1) k.spelt;
        left = k.left;
      };
}

pub path_from : {T U : Family} (p : Position) (keys words : List ℕ) → AreKeys p keys → all_of 1 keys ≡ true → apart keys (12 ∷ []) ≡ true → all_of 1 words ≡ true → apart words (12 ∷ []) ≡ true → Retold T U
    → Again p word_follow (1 ∷ 6 ∷ []) (PathFrom keys words T) (PathFrom keys words U) named_text
path_from p keys words s a n b m r = again_either word_follow (1 ∷ 6 ∷ []) (keyed_path p keys s a n r) (free_path p words b m r) refl refl refl refl

mut_reserved : is_reserved AsType (codes "mut") ≡ true
unfolding is_reserved
mut_reserved = refl

-- mut and steps
pub mut_steps : {T U : Family} → Retold T U → Again AsType word_follow (1 ∷ []) (Past class_of (117 ∷ []) (KeyedSteps T)) (Past class_of (117 ∷ []) (KeyedSteps U)) (λ ss. codes "mut" ++ steps_text ss)
unfolding inside
mut_steps {T} {U} r = record {
  keep = λ ts rest ss h p.
      let y = h.2.2 in
      let q = past_token (117 ∷ []) h.0.0 h.2.0 refl h.2.1.0 (subst ArePrintable h.2.1.1 p) in
      let k = reserved_behind {U = U} AsType r (word (codes "mut")) refl (refl, omega arith) refl mut_reserved h.2.0 y.2.0 rest y.0.0 y.0.1 (inl y.2.1) y.2.2 q in record {
        lexemes = word (codes "mut") ∷ k.lexemes;
        reads = λ z. ((word (codes "mut"), ss), refl, (k.lexemes ++ z, (mut_inside, refl), (y.0, y.1 ∙ h.1, k.reads z)));
        spelt = spelt_text (ap (λ z. codes "mut" ++ steps_text z) (y.1 ∙ h.1)) k.spelt;
        left = k.left;
      };
}

mut_path : {T U : Family} → Retold T U → Again AsType word_follow (1 ∷ []) (Past class_of (117 ∷ []) (Made to_mut_path (KeyedSteps T))) (Past class_of (117 ∷ []) (Made to_mut_path (KeyedSteps U))) named_text
unfolding to_path to_mut_path
mut_path {T} {U} r = again_past_made (117 ∷ []) (KeyedSteps T) (KeyedSteps U) to_mut_path (again_made to_mut_path named_text (λ ss. refl) (mut_steps r))

qualified_head : {T U : Family} (p : Position) → Retold T U → Again p all_fronts (6 ∷ []) (QualifiedHead T) (QualifiedHead U) named_text
unfolding to_qualified
qualified_head p r = again_made to_qualified named_text (λ v. refl) (again_then (again_tok_as arguments_follow (6 ∷ []) (7 ∷ []) refl less_text (less_name p))
    (again_then r.any (again_past (118 ∷ []) (word (codes "as")) as_inside refl name.as_between (again_ended (8 ∷ []) (sign (codes ">")) greater_inside refl name.greater (free_path Alone any_word refl refl r) refl) refl) refl) refl)

-- Types.

pub plain_type : Again AsType word_follow (1 ∷ 7 ∷ []) PlainType PlainType named_text
unfolding to_plain
plain_type = again_made to_plain named_text (λ t. refl) (again_tok word_follow (1 ∷ 7 ∷ []) (17 ∷ type_names) refl plain_name)

pub tuple_type : {T U : Family} → Retold T U → Again AsType all_fronts (7 ∷ []) (TupleType T) (TupleType U) named_text
unfolding to_tuple
tuple_type r = again_made to_tuple named_text (λ v. ap (λ x. codes "(" ++ x) (append_assoc (list_text (texts_of named_text v.0)) (comma_where v.1) (codes ")")))
    (again_past (1 ∷ []) (sign (codes "(")) opening_inside refl name.opening (again_ended (2 ∷ []) (sign (codes ")")) closing_inside refl name.closing (again_trailed (0 ∷ 7 ∷ []) (0 ∷ 1 ∷ 6 ∷ 7 ∷ []) r.any refl refl refl refl refl refl refl refl) refl) refl)

abbrev array_end_text : Option Lexeme → List ℕ
array_end_text None = codes "]"
array_end_text (Some n) = codes "; " ++ (n.text ++ codes "]")

abbrev pub Counted : Part Lexeme (Option Lexeme)
Counted = Past class_of (10 ∷ []) (Ended class_of (Made Some (Tok class_of (35 ∷ []))) (4 ∷ []))

abbrev pub CountOf : Part Lexeme (Option Lexeme)
CountOf = Made Some (Past class_of (10 ∷ []) (Ended class_of (Tok class_of (35 ∷ [])) (4 ∷ [])))

pub count_from : (ts rest : List Lexeme) (o : Option Lexeme) → Counted ts o rest → CountOf ts o rest
count_from ts rest o h = let e = h.2.2 in let n = e.2.1 in (n.0, n.1 ∙ e.1 ∙ h.1, ((h.0.0, n.0), refl, (h.2.0, h.2.1, ((n.0, e.0.1), refl, (e.2.0, n.2, e.2.2)))))

pub count_into : (ts rest : List Lexeme) (o : Option Lexeme) → CountOf ts o rest → Counted ts o rest
count_into ts rest o h = let p = h.2 in let e = p.2.2 in
    ((p.0.0, o), refl, (p.2.0, p.2.1, ((o, e.0.1), refl, (e.2.0, (h.0, h.1, subst (λ n. Tok class_of (35 ∷ []) p.2.0 n e.2.0) (e.1 ∙ p.1) e.2.1), e.2.2))))

count : Again AsType all_fronts (7 ∷ []) Counted Counted array_end_text
count = again_from (λ ts rest o r. count_from ts rest o) (again_into count_into (again_made Some array_end_text (λ n. refl)
    (again_past (10 ∷ []) (sign (codes ";")) semicolon_inside refl name.semicolon (again_ended (4 ∷ []) (sign (codes "]")) bracket_end_inside refl name.bracket_end
    (again_tok word_follow (1 ∷ []) (35 ∷ []) refl (number_name (35 ∷ []) refl)) refl) refl)))

array_end : Again AsType all_fronts (7 ∷ []) ArrayEnd ArrayEnd array_end_text
array_end = again_either all_fronts (7 ∷ []) (again_mark None (4 ∷ []) (sign (codes "]")) bracket_end_inside refl name.bracket_end refl) count refl refl refl refl

array_text : (v : Named × Option Lexeme) → codes "[" ++ (v.0.text ++ array_end_text v.1) ≡ named_text (to_array v)
unfolding to_array
array_text (item, None) = refl
array_text (item, Some n) = refl

array_type : {T U : Family} → Retold T U → Again AsType all_fronts (7 ∷ []) (ArrayType T) (ArrayType U) named_text
array_type r = again_made to_array named_text array_text (again_past (3 ∷ []) (sign (codes "[")) bracket_inside refl name.bracket (again_then r.any array_end refl) refl)

-- a lifetime behind & is left out
again_no_lifetime : {A : Type 0} {s l : List ℕ} {R W : Part Lexeme A} {f : A → List ℕ} → Again AsType s l R W f → Again AsType s l (Made second (Then (Perhaps_token class_of (42 ∷ [])) R)) (Made second (Then (Perhaps_token class_of (42 ∷ [])) W)) f
unfolding inside
again_no_lifetime {A} {s} {l} {R} {W} {f} c = record {
  keep = λ ts rest v h r.
      let k = c.keep h.2.0 rest h.0.1 h.2.2 (elim (h.2.1) [
        | inl x ↦ past_token (42 ∷ []) x.0 h.2.0 refl x.2.0 (subst ArePrintable x.2.1 r)
        | inr x ↦ subst ArePrintable (sym x.1) r
      ]) in
      subst (λ a. Kept AsType s l (Made second (Then (Perhaps_token class_of (42 ∷ [])) W)) (f a) a rest) h.1 (record {
        lexemes = k.lexemes;
        reads = λ x. ((false, h.0.1), refl, (k.lexemes ++ x, inr (refl, refl), k.reads x));
        spelt = k.spelt;
        left = k.left;
      });
}

-- and so is a bound behind a trait
pub again_no_bound : {A : Type 0} {here : Position} {s l : List ℕ} {R W : Part Lexeme A} {f : A → List ℕ} → Again here s l R W f → Again here s l (Made first (Then R Bound)) (Made first (Then W Bound)) f
unfolding inside
again_no_bound {A} {here} {s} {l} {R} {W} {f} c = record {
  keep = λ ts rest v h r.
      let k = c.keep ts h.2.0 h.0.0 h.2.1 r in
      subst (λ a. Kept here s l (Made first (Then W Bound)) (f a) a rest) h.1 (record {
        lexemes = k.lexemes;
        reads = λ x. ((h.0.0, false), refl, (x, k.reads x, inr (refl, refl)));
        spelt = k.spelt;
        left = elim (h.2.2) [
          | inl x ↦ let p = x.2 in past_token (42 ∷ []) p.0.1 rest refl p.2.2.0 (subst ArePrintable p.2.2.1 (past_token (18 ∷ []) p.0.0 p.2.0 refl p.2.1.0 (subst ArePrintable p.2.1.1 k.left)))
          | inr x ↦ subst ArePrintable (sym x.1) k.left
        ];
      });
}

abbrev ref_text : Bool × Named → List ℕ
ref_text v = mut_where v.0 ++ v.1.text

ref_target : {T U : Family} → Retold T U → Again AsType word_follow (1 ∷ 6 ∷ 7 ∷ []) (RefTarget T) (RefTarget U) ref_text
ref_target {T} {U} r = again_either word_follow (1 ∷ 6 ∷ 7 ∷ [])
    (again_past_either (117 ∷ []) (Made unmarked (T BehindMut)) (Made marked (T AnyType)) (Made unmarked (U BehindMut)) (Made marked (U AnyType)) (again_either word_follow (1 ∷ 6 ∷ 7 ∷ [])
    (again_past_made (117 ∷ []) (T BehindMut) (U BehindMut) unmarked (again_made unmarked ref_text (λ n. refl) r.behind_mut))
    (again_past_made (117 ∷ []) (T AnyType) (U AnyType) marked (again_made marked ref_text (λ n. refl) (again_past (117 ∷ []) (word (codes "mut")) mut_inside refl name.mut_blank r.any refl))) refl refl refl refl))
    (again_made unmarked ref_text (λ n. refl) r.not_mut) refl refl refl refl

ref_type : {T U : Family} → Retold T U → Again AsType word_follow (7 ∷ []) (RefType T) (RefType U) named_text
unfolding to_ref
ref_type r = again_made to_ref named_text (λ v. refl) (again_past (15 ∷ []) (sign (codes "&")) ampersand_inside refl name.ampersand (again_no_lifetime (ref_target r)) refl)

abbrev raw_text : Bool × Named → List ℕ
raw_text v = pointer_word v.0 ++ v.1.text

raw_target : {T U : Family} → Retold T U → Again AsType word_follow (1 ∷ []) (Either (Past class_of (117 ∷ []) (Made marked (T AnyType))) (Past class_of (116 ∷ []) (Made unmarked (T AnyType))))
    (Either (Past class_of (117 ∷ []) (Made marked (U AnyType))) (Past class_of (116 ∷ []) (Made unmarked (U AnyType)))) raw_text
raw_target {T} {U} r = again_either word_follow (1 ∷ [])
    (again_past_made (117 ∷ []) (T AnyType) (U AnyType) marked (again_made marked raw_text (λ n. refl) (again_past (117 ∷ []) (word (codes "mut")) mut_inside refl name.mut_blank r.any refl)))
    (again_past_made (116 ∷ []) (T AnyType) (U AnyType) unmarked (again_made unmarked raw_text (λ n. refl) (again_past (116 ∷ []) (word (codes "const")) const_inside refl name.const_blank r.any refl))) refl refl refl refl

raw_type : {T U : Family} → Retold T U → Again AsType word_follow (7 ∷ []) (RawType T) (RawType U) named_text
unfolding to_raw
raw_type r = again_made to_raw named_text (λ v. refl) (again_past (16 ∷ []) (sign (codes "*")) star_inside refl name.star (raw_target r) refl)

dyn_type : {T U : Family} → Retold T U → Again AsType word_follow (1 ∷ []) (DynType T) (DynType U) named_text
unfolding to_dyn
dyn_type r = again_made to_dyn named_text (λ v. refl) (again_past (115 ∷ []) (word (codes "dyn")) dyn_inside refl name.dyn_blank (again_no_bound (free_path Alone any_word refl refl r)) refl)

formed_type : {T U : Family} → Retold T U → Again AsType word_follow (1 ∷ 6 ∷ 7 ∷ []) (FormedType T) (FormedType U) named_text
formed_type r = again_either word_follow (1 ∷ 6 ∷ 7 ∷ []) plain_type (again_either word_follow (1 ∷ 6 ∷ 7 ∷ []) (tuple_type r) (again_either word_follow (1 ∷ 6 ∷ 7 ∷ []) (array_type r)
    (again_either word_follow (1 ∷ 6 ∷ 7 ∷ []) (ref_type r) (again_either word_follow (1 ∷ 6 ∷ 7 ∷ []) (raw_type r) (dyn_type r) refl refl refl refl) refl refl refl refl) refl refl refl refl) refl refl refl refl) refl refl refl refl

body : {T U : Family} → Retold T U → Retold (TypeBody T) (TypeBody U)
body r = record {
  any = again_either word_follow (1 ∷ 6 ∷ 7 ∷ []) (formed_type r) (path_from AsType type_words path_words type_keys refl refl refl refl r) refl refl refl refl;
  not_mut = again_either word_follow (1 ∷ 6 ∷ 7 ∷ []) (formed_type r) (path_from AsType type_words path_words_but_mut type_keys refl refl refl refl r) refl refl refl refl;
  behind_mut = mut_path r;
  qualified = λ p. qualified_head p r;
}

pub again_never : {A : Type 0} {here : Position} {s l : List ℕ} {W : Part Lexeme A} {f : A → List ℕ} → Again here s l Never W f
again_never = record { keep = λ ts rest v h r. absurd h }

no_type : (U : Family) → Retold NoType U
no_type U = record { any = again_never; not_mut = again_never; behind_mut = record { keep = λ ts rest v h r. absurd (h.2.2) }; qualified = λ p. again_never }

-- at each depth, and deeper
pub levels : (d e : ℕ) → d ≤ e → Retold (TypeLevel NoType d) (TypeLevel NoType e)
levels zero e h = no_type (TypeLevel NoType e)
levels (suc d) zero h = absurd (omega arith)
levels (suc d) (suc e) h = body (levels d e (omega arith))
