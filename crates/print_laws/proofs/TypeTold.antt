-- The text that a type on its own is printed as reads again as this type.
use Rattle.std.proofs.Common.{◌≡◌, inl, inr, ℕ, ◌==◌, Bool, true, false, ◌&&◌, if◌then◌else◌, List, [], ◌∷◌, ◌++◌, codes, Option, Some, None, refl, sym, ◌∙◌, ap, subst, arith, append_assoc}
use Rattle.std.specs.Str.{bytes_eq}
use Rattle.std.specs.Fmt.{decimal}
use Rattle.std.proofs.lemmas.Bool.{both_ways, eqb-true}
use Rattle.grammar_words.specs.Grammar.{Part, Then, Made, Each, starts}
use Rattle.grammar_words.specs.Reading.{second}
use Rattle.grammar_words.specs.Classes.{has, inside, Tok, Past, Perhaps_token, Listed}
use Rattle.grammar_words.proofs.Sets.{apart}
use Rattle.mir_lex.specs.declared.token.TokenKind.TheVariants as kind
use Rattle.std.proofs.lemmas.Slice.Eq.{bytes_eq-Decides}
use Rattle.mir_ir.specs.declared.types.Ty.{Ty}
use Rattle.mir_ir.specs.declared.types.Ty.TheVariants as ty
use Rattle.mir_grammar.specs.Lexemes.{Lexeme, class_of, kind_class, word_class, sign, word, number, number_value}
use Rattle.mir_grammar.specs.declared.named.Named.{Named}
use Rattle.mir_grammar.specs.declared.named.Argument.{Argument}
use Rattle.mir_grammar.specs.declared.named.Argument.TheVariants.{TypeArgument, OtherArgument}
use Rattle.mir_grammar.specs.declared.named.Head.{Head}
use Rattle.mir_grammar.specs.declared.named.Head.TheVariants.{HeadWord, HeadText}
use Rattle.mir_grammar.specs.declared.named.Step.{Step}
use Rattle.mir_grammar.specs.declared.named.Step.TheVariants.{StepWord, StepArguments, StepImpl}
use Rattle.mir_grammar.specs.Names.{path_text, named_text, box_or_name, plain_type, mut_where, pointer_word, steps_text, only_type, only_arguments, boxed_behind, boxed_type, to_path, to_keyed_path, to_mut_path, to_plain, to_array, to_ref, to_raw, to_dyn}
use Rattle.mir_grammar.specs.Types.{Family, without, any_word, type_names, type_words, path_words, path_words_but_mut, AnyType, NotMut, BehindMut, ArgumentOf, Arguments, Segment, PathStep, KeyedSteps, FreeHead, FreePath, KeyedPath, PathFrom, PlainType, ArrayEnd, ArrayType, unmarked, marked, RefTarget, RefType, RawType, DynType}
use Rattle.mir_lex.proofs.Runs.{same_some}
use Rattle.canonical_text.specs.declared.positions.Position.TheVariants.{AsType, Alone}
use Rattle.canonical_text.specs.Names.{path_written}
use Rattle.canonical_text.specs.Types.{type_text}
use Rattle.print_laws.specs.Printed.{ArePrintable}
use Rattle.print_laws.proofs.Leads.{all_leads, word_follow}
use Rattle.print_laws.proofs.Fits as fits
use Rattle.print_laws.proofs.Fits.{Fits, fits_join, fits_text, fits_wide}
use Rattle.print_laws.proofs.NameTokens.{dyn_blank}
use Rattle.print_laws.proofs.Reserved.{AreKeys, type_keys}
use Rattle.print_laws.proofs.Again.{again_past, past_token, past_colons}
use Rattle.print_laws.proofs.Bands.{all_of, is_word_kind}
use Rattle.print_laws.proofs.Tokens.{plain_token, plain_as_written}
use Rattle.print_laws.proofs.TypeTexts.{Retold, path_step, free_head, mut_steps, Counted, count_from, count_into, again_no_bound, free_path, keyed_path, mut_inside, const_inside, dyn_inside, bracket_inside, bracket_end_inside, semicolon_inside, ampersand_inside, star_inside, less_inside, greater_inside}
use Rattle.print_laws.proofs.TypeEquations as text
use Rattle.print_laws.proofs.Numbers.{printed_value, printed_inside, printed_fits, number_low}
use Rattle.print_laws.proofs.Told.{Telling, Told, told_again, told_tok, told_made, told_into, told_from, told_then, told_either, told_past, told_ended, told_mark, told_past_made, told_past_either}

abbrev pub ty_of : Named → Ty
ty_of n = n.ty

-- numbers
pub number_told : Told word_follow (1 ∷ []) (Tok class_of (35 ∷ [])) (Tok class_of (35 ∷ [])) number_value decimal
unfolding inside
number_told = record {
  tell = λ ts rest t r p. let q = subst ArePrintable r.1 p in let low = number_low t r.0 q.0 in record {
    lexemes = number (decimal (number_value t)) ∷ [];
    value = number (decimal (number_value t));
    same = printed_value (number_value t) low;
    reads = λ k. (printed_inside (number_value t) low, refl);
    fits = printed_fits (number_value t) low;
  };
  left = λ ts rest t r p. past_token (35 ∷ []) t rest refl r.0 (subst ArePrintable r.1 p);
}

-- tokens that do not begin with mut
abbrev pub NotMutOf : Part Lexeme Named → Part Lexeme Named
NotMutOf R ts n rest = (starts (inside class_of (117 ∷ [])) ts ≡ false) × R ts n rest

-- what T reads is printed so that U reads it as the same type
pub record Printed (T U : Family) : Type 0 where
  pub any : Told word_follow (1 ∷ 7 ∷ []) (T AnyType) (U AnyType) ty_of type_text
  pub free : Told word_follow (1 ∷ 7 ∷ []) (NotMutOf (T AnyType)) (U NotMut) ty_of type_text
  pub not_mut : Told word_follow (1 ∷ 7 ∷ []) (T NotMut) (U NotMut) ty_of type_text
  pub behind_mut : Told word_follow (1 ∷ []) (Past class_of (117 ∷ []) (T BehindMut)) (Past class_of (117 ∷ []) (U BehindMut)) ty_of type_text

pub plain_type_told : Told word_follow (1 ∷ 7 ∷ []) PlainType PlainType ty_of type_text
unfolding to_plain
plain_type_told = told_made to_plain ty_of (λ t. t) type_text (λ l. refl) (λ t. refl)
    (told_tok word_follow (1 ∷ 7 ∷ []) (17 ∷ type_names) (λ (l : Lexeme). plain_type l.text) type_text refl (λ t h more r. fits_text (sym (text.plain_text t.text (plain_as_written t h more r))) (plain_token t h more r)))

-- Arrays.

abbrev count_of : Option Lexeme → Option ℕ
count_of None = None
count_of (Some l) = Some (number_value l)

abbrev count_text : Option ℕ → List ℕ
count_text None = codes "]"
count_text (Some n) = codes "; " ++ (decimal n ++ codes "]")

count_told : Told all_leads (7 ∷ []) Counted Counted count_of count_text
count_told = told_from (λ ts rest o p r. count_from ts rest o r) (told_into count_into (told_made Some count_of Some count_text (λ l. refl) (λ n. refl)
    (told_past (10 ∷ []) (sign (codes ";")) semicolon_inside refl (fits.spaced fits.semicolon refl) (told_ended (4 ∷ []) (sign (codes "]")) bracket_end_inside refl fits.bracket_end number_told refl) refl)))

array_end_told : Told all_leads (7 ∷ []) ArrayEnd ArrayEnd count_of count_text
array_end_told = told_either all_leads (7 ∷ []) (told_mark (λ t. None) None (4 ∷ []) (sign (codes "]")) (λ a h. refl) bracket_end_inside refl fits.bracket_end refl) count_told refl refl refl refl

abbrev array_of : Ty × Option ℕ → Ty
array_of (t, None) = ty.Slice t
array_of (t, Some n) = ty.Array t n

array_type_is : (v : Named × Option Lexeme) → ty_of (to_array v) ≡ array_of (v.0.ty, count_of v.1)
unfolding to_array
array_type_is (n, None) = refl
array_type_is (n, Some l) = refl

array_text_is : (x : Ty × Option ℕ) → codes "[" ++ (type_text x.0 ++ count_text x.1) ≡ type_text (array_of x)
array_text_is (t, None) = sym (append_assoc (codes "[") (type_text t) (codes "]")) ∙ sym (text.slice_text t)
array_text_is (t, Some n) = sym (append_assoc (codes "[" ++ type_text t ++ codes "; ") (decimal n) (codes "]") ∙ append_assoc (codes "[" ++ type_text t) (codes "; ") (decimal n ++ codes "]")
    ∙ append_assoc (codes "[") (type_text t) (codes "; " ++ (decimal n ++ codes "]"))) ∙ sym (text.array_text t n)

pub array_told : {T U : Family} → Printed T U → Told all_leads (7 ∷ []) (ArrayType T) (ArrayType U) ty_of type_text
array_told p = told_made to_array ty_of array_of type_text array_type_is array_text_is (told_past (3 ∷ []) (sign (codes "[")) bracket_inside refl fits.bracket (told_then p.any array_end_told refl) refl)

-- References and pointers.

abbrev marked_ty : Bool × Named → Bool × Ty
marked_ty v = (v.0, v.1.ty)

abbrev ref_text : Bool × Ty → List ℕ
ref_text x = mut_where x.0 ++ type_text x.1

ref_target_told : {T U : Family} → Printed T U → Told word_follow (1 ∷ 7 ∷ []) (RefTarget T) (RefTarget U) marked_ty ref_text
ref_target_told {T} {U} p = told_either word_follow (1 ∷ 7 ∷ [])
    (told_past_either (117 ∷ []) (Made unmarked (T BehindMut)) (Made marked (T AnyType)) (Made unmarked (U BehindMut)) (Made marked (U AnyType)) (told_either word_follow (1 ∷ 7 ∷ [])
    (told_past_made (117 ∷ []) (T BehindMut) (U BehindMut) unmarked (told_made unmarked marked_ty (λ t. (false, t)) ref_text (λ n. refl) (λ t. refl) p.behind_mut))
    (told_past_made (117 ∷ []) (T AnyType) (U AnyType) marked (told_made marked marked_ty (λ t. (true, t)) ref_text (λ n. refl) (λ t. refl) (told_past (117 ∷ []) (word (codes "mut")) mut_inside refl fits.mut_word p.any refl))) refl refl refl refl))
    (told_made unmarked marked_ty (λ t. (false, t)) ref_text (λ n. refl) (λ t. refl) p.not_mut) refl refl refl refl

-- a lifetime behind & is left out
no_lifetime_told : {A X : Type 0} {s l : List ℕ} {R W : Part Lexeme A} {h : A → X} {f : X → List ℕ} → Told s l R W h f → Told s l (Made second (Then (Perhaps_token class_of (42 ∷ [])) R)) (Made second (Then (Perhaps_token class_of (42 ∷ [])) W)) h f
unfolding inside
no_lifetime_told {A} {X} {s} {l} {R} {W} {h} {f} c = record {
  tell = λ ts rest v r p.
      let k = c.tell r.2.0 rest r.0.1 r.2.2 (behind_it ts r.2.0 r.0.0 r.2.1 p) in
      subst (λ a. Telling s l (Made second (Then (Perhaps_token class_of (42 ∷ [])) W)) h (f (h a)) (h a)) r.1 (record {
        lexemes = k.lexemes;
        value = k.value;
        same = k.same;
        reads = λ x. ((false, k.value), refl, (k.lexemes ++ x, inr (refl, refl), k.reads x));
        fits = k.fits;
      });
  left = λ ts rest v r p. c.left r.2.0 rest r.0.1 r.2.2 (behind_it ts r.2.0 r.0.0 r.2.1 p);
}
  where
    behind_it : (ts mid : List Lexeme) (b : Bool) → Perhaps_token class_of (42 ∷ []) ts b mid → ArePrintable ts → ArePrintable mid
    behind_it ts mid b (inl x) p = past_token (42 ∷ []) x.0 mid refl x.2.0 (subst ArePrintable x.2.1 p)
    behind_it ts mid b (inr x) p = subst ArePrintable (sym x.1) p

ref_text_is : (x : Bool × Ty) → codes "&" ++ ref_text x ≡ type_text (ty.Ref x.0 x.1)
ref_text_is (true, t) = sym (text.reference_text true t)
ref_text_is (false, t) = sym (text.reference_text false t)

pub ref_told : {T U : Family} → Printed T U → Told word_follow (7 ∷ []) (RefType T) (RefType U) ty_of type_text
unfolding to_ref
ref_told p = told_made to_ref ty_of (λ x. ty.Ref x.0 x.1) type_text (λ v. refl) ref_text_is (told_past (15 ∷ []) (sign (codes "&")) ampersand_inside refl fits.ampersand (no_lifetime_told (ref_target_told p)) refl)

abbrev raw_text : Bool × Ty → List ℕ
raw_text x = pointer_word x.0 ++ type_text x.1

raw_text_is : (x : Bool × Ty) → codes "*" ++ raw_text x ≡ type_text (ty.Raw x.0 x.1)
raw_text_is (true, t) = sym (text.raw_text true t)
raw_text_is (false, t) = sym (text.raw_text false t)

pub raw_told : {T U : Family} → Printed T U → Told word_follow (7 ∷ []) (RawType T) (RawType U) ty_of type_text
unfolding to_raw
raw_told {T} {U} p = told_made to_raw ty_of (λ x. ty.Raw x.0 x.1) type_text (λ v. refl) raw_text_is (told_past (16 ∷ []) (sign (codes "*")) star_inside refl fits.star (told_either word_follow (1 ∷ [])
    (told_past_made (117 ∷ []) (T AnyType) (U AnyType) marked (told_made marked marked_ty (λ t. (true, t)) raw_text (λ n. refl) (λ t. refl) (told_past (117 ∷ []) (word (codes "mut")) mut_inside refl fits.mut_word p.any refl)))
    (told_past_made (116 ∷ []) (T AnyType) (U AnyType) unmarked (told_made unmarked marked_ty (λ t. (false, t)) raw_text (λ n. refl) (λ t. refl) (told_past (116 ∷ []) (word (codes "const")) const_inside refl fits.const_word p.any refl))) refl refl refl refl) refl)

dyn_written : (path : List ℕ) → path_written AsType (codes "dyn " ++ path) ≡ codes "dyn " ++ path_written Alone path
unfolding path_written
dyn_written path = refl

pub dyn_told : {T U : Family} → Retold T U → Told word_follow (1 ∷ []) (DynType T) (DynType U) ty_of type_text
unfolding to_dyn
dyn_told r = told_made to_dyn ty_of (λ t. t) type_text (λ n. refl) (λ t. refl) (told_again (λ (n : Named). ty.Dyn n.text) type_text (λ n. dyn_written n.text ∙ sym (text.dyn_text n.text))
    (again_past (115 ∷ []) (word (codes "dyn")) dyn_inside refl dyn_blank (again_no_bound (free_path Alone any_word refl refl r)) refl))

-- mut before ::
pub mut_path_told : {T U : Family} → Retold T U → Told word_follow (1 ∷ []) (Past class_of (117 ∷ []) (Made to_mut_path (KeyedSteps T))) (Past class_of (117 ∷ []) (Made to_mut_path (KeyedSteps U))) ty_of type_text
unfolding to_path to_mut_path
mut_path_told {T} {U} r = told_past_made (117 ∷ []) (KeyedSteps T) (KeyedSteps U) to_mut_path (told_made to_mut_path ty_of (λ t. t) type_text (λ ss. refl) (λ t. refl)
    (told_again (λ ss. ty.Named (codes "mut" ++ steps_text ss)) type_text (λ ss. sym (text.path_name_text (codes "mut" ++ steps_text ss))) (mut_steps r)))

-- Paths.

-- the type in the arguments that a path ends in
abbrev last_type : List Step → Option Ty
last_type [] = None
last_type (StepArguments arguments ∷ []) = only_type arguments
last_type (s ∷ t ∷ more) = last_type (t ∷ more)
last_type (s ∷ []) = None

ends_arguments : (steps : List Step) (t : Ty) → only_arguments steps ≡ Some t → last_type steps ≡ Some t
ends_arguments [] t h = absurd cc
ends_arguments (StepWord w ∷ more) t h = absurd cc
ends_arguments (StepArguments arguments ∷ []) t h = h
ends_arguments (StepArguments arguments ∷ s ∷ more) t h = absurd cc
ends_arguments (StepImpl text ∷ more) t h = absurd cc

last_behind : (s : Step) (steps : List Step) (t : Ty) → last_type steps ≡ Some t → last_type (s ∷ steps) ≡ Some t
last_behind s [] t h = absurd cc
last_behind s (u ∷ more) t h = h

boxed_by : (a b : List ℕ) (more : List Step) (t : Ty) (c : Bool) → (if c then only_arguments more else None) ≡ Some t → last_type (StepWord a ∷ StepWord b ∷ more) ≡ Some t
boxed_by a b more t true h = last_behind (StepWord a) (StepWord b ∷ more) t (last_behind (StepWord b) more t (ends_arguments more t h))
boxed_by a b more t false h = absurd cc

ends_boxed : (steps : List Step) (t : Ty) → boxed_behind steps ≡ Some t → last_type steps ≡ Some t
ends_boxed [] t h = absurd cc
ends_boxed (StepWord a ∷ []) t h = absurd cc
ends_boxed (StepWord a ∷ StepWord b ∷ more) t h = boxed_by a b more t (bytes_eq (codes "boxed") a && bytes_eq (codes "Box") b) h
ends_boxed (StepWord a ∷ StepArguments arguments ∷ more) t h = absurd cc
ends_boxed (StepWord a ∷ StepImpl text ∷ more) t h = absurd cc
ends_boxed (StepArguments arguments ∷ more) t h = absurd cc
ends_boxed (StepImpl text ∷ more) t h = absurd cc

word_boxed : (steps : List Step) (t : Ty) (box std : Bool) → (if box then only_arguments steps else (if std then boxed_behind steps else None)) ≡ Some t → last_type steps ≡ Some t
word_boxed steps t true std h = ends_arguments steps t h
word_boxed steps t false true h = ends_boxed steps t h
word_boxed steps t false false h = absurd cc

ends_in : (head : Head) (steps : List Step) (t : Ty) → boxed_type head steps ≡ Some t → last_type steps ≡ Some t
ends_in (HeadText text long start) steps t h = absurd cc
ends_in (HeadWord w start) steps t h = word_boxed steps t (bytes_eq (codes "Box") w) (bytes_eq (codes "std") w) h

abbrev TypeOf : Family → Ty → Type 0
TypeOf U t = Telling word_follow (1 ∷ 7 ∷ []) (U AnyType) ty_of (type_text t) t

same_argument : (n m : Named) → TypeArgument n ≡ TypeArgument m → n ≡ m
same_argument n m h = cc

first_same : (v : Argument × List Argument) (a : Argument) → v.0 ∷ v.1 ≡ a ∷ [] → v.0 ≡ a
first_same v a h = cc

argument_told : {T U : Family} → Printed T U → (ts rest : List Lexeme) (n : Named) → ArgumentOf T ts (TypeArgument n) rest → ArePrintable ts → TypeOf U n.ty
argument_told p ts rest n (inl h) r = absurd (cc (h.1))
argument_told {T} {U} p ts rest n (inr h) r = subst (λ (m : Named). TypeOf U m.ty) (same_argument h.0 n h.1) (p.any.tell ts rest h.0 h.2 r)

listed_told : {T U : Family} → Printed T U → (ts rest : List Lexeme) (n : Named) → Listed class_of (9 ∷ []) (ArgumentOf T) ts (TypeArgument n ∷ []) rest → ArePrintable ts → TypeOf U n.ty
listed_told {T} p ts rest n (inl h) r = argument_told p ts h.2.0 n (subst (λ a. ArgumentOf T ts a h.2.0) (first_same h.0 (TypeArgument n) h.1) h.2.1) r
listed_told p ts rest n (inr h) r = absurd (cc (h.0))

only_told : {T U : Family} → Printed T U → (ts rest : List Lexeme) (as_ : List Argument) (t : Ty) → Arguments T ts as_ rest → ArePrintable ts → only_type as_ ≡ Some t → TypeOf U t
unfolding inside
only_told p ts rest [] t h r e = absurd cc
only_told {T} {U} p ts rest (TypeArgument n ∷ []) t h r e =
    subst (TypeOf U) (same_some n.ty t e) (listed_told p h.2.0 h.2.2.2.0 n (subst (λ x. Listed class_of (9 ∷ []) (ArgumentOf T) h.2.0 x h.2.2.2.0) (h.2.2.1 ∙ h.1) h.2.2.2.1)
    (past_token (7 ∷ []) h.0.0 h.2.0 refl h.2.1.0 (subst ArePrintable h.2.1.1 r)))
only_told p ts rest (TypeArgument n ∷ a ∷ more) t h r e = absurd cc
only_told p ts rest (OtherArgument text ∷ more) t h r e = absurd cc

same_arguments : (as_ bs : List Argument) → StepArguments as_ ≡ StepArguments bs → as_ ≡ bs
same_arguments as_ bs h = cc

made_arguments : {T U : Family} → Printed T U → (ts rest : List Lexeme) (as_ : List Argument) (t : Ty) → Made StepArguments (Arguments T) ts (StepArguments as_) rest → ArePrintable ts → only_type as_ ≡ Some t → TypeOf U t
made_arguments {T} p ts rest as_ t h r e = only_told p ts rest as_ t (subst (λ x. Arguments T ts x rest) (same_arguments h.0 as_ h.1) h.2) r e

segment_told : {T U : Family} → Printed T U → (ts rest : List Lexeme) (as_ : List Argument) (t : Ty) → Segment T ts (StepArguments as_) rest → ArePrintable ts → only_type as_ ≡ Some t → TypeOf U t
segment_told p ts rest as_ t (inl h) r e = absurd (cc (h.1))
segment_told p ts rest as_ t (inr (inl h)) r e = absurd (cc (h.1))
segment_told p ts rest as_ t (inr (inr h)) r e = made_arguments p ts rest as_ t h r e

step_told : {T U : Family} → Printed T U → (ts rest : List Lexeme) (as_ : List Argument) (t : Ty) → PathStep T ts (StepArguments as_) rest → ArePrintable ts → only_type as_ ≡ Some t → TypeOf U t
unfolding inside
step_told {T} p ts rest as_ t (inl h) r e = segment_told p h.2.0 rest as_ t (subst (λ x. Segment T h.2.0 x rest) h.1 h.2.2) (past_colons h.0.0 h.2.0 h.2.1.0 (subst ArePrintable h.2.1.1 r)) e
step_told p ts rest as_ t (inr h) r e = made_arguments p ts rest as_ t h r e

steps_told : {T U : Family} → Retold T U → Printed T U → (ts rest : List Lexeme) (steps : List Step) (t : Ty) → Each (PathStep T) ts steps rest → ArePrintable ts → last_type steps ≡ Some t → TypeOf U t
steps_told q p ts rest [] t h r e = absurd cc
steps_told q p ts rest (StepArguments as_ ∷ []) t h r e = step_told p ts h.0 as_ t h.1 r e
steps_told q p ts rest (StepWord w ∷ []) t h r e = absurd cc
steps_told q p ts rest (StepImpl w ∷ []) t h r e = absurd cc
steps_told q p ts rest (s ∷ u ∷ more) t h r e = let k = (path_step q).keep ts h.0 s h.1 r in steps_told q p h.0 rest (u ∷ more) t h.2 k.left e

-- Box<T>
box_value : Named → Named
box_value n = to_path (HeadWord (codes "Box") 0, StepArguments (TypeArgument n ∷ []) ∷ [])

box_type : (n : Named) → ty_of (box_value n) ≡ ty.BoxOf n.ty
unfolding box_value to_path
box_type n = refl

box_inside : (words : List ℕ) → has words 33 ≡ true → inside class_of words (word (codes "Box")) ≡ true
unfolding inside class_of
box_inside words h = h

box_reads : (U : Family) (words : List ℕ) → has words 33 ≡ true → (ls : List Lexeme) (n : Named) → ((k : List Lexeme) → U AnyType (ls ++ k) n k) → (k : List Lexeme)
    → FreePath words U ((word (codes "Box") ∷ sign (codes "<") ∷ (ls ++ sign (codes ">") ∷ [])) ++ k) (box_value n) k
unfolding box_value
box_reads U words h ls n f k = (
  (HeadWord (codes "Box") 0, StepArguments (TypeArgument n ∷ []) ∷ []),
  refl,
  (
    sign (codes "<") ∷ ((ls ++ sign (codes ">") ∷ []) ++ k),
    inl (word (codes "Box"), refl, (box_inside words h, refl)),
    (
      k,
      inr (
        TypeArgument n ∷ [],
        refl,
        (
          (sign (codes "<"), TypeArgument n ∷ []),
          refl,
          (
            (ls ++ sign (codes ">") ∷ []) ++ k,
            (less_inside, refl),
            (
              (TypeArgument n ∷ [], sign (codes ">")),
              refl,
              (sign (codes ">") ∷ k, inl ((TypeArgument n, []), refl, (sign (codes ">") ∷ k, inr (n, refl, subst (λ z. U AnyType z n (sign (codes ">") ∷ k)) (sym (append_assoc ls (sign (codes ">") ∷ []) k)) (f (sign (codes ">") ∷ k))), refl)), (greater_inside, refl)),
            ),
          ),
        ),
      ),
      refl,
    ),
  ),
)

box_told : (U : Family) (words : List ℕ) → has words 33 ≡ true → (t : Ty) → TypeOf U t → Telling word_follow (1 ∷ 7 ∷ []) (FreePath words U) ty_of (type_text (ty.BoxOf t)) (ty.BoxOf t)
box_told U words h t k = record {
  lexemes = word (codes "Box") ∷ sign (codes "<") ∷ (k.lexemes ++ sign (codes ">") ∷ []);
  value = box_value k.value;
  same = box_type k.value ∙ ap ty.BoxOf k.same;
  reads = box_reads U words h k.lexemes k.value k.reads;
  fits = fits_text (sym (text.box_text t)) (fits_wide (fits_join (fits_join (fits_join (fits.written_word (codes "Box") refl (omega arith) refl) fits.less refl) k.fits refl) fits.greater refl) refl refl);
}

-- A path is itself, or a box.

plain_path : (v : Head × List Step) → boxed_type v.0 v.1 ≡ None → path_written AsType (named_text (to_path v)) ≡ type_text (ty_of (to_path v))
unfolding to_path
plain_path v e = sym (ap (λ o. type_text (box_or_name o (path_text v.0 v.1))) e ∙ text.path_name_text (path_text v.0 v.1))

boxed_path : (v : Head × List Step) (t : Ty) → boxed_type v.0 v.1 ≡ Some t → ty.BoxOf t ≡ ty_of (to_path v)
unfolding to_path
boxed_path v t e = sym (ap (λ o. box_or_name o (path_text v.0 v.1)) e)

abbrev PathTold : Part Lexeme Named → Named → Type 0
PathTold W n = Telling word_follow (1 ∷ 7 ∷ []) W ty_of (type_text (ty_of n)) (ty_of n)

path_cases : {T U : Family} (words : List ℕ) → all_of 1 words ≡ true → apart words (12 ∷ []) ≡ true → has words 33 ≡ true → Retold T U → Printed T U → (ts rest mid : List Lexeme) (v : Head × List Step) → FreeHead words T ts v.0 mid → Each (PathStep T) mid v.1 rest
    → ArePrintable ts → (o : Option Ty) → boxed_type v.0 v.1 ≡ o → PathTold (FreePath words U) (to_path v)
path_cases {T} {U} words a n h q p ts rest mid v i e r None b = let k = (free_path AsType words a n q).keep ts rest (to_path v) (v, refl, (mid, i, e)) r in
    record { lexemes = k.lexemes; value = to_path v; same = refl; reads = k.reads; fits = fits_text (plain_path v b) k.spelt.fits }
path_cases {T} {U} words a n h q p ts rest mid v i e r (Some t) b = subst (λ x. Telling word_follow (1 ∷ 7 ∷ []) (FreePath words U) ty_of (type_text x) x) (boxed_path v t b)
    (box_told U words h t (steps_told q p mid rest v.1 t e ((free_head AsType words a n q).keep ts mid v.0 i r).left (ends_in v.0 v.1 t b)))

free_told : {T U : Family} (words : List ℕ) → all_of 1 words ≡ true → apart words (12 ∷ []) ≡ true → has words 33 ≡ true → Retold T U → Printed T U → Told word_follow (1 ∷ 7 ∷ []) (FreePath words T) (FreePath words U) ty_of type_text
free_told {T} {U} words a n h q p = record {
  tell = λ ts rest m r x. subst (PathTold (FreePath words U)) r.1 (path_cases words a n h q p ts rest r.2.0 r.0 r.2.1 r.2.2 x (boxed_type r.0.0 r.0.1) refl);
  left = λ ts rest m r x. ((free_path AsType words a n q).keep ts rest m r x).left;
}

no_such_word : (keys : List ℕ) (t : Lexeme) (w : List ℕ) → word_class w ≡ 33 → has keys 33 ≡ false → t.kind ≡ kind.Word → has keys (class_of t) ≡ true → (c : Bool) → bytes_eq w t.text ≡ c → bytes_eq w t.text ≡ false
unfolding class_of
no_such_word keys t w e n k h true b = absurd (both_ways (has keys 33) n (subst (λ x. has keys x ≡ true) (ap (λ x. kind_class x t) k ∙ ap word_class (sym ((bytes_eq-Decides w t.text).0 b)) ∙ e) h))
no_such_word keys t w e n k h false b = b

key_boxed : (keys : List ℕ) (t : Lexeme) (steps : List Step) → all_of 1 keys ≡ true → has keys 33 ≡ false → has keys (class_of t) ≡ true → boxed_type (HeadWord t.text t.start) steps ≡ None
key_boxed keys t steps a n h =
    let k = is_word_kind keys t h a in
    rw (no_such_word keys t (codes "Box") refl n k h (bytes_eq (codes "Box") t.text) refl) (rw (no_such_word keys t (codes "std") refl n k h (bytes_eq (codes "std") t.text) refl) refl)

keyed_text : (keys : List ℕ) (v : Lexeme × List Step) → all_of 1 keys ≡ true → has keys 33 ≡ false → has keys (class_of v.0) ≡ true → path_written AsType (named_text (to_keyed_path v)) ≡ type_text (ty_of (to_keyed_path v))
unfolding to_keyed_path
keyed_text keys v a n h = plain_path (HeadWord v.0.text v.0.start, v.1) (key_boxed keys v.0 v.1 a n h)

keyed_told : {T U : Family} (keys : List ℕ) → AreKeys AsType keys → all_of 1 keys ≡ true → apart keys (12 ∷ []) ≡ true → has keys 33 ≡ false → Retold T U → Told word_follow (1 ∷ 7 ∷ []) (KeyedPath keys T) (KeyedPath keys U) ty_of type_text
unfolding inside
keyed_told {T} {U} keys s a n h q = record {
  tell = λ ts rest m r x. let k = (keyed_path AsType keys s a n q).keep ts rest m r x in record {
    lexemes = k.lexemes;
    value = m;
    same = refl;
    reads = k.reads;
    fits = fits_text (ap (λ y. path_written AsType (named_text y)) (sym r.1) ∙ keyed_text keys r.0 a h r.2.1.0 ∙ ap (λ y. type_text (ty_of y)) r.1) (fits_wide k.spelt.fits refl refl);
  };
  left = λ ts rest m r x. ((keyed_path AsType keys s a n q).keep ts rest m r x).left;
}

pub path_told : {T U : Family} (words : List ℕ) → all_of 1 words ≡ true → apart words (12 ∷ []) ≡ true → has words 33 ≡ true → Retold T U → Printed T U
    → Told word_follow (1 ∷ 7 ∷ []) (PathFrom type_words words T) (PathFrom type_words words U) ty_of type_text
path_told words a n h q p = told_either word_follow (1 ∷ 7 ∷ []) (keyed_told type_words type_keys refl refl refl q) (free_told words a n h q p) refl refl refl refl

-- a path that does not begin with mut
without_at : (x y n : ℕ) (ys : List ℕ) (b c : Bool) → has (x ∷ []) y ≡ b → (y == n) ≡ c → has (x ∷ []) n ≡ false → (has ys n ≡ true → has (without (x ∷ []) ys) n ≡ true) → (if c then true else has ys n) ≡ true
    → has (if b then without (x ∷ []) ys else y ∷ without (x ∷ []) ys) n ≡ true
without_at x y n ys true true e f m ih h = absurd (both_ways (has (x ∷ []) n) m (ap (has (x ∷ [])) (sym (eqb-true y n f)) ∙ e))
without_at x y n ys true false e f m ih h = ih h
without_at x y n ys false true e f m ih h = rw f refl
without_at x y n ys false false e f m ih h = rw f (ih h)

without_has : (x n : ℕ) (set : List ℕ) → has (x ∷ []) n ≡ false → has set n ≡ true → has (without (x ∷ []) set) n ≡ true
without_has x n [] m h = absurd cc
without_has x n (y ∷ ys) m h = without_at x y n ys (has (x ∷ []) y) (y == n) refl refl m (without_has x n ys m) h

pub path_but_mut : (T : Family) (ts rest : List Lexeme) (n : Named) → starts (inside class_of (117 ∷ [])) ts ≡ false → PathFrom type_words path_words T ts n rest → PathFrom type_words path_words_but_mut T ts n rest
unfolding inside
path_but_mut T ts rest n f (inl h) = inl h
path_but_mut T ts rest n f (inr h) = inr (
  h.0,
  h.1,
  (
    h.2.0,
    elim (h.2.1) [
      | inl x ↦ inl (x.0, x.1, (without_has 117 (class_of x.0) path_words (subst (λ z. starts (inside class_of (117 ∷ [])) z ≡ false) x.2.1 f) x.2.0, x.2.1))
      | inr x ↦ inr x
    ],
    h.2.2,
  ),
)
