-- The readings by parts are those of the grammar.
use Rattle.std.proofs.Common.{◌≡◌, ℕ, zero, suc, ◌-◌, Bool, true, false, if◌then◌else◌, List, [], ◌∷◌, drop, refl, ap, ◌∙◌, sym, subst, arith}
use Rattle.grammar_words.specs.declared.stop.Why.{Why}
use Rattle.grammar_words.specs.declared.stop.Why.TheVariants.{Wrong, Deep}
use Rattle.grammar_words.specs.Grammar.{starts}
use Rattle.grammar_words.specs.Reading.{Outcome, Got, Fault, Reader, after, turned, pair, chained, made, joined, choose, pick, guard, deep, first, second, many}
use Rattle.grammar_words.specs.Classes.{inside, tok, ended, bare}
use Rattle.mir_grammar.specs.Lexemes.{Lexeme, class_of}
use Rattle.mir_grammar.specs.declared.named.Named.{Named}
use Rattle.mir_grammar.specs.declared.named.Argument.{Argument}
use Rattle.mir_grammar.specs.declared.named.Step.{Step}
use Rattle.mir_grammar.specs.Names.{to_dyn, to_keyed_path, to_mut_path, to_qualified}
use Rattle.mir_grammar.specs.Types.{Want, AnyType, NotMut, BehindMut, Qualified, Readers, colons, any_word, type_names, type_words, path_words, path_words_but_mut, formed_firsts, firsts_of, bound_at, plain_at, free_path_at, path_from_at, tuple_at, array_at, ref_at, raw_at, dyn_at, formed_at, type_body, type_at}
use Rattle.type_reader.specs.Wrappers.{bound, dyn_of, dyn_end, wrapped_at}
use Rattle.type_reader.specs.Parts.{argument, next_argument, more_arguments, argument_list, arguments, arguments_step, segment, named_step, path_step, path_steps, keyed_steps, free_head, free_path, keyed_path, path_from, qualifier, qualified, tuple_items, tuple, dyn_type, formed, any_type, body}
use Rattle.mir_pieces.specs.declared.want.Want.{Want as CodeWant}
use Rattle.mir_pieces.specs.declared.want.Want.TheVariants as code
use Rattle.mir_pieces.specs.Wants.{want_of}
use Rattle.type_reader.proofs.Chains.{made_got, made_fault, joined_got, joined_then, past_got, past_first, ended_got, ended_fault}
use Rattle.type_reader.proofs.WrapperLaws.{wrappers_are}

pub free_path_is : (m : ℕ) (words : List ℕ) (t : Readers) (ts : List Lexeme) → free_path m words t ts ≡ free_path_at m words t ts
unfolding argument more_arguments argument_list arguments arguments_step segment named_step path_step path_steps free_head free_path
free_path_is m words t ts = refl

pub path_from_is : (m : ℕ) (keys words : List ℕ) (t : Readers) (ts : List Lexeme) → path_from m keys words t ts ≡ path_from_at m keys words t ts
unfolding argument more_arguments argument_list arguments arguments_step segment named_step path_step path_steps free_head free_path keyed_steps keyed_path path_from
path_from_is m keys words t ts = refl

pub steps_are : (m : ℕ) (t : Readers) (ts : List Lexeme) → path_steps m t ts ≡ many (inside class_of (12 ∷ 7 ∷ [])) (path_step m t) m ts
unfolding path_steps
steps_are m t ts = refl

pub arguments_are : (m : ℕ) (t : Readers) (ts : List Lexeme) → more_arguments m t ts ≡ many (inside class_of (9 ∷ [])) (next_argument t) m ts
unfolding more_arguments
arguments_are m t ts = refl

dyn_by : (o : Outcome Lexeme Named) (x : Lexeme) → turned second (turned (pair x) (after dyn_end o)) ≡ turned to_dyn (turned second (turned (pair x) (turned first (after (λ n r. turned (pair n) (bound_at r)) o))))
unfolding made bound dyn_end
dyn_by (Got n rest) x = by_bound (bound_at rest)
  where
    by_bound : (o : Outcome Lexeme Bool) → turned second (turned (pair x) (turned (dyn_of n) o)) ≡ turned to_dyn (turned second (turned (pair x) (turned first (turned (pair n) o))))
    by_bound (Got b r) = refl
    by_bound (Fault why r) = refl
dyn_by (Fault why rest) x = refl

dyn_is : (m : ℕ) (t : Readers) (ts : List Lexeme) → dyn_type m t ts ≡ dyn_at m t ts
unfolding made chained dyn_type
dyn_is m t ts = by_word (tok class_of (115 ∷ []) ts)
  where
    by_word : (o : Outcome Lexeme Lexeme) → turned second (after (λ x r. turned (pair x) (after dyn_end (free_path m any_word t r))) o)
        ≡ turned to_dyn (turned second (after (λ x r. turned (pair x) (turned first (after (λ n u. turned (pair n) (bound_at u)) (free_path_at m any_word t r)))) o))
    by_word (Got x rest) = dyn_by (free_path m any_word t rest) x ∙ ap (λ p. turned to_dyn (turned second (turned (pair x) (turned first (after (λ n u. turned (pair n) (bound_at u)) p))))) (free_path_is m any_word t rest)
    by_word (Fault why rest) = refl

tuple_is : (m : ℕ) (t : Readers) (ts : List Lexeme) → tuple m t ts ≡ tuple_at m t ts
unfolding tuple_items tuple
tuple_is m t ts = refl

formed_is : (m : ℕ) (t : Readers) (ts : List Lexeme) → formed m t ts ≡ formed_at m t ts
unfolding choose formed
formed_is m t ts = by_tests (starts (inside class_of (17 ∷ type_names)) ts) (starts (inside class_of (1 ∷ [])) ts)
  where
    behind_dyn : pick (inside class_of (3 ∷ 15 ∷ 16 ∷ [])) (wrapped_at t) (dyn_type m t) ts ≡ pick (inside class_of (3 ∷ 15 ∷ 16 ∷ [])) (wrapped_at t) (dyn_at m t) ts
    behind_dyn = ap (λ o. if starts (inside class_of (3 ∷ 15 ∷ 16 ∷ [])) ts then wrapped_at t ts else o) (dyn_is m t ts)

    by_tests : (a b : Bool) → (if a then plain_at ts else (if b then tuple m t ts else pick (inside class_of (3 ∷ 15 ∷ 16 ∷ [])) (wrapped_at t) (dyn_type m t) ts))
        ≡ (if a then plain_at ts else (if b then tuple_at m t ts else pick (inside class_of (3 ∷ [])) (array_at t) (pick (inside class_of (15 ∷ [])) (ref_at t) (pick (inside class_of (16 ∷ [])) (raw_at t) (dyn_at m t))) ts))
    by_tests true b = refl
    by_tests false true = tuple_is m t ts
    by_tests false false = behind_dyn ∙ sym (wrappers_are t (dyn_at m t) ts)

any_is : (m : ℕ) (words : List ℕ) (t : Readers) (ts : List Lexeme) → any_type m words t ts ≡ choose (bare class_of formed_firsts type_words colons) (formed_at m t) (path_from_at m type_words words t) ts
unfolding choose any_type
any_is m words t ts = by_test (bare class_of formed_firsts type_words colons ts)
  where
    by_test : (b : Bool) → (if b then formed m t ts else path_from m type_words words t ts) ≡ (if b then formed_at m t ts else path_from_at m type_words words t ts)
    by_test true = formed_is m t ts
    by_test false = path_from_is m type_words words t ts

body_is : (m : ℕ) (t : Readers) (want : Want) (ts : List Lexeme) → body m t want ts ≡ type_body m t want ts
unfolding body type_body argument more_arguments argument_list arguments arguments_step segment named_step path_step path_steps free_head free_path keyed_steps qualifier qualified
body_is m t AnyType ts = any_is m path_words t ts
body_is m t NotMut ts = any_is m path_words_but_mut t ts
body_is m t BehindMut ts = refl
body_is m t Qualified ts = refl

guarded : {A : Type 0} (test : Lexeme → Bool) (p : Reader Lexeme A) (ts : List Lexeme) (b : Bool) → starts test ts ≡ b → guard test p ts ≡ (if b then p ts else Fault Wrong ts)
unfolding guard
guarded test p ts b s = ap (λ c. if c then p ts else Fault Wrong ts) s

type_found_by : (m depth : ℕ) (want : Want) (ts : List Lexeme) → starts (inside class_of (firsts_of want)) ts ≡ true → (depth ≡ 0 → ⊥) → body m (type_at m (depth - 1)) want ts ≡ type_at m depth want ts
type_found_by m zero want ts s n = absurd (n refl)
type_found_by m (suc d) want ts s n =
    let e : suc d - 1 ≡ d = omega arith in
    ap (λ k. body m (type_at m k) want ts) e ∙ body_is m (type_at m d) want ts ∙ sym (guarded (inside class_of (firsts_of want)) (type_body m (type_at m d) want) ts true s)

type_deep_by : (m depth : ℕ) (want : Want) (ts : List Lexeme) → starts (inside class_of (firsts_of want)) ts ≡ true → depth ≡ 0 → type_at m depth want ts ≡ Fault Deep ts
type_deep_by m zero want ts s e = guarded (inside class_of (firsts_of want)) deep ts true s
type_deep_by m (suc d) want ts s e = absurd (omega (arith, e))

type_wrong_by : (m depth : ℕ) (want : Want) (ts : List Lexeme) → starts (inside class_of (firsts_of want)) ts ≡ false → type_at m depth want ts ≡ Fault Wrong ts
type_wrong_by m zero want ts s = guarded (inside class_of (firsts_of want)) deep ts false s
type_wrong_by m (suc d) want ts s = guarded (inside class_of (firsts_of want)) (type_body m (type_at m d) want) ts false s

-- the same by the set of first tokens at hand

pub type_found : (m depth : ℕ) (want : Want) (ts : List Lexeme) (set : List ℕ) → set ≡ firsts_of want → starts (inside class_of set) ts ≡ true → (depth ≡ 0 → ⊥) → body m (type_at m (depth - 1)) want ts ≡ type_at m depth want ts
type_found m depth want ts set e s n = type_found_by m depth want ts (subst (λ l. starts (inside class_of l) ts ≡ true) e s) n

pub type_deep : (m depth : ℕ) (want : Want) (ts : List Lexeme) (set : List ℕ) → set ≡ firsts_of want → starts (inside class_of set) ts ≡ true → depth ≡ 0 → type_at m depth want ts ≡ Fault Deep ts
type_deep m depth want ts set e s n = type_deep_by m depth want ts (subst (λ l. starts (inside class_of l) ts ≡ true) e s) n

pub type_wrong : (m depth : ℕ) (want : Want) (ts : List Lexeme) (set : List ℕ) → set ≡ firsts_of want → starts (inside class_of set) ts ≡ false → type_at m depth want ts ≡ Fault Wrong ts
type_wrong m depth want ts set e s = type_wrong_by m depth want ts (subst (λ l. starts (inside class_of l) ts ≡ false) e s)

-- What is wanted, by the word of the code for it.

pub body_any : (m : ℕ) (t : Readers) (want : CodeWant) (ts : List Lexeme) → want ≡ code.AnyType → any_type m path_words t ts ≡ body m t (want_of want) ts
unfolding body
body_any m t want ts e = rw e refl

pub body_not_mut : (m : ℕ) (t : Readers) (want : CodeWant) (ts : List Lexeme) → want ≡ code.NotMut → any_type m path_words_but_mut t ts ≡ body m t (want_of want) ts
unfolding body
body_not_mut m t want ts e = rw e refl

pub body_behind_mut : (m : ℕ) (t : Readers) (want : CodeWant) (ts : List Lexeme) → want ≡ code.BehindMut → body m t (want_of want) ts ≡ made to_mut_path (keyed_steps m t) ts
unfolding body
body_behind_mut m t want ts e = rw e refl

pub body_qualified : (m : ℕ) (t : Readers) (want : CodeWant) (ts : List Lexeme) → want ≡ code.Qualified → qualified m t ts ≡ body m t (want_of want) ts
unfolding body
body_qualified m t want ts e = rw e refl

pub dyn_got : (m : ℕ) (t : Readers) (ts mid rest : List Lexeme) (x : Lexeme) (n : Named) → tok class_of (115 ∷ []) ts ≡ Got x mid → free_path m any_word t mid ≡ Got n rest → dyn_type m t ts ≡ dyn_end n rest
unfolding dyn_type
dyn_got m t ts mid rest x n e f = past_got class_of (115 ∷ []) (λ us. after dyn_end (free_path m any_word t us)) ts mid x e ∙ ap (after dyn_end) f

pub keyed_got : (m : ℕ) (t : Readers) (keys : List ℕ) (ts mid rest : List Lexeme) (x : Lexeme) (steps : List Step) (n : Named) → tok class_of keys ts ≡ Got x mid → keyed_steps m t mid ≡ Got steps rest → n ≡ to_keyed_path (x, steps)
    → keyed_path m keys t ts ≡ Got n rest
unfolding keyed_path
keyed_got m t keys ts mid rest x steps n e f g = made_got to_keyed_path (joined (tok class_of keys) (keyed_steps m t)) ts rest (x, steps) (joined_got (tok class_of keys) (keyed_steps m t) ts mid rest x steps e f) ∙ ap (λ k. Got k rest) (sym g)

pub keyed_fault : (m : ℕ) (t : Readers) (keys : List ℕ) (ts mid rest : List Lexeme) (x : Lexeme) (why : Why) → tok class_of keys ts ≡ Got x mid → keyed_steps m t mid ≡ Fault why rest → keyed_path m keys t ts ≡ Fault why rest
unfolding keyed_path
keyed_fault m t keys ts mid rest x why e f = made_fault to_keyed_path (joined (tok class_of keys) (keyed_steps m t)) ts rest why (joined_then (tok class_of keys) (keyed_steps m t) ts mid rest x why e f)

pub qualified_got : (m : ℕ) (t : Readers) (ts mid later rest : List Lexeme) (x : Lexeme) (ty path n : Named) → tok class_of (7 ∷ []) ts ≡ Got x mid → t AnyType mid ≡ Got ty later → qualifier m t later ≡ Got path rest → n ≡ to_qualified (x, (ty, path))
    → qualified m t ts ≡ Got n rest
unfolding qualified
qualified_got m t ts mid later rest x ty path n e f g h =
    made_got to_qualified (joined (tok class_of (7 ∷ [])) (joined (t AnyType) (qualifier m t))) ts rest (x, (ty, path))
    (joined_got (tok class_of (7 ∷ [])) (joined (t AnyType) (qualifier m t)) ts mid rest x (ty, path) e (joined_got (t AnyType) (qualifier m t) mid later rest ty path f g)) ∙ ap (λ k. Got k rest) (sym h)

pub qualifier_got : (m : ℕ) (t : Readers) (ts mid later rest : List Lexeme) (x y : Lexeme) (path : Named) → tok class_of (118 ∷ []) ts ≡ Got x mid → free_path m any_word t mid ≡ Got path later → tok class_of (8 ∷ []) later ≡ Got y rest → qualifier m t ts ≡ Got path rest
unfolding qualifier
qualifier_got m t ts mid later rest x y path e f g = past_got class_of (118 ∷ []) (ended class_of (free_path m any_word t) (8 ∷ [])) ts mid x e ∙ ended_got class_of (8 ∷ []) (free_path m any_word t) mid later rest path y f g

pub qualifier_fault : (m : ℕ) (t : Readers) (ts mid later rest : List Lexeme) (x : Lexeme) (path : Named) (why : Why) → tok class_of (118 ∷ []) ts ≡ Got x mid → free_path m any_word t mid ≡ Got path later → tok class_of (8 ∷ []) later ≡ Fault why rest → qualifier m t ts ≡ Fault why rest
unfolding qualifier
qualifier_fault m t ts mid later rest x path why e f g = past_got class_of (118 ∷ []) (ended class_of (free_path m any_word t) (8 ∷ [])) ts mid x e ∙ ended_fault class_of (8 ∷ []) (free_path m any_word t) mid later rest path why f g

-- a comma, and an argument behind it
pub next_is : (t : Readers) (ts after : List Lexeme) (o : Outcome Lexeme Argument) → starts (inside class_of (9 ∷ [])) ts ≡ true → after ≡ drop 1 ts → argument t after ≡ o → next_argument t ts ≡ o
next_is t ts after o s e f = past_first class_of (9 ∷ []) (argument t) ts s ∙ ap (argument t) (sym e) ∙ f
