-- Types that have another one inside, read by their front and their end.
use Rattle.std.proofs.Common.{◌≡◌, ◌==◌, ℕ, Bool, true, false, if◌then◌else◌, List, [], ◌∷◌, drop, Some, None, refl, ap, ◌∙◌, sym}
use Rattle.grammar_words.specs.Grammar.{starts}
use Rattle.grammar_words.specs.Reading.{Outcome, Got, Fault, Reader, after, turned, pair, chained, made, joined, choose, pick, nothing, first, second}
use Rattle.grammar_words.specs.Classes.{inside, tok, past, ended}
use Rattle.mir_grammar.specs.Lexemes.{Lexeme, class_of}
use Rattle.mir_grammar.specs.declared.named.Named.{Named}
use Rattle.mir_grammar.specs.Names.{to_array, to_ref, to_raw}
use Rattle.mir_grammar.specs.Types as grammar
use Rattle.mir_grammar.specs.Types.{Readers, colons, perhaps_token, array_end_at, bound_at, array_at, ref_at, ref_target_at, raw_at, marked, unmarked}
use Rattle.mir_pieces.specs.declared.want.Want.{Want}
use Rattle.mir_pieces.specs.declared.want.Want.TheVariants.{AnyType, NotMut, BehindMut}
use Rattle.mir_pieces.specs.Wants.{want_of}
use Rattle.type_reader.specs.declared.wrapper.Wrapper.{Wrapper}
use Rattle.type_reader.specs.declared.wrapper.Wrapper.TheVariants.{Array, Ref, Raw}
use Rattle.type_reader.specs.Wrappers.{array_front, lifetime_front, target_front, ref_front, raw_front, wrapper_front, count_at, counted_of, array_end, wrapper_end, wrapped_at}
use Rattle.type_reader.proofs.Chains.{past_first}

turned_second : {A B K : Type 0} (a : A) (o : Outcome K B) → turned second (turned (pair a) o) ≡ o
turned_second a (Got b rest) = refl
turned_second a (Fault why rest) = refl

-- what is made of a part is made of what ends with it
ended_made : {A B K : Type 0} (f : A → B) (c : K → ℕ) (p : Reader K A) (set : List ℕ) (ts : List K) → ended c (made f p) set ts ≡ turned f (ended c p set ts)
unfolding made chained
ended_made {A} {B} {K} f c p set ts = by_first (p ts)
  where
    by_last : (a : A) (o : Outcome K K) → turned first (turned (pair (f a)) o) ≡ turned f (turned first (turned (pair a) o))
    by_last a (Got x rest) = refl
    by_last a (Fault why rest) = refl

    by_first : (o : Outcome K A) → turned first (after (λ b r. turned (pair b) (tok c set r)) (turned f o)) ≡ turned f (turned first (after (λ b r. turned (pair b) (tok c set r)) o))
    by_first (Got a rest) = by_last a (tok c set rest)
    by_first (Fault why rest) = refl

past_made : {A B K : Type 0} (f : A → B) (c : K → ℕ) (set : List ℕ) (p : Reader K A) (q : Reader K B) (ts : List K) → ((r : List K) → q r ≡ turned f (p r)) → past c set q ts ≡ turned f (past c set p ts)
unfolding made chained
past_made {A} {B} {K} f c set p q ts h = by_first (tok c set ts)
  where
    by_last : (x : K) (o : Outcome K A) → turned second (turned (pair x) (turned f o)) ≡ turned f (turned second (turned (pair x) o))
    by_last x (Got a rest) = refl
    by_last x (Fault why rest) = refl

    by_first : (o : Outcome K K) → turned second (after (λ x r. turned (pair x) (q r)) o) ≡ turned f (turned second (after (λ x r. turned (pair x) (p r)) o))
    by_first (Got x rest) = ap (λ o. turned second (turned (pair x) o)) (h rest) ∙ by_last x (p rest)
    by_first (Fault why rest) = refl

abbrev inner : Readers → Wrapper × Want → Reader Lexeme Named
inner t v rest = after (wrapper_end v.0) (t (want_of v.1) rest)

count_is : (ts : List Lexeme) → past class_of (10 ∷ []) (ended class_of (made Some (tok class_of (35 ∷ []))) (4 ∷ [])) ts ≡ turned Some (count_at ts)
unfolding count_at
count_is ts = past_made Some class_of (10 ∷ []) (ended class_of (tok class_of (35 ∷ [])) (4 ∷ [])) (ended class_of (made Some (tok class_of (35 ∷ []))) (4 ∷ [])) ts (λ r. ended_made Some class_of (tok class_of (35 ∷ [])) (4 ∷ []) r)

end_is : (n : Named) (ts : List Lexeme) → turned to_array (turned (pair n) (array_end_at ts)) ≡ array_end n ts
unfolding array_end choose made
end_is n ts = by_test (starts (inside class_of (4 ∷ [])) ts)
  where
    empty : (o : Outcome Lexeme Lexeme) → turned to_array (turned (pair n) (turned (λ t. None) o)) ≡ turned (λ t. to_array (n, None)) o
    empty (Got x rest) = refl
    empty (Fault why rest) = refl

    full : (o : Outcome Lexeme Lexeme) → turned to_array (turned (pair n) (turned Some o)) ≡ turned (counted_of n) o
    full (Got x rest) = refl
    full (Fault why rest) = refl

    by_test : (b : Bool) → turned to_array (turned (pair n) (if b then turned (λ t. None) (tok class_of (4 ∷ []) ts) else past class_of (10 ∷ []) (ended class_of (made Some (tok class_of (35 ∷ []))) (4 ∷ [])) ts))
        ≡ (if b then turned (λ t. to_array (n, None)) (tok class_of (4 ∷ []) ts) else turned (counted_of n) (count_at ts))
    by_test true = empty (tok class_of (4 ∷ []) ts)
    by_test false = ap (λ o. turned to_array (turned (pair n) o)) (count_is ts) ∙ full (count_at ts)

array_is : (t : Readers) (ts : List Lexeme) → starts (inside class_of (3 ∷ [])) ts ≡ true → array_at t ts ≡ after (inner t) (array_front ts)
unfolding made chained array_front wrapper_end
array_is t ts s =
    ap (turned to_array) (past_first class_of (3 ∷ []) (joined (t grammar.AnyType) array_end_at) ts s)
    ∙ by_inner (t grammar.AnyType (drop 1 ts))
    ∙ ap (after (inner t)) (sym (past_first class_of (3 ∷ []) (nothing (Array, AnyType)) ts s))
  where
    by_inner : (o : Outcome Lexeme Named) → turned to_array (after (λ n r. turned (pair n) (array_end_at r)) o) ≡ after array_end o
    by_inner (Got n rest) = end_is n rest
    by_inner (Fault why rest) = refl

-- a reference of a target, by whether it is marked
ref_of : (o : Outcome Lexeme Named) → turned to_ref (turned unmarked o) ≡ after (wrapper_end (Ref false)) o
unfolding wrapper_end
ref_of (Got n rest) = refl
ref_of (Fault why rest) = refl

mut_of : (o : Outcome Lexeme Named) → turned to_ref (turned marked o) ≡ after (wrapper_end (Ref true)) o
unfolding wrapper_end
mut_of (Got n rest) = refl
mut_of (Fault why rest) = refl

raw_mut_of : (o : Outcome Lexeme Named) → turned to_raw (turned marked o) ≡ after (wrapper_end (Raw true)) o
unfolding wrapper_end
raw_mut_of (Got n rest) = refl
raw_mut_of (Fault why rest) = refl

raw_const_of : (o : Outcome Lexeme Named) → turned to_raw (turned unmarked o) ≡ after (wrapper_end (Raw false)) o
unfolding wrapper_end
raw_const_of (Got n rest) = refl
raw_const_of (Fault why rest) = refl

behind_mut : (t : Readers) (ts : List Lexeme) (b : Bool) → turned to_ref (if b then turned unmarked (t grammar.BehindMut ts) else turned marked (t grammar.AnyType ts)) ≡ after (inner t) (if b then Got (Ref false, BehindMut) ts else Got (Ref true, AnyType) ts)
behind_mut t ts true = ref_of (t grammar.BehindMut ts)
behind_mut t ts false = mut_of (t grammar.AnyType ts)

target_is : (t : Readers) (ts : List Lexeme) → turned to_ref (ref_target_at t ts) ≡ after (inner t) (target_front ts)
unfolding target_front choose made
target_is t ts = by_test (starts (inside class_of (117 ∷ [])) ts) refl
  where
    by_test : (b : Bool) → starts (inside class_of (117 ∷ [])) ts ≡ b
        → turned to_ref (if b then past class_of (117 ∷ []) (pick (inside class_of colons) (made unmarked (t grammar.BehindMut)) (made marked (t grammar.AnyType))) ts else turned unmarked (t grammar.NotMut ts))
        ≡ after (inner t) (if b then past class_of (117 ∷ []) (pick (inside class_of colons) (nothing (Ref false, BehindMut)) (nothing (Ref true, AnyType))) ts else Got (Ref false, NotMut) ts)
    by_test true s =
        ap (turned to_ref) (past_first class_of (117 ∷ []) (pick (inside class_of colons) (made unmarked (t grammar.BehindMut)) (made marked (t grammar.AnyType))) ts s)
        ∙ behind_mut t (drop 1 ts) (starts (inside class_of colons) (drop 1 ts))
        ∙ ap (after (inner t)) (sym (past_first class_of (117 ∷ []) (pick (inside class_of colons) (nothing (Ref false, BehindMut)) (nothing (Ref true, AnyType))) ts s))
    by_test false s = ref_of (t grammar.NotMut ts)

ref_is : (t : Readers) (ts : List Lexeme) → starts (inside class_of (15 ∷ [])) ts ≡ true → ref_at t ts ≡ after (inner t) (ref_front ts)
unfolding made chained ref_front lifetime_front
ref_is t ts s =
    ap (turned to_ref) (past_first class_of (15 ∷ []) (made second (joined (perhaps_token (42 ∷ [])) (ref_target_at t))) ts s)
    ∙ by_lifetime (perhaps_token (42 ∷ []) (drop 1 ts))
    ∙ ap (after (inner t)) (sym (past_first class_of (15 ∷ []) (made second (joined (perhaps_token (42 ∷ [])) target_front)) ts s))
  where
    by_lifetime : (o : Outcome Lexeme Bool) → turned to_ref (turned second (after (λ b r. turned (pair b) (ref_target_at t r)) o)) ≡ after (inner t) (turned second (after (λ b r. turned (pair b) (target_front r)) o))
    by_lifetime (Got b rest) = ap (turned to_ref) (turned_second b (ref_target_at t rest)) ∙ target_is t rest ∙ ap (after (inner t)) (sym (turned_second b (target_front rest)))
    by_lifetime (Fault why rest) = refl

raw_is : (t : Readers) (ts : List Lexeme) → starts (inside class_of (16 ∷ [])) ts ≡ true → raw_at t ts ≡ after (inner t) (raw_front ts)
unfolding made chained raw_front choose
raw_is t ts s =
    ap (turned to_raw) (past_first class_of (16 ∷ []) (pick (inside class_of (117 ∷ [])) (past class_of (117 ∷ []) (made marked (t grammar.AnyType))) (past class_of (116 ∷ []) (made unmarked (t grammar.AnyType)))) ts s)
    ∙ by_test (drop 1 ts) (starts (inside class_of (117 ∷ [])) (drop 1 ts)) refl
    ∙ ap (after (inner t)) (sym (past_first class_of (16 ∷ []) (pick (inside class_of (117 ∷ [])) (past class_of (117 ∷ []) (nothing (Raw true, AnyType))) (past class_of (116 ∷ []) (nothing (Raw false, AnyType)))) ts s))
  where
    by_const : (o : Outcome Lexeme Lexeme) → turned to_raw (turned second (after (λ x r. turned (pair x) (turned unmarked (t grammar.AnyType r))) o)) ≡ after (inner t) (turned second (after (λ x r. turned (pair x) (Got (Raw false, AnyType) r)) o))
    by_const (Got x rest) = ap (turned to_raw) (turned_second x (turned unmarked (t grammar.AnyType rest))) ∙ raw_const_of (t grammar.AnyType rest)
    by_const (Fault why rest) = refl

    const_is : (us : List Lexeme) → turned to_raw (past class_of (116 ∷ []) (made unmarked (t grammar.AnyType)) us) ≡ after (inner t) (past class_of (116 ∷ []) (nothing (Raw false, AnyType)) us)
    const_is us = by_const (tok class_of (116 ∷ []) us)

    by_test : (us : List Lexeme) (b : Bool) → starts (inside class_of (117 ∷ [])) us ≡ b
        → turned to_raw (if b then past class_of (117 ∷ []) (made marked (t grammar.AnyType)) us else past class_of (116 ∷ []) (made unmarked (t grammar.AnyType)) us)
        ≡ after (inner t) (if b then past class_of (117 ∷ []) (nothing (Raw true, AnyType)) us else past class_of (116 ∷ []) (nothing (Raw false, AnyType)) us)
    by_test us true h = ap (turned to_raw) (past_first class_of (117 ∷ []) (made marked (t grammar.AnyType)) us h) ∙ raw_mut_of (t grammar.AnyType (drop 1 us)) ∙ ap (after (inner t)) (sym (past_first class_of (117 ∷ []) (nothing (Raw true, AnyType)) us h))
    by_test us false h = const_is us

-- the tests of three forms are one
starts_any : (ts : List Lexeme) → starts (inside class_of (3 ∷ 15 ∷ 16 ∷ [])) ts ≡ (if starts (inside class_of (3 ∷ [])) ts then true else (if starts (inside class_of (15 ∷ [])) ts then true else starts (inside class_of (16 ∷ [])) ts))
unfolding inside
starts_any [] = refl
starts_any (x ∷ ts) = by_tests (3 == class_of x) (15 == class_of x) (16 == class_of x)
  where
    by_tests : (a b c : Bool) → (if a then true else (if b then true else (if c then true else false)))
        ≡ (if (if a then true else false) then true else (if (if b then true else false) then true else (if c then true else false)))
    by_tests true b c = refl
    by_tests false true c = refl
    by_tests false false c = refl

pub wrappers_are : (t : Readers) (q : Reader Lexeme Named) (ts : List Lexeme)
    → pick (inside class_of (3 ∷ [])) (array_at t) (pick (inside class_of (15 ∷ [])) (ref_at t) (pick (inside class_of (16 ∷ [])) (raw_at t) q)) ts ≡ pick (inside class_of (3 ∷ 15 ∷ 16 ∷ [])) (wrapped_at t) q ts
unfolding choose wrapped_at wrapper_front
wrappers_are t q ts = by_tests (starts (inside class_of (3 ∷ [])) ts) (starts (inside class_of (15 ∷ [])) ts) (starts (inside class_of (16 ∷ [])) ts) (starts (inside class_of (3 ∷ 15 ∷ 16 ∷ [])) ts) refl refl refl (starts_any ts)
  where
    by_tests : (a b c d : Bool) → starts (inside class_of (3 ∷ [])) ts ≡ a → starts (inside class_of (15 ∷ [])) ts ≡ b → starts (inside class_of (16 ∷ [])) ts ≡ c → d ≡ (if a then true else (if b then true else c))
        → (if a then array_at t ts else (if b then ref_at t ts else (if c then raw_at t ts else q ts)))
        ≡ (if d then after (inner t) (if a then array_front ts else (if b then ref_front ts else raw_front ts)) else q ts)
    by_tests true b c true ea eb ec ed = array_is t ts ea
    by_tests true b c false ea eb ec ed = cc
    by_tests false true c true ea eb ec ed = ref_is t ts eb
    by_tests false true c false ea eb ec ed = cc
    by_tests false false true true ea eb ec ed = raw_is t ts ec
    by_tests false false true false ea eb ec ed = cc
    by_tests false false false true ea eb ec ed = cc
    by_tests false false false false ea eb ec ed = refl
