-- How scopes are read, and what items in a row are together.
use Rattle.std.proofs.Common.{◌≡◌, ℕ, zero, suc, ◌-◌, Bool, true, false, if◌then◌else◌, List, [], ◌∷◌, ◌++◌, length, Result, Ok, Err, refl, ap, ◌∙◌, sym, arith}
use Rattle.std.proofs.lemmas.List.{append_assoc, append-nil}
use Rattle.grammar_words.specs.declared.stop.Why.TheVariants.{Wrong, Deep}
use Rattle.grammar_words.specs.declared.stop.Stop.{Stop}
use Rattle.grammar_words.specs.Grammar.{starts}
use Rattle.grammar_words.specs.Reading.{Outcome, Fault, Reader, guard, deep}
use Rattle.grammar_words.specs.Classes.{inside}
use Rattle.grammar_words.specs.Coded.{counted, stop_at}
use Rattle.mir_grammar.specs.declared.trees.Declared.{Declared}
use Rattle.mir_grammar.specs.Lexemes.{Lexeme, class_of}
use Rattle.mir_grammar.specs.Types.{AnyType}
use Rattle.mir_grammar.specs.Functions.{concat, to_items, scope_body}
use Rattle.value_reader.specs.Levels.{types}
use Rattle.block_reader.specs.Scopes.{scopes, items_part, braced_items_part, scope_name_part, scope_inside_at}

guarded : {A : Type 0} (test : Lexeme → Bool) (p : Reader Lexeme A) (ts : List Lexeme) (b : Bool) → starts test ts ≡ b → guard test p ts ≡ (if b then p ts else Fault Wrong ts)
unfolding guard
guarded test p ts b s = ap (λ c. if c then p ts else Fault Wrong ts) s

body_is : (m d n : ℕ) (ts : List Lexeme) → scope_inside_at m d n ts ≡ scope_body m (types m d AnyType) (scopes m d n) ts
unfolding scope_body items_part braced_items_part scope_name_part
body_is m d n ts = refl

pub scope_wrong : (m d n : ℕ) (ts : List Lexeme) (s : Stop) → starts (inside class_of (178 ∷ [])) ts ≡ false → s ≡ stop_at Wrong (length ts) → ◌≡◌ {A = Result (List Declared × List Lexeme) Stop} (Err s) (counted (scopes m d n ts))
scope_wrong m d zero ts s e w = ap (λ u. Err u) w ∙ ap counted (sym (guarded (inside class_of (178 ∷ [])) deep ts false e))
scope_wrong m d (suc n) ts s e w = ap (λ u. Err u) w ∙ ap counted (sym (guarded (inside class_of (178 ∷ [])) (scope_body m (types m d AnyType) (scopes m d n)) ts false e))

pub scope_deep : (m d n : ℕ) (ts : List Lexeme) (s : Stop) → starts (inside class_of (178 ∷ [])) ts ≡ true → n ≡ 0 → s ≡ stop_at Deep (length ts) → ◌≡◌ {A = Result (List Declared × List Lexeme) Stop} (Err s) (counted (scopes m d n ts))
scope_deep m d zero ts s e z w = ap (λ u. Err u) w ∙ ap counted (sym (guarded (inside class_of (178 ∷ [])) deep ts true e))
scope_deep m d (suc n) ts s e z w = absurd (omega arith)

pub scope_found : (m d n : ℕ) (ts : List Lexeme) → starts (inside class_of (178 ∷ [])) ts ≡ true → (n ≡ 0 → ⊥) → counted (scope_inside_at m d (n - 1) ts) ≡ counted (scopes m d n ts)
scope_found m d zero ts e h = absurd (h refl)
scope_found m d (suc n) ts e h =
    let k : suc n - 1 ≡ n = omega arith in
    ap (λ j. counted (scope_inside_at m d j ts)) k ∙ ap counted (body_is m d n ts ∙ sym (guarded (inside class_of (178 ∷ [])) (scope_body m (types m d AnyType) (scopes m d n)) ts true e))

concat_more : (front : List (List Declared)) (a : List Declared) → concat (front ++ a ∷ []) ≡ concat front ++ a
concat_more [] a = append-nil a
concat_more (ds ∷ front) a = ap (λ l. ds ++ l) (concat_more front a) ∙ sym (append_assoc ds (concat front) a)

pub items_more : (front : List (List Declared)) (g new a : List Declared) → g ≡ to_items front → new ≡ g ++ a → new ≡ to_items (front ++ a ∷ [])
unfolding to_items
items_more front g new a e n = n ∙ (ap (λ l. l ++ a) e ∙ sym (concat_more front a))
