-- The loop over the types of a tuple.
use Rattle.std.proofs.Common.{◌≡◌, ℕ, zero, suc, ◌+◌, ◌-◌, ◌≤◌, Bool, true, false, if◌then◌else◌, List, [], ◌∷◌, ◌++◌, drop, refl, ap, ◌∙◌, sym, arith}
use Rattle.std.proofs.lemmas.List.{append_assoc, append-nil}
use Rattle.grammar_words.specs.declared.stop.Why.{Why}
use Rattle.grammar_words.specs.declared.stop.Why.TheVariants.{Spent}
use Rattle.grammar_words.specs.Grammar.{starts}
use Rattle.grammar_words.specs.Reading.{Outcome, Got, Fault, Reader, turned, pair, made, joined, choose, pick, nothing, spent}
use Rattle.grammar_words.specs.Classes.{inside, past, lead, trail, trailed}
use Rattle.grammar_words.proofs.Join.{chained_got, chained_fault}
use Rattle.grammar_words.proofs.Pick.{chosen_true, chosen_false}
use Rattle.mir_grammar.specs.Lexemes.{Lexeme, class_of}
use Rattle.mir_grammar.specs.declared.named.Named.{Named}
use Rattle.mir_grammar.specs.Types.{AnyType, Readers, type_firsts}
use Rattle.type_reader.specs.Parts.{tuple_items, item_end, with_items, items_from}
use Rattle.type_reader.proofs.Chains.{past_first}

abbrev is_comma : Lexeme → Bool
is_comma = inside class_of (9 ∷ [])

abbrev is_first : Lexeme → Bool
is_first = inside class_of type_firsts

abbrev behind_item : ℕ → Readers → Reader Lexeme (List Named × Bool)
behind_item n t = trail class_of type_firsts (9 ∷ []) (t AnyType) n

-- so many turns are made, and what is left gives behind these items what all gives
abbrev pub ItemsSoFar : ℕ → Readers → List Lexeme → ℕ → List Named → List Lexeme → Type 0
ItemsSoFar turns t ts done items rest = (done ≤ turns) × (with_items items (items_from (turns - done) t items rest) ≡ tuple_items turns t ts)

pub items_begin : (turns : ℕ) (t : Readers) (ts : List Lexeme) (items : List Named) → items ≡ [] → ItemsSoFar turns t ts 0 items ts
unfolding tuple_items items_from item_end
items_begin turns t ts items e =
    let z : turns - 0 ≡ turns = omega arith in (omega arith, rw (e, z) (none (trailed class_of type_firsts (9 ∷ []) (t AnyType) turns ts)))
  where
    none : (o : Outcome Lexeme (List Named × Bool)) → with_items [] o ≡ o
    none (Got v rest) = refl
    none (Fault why rest) = refl

item_got : (n : ℕ) (t : Readers) (items : List Named) (rest later : List Lexeme) (a : Named) → starts is_first rest ≡ true → t AnyType rest ≡ Got a later → items_from n t items rest ≡ turned lead (turned (pair a) (behind_item n t later))
unfolding made items_from
item_got n t items rest later a s e =
    chosen_true (starts is_first) (made lead (joined (t AnyType) (behind_item n t))) (item_end items) rest s ∙ ap (turned lead) (chained_got (t AnyType) (λ b. behind_item n t) rest later a e)

item_fault : (n : ℕ) (t : Readers) (items : List Named) (rest end : List Lexeme) (why : Why) → starts is_first rest ≡ true → t AnyType rest ≡ Fault why end → items_from n t items rest ≡ Fault why end
unfolding made items_from
item_fault n t items rest end why s e =
    chosen_true (starts is_first) (made lead (joined (t AnyType) (behind_item n t))) (item_end items) rest s ∙ ap (turned lead) (chained_fault (t AnyType) (λ b. behind_item n t) rest end why e)

trail_end : (n : ℕ) (t : Readers) (rest : List Lexeme) → starts is_comma rest ≡ false → behind_item n t rest ≡ Got ([], false) rest
trail_end zero t rest s = chosen_false (starts is_comma) spent (nothing ([], false)) rest s
trail_end (suc n) t rest s =
    chosen_false (starts is_comma) (past class_of (9 ∷ []) (pick is_first (made lead (joined (t AnyType) (behind_item n t))) (nothing ([], true)))) (nothing ([], false)) rest s

end_behind : (items : List Named) (a : Named) (ts : List Lexeme) → item_end (items ++ a ∷ []) ts ≡ Got ([], true) ts
unfolding item_end
end_behind [] a ts = refl
end_behind (b ∷ items) a ts = refl

-- items_from behind an item
from_more : (n : ℕ) (t : Readers) (items : List Named) (a : Named) (ts : List Lexeme) → pick is_first (made lead (joined (t AnyType) (behind_item n t))) (nothing ([], true)) ts ≡ items_from n t (items ++ a ∷ []) ts
unfolding items_from choose
from_more n t items a ts = ap (λ o. if starts is_first ts then made lead (joined (t AnyType) (behind_item n t)) ts else o) (sym (end_behind items a ts))

trail_more : (n : ℕ) (t : Readers) (items : List Named) (a : Named) (rest : List Lexeme) → starts is_comma rest ≡ true → behind_item (suc n) t rest ≡ items_from n t (items ++ a ∷ []) (drop 1 rest)
trail_more n t items a rest s =
    chosen_true (starts is_comma) (past class_of (9 ∷ []) (pick is_first (made lead (joined (t AnyType) (behind_item n t))) (nothing ([], true)))) (nothing ([], false)) rest s
    ∙ past_first class_of (9 ∷ []) (pick is_first (made lead (joined (t AnyType) (behind_item n t))) (nothing ([], true))) rest s
    ∙ from_more n t items a (drop 1 rest)

lead_with : (items : List Named) (a : Named) (o : Outcome Lexeme (List Named × Bool)) → with_items items (turned lead (turned (pair a) o)) ≡ with_items (items ++ a ∷ []) o
lead_with items a (Got v rest) = ap (λ l. Got (l, v.1) rest) (sym (append_assoc items (a ∷ []) v.0))
lead_with items a (Fault why rest) = refl

pub items_fault : (turns : ℕ) (t : Readers) (ts : List Lexeme) (done : ℕ) (items : List Named) (rest end : List Lexeme) (why : Why)
    → ItemsSoFar turns t ts done items rest → starts is_first rest ≡ true → t AnyType rest ≡ Fault why end → tuple_items turns t ts ≡ Fault why end
items_fault turns t ts done items rest end why h s e = sym h.1 ∙ ap (with_items items) (item_fault (turns - done) t items rest end why s e)

pub items_last : (turns : ℕ) (t : Readers) (ts : List Lexeme) (done : ℕ) (items new : List Named) (rest later : List Lexeme) (a : Named)
    → ItemsSoFar turns t ts done items rest → starts is_first rest ≡ true → t AnyType rest ≡ Got a later → new ≡ items ++ a ∷ [] → starts is_comma later ≡ false → tuple_items turns t ts ≡ Got (new, false) later
items_last turns t ts done items new rest later a h s e n c =
    sym h.1 ∙ ap (with_items items) (item_got (turns - done) t items rest later a s e) ∙ lead_with items a (behind_item (turns - done) t later)
    ∙ ap (with_items (items ++ a ∷ [])) (trail_end (turns - done) t later c) ∙ ap (λ l. Got (l, false) later) (append-nil (items ++ a ∷ []) ∙ sym n)

pub items_spent : (turns : ℕ) (t : Readers) (ts : List Lexeme) (done : ℕ) (items : List Named) (rest later : List Lexeme) (a : Named)
    → ItemsSoFar turns t ts done items rest → starts is_first rest ≡ true → t AnyType rest ≡ Got a later → starts is_comma later ≡ true → done ≡ turns → tuple_items turns t ts ≡ Fault Spent later
items_spent turns t ts done items rest later a h s e c d =
    let z : turns - done ≡ 0 = omega arith in
    sym h.1 ∙ ap (with_items items) (item_got (turns - done) t items rest later a s e) ∙ lead_with items a (behind_item (turns - done) t later)
    ∙ ap (with_items (items ++ a ∷ [])) (ap (λ k. behind_item k t later) z ∙ chosen_true (starts is_comma) spent (nothing ([], false)) later c)

pub items_more : (turns : ℕ) (t : Readers) (ts : List Lexeme) (done : ℕ) (items new : List Named) (rest later after : List Lexeme) (a : Named)
    → ItemsSoFar turns t ts done items rest → starts is_first rest ≡ true → t AnyType rest ≡ Got a later → new ≡ items ++ a ∷ [] → starts is_comma later ≡ true → (done ≡ turns → ⊥) → after ≡ drop 1 later
    → ItemsSoFar turns t ts (done + 1) new after
items_more turns t ts done items new rest later after a h s e n c d f =
    let l = h.0 in
    let k : turns - done ≡ suc (turns - (done + 1)) = grind arith in (
      grind arith,
      rw (n, f) (
          ap (with_items (items ++ a ∷ [])) (sym (ap (λ i. behind_item i t later) k ∙ trail_more (turns - (done + 1)) t items a later c))
          ∙ sym (lead_with items a (behind_item (turns - done) t later))
          ∙ ap (with_items items) (sym (item_got (turns - done) t items rest later a s e)) ∙ h.1),
    )

pub items_end : (turns : ℕ) (t : Readers) (ts : List Lexeme) (done : ℕ) (items : List Named) (rest : List Lexeme)
    → ItemsSoFar turns t ts done items rest → starts is_first rest ≡ false → with_items items (item_end items rest) ≡ tuple_items turns t ts
unfolding items_from
items_end turns t ts done items rest h s = ap (with_items items) (sym (chosen_false (starts is_first) (made lead (joined (t AnyType) (behind_item (turns - done) t))) (item_end items) rest s)) ∙ h.1
