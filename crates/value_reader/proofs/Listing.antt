-- Loops that add to a list.
use Rattle.std.proofs.Common.{◌≡◌, ℕ, Bool, List, [], ◌∷◌, ◌++◌, ap, ◌∙◌, sym, subst}
use Rattle.std.proofs.lemmas.List.{append_assoc, append-nil}
use Rattle.grammar_words.specs.Reading.{Reader, many}
use Rattle.grammar_words.specs.Coded.{behind}
use Rattle.value_pieces.specs.Onward.{Onward}
use Rattle.value_pieces.proofs.Going.{onward_begin}

pub onward_first : {K A : Type 0} (test : K → Bool) (p : Reader K A) (turns : ℕ) (ts : List K) (first : A) (front empty : List A) → front ≡ empty ++ first ∷ [] → empty ≡ []
    → Onward test p turns (behind (first ∷ []) (many test p turns ts)) 0 (λ more. front ++ more) ts
onward_first test p turns ts first front empty e f = subst (λ x. Onward test p turns (behind (first ∷ []) (many test p turns ts)) 0 (λ more. x ++ more) ts)
    (sym (e ∙ ap (λ l. l ++ first ∷ []) f)) (onward_begin test p turns (λ more. (first ∷ []) ++ more) ts)

pub list_more : {A : Type 0} (old new : List A) (a : A) → new ≡ old ++ a ∷ [] → (as_ : List A) → old ++ (a ∷ as_) ≡ new ++ as_
list_more old new a e as_ = rw e (sym (append_assoc old (a ∷ []) as_))

pub list_end : {A : Type 0} (items all : List A) → all ≡ items → all ≡ items ++ []
list_end items all e = e ∙ sym (append-nil items)
