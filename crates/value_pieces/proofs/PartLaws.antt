-- The values of parts that are taken from the end.
use Rattle.std.proofs.Common.{◌≡◌, List, [], ◌∷◌, ◌++◌, reverse, refl, ap, ◌∙◌, sym}
use Rattle.std.proofs.lemmas.List.{append_assoc, reverse-append}
use Rattle.mir_grammar.specs.Values.{values_of}
use Rattle.mir_grammar.specs.declared.limits.Limited.{Limited}

values_end : {A : Type 0} (parts : List (Limited A)) (part : Limited A) → values_of (parts ++ part ∷ []) ≡ values_of parts ++ part.value ∷ []
values_end [] part = refl
values_end (p ∷ parts) part = ap (λ vs. p.value ∷ vs) (values_end parts part)

pub values_more : {A : Type 0} (all : List A) (old new : List (Limited A)) (part : Limited A) (values pushed : List A) (v : A)
    → old ≡ new ++ part ∷ [] → v ≡ part.value → pushed ≡ values ++ v ∷ [] → values_of old ++ reverse values ≡ all → values_of new ++ reverse pushed ≡ all
values_more {A} all old new part values pushed v e f g h =
    ap (λ vs. values_of new ++ reverse vs) g ∙ (ap (λ vs. values_of new ++ vs) (reverse-append values (v ∷ [])) ∙ (ap (λ x. values_of new ++ (x ∷ reverse values)) f
    ∙ (sym (append_assoc (values_of new) (part.value ∷ []) (reverse values)) ∙ (ap (λ vs. vs ++ reverse values) (sym (values_end new part)) ∙ (ap (λ ps. values_of ps ++ reverse values) (sym e) ∙ h)))))
