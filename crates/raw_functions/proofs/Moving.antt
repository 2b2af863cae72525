-- A list that is taken from its end.
use Rattle.std.proofs.Common.{◌≡◌, List, [], ◌∷◌, ◌++◌, reverse, sym, ◌∙◌, ap}
use Rattle.std.proofs.lemmas.List.{append_assoc, reverse-append}

pub moved_on : {T : Type 0} (items rest moved new whole : List T) (x : T) → items ++ reverse moved ≡ whole → items ≡ rest ++ x ∷ [] → new ≡ moved ++ x ∷ [] → rest ++ reverse new ≡ whole
moved_on items rest moved new whole x h e f = ap (λ l. rest ++ reverse l) f ∙ ap (λ l. rest ++ l) (reverse-append moved (x ∷ [])) ∙ sym (append_assoc rest (x ∷ []) (reverse moved)) ∙ ap (λ l. l ++ reverse moved) (sym e) ∙ h
