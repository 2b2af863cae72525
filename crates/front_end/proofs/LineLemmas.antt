-- The line of a fault of the declaration file.
use Rattle.std.proofs.Common.{◌≡◌, ℕ, List, ◌++◌, ap, sym, ◌∙◌}
use Rattle.std.specs.Prelude.{codes}
use Rattle.decl_tree.specs.declared.fault.DeclKind.{DeclKind}
use Rattle.front_end.specs.declared.refusal.Refusal.{Refusal}
use Rattle.front_end.specs.declared.refusal.Refusal.TheVariants as refusal
use Rattle.front_end.specs.Lines.{declaration_word, refusal_text}

pub declaration_line : (old new word : List ℕ) (r : Refusal) (kind : DeclKind) (path : List ℕ) → r ≡ refusal.Declaration kind path → word ≡ declaration_word kind
    → new ≡ old ++ (codes "error: declarations: " ++ word ++ codes " at " ++ path) → new ≡ old ++ refusal_text r
unfolding refusal_text
declaration_line old new word r kind path is same e =
    e ∙ ap (λ w. old ++ (codes "error: declarations: " ++ w ++ codes " at " ++ path)) same ∙ ap (λ s. old ++ refusal_text s) (sym is)
