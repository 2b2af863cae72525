-- What is told of two files, from what is told of the program that they make.
use Rattle.std.proofs.Common.{◌≡◌, inl, inr, ℕ, List, Some, Result, Ok, Err, subst, sym, ap, ◌∙◌}
use Rattle.std.proofs.lemmas.Option.{none-some}
use Rattle.mir_ir.specs.declared.tree.Function.{Function}
use Rattle.mir_ir.specs.declared.declarations.Declarations.{Declarations}
use Rattle.mir_text.specs.Answers.{Means}
use Rattle.decl_file.specs.File.{declared_by}
use Rattle.decl_file.specs.declared.fault.DeclFault.{DeclFault}
use Rattle.decl_file.specs.declared.fault.DeclFault.TheVariants as declaration
use Rattle.mir_program.specs.Joined.{Joined}
use Rattle.typed_program.specs.WellTyped.{IsWellTyped}
use Rattle.front_end.specs.Front.{IsRead, IsRefused, IsTold, by_declarations, by_layouts, by_types}
use Rattle.front_end.specs.Refusals.{declaration_refusal}
use Rattle.front_end.specs.Steps.{IsJudged}
use Rattle.front_end.specs.declared.refusal.Refusal.{Refusal}

pub read_of : (m d : List ℕ) (p : Joined) (fs : List Function) (ds : Declarations) → p ≡ record { functions = fs; declarations = ds } → Means m fs → declared_by d ≡ Ok ds → IsRead m d p
read_of m d p fs ds e means declared = subst (IsRead m d) (sym e) (record { functions = means; declarations = declared })

pub judged_told : (m d : List ℕ) (p : Joined) (r : Result Joined Refusal) → IsRead m d p → IsJudged p r → IsTold m d r
judged_told m d p (Ok q) read h = (subst (IsRead m d) (sym h.0) read, subst IsWellTyped (sym h.0) h.1)
judged_told m d p (Err told) read h =
    elim h [ inl lay ↦ by_layouts p lay.0 read lay.1 lay.2 | inr misfit ↦ by_types p misfit.1.0 read misfit.0 misfit.1.1 misfit.1.2 ]

no_want : (fault : DeclFault) (r : Refusal) → declaration_refusal fault ≡ Some r → fault ≡ declaration.Memory → ⊥
no_want fault r told e = none-some r (sym (ap declaration_refusal e) ∙ told)

pub declarations_told : (m d : List ℕ) (fs : List Function) (fault : DeclFault) (r : Refusal) → Means m fs → ((fault ≡ declaration.Memory → ⊥) → declared_by d ≡ Err fault) → declaration_refusal fault ≡ Some r → IsRefused m d r
declarations_told m d fs fault r means err told = by_declarations fs fault means (err (no_want fault r told)) told
