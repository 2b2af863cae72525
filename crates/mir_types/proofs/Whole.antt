-- The typing of a program is that of its entries, and then that of its functions.
use Rattle.std.proofs.Common.{◌≡◌, ℕ, List, Ok, Err, Result, IfOk, ap, subst, sym, ◌∙◌}
use Rattle.vk_core.specs.declared.memory.NoMemory.{NoMemory}
use Rattle.mir_ir.specs.declared.declarations.Declarations.{Declarations}
use Rattle.mir_ir.specs.declared.tree.Function.{Function}
use Rattle.type_rules.specs.declared.refusal.Refusal.{Refusal}
use Rattle.type_rules.specs.Code.{Refused, functions_fit, ◌>>>◌}
use Rattle.type_rules.specs.Entries.{declarations_fit, typing}

-- the entries are refused
pub by_entries : (fs : List Function) (d : Declarations) (entries : Refused) (r : Refusal) → entries ≡ declarations_fit fs d → entries ≡ Err r → Err r ≡ typing fs d
unfolding typing
by_entries fs d entries r told refused = ap (λ a. a >>> functions_fit fs d 0 fs) (sym refused ∙ told)

-- the entries fit
by_functions : (fs : List Function) (d : Declarations) (entries fits : Refused) → entries ≡ declarations_fit fs d → entries ≡ Ok tt → fits ≡ functions_fit fs d 0 fs → fits ≡ typing fs d
unfolding typing
by_functions fs d entries fits told fine all = all ∙ ap (λ a. a >>> functions_fit fs d 0 fs) (sym fine ∙ told)

pub functions_told : (fs gs : List Function) (d : Declarations) (entries : Refused) (result : Result Refused NoMemory) → gs ≡ fs → entries ≡ declarations_fit fs d → entries ≡ Ok tt
    → IfOk result (λ fits. fits ≡ functions_fit gs d 0 gs) → IfOk result (λ fits. fits ≡ typing fs d)
functions_told fs gs d entries (Ok fits) same told fine all = by_functions fs d entries fits told fine (subst (λ hs. fits ≡ functions_fit hs d 0 hs) same all)
functions_told fs gs d entries (Err e) same told fine all = tt
