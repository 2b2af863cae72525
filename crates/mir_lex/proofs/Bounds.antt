-- What is found at the front lies within the bytes.
use Rattle.std.proofs.Common.{◌≡◌, inl, inr, ℕ, ◌<◌, ◌≤◌, List, [], ◌∷◌, ◌++◌, length, Ok, Err, sym, ap, arith, length-append}
use Rattle.mir_lex.specs.declared.fault.FaultKind.{FaultKind}
use Rattle.mir_lex.specs.declared.fault.FaultKind.TheVariants as fault
use Rattle.mir_lex.specs.declared.front.Found.{Found}
use Rattle.mir_lex.specs.declared.front.Fault.{Fault}
use Rattle.mir_lex.specs.Tokens.{IsFault}
use Rattle.mir_lex.specs.Lexing.{token_at}
use Rattle.mir_lex.proofs.Runs.{same_err}
use Rattle.mir_lex.proofs.TokenLaws.{token_takes}
use Rattle.mir_lex.proofs.FaultLaws.{fault_takes}

nothing_found : (f : Found) → token_at [] ≡ Ok f → ⊥
unfolding token_at
nothing_found f h = cc

nothing_there : (f : Fault) → token_at [] ≡ Err f → f.skip ≡ 0
unfolding token_at
nothing_there f h = sym (ap (λ (g : Fault). g.skip) (same_err (record { kind = fault.BadByte; skip = 0 }) f h))

pub found_within : (bytes : List ℕ) (f : Found) → token_at bytes ≡ Ok f → f.size ≤ length bytes
found_within [] f h = absurd (nothing_found f h)
found_within (b ∷ rest) f h = let i = token_takes b rest f h in let e = ap length i.joins in let s = i.size in omega (arith, length-append i.text i.rest)

within_at : (k : FaultKind) (skip : ℕ) (bytes : List ℕ) → IsFault k skip bytes → 0 < length bytes → skip ≤ length bytes
within_at fault.BadByte skip bytes (inl h) l = let e = h.0 in omega arith
within_at fault.BadByte skip bytes (inr g) l = let e = ap length g.3 in let s = g.7 in omega (arith, length-append (g.0 ++ g.1) g.2)
within_at fault.OpenText skip bytes h l = let e = h.0 in omega arith
within_at fault.NumberTooWide skip bytes h l = let e = h.0 in omega arith
within_at fault.NameTooLong skip bytes (inl h) l = let e = h.0 in omega arith
within_at fault.NameTooLong skip bytes (inr h) l = let e = h.0 in omega arith

pub fault_within : (bytes : List ℕ) (f : Fault) → token_at bytes ≡ Err f → f.skip ≤ length bytes
fault_within [] f h = let e = nothing_there f h in omega arith
fault_within (b ∷ rest) f h = within_at f.kind f.skip (b ∷ rest) (fault_takes b rest f h) (omega arith)
