-- Walks along the blocks of a function by their numbers.
use Rattle.std.proofs.Common.{◌≡◌, ℕ, zero, suc, ◌+◌, ◌-◌, ◌<◌, List, Ok, Err, ap, sym, ◌∙◌, arith}
use Rattle.mir_ir.specs.declared.tree.Function.{Function}
use Rattle.mir_ir.specs.declared.declarations.Declarations.{Declarations}
use Rattle.type_rules.specs.declared.refusal.Refusal.{Refusal}
use Rattle.type_rules.specs.Lookup.{block_at}
use Rattle.type_rules.specs.Code.{Refused, ◌>>>◌, block_fits, blocks_fit}

module _ (functions : List Function) (d : Declarations) (number : ℕ) (f : Function) where
  abbrev block_of : ℕ → Refused
  block_of n = block_fits functions d number f (block_at f (record { 0 = n }))

  refused_above : (n more : ℕ) (refusal : Refusal) → blocks_fit functions d number f n ≡ Err refusal → blocks_fit functions d number f (n + more) ≡ Err refusal
  refused_above n zero refusal h = let same : n + zero ≡ n = omega arith in ap (blocks_fit functions d number f) same ∙ h
  refused_above n (suc more) refusal h =
      let next : n + suc more ≡ suc (n + more) = omega arith in
      ap (blocks_fit functions d number f) next ∙ ap (λ r. r >>> block_of (n + more)) (refused_above n more refusal h)

  -- a block that is refused decides, where those below are not
  pub blocks_off : (n end : ℕ) (refusal : Refusal) → n < end → Err refusal ≡ block_of n → blocks_fit functions d number f n ≡ Ok tt → Err refusal ≡ blocks_fit functions d number f end
  blocks_off n end refusal lt refused h =
      let all : suc n + (end - suc n) ≡ end = omega arith in
      sym (ap (blocks_fit functions d number f) (sym all) ∙ refused_above (suc n) (end - suc n) refusal (λ i. h i >>> sym refused i))
