-- Programs that are well made, and some that are not.
use Rattle.std.proofs.Common.{◌≡◌, ℕ, Bool, true, false, true≢false, List, [], ◌∷◌, All, inl, inr, refl, sym, subst, arith}
use Rattle.std.proofs.lemmas.List.Elements.{All-cons}
use Rattle.mir_ir.specs.declared.declarations.AliasDecl.{AliasDecl}
use Rattle.mir_ir.specs.declared.declarations.ConstantDecl.{ConstantDecl}
use Rattle.mir_ir.specs.declared.declarations.Contract.{Contract}
use Rattle.mir_ir.specs.declared.declarations.LoopRule.{LoopRule}
use Rattle.mir_ir.specs.declared.declarations.TraitDecl.{TraitDecl}
use Rattle.mir_ir.specs.declared.declarations.TypeDecl.{TypeDecl}
use Rattle.mir_ir.specs.declared.declarations.Unit.{Unit as UnitDecl}
use Rattle.mir_ir.specs.declared.declarations.VtableDecl.{VtableDecl}
use Rattle.mir_ir.specs.declared.tree.Block.{Block}
use Rattle.mir_ir.specs.declared.tree.Constant.TheVariants as constant
use Rattle.mir_ir.specs.declared.tree.Function.{Function}
use Rattle.mir_ir.specs.declared.tree.Local.{Local}
use Rattle.mir_ir.specs.declared.tree.Terminator.TheVariants as terminator
use Rattle.mir_ir.specs.declared.types.IntTy.TheVariants as int
use Rattle.mir_ir.specs.declared.types.Ty.{Ty}
use Rattle.mir_program.specs.Apart.{AreApart}
use Rattle.mir_program.specs.Entries.{IsAlignment, IsConstantEntry, IsLoopRule, IsTrait, IsTypeEntry, IsUnitEntry, IsVtable}
use Rattle.mir_program.specs.Functions.{AreLocals, IsConstant, IsFunction, IsLocal, same_block}
use Rattle.mir_program.specs.Joined.{Joined, IsProgram, all_written}

none : {X : Type 0} (P : X → Type 0) → All P []
none P k d lt = absurd (omega arith)

abbrev nothing : Joined
nothing = record { functions = []; declarations = record { types = []; traits = []; vtables = []; constants = []; aliases = []; contracts = []; loops = []; units = [] } }

nothing_is_one : IsProgram nothing
unfolding all_written
nothing_is_one = record {
  functions = none IsFunction;
  count = record { counted = omega arith };
  apart = tt;
  declarations = record {
    types = none IsTypeEntry;
    type_count = omega arith;
    types_apart = tt;
    traits = none IsTrait;
    trait_count = record { counted = omega arith };
    traits_apart = tt;
    vtables = none IsVtable;
    vtable_count = record { counted = omega arith };
    vtables_apart = tt;
    constants = none IsConstantEntry;
    constants_apart = tt;
    aliases_apart = tt;
    contracts_apart = tt;
    loops = none IsLoopRule;
    loops_apart = tt;
    units = none IsUnitEntry;
    unit_count = omega arith;
    units_apart = tt;
  };
  types = record { counted = omega arith };
}

-- an empty text and an empty file
pub empty_program : (functions : List Function) (types : List TypeDecl) (traits : List TraitDecl) (vtables : List VtableDecl) (constants : List ConstantDecl)
    (aliases : List AliasDecl) (contracts : List Contract) (loops : List LoopRule) (units : List UnitDecl)
    → functions ≡ [] → types ≡ [] → traits ≡ [] → vtables ≡ [] → constants ≡ [] → aliases ≡ [] → contracts ≡ [] → loops ≡ [] → units ≡ []
    → IsProgram (record { functions = functions; declarations = record { types = types; traits = traits; vtables = vtables; constants = constants; aliases = aliases; contracts = contracts; loops = loops; units = units } })
empty_program functions types traits vtables constants aliases contracts loops units a b c d e f g h k = subst IsProgram (λ i. record {
  functions = sym a i;
  declarations = record { types = sym b i; traits = sym c i; vtables = sym d i; constants = sym e i; aliases = sym f i; contracts = sym g i; loops = sym h i; units = sym k i };
}) nothing_is_one

-- `fn f(_1: T) -> T { let _2: T; bb0: { return; } }` has its locals in the order _1, _0, _2
abbrev local : Ty → ℕ → Local
local t n = record { id = record { 0 = n }; ty = t }

three_locals : (t : Ty) → AreLocals 1 (local t 1 ∷ local t 0 ∷ local t 2 ∷ [])
three_locals t = record {
  parameters = local t 1 ∷ [];
  returned = local t 0;
  others = local t 2 ∷ [];
  in_order = refl;
  counted = refl;
  is_zero = refl;
  rising = (omega arith, tt);
  apart = (refl, (refl, (refl, tt)));
  numbers = All-cons IsLocal (local t 1) (local t 0 ∷ local t 2 ∷ []) (omega arith) (All-cons IsLocal (local t 0) (local t 2 ∷ []) (omega arith) (All-cons IsLocal (local t 2) [] (omega arith) (none IsLocal)));
}

-- two blocks of one number
abbrev block : ℕ → Block
block n = record { id = record { 0 = n }; statements = []; terminator = terminator.Return }

one_number_twice : AreApart same_block (block 0 ∷ block 1 ∷ block 0 ∷ []) → ⊥
one_number_twice h = true≢false h.0

-- 256 is no u8; a surrogate is no char; 24 is no alignment, and 16 is one
too_much : IsConstant (constant.Integer int.U8 (record { width = 8; value = 256 })) → ⊥
too_much h = absurd (omega (arith, h.1))

surrogate : IsConstant (constant.Char 0xd800) → ⊥
surrogate (inl h) = absurd (omega (arith, h))
surrogate (inr h) = absurd (omega (arith, h.0))

sixteen : IsAlignment 16
sixteen = record { exponent = 4; within = omega arith; power = refl }
