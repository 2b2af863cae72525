-- Worked examples of typing, in code: one for each row of the table of refusals, beside what is accepted.
use Rattle.std.proofs.Common.{◌≡◌, false, [], ◌∷◌, Some, refl}
use Rattle.std.specs.Prelude.{Ok, Err, codes}
use Rattle.mir_ir.specs.declared.types.Ty as tree_ty
use Rattle.mir_ir.specs.declared.places.Projection.TheVariants as projection
use Rattle.mir_ir.specs.declared.tree.BinaryOp.TheVariants as op
use Rattle.mir_ir.specs.declared.tree.CastKind.TheVariants as cast
use Rattle.mir_ir.specs.declared.tree.Operand.TheVariants as operand
use Rattle.mir_ir.specs.declared.tree.Rvalue.TheVariants as rvalue
use Rattle.type_rules.specs.declared.refusal.TypeKind.TheVariants as kind
use Rattle.vk_core.specs.declared.check.At.TheVariants as at_
use Rattle.type_rules.specs.Aggregates.{last_colons}
use Rattle.type_rules.specs.Code.{first_label, site, statement_fits, terminator_fits}
use Rattle.type_rules.specs.Entries.{drop_fits, element, key, typing}
use Rattle.type_rules.specs.Plain.{is_plain}
use Rattle.type_rules.proofs.SameTypes.{same}
use Rattle.type_rules.proofs.KnownTraits.{knows}
use Rattle.type_rules.proofs.PlainTypes.{plain_named}
use Rattle.type_rules.proofs.Worked.{assign, call, call_with, copy, drop_shared, loud, loud_alone, nothing, number, own, place, reads_unknown, text, text_of, u8, worked}

-- `_1 = Add(copy _1, const 1_u8)`
adds : statement_fits worked own (assign 1 (rvalue.Binary op.Add (copy 1) (number 1))) ≡ Ok tt
unfolding tree_ty.out-Ty denote.Hole.Carrier.out
adds = simp same

-- `_2 = Lt(copy _1, const 1_u8)`
compares : statement_fits worked own (assign 2 (rvalue.Binary op.Lt (copy 1) (number 1))) ≡ Ok tt
unfolding tree_ty.out-Ty denote.Hole.Carrier.out
compares = simp same

-- Mismatch: `_9 = Add(copy _1, const 1_u8)`, where `_9` is a u16
adds_to_another : statement_fits worked own (assign 9 (rvalue.Binary op.Add (copy 1) (number 1))) ≡ Err kind.Mismatch
unfolding tree_ty.out-Ty denote.Hole.Carrier.out
adds_to_another = simp same

-- Mismatch: `_2 = Eq(copy _1, copy _9)`, a u8 and a u16
compares_two_types : statement_fits worked own (assign 2 (rvalue.Binary op.Eq (copy 1) (copy 9))) ≡ Err kind.Mismatch
unfolding tree_ty.out-Ty denote.Hole.Carrier.out
compares_two_types = refl

-- UnknownName: `_1 = copy _99`
reads_unknown_local : statement_fits worked own (assign 1 (rvalue.Use (copy 99))) ≡ Err kind.UnknownName
unfolding tree_ty.out-Ty denote.Hole.Carrier.out
reads_unknown_local = refl

-- BadPlace: `_1 = copy (*_1)`, where `_1` is no pointer
reads_behind_number : statement_fits worked own (assign 1 (rvalue.Use (operand.Copy (place 1 (projection.Deref ∷ []))))) ≡ Err kind.BadPlace
unfolding tree_ty.out-Ty denote.Hole.Carrier.out
reads_behind_number = refl

-- BadCast: `_1 = copy _8 as u8 (IntToInt)`, from a raw pointer
casts_pointer : statement_fits worked own (assign 1 (rvalue.Cast (copy 8) u8 cast.IntToInt)) ≡ Err kind.BadCast
unfolding tree_ty.out-Ty denote.Hole.Carrier.out
casts_pointer = simp knows

-- BadCall: `_2 = kani::assert(copy _2, const "small")`, whose result is `()`
asserts_to_bool : terminator_fits text_of worked own (call 2 (codes "kani::assert") (copy 2 ∷ text (codes "small") ∷ [])) ≡ Err kind.BadCall
unfolding tree_ty.out-Ty denote.Hole.Carrier.out
asserts_to_bool = simp same

-- NotPlain: `_16 = kani::any::<Loud>()`, since Loud has a drop function
loud_is_not_plain : is_plain worked loud ≡ false
unfolding tree_ty.out-Ty denote.Hole.Carrier.out is_plain
loud_is_not_plain = plain_named 2 worked (codes "Loud")

chooses_loud : terminator_fits text_of worked own (call_with 16 (codes "kani::any<Loud>") loud []) ≡ Err kind.NotPlain
unfolding tree_ty.out-Ty denote.Hole.Carrier.out
chooses_loud = simp (knows, loud_is_not_plain)

-- BadCall: `_1 = <dyn Quiet as Quiet>::rest(copy _15)`, since no type has a vtable for Quiet
calls_quiet : terminator_fits text_of worked own (call 1 (codes "<dyn Quiet as Quiet>::rest") (copy 15 ∷ [])) ≡ Err kind.BadCall
unfolding tree_ty.out-Ty denote.Hole.Carrier.out last_colons
calls_quiet = refl

-- UnknownName: `_1 = <dyn Noise as Noise>::set(copy _14)`, a method that Noise does not have
calls_unknown : terminator_fits text_of worked own (call 1 (codes "<dyn Noise as Noise>::set") (copy 14 ∷ [])) ≡ Err kind.UnknownName
unfolding tree_ty.out-Ty denote.Hole.Carrier.out last_colons
calls_unknown = refl

-- BadCall: a drop function with a shared reference
drops_shared : drop_fits (drop_shared ∷ []) loud (Some (codes "drop_shared")) ≡ Err kind.BadCall
unfolding tree_ty.out-Ty denote.Hole.Carrier.out
drops_shared = simp same

-- `_1 = copy _99` is refused where it stands
reads_unknown_there : typing (reads_unknown ∷ []) nothing ≡ Err (record { kind = kind.UnknownName; at = site 0 first_label 0 })
unfolding tree_ty.out-Ty denote.Hole.Carrier.out typing
reads_unknown_there = simp knows

-- UnknownName at `type[0].drop`: a drop function that is not in the text
drops_by_unknown : typing [] loud_alone ≡ Err (record { kind = kind.UnknownName; at = at_.Entry (key (element (codes "type") 0) (codes "drop")) })
unfolding tree_ty.out-Ty denote.Hole.Carrier.out typing
drops_by_unknown = simp knows
