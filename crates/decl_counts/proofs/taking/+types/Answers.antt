use Rattle.std.proofs.Common.{refl, rules}
use Rattle.mir_ir.specs.declared.types.Ty.TheOpen.{Ty-F}
use Rattle.mir_ir.specs.declared.types.Ty.TheViews.{the_lemmas}
use Rattle.decl_counts.proofs.Taken.{taken_alone, taken_level, taken_none}
use Rattle.decl_counts.proofs.taking.+types.Goals as goal

pub take_type-returns-in-Tuple : goal.take_type-returns-in-Tuple
take_type-returns-in-Tuple t c = taken_level _ _ _ (Ty-F.Tuple c.in-Tuple.items) _ _ (search (rules, the_lemmas)) refl c.in_ok-rest.ensures (search rules)

pub take_type-returns-in-Array : goal.take_type-returns-in-Array
take_type-returns-in-Array t c = taken_level _ _ _ (Ty-F.Array c.in-Array.item c.in-Array.count) _ _ (search (rules, the_lemmas)) refl c.in_ok-rest.ensures (search rules)

pub take_type-returns-in-Slice : goal.take_type-returns-in-Slice
take_type-returns-in-Slice t c = taken_level _ _ _ (Ty-F.Slice c.in-Slice.item) _ _ (search (rules, the_lemmas)) refl c.in_ok-rest.ensures (search rules)

pub take_type-returns-in-Ref : goal.take_type-returns-in-Ref
take_type-returns-in-Ref t c = taken_level _ _ _ (Ty-F.Ref c.in-Ref.mutable c.in-Ref.target) _ _ (search (rules, the_lemmas)) refl c.in_ok-rest.ensures (search rules)

pub take_type-returns-in-Raw : goal.take_type-returns-in-Raw
take_type-returns-in-Raw t c = taken_level _ _ _ (Ty-F.Raw c.in-Raw.mutable c.in-Raw.target) _ _ (search (rules, the_lemmas)) refl c.in_ok-rest.ensures (search rules)

pub take_type-returns-in-BoxOf : goal.take_type-returns-in-BoxOf
take_type-returns-in-BoxOf t c = taken_level _ _ _ (Ty-F.BoxOf c.in-BoxOf.target) _ _ (search (rules, the_lemmas)) refl c.in_ok-rest.ensures (search rules)

pub take_type-returns-in_err-rest : goal.take_type-returns-in_err-rest
take_type-returns-in_err-rest t c = taken_none _ _ _ c.from_residual.ensures c.in_err-rest.ensures

pub take_type-returns-in-Bool : goal.take_type-returns-in-Bool
take_type-returns-in-Bool t c = taken_alone _ _ _ Ty-F.Bool (search (rules, the_lemmas)) refl c.in_ok-rest.ensures

pub take_type-returns-in-Char : goal.take_type-returns-in-Char
take_type-returns-in-Char t c = taken_alone _ _ _ Ty-F.Char (search (rules, the_lemmas)) refl c.in_ok-rest.ensures

pub take_type-returns-in-Int : goal.take_type-returns-in-Int
take_type-returns-in-Int t c = taken_alone _ _ _ (Ty-F.Int c.in-Int._int) (search (rules, the_lemmas)) refl c.in_ok-rest.ensures

pub take_type-returns-in-Never : goal.take_type-returns-in-Never
take_type-returns-in-Never t c = taken_alone _ _ _ Ty-F.Never (search (rules, the_lemmas)) refl c.in_ok-rest.ensures

pub take_type-returns-in-Str : goal.take_type-returns-in-Str
take_type-returns-in-Str t c = taken_alone _ _ _ Ty-F.Str (search (rules, the_lemmas)) refl c.in_ok-rest.ensures

pub take_type-returns-in-Dyn : goal.take_type-returns-in-Dyn
take_type-returns-in-Dyn t c = taken_alone _ _ _ (Ty-F.Dyn c.in-Dyn._path) (search (rules, the_lemmas)) refl c.in_ok-rest.ensures

pub take_type-returns-in-Named : goal.take_type-returns-in-Named
take_type-returns-in-Named t c = taken_alone _ _ _ (Ty-F.Named c.in-Named._path) (search (rules, the_lemmas)) refl c.in_ok-rest.ensures
