use Rattle.std.proofs.Common.{rules}
use Rattle.mir_ir.specs.declared.types.Ty.TheOpen.{Ty-F}
use Rattle.mir_ir.specs.declared.types.Ty.TheViews.{the_lemmas}
use Rattle.canonical_text.proofs.Texts.{shown_level}
use Rattle.canonical_text.proofs.types.+types.Goals as goal

pub push_type-returns-in_ok-push_text-in-Int : goal.push_type-returns-in_ok-push_text-in-Int
push_type-returns-in_ok-push_text-in-Int t c = shown_level _ _ _ (Ty-F.Int c.in-Int.int) (search (rules, the_lemmas)) (search rules)

pub push_type-returns-in_ok-push_tuple-in-Tuple : goal.push_type-returns-in_ok-push_tuple-in-Tuple
push_type-returns-in_ok-push_tuple-in-Tuple t c = shown_level _ _ _ (Ty-F.Tuple c.in-Tuple.items) (search (rules, the_lemmas)) (search rules)

pub push_type-returns-in_ok-push_array-in-Array : goal.push_type-returns-in_ok-push_array-in-Array
push_type-returns-in_ok-push_array-in-Array t c = shown_level _ _ _ (Ty-F.Array c.in-Array.item c.in-Array.count) (search (rules, the_lemmas)) (search rules)

pub push_type-returns-in_ok-push_slice-in-Slice : goal.push_type-returns-in_ok-push_slice-in-Slice
push_type-returns-in_ok-push_slice-in-Slice t c = shown_level _ _ _ (Ty-F.Slice c.in-Slice.item) (search (rules, the_lemmas)) (search rules)

pub push_type-returns-in_ok-push_target-in-Ref : goal.push_type-returns-in_ok-push_target-in-Ref
push_type-returns-in_ok-push_target-in-Ref t c = shown_level _ _ _ (Ty-F.Ref c.in-Ref.mutable c.in-Ref.target) (search (rules, the_lemmas)) (search rules)

pub push_type-returns-in_ok-push_target-in-Raw : goal.push_type-returns-in_ok-push_target-in-Raw
push_type-returns-in_ok-push_target-in-Raw t c = shown_level _ _ _ (Ty-F.Raw c.in-Raw.mutable c.in-Raw.target) (search (rules, the_lemmas)) (search rules)

pub push_type-returns-in_ok-push_box-in-BoxOf : goal.push_type-returns-in_ok-push_box-in-BoxOf
push_type-returns-in_ok-push_box-in-BoxOf t c = shown_level _ _ _ (Ty-F.BoxOf c.in-BoxOf.target) (search (rules, the_lemmas)) (search rules)

pub push_type-returns-in_ok-push_dyn-in-Dyn : goal.push_type-returns-in_ok-push_dyn-in-Dyn
push_type-returns-in_ok-push_dyn-in-Dyn t c = shown_level _ _ _ (Ty-F.Dyn c.in-Dyn.path) (search (rules, the_lemmas)) (search rules)

pub push_type-returns-in_ok-push_path-in-Named : goal.push_type-returns-in_ok-push_path-in-Named
push_type-returns-in_ok-push_path-in-Named t c = shown_level _ _ _ (Ty-F.Named c.in-Named.path) (search (rules, the_lemmas)) (search rules)
