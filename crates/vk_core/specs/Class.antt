-- The word of a report for each class of checks.
use Rattle.std.specs.Prelude.{ℕ, List, codes}
use Rattle.vk_core.specs.declared.check.CheckClass.{CheckClass}
use Rattle.vk_core.specs.declared.check.CheckClass.TheVariants as class

abbrev pub name_of_class : CheckClass → List ℕ
name_of_class class.Panic = codes "panic"
name_of_class class.Assertion = codes "assertion"
name_of_class class.Pointer = codes "pointer"
name_of_class class.Uninit = codes "uninit"
name_of_class class.Invalid = codes "invalid"
name_of_class class.Offset = codes "offset"
name_of_class class.Compare = codes "compare"
name_of_class class.Dealloc = codes "dealloc"
name_of_class class.Division = codes "division"
name_of_class class.Unreachable = codes "unreachable"
name_of_class class.Requires = codes "requires"
name_of_class class.Ensures = codes "ensures"
name_of_class class.Modifies = codes "modifies"
name_of_class class.Alias = codes "alias"
name_of_class class.InvariantEntry = codes "invariant_entry"
name_of_class class.InvariantStep = codes "invariant_step"
name_of_class class.Unwind = codes "unwind"
