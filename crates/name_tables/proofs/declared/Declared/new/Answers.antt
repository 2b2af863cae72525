use Rattle.std.proofs.Common.{◌∙◌, ap}
use Rattle.name_tables.specs.Plain.{plain_marks}
use Rattle.name_tables.proofs.declared.Declared.new.Goals as goal

pub invariant_of-result : goal.invariant_of-result
invariant_of-result c = record {
  types_are = c.in_ok-types.ensures.0 ∙ c.as_slice.ensures;
  traits_are = c.in_ok-traits.ensures.0 ∙ c.as_slice-2.ensures;
  vtables_are = c.in_ok-traits.ensures.1 ∙ c.as_slice-3.ensures;
  constants_are = c.in_ok-words.ensures.0 ∙ c.as_slice-4.ensures;
  aliases_are = c.in_ok-words.ensures.1 ∙ c.as_slice-5.ensures;
  plain_are = c.in_ok-types.ensures.1 ∙ ap plain_marks c.as_slice.ensures;
}
