-- Well-made declarations have short lists.
use Rattle.mir_ir.specs.declared.declarations.Declarations.{Declarations}
use Rattle.mir_ir.specs.declared.declarations.TypeShape.{TypeShape}
use Rattle.mir_ir.specs.declared.declarations.TypeShape.TheVariants as shape
use Rattle.mir_program.specs.Entries.{AreDeclarations, IsShape}
use Rattle.decl_counts.specs.Counts.{AreCountable, HasCountableParts}

shape_countable : (s : TypeShape) → IsShape s → HasCountableParts s
shape_countable (shape.Struct fields) h = h.count
shape_countable (shape.Tuple fields) h = h.count
shape_countable (shape.Enum variants tag discriminant) h = (h.count, λ k v l. (h.each k v l).fields.count)

pub made_countable : (d : Declarations) → AreDeclarations d → AreCountable d
made_countable d h = record {
  types = λ k t l. shape_countable _ (h.types k t l).formed;
  traits = λ k t l. (h.traits k t l).count;
  trait_count = h.trait_count;
  vtables = h.vtables;
  vtable_count = h.vtable_count;
}
