-- What two files are: a program that is well typed, or the first refusal: of the text, of the declaration file, of the layouts and of
-- the types, in this order.
use Rattle.std.specs.Prelude.{◌≡◌, ℕ, List, Option, Some, None, Result, Ok, Err, map}
use Rattle.mir_ir.specs.declared.tree.Function.{Function}
use Rattle.mir_text.specs.Answers.{IsAnswer, Means}
use Rattle.mir_text.specs.declared.fault.TextFault.{TextFault}
use Rattle.decl_file.specs.File.{declared_by}
use Rattle.decl_file.specs.declared.fault.DeclFault.{DeclFault}
use Rattle.mir_program.specs.Joined.{Joined}
use Rattle.layout_rules.specs.declared.fault.LayoutFault.{LayoutFault}
use Rattle.layout_rules.specs.Mentions.{program_rows}
use Rattle.layout_rules.specs.Rules.{AreKept, IsLayoutAnswer, outlines_in, rules}
use Rattle.type_rules.specs.Entries.{typing}
use Rattle.type_rules.specs.declared.refusal.Refusal as misfit
use Rattle.typed_program.specs.WellTyped.{IsWellTyped}
use Rattle.front_end.specs.Lines.{at_text}
use Rattle.front_end.specs.Refusals.{declaration_refusal, layout_refusal, text_refusal}
use Rattle.front_end.specs.declared.refusal.Refusal.{Refusal}
use Rattle.front_end.specs.declared.refusal.Refusal.TheVariants as refusal

-- the text means the functions of the program, and the file declares what stands beside them
pub record IsRead (text file : List ℕ) (p : Joined) : Type 0 where
  pub functions : Means text p.functions
  pub declarations : declared_by file ≡ Ok p.declarations

abbrev pub LayoutsAreKept : Joined → Type 0
LayoutsAreKept p = AreKept (outlines_in p) (program_rows p) rules

abbrev pub function_name : Function → List ℕ
function_name f = f.name

-- what is told of a refusal of typing
abbrev pub types_refusal : Joined → misfit.Refusal → Refusal
types_refusal p r = refusal.Types r.kind (at_text (map function_name p.functions) r.at)

-- the two files are refused with this
pub data IsRefused (text file : List ℕ) (told : Refusal) : Type 0 where
  by_text : (fault : TextFault) → IsAnswer text (Err fault) → text_refusal fault ≡ Some told → IsRefused text file told
  by_declarations : (functions : List Function) (fault : DeclFault) → Means text functions → declared_by file ≡ Err fault → declaration_refusal fault ≡ Some told
      → IsRefused text file told
  by_layouts : (p : Joined) (fault : LayoutFault) → IsRead text file p → IsLayoutAnswer p (Err fault) → layout_refusal fault ≡ Some told → IsRefused text file told
  by_types : (p : Joined) (r : misfit.Refusal) → IsRead text file p → LayoutsAreKept p → typing p.functions p.declarations ≡ Err r → told ≡ types_refusal p r → IsRefused text file told

abbrev pub IsTold : List ℕ → List ℕ → Result Joined Refusal → Type 0
IsTold text file (Ok p) = IsRead text file p × IsWellTyped p
IsTold text file (Err told) = IsRefused text file told
