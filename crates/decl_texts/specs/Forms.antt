-- Types by their outermost form.
use Rattle.std.specs.Prelude.{length, Option, Some, None}
use Rattle.mir_ir.specs.declared.types.IntTy.{IntTy}
use Rattle.mir_ir.specs.declared.types.Ty.{Ty, out-Ty}
use Rattle.mir_ir.specs.declared.types.Ty.TheOpen.{Ty-F}
use Rattle.decl_texts.specs.declared.forms.Form.{Form}
use Rattle.decl_texts.specs.declared.forms.Form.TheVariants as form
use Rattle.decl_texts.specs.declared.forms.Scalar.{Scalar}
use Rattle.decl_texts.specs.declared.forms.Scalar.TheVariants as scalar

-- integers, bool and char are scalars; a path that is no Box type is a name
abbrev pub form_in : Ty-F Ty → Form
form_in Ty-F.Bool = form.Scalar scalar.Bool
form_in Ty-F.Char = form.Scalar scalar.Char
form_in (Ty-F.Int i) = form.Scalar (scalar.Int i)
form_in (Ty-F.Tuple items) = form.Tuple (length items)
form_in (Ty-F.Named path) = form.Named
form_in _ = form.Other

abbrev pub form_of : Ty → Form
form_of t = form_in (out-Ty t)

abbrev pub scalar_in : Form → Option Scalar
scalar_in (form.Scalar s) = Some s
scalar_in _ = None

abbrev pub int_in : Form → Option IntTy
int_in (form.Scalar (scalar.Int i)) = Some i
int_in _ = None
