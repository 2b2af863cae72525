-- What is told of each fault; of want of memory nothing is.
use Rattle.std.specs.Prelude.{Option, Some, None}
use Rattle.mir_lex.specs.declared.fault.LexFault.{LexFault}
use Rattle.mir_lex.specs.declared.fault.LexFault.TheVariants as lex
use Rattle.mir_text.specs.declared.fault.TextFault.{TextFault}
use Rattle.mir_text.specs.declared.fault.TextFault.TheVariants as text
use Rattle.decl_file.specs.declared.fault.DeclFault.{DeclFault}
use Rattle.decl_file.specs.declared.fault.DeclFault.TheVariants as declaration
use Rattle.layout_rules.specs.declared.fault.LayoutFault.{LayoutFault}
use Rattle.layout_rules.specs.declared.fault.LayoutFault.TheVariants as layout
use Rattle.front_end.specs.declared.refusal.Refusal.{Refusal}
use Rattle.front_end.specs.declared.refusal.Refusal.TheVariants as refusal
use Rattle.front_end.specs.declared.refusal.TextKind.TheVariants as kind

abbrev pub lex_refusal : LexFault → Option Refusal
lex_refusal (lex.BadByte place) = Some (refusal.Text kind.BadByte place)
lex_refusal (lex.OpenText place) = Some (refusal.Text kind.OpenText place)
lex_refusal (lex.NumberTooWide place) = Some (refusal.Text kind.NumberTooWide place)
lex_refusal (lex.NameTooLong place) = Some (refusal.Text kind.NameTooLong place)
lex_refusal lex.Memory = None

abbrev pub text_refusal : TextFault → Option Refusal
text_refusal (text.Lex fault) = lex_refusal fault
text_refusal (text.Unexpected place) = Some (refusal.Text kind.Unexpected place)
text_refusal (text.Unsupported place form) = Some (refusal.Unsupported form place)
text_refusal (text.TooDeep place) = Some (refusal.Text kind.TooDeep place)
text_refusal (text.Duplicate place) = Some (refusal.Text kind.Duplicate place)
text_refusal (text.TooMany what) = Some (refusal.TooMany what)
text_refusal text.Memory = None

abbrev pub declaration_refusal : DeclFault → Option Refusal
declaration_refusal declaration.NotToml = Some refusal.NotToml
declaration_refusal (declaration.Key kind path) = Some (refusal.Declaration kind path)
declaration_refusal declaration.Memory = None

abbrev pub layout_refusal : LayoutFault → Option Refusal
layout_refusal (layout.Rule kind ty) = Some (refusal.Layout kind ty)
layout_refusal layout.Memory = None
