-- The line of a refusal, without its line feed.
use Rattle.std.specs.Prelude.{ℕ, List, [], ◌∷◌, ◌++◌, codes, slice_get, unwrap_or}
use Rattle.std.specs.Fmt.{decimal}
use Rattle.vk_core.specs.declared.check.At.{At}
use Rattle.vk_core.specs.declared.check.At.TheVariants as at_
use Rattle.vk_core.specs.declared.check.Site.{Site}
use Rattle.vk_core.specs.declared.text_place.TextPlace.{TextPlace}
use Rattle.raw_functions.specs.declared.limits.Limit.{Limit}
use Rattle.raw_functions.specs.declared.limits.Limit.TheVariants as limit
use Rattle.decl_tree.specs.declared.fault.DeclKind.{DeclKind}
use Rattle.decl_tree.specs.declared.fault.DeclKind.TheVariants as decl
use Rattle.layout_rules.specs.declared.fault.LayoutKind.{LayoutKind}
use Rattle.layout_rules.specs.declared.fault.LayoutKind.TheVariants as layout
use Rattle.type_rules.specs.declared.refusal.TypeKind.{TypeKind}
use Rattle.type_rules.specs.declared.refusal.TypeKind.TheVariants as typing
use Rattle.front_end.specs.declared.refusal.Refusal.{Refusal}
use Rattle.front_end.specs.declared.refusal.Refusal.TheVariants as refusal
use Rattle.front_end.specs.declared.refusal.TextKind.{TextKind}
use Rattle.front_end.specs.declared.refusal.TextKind.TheVariants as text

-- The words for the kinds.

abbrev pub text_word : TextKind → List ℕ
text_word text.BadByte = codes "BadByte"
text_word text.OpenText = codes "OpenText"
text_word text.NumberTooWide = codes "NumberTooWide"
text_word text.NameTooLong = codes "NameTooLong"
text_word text.Unexpected = codes "Unexpected"
text_word text.TooDeep = codes "TooDeep"
text_word text.Duplicate = codes "Duplicate"

abbrev pub limit_word : Limit → List ℕ
limit_word limit.Functions = codes "Functions"
limit_word limit.Blocks = codes "Blocks"
limit_word limit.Locals = codes "Locals"
limit_word limit.NameBytes = codes "NameBytes"

abbrev pub declaration_word : DeclKind → List ℕ
declaration_word decl.MissingKey = codes "MissingKey"
declaration_word decl.UnknownKey = codes "UnknownKey"
declaration_word decl.WrongKind = codes "WrongKind"
declaration_word decl.OutOfRange = codes "OutOfRange"
declaration_word decl.Duplicate = codes "Duplicate"

abbrev pub layout_word : LayoutKind → List ℕ
layout_word layout.Unknown = codes "Unknown"
layout_word layout.Recursive = codes "Recursive"
layout_word layout.TooBig = codes "TooBig"
layout_word layout.Misaligned = codes "Misaligned"
layout_word layout.Outside = codes "Outside"
layout_word layout.Overlap = codes "Overlap"

abbrev pub type_word : TypeKind → List ℕ
type_word typing.UnknownName = codes "UnknownName"
type_word typing.Mismatch = codes "Mismatch"
type_word typing.BadPlace = codes "BadPlace"
type_word typing.BadCall = codes "BadCall"
type_word typing.BadCast = codes "BadCast"
type_word typing.NotPlain = codes "NotPlain"

-- Places.

-- `L:C`
abbrev pub place_text : TextPlace → List ℕ
place_text p = decimal p.line ++ codes ":" ++ decimal p.column

-- the name with this number
abbrev pub name_at : List (List ℕ) → ℕ → List ℕ
name_at names n = unwrap_or (slice_get names n) []

-- `FUNCTION bbB[I]`
unfoldable pub site_text : List (List ℕ) → Site → List ℕ
site_text names s = name_at names s.function.0 ++ codes " bb" ++ decimal s.block.0 ++ codes "[" ++ decimal s.index ++ codes "]"

-- where a refusal of typing stands: in the code of functions with these names, or at a path of the declaration file
abbrev pub at_text : List (List ℕ) → At → List ℕ
at_text names (at_.Code s) = site_text names s
at_text names (at_.Entry path) = path

unfoldable pub refusal_text : Refusal → List ℕ
refusal_text (refusal.Text kind place) = codes "error: text: " ++ text_word kind ++ codes " at " ++ place_text place
refusal_text (refusal.Unsupported form place) = codes "error: text: Unsupported " ++ form ++ codes " at " ++ place_text place
refusal_text (refusal.TooMany what) = codes "error: text: TooMany " ++ limit_word what
refusal_text refusal.NotToml = codes "error: declarations: NotToml"
refusal_text (refusal.Declaration kind path) = codes "error: declarations: " ++ declaration_word kind ++ codes " at " ++ path
refusal_text (refusal.Layout kind ty) = codes "error: layout: " ++ layout_word kind ++ codes " of " ++ ty
refusal_text (refusal.Types kind place) = codes "error: types: " ++ type_word kind ++ codes " at " ++ place
