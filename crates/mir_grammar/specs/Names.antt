-- What types and paths mean, and their canonical texts: their tokens in a row, where `::` before `<` and lifetimes behind
-- `&` and `+` are left out, with one blank behind `,` `;` `dyn` `mut` and `const` and on both sides of `as`.
use Rattle.std.specs.Prelude.{ℕ, Bool, true, false, ◌&&◌, ◌||◌, nat_lt, if◌then◌else◌, List, [], ◌∷◌, ◌++◌, length, codes, Option, Some, None}
use Rattle.std.specs.Str.{bytes_eq}
use Rattle.mir_ir.specs.declared.types.Ty.{Ty}
use Rattle.mir_ir.specs.declared.types.Ty.TheVariants as ty
use Rattle.mir_ir.specs.Names.{int_of_name}
use Rattle.mir_ir.specs.declared.types.IntTy.{IntTy}
use Rattle.mir_grammar.specs.Lexemes.{Lexeme, number_value}
pub use Rattle.mir_grammar.specs.declared.named.Named.{Named}
pub use Rattle.mir_grammar.specs.declared.named.Argument.{Argument}
pub use Rattle.mir_grammar.specs.declared.named.Argument.TheVariants.{TypeArgument, OtherArgument}
pub use Rattle.mir_grammar.specs.declared.named.Head.{Head}
pub use Rattle.mir_grammar.specs.declared.named.Head.TheVariants.{HeadWord, HeadText}
pub use Rattle.mir_grammar.specs.declared.named.Step.{Step}
pub use Rattle.mir_grammar.specs.declared.named.Step.TheVariants.{StepWord, StepArguments, StepImpl}

abbrev pub argument_text : Argument → List ℕ
argument_text (TypeArgument n) = n.text
argument_text (OtherArgument text) = text

abbrev pub argument_is_long : Argument → Bool
argument_is_long (TypeArgument n) = n.is_long
argument_is_long (OtherArgument text) = false

-- texts with a comma and a blank between each two
abbrev pub comma_text : List (List ℕ) → List ℕ
comma_text [] = []
comma_text (t ∷ ts) = codes ", " ++ (t ++ comma_text ts)

abbrev pub list_text : List (List ℕ) → List ℕ
list_text [] = []
list_text (t ∷ ts) = t ++ comma_text ts

abbrev pub texts_of : {A : Type 0} → (A → List ℕ) → List A → List (List ℕ)
texts_of f [] = []
texts_of f (a ∷ as_) = f a ∷ texts_of f as_

abbrev pub some_is : {A : Type 0} → (A → Bool) → List A → Bool
some_is f [] = false
some_is f (a ∷ as_) = f a || some_is f as_

abbrev pub head_text : Head → List ℕ
head_text (HeadWord w start) = w
head_text (HeadText text long start) = text

abbrev pub head_is_long : Head → Bool
head_is_long (HeadWord w start) = false
head_is_long (HeadText text long start) = long

abbrev pub head_start : Head → ℕ
head_start (HeadWord w start) = start
head_start (HeadText text long start) = start

abbrev pub step_text : Step → List ℕ
step_text (StepWord w) = codes "::" ++ w
step_text (StepArguments arguments) = codes "<" ++ (list_text (texts_of argument_text arguments) ++ codes ">")
step_text (StepImpl text) = codes "::" ++ text

abbrev pub step_is_long : Step → Bool
step_is_long (StepWord w) = false
step_is_long (StepArguments arguments) = some_is argument_is_long arguments
step_is_long (StepImpl text) = false

abbrev pub steps_text : List Step → List ℕ
steps_text [] = []
steps_text (s ∷ steps) = step_text s ++ steps_text steps

abbrev pub path_text : Head → List Step → List ℕ
path_text head steps = head_text head ++ steps_text steps

-- the one type in angle brackets
abbrev pub only_type : List Argument → Option Ty
only_type [] = None
only_type (TypeArgument n ∷ []) = Some n.ty
only_type (TypeArgument n ∷ b ∷ more) = None
only_type (OtherArgument text ∷ more) = None

abbrev pub only_arguments : List Step → Option Ty
only_arguments [] = None
only_arguments (StepWord w ∷ more) = None
only_arguments (StepArguments arguments ∷ []) = only_type arguments
only_arguments (StepArguments arguments ∷ s ∷ more) = None
only_arguments (StepImpl text ∷ more) = None

-- behind std: boxed, Box and one type
abbrev pub boxed_behind : List Step → Option Ty
boxed_behind [] = None
boxed_behind (StepWord a ∷ []) = None
boxed_behind (StepWord a ∷ StepWord b ∷ more) = if bytes_eq (codes "boxed") a && bytes_eq (codes "Box") b then only_arguments more else None
boxed_behind (StepWord a ∷ StepArguments arguments ∷ more) = None
boxed_behind (StepWord a ∷ StepImpl text ∷ more) = None
boxed_behind (StepArguments arguments ∷ more) = None
boxed_behind (StepImpl text ∷ more) = None

-- the T of Box<T> and std::boxed::Box<T>
abbrev pub boxed_type : Head → List Step → Option Ty
boxed_type (HeadWord w start) steps = if bytes_eq (codes "Box") w then only_arguments steps else (if bytes_eq (codes "std") w then boxed_behind steps else None)
boxed_type (HeadText text long start) steps = None

abbrev pub box_or_name : Option Ty → List ℕ → Ty
box_or_name None text = ty.Named text
box_or_name (Some t) text = ty.BoxOf t

-- the type, where these words are those
abbrev pub only_where : List (List ℕ) → List (List ℕ) → Option Ty → Option Ty
only_where [] [] t = t
only_where [] (b ∷ bs) t = None
only_where (a ∷ as_) [] t = None
only_where (a ∷ as_) (b ∷ bs) t = if bytes_eq a b then only_where as_ bs t else None

-- words in a row, then arguments, and then perhaps one more word
abbrev pub words_then : List (List ℕ) → List (List ℕ) → List Step → Option Ty
words_then [] last (StepArguments arguments ∷ []) = only_where last [] (only_type arguments)
words_then [] last (StepArguments arguments ∷ StepWord w ∷ []) = only_where last (w ∷ []) (only_type arguments)
words_then [] last steps = None
words_then (a ∷ words) last (StepWord w ∷ steps) = if bytes_eq a w then words_then words last steps else None
words_then (a ∷ words) last steps = None

abbrev pub first_some : Option Ty → Option Ty → Option Ty
first_some None b = b
first_some (Some t) b = Some t

-- the T of kani::any<T>, Box<T>::new, std::boxed::Box<T>::new, std::ptr::null<T> and std::ptr::null_mut<T>
abbrev pub argument_of : Head → List Step → Option Ty
argument_of (HeadText text long start) steps = None
argument_of (HeadWord w start) steps =
    if bytes_eq (codes "kani") w then words_then (codes "any" ∷ []) [] steps
    else (if bytes_eq (codes "Box") w then words_then [] (codes "new" ∷ []) steps
    else (if bytes_eq (codes "std") w then first_some (words_then (codes "boxed" ∷ codes "Box" ∷ []) (codes "new" ∷ []) steps)
    (first_some (words_then (codes "ptr" ∷ codes "null" ∷ []) [] steps) (words_then (codes "ptr" ∷ codes "null_mut" ∷ []) [] steps)) else None))

abbrev pub is_over : List ℕ → Bool
is_over text = nat_lt 256 (length text)

unfoldable pub to_path : Head × List Step → Named
to_path v = record {
  ty = box_or_name (boxed_type v.0 v.1) (path_text v.0 v.1);
  text = path_text v.0 v.1;
  is_long = is_over (path_text v.0 v.1) || (head_is_long v.0 || some_is step_is_long v.1);
  argument = argument_of v.0 v.1;
  start = head_start v.0;
}

-- a path whose first word is this token
unfoldable pub to_keyed_path : Lexeme × List Step → Named
to_keyed_path v = to_path (HeadWord v.0.text v.0.start, v.1)

-- a path whose first word is mut
unfoldable pub to_mut_path : List Step → Named
to_mut_path steps = to_path (HeadWord (codes "mut") 0, steps)

abbrev pub qualified_text : List ℕ → List ℕ → List ℕ
qualified_text t p = codes "<" ++ (t ++ (codes " as " ++ (p ++ codes ">")))

-- <T as P>
unfoldable pub to_qualified : Lexeme × (Named × Named) → Named
to_qualified v = record {
  ty = ty.Named (qualified_text v.1.0.text v.1.1.text);
  text = qualified_text v.1.0.text v.1.1.text;
  is_long = v.1.0.is_long || v.1.1.is_long;
  argument = None;
  start = v.0.start;
}

abbrev pub named_head : Named → Head
named_head n = HeadText n.text n.is_long n.start

abbrev pub word_head : Lexeme → Head
word_head l = HeadWord l.text l.start

abbrev pub impl_head : Lexeme → Head
impl_head l = HeadText l.text false l.start

abbrev pub word_step : Lexeme → Step
word_step l = StepWord l.text

abbrev pub impl_step : Lexeme → Step
impl_step l = StepImpl l.text

abbrev pub written_argument : Lexeme → Argument
written_argument l = OtherArgument l.text

-- a word of the types, or !
abbrev pub int_or_name : Option IntTy → List ℕ → Ty
int_or_name (Some i) text = ty.Int i
int_or_name None text = ty.Named text

abbrev pub plain_type : List ℕ → Ty
plain_type text = if bytes_eq (codes "bool") text then ty.Bool else (if bytes_eq (codes "char") text then ty.Char
    else (if bytes_eq (codes "!") text then ty.Never else (if bytes_eq (codes "str") text then ty.Str else int_or_name (int_of_name text) text)))

unfoldable pub to_plain : Lexeme → Named
to_plain l = record { ty = plain_type l.text; text = l.text; is_long = false; argument = None; start = l.start }

abbrev pub types_of : List Named → List Ty
types_of [] = []
types_of (n ∷ ns) = n.ty ∷ types_of ns

-- (T) is T, and (T,) is a tuple of one
abbrev pub tuple_type : List Named → Bool → Ty
tuple_type [] comma = ty.Tuple []
tuple_type (n ∷ []) true = ty.Tuple (n.ty ∷ [])
tuple_type (n ∷ []) false = n.ty
tuple_type (n ∷ m ∷ more) comma = ty.Tuple (n.ty ∷ m.ty ∷ types_of more)

abbrev pub comma_where : Bool → List ℕ
comma_where true = codes ","
comma_where false = []

abbrev pub named_text : Named → List ℕ
named_text n = n.text

abbrev pub named_is_long : Named → Bool
named_is_long n = n.is_long

unfoldable pub to_tuple : List Named × Bool → Named
to_tuple v = record {
  ty = tuple_type v.0 v.1;
  text = codes "(" ++ (list_text (texts_of named_text v.0) ++ (comma_where v.1 ++ codes ")"));
  is_long = some_is named_is_long v.0;
  argument = None;
  start = 0;
}

-- [T; N], or [T]
unfoldable pub to_array : Named × Option Lexeme → Named
to_array (item, None) = record { ty = ty.Slice item.ty; text = codes "[" ++ (item.text ++ codes "]"); is_long = item.is_long; argument = None; start = 0 }
to_array (item, Some n) = record { ty = ty.Array item.ty (number_value n); text = codes "[" ++ (item.text ++ (codes "; " ++ (n.text ++ codes "]"))); is_long = item.is_long; argument = None; start = 0 }

abbrev pub mut_where : Bool → List ℕ
mut_where true = codes "mut "
mut_where false = []

unfoldable pub to_ref : Bool × Named → Named
to_ref v = record { ty = ty.Ref v.0 v.1.ty; text = codes "&" ++ (mut_where v.0 ++ v.1.text); is_long = v.1.is_long; argument = None; start = 0 }

abbrev pub pointer_word : Bool → List ℕ
pointer_word true = codes "mut "
pointer_word false = codes "const "

unfoldable pub to_raw : Bool × Named → Named
to_raw v = record { ty = ty.Raw v.0 v.1.ty; text = codes "*" ++ (pointer_word v.0 ++ v.1.text); is_long = v.1.is_long; argument = None; start = 0 }

unfoldable pub to_dyn : Named → Named
to_dyn path = record { ty = ty.Dyn path.text; text = codes "dyn " ++ path.text; is_long = path.is_long; argument = None; start = 0 }
