-- The last type of a path.
use Rattle.std.specs.Prelude.{ℕ, Bool, true, false, List, [], ◌∷◌, Option, Some, None}
use Rattle.std.specs.Str.{bytes_eq}
use Rattle.mir_ir.specs.declared.types.Ty.{Ty}
use Rattle.mir_ir.specs.declared.types.Ty.TheVariants as ty
use Rattle.mir_grammar.specs.declared.named.Argument.{Argument}
use Rattle.mir_grammar.specs.declared.named.Argument.TheVariants.{TypeArgument, OtherArgument}
use Rattle.mir_grammar.specs.declared.named.Step.{Step}
use Rattle.mir_grammar.specs.declared.named.Step.TheVariants.{StepWord, StepArguments, StepImpl}

abbrev pub argument_type : Argument → Option Ty
argument_type (TypeArgument n) = Some n.ty
argument_type (OtherArgument text) = None

-- the type of the last argument
abbrev pub last_argument : List Argument → Option Ty
last_argument [] = None
last_argument (a ∷ []) = argument_type a
last_argument (a ∷ b ∷ more) = last_argument (b ∷ more)

abbrev pub step_type : Step → Option Ty
step_type (StepWord w) = None
step_type (StepArguments arguments) = last_argument arguments
step_type (StepImpl text) = None

-- the type of the last argument of the last step
abbrev pub last_type : List Step → Option Ty
last_type [] = None
last_type (s ∷ []) = step_type s
last_type (s ∷ t ∷ more) = last_type (t ∷ more)

-- the step is this word
abbrev pub is_word_step : List ℕ → Step → Bool
is_word_step word (StepWord w) = bytes_eq word w
is_word_step word (StepArguments arguments) = false
is_word_step word (StepImpl text) = false

-- the type of the last argument of the last step, or of the one before it where the last is a word
abbrev pub inner_at : List Step → Step → Option Ty
inner_at front (StepWord w) = last_type front
inner_at front (StepArguments arguments) = last_argument arguments
inner_at front (StepImpl text) = None

abbrev pub inner_type : List Step → Option Ty
inner_type [] = None
inner_type (s ∷ []) = inner_at [] s
inner_type (s ∷ t ∷ []) = inner_at (s ∷ []) t
inner_type (s ∷ t ∷ u ∷ more) = inner_type (t ∷ u ∷ more)

-- a tuple of these types, where one without a comma behind it is itself
abbrev pub tuple_of : List Ty → Bool → Ty
tuple_of [] comma = ty.Tuple []
tuple_of (t ∷ []) true = ty.Tuple (t ∷ [])
tuple_of (t ∷ []) false = t
tuple_of (t ∷ u ∷ more) comma = ty.Tuple (t ∷ u ∷ more)
