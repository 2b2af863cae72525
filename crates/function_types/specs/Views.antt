-- What the code keeps of callees and their signatures, without references.
use Rattle.std.specs.Prelude.{List, [], ◌∷◌, ◌++◌, Option, Some, None, Ok, Err, map}
use Rattle.mir_ir.specs.declared.types.Ty.{Ty}
use Rattle.mir_ir.specs.declared.types.Ty.TheVariants as ty
use Rattle.type_rules.specs.Refusals.{OrRefused}
use Rattle.type_rules.specs.Values.{type_of}
use Rattle.type_rules.specs.Calls as calls
use Rattle.function_types.specs.declared.callees.Called.{Called}
use Rattle.function_types.specs.declared.callees.Called.TheVariants as called
use Rattle.function_types.specs.declared.callees.Method.{Method}
use Rattle.function_types.specs.declared.signatures.Given.{Given}
use Rattle.function_types.specs.declared.signatures.Given.TheVariants as given
use Rattle.function_types.specs.declared.signatures.Parameter.{Parameter}
use Rattle.function_types.specs.declared.signatures.Parameter.TheVariants as parameter
use Rattle.function_types.specs.declared.signatures.Leading.{Leading}
use Rattle.function_types.specs.declared.signatures.Leading.TheVariants as leading
use Rattle.function_types.specs.declared.signatures.Outcome.{Outcome}
use Rattle.function_types.specs.declared.signatures.Outcome.TheVariants as outcome
use Rattle.function_types.specs.declared.signatures.Signature.{Signature}

abbrev pub method_seen : Method → calls.Method
method_seen m = record { trait_name = m.trait_name.now; method = m.method.now }

abbrev pub some_method : Option Method → Option calls.Method
some_method None = None
some_method (Some m) = Some (method_seen m)

abbrev pub called_seen : Called → calls.Called
called_seen (called.AnyOf t) = calls.AnyOf t.now
called_seen called.Assume = calls.Assume
called_seen called.Assert = calls.Assert
called_seen (called.NewBox t) = calls.NewBox t.now
called_seen (called.NullOf mutable t) = calls.NullOf mutable t.now
called_seen called.Panic = calls.Panic
called_seen (called.Dynamic m) = calls.Dynamic (method_seen m)
called_seen (called.Named path) = calls.Named path.now

abbrev pub given_seen : Given → calls.Argument
given_seen (given.Typed v) = calls.Typed (type_of v)
given_seen given.Words = calls.Words

abbrev pub ok_given : OrRefused Given → OrRefused calls.Argument
ok_given (Ok g) = Ok (given_seen g)
ok_given (Err kind) = Err kind

abbrev pub parameter_seen : Parameter → calls.Argument
parameter_seen (parameter.Of t) = calls.Typed t.now
parameter_seen parameter.Condition = calls.Typed ty.Bool
parameter_seen parameter.Words = calls.Words
parameter_seen (parameter.Receiver mutable trait_name) = calls.Typed (ty.Ref mutable (ty.Dyn trait_name.now))

abbrev pub some_parameter : Option Parameter → Option calls.Argument
some_parameter None = None
some_parameter (Some p) = Some (parameter_seen p)

abbrev pub leading_seen : Leading → List calls.Argument
leading_seen leading.Nothing = []
leading_seen (leading.One first) = parameter_seen first ∷ []
leading_seen (leading.Two first second) = parameter_seen first ∷ parameter_seen second ∷ []

abbrev pub outcome_seen : Outcome → Ty
outcome_seen (outcome.Of v) = type_of v
outcome_seen outcome.Never = ty.Never
outcome_seen (outcome.BoxOf t) = ty.BoxOf t.now

-- the parameters in front, and then those that are locals
abbrev pub signature_seen : Signature → calls.Signature
signature_seen s = record {
  parameters = leading_seen s.leading ++ map (λ t. calls.Typed t) (calls.types_of s.locals.now);
  result = outcome_seen s.result;
}

abbrev pub ok_signature : OrRefused Signature → OrRefused calls.Signature
ok_signature (Ok s) = Ok (signature_seen s)
ok_signature (Err kind) = Err kind
