-- Walks along arguments: all are typed, and then those are compared that a callee takes.
use Rattle.std.proofs.Common.{◌≡◌, ℕ, zero, suc, ◌+◌, ◌-◌, ◌<◌, ◌≤◌, Bool, true, false, ◌&&◌, ◌==◌, List, [], ◌∷◌, Option, Some, None, Ok, Err, drop, length, slice_get, refl, ap, sym, ◌∙◌, arith}
use Rattle.std.specs.Prelude.{is_none, is_some, not, slice_index_or}
use Rattle.std.proofs.Math.Seq.{drop-cons}
use Rattle.std.proofs.lemmas.Bool.Decides.{nat_tests}
use Rattle.std.proofs.lemmas.List.{drop_all}
use Rattle.mir_ir.specs.declared.tree.Function.{Function}
use Rattle.mir_ir.specs.declared.tree.Operand.{Operand}
use Rattle.mir_ir.specs.declared.declarations.Declarations.{Declarations}
use Rattle.type_rules.specs.Refusals.{OrRefused, ◌>>=◌}
use Rattle.type_rules.specs.Calls.{Argument, argument_type, arguments_from, fit_arguments}
use Rattle.function_types.specs.declared.signatures.Parameter.{Parameter}
use Rattle.function_types.specs.Steps.{is_taken}
use Rattle.function_types.specs.Views.{some_parameter}

one_left : (n text : ℕ) → ((text - n) == 1) ≡ (n + 1 == text)
one_left n text = grind (arith, nat_tests)

with_first : {C : Type 0} (test : List Argument → C) (a : Argument) (r : OrRefused (List Argument)) → ((r >>= λ rest. Ok (a ∷ rest)) >>= λ given. Ok (test given)) ≡ (r >>= λ given. Ok (test (a ∷ given)))
with_first test a (Ok given) = refl
with_first test a (Err kind) = refl

module _ {C : Type 0} (d : Declarations) (f : Function) where
  -- each has a type, and then the test of what is given tells
  abbrev pub tested : ℕ → (List Argument → C) → List Operand → OrRefused C
  tested text test os = arguments_from d f text os >>= λ given. Ok (test given)

  abbrev from : ℕ → (List Argument → C) → List Operand → OrRefused Argument → OrRefused C
  from text test os r = (r >>= λ a. (arguments_from d f text os >>= λ rest. Ok (a ∷ rest))) >>= λ given. Ok (test given)

  first_at : (text : ℕ) (test : List Argument → C) (os : List Operand) (n : ℕ) (o : Operand) (takes : Bool) → n < length os → o ≡ slice_index_or os n o → takes ≡ (n + 1 == text)
      → tested (text - n) test (drop n os) ≡ from (text - (n + 1)) test (drop (n + 1) os) (argument_type d f takes o)
  first_at text test os n o takes lt is may =
      let next : suc n ≡ n + 1 = omega arith in
      let left : text - n - 1 ≡ text - (n + 1) = omega arith in
      ap (tested (text - n) test) (drop-cons os n o lt)
      ∙ (λ i. from (left i) test (drop (next i) os) (argument_type d f ((one_left n text ∙ sym may) i) (sym is i)))

  -- an argument that has a type leaves the others
  pub typed_at : (text : ℕ) (test later : List Argument → C) (os : List Operand) (n : ℕ) (o : Operand) (takes : Bool) (a : Argument) (all : OrRefused C) → n < length os → o ≡ slice_index_or os n o
      → takes ≡ (n + 1 == text) → Ok a ≡ argument_type d f takes o → ((given : List Argument) → test (a ∷ given) ≡ later given)
      → tested (text - n) test (drop n os) ≡ all → tested (text - (n + 1)) later (drop (n + 1) os) ≡ all
  typed_at text test later os n o takes a all lt is may has tells h =
      sym (sym h ∙ first_at text test os n o takes lt is may ∙ ap (from (text - (n + 1)) test (drop (n + 1) os)) (sym has)
      ∙ with_first test a (arguments_from d f (text - (n + 1)) (drop (n + 1) os))
      ∙ (λ i. arguments_from d f (text - (n + 1)) (drop (n + 1) os) >>= λ given. Ok (tells given i)))

  -- where all have types, the test tells
  pub typed_end : (text : ℕ) (test : List Argument → C) (os : List Operand) (n : ℕ) (all : OrRefused C) → length os ≤ n → tested (text - n) test (drop n os) ≡ all → Ok (test []) ≡ all
  typed_end text test os n all le h = ap (tested (text - n) test) (sym (drop_all n os le)) ∙ h

and_assoc : (a b c : Bool) → (a && (b && c)) ≡ ((a && b) && c)
and_assoc true b c = refl
and_assoc false b c = refl

fit_first : (parameters : List Argument) (n : ℕ) (a : Argument) (given : List Argument)
    → fit_arguments (a ∷ given) (drop n parameters) ≡ (is_taken a (slice_get parameters n) && fit_arguments given (drop (n + 1) parameters))
fit_first [] zero a given = refl
fit_first [] (suc n) a given = refl
fit_first (p ∷ ps) zero a given = refl
fit_first (p ∷ ps) (suc n) a given =
    let next : suc n + 1 ≡ suc (n + 1) = omega arith in
    fit_first ps n a given ∙ ap (λ k. is_taken a (slice_get ps n) && fit_arguments given (drop k (p ∷ ps))) (sym next)

-- the parameters from a place on, with the first of them compared
pub fit_more : (parameters : List Argument) (n : ℕ) (a : Argument) (p : Option Parameter) (b c r : Bool) → some_parameter p ≡ slice_get parameters n → c ≡ is_taken a (some_parameter p) → r ≡ (b && c)
    → (given : List Argument) → (b && fit_arguments (a ∷ given) (drop n parameters)) ≡ (r && fit_arguments given (drop (n + 1) parameters))
fit_more parameters n a p b c r at is made given =
    ap (λ s. b && s) (fit_first parameters n a given ∙ ap (λ s. s && fit_arguments given (drop (n + 1) parameters)) (sym (is ∙ ap (is_taken a) at)))
    ∙ and_assoc b c (fit_arguments given (drop (n + 1) parameters)) ∙ ap (λ s. s && fit_arguments given (drop (n + 1) parameters)) (sym made)

fit_none : (parameters : List Argument) (n : ℕ) → fit_arguments [] (drop n parameters) ≡ is_none (slice_get parameters n)
fit_none [] zero = refl
fit_none [] (suc n) = refl
fit_none (p ∷ ps) zero = refl
fit_none (p ∷ ps) (suc n) = fit_none ps n

none_seen : (p : Option Parameter) (c : Bool) → is_some p ≡ not c → c ≡ is_none (some_parameter p)
none_seen None true h = refl
none_seen None false h = absurd cc
none_seen (Some p) true h = absurd cc
none_seen (Some p) false h = refl

-- no parameter is left where there is none at the place
pub fit_end : (parameters : List Argument) (n : ℕ) (p : Option Parameter) (b c r : Bool) → some_parameter p ≡ slice_get parameters n → is_some p ≡ not c → r ≡ (b && c)
    → r ≡ (b && fit_arguments [] (drop n parameters))
fit_end parameters n p b c r at is made =
    made ∙ ap (λ s. b && s) (none_seen p c is ∙ ap is_none at ∙ sym (fit_none parameters n))
