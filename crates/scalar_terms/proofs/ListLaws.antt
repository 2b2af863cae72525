-- Statements, one after another.
use Rattle.std.proofs.Common.{◌≡◌, ℕ, ◌+◌, ◌≤◌, ◌<◌, true, List, [], ◌∷◌, length, get_or, subst, sym, arith}
use Rattle.mir_ir.specs.declared.tree.Function.{Function}
use Rattle.mir_ir.specs.declared.tree.Statement.{Statement}
use Rattle.sym_terms.specs.declared.term.Term.{Term}
use Rattle.scalar_form.specs.Typing.{are_statements, is_statement}
use Rattle.scalar_runs.proofs.OperandLaws.{and_left, and_right}
use Rattle.scalar_terms.specs.declared.failures.Failure.{Failure}
use Rattle.scalar_terms.specs.declared.ways.Way.{Way}
use Rattle.scalar_terms.specs.Ends.{AreStated}
use Rattle.scalar_terms.specs.Places.{stated}
use Rattle.scalar_terms.specs.Steps.{IsStated}
use Rattle.scalar_terms.specs.Ways.{AreFailures, IsWay}
use Rattle.value_terms.proofs.MadeLaws.{grown_same, grown_trans}
use Rattle.scalar_terms.proofs.MergeLaws.{rest_cons, rest_of, rest_shorter}

pub none_stated : (f : Function) (terms : List Term) (way : Way) (fs : List Failure) (b i : ℕ) → IsWay f terms way → AreFailures terms fs → AreStated f terms terms way way fs fs b i []
none_stated f terms way fs b i is are = record { grown = grown_same terms; way = is; failures = are; is = λ inputs spot point told. (point, told) }

pub more_stated : (f : Function) (old mid new : List Term) (was next now : Way) (fs gs hs : List Failure) (b i : ℕ) (this : Statement) (xs : List Statement) → IsStated f old mid was next fs gs b i this → AreStated f mid new next now gs hs b (i + 1) xs → AreStated f old new was now fs hs b i (this ∷ xs)
more_stated f old mid new was next now fs gs hs b i this xs first rest = record {
  grown = grown_trans old mid new first.grown rest.grown;
  way = rest.way;
  failures = rest.failures;
  is = λ inputs spot point told. (let there = first.is inputs spot point told in rest.is inputs (stated f b i this spot) there.0 there.1);
}

pub stated_on : (f : Function) (old mid new : List Term) (was next now : Way) (fs gs hs : List Failure) (b i : ℕ) (this : Statement) (xs : List Statement) → 1 ≤ length xs → this ≡ get_or xs 0 this → IsStated f old mid was next fs gs b i this
    → AreStated f mid new next now gs hs b (i + 1) (rest_of xs) → AreStated f old new was now fs hs b i xs
stated_on f old mid new was next now fs gs hs b i this [] some e first rest = absurd (omega arith)
stated_on f old mid new was next now fs gs hs b i this (x ∷ xs) some e first rest =
    more_stated f old mid new was next now fs gs hs b i x xs (subst (IsStated f old mid was next fs gs b i) e first) (subst (AreStated f mid new next now gs hs b (i + 1)) (rest_cons x xs) rest)

pub first_typed : (f : Function) (this : Statement) (xs : List Statement) → 1 ≤ length xs → this ≡ get_or xs 0 this → are_statements f xs ≡ true → is_statement f this ≡ true
first_typed f this [] some e h = absurd (omega arith)
first_typed f this (x ∷ xs) some e h = subst (λ s. is_statement f s ≡ true) (sym e) (and_left (is_statement f x) (are_statements f xs) h)

pub rest_typed : (f : Function) (xs : List Statement) → 1 ≤ length xs → are_statements f xs ≡ true → are_statements f (rest_of xs) ≡ true
rest_typed f [] some h = absurd (omega arith)
rest_typed f (x ∷ xs) some h = subst (λ l. are_statements f l ≡ true) (sym (rest_cons x xs)) (and_right (is_statement f x) (are_statements f xs) h)

pub none_on : (f : Function) (terms : List Term) (way : Way) (fs : List Failure) (b i : ℕ) (xs : List Statement) → length xs < 1 → IsWay f terms way → AreFailures terms fs → AreStated f terms terms way way fs fs b i xs
none_on f terms way fs b i [] none is are = none_stated f terms way fs b i is are
none_on f terms way fs b i (x ∷ xs) none is are = absurd (omega arith)

-- the first so many statements were passed, and what comes behind those that are left comes behind all
pub record IsUnderway (f : Function) (old : List Term) (was : Way) (before : List Failure) (b : ℕ) (all : List Statement) (terms : List Term) (now : Way) (fs : List Failure) (i : ℕ) (left : List Statement) : Type 0 where
  pub count : i + length left < 4294967296
  pub way : IsWay f terms now
  pub failures : AreFailures terms fs
  pub typed : are_statements f left ≡ true
  pub rest : (new : List Term) (last : Way) (behind : List Failure) → AreStated f terms new now last fs behind b i left → AreStated f old new was last before behind b 0 all

pub begun : (f : Function) (terms : List Term) (way : Way) (fs : List Failure) (b : ℕ) (all : List Statement) → length all < 4294967296 → IsWay f terms way → AreFailures terms fs → are_statements f all ≡ true → IsUnderway f terms way fs b all terms way fs 0 all
begun f terms way fs b all short is are typed = record { count = omega (arith, short); way = is; failures = are; typed = typed; rest = λ new last behind h. h }

pub one_on : (f : Function) (old mid next : List Term) (was now last : Way) (before fs gs : List Failure) (b i : ℕ) (all left : List Statement) (this : Statement) → 1 ≤ length left → this ≡ get_or left 0 this
    → IsUnderway f old was before b all mid now fs i left → IsStated f mid next now last fs gs b i this → IsUnderway f old was before b all next last gs (i + 1) (rest_of left)
one_on f old mid next was now last before fs gs b i all left this some e underway stated_is =
    let shorter : length (rest_of left) < length left = rest_shorter left some in
    let short : i + length left < 4294967296 = underway.count in
    record {
      count = omega (arith, shorter, short);
      way = stated_is.way;
      failures = stated_is.failures;
      typed = rest_typed f left some underway.typed;
      rest = λ new final behind h. underway.rest new final behind (stated_on f mid next new now last final fs gs behind b i this left some e stated_is h);
    }

pub all_on : (f : Function) (old terms : List Term) (was now : Way) (before fs : List Failure) (b i : ℕ) (all left : List Statement) → length left < 1 → IsUnderway f old was before b all terms now fs i left → AreStated f old terms was now before fs b 0 all
all_on f old terms was now before fs b i all left none underway = underway.rest terms now fs (none_on f terms now fs b i left none underway.way underway.failures)
