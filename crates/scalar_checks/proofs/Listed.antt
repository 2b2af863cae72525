-- The faults of a step are among the checks of its statement or terminator, and these among those of the function.
use Rattle.std.proofs.Common.{◌≡◌, ◌⊎◌, inl, inr, ℕ, zero, suc, ◌+◌, ◌<◌, ◌==◌, Bool, true, false, cond, List, [], ◌∷◌, ◌++◌, length, Option, Some, None, Result, Ok, Err, find, subst, sym, ap, ◌∙◌, refl, arith}
use Rattle.std.specs.Prelude.{slice_get}
use Rattle.std.proofs.lemmas.Bool.{eqb-true}
use Rattle.std.proofs.lemmas.Option.{none-some, same_Some}
use Rattle.word_bits.specs.declared.word.Word.{Word}
use Rattle.vk_core.specs.declared.ids.BlockId.{BlockId}
use Rattle.vk_core.specs.declared.check.CheckClass.{CheckClass}
use Rattle.vk_core.specs.declared.check.CheckClass.TheVariants as class
use Rattle.mir_ir.specs.declared.tree.Arm.{Arm}
use Rattle.mir_ir.specs.declared.tree.Block.{Block}
use Rattle.mir_ir.specs.declared.tree.Constant.{Constant}
use Rattle.mir_ir.specs.declared.tree.Constant.TheVariants as constant
use Rattle.mir_ir.specs.declared.tree.Function.{Function}
use Rattle.mir_ir.specs.declared.tree.Operand.{Operand}
use Rattle.mir_ir.specs.declared.tree.Operand.TheVariants as operand
use Rattle.mir_ir.specs.declared.tree.Statement.{Statement}
use Rattle.mir_ir.specs.declared.tree.Statement.TheVariants as statement
use Rattle.mir_ir.specs.declared.tree.Terminator.{Terminator}
use Rattle.mir_ir.specs.declared.tree.Terminator.TheVariants as terminator
use Rattle.scalar_runs.specs.declared.builtins.Builtin.{Builtin}
use Rattle.scalar_runs.specs.declared.builtins.Builtin.TheVariants as builtin
use Rattle.scalar_runs.specs.declared.breach.Breach.{Breach}
use Rattle.scalar_checks.specs.declared.checks.Check.{Check}
use Rattle.scalar_runs.specs.Builtins.{builtin_of}
use Rattle.scalar_checks.specs.Checks.{assign_checks, block_checks, call_checks, checks_behind, checks_below, checks_in, checks_of, found_checks, memory_checks, names_place, place_checks, statement_checks, terminator_checks, text_checks}
use Rattle.scalar_form.specs.Form.{is_scalar}
use Rattle.scalar_runs.specs.Look.{block_of, blocks_end}
use Rattle.scalar_runs.specs.Run.{Configuration, Stepped, Goes, Ends, Cuts, Faults, Chooses, Stuck, assigned, block_step, breach_at, builtin_step, call_step, condition_step, entry_of, is_expected, statement_step, step, step_at, switched, terminator_step, tested}
use Rattle.scalar_form.specs.Typing.{is_switch, is_terminator, is_truth, operand_kind, switch_width}
use Rattle.scalar_runs.specs.Values.{operand_value, rvalue_value, word_of_constant}
use Rattle.scalar_form.proofs.FormLaws.{IsBlock, found_number, scalar_block}
use Rattle.scalar_runs.proofs.OperandLaws.{and_left}
use Rattle.scalar_checks.specs.Complete.{HasCheck}
use Rattle.scalar_checks.proofs.Operands.{ErrListed, HasMemory, here, memory_alone, operand_listed, rvalue_listed}

pub has_left : (xs ys : List Check) (b : Breach) → HasCheck xs b → HasCheck (xs ++ ys) b
has_left [] ys b h = absurd h
has_left (x ∷ xs) ys b h = elim h [ inl this ↦ inl this | inr later ↦ inr (has_left xs ys b later) ]

pub has_right : (xs ys : List Check) (b : Breach) → HasCheck ys b → HasCheck (xs ++ ys) b
has_right [] ys b h = h
has_right (x ∷ xs) ys b h = inr (has_right xs ys b h)

-- the fault of a step is a check of the list
abbrev pub Listed : Configuration → List Check → Stepped → Type 0
Listed s checks (Goes t) = Unit {0}
Listed s checks Ends = Unit {0}
Listed s checks Cuts = Unit {0}
Listed s checks (Faults c) = HasCheck checks (breach_at s c)
Listed s checks (Chooses k destination next) = Unit {0}
Listed s checks Stuck = Unit {0}

pub listed_assigned : (s : Configuration) (checks : List Check) (place : ℕ) (v : Result Word CheckClass) → ErrListed s checks v → Listed s checks (assigned s place v)
listed_assigned s checks place (Ok w) h = tt
listed_assigned s checks place (Err c) h = h

pub listed_statement : (f : Function) (s : Configuration) (this : Statement) → Listed s (statement_checks (here s) s.index this) (statement_step f s this)
listed_statement f s (statement.Assign place value) = listed_assigned s (assign_checks (here s) s.index value) place.local.0 (rvalue_value f s.values value) (rvalue_listed f s value)
listed_statement f s (statement.StorageLive local) = tt
listed_statement f s (statement.StorageDead local) = tt
listed_statement f s (statement.SetVariant place variant) = tt

-- in a list that has at least these checks
pub listed_among : (s : Configuration) (xs ys : List Check) (done : Stepped) → ((b : Breach) → HasCheck xs b → HasCheck ys b) → Listed s xs done → Listed s ys done
listed_among s xs ys (Goes t) among h = tt
listed_among s xs ys Ends among h = tt
listed_among s xs ys Cuts among h = tt
listed_among s xs ys (Faults c) among h = among (breach_at s c) h
listed_among s xs ys (Chooses k destination next) among h = tt
listed_among s xs ys Stuck among h = tt

pub listed_switched : (s : Configuration) (checks : List Check) (arms : List Arm) (otherwise : BlockId) (v : Result Word CheckClass) → ErrListed s checks v → Listed s checks (switched s arms otherwise v)
listed_switched s checks arms otherwise (Ok w) h = tt
listed_switched s checks arms otherwise (Err c) h = h

pub listed_tested : (s : Configuration) (checks : List Check) (failed : Stepped) (expected : Bool) (next : ℕ) (v : Result Word CheckClass) → Listed s checks failed → ErrListed s checks v → Listed s checks (tested failed expected s next v)
listed_tested s checks failed expected next (Ok w) f h =
    elim (is_expected expected w) as (λ t. Listed s checks (cond t (Goes (entry_of next s.values)) failed)) [ true ↦ tt | false ↦ f ]
listed_tested s checks failed expected next (Err c) f h = h

-- a constant that is switched on, or tested, has a value
pub switched_constant : (f : Function) (s : Configuration) (from : ℕ) (c : Constant) (arms : List Arm) (otherwise : BlockId) → is_switch f from (switch_width (operand_kind f (operand.Const c))) arms otherwise ≡ true → ErrListed s [] (word_of_constant c)
switched_constant f s from (constant.Integer t w) arms otherwise h = tt
switched_constant f s from (constant.Bool b) arms otherwise h = tt
switched_constant f s from (constant.Char c) arms otherwise h = tt
switched_constant f s from (constant.Text t) arms otherwise h = cc
switched_constant f s from constant.Unit arms otherwise h = cc
switched_constant f s from (constant.Named n) arms otherwise h = cc

pub tested_constant : (f : Function) (s : Configuration) (checks : List Check) (c : Constant) → is_truth f (operand.Const c) ≡ true → ErrListed s checks (word_of_constant c)
tested_constant f s checks (constant.Integer t w) h = tt
tested_constant f s checks (constant.Bool b) h = tt
tested_constant f s checks (constant.Char c) h = tt
tested_constant f s checks (constant.Text t) h = cc
tested_constant f s checks constant.Unit h = cc
tested_constant f s checks (constant.Named n) h = cc

pub listed_switch : (f : Function) (s : Configuration) (from : ℕ) (o : Operand) (arms : List Arm) (otherwise : BlockId) → is_switch f from (switch_width (operand_kind f o)) arms otherwise ≡ true
    → Listed s (place_checks (here s) s.index (names_place o)) (switched s arms otherwise (operand_value f s.values o))
listed_switch f s from (operand.Copy p) arms otherwise h = listed_switched s (memory_checks (here s) s.index) arms otherwise (operand_value f s.values (operand.Copy p)) (operand_listed f s (memory_checks (here s) s.index) (memory_alone s) (operand.Copy p))
listed_switch f s from (operand.Move p) arms otherwise h = listed_switched s (memory_checks (here s) s.index) arms otherwise (operand_value f s.values (operand.Move p)) (operand_listed f s (memory_checks (here s) s.index) (memory_alone s) (operand.Move p))
listed_switch f s from (operand.Const c) arms otherwise h = listed_switched s [] arms otherwise (word_of_constant c) (switched_constant f s from c arms otherwise h)

-- the checks of an `assert` terminator
abbrev pub assert_checks : Configuration → Operand → List ℕ → List Operand → List Check
assert_checks s o text shown = terminator_checks (here s) s.index (terminator.Assert o true text shown (here s))

pub asserted_listed : (f : Function) (s : Configuration) (o : Operand) (text : List ℕ) (shown : List Operand) → is_truth f o ≡ true → ErrListed s (assert_checks s o text shown) (operand_value f s.values o)
asserted_listed f s (operand.Copy p) text shown h = operand_listed f s (assert_checks s (operand.Copy p) text shown) (record { uninit = inr (inr (inl refl)); invalid = inr (inr (inr (inl refl))) }) (operand.Copy p)
asserted_listed f s (operand.Move p) text shown h = operand_listed f s (assert_checks s (operand.Move p) text shown) (record { uninit = inr (inr (inl refl)); invalid = inr (inr (inr (inl refl))) }) (operand.Move p)
asserted_listed f s (operand.Const c) text shown h = tested_constant f s (assert_checks s (operand.Const c) text shown) c h

pub listed_assert : (f : Function) (s : Configuration) (o : Operand) (expected : Bool) (text : List ℕ) (shown : List Operand) (next : ℕ) → is_truth f o ≡ true
    → Listed s (assert_checks s o text shown) (tested (Faults class.Panic) expected s next (operand_value f s.values o))
listed_assert f s o expected text shown next h = listed_tested s (assert_checks s o text shown) (Faults class.Panic) expected next (operand_value f s.values o) (inl refl) (asserted_listed f s o text shown h)

pub listed_condition : (f : Function) (s : Configuration) (checks : List Check) (failed : Stepped) (arguments : List Operand) (next : ℕ) → HasMemory s checks → Listed s checks failed → Listed s checks (condition_step f failed s arguments next)
listed_condition f s checks failed [] next m h = tt
listed_condition f s checks failed (condition ∷ more) next m h = listed_tested s checks failed true next (operand_value f s.values condition) h (operand_listed f s checks m condition)

-- the checks of a call
abbrev pub called_checks : Configuration → Option Builtin → List Operand → Option BlockId → List Check
called_checks s called arguments next = text_checks (here s) s.index called arguments ++ call_checks (here s) s.index next

pub call_memory : (s : Configuration) (next : Option BlockId) → HasMemory s (call_checks (here s) s.index next)
call_memory s next = record { uninit = inr (inl refl); invalid = inr (inr (inl refl)) }

pub listed_builtin : (f : Function) (s : Configuration) (destination : ℕ) (called : Builtin) (arguments : List Operand) (next : Option BlockId) → Listed s (called_checks s (Some called) arguments next) (builtin_step f s destination called arguments next)
listed_builtin f s destination builtin.Panic arguments next = inl refl
listed_builtin f s destination (builtin.Any k) arguments (Some next) = tt
listed_builtin f s destination (builtin.Any k) arguments None = tt
listed_builtin f s destination builtin.Assume arguments (Some next) = listed_condition f s (called_checks s (Some builtin.Assume) arguments (Some next)) Cuts arguments next.0 (call_memory s (Some next)) tt
listed_builtin f s destination builtin.Assume arguments None = tt
listed_builtin f s destination builtin.Assert arguments (Some next) = listed_condition f s (called_checks s (Some builtin.Assert) arguments (Some next)) (Faults class.Assertion) arguments next.0 (record { uninit = inr (inr (inl refl)); invalid = inr (inr (inr (inl refl))) }) (inl refl)
listed_builtin f s destination builtin.Assert arguments None = tt

pub listed_call : (f : Function) (s : Configuration) (destination : ℕ) (called : Option Builtin) (arguments : List Operand) (next : Option BlockId) → Listed s (called_checks s called arguments next) (call_step f s destination called arguments next)
listed_call f s destination None arguments next = tt
listed_call f s destination (Some called) arguments next = listed_builtin f s destination called arguments next

pub listed_terminator : (f : Function) (s : Configuration) (from : ℕ) (last : Terminator) → is_terminator f from last ≡ true → Listed s (terminator_checks (here s) s.index last) (terminator_step f s last)
listed_terminator f s from (terminator.Goto target) h = tt
listed_terminator f s from (terminator.Switch o arms otherwise) h = listed_switch f s from o arms otherwise h
listed_terminator f s from terminator.Return h = tt
listed_terminator f s from terminator.Unreachable h = tt
listed_terminator f s from (terminator.Drop place next) h = tt
listed_terminator f s from (terminator.Assert o expected text shown next) h = listed_assert f s o expected text shown next.0 (and_left (is_truth f o) _ (and_left _ _ h))
listed_terminator f s from (terminator.Call destination callee arguments next) h = listed_call f s destination.local.0 (builtin_of callee) arguments next

-- the checks of a statement, by its place in the block
pub behind_statement : (block : BlockId) (base : ℕ) (ss : List Statement) (last : Terminator) (k : ℕ) (this : Statement) (b : Breach) → slice_get ss k ≡ Some this → HasCheck (statement_checks block (base + k) this) b → HasCheck (checks_behind block base ss last) b
behind_statement block base [] last k this b e h = cc
behind_statement block base (x ∷ xs) last zero this b e h =
    let same : base + 0 ≡ base = omega arith in
    has_left (statement_checks block base x) (checks_behind block (base + 1) xs last) b (first_checks block base x this b e (subst (λ n. HasCheck (statement_checks block n this) b) same h))
  where
    first_checks : (block : BlockId) (base : ℕ) (x this : Statement) (b : Breach) → Some x ≡ Some this → HasCheck (statement_checks block base this) b → HasCheck (statement_checks block base x) b
    first_checks block base x this b e h = subst (λ y. HasCheck (statement_checks block base y) b) (same_Some this x (sym e)) h
behind_statement block base (x ∷ xs) last (suc k) this b e h =
    let there : base + suc k ≡ base + 1 + k = omega arith in
    has_right (statement_checks block base x) (checks_behind block (base + 1) xs last) b
    (behind_statement block (base + 1) xs last k this b e (subst (λ n. HasCheck (statement_checks block n this) b) there h))

-- and those of the terminator
pub behind_terminator : (block : BlockId) (base : ℕ) (ss : List Statement) (last : Terminator) (b : Breach) → HasCheck (terminator_checks block (base + length ss) last) b → HasCheck (checks_behind block base ss last) b
behind_terminator block base [] last b h =
    let same : base + 0 ≡ base = omega arith in
    subst (λ n. HasCheck (terminator_checks block n last) b) same h
behind_terminator block base (x ∷ xs) last b h =
    let there : base + length (x ∷ xs) ≡ base + 1 + length xs = omega arith in
    has_right (statement_checks block base x) (checks_behind block (base + 1) xs last) b
    (behind_terminator block (base + 1) xs last b (subst (λ n. HasCheck (terminator_checks block n last) b) there h))

pub listed_end : (f : Function) (s : Configuration) (b : Block) (at_end : Bool) → (s.index == length b.statements) ≡ at_end → b.id ≡ here s → is_terminator f b.id.0 b.terminator ≡ true → Listed s (block_checks b) (cond at_end (terminator_step f s b.terminator) Stuck)
listed_end f s b false e at form = tt
listed_end f s b true e at form =
    let there : s.index ≡ 0 + length b.statements = eqb-true s.index (length b.statements) e ∙ omega arith in
    listed_among s (terminator_checks (here s) s.index b.terminator) (block_checks b) (terminator_step f s b.terminator)
    (λ t h. behind_terminator b.id 0 b.statements b.terminator t (subst (λ n. HasCheck (terminator_checks b.id n b.terminator) t) there (subst (λ i. HasCheck (terminator_checks i s.index b.terminator) t) (sym at) h)))
    (listed_terminator f s b.id.0 b.terminator form)

pub listed_at : (f : Function) (s : Configuration) (b : Block) (this : Option Statement) → slice_get b.statements s.index ≡ this → b.id ≡ here s → is_terminator f b.id.0 b.terminator ≡ true → Listed s (block_checks b) (step_at f s b.terminator (length b.statements) this)
listed_at f s b None e at form = listed_end f s b (s.index == length b.statements) refl at form
listed_at f s b (Some this) e at form =
    let first : s.index ≡ 0 + s.index = omega arith in
    listed_among s (statement_checks (here s) s.index this) (block_checks b) (statement_step f s this)
    (λ t h. behind_statement b.id 0 b.statements b.terminator s.index this t e (subst (λ n. HasCheck (statement_checks b.id n this) t) first (subst (λ i. HasCheck (statement_checks i s.index this) t) (sym at) h)))
    (listed_statement f s this)

-- the block's checks are among those of the function
pub below_end : (bs : List Block) (n : ℕ) (b : Block) → find (λ x. x.id.0 == n) bs ≡ Some b → n < blocks_end bs
below_end [] n b e = absurd (none-some b e)
below_end (x ∷ xs) n b e =
    elim (x.id.0 == n) as (λ v. (x.id.0 == n) ≡ v → cond v (Some x) (find (λ y. y.id.0 == n) xs) ≡ Some b → n < blocks_end (x ∷ xs)) [
      | true ↦ λ same h. (let number : x.id.0 ≡ n = eqb-true x.id.0 n same in omega arith)
      | false ↦ λ other h. (let below : n < blocks_end xs = below_end xs n b h in omega arith)
    ] refl e

pub among_below : (f : Function) (n below : ℕ) (b : Breach) → n < below → HasCheck (checks_in f n) b → HasCheck (checks_below f below) b
among_below f n zero b less h = absurd (omega arith)
among_below f n (suc m) b less h =
    let place : (n < m) ⊎ (n ≡ m) = grind arith in
    elim place [ inl before ↦ has_left (checks_below f m) (checks_in f m) b (among_below f n m b before h) | inr same ↦ has_right (checks_below f m) (checks_in f m) b (subst (λ k. HasCheck (checks_in f k) b) same h) ]

pub same_id : (i : BlockId) (n : ℕ) → i.0 ≡ n → i ≡ record { 0 = n }
same_id i n e = ap (λ k. (let r : BlockId = record { 0 = k } in r)) e

pub listed_block : (f : Function) (s : Configuration) (found : Option Block) → block_of f s.block ≡ found → is_scalar f ≡ true → Listed s (found_checks found) (block_step f s found)
listed_block f s None e form = tt
listed_block f s (Some b) e form =
    let known : IsBlock f b = scalar_block f s.block b form e in
    listed_at f s b (slice_get b.statements s.index) refl (same_id b.id s.block (found_number f.blocks s.block b e)) known.terminator

pub none_listed : (f : Function) (s : Configuration) (found : Option Block) → block_of f s.block ≡ found → (b : Breach) → HasCheck (found_checks found) b → s.block < blocks_end f.blocks
none_listed f s None e b h = absurd h
none_listed f s (Some x) e b h = below_end f.blocks s.block x e

pub among_all : (f : Function) (s : Configuration) (b : Breach) → HasCheck (checks_in f s.block) b → HasCheck (checks_of f) b
unfolding checks_of
among_all f s b h = among_below f s.block (blocks_end f.blocks) b (none_listed f s (block_of f s.block) refl b h) h

pub step_listed : (f : Function) (s : Configuration) → is_scalar f ≡ true → Listed s (checks_of f) (step f s)
unfolding step
step_listed f s form = listed_among s (checks_in f s.block) (checks_of f) (block_step f s (block_of f s.block)) (among_all f s) (listed_block f s (block_of f s.block) refl form)
