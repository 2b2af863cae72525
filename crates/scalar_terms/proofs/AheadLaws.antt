-- Steps of a function of the form lead to blocks that are there, with greater numbers; so a run ends before the end of the blocks.
use Rattle.std.proofs.Common.{◌≡◌, ◌≢◌, ℕ, zero, suc, ◌+◌, ◌<◌, ◌≤◌, ◌==◌, ◌&&◌, not, Bool, true, false, cond, List, [], ◌∷◌, Option, Some, None, length, find, subst, sym, ap, refl, arith, add-one}
use Rattle.std.specs.Prelude.{Result, Ok, Err, nat_lt}
use Rattle.std.specs.List.{list_any}
use Rattle.std.proofs.lemmas.Bool.{eqb-true, eqb-false, ltb-true}
use Rattle.vk_core.specs.declared.check.CheckClass.{CheckClass}
use Rattle.vk_core.specs.declared.check.CheckClass.TheVariants as class
use Rattle.vk_core.specs.declared.ids.BlockId.{BlockId}
use Rattle.word_bits.specs.declared.word.Word.{Word}
use Rattle.mir_ir.specs.declared.tree.Arm.{Arm}
use Rattle.mir_ir.specs.declared.tree.Block.{Block}
use Rattle.mir_ir.specs.declared.tree.Function.{Function}
use Rattle.mir_ir.specs.declared.tree.Local.{Local}
use Rattle.mir_ir.specs.declared.tree.Operand.{Operand}
use Rattle.mir_ir.specs.declared.tree.Statement.{Statement}
use Rattle.mir_ir.specs.declared.tree.Terminator.{Terminator}
use Rattle.mir_ir.specs.declared.tree.Terminator.TheVariants as terminator
use Rattle.scalar_runs.specs.declared.builtins.Builtin.{Builtin}
use Rattle.scalar_runs.specs.declared.builtins.Builtin.TheVariants as builtin
use Rattle.scalar_runs.specs.declared.kinds.ValueKind.{ValueKind}
use Rattle.scalar_runs.specs.Builtins.{builtin_of}
use Rattle.scalar_form.specs.Form.{are_locals, are_numbered, is_scalar}
use Rattle.scalar_runs.specs.Kinds.{is_value, is_word, kind_of}
use Rattle.scalar_runs.specs.Look.{block_of, blocks_end, locals_end}
use Rattle.scalar_runs.specs.Run.{Configuration, Stepped, Goes, Ends, Cuts, Faults, Chooses, Stuck, call_step, condition_step, entry_of, is_expected, statement_step, stored, switched, target_of, terminator_step, tested}
use Rattle.scalar_form.specs.Typing.{are_arms, has_kind, is_any_call, is_assert_call, is_assume_call, is_call, is_switch, is_target, is_terminator, is_there, operand_kind, place_kind, switch_width}
use Rattle.scalar_runs.specs.Values.{operand_value}
use Rattle.scalar_form.proofs.FormLaws.{found_number, parts_of, scalar_block}
use Rattle.scalar_runs.proofs.OperandLaws.{and_left, and_right}
use Rattle.scalar_terms.specs.Places.{Place, Before, Done, Spot, Here, There, Wanting, all_stated, behind_block, chosen_word, entered, finished, passed_at, place, place_of, spot_of, standing}
use Rattle.scalar_terms.specs.Sweeps.{HaveRoom}
use Rattle.scalar_terms.proofs.SweepLaws.{place_behind}
use Rattle.scalar_terms.proofs.SwitchLaws.{target_hit, target_missed}

-- a block that is there, behind the one with this number
abbrev pub IsAhead : Function → ℕ → ℕ → Type 0
IsAhead f from to = (from < to) × (is_there (block_of f to) ≡ true)

-- where a step goes on
abbrev pub LeadsAhead : Function → ℕ → Stepped → Type 0
LeadsAhead f from (Goes t) = IsAhead f from t.block
LeadsAhead f from (Chooses k destination next) = IsAhead f from next
LeadsAhead f from _ = Unit {0}

target_ahead : (f : Function) (from : ℕ) (to : BlockId) → is_target f from to ≡ true → IsAhead f from to.0
target_ahead f from to h = (ltb-true from to.0 (and_left (nat_lt from to.0) (is_there (block_of f to.0)) h), and_right (nat_lt from to.0) (is_there (block_of f to.0)) h)

-- a target of a switch
arms_ahead : (f : Function) (from width : ℕ) (arms : List Arm) (otherwise : BlockId) (n : ℕ) → are_arms f from width arms ≡ true → is_target f from otherwise ≡ true → is_target f from (target_of arms otherwise n) ≡ true
arms_ahead f from width [] otherwise n h o = o
arms_ahead f from width (arm ∷ arms) otherwise n h o =
    let word_test = is_word (record { width = width; value = arm.number }) in
    let apart = not (list_any (λ (other : Arm). other.number == arm.number) arms) in
    let three : (word_test && is_target f from arm.target && apart) ≡ true = and_left (word_test && is_target f from arm.target && apart) (are_arms f from width arms) h in
    let two : (word_test && is_target f from arm.target) ≡ true = and_left (word_test && is_target f from arm.target) apart three in
    by_cases (and_right word_test (is_target f from arm.target) two) (arms_ahead f from width arms otherwise n (and_right (word_test && is_target f from arm.target && apart) (are_arms f from width arms) h) o) (arm.number == n) refl
  where
    by_cases : is_target f from arm.target ≡ true → is_target f from (target_of arms otherwise n) ≡ true → (t : Bool) → (arm.number == n) ≡ t → is_target f from (target_of (arm ∷ arms) otherwise n) ≡ true
    by_cases hit miss true e = subst (λ x. is_target f from x ≡ true) (sym (target_hit arm arms otherwise n e)) hit
    by_cases hit miss false e = subst (λ x. is_target f from x ≡ true) (sym (target_missed arm arms otherwise n e)) miss

switch_ahead : (f : Function) (from : ℕ) (width : Option ℕ) (s : Configuration) (arms : List Arm) (otherwise : BlockId) (r : Result Word CheckClass) → is_switch f from width arms otherwise ≡ true → LeadsAhead f from (switched s arms otherwise r)
switch_ahead f from None s arms otherwise r h = cc
switch_ahead f from (Some width) s arms otherwise (Err c) h = tt
switch_ahead f from (Some width) s arms otherwise (Ok w) h =
    target_ahead f from (target_of arms otherwise w.value) (arms_ahead f from width arms otherwise w.value (and_left (are_arms f from width arms) (is_target f from otherwise) h) (and_right (are_arms f from width arms) (is_target f from otherwise) h))

tested_ahead : (f : Function) (from : ℕ) (failed : Stepped) (expected : Bool) (s : Configuration) (next : BlockId) (r : Result Word CheckClass) → LeadsAhead f from failed → is_target f from next ≡ true → LeadsAhead f from (tested failed expected s next.0 r)
tested_ahead f from failed expected s next (Err c) other h = tt
tested_ahead f from failed expected s next (Ok w) other h = by_cases (is_expected expected w) where
  by_cases : (t : Bool) → LeadsAhead f from (cond t (Goes (entry_of next.0 s.values)) failed)
  by_cases true = target_ahead f from next h
  by_cases false = other

condition_ahead : (f : Function) (from : ℕ) (failed : Stepped) (s : Configuration) (arguments : List Operand) (next : BlockId) → LeadsAhead f from failed → is_target f from next ≡ true → LeadsAhead f from (condition_step f failed s arguments next.0)
condition_ahead f from failed s [] next other h = tt
condition_ahead f from failed s (o ∷ more) next other h = tested_ahead f from failed true s next (operand_value f s.values o) other h

call_ahead : (f : Function) (from : ℕ) (s : Configuration) (destination : ℕ) (kind : Option ValueKind) (called : Option Builtin) (arguments : List Operand) (next : Option BlockId) → is_call f from kind called arguments next ≡ true
    → LeadsAhead f from (call_step f s destination called arguments next)
call_ahead f from s destination kind None arguments next h = cc
call_ahead f from s destination kind (Some builtin.Panic) arguments next h = tt
call_ahead f from s destination kind (Some (builtin.Any k)) arguments (Some next) h = target_ahead f from next (and_right (is_any_call k kind arguments) (is_target f from next) h)
call_ahead f from s destination kind (Some (builtin.Any k)) arguments None h = tt
call_ahead f from s destination kind (Some builtin.Assume) arguments (Some next) h = condition_ahead f from Cuts s arguments next tt (and_right (is_assume_call f kind arguments) (is_target f from next) h)
call_ahead f from s destination kind (Some builtin.Assume) arguments None h = tt
call_ahead f from s destination kind (Some builtin.Assert) arguments (Some next) h = condition_ahead f from (Faults class.Assertion) s arguments next tt (and_right (is_assert_call f kind arguments) (is_target f from next) h)
call_ahead f from s destination kind (Some builtin.Assert) arguments None h = tt

pub terminator_ahead : (f : Function) (from : ℕ) (s : Configuration) (last : Terminator) → is_terminator f from last ≡ true → LeadsAhead f from (terminator_step f s last)
terminator_ahead f from s (terminator.Goto target) h = target_ahead f from target h
terminator_ahead f from s (terminator.Switch o arms otherwise) h = switch_ahead f from (switch_width (operand_kind f o)) s arms otherwise (operand_value f s.values o) h
terminator_ahead f from s terminator.Return h = tt
terminator_ahead f from s terminator.Unreachable h = tt
terminator_ahead f from s (terminator.Drop p next) h = tt
terminator_ahead f from s (terminator.Assert o expected text shown next) h = tested_ahead f from (Faults class.Panic) expected s next (operand_value f s.values o) tt (and_right _ (is_target f from next) h)
terminator_ahead f from s (terminator.Call destination callee arguments next) h = call_ahead f from s destination.local.0 (place_kind f destination) (builtin_of callee) arguments next h

-- a place before the blocks from this number on
abbrev pub StandsAhead : Function → ℕ → Place → Type 0
StandsAhead f n (Before t v) = (n ≤ t) × (is_there (block_of f t) ≡ true)
StandsAhead f n (Done e) = Unit {0}

above : (from to : ℕ) → from < to → from + 1 ≤ to
above from to less = omega (arith, less)

later : (f : Function) (from : ℕ) (inputs : ℕ → ℕ) (s : Configuration) (r : Stepped) → LeadsAhead f from r → StandsAhead f (from + 1) (place_of inputs s r)
later f from inputs s (Goes t) ahead = (above from t.block ahead.0, ahead.1)
later f from inputs s Ends ahead = tt
later f from inputs s Cuts ahead = tt
later f from inputs s (Faults c) ahead = tt
later f from inputs s (Chooses k destination next) ahead = by_cases (is_value k (chosen_word inputs s.block k)) where
  by_cases : (x : Bool) → StandsAhead f (from + 1) (cond x (Before next (stored s.values destination (chosen_word inputs s.block k))) (Done Wanting))
  by_cases true = (above from next ahead.0, ahead.1)
  by_cases false = tt
later f from inputs s Stuck ahead = tt

-- behind statements the run is within the block, or has ended
abbrev IsHere : Function → ℕ → Spot → Type 0
IsHere f n (Here v) = Unit {0}
IsHere f n (There p) = StandsAhead f n p

spot_here : (f : Function) (n : ℕ) (s : Configuration) (r : Stepped) → IsHere f n (spot_of s r)
spot_here f n s (Goes t) = tt
spot_here f n s Ends = tt
spot_here f n s Cuts = tt
spot_here f n s (Faults c) = tt
spot_here f n s (Chooses k destination next) = tt
spot_here f n s Stuck = tt

stated_here : (f : Function) (n b i : ℕ) (xs : List Statement) (spot : Spot) → IsHere f n spot → IsHere f n (all_stated f b i xs spot)
stated_here f n b i [] spot here = here
stated_here f n b i (x ∷ xs) (Here v) here = stated_here f n b (i + 1) xs (spot_of (standing b i v) (statement_step f (standing b i v) x)) (spot_here f n (standing b i v) (statement_step f (standing b i v) x))
stated_here f n b i (x ∷ xs) (There p) here = stated_here f n b (i + 1) xs (There p) here

finished_ahead : (f : Function) (inputs : ℕ → ℕ) (b i : ℕ) (last : Terminator) (spot : Spot) → is_terminator f b last ≡ true → IsHere f (b + 1) spot → StandsAhead f (b + 1) (finished f inputs b i last spot)
finished_ahead f inputs b i last (Here v) h here = later f b inputs (standing b i v) (terminator_step f (standing b i v) last) (terminator_ahead f b (standing b i v) last h)
finished_ahead f inputs b i last (There p) h here = here

next_up : (t n : ℕ) → t ≢ n → n ≤ t → n + 1 ≤ t
next_up t n far upto = omega (arith, far, upto)

entered_ahead : (f : Function) (n : ℕ) (p : Place) → StandsAhead f n p → IsHere f (n + 1) (entered n p)
entered_ahead f n (Done e) ahead = tt
entered_ahead f n (Before t v) ahead = by_cases (t == n) refl where
  by_cases : (x : Bool) → (t == n) ≡ x → IsHere f (n + 1) (cond x (Here v) (There (Before t v)))
  by_cases true e = tt
  by_cases false e = (next_up t n (eqb-false t n e) ahead.0, ahead.1)

none_there : (x : Option Block) → x ≡ None → is_there x ≡ true → ⊥
none_there None none there = cc
none_there (Some b) none there = cc

gap_ahead : (f : Function) (n : ℕ) (p : Place) → block_of f n ≡ None → StandsAhead f n p → StandsAhead f (n + 1) p
gap_ahead f n (Done e) none ahead = tt
gap_ahead f n (Before t v) none ahead = by_cases (t == n) refl where
  by_cases : (x : Bool) → (t == n) ≡ x → StandsAhead f (n + 1) (Before t v)
  by_cases true e = absurd (none_there (block_of f n) none (subst (λ k. is_there (block_of f k) ≡ true) (eqb-true t n e) ahead.1))
  by_cases false e = (next_up t n (eqb-false t n e) ahead.0, ahead.1)

ahead_next : (f : Function) (inputs : ℕ → ℕ) (n : ℕ) (found : Option Block) → is_scalar f ≡ true → block_of f n ≡ found → StandsAhead f n (place f inputs n) → StandsAhead f (n + 1) (place f inputs (suc n))
ahead_next f inputs n None form e before = subst (StandsAhead f (n + 1)) (sym (ap (λ x. passed_at f inputs x (place f inputs n)) e)) (gap_ahead f n (place f inputs n) e before)
ahead_next f inputs n (Some b) form e before =
    let number : b.id.0 ≡ n = found_number f.blocks n b e in
    subst (StandsAhead f (n + 1)) (sym (place_behind f inputs n b e))
    (subst (λ m. StandsAhead f (m + 1) (behind_block f inputs b (entered n (place f inputs n)))) number
    (finished_ahead f inputs b.id.0 (length b.statements) b.terminator (all_stated f b.id.0 0 b.statements (entered n (place f inputs n))) (scalar_block f n b form e).terminator
    (stated_here f (b.id.0 + 1) b.id.0 0 b.statements (entered n (place f inputs n)) (subst (λ m. IsHere f (m + 1) (entered n (place f inputs n))) (sym number) (entered_ahead f n (place f inputs n) before)))))

pub place_ahead : (f : Function) (inputs : ℕ → ℕ) (n : ℕ) → is_scalar f ≡ true → StandsAhead f n (place f inputs n)
place_ahead f inputs zero form = (omega arith, (parts_of f form).begins)
place_ahead f inputs (suc n) form = subst (λ m. StandsAhead f m (place f inputs (suc n))) (add-one n) (ahead_next f inputs n (block_of f n) form refl (place_ahead f inputs n form))

-- a block that is there is below the end
found_below : (bs : List Block) (n : ℕ) → is_there (find (λ (b : Block). b.id.0 == n) bs) ≡ true → n < blocks_end bs
found_below [] n h = cc
found_below (x ∷ xs) n h =
    elim (x.id.0 == n) as (λ v. (x.id.0 == n) ≡ v → is_there (cond v (Some x) (find (λ (b : Block). b.id.0 == n) xs)) ≡ true → n < blocks_end (x ∷ xs)) [
      | true ↦ λ same there. (let number : x.id.0 ≡ n = eqb-true x.id.0 n same in omega arith)
      | false ↦ λ other there. (let below : n < blocks_end xs = found_below xs n there in omega arith)
    ] refl h

pub have_room : (f : Function) → HaveRoom f (blocks_end f.blocks)
have_room f n h = found_below f.blocks n h

-- behind all blocks every run has ended
abbrev pub HasEnded : Place → Type 0
HasEnded (Before t v) = ⊥
HasEnded (Done e) = Unit {0}

pub all_ended : (f : Function) (inputs : ℕ → ℕ) → is_scalar f ≡ true → HasEnded (place f inputs (blocks_end f.blocks))
all_ended f inputs form = by_place (place f inputs (blocks_end f.blocks)) (place_ahead f inputs (blocks_end f.blocks) form) where
  by_place : (p : Place) → StandsAhead f (blocks_end f.blocks) p → HasEnded p
  by_place (Done e) ahead = tt
  by_place (Before t v) ahead =
      let below : t < blocks_end f.blocks = have_room f t ahead.1 in
      let above : blocks_end f.blocks ≤ t = ahead.0 in
      absurd (omega arith)

-- numbers of blocks are small
few_end : (bs : List Block) → are_numbered bs ≡ true → blocks_end bs ≤ 4096
few_end [] h = omega arith
few_end (x ∷ xs) h =
    let apart = not (list_any (λ (other : Block). other.id.0 == x.id.0) xs) in
    let two : (nat_lt x.id.0 4096 && apart) ≡ true = and_left (nat_lt x.id.0 4096 && apart) (are_numbered xs) h in
    let rest : blocks_end xs ≤ 4096 = few_end xs (and_right (nat_lt x.id.0 4096 && apart) (are_numbered xs) h) in
    let small : x.id.0 < 4096 = ltb-true x.id.0 4096 (and_left (nat_lt x.id.0 4096) apart two) in
    omega arith

pub few_blocks : (f : Function) → is_scalar f ≡ true → blocks_end f.blocks ≤ 4294967296
few_blocks f form =
    let few : blocks_end f.blocks ≤ 4096 = few_end f.blocks (parts_of f form).numbered in
    omega (arith, few)

-- numbers of locals are small
few_locals_end : (ls : List Local) → are_locals ls ≡ true → locals_end ls ≤ 4096
few_locals_end [] h = omega arith
few_locals_end (l ∷ ls) h =
    let apart = not (list_any (λ (other : Local). other.id.0 == l.id.0) ls) in
    let three : (nat_lt l.id.0 4096 && has_kind (kind_of l.ty) && apart) ≡ true = and_left (nat_lt l.id.0 4096 && has_kind (kind_of l.ty) && apart) (are_locals ls) h in
    let two : (nat_lt l.id.0 4096 && has_kind (kind_of l.ty)) ≡ true = and_left (nat_lt l.id.0 4096 && has_kind (kind_of l.ty)) apart three in
    let rest : locals_end ls ≤ 4096 = few_locals_end ls (and_right (nat_lt l.id.0 4096 && has_kind (kind_of l.ty) && apart) (are_locals ls) h) in
    let small : l.id.0 < 4096 = ltb-true l.id.0 4096 (and_left (nat_lt l.id.0 4096) (has_kind (kind_of l.ty)) two) in
    omega arith

pub few_locals : (f : Function) → is_scalar f ≡ true → locals_end f.locals ≤ 4294967296
few_locals f form =
    let few : locals_end f.locals ≤ 4096 = few_locals_end f.locals (parts_of f form).locals in
    omega (arith, few)
