-- The blocks that runs come to are those that bb0 reaches.
use Rattle.std.proofs.Common.{◌≡◌, ℕ, zero, suc, ◌+◌, ◌<◌, ◌==◌, ◌&&◌, not, Bool, true, false, cond, List, [], ◌∷◌, Option, Some, None, length, find, get_or, replicate, subst, sym, ap, ◌∙◌, refl, arith}
use Rattle.std.specs.Prelude.{Result, Ok, Err, nat_lt, slice_set}
use Rattle.std.specs.List.{list_any}
use Rattle.std.proofs.lemmas.Bool.{eqb-true, eqb-false, ltb-true}
use Rattle.std.proofs.lemmas.List.{get_or-set_same, get_or-set_other, length-set, length-replicate}
use Rattle.vk_core.specs.declared.check.CheckClass.{CheckClass}
use Rattle.vk_core.specs.declared.check.CheckClass.TheVariants as class
use Rattle.vk_core.specs.declared.ids.BlockId.{BlockId}
use Rattle.word_bits.specs.declared.word.Word.{Word}
use Rattle.mir_ir.specs.declared.tree.Arm.{Arm}
use Rattle.mir_ir.specs.declared.tree.Block.{Block}
use Rattle.mir_ir.specs.declared.tree.Function.{Function}
use Rattle.mir_ir.specs.declared.tree.Operand.{Operand}
use Rattle.mir_ir.specs.declared.tree.Statement.{Statement}
use Rattle.mir_ir.specs.declared.tree.Terminator.{Terminator}
use Rattle.mir_ir.specs.declared.tree.Terminator.TheVariants as terminator
use Rattle.scalar_runs.specs.declared.builtins.Builtin.{Builtin}
use Rattle.scalar_runs.specs.declared.builtins.Builtin.TheVariants as builtin
use Rattle.scalar_runs.specs.Builtins.{builtin_of}
use Rattle.scalar_form.specs.Form.{are_numbered, is_scalar}
use Rattle.scalar_runs.specs.Kinds.{is_value}
use Rattle.scalar_runs.specs.Look.{block_of}
use Rattle.scalar_runs.specs.Run.{Configuration, Stepped, Goes, Ends, Cuts, Faults, Chooses, Stuck, call_step, condition_step, entry_of, is_expected, statement_step, stored, switched, target_of, terminator_step, tested}
use Rattle.scalar_form.specs.Size.{first_reached, marked, marked_arms, marked_block, marked_by, marked_next, reached_before}
use Rattle.scalar_form.specs.Typing.{is_terminator, is_there}
use Rattle.scalar_runs.specs.Values.{operand_value}
use Rattle.scalar_form.proofs.FormLaws.{parts_of, scalar_block}
use Rattle.scalar_runs.proofs.OperandLaws.{and_left, and_right}
use Rattle.scalar_terms.specs.Places.{Place, Before, Done, Spot, Here, There, Wanting, all_stated, behind_block, chosen_word, entered, finished, passed_at, place, place_of, spot_of, standing}
use Rattle.scalar_terms.proofs.AheadLaws.{LeadsAhead, StandsAhead, place_ahead, terminator_ahead}
use Rattle.scalar_terms.proofs.RunLaws.{IsReached, stated_there}
use Rattle.scalar_terms.proofs.SweepLaws.{place_behind}
use Rattle.scalar_terms.proofs.SwitchLaws.{target_hit, target_missed}

-- a mark that is there
abbrev IsMarked : List Bool → ℕ → Type 0
IsMarked marks t = get_or marks t false ≡ true

mark_set : (marks : List Bool) (n : ℕ) → n < length marks → IsMarked (slice_set marks n true) n
mark_set marks n inside = get_or-set_same marks n true false inside

mark_kept : (marks : List Bool) (n t : ℕ) → t < length marks → IsMarked marks t → IsMarked (slice_set marks n true) t
mark_kept marks n t inside h = by_cases (t == n) refl where
  by_cases : (x : Bool) → (t == n) ≡ x → IsMarked (slice_set marks n true) t
  by_cases true e =
      let same : t ≡ n = eqb-true t n e in
      ap (λ k. get_or (slice_set marks n true) k false) same ∙ mark_set marks n (subst (λ k. k < length marks) same inside)
  by_cases false e = get_or-set_other marks n t true false (eqb-false t n e) ∙ h

arms_long : (marks : List Bool) (arms : List Arm) → length (marked_arms marks arms) ≡ length marks
arms_long marks [] = refl
arms_long marks (arm ∷ arms) = arms_long (marked marks arm.target) arms ∙ length-set marks arm.target.0 true

arms_kept : (marks : List Bool) (arms : List Arm) (t : ℕ) → t < length marks → IsMarked marks t → IsMarked (marked_arms marks arms) t
arms_kept marks [] t inside h = h
arms_kept marks (arm ∷ arms) t inside h = arms_kept (marked marks arm.target) arms t (subst (λ k. t < k) (sym (length-set marks arm.target.0 true)) inside) (mark_kept marks arm.target.0 t inside h)

-- the marks of a terminator keep those that were there
by_kept : (marks : List Bool) (last : Terminator) (t : ℕ) → t < length marks → IsMarked marks t → IsMarked (marked_by marks last) t
by_kept marks (terminator.Goto target) t inside h = mark_kept marks target.0 t inside h
by_kept marks (terminator.Switch o arms otherwise) t inside h = mark_kept (marked_arms marks arms) otherwise.0 t (subst (λ k. t < k) (sym (arms_long marks arms)) inside) (arms_kept marks arms t inside h)
by_kept marks terminator.Return t inside h = h
by_kept marks terminator.Unreachable t inside h = h
by_kept marks (terminator.Drop p next) t inside h = mark_kept marks next.0 t inside h
by_kept marks (terminator.Assert o expected text shown next) t inside h = mark_kept marks next.0 t inside h
by_kept marks (terminator.Call destination callee arguments (Some next)) t inside h = mark_kept marks next.0 t inside h
by_kept marks (terminator.Call destination callee arguments None) t inside h = h

by_long : (marks : List Bool) (last : Terminator) → length (marked_by marks last) ≡ length marks
by_long marks (terminator.Goto target) = length-set marks target.0 true
by_long marks (terminator.Switch o arms otherwise) = length-set (marked_arms marks arms) otherwise.0 true ∙ arms_long marks arms
by_long marks terminator.Return = refl
by_long marks terminator.Unreachable = refl
by_long marks (terminator.Drop p next) = length-set marks next.0 true
by_long marks (terminator.Assert o expected text shown next) = length-set marks next.0 true
by_long marks (terminator.Call destination callee arguments (Some next)) = length-set marks next.0 true
by_long marks (terminator.Call destination callee arguments None) = refl

-- the target of a switch is marked
switch_hit : (marks : List Bool) (arm : Arm) (arms : List Arm) (otherwise : BlockId) (n : ℕ) → target_of (arm ∷ arms) otherwise n ≡ arm.target → (target_of (arm ∷ arms) otherwise n).0 < length marks
    → IsMarked (marked (marked_arms (marked marks arm.target) arms) otherwise) (target_of (arm ∷ arms) otherwise n).0
switch_hit marks arm arms otherwise n hit inside =
    let longer : length (marked marks arm.target) ≡ length marks = length-set marks arm.target.0 true in
    let here : arm.target.0 < length marks = subst (λ x. x.0 < length marks) hit inside in
    let there : arm.target.0 < length (marked marks arm.target) = subst (λ k. arm.target.0 < k) (sym longer) here in
    subst (λ x. IsMarked (marked (marked_arms (marked marks arm.target) arms) otherwise) x.0) (sym hit)
    (mark_kept (marked_arms (marked marks arm.target) arms) otherwise.0 arm.target.0 (subst (λ k. arm.target.0 < k) (sym (arms_long (marked marks arm.target) arms)) there)
    (arms_kept (marked marks arm.target) arms arm.target.0 there (mark_set marks arm.target.0 here)))

switch_arm : (marks : List Bool) (arm : Arm) (arms : List Arm) (otherwise : BlockId) (n : ℕ) → (target_of (arm ∷ arms) otherwise n).0 < length marks
    → ((target_of arms otherwise n).0 < length (marked marks arm.target) → IsMarked (marked (marked_arms (marked marks arm.target) arms) otherwise) (target_of arms otherwise n).0)
    → (x : Bool) → (arm.number == n) ≡ x → IsMarked (marked (marked_arms (marked marks arm.target) arms) otherwise) (target_of (arm ∷ arms) otherwise n).0
switch_arm marks arm arms otherwise n inside rest true e = switch_hit marks arm arms otherwise n (target_hit arm arms otherwise n e) inside
switch_arm marks arm arms otherwise n inside rest false e =
    let miss : target_of (arm ∷ arms) otherwise n ≡ target_of arms otherwise n = target_missed arm arms otherwise n e in
    let longer : length (marked marks arm.target) ≡ length marks = length-set marks arm.target.0 true in
    subst (λ x. IsMarked (marked (marked_arms (marked marks arm.target) arms) otherwise) x.0) (sym miss)
    (rest (subst (λ k. (target_of arms otherwise n).0 < k) (sym longer) (subst (λ x. x.0 < length marks) miss inside)))

switch_marked : (marks : List Bool) (arms : List Arm) (otherwise : BlockId) (n : ℕ) → (target_of arms otherwise n).0 < length marks → IsMarked (marked (marked_arms marks arms) otherwise) (target_of arms otherwise n).0
switch_marked marks [] otherwise n inside = mark_set marks otherwise.0 inside
switch_marked marks (arm ∷ arms) otherwise n inside = switch_arm marks arm arms otherwise n inside (λ there. switch_marked (marked marks arm.target) arms otherwise n there) (arm.number == n) refl

-- where a step leads is marked
abbrev LeadsMarked : List Bool → Stepped → Type 0
LeadsMarked marks (Goes t) = t.block < length marks → IsMarked marks t.block
LeadsMarked marks (Chooses k destination next) = next < length marks → IsMarked marks next
LeadsMarked marks _ = Unit {0}

next_marked : (marks : List Bool) (next : BlockId) → next.0 < length (marked marks next) → IsMarked (marked marks next) next.0
next_marked marks next inside = mark_set marks next.0 (subst (λ k. next.0 < k) (length-set marks next.0 true) inside)

tested_marked : (marks : List Bool) (failed : Stepped) (expected : Bool) (s : Configuration) (next : BlockId) (r : Result Word CheckClass) → LeadsMarked (marked marks next) failed → LeadsMarked (marked marks next) (tested failed expected s next.0 r)
tested_marked marks failed expected s next (Err c) other = tt
tested_marked marks failed expected s next (Ok w) other = by_cases (is_expected expected w) where
  by_cases : (x : Bool) → LeadsMarked (marked marks next) (cond x (Goes (entry_of next.0 s.values)) failed)
  by_cases true = next_marked marks next
  by_cases false = other

condition_marked : (f : Function) (marks : List Bool) (failed : Stepped) (s : Configuration) (arguments : List Operand) (next : BlockId) → LeadsMarked (marked marks next) failed → LeadsMarked (marked marks next) (condition_step f failed s arguments next.0)
condition_marked f marks failed s [] next other = tt
condition_marked f marks failed s (o ∷ more) next other = tested_marked marks failed true s next (operand_value f s.values o) other

call_marked : (f : Function) (marks : List Bool) (s : Configuration) (destination : ℕ) (called : Option Builtin) (arguments : List Operand) (next : Option BlockId) → LeadsMarked (marked_next marks next) (call_step f s destination called arguments next)
call_marked f marks s destination None arguments next = tt
call_marked f marks s destination (Some builtin.Panic) arguments next = tt
call_marked f marks s destination (Some (builtin.Any k)) arguments (Some next) = next_marked marks next
call_marked f marks s destination (Some (builtin.Any k)) arguments None = tt
call_marked f marks s destination (Some builtin.Assume) arguments (Some next) = condition_marked f marks Cuts s arguments next tt
call_marked f marks s destination (Some builtin.Assume) arguments None = tt
call_marked f marks s destination (Some builtin.Assert) arguments (Some next) = condition_marked f marks (Faults class.Assertion) s arguments next tt
call_marked f marks s destination (Some builtin.Assert) arguments None = tt

switched_marked : (marks : List Bool) (s : Configuration) (arms : List Arm) (otherwise : BlockId) (r : Result Word CheckClass) → LeadsMarked (marked (marked_arms marks arms) otherwise) (switched s arms otherwise r)
switched_marked marks s arms otherwise (Err c) = tt
switched_marked marks s arms otherwise (Ok w) = λ inside. switch_marked marks arms otherwise w.value (subst (λ k. (target_of arms otherwise w.value).0 < k) (length-set (marked_arms marks arms) otherwise.0 true ∙ arms_long marks arms) inside)

terminator_marked : (f : Function) (marks : List Bool) (s : Configuration) (last : Terminator) → LeadsMarked (marked_by marks last) (terminator_step f s last)
terminator_marked f marks s (terminator.Goto target) = next_marked marks target
terminator_marked f marks s (terminator.Switch o arms otherwise) = switched_marked marks s arms otherwise (operand_value f s.values o)
terminator_marked f marks s terminator.Return = tt
terminator_marked f marks s terminator.Unreachable = tt
terminator_marked f marks s (terminator.Drop p next) = tt
terminator_marked f marks s (terminator.Assert o expected text shown next) = tested_marked marks (Faults class.Panic) expected s next (operand_value f s.values o) tt
terminator_marked f marks s (terminator.Call destination callee arguments next) = call_marked f marks s destination.local.0 (builtin_of callee) arguments next

-- a place whose block is marked
abbrev StandsMarked : List Bool → Place → Type 0
StandsMarked marks (Before t v) = IsMarked marks t
StandsMarked marks (Done e) = Unit {0}

-- a block that is there has a small number
few_first : (x : Block) (xs : List Block) (n : ℕ) → x.id.0 < 4096 → (is_there (find (λ (b : Block). b.id.0 == n) xs) ≡ true → n < 4096) → (t : Bool) → (x.id.0 == n) ≡ t → is_there (cond t (Some x) (find (λ (b : Block). b.id.0 == n) xs)) ≡ true → n < 4096
few_first x xs n small rest true e there = subst (λ k. k < 4096) (eqb-true x.id.0 n e) small
few_first x xs n small rest false e there = rest there

few_numbers : (bs : List Block) (n : ℕ) → are_numbered bs ≡ true → is_there (find (λ (b : Block). b.id.0 == n) bs) ≡ true → n < 4096
few_numbers [] n h there = cc
few_numbers (x ∷ xs) n h there =
    let apart = not (list_any (λ (other : Block). other.id.0 == x.id.0) xs) in
    let two : (nat_lt x.id.0 4096 && apart) ≡ true = and_left (nat_lt x.id.0 4096 && apart) (are_numbered xs) h in
    let rest : are_numbered xs ≡ true = and_right (nat_lt x.id.0 4096 && apart) (are_numbered xs) h in
    let small : x.id.0 < 4096 = ltb-true x.id.0 4096 (and_left (nat_lt x.id.0 4096) apart two) in
    few_first x xs n small (λ found. few_numbers xs n rest found) (x.id.0 == n) refl there

there_small : (f : Function) (n : ℕ) → is_scalar f ≡ true → is_there (block_of f n) ≡ true → n < 4096
there_small f n form there = few_numbers f.blocks n (parts_of f form).numbered there

led_marked : (f : Function) (inputs : ℕ → ℕ) (from : ℕ) (marks : List Bool) (s : Configuration) (r : Stepped) → is_scalar f ≡ true → length marks ≡ 4096 → LeadsAhead f from r → LeadsMarked marks r → StandsMarked marks (place_of inputs s r)
led_marked f inputs from marks s (Goes t) form long ahead leads = leads (subst (λ k. t.block < k) (sym long) (there_small f t.block form ahead.1))
led_marked f inputs from marks s Ends form long ahead leads = tt
led_marked f inputs from marks s Cuts form long ahead leads = tt
led_marked f inputs from marks s (Faults c) form long ahead leads = tt
led_marked f inputs from marks s (Chooses k destination next) form long ahead leads = by_cases (is_value k (chosen_word inputs s.block k)) where
  by_cases : (x : Bool) → StandsMarked marks (cond x (Before next (stored s.values destination (chosen_word inputs s.block k))) (Done Wanting))
  by_cases true = leads (subst (λ k. next < k) (sym long) (there_small f next form ahead.1))
  by_cases false = tt
led_marked f inputs from marks s Stuck form long ahead leads = tt

-- within a block, or at an end
abbrev IsWithin : Spot → Type 0
IsWithin (Here v) = Unit {0}
IsWithin (There (Done e)) = Unit {0}
IsWithin (There (Before t v)) = ⊥

spot_within : (s : Configuration) (r : Stepped) → IsWithin (spot_of s r)
spot_within s (Goes t) = tt
spot_within s Ends = tt
spot_within s Cuts = tt
spot_within s (Faults c) = tt
spot_within s (Chooses k destination next) = tt
spot_within s Stuck = tt

stated_within : (f : Function) (b i : ℕ) (xs : List Statement) (spot : Spot) → IsWithin spot → IsWithin (all_stated f b i xs spot)
stated_within f b i [] spot within = within
stated_within f b i (x ∷ xs) (Here v) within = stated_within f b (i + 1) xs (spot_of (standing b i v) (statement_step f (standing b i v) x)) (spot_within (standing b i v) (statement_step f (standing b i v) x))
stated_within f b i (x ∷ xs) (There p) within = stated_within f b (i + 1) xs (There p) within

finished_marked : (f : Function) (inputs : ℕ → ℕ) (b i : ℕ) (marks : List Bool) (last : Terminator) (spot : Spot) → is_scalar f ≡ true → is_terminator f b last ≡ true → length marks ≡ 4096 → IsWithin spot → StandsMarked (marked_by marks last) (finished f inputs b i last spot)
finished_marked f inputs b i marks last (Here v) form typed long within =
    led_marked f inputs b (marked_by marks last) (standing b i v) (terminator_step f (standing b i v) last) form (by_long marks last ∙ long) (terminator_ahead f b (standing b i v) last typed) (terminator_marked f marks (standing b i v) last)
finished_marked f inputs b i marks last (There (Done e)) form typed long within = tt
finished_marked f inputs b i marks last (There (Before t v)) form typed long within = absurd within

block_long : (marks : List Bool) (n : ℕ) (found : Option Block) → length (marked_block marks n found) ≡ length marks
block_long marks n None = refl
block_long marks n (Some b) = by_mark (get_or marks n false) where
  by_mark : (x : Bool) → length (cond x (marked_by marks b.terminator) marks) ≡ length marks
  by_mark true = by_long marks b.terminator
  by_mark false = refl

first_long : length first_reached ≡ 4096
unfolding first_reached
first_long = length-set (replicate 4096 false) 0 true ∙ length-replicate 4096 false

reached_long : (f : Function) (n : ℕ) → length (reached_before f n) ≡ 4096
reached_long f zero = first_long
reached_long f (suc n) = block_long (reached_before f n) n (block_of f n) ∙ reached_long f n

start_marked : (f : Function) → IsMarked (reached_before f zero) 0
unfolding first_reached
start_marked f = mark_set (replicate 4096 false) 0 (subst (λ k. 0 < k) (sym (length-replicate 4096 false)) (omega arith))

-- the marks behind a block keep those that were there
block_kept : (f : Function) (n t : ℕ) (b : Block) → t < 4096 → IsMarked (reached_before f n) t → IsMarked (marked_block (reached_before f n) n (Some b)) t
block_kept f n t b small h = by_mark (get_or (reached_before f n) n false) where
  by_mark : (x : Bool) → IsMarked (cond x (marked_by (reached_before f n) b.terminator) (reached_before f n)) t
  by_mark true = by_kept (reached_before f n) b.terminator t (subst (λ k. t < k) (sym (reached_long f n)) small) h
  by_mark false = h

behind_marked : (f : Function) (inputs : ℕ → ℕ) (n : ℕ) (b : Block) (p : Place) → is_scalar f ≡ true → block_of f n ≡ Some b → StandsAhead f n p → StandsMarked (reached_before f n) p → StandsMarked (marked_block (reached_before f n) n (Some b)) (behind_block f inputs b (entered n p))
behind_marked f inputs n b (Done e) form found ahead stands = subst (λ x. StandsMarked (marked_block (reached_before f n) n (Some b)) (finished f inputs b.id.0 (length b.statements) b.terminator x)) (sym (stated_there f b.id.0 0 b.statements (Done e))) tt
behind_marked f inputs n b (Before t v) form found ahead stands = by_cases (t == n) refl where
  marks : List Bool
  marks = reached_before f n

  by_cases : (x : Bool) → (t == n) ≡ x → StandsMarked (marked_block marks n (Some b)) (behind_block f inputs b (cond x (Here v) (There (Before t v))))
  by_cases true e =
      let here : IsMarked marks n = subst (IsMarked marks) (eqb-true t n e) stands in
      subst (λ x. StandsMarked (cond x (marked_by marks b.terminator) marks) (behind_block f inputs b (Here v))) (sym here)
      (finished_marked f inputs b.id.0 (length b.statements) marks b.terminator (all_stated f b.id.0 0 b.statements (Here v)) form (scalar_block f n b form found).terminator (reached_long f n) (stated_within f b.id.0 0 b.statements (Here v) tt))
  by_cases false e =
      subst (λ x. StandsMarked (marked_block marks n (Some b)) (finished f inputs b.id.0 (length b.statements) b.terminator x)) (sym (stated_there f b.id.0 0 b.statements (Before t v)))
      (block_kept f n t b (there_small f t form ahead.1) stands)

marked_next_block : (f : Function) (inputs : ℕ → ℕ) (n : ℕ) (found : Option Block) → is_scalar f ≡ true → block_of f n ≡ found → StandsMarked (reached_before f n) (place f inputs n) → StandsMarked (marked_block (reached_before f n) n (block_of f n)) (place f inputs (suc n))
marked_next_block f inputs n None form e before = subst (λ x. StandsMarked (marked_block (reached_before f n) n x) (passed_at f inputs x (place f inputs n))) (sym e) before
marked_next_block f inputs n (Some b) form e before =
    subst (λ x. StandsMarked (marked_block (reached_before f n) n x) (place f inputs (suc n))) (sym e)
    (subst (StandsMarked (marked_block (reached_before f n) n (Some b))) (sym (place_behind f inputs n b e))
    (behind_marked f inputs n b (place f inputs n) form e (place_ahead f inputs n form) before))

place_marked : (f : Function) (inputs : ℕ → ℕ) (n : ℕ) → is_scalar f ≡ true → StandsMarked (reached_before f n) (place f inputs n)
place_marked f inputs zero form = start_marked f
place_marked f inputs (suc n) form = marked_next_block f inputs n (block_of f n) form refl (place_marked f inputs n form)

stands_reached : (f : Function) (n : ℕ) (p : Place) → StandsMarked (reached_before f n) p → IsReached f n p
stands_reached f n (Before t v) h = h
stands_reached f n (Done e) h = tt

pub place_reached : (f : Function) (inputs : ℕ → ℕ) (n : ℕ) → is_scalar f ≡ true → IsReached f n (place f inputs n)
place_reached f inputs n form = stands_reached f n (place f inputs n) (place_marked f inputs n form)
