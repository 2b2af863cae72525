-- Where a run stands by blocks, and where it goes by steps.
use Rattle.std.proofs.Common.{◌≡◌, ℕ, zero, suc, ◌+◌, ◌<◌, ◌≤◌, ◌==◌, Bool, true, false, cond, List, [], ◌∷◌, length, Option, Some, None, get_or, subst, sym, ap, ◌∙◌, refl, arith}
use Rattle.std.specs.Prelude.{Result, Ok, Err, slice_get}
use Rattle.std.proofs.lemmas.Bool.{eqb-true, eq-eqb}
use Rattle.vk_core.specs.declared.check.CheckClass.{CheckClass}
use Rattle.vk_core.specs.declared.check.CheckClass.TheVariants as class
use Rattle.vk_core.specs.declared.ids.BlockId.{BlockId}
use Rattle.word_bits.specs.declared.word.Word.{Word}
use Rattle.mir_ir.specs.declared.tree.Arm.{Arm}
use Rattle.mir_ir.specs.declared.tree.Block.{Block}
use Rattle.mir_ir.specs.declared.tree.Function.{Function}
use Rattle.mir_ir.specs.declared.tree.Operand.{Operand}
use Rattle.mir_ir.specs.declared.tree.Statement.{Statement}
use Rattle.mir_ir.specs.declared.tree.Statement.TheVariants as statement
use Rattle.mir_ir.specs.declared.tree.Terminator.{Terminator}
use Rattle.mir_ir.specs.declared.tree.Terminator.TheVariants as terminator
use Rattle.scalar_runs.specs.declared.builtins.Builtin.{Builtin}
use Rattle.scalar_runs.specs.declared.builtins.Builtin.TheVariants as builtin
use Rattle.scalar_runs.specs.Builtins.{builtin_of}
use Rattle.scalar_runs.specs.declared.kinds.ValueKind.{ValueKind}
use Rattle.scalar_runs.specs.Kinds.{is_value}
use Rattle.scalar_runs.specs.Look.{block_of}
use Rattle.scalar_runs.specs.Run.{Configuration, Stepped, Goes, Ends, Cuts, Faults, Chooses, Stuck, assigned, block_step, breach_at, call_step, chosen, condition_step, entry_of, is_expected, start, statement_step, step, step_at, stored, switched, terminator_step, tested}
use Rattle.scalar_form.specs.Size.{reached_before, size_below, size_of_block}
use Rattle.scalar_runs.specs.Values.{Values, operand_value, rvalue_value}
use Rattle.scalar_form.proofs.FormLaws.{found_number}
use Rattle.scalar_terms.specs.Oracle.{Advance, On, Stop, EndsWithin, PlaceEnds, after_told, oracle, told_by}
use Rattle.scalar_terms.specs.Places.{End, Ended, Cut, Fault, Wanting, Lost, Place, Before, Done, Spot, Here, There, all_stated, chosen_word, finished, passed_at, place, place_of, spot_of, standing}

pub oracle_more : (f : Function) (inputs : ℕ → ℕ) (n : ℕ) (s : Configuration) → oracle f inputs (suc n) s ≡ after_told (oracle f inputs n) (told_by inputs s (step f s))
unfolding oracle
oracle_more f inputs n s = refl

pub oracle_none : (f : Function) (inputs : ℕ → ℕ) (s : Configuration) → oracle f inputs zero s ≡ None
unfolding oracle
oracle_none f inputs s = refl

-- a run ends as it does behind its next step
ends_on : (f : Function) (inputs : ℕ → ℕ) (s t : Configuration) (e : End) (k m : ℕ) → k < m → told_by inputs s (step f s) ≡ On t → EndsWithin f inputs t e k → EndsWithin f inputs s e m
ends_on f inputs s t e k m less h ends = record {
  steps = suc ends.steps;
  few = let upto : ends.steps ≤ k = ends.few in omega (arith, less, upto);
  there = oracle_more f inputs ends.steps s ∙ ap (after_told (oracle f inputs ends.steps)) h ∙ ends.there;
}

ends_now : (f : Function) (inputs : ℕ → ℕ) (s : Configuration) (e : End) (m : ℕ) → 0 < m → told_by inputs s (step f s) ≡ Stop e → EndsWithin f inputs s e m
ends_now f inputs s e m some h = record { steps = suc zero; few = omega (arith, some); there = oracle_more f inputs zero s ∙ ap (after_told (oracle f inputs zero)) h }

positive : (k m : ℕ) → k < m → 0 < m
positive k m less = omega (arith, less)

wider : (f : Function) (inputs : ℕ → ℕ) (p : Place) (e : End) (k m : ℕ) → k ≤ m → PlaceEnds f inputs p e k → PlaceEnds f inputs p e m
wider f inputs (Before t v) e k m more ends = record { steps = ends.steps; few = let upto : ends.steps ≤ k = ends.few in omega (arith, more, upto); there = ends.there }
wider f inputs (Done d) e k m more done = done

-- the step of a statement, and that of the terminator
pub statement_next : (f : Function) (b i : ℕ) (v : Values) (block : Block) (this : Statement) → block_of f b ≡ Some block → slice_get block.statements i ≡ Some this → step f (standing b i v) ≡ statement_step f (standing b i v) this
unfolding step
statement_next f b i v block this found at = ap (block_step f (standing b i v)) found ∙ ap (step_at f (standing b i v) block.terminator (length block.statements)) at

pub terminator_next : (f : Function) (b i : ℕ) (v : Values) (block : Block) → block_of f b ≡ Some block → slice_get block.statements i ≡ None → i ≡ length block.statements → step f (standing b i v) ≡ terminator_step f (standing b i v) block.terminator
unfolding step
terminator_next f b i v block found none last =
    ap (block_step f (standing b i v)) found ∙ ap (step_at f (standing b i v) block.terminator (length block.statements)) none
    ∙ ap (λ t. cond t (terminator_step f (standing b i v) block.terminator) Stuck) (eq-eqb i (length block.statements) last)

-- a choice leads where the place says
choice_ends : (f : Function) (inputs : ℕ → ℕ) (s : Configuration) (k : ValueKind) (destination next : ℕ) (e : End) (n m : ℕ) → n < m → (t : Bool) → told_by inputs s (step f s) ≡ cond t (On (chosen s destination next (chosen_word inputs s.block k))) (Stop Wanting)
    → PlaceEnds f inputs (cond t (Before next (stored s.values destination (chosen_word inputs s.block k))) (Done Wanting)) e n → EndsWithin f inputs s e m
choice_ends f inputs s k destination next e n m less true h ends = ends_on f inputs s (chosen s destination next (chosen_word inputs s.block k)) e n m less h ends
choice_ends f inputs s k destination next e n m less false h ends = subst (λ x. EndsWithin f inputs s x m) ends (ends_now f inputs s Wanting m (positive n m less) h)

-- a step that goes to the entry of a block, if it goes on
abbrev pub AtEntry : Stepped → Type 0
AtEntry (Goes t) = t.index ≡ 0
AtEntry _ = Unit {0}

entry_is : (t : Configuration) → t.index ≡ 0 → t ≡ entry_of t.block t.values
entry_is t h = ap (λ i. record t { index = i }) h

-- a step of a terminator leads where the place says
place_ends : (f : Function) (inputs : ℕ → ℕ) (s : Configuration) (e : End) (n m : ℕ) → n < m → (r : Stepped) → step f s ≡ r → AtEntry r → PlaceEnds f inputs (place_of inputs s r) e n → EndsWithin f inputs s e m
place_ends f inputs s e n m less (Goes t) h at ends = ends_on f inputs s t e n m less (ap (told_by inputs s) h) (subst (λ x. EndsWithin f inputs x e n) (sym (entry_is t at)) ends)
place_ends f inputs s e n m less Ends h at ends = subst (λ x. EndsWithin f inputs s x m) ends (ends_now f inputs s Ended m (positive n m less) (ap (told_by inputs s) h))
place_ends f inputs s e n m less Cuts h at ends = subst (λ x. EndsWithin f inputs s x m) ends (ends_now f inputs s Cut m (positive n m less) (ap (told_by inputs s) h))
place_ends f inputs s e n m less (Faults c) h at ends = subst (λ x. EndsWithin f inputs s x m) ends (ends_now f inputs s (Fault (breach_at s c)) m (positive n m less) (ap (told_by inputs s) h))
place_ends f inputs s e n m less (Chooses k destination next) h at ends = choice_ends f inputs s k destination next e n m less (is_value k (chosen_word inputs s.block k)) (ap (told_by inputs s) h) ends
place_ends f inputs s e n m less Stuck h at ends = subst (λ x. EndsWithin f inputs s x m) ends (ends_now f inputs s Lost m (positive n m less) (ap (told_by inputs s) h))

pub tested_entry : (failed : Stepped) (expected : Bool) (s : Configuration) (next : ℕ) (r : Result Word CheckClass) → AtEntry failed → AtEntry (tested failed expected s next r)
tested_entry failed expected s next (Err c) at = tt
tested_entry failed expected s next (Ok w) at = by_cases (is_expected expected w) where
  by_cases : (t : Bool) → AtEntry (cond t (Goes (entry_of next s.values)) failed)
  by_cases true = refl
  by_cases false = at

switched_entry : (s : Configuration) (arms : List Arm) (otherwise : BlockId) (r : Result Word CheckClass) → AtEntry (switched s arms otherwise r)
switched_entry s arms otherwise (Err c) = tt
switched_entry s arms otherwise (Ok w) = refl

condition_entry : (f : Function) (failed : Stepped) (s : Configuration) (arguments : List Operand) (next : ℕ) → AtEntry failed → AtEntry (condition_step f failed s arguments next)
condition_entry f failed s [] next at = tt
condition_entry f failed s (condition ∷ more) next at = tested_entry failed true s next (operand_value f s.values condition) at

call_entry : (f : Function) (s : Configuration) (destination : ℕ) (called : Option Builtin) (arguments : List Operand) (next : Option BlockId) → AtEntry (call_step f s destination called arguments next)
call_entry f s destination None arguments next = tt
call_entry f s destination (Some builtin.Panic) arguments next = tt
call_entry f s destination (Some (builtin.Any k)) arguments (Some next) = tt
call_entry f s destination (Some (builtin.Any k)) arguments None = tt
call_entry f s destination (Some builtin.Assume) arguments (Some next) = condition_entry f Cuts s arguments next.0 tt
call_entry f s destination (Some builtin.Assume) arguments None = tt
call_entry f s destination (Some builtin.Assert) arguments (Some next) = condition_entry f (Faults class.Assertion) s arguments next.0 tt
call_entry f s destination (Some builtin.Assert) arguments None = tt

pub terminator_entry : (f : Function) (s : Configuration) (last : Terminator) → AtEntry (terminator_step f s last)
terminator_entry f s (terminator.Goto target) = refl
terminator_entry f s (terminator.Switch o arms otherwise) = switched_entry s arms otherwise (operand_value f s.values o)
terminator_entry f s terminator.Return = tt
terminator_entry f s terminator.Unreachable = tt
terminator_entry f s (terminator.Drop place next) = tt
terminator_entry f s (terminator.Assert o expected text shown next) = tested_entry (Faults class.Panic) expected s next.0 (operand_value f s.values o) tt
terminator_entry f s (terminator.Call destination callee arguments next) = call_entry f s destination.local.0 (builtin_of callee) arguments next

-- what stands at a place of a list behind its first items
abbrev pub Behind : {X : Type 0} → List X → ℕ → List X → Type 0
Behind all i rest = (k : ℕ) → slice_get all (i + k) ≡ slice_get rest k

behind_first : {X : Type 0} → (all rest : List X) (i : ℕ) (x : X) → Behind all i (x ∷ rest) → slice_get all i ≡ Some x
behind_first all rest i x h = subst (λ n. slice_get all n ≡ Some x) (none i) (h 0) where
  none : (i : ℕ) → i + 0 ≡ i
  none i = omega arith

behind_more : {X : Type 0} → (all rest : List X) (i : ℕ) (x : X) → Behind all i (x ∷ rest) → Behind all (i + 1) rest
behind_more all rest i x h k = ap (slice_get all) (moved i k) ∙ h (suc k) where
  moved : (i k : ℕ) → i + 1 + k ≡ i + suc k
  moved i k = omega arith

-- a statement leads where the spot says
spot_ends : (f : Function) (inputs : ℕ → ℕ) (b i : ℕ) (v : Values) (p : ℕ) (r : Result Word CheckClass) (e : End) (n k m : ℕ) → k < m → (ends : Spot → Place)
    → ((x : Place) → ends (There x) ≡ x) → step f (standing b i v) ≡ assigned (standing b i v) p r
    → ((w : Values) → PlaceEnds f inputs (ends (Here w)) e n → EndsWithin f inputs (standing b (i + 1) w) e k)
    → PlaceEnds f inputs (ends (spot_of (standing b i v) (assigned (standing b i v) p r))) e n → EndsWithin f inputs (standing b i v) e m
spot_ends f inputs b i v p (Ok w) e n k m less ends there h on done = ends_on f inputs (standing b i v) (standing b (i + 1) (stored v p w)) e k m less (ap (told_by inputs (standing b i v)) h) (on (stored v p w) done)
spot_ends f inputs b i v p (Err c) e n k m less ends there h on done =
    let same : Fault (breach_at (standing b i v) c) ≡ e = subst (λ x. PlaceEnds f inputs x e n) (there (Done (Fault (breach_at (standing b i v) c)))) done in
    subst (λ x. EndsWithin f inputs (standing b i v) x m) same (ends_now f inputs (standing b i v) (Fault (breach_at (standing b i v) c)) m (positive k m less) (ap (told_by inputs (standing b i v)) h))

stuck_ends : (f : Function) (inputs : ℕ → ℕ) (b i : ℕ) (v : Values) (e : End) (n m : ℕ) → n < m → (ends : Spot → Place) → ((x : Place) → ends (There x) ≡ x) → step f (standing b i v) ≡ Stuck → PlaceEnds f inputs (ends (There (Done Lost))) e n → EndsWithin f inputs (standing b i v) e m
stuck_ends f inputs b i v e n m less ends there h done = subst (λ x. EndsWithin f inputs (standing b i v) x m) (subst (λ x. PlaceEnds f inputs x e n) (there (Done Lost)) done) (ends_now f inputs (standing b i v) Lost m (positive n m less) (ap (told_by inputs (standing b i v)) h))

-- what is elsewhere stays there
pub stated_there : (f : Function) (b i : ℕ) (statements : List Statement) (p : Place) → all_stated f b i statements (There p) ≡ There p
stated_there f b i [] p = refl
stated_there f b i (x ∷ xs) p = stated_there f b (i + 1) xs p

-- a run within a block ends as the place behind the block says: behind a step more for each statement and the terminator
block_ends : (f : Function) (inputs : ℕ → ℕ) (b : ℕ) (block : Block) (e : End) (n : ℕ) → block_of f b ≡ Some block → (rest : List Statement) (i : ℕ) (v : Values) (m : ℕ) → length rest + n < m → Behind block.statements i rest → length block.statements ≡ i + length rest
    → PlaceEnds f inputs (finished f inputs b (length block.statements) block.terminator (all_stated f b i rest (Here v))) e n → EndsWithin f inputs (standing b i v) e m
block_ends f inputs b block e n found [] i v m less behind count done =
    let here : i ≡ length block.statements = (omega arith) in
    let none : slice_get block.statements i ≡ None = subst (λ n. slice_get block.statements n ≡ None) (no_more i) (behind 0) in
    place_ends f inputs (standing b i v) e n m (omega (arith, less)) (terminator_step f (standing b i v) block.terminator) (terminator_next f b i v block found none here) (terminator_entry f (standing b i v) block.terminator)
    (subst (λ k. PlaceEnds f inputs (place_of inputs (standing b k v) (terminator_step f (standing b k v) block.terminator)) e n) (sym here) done)
  where
    no_more : (i : ℕ) → i + 0 ≡ i
    no_more i = omega arith
block_ends f inputs b block e n found (statement.Assign target value ∷ xs) i v m less behind count done =
    let fewer : length xs + n < suc (length xs + n) = omega arith in
    spot_ends f inputs b i v target.local.0 (rvalue_value f v value) e n (suc (length xs + n)) m (omega (arith, less)) (λ spot. finished f inputs b (length block.statements) block.terminator (all_stated f b (i + 1) xs spot))
    (λ x. ap (finished f inputs b (length block.statements) block.terminator) (stated_there f b (i + 1) xs x))
    (statement_next f b i v block (statement.Assign target value) found (behind_first block.statements xs i (statement.Assign target value) behind))
    (λ w next. block_ends f inputs b block e n found xs (i + 1) w (suc (length xs + n)) fewer (behind_more block.statements xs i (statement.Assign target value) behind) (omega arith) next)
    done
block_ends f inputs b block e n found (statement.StorageLive l ∷ xs) i v m less behind count done =
    stuck_ends f inputs b i v e n m (omega (arith, less)) (λ spot. finished f inputs b (length block.statements) block.terminator (all_stated f b (i + 1) xs spot)) (λ x. ap (finished f inputs b (length block.statements) block.terminator) (stated_there f b (i + 1) xs x))
    (statement_next f b i v block (statement.StorageLive l) found (behind_first block.statements xs i (statement.StorageLive l) behind)) done
block_ends f inputs b block e n found (statement.StorageDead l ∷ xs) i v m less behind count done =
    stuck_ends f inputs b i v e n m (omega (arith, less)) (λ spot. finished f inputs b (length block.statements) block.terminator (all_stated f b (i + 1) xs spot)) (λ x. ap (finished f inputs b (length block.statements) block.terminator) (stated_there f b (i + 1) xs x))
    (statement_next f b i v block (statement.StorageDead l) found (behind_first block.statements xs i (statement.StorageDead l) behind)) done
block_ends f inputs b block e n found (statement.SetVariant p x ∷ xs) i v m less behind count done =
    stuck_ends f inputs b i v e n m (omega (arith, less)) (λ spot. finished f inputs b (length block.statements) block.terminator (all_stated f b (i + 1) xs spot)) (λ x. ap (finished f inputs b (length block.statements) block.terminator) (stated_there f b (i + 1) xs x))
    (statement_next f b i v block (statement.SetVariant p x) found (behind_first block.statements xs i (statement.SetVariant p x) behind)) done

-- no run stands at this block, or it counts
abbrev pub Counts : Place → ℕ → Bool → Type 0
Counts (Before t v) n counted = t ≡ n → counted ≡ true
Counts (Done e) n counted = Unit {0}

-- behind a block a run goes on as before it, and has made a step for each of its statements and its terminator if it came there
passed_ends : (f : Function) (inputs : ℕ → ℕ) (n : ℕ) (found : Option Block) (p : Place) (e : End) (k : ℕ) (counted : Bool) → Counts p n counted → block_of f n ≡ found → PlaceEnds f inputs (passed_at f inputs found p) e k
    → PlaceEnds f inputs p e (size_of_block counted found + k)
passed_ends f inputs n None p e k counted counts found done = wider f inputs p e k (size_of_block counted None + k) (omega arith) done
passed_ends f inputs n (Some b) (Done d) e k counted counts found done =
    subst (λ x. PlaceEnds f inputs (finished f inputs b.id.0 (length b.statements) b.terminator x) e k) (stated_there f b.id.0 0 b.statements (Done d)) done
passed_ends f inputs n (Some b) (Before t v) e k counted counts found done = by_cases (t == b.id.0) refl done where
  number : b.id.0 ≡ n
  number = found_number f.blocks n b found

  by_cases : (x : Bool) → (t == b.id.0) ≡ x → PlaceEnds f inputs (finished f inputs b.id.0 (length b.statements) b.terminator (all_stated f b.id.0 0 b.statements (cond x (Here v) (There (Before t v))))) e k
      → EndsWithin f inputs (entry_of t v) e (size_of_block counted (Some b) + k)
  by_cases true h there =
      let all : size_of_block counted (Some b) ≡ length b.statements + 1 = ap (λ x. size_of_block x (Some b)) (counts (eqb-true t b.id.0 h ∙ number)) in
      subst (λ x. EndsWithin f inputs (entry_of x v) e (size_of_block counted (Some b) + k)) (sym (eqb-true t b.id.0 h))
      (block_ends f inputs b.id.0 b e k (ap (block_of f) number ∙ found) b.statements 0 v (size_of_block counted (Some b) + k) (more all) (λ k. ap (slice_get b.statements) (none k)) (plain b.statements) there)
    where
      more : size_of_block counted (Some b) ≡ length b.statements + 1 → length b.statements + k < size_of_block counted (Some b) + k
      more all = omega (arith, all)

      none : (k : ℕ) → 0 + k ≡ k
      none k = omega arith

      plain : (l : List Statement) → length l ≡ 0 + length l
      plain l = omega arith
  by_cases false h there = wider f inputs (Before t v) e k (size_of_block counted (Some b) + k) (omega arith) (subst (λ x. PlaceEnds f inputs (finished f inputs b.id.0 (length b.statements) b.terminator x) e k) (stated_there f b.id.0 0 b.statements (Before t v)) there)

-- each block that a run comes to is reached
abbrev pub IsReached : Function → ℕ → Place → Type 0
IsReached f n (Before t v) = get_or (reached_before f n) t false ≡ true
IsReached f n (Done e) = Unit {0}

counts_here : (f : Function) (n : ℕ) (p : Place) → IsReached f n p → Counts p n (get_or (reached_before f n) n false)
counts_here f n (Before t v) reached = λ same. subst (λ m. get_or (reached_before f n) m false ≡ true) same reached
counts_here f n (Done e) reached = tt

-- where a run stands behind some blocks it came to from its start, in at most as many steps as those blocks have statements and terminators
pub place_from : (f : Function) (inputs : ℕ → ℕ) → ((n : ℕ) → IsReached f n (place f inputs n)) → (n : ℕ) (e : End) (k : ℕ) → PlaceEnds f inputs (place f inputs n) e k → EndsWithin f inputs (start f) e (size_below f n + k)
unfolding start
place_from f inputs reached zero e k done = subst (EndsWithin f inputs (start f) e) (none_before k) done where
  none_before : (k : ℕ) → k ≡ 0 + k
  none_before k = omega arith
place_from f inputs reached (suc n) e k done =
    let counted = get_or (reached_before f n) n false in
    subst (EndsWithin f inputs (start f) e) (summed (size_below f n) (size_of_block counted (block_of f n)) k)
    (place_from f inputs reached n e (size_of_block counted (block_of f n) + k) (passed_ends f inputs n (block_of f n) (place f inputs n) e k counted (counts_here f n (place f inputs n) (reached n)) refl done))
  where
    summed : (a b k : ℕ) → a + (b + k) ≡ a + b + k
    summed a b k = omega arith

some_same : (a b : End) → ◌≡◌ {A = Option End} (Some a) (Some b) → a ≡ b
some_same a b e = cc

none_some : (a : End) → ◌≡◌ {A = Option End} None (Some a) → ⊥
none_some a e = cc

told_one : (n_on m_on : Configuration → Option End) (a : Advance) (d e : End) → ((t : Configuration) → n_on t ≡ Some d → m_on t ≡ Some e → d ≡ e) → after_told n_on a ≡ Some d → after_told m_on a ≡ Some e → d ≡ e
told_one n_on m_on (Stop x) d e on x_d x_e = sym (some_same x d x_d) ∙ some_same x e x_e
told_one n_on m_on (On t) d e on on_d on_e = on t on_d on_e

-- a run ends in one way
pub oracle_one : (f : Function) (inputs : ℕ → ℕ) (n m : ℕ) (s : Configuration) (d e : End) → oracle f inputs n s ≡ Some d → oracle f inputs m s ≡ Some e → d ≡ e
oracle_one f inputs zero m s d e h g = absurd (none_some d (sym (oracle_none f inputs s) ∙ h))
oracle_one f inputs (suc n) zero s d e h g = absurd (none_some e (sym (oracle_none f inputs s) ∙ g))
oracle_one f inputs (suc n) (suc m) s d e h g = told_one (oracle f inputs n) (oracle f inputs m) (told_by inputs s (step f s)) d e (λ t. oracle_one f inputs n m t d e) (sym (oracle_more f inputs n s) ∙ h) (sym (oracle_more f inputs m s) ∙ g)

pub ends_one : (f : Function) (inputs : ℕ → ℕ) (s : Configuration) (d e : End) (n m : ℕ) → EndsWithin f inputs s d n → EndsWithin f inputs s e m → d ≡ e
ends_one f inputs s d e n m a b = oracle_one f inputs a.steps b.steps s d e a.there b.there
