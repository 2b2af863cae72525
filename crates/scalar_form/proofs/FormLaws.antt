-- What is known of the parts of a function of the form.
use Rattle.std.proofs.Common.{◌≡◌, ℕ, ◌<◌, ◌≤◌, ◌&&◌, ◌==◌, Bool, true, false, cond, List, [], ◌∷◌, length, Some, find, subst, sym, refl}
use Rattle.std.specs.Prelude.{nat_lt, nat_le}
use Rattle.std.proofs.lemmas.Bool.{eqb-true, ltb-true, leb-true}
use Rattle.std.proofs.lemmas.Option.{same_Some, none-some}
use Rattle.mir_ir.specs.declared.tree.Block.{Block}
use Rattle.mir_ir.specs.declared.tree.Function.{Function}
use Rattle.scalar_form.specs.Form.{is_scalar, are_locals, are_numbered, returns_unit}
use Rattle.scalar_runs.specs.Look.{block_of, local_kind}
use Rattle.scalar_form.specs.Size.{size_of}
use Rattle.scalar_form.specs.Typing.{are_blocks, are_statements, is_block, is_terminator, is_there}
use Rattle.scalar_runs.proofs.OperandLaws.{and_left, and_right}

-- the parts of a function of the form, in order
pub record Parts (f : Function) : Type 0 where
  pub locals : are_locals f.locals ≡ true
  pub numbered : are_numbered f.blocks ≡ true
  pub begins : is_there (block_of f 0) ≡ true
  pub blocks : are_blocks f f.blocks ≡ true
  pub small : size_of f ≤ 50000

pub parts_of : (f : Function) → is_scalar f ≡ true → Parts f
unfolding is_scalar
parts_of f h =
    let all = h in
    let size : nat_le (size_of f) 50000 ≡ true = and_right _ (nat_le (size_of f) 50000) all in
    let seven = and_left _ (nat_le (size_of f) 50000) all in
    let blocks : are_blocks f f.blocks ≡ true = and_right _ (are_blocks f f.blocks) seven in
    let six = and_left _ (are_blocks f f.blocks) seven in
    let begins : is_there (block_of f 0) ≡ true = and_right _ (is_there (block_of f 0)) six in
    let five = and_left _ (is_there (block_of f 0)) six in
    let numbered : are_numbered f.blocks ≡ true = and_right _ (are_numbered f.blocks) five in
    let four = and_left _ (are_numbered f.blocks) five in
    let three = and_left _ (returns_unit (local_kind f 0)) four in
    let locals : are_locals f.locals ≡ true = and_right _ (are_locals f.locals) three in
    record { locals = locals; numbered = numbered; begins = begins; blocks = blocks; small = leb-true (size_of f) 50000 size }

-- the block that a look-up finds is one of the form
pub found_block : (f : Function) (test : Block → Bool) (bs : List Block) (b : Block) → are_blocks f bs ≡ true → find test bs ≡ Some b → is_block f b ≡ true
found_block f test [] b each e = absurd (none-some b e)
found_block f test (x ∷ xs) b each e =
    elim (test x) as (λ v. cond v (Some x) (find test xs) ≡ Some b → is_block f b ≡ true) [
      | true ↦ λ h. subst (λ y. is_block f y ≡ true) (same_Some x b h) (and_left (is_block f x) (are_blocks f xs) each)
      | false ↦ λ h. found_block f test xs b (and_right (is_block f x) (are_blocks f xs) each) h
    ] e

-- and has the number that was looked for
pub found_number : (bs : List Block) (n : ℕ) (b : Block) → find (λ x. x.id.0 == n) bs ≡ Some b → b.id.0 ≡ n
found_number [] n b e = absurd (none-some b e)
found_number (x ∷ xs) n b e =
    elim (x.id.0 == n) as (λ v. (x.id.0 == n) ≡ v → cond v (Some x) (find (λ y. y.id.0 == n) xs) ≡ Some b → b.id.0 ≡ n)
    [ true ↦ λ same h. subst (λ y. y.id.0 ≡ n) (same_Some x b h) (eqb-true x.id.0 n same) | false ↦ λ other h. found_number xs n b h ] refl e

-- a block of the form
pub record IsBlock (f : Function) (b : Block) : Type 0 where
  pub short : length b.statements < 4294967296
  pub statements : are_statements f b.statements ≡ true
  pub terminator : is_terminator f b.id.0 b.terminator ≡ true

pub block_parts : (f : Function) (b : Block) → is_block f b ≡ true → IsBlock f b
block_parts f b h =
    let two = and_left (nat_lt (length b.statements) 4294967296 && are_statements f b.statements) (is_terminator f b.id.0 b.terminator) h in
    record {
      short = ltb-true (length b.statements) 4294967296 (and_left (nat_lt (length b.statements) 4294967296) (are_statements f b.statements) two);
      statements = and_right (nat_lt (length b.statements) 4294967296) (are_statements f b.statements) two;
      terminator = and_right (nat_lt (length b.statements) 4294967296 && are_statements f b.statements) (is_terminator f b.id.0 b.terminator) h;
    }

pub scalar_block : (f : Function) (n : ℕ) (b : Block) → is_scalar f ≡ true → block_of f n ≡ Some b → IsBlock f b
scalar_block f n b h e = block_parts f b (found_block f (λ x. x.id.0 == n) f.blocks b (parts_of f h).blocks e)

pub short_block : (f : Function) (n : ℕ) (b : Block) → is_scalar f ≡ true → Some b ≡ block_of f n → length b.statements < 4294967296
short_block f n b h e = (scalar_block f n b h (sym e)).short
