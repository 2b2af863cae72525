-- What the kinds of a well typed rvalue say of widths.
use Rattle.std.proofs.Common.{◌≡◌, ℕ, Bool, true, false, cond, IsTrue, Option, Some, None, subst, sym, ◌∙◌, refl}
use Rattle.mir_ir.specs.declared.types.IntTy.{IntTy}
use Rattle.mir_ir.specs.declared.types.IntTy.TheVariants as int
use Rattle.mir_ir.specs.declared.tree.BinaryOp.{BinaryOp}
use Rattle.mir_ir.specs.declared.tree.BinaryOp.TheVariants as op
use Rattle.mir_ir.specs.Integers.{width_of, is_signed}
use Rattle.sym_terms.specs.Terms.{is_shift_width}
use Rattle.scalar_runs.specs.declared.kinds.ValueKind.{ValueKind}
use Rattle.scalar_runs.specs.declared.kinds.ValueKind.TheVariants as kind
use Rattle.scalar_runs.specs.Kinds.{same_int}
use Rattle.scalar_runs.specs.Operators.{is_shift}
use Rattle.scalar_form.specs.Typing.{binary_kind, bits_kind, has_kind, integers_kind, neg_kind, not_kind, order_kind, recast_kind, shift_kind}
use Rattle.value_terms.specs.Operators.{FitsOperator, is_scalar_op, result_width}
use Rattle.value_terms.specs.Slots.{slot_width}

pub same_width : (i j : IntTy) → same_int i j ≡ true → width_of j ≡ width_of i
same_width int.I8 int.I8 h = refl
same_width int.I16 int.I16 h = refl
same_width int.I32 int.I32 h = refl
same_width int.I64 int.I64 h = refl
same_width int.I128 int.I128 h = refl
same_width int.Isize int.Isize h = refl
same_width int.U8 int.U8 h = refl
same_width int.U16 int.U16 h = refl
same_width int.U32 int.U32 h = refl
same_width int.U64 int.U64 h = refl
same_width int.U128 int.U128 h = refl
same_width int.Usize int.Usize h = refl
same_width _ _ h = cc

shift_width : (i : IntTy) → IsTrue (is_shift_width (width_of i))
shift_width int.I8 = refl
shift_width int.I16 = refl
shift_width int.I32 = refl
shift_width int.I64 = refl
shift_width int.I128 = refl
shift_width int.Isize = refl
shift_width int.U8 = refl
shift_width int.U16 = refl
shift_width int.U32 = refl
shift_width int.U64 = refl
shift_width int.U128 = refl
shift_width int.Usize = refl

-- operands of one width, and what they give
pub record Typed (a b r : Option ValueKind) (width : ℕ) : Type 0 where
  pub one : slot_width b ≡ slot_width a
  pub gives : slot_width r ≡ width

integers_by : (i j : IntTy) (t : Bool) → same_int i j ≡ t → has_kind (cond t (Some (kind.Int i)) None) ≡ true → Typed (Some (kind.Int i)) (Some (kind.Int j)) (cond t (Some (kind.Int i)) None) (width_of i)
integers_by i j true e h = record { one = same_width i j e; gives = refl }
integers_by i j false e h = cc

integers_typed : (a b : Option ValueKind) → has_kind (integers_kind a b) ≡ true → Typed a b (integers_kind a b) (slot_width a)
integers_typed (Some (kind.Int i)) (Some (kind.Int j)) h = integers_by i j (same_int i j) refl h
integers_typed _ _ h = cc

bits_typed : (a b : Option ValueKind) → has_kind (bits_kind a b) ≡ true → Typed a b (bits_kind a b) (slot_width a)
bits_typed (Some (kind.Int i)) (Some (kind.Int j)) h = integers_by i j (same_int i j) refl h
bits_typed (Some kind.Bool) (Some kind.Bool) h = record { one = refl; gives = refl }
bits_typed _ _ h = cc

order_by : (i j : IntTy) (t : Bool) → same_int i j ≡ t → has_kind (cond t (Some kind.Bool) None) ≡ true → Typed (Some (kind.Int i)) (Some (kind.Int j)) (cond t (Some kind.Bool) None) 1
order_by i j true e h = record { one = same_width i j e; gives = refl }
order_by i j false e h = cc

order_typed : (a b : Option ValueKind) → has_kind (order_kind a b) ≡ true → Typed a b (order_kind a b) 1
order_typed (Some (kind.Int i)) (Some (kind.Int j)) h = order_by i j (same_int i j) refl h
order_typed (Some kind.Bool) (Some kind.Bool) h = record { one = refl; gives = refl }
order_typed (Some kind.Char) (Some kind.Char) h = record { one = refl; gives = refl }
order_typed _ _ h = cc

pub record Shifted (a b r : Option ValueKind) : Type 0 where
  pub width : IsTrue (is_shift_width (slot_width a))
  pub gives : slot_width r ≡ slot_width a

shift_typed : (a b : Option ValueKind) → has_kind (shift_kind a b) ≡ true → Shifted a b (shift_kind a b)
shift_typed (Some (kind.Int i)) (Some (kind.Int j)) h = record { width = shift_width i; gives = refl }
shift_typed _ _ h = cc

-- operands and result of an operator that is well typed
pub record IsTyped (o : BinaryOp) (a b r : Option ValueKind) : Type 0 where
  pub fits : FitsOperator o (slot_width a) (slot_width b)
  pub gives : (signed : Bool) → result_width o signed (slot_width a) ≡ slot_width r

plain_typed : (o : BinaryOp) (a b r : Option ValueKind) (width : ℕ) → is_scalar_op o ≡ true → is_shift o ≡ false → Typed a b r width → ((signed : Bool) → result_width o signed (slot_width a) ≡ width) → IsTyped o a b r
plain_typed o a b r width scalar plain typed gives = record {
  fits = record { scalar = scalar; plain = λ h. typed.one; shift = λ h. absurd (clash (is_shift o) plain h) };
  gives = λ signed. gives signed ∙ sym typed.gives;
} where
  clash : (b : Bool) → b ≡ false → b ≡ true → ⊥
  clash b e f = cc

shifted_typed : (o : BinaryOp) (a b r : Option ValueKind) → is_scalar_op o ≡ true → is_shift o ≡ true → Shifted a b r → ((signed : Bool) → result_width o signed (slot_width a) ≡ slot_width a) → IsTyped o a b r
shifted_typed o a b r scalar shift typed gives = record {
  fits = record { scalar = scalar; plain = λ h. absurd (clash (is_shift o) h shift); shift = λ h. typed.width };
  gives = λ signed. gives signed ∙ sym typed.gives;
} where
  clash : (b : Bool) → b ≡ false → b ≡ true → ⊥
  clash b e f = cc

width_div : (w : ℕ) (signed : Bool) → result_width op.Div signed w ≡ w
width_div w true = refl
width_div w false = refl

width_rem : (w : ℕ) (signed : Bool) → result_width op.Rem signed w ≡ w
width_rem w true = refl
width_rem w false = refl

width_shr : (w : ℕ) (signed : Bool) → result_width op.Shr signed w ≡ w
width_shr w true = refl
width_shr w false = refl

width_less : (w : ℕ) (signed : Bool) → result_width op.Lt signed w ≡ 1
width_less w true = refl
width_less w false = refl

pub binary_typed : (o : BinaryOp) (a b : Option ValueKind) → has_kind (binary_kind o a b) ≡ true → IsTyped o a b (binary_kind o a b)
binary_typed op.Add a b h = plain_typed op.Add a b _ _ refl refl (integers_typed a b h) (λ signed. refl)
binary_typed op.Sub a b h = plain_typed op.Sub a b _ _ refl refl (integers_typed a b h) (λ signed. refl)
binary_typed op.Mul a b h = plain_typed op.Mul a b _ _ refl refl (integers_typed a b h) (λ signed. refl)
binary_typed op.Div a b h = plain_typed op.Div a b _ _ refl refl (integers_typed a b h) (width_div (slot_width a))
binary_typed op.Rem a b h = plain_typed op.Rem a b _ _ refl refl (integers_typed a b h) (width_rem (slot_width a))
binary_typed op.BitXor a b h = plain_typed op.BitXor a b _ _ refl refl (bits_typed a b h) (λ signed. refl)
binary_typed op.BitAnd a b h = plain_typed op.BitAnd a b _ _ refl refl (bits_typed a b h) (λ signed. refl)
binary_typed op.BitOr a b h = plain_typed op.BitOr a b _ _ refl refl (bits_typed a b h) (λ signed. refl)
binary_typed op.Shl a b h = shifted_typed op.Shl a b _ refl refl (shift_typed a b h) (λ signed. refl)
binary_typed op.Shr a b h = shifted_typed op.Shr a b _ refl refl (shift_typed a b h) (width_shr (slot_width a))
binary_typed op.Eq a b h = plain_typed op.Eq a b _ _ refl refl (order_typed a b h) (λ signed. refl)
binary_typed op.Lt a b h = plain_typed op.Lt a b _ _ refl refl (order_typed a b h) (width_less (slot_width a))
binary_typed op.Le a b h = plain_typed op.Le a b _ _ refl refl (order_typed a b h) (width_less (slot_width a))
binary_typed op.Ne a b h = plain_typed op.Ne a b _ _ refl refl (order_typed a b h) (λ signed. refl)
binary_typed op.Ge a b h = plain_typed op.Ge a b _ _ refl refl (order_typed a b h) (width_less (slot_width a))
binary_typed op.Gt a b h = plain_typed op.Gt a b _ _ refl refl (order_typed a b h) (width_less (slot_width a))
binary_typed op.Offset a b h = cc
binary_typed op.AddWithOverflow a b h = cc
binary_typed op.SubWithOverflow a b h = cc
binary_typed op.MulWithOverflow a b h = cc

-- both operands have kinds
first_integers : (a b : Option ValueKind) → has_kind (integers_kind a b) ≡ true → has_kind a ≡ true
first_integers (Some x) b h = refl
first_integers None b h = cc

second_integers : (a b : Option ValueKind) → has_kind (integers_kind a b) ≡ true → has_kind b ≡ true
second_integers a (Some y) h = refl
second_integers None None h = cc
second_integers (Some kind.Bool) None h = cc
second_integers (Some kind.Char) None h = cc
second_integers (Some (kind.Int i)) None h = cc
second_integers (Some kind.Unit) None h = cc
second_integers (Some kind.Never) None h = cc

first_bits : (a b : Option ValueKind) → has_kind (bits_kind a b) ≡ true → has_kind a ≡ true
first_bits (Some x) b h = refl
first_bits None b h = cc

second_bits : (a b : Option ValueKind) → has_kind (bits_kind a b) ≡ true → has_kind b ≡ true
second_bits a (Some y) h = refl
second_bits None None h = cc
second_bits (Some kind.Bool) None h = cc
second_bits (Some kind.Char) None h = cc
second_bits (Some (kind.Int i)) None h = cc
second_bits (Some kind.Unit) None h = cc
second_bits (Some kind.Never) None h = cc

first_shift : (a b : Option ValueKind) → has_kind (shift_kind a b) ≡ true → has_kind a ≡ true
first_shift (Some x) b h = refl
first_shift None b h = cc

second_shift : (a b : Option ValueKind) → has_kind (shift_kind a b) ≡ true → has_kind b ≡ true
second_shift a (Some y) h = refl
second_shift None None h = cc
second_shift (Some kind.Bool) None h = cc
second_shift (Some kind.Char) None h = cc
second_shift (Some (kind.Int i)) None h = cc
second_shift (Some kind.Unit) None h = cc
second_shift (Some kind.Never) None h = cc

first_order : (a b : Option ValueKind) → has_kind (order_kind a b) ≡ true → has_kind a ≡ true
first_order (Some x) b h = refl
first_order None b h = cc

second_order : (a b : Option ValueKind) → has_kind (order_kind a b) ≡ true → has_kind b ≡ true
second_order a (Some y) h = refl
second_order None None h = cc
second_order (Some kind.Bool) None h = cc
second_order (Some kind.Char) None h = cc
second_order (Some (kind.Int i)) None h = cc
second_order (Some kind.Unit) None h = cc
second_order (Some kind.Never) None h = cc

pub first_has : (o : BinaryOp) (a b : Option ValueKind) → has_kind (binary_kind o a b) ≡ true → has_kind a ≡ true
first_has op.Add a b h = first_integers a b h
first_has op.Sub a b h = first_integers a b h
first_has op.Mul a b h = first_integers a b h
first_has op.Div a b h = first_integers a b h
first_has op.Rem a b h = first_integers a b h
first_has op.BitXor a b h = first_bits a b h
first_has op.BitAnd a b h = first_bits a b h
first_has op.BitOr a b h = first_bits a b h
first_has op.Shl a b h = first_shift a b h
first_has op.Shr a b h = first_shift a b h
first_has op.Eq a b h = first_order a b h
first_has op.Lt a b h = first_order a b h
first_has op.Le a b h = first_order a b h
first_has op.Ne a b h = first_order a b h
first_has op.Ge a b h = first_order a b h
first_has op.Gt a b h = first_order a b h
first_has op.Offset a b h = cc
first_has op.AddWithOverflow a b h = cc
first_has op.SubWithOverflow a b h = cc
first_has op.MulWithOverflow a b h = cc

pub second_has : (o : BinaryOp) (a b : Option ValueKind) → has_kind (binary_kind o a b) ≡ true → has_kind b ≡ true
second_has op.Add a b h = second_integers a b h
second_has op.Sub a b h = second_integers a b h
second_has op.Mul a b h = second_integers a b h
second_has op.Div a b h = second_integers a b h
second_has op.Rem a b h = second_integers a b h
second_has op.BitXor a b h = second_bits a b h
second_has op.BitAnd a b h = second_bits a b h
second_has op.BitOr a b h = second_bits a b h
second_has op.Shl a b h = second_shift a b h
second_has op.Shr a b h = second_shift a b h
second_has op.Eq a b h = second_order a b h
second_has op.Lt a b h = second_order a b h
second_has op.Le a b h = second_order a b h
second_has op.Ne a b h = second_order a b h
second_has op.Ge a b h = second_order a b h
second_has op.Gt a b h = second_order a b h
second_has op.Offset a b h = cc
second_has op.AddWithOverflow a b h = cc
second_has op.SubWithOverflow a b h = cc
second_has op.MulWithOverflow a b h = cc

pub not_typed : (a : Option ValueKind) → has_kind (not_kind a) ≡ true → not_kind a ≡ a
not_typed (Some (kind.Int i)) h = refl
not_typed (Some kind.Bool) h = refl
not_typed (Some kind.Char) h = cc
not_typed (Some kind.Unit) h = cc
not_typed (Some kind.Never) h = cc
not_typed None h = cc

neg_by : (i : IntTy) (t : Bool) → has_kind (cond t (Some (kind.Int i)) None) ≡ true → cond t (Some (kind.Int i)) None ≡ Some (kind.Int i)
neg_by i true h = refl
neg_by i false h = cc

pub neg_typed : (a : Option ValueKind) → has_kind (neg_kind a) ≡ true → neg_kind a ≡ a
neg_typed (Some (kind.Int i)) h = neg_by i (is_signed i) h
neg_typed (Some kind.Bool) h = cc
neg_typed (Some kind.Char) h = cc
neg_typed (Some kind.Unit) h = cc
neg_typed (Some kind.Never) h = cc
neg_typed None h = cc

char_by : (t : Bool) → has_kind (cond t (Some kind.Char) None) ≡ true → cond t (Some kind.Char) None ≡ Some kind.Char
char_by true h = refl
char_by false h = cc

-- a cast that is well typed gives its target
pub recast_typed : (a : Option ValueKind) (k : ValueKind) → has_kind (recast_kind a (Some k)) ≡ true → (recast_kind a (Some k) ≡ Some k) × (has_kind a ≡ true)
recast_typed (Some (kind.Int i)) (kind.Int j) h = (refl, refl)
recast_typed (Some kind.Bool) (kind.Int j) h = (refl, refl)
recast_typed (Some kind.Char) (kind.Int j) h = (refl, refl)
recast_typed (Some (kind.Int i)) kind.Char h = (char_by (same_int i int.U8) h, refl)
recast_typed _ _ h = cc

pub not_has : (a : Option ValueKind) → has_kind (not_kind a) ≡ true → has_kind a ≡ true
not_has a h = subst (λ k. has_kind k ≡ true) (not_typed a h) h

pub neg_has : (a : Option ValueKind) → has_kind (neg_kind a) ≡ true → has_kind a ≡ true
neg_has a h = subst (λ k. has_kind k ≡ true) (neg_typed a h) h
