-- Rvalues by terms.
use Rattle.std.proofs.Common.{◌≡◌, ℕ, ◌<◌, ◌≤◌, ◌&&◌, Bool, true, false, cond, List, length, IsTrue, Option, Some, None, subst, sym, ap, ◌∙◌, refl, arith, inl, inr}
use Rattle.std.specs.Prelude.{Result, Ok, Err}
use Rattle.vk_core.specs.declared.check.CheckClass.{CheckClass}
use Rattle.vk_core.specs.declared.check.CheckClass.TheVariants as class
use Rattle.word_bits.specs.declared.word.Word.{Word}
use Rattle.word_bits.specs.Words.{IsWord}
use Rattle.mir_ir.specs.declared.tree.BinaryOp.{BinaryOp}
use Rattle.mir_ir.specs.declared.tree.CastKind.{CastKind}
use Rattle.mir_ir.specs.declared.tree.CastKind.TheVariants as cast
use Rattle.mir_ir.specs.declared.tree.Function.{Function}
use Rattle.mir_ir.specs.declared.tree.Rvalue.{Rvalue}
use Rattle.mir_ir.specs.declared.tree.Operand.{Operand}
use Rattle.sym_terms.specs.declared.term.Term.{Term}
use Rattle.sym_terms.specs.declared.term.TermOp.{TermOp}
use Rattle.sym_terms.specs.declared.term.TermOp.TheVariants.{Not, Neg}
use Rattle.sym_terms.specs.Ops.{is_binary, is_shift as is_term_shift}
use Rattle.sym_terms.specs.Terms.{AreOperands, IsValue, Keeps, op_width, value, width_of}
use Rattle.scalar_runs.specs.declared.kinds.ValueKind.{ValueKind}
use Rattle.scalar_runs.specs.Kinds.{is_word}
use Rattle.scalar_runs.specs.Operators.{binary_value, cast_value, operator_value, recast_value, unary_value}
use Rattle.scalar_form.specs.Typing.{binary_kind, cast_kind, has_kind, operand_kind, recast_kind, rvalue_kind}
use Rattle.scalar_runs.specs.Values.{Values, kind_of_operand, operand_value, rvalue_value}
use Rattle.scalar_runs.proofs.OperandLaws.{test_of_word}
use Rattle.value_terms.specs.declared.slots.Slot.{Slot}
use Rattle.value_terms.specs.declared.rvalues.ValueTerms.{ValueTerms}
use Rattle.value_terms.specs.Made.{Grown, IsBit, IsMade, IsTest, holds}
use Rattle.value_terms.specs.Operators.{FitsOperator, IsOperator, OperatorIs, result_width}
use Rattle.value_terms.specs.Rvalues.{IsRvalue, RvalueIs}
use Rattle.value_terms.specs.Slots.{AreHeld, AreSlots, IsRead, IsSlot, ReadIs, SlotIs, slot_width}
use Rattle.value_terms.proofs.MadeLaws.{bit_kept, grown_trans, holds_kept}
use Rattle.value_terms.proofs.SlotLaws.{kind_of_plain, plain_operand}
use Rattle.value_terms.proofs.TypedLaws.{binary_typed, first_has, recast_typed, second_has}

-- a read slot that later terms keep
read_kept : (mid new : List Term) (inputs : ℕ → ℕ) (slot : Slot) (t : ValueTerms) (r : Result Word CheckClass) → t.set ≡ slot.set → t.word ≡ slot.word → Keeps mid new → slot.set.0 < length mid → slot.word.0 < length mid
    → holds new inputs t.lawful.0 ≡ true → ReadIs mid inputs slot r → RvalueIs new inputs t r
read_kept mid new inputs slot t (Ok w) set word keeps hs hw lawful is =
    (ap (λ i. holds new inputs i.0) set ∙ holds_kept mid new inputs slot.set.0 keeps hs ∙ is.0, lawful, ap (λ i. value new inputs i.0) word ∙ keeps.values_kept inputs slot.word.0 hw ∙ is.1)
read_kept mid new inputs slot t (Err c) set word keeps hs hw lawful is = inl (is.0, ap (λ i. holds new inputs i.0) set ∙ holds_kept mid new inputs slot.set.0 keeps hs ∙ is.1)

pub use_made : (f : Function) (old mid new : List Term) (slots : List Slot) (o : Operand) (slot : Slot) (t : ValueTerms) → has_kind (operand_kind f o) ≡ true → t.set ≡ slot.set → t.word ≡ slot.word
    → IsRead f old mid slots (kind_of_operand f o) (λ values. operand_value f values o) slot → IsTest mid new t.lawful.0 (λ inputs. true)
    → IsRvalue f old new slots (operand_kind f o) (λ values. operand_value f values o) t
use_made f old mid new slots o slot t typed set word got lawful =
    let keeps = lawful.grown.keeps in
    record {
      grown = grown_trans old mid new got.grown lawful.grown;
      set = subst (λ i. IsBit new i.0) (sym set) (bit_kept mid new slot.set.0 keeps got.kept.set);
      lawful = lawful.bit;
      inside = subst (λ i. i.0 < length new) (sym word) (inside_kept mid new slot.word.0 keeps got.kept.inside);
      width_is = ap (λ i. width_of new i.0) word ∙ keeps.widths_kept slot.word.0 got.kept.inside ∙ got.kept.width_is ∙ ap slot_width (sym (kind_of_plain f o (plain_operand f o typed)));
      is = λ inputs values held. read_kept mid new inputs slot t (operand_value f values o) set word keeps got.kept.set.inside got.kept.inside (lawful.holds_is inputs) (got.is inputs values held);
    }
  where
    inside_kept : (mid new : List Term) (id : ℕ) → Keeps mid new → id < length mid → id < length new
    inside_kept mid new id keeps h = let longer : length mid ≤ length new = keeps.longer in omega arith

-- a word of what was read
word_read : (mid new : List Term) (inputs : ℕ → ℕ) (slot : Slot) (t : ValueTerms) (g : Word → Word) (r : Result Word CheckClass) → holds new inputs t.set.0 ≡ holds mid inputs slot.set.0 → holds new inputs t.lawful.0 ≡ true
    → value new inputs t.word.0 ≡ g (value mid inputs slot.word.0) → IsWord (value mid inputs slot.word.0) → ReadIs mid inputs slot r → RvalueIs new inputs t (unary_value g r)
word_read mid new inputs slot t g (Err c) set lawful word is_word_of is = inl (is.0, set ∙ is.1)
word_read mid new inputs slot t g (Ok w) set lawful word is_word_of is =
    let test : is_word w ≡ true = test_of_word w (subst IsWord is.1 is_word_of) in
    subst (λ b. RvalueIs new inputs t (cond b (Ok (g w)) (Err class.Invalid))) (sym test) (set ∙ is.0, lawful, word ∙ ap g is.1)

pub unary_made : (f : Function) (old mid next new : List Term) (slots : List Slot) (kind : Option ValueKind) (o : Operand) (g : Word → Word) (slot : Slot) (t : ValueTerms) (width : ℕ) → t.set ≡ slot.set
    → IsRead f old mid slots (kind_of_operand f o) (λ values. operand_value f values o) slot → ((inputs : ℕ → ℕ) → IsValue mid inputs slot.word.0)
    → IsTest mid next t.lawful.0 (λ inputs. true) → IsMade next new t.word.0 width (λ inputs. g (value next inputs slot.word.0)) → width ≡ slot_width kind
    → IsRvalue f old new slots kind (λ values. unary_value g (operand_value f values o)) t
unary_made f old mid next new slots kind o g slot t width set got values lawful word width_is =
    let keeps : Grown mid new = grown_trans mid next new lawful.grown word.grown in
    record {
      grown = grown_trans old mid new got.grown keeps;
      set = subst (λ i. IsBit new i.0) (sym set) (bit_kept mid new slot.set.0 keeps.keeps got.kept.set);
      lawful = bit_kept next new t.lawful.0 word.grown.keeps lawful.bit;
      inside = word.inside;
      width_is = word.width_is ∙ width_is;
      is = λ inputs held_values held. word_read mid new inputs slot t g (operand_value f held_values o)
          (ap (λ i. holds new inputs i.0) set ∙ holds_kept mid new inputs slot.set.0 keeps.keeps got.kept.set.inside)
          (holds_kept next new inputs t.lawful.0 word.grown.keeps lawful.bit.inside ∙ lawful.holds_is inputs)
          (word.value_is inputs ∙ ap g (lawful.grown.keeps.values_kept inputs slot.word.0 got.kept.inside))
          (values inputs).is_word (got.is inputs held_values held);
    }

-- an operation on one operand may be applied to what is there
unary_plain : (op : TermOp) → is_binary op ≡ false → is_term_shift op ≡ false
unary_plain Not h = refl
unary_plain Neg h = refl
unary_plain _ h = cc

pub unary_width : (op : TermOp) (w : ℕ) → is_binary op ≡ false → op_width op w ≡ w
unary_width Not w h = refl
unary_width Neg w h = refl
unary_width _ w h = cc

no_shift : (b : Bool) → b ≡ false → IsTrue b → ⊥
no_shift b e h = cc

pub unary_fit : (count : ℕ) (w : ℕ → ℕ) (op : TermOp) (a : ℕ) → is_binary op ≡ false → a < count → AreOperands count w op a a
unary_fit count w op a unary h = (h, λ binary. h, λ shift. absurd (no_shift _ (unary_plain op unary) shift), λ binary plain. refl)

pub width_read : (f : Function) (o : Operand) → has_kind (operand_kind f o) ≡ true → slot_width (kind_of_operand f o) ≡ slot_width (operand_kind f o)
width_read f o typed = ap slot_width (sym (kind_of_plain f o (plain_operand f o typed)))

-- the kind of what a rvalue gives
pub rvalue_at : (f : Function) (old new : List Term) (slots : List Slot) (k l : Option ValueKind) (read : Values → Result Word CheckClass) (t : ValueTerms) → l ≡ k → IsRvalue f old new slots k read t → IsRvalue f old new slots l read t
rvalue_at f old new slots k l read t e is = subst (λ x. IsRvalue f old new slots x read t) (sym e) is

-- two reads and an operator
both_read : (mid next last new : List Term) (inputs : ℕ → ℕ) (o : BinaryOp) (signed : Bool) (first second : Slot) (t : ValueTerms) (ra rb : Result Word CheckClass)
    → holds new inputs t.set.0 ≡ (holds mid inputs first.set.0 && holds next inputs second.set.0)
    → OperatorIs new inputs (record { lawful = t.lawful; word = t.word }) (operator_value o signed (value mid inputs first.word.0) (value next inputs second.word.0))
    → ReadIs mid inputs first ra → ReadIs next inputs second rb → RvalueIs new inputs t (binary_value o signed ra rb)
both_read mid next last new inputs o signed first second t (Ok x) (Ok y) set op is_a is_b =
    let both : holds new inputs t.set.0 ≡ true = set ∙ ap (λ b. b && holds next inputs second.set.0) is_a.0 ∙ is_b.0 in
    told (operator_value o signed x y) both
    (subst (λ w. OperatorIs new inputs (record { lawful = t.lawful; word = t.word }) (operator_value o signed x w)) is_b.1
    (subst (λ v. OperatorIs new inputs (record { lawful = t.lawful; word = t.word }) (operator_value o signed v (value next inputs second.word.0))) is_a.1 op))
  where
    told : (r : Result Word CheckClass) → holds new inputs t.set.0 ≡ true → OperatorIs new inputs (record { lawful = t.lawful; word = t.word }) r → RvalueIs new inputs t r
    told (Ok w) both is = (both, is.0, is.1)
    told (Err c) both is = inr (is.0, both, is.1)
both_read mid next last new inputs o signed first second t (Ok x) (Err c) set op is_a is_b =
    inl (is_b.0, set ∙ ap (λ b. b && holds next inputs second.set.0) is_a.0 ∙ is_b.1)
both_read mid next last new inputs o signed first second t (Err c) rb set op is_a is_b = inl (is_a.0, set ∙ ap (λ b. b && holds next inputs second.set.0) is_a.1)

-- what earlier terms hold, later ones hold
pub held_kept : (old new : List Term) (inputs : ℕ → ℕ) (f : Function) (slots : List Slot) (values : Values) → Keeps old new → AreSlots f old slots → AreHeld old inputs slots values → AreHeld new inputs slots values
held_kept old new inputs f slots values keeps are held = record {
  one_each = held.one_each;
  each = λ n slot at. slot_kept old new inputs slot _ keeps (are.each n slot at).set.inside (are.each n slot at).inside (held.each n slot at);
} where
  slot_kept : (old new : List Term) (inputs : ℕ → ℕ) (slot : Slot) (held : Option Word) → Keeps old new → slot.set.0 < length old → slot.word.0 < length old → SlotIs old inputs slot held → SlotIs new inputs slot held
  slot_kept old new inputs slot (Some w) keeps hs hw is = (holds_kept old new inputs slot.set.0 keeps hs ∙ is.0, keeps.values_kept inputs slot.word.0 hw ∙ is.1)
  slot_kept old new inputs slot None keeps hs hw is = holds_kept old new inputs slot.set.0 keeps hs ∙ is

pub inside_kept : (old new : List Term) (id : ℕ) → Keeps old new → id < length old → id < length new
inside_kept old new id keeps h = let longer : length old ≤ length new = keeps.longer in omega arith

pub slot_later : (old new : List Term) (width : ℕ) (slot : Slot) → Keeps old new → IsSlot old width slot → IsSlot new width slot
slot_later old new width slot keeps is = record { set = bit_kept old new slot.set.0 keeps is.set; inside = inside_kept old new slot.word.0 keeps is.inside; width_is = keeps.widths_kept slot.word.0 is.inside ∙ is.width_is }

pub slots_kept : (f : Function) (old new : List Term) (slots : List Slot) → Keeps old new → AreSlots f old slots → AreSlots f new slots
slots_kept f old new slots keeps are = record { one_each = are.one_each; each = λ n slot at. slot_later old new _ slot keeps (are.each n slot at) }

-- the widths of what was read fit the operator
pub fits_read : (f : Function) (mid next last : List Term) (o : BinaryOp) (a b : Operand) (first second : Slot) → has_kind (binary_kind o (operand_kind f a) (operand_kind f b)) ≡ true
    → IsSlot mid (slot_width (kind_of_operand f a)) first → Keeps mid next → IsSlot next (slot_width (kind_of_operand f b)) second → Keeps next last
    → FitsOperator o (width_of last first.word.0) (width_of last second.word.0)
fits_read f mid next last o a b first second typed is_a later is_b more =
    let ta : has_kind (operand_kind f a) ≡ true = first_has o _ _ typed in
    let tb : has_kind (operand_kind f b) ≡ true = second_has o _ _ typed in
    let wa : width_of last first.word.0 ≡ slot_width (operand_kind f a) = more.widths_kept first.word.0 (inside_kept mid next first.word.0 later is_a.inside) ∙ later.widths_kept first.word.0 is_a.inside ∙ is_a.width_is ∙ width_read f a ta in
    let wb : width_of last second.word.0 ≡ slot_width (operand_kind f b) = more.widths_kept second.word.0 is_b.inside ∙ is_b.width_is ∙ width_read f b tb in
    subst (λ n. FitsOperator o n (width_of last second.word.0)) (sym wa) (subst (λ n. FitsOperator o (slot_width (operand_kind f a)) n) (sym wb) (binary_typed o (operand_kind f a) (operand_kind f b) typed).fits)

pub binary_made : (f : Function) (old mid next last new : List Term) (slots : List Slot) (o : BinaryOp) (signed : Bool) (a b : Operand) (first second : Slot) (t : ValueTerms) → AreSlots f old slots
    → has_kind (binary_kind o (operand_kind f a) (operand_kind f b)) ≡ true
    → IsRead f old mid slots (kind_of_operand f a) (λ values. operand_value f values a) first → IsRead f mid next slots (kind_of_operand f b) (λ values. operand_value f values b) second
    → IsTest next last t.set.0 (λ inputs. holds next inputs first.set.0 && holds next inputs second.set.0)
    → IsOperator last new o signed first.word.0 second.word.0 (record { lawful = t.lawful; word = t.word })
    → IsRvalue f old new slots (binary_kind o (operand_kind f a) (operand_kind f b)) (λ values. binary_value o signed (operand_value f values a) (operand_value f values b)) t
binary_made f old mid next last new slots o signed a b first second t are typed got_a got_b set op =
    let upto : Grown old new = grown_trans old mid new got_a.grown (grown_trans mid next new got_b.grown (grown_trans next last new set.grown op.grown)) in
    let ta : has_kind (operand_kind f a) ≡ true = first_has o _ _ typed in
    let middle : Keeps mid last = (grown_trans mid next last got_b.grown set.grown).keeps in
    let wa : width_of last first.word.0 ≡ slot_width (operand_kind f a) = middle.widths_kept first.word.0 got_a.kept.inside ∙ got_a.kept.width_is ∙ width_read f a ta in
    record {
      grown = upto;
      set = bit_kept last new t.set.0 op.grown.keeps set.bit;
      lawful = op.lawful;
      inside = op.inside;
      width_is = op.width_is ∙ ap (result_width o signed) wa ∙ (binary_typed o (operand_kind f a) (operand_kind f b) typed).gives signed;
      is = λ inputs values held. both_read mid next last new inputs o signed first second t (operand_value f values a) (operand_value f values b)
          (holds_kept last new inputs t.set.0 op.grown.keeps set.bit.inside ∙ set.holds_is inputs ∙ ap (λ x. x && holds next inputs second.set.0) (holds_kept mid next inputs first.set.0 got_b.grown.keeps got_a.kept.set.inside))
          (subst (λ w. OperatorIs new inputs (record { lawful = t.lawful; word = t.word }) (operator_value o signed (value mid inputs first.word.0) w)) (set.grown.keeps.values_kept inputs second.word.0 got_b.kept.inside)
          (subst (λ v. OperatorIs new inputs (record { lawful = t.lawful; word = t.word }) (operator_value o signed v (value last inputs second.word.0))) (middle.values_kept inputs first.word.0 got_a.kept.inside) (op.is inputs)))
          (got_a.is inputs values held)
          (got_b.is inputs values (held_kept old mid inputs f slots values got_a.grown.keeps are held));
    }

-- a rvalue that is known
pub rvalue_of : (f : Function) (old new : List Term) (slots : List Slot) (v u : Rvalue) (t : ValueTerms) → v ≡ u → IsRvalue f old new slots (rvalue_kind f u) (λ values. rvalue_value f values u) t
    → IsRvalue f old new slots (rvalue_kind f v) (λ values. rvalue_value f values v) t
rvalue_of f old new slots v u t e is = subst (λ x. IsRvalue f old new slots (rvalue_kind f x) (λ values. rvalue_value f values x) t) (sym e) is

-- a cast to a kind that is known
pub cast_of : (f : Function) (old new : List Term) (slots : List Slot) (o : Operand) (how : CastKind) (target : Option ValueKind) (k : ValueKind) (signed : Bool) (t : ValueTerms) → how ≡ cast.IntToInt → target ≡ Some k
    → has_kind (cast_kind how (operand_kind f o) target) ≡ true → IsRvalue f old new slots (Some k) (λ values. recast_value signed (Some k) (operand_value f values o)) t
    → IsRvalue f old new slots (cast_kind how (operand_kind f o) target) (λ values. cast_value how signed target (operand_value f values o)) t
cast_of f old new slots o how target k signed t e g typed is =
    let known : has_kind (recast_kind (operand_kind f o) (Some k)) ≡ true = subst (λ x. has_kind (recast_kind (operand_kind f o) x) ≡ true) g (subst (λ h. has_kind (cast_kind h (operand_kind f o) target) ≡ true) e typed) in
    subst (λ h. IsRvalue f old new slots (cast_kind h (operand_kind f o) target) (λ values. cast_value h signed target (operand_value f values o)) t) (sym e)
    (subst (λ x. IsRvalue f old new slots (recast_kind (operand_kind f o) x) (λ values. recast_value signed x (operand_value f values o)) t) (sym g)
    (rvalue_at f old new slots (Some k) _ _ t (recast_typed (operand_kind f o) k known).0 is))

pub cast_operand : (f : Function) (o : Operand) (how : CastKind) (target : Option ValueKind) (k : ValueKind) → how ≡ cast.IntToInt → target ≡ Some k → has_kind (cast_kind how (operand_kind f o) target) ≡ true → has_kind (operand_kind f o) ≡ true
cast_operand f o how target k e g typed =
    (recast_typed (operand_kind f o) k (subst (λ x. has_kind (recast_kind (operand_kind f o) x) ≡ true) g (subst (λ h. has_kind (cast_kind h (operand_kind f o) target) ≡ true) e typed))).1
