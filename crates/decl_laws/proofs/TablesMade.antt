-- The entries of the other tables are well made.
use Rattle.std.proofs.Common.{◌≡◌, ℕ, ◌≤◌, ◌==◌, inl, inr, true, List, [], All, length, codes, Ok, refl, subst, ap, arith, le_refl}
use Rattle.std.specs.Fmt.{decimal}
use Rattle.std.specs.Str.{bytes_eq}
use Rattle.std.proofs.lemmas.Bool.{and_parts, eqb-true}
use Rattle.toml.specs.Data.{Data}
use Rattle.mir_ir.specs.declared.declarations.AliasDecl.{AliasDecl}
use Rattle.mir_ir.specs.declared.declarations.ConstantDecl.{ConstantDecl}
use Rattle.mir_ir.specs.declared.declarations.Contract.{Contract}
use Rattle.mir_ir.specs.declared.declarations.LoopRule.{LoopRule}
use Rattle.mir_ir.specs.declared.declarations.TraitDecl.{TraitDecl}
use Rattle.mir_ir.specs.declared.declarations.Unit.{Unit as UnitDecl}
use Rattle.mir_ir.specs.declared.declarations.UnitKind.{UnitKind}
use Rattle.mir_ir.specs.declared.declarations.UnitKind.TheVariants as unit
use Rattle.mir_ir.specs.declared.declarations.VtableDecl.{VtableDecl}
use Rattle.canonical_text.specs.Types.{type_text}
use Rattle.mir_program.specs.Apart.{AreApart}
use Rattle.mir_program.specs.Entries.{IsConstantEntry, IsLoopRule, IsTrait, IsUnitEntry, same_alias, same_constant, same_contract, same_loop, same_trait, same_unit, same_unit_kind, same_vtable}
use Rattle.decl_counts.specs.Counts.{HasCountableMethods}
use Rattle.decl_tree.specs.declared.labels.Label.{Label}
use Rattle.decl_tree.specs.Faults.{and_then}
use Rattle.decl_tree.specs.Keys.{defaulted, needed, only_keys}
use Rattle.decl_tree.specs.Labels.{one_label}
use Rattle.decl_tree.specs.Lists.{list_at}
use Rattle.decl_tree.specs.Values.{number_in}
use Rattle.decl_texts.specs.Decimals.{value_word}
use Rattle.decl_texts.specs.Elements.{local_element, path_element, place_element, word_element}
use Rattle.decl_texts.specs.Texts.{path_in, read_as, scalar_type_in, word_in}
use Rattle.decl_file.specs.declared.names.TypedWord.{TypedWord}
use Rattle.decl_file.specs.Gathered.{both}
use Rattle.decl_file.specs.Traits.{trait_entry, trait_in, trait_keys, trait_labels, vtable_entry, vtable_in, vtable_labels}
use Rattle.decl_file.specs.Names.{alias_entry, alias_in, alias_labels, constant_entry, constant_in, constant_keys, constant_labels, typed_word}
use Rattle.decl_file.specs.Clauses.{contract_entry, contract_in, contract_labels, loop_entry, loop_in, loop_keys, loop_labels, rule_in}
use Rattle.decl_file.specs.Units.{unit_entry, unit_in, unit_keys, unit_labels, unit_word, word_of_unit}
use Rattle.decl_laws.proofs.EnumsMade.{scalar_ok}
use Rattle.decl_laws.proofs.Lists.{AreKept, IsNamed, bytes_same, labelled_ok, list_kept, named_all, named_apart}
use Rattle.decl_laws.proofs.Outcomes.{and_then_ok, both_ok, defaulted_ok, needed_ok, number_at_ok, number_in_ok, ok_same, read_as_ok}
use Rattle.decl_laws.proofs.Values.{number_of_type, value_scalar}

abbrev label_of : List ℕ → List ℕ → Label
label_of first second = record { first = first; second = second }

abbrev any : {A : Type 0} → A → Type 0
any x = Unit {0}

-- Words, no two of them equal.

abbrev own_label : List ℕ → Label
own_label x = label_of x []

word_read : (at : ℕ) (d : Data) (x : List ℕ) (ls : List Label) → word_element at d ≡ Ok (x, ls) → IsNamed own_label any x ls
word_read at d x ls e =
    let a = and_then_ok (word_in d) (λ w. Ok (w, one_label w [])) (x, ls) e in
    let same : (a.0, one_label a.0 []) ≡ (x, ls) = ok_same (a.0, one_label a.0 []) (x, ls) a.2 in
    subst (λ q. IsNamed own_label any q.0 q.1) same (record { read = tt; own = refl })

words_apart : (key : List ℕ) (d : Data) (xs : List (List ℕ)) → list_at word_element key d ≡ Ok xs → AreApart bytes_eq xs
words_apart key d xs e =
    named_apart own_label any bytes_eq (λ a b s. ap own_label (bytes_same a b s)) xs
    (list_kept word_element (IsNamed own_label any) (length xs) (λ at c x ls l r. word_read at c x ls r) key d xs (le_refl (length xs)) e)

-- Traits.

abbrev HasMethodsApart : TraitDecl → Type 0
HasMethodsApart t = AreApart bytes_eq t.methods

trait_ok : (d : Data) (t : TraitDecl) → trait_in d ≡ Ok t → HasMethodsApart t
trait_ok d t e =
    let front = both (only_keys trait_keys d) (needed (codes "name") path_in d) in
    let methods = list_at word_element (codes "methods") d in
    let p = and_then_ok (both front methods) (λ q. Ok (record { name = q.0.1; methods = q.1 })) t e in
    let b = both_ok front methods p.0 p.1 in
    subst HasMethodsApart (ok_same (record { name = p.0.0.1; methods = p.0.1 }) t p.2) (words_apart (codes "methods") d p.0.1 b.1)

abbrev trait_label : TraitDecl → Label
trait_label t = label_of t.name []

abbrev pub IsTraitRead : TraitDecl → List Label → Type 0
IsTraitRead = IsNamed trait_label HasMethodsApart

pub trait_read : (at : ℕ) (d : Data) (t : TraitDecl) (ls : List Label) → trait_entry at d ≡ Ok (t, ls) → IsTraitRead t ls
trait_read at d t ls e = let l = labelled_ok trait_labels (trait_in d) t ls e in record { read = trait_ok d t l.0; own = l.1 }

pub traits_apart : (ts : List TraitDecl) → AreKept IsTraitRead [] ts → AreApart same_trait ts
traits_apart ts = named_apart trait_label HasMethodsApart same_trait (λ a b e. ap (λ x. label_of x []) (bytes_same a.name b.name e)) ts

pub traits_made : (ts : List TraitDecl) → AreKept IsTraitRead [] ts → All HasCountableMethods ts → All IsTrait ts
traits_made ts k c n d l = record { apart = named_all trait_label HasMethodsApart ts k n d l; count = c n d l }

-- Vtables.

abbrev vtable_label : VtableDecl → Label
vtable_label v = label_of (type_text v.ty) v.trait_name

abbrev pub IsVtableRead : VtableDecl → List Label → Type 0
IsVtableRead = IsNamed vtable_label any

pub vtable_read : (at : ℕ) (d : Data) (v : VtableDecl) (ls : List Label) → vtable_entry at d ≡ Ok (v, ls) → IsVtableRead v ls
vtable_read at d v ls e = record { read = tt; own = (labelled_ok vtable_labels (vtable_in d) v ls e).1 }

pub vtables_apart : (vs : List VtableDecl) → AreKept IsVtableRead [] vs → AreApart same_vtable vs
vtables_apart vs = named_apart vtable_label any same_vtable
    (λ a b e. let p = and_parts (bytes_eq (type_text a.ty) (type_text b.ty)) (bytes_eq a.trait_name b.trait_name) e in
    let f = bytes_same (type_text a.ty) (type_text b.ty) p.0 in let g = bytes_same a.trait_name b.trait_name p.1 in λ i. label_of (f i) (g i)) vs

-- Constants.

typed_ok : (d : Data) (t : TypedWord) → typed_word d ≡ Ok t → IsConstantEntry (record { name = []; ty = t.ty; value = t.word })
typed_ok d t e =
    let a = and_then_ok (needed (codes "type") scalar_type_in d) (λ x. and_then (needed (codes "value") (read_as (value_word x.1)) d) (λ w. Ok (record { ty = x.0; word = w }))) t e in
    let b = and_then_ok (needed (codes "value") (read_as (value_word a.0.1)) d) (λ w. Ok (record { ty = a.0.0; word = w })) t a.2 in
    let n = needed_ok (codes "type") scalar_type_in d a.0 a.1 in
    let m = needed_ok (codes "value") (read_as (value_word a.0.1)) d b.0 b.1 in
    let r = read_as_ok (value_word a.0.1) m.0 b.0 m.2 in
    subst (λ x. IsConstantEntry (record { name = []; ty = x.ty; value = x.word })) (ok_same (record { ty = a.0.0; word = b.0 }) t b.2)
    (number_of_type a.0.0 a.0.1 b.0 (scalar_ok n.0 a.0.0 a.0.1 n.2) (value_scalar a.0.1 r.0 b.0 r.1))

constant_ok : (d : Data) (c : ConstantDecl) → constant_in d ≡ Ok c → IsConstantEntry c
constant_ok d c e =
    let front = both (only_keys constant_keys d) (needed (codes "name") path_in d) in
    let p = and_then_ok (both front (typed_word d)) (λ q. Ok (record { name = q.0.1; ty = q.1.ty; value = q.1.word })) c e in
    let b = both_ok front (typed_word d) p.0 p.1 in
    subst IsConstantEntry (ok_same (record { name = p.0.0.1; ty = p.0.1.ty; value = p.0.1.word }) c p.2) (typed_ok d p.0.1 b.1)

abbrev constant_label : ConstantDecl → Label
constant_label c = label_of c.name []

abbrev pub IsConstantRead : ConstantDecl → List Label → Type 0
IsConstantRead = IsNamed constant_label IsConstantEntry

pub constant_read : (at : ℕ) (d : Data) (c : ConstantDecl) (ls : List Label) → constant_entry at d ≡ Ok (c, ls) → IsConstantRead c ls
constant_read at d c ls e = let l = labelled_ok constant_labels (constant_in d) c ls e in record { read = constant_ok d c l.0; own = l.1 }

pub constants_apart : (cs : List ConstantDecl) → AreKept IsConstantRead [] cs → AreApart same_constant cs
constants_apart cs = named_apart constant_label IsConstantEntry same_constant (λ a b e. ap (λ x. label_of x []) (bytes_same a.name b.name e)) cs

pub constants_made : (cs : List ConstantDecl) → AreKept IsConstantRead [] cs → All IsConstantEntry cs
constants_made cs k = named_all constant_label IsConstantEntry cs k

-- Aliases and contracts.

abbrev alias_label : AliasDecl → Label
alias_label a = label_of a.call []

abbrev pub IsAliasRead : AliasDecl → List Label → Type 0
IsAliasRead = IsNamed alias_label any

pub alias_read : (at : ℕ) (d : Data) (a : AliasDecl) (ls : List Label) → alias_entry at d ≡ Ok (a, ls) → IsAliasRead a ls
alias_read at d a ls e = record { read = tt; own = (labelled_ok alias_labels (alias_in d) a ls e).1 }

pub aliases_apart : (xs : List AliasDecl) → AreKept IsAliasRead [] xs → AreApart same_alias xs
aliases_apart xs = named_apart alias_label any same_alias (λ a b e. ap (λ x. label_of x []) (bytes_same a.call b.call e)) xs

abbrev contract_label : Contract → Label
contract_label c = label_of c.function []

abbrev pub IsContractRead : Contract → List Label → Type 0
IsContractRead = IsNamed contract_label any

pub contract_read : (at : ℕ) (d : Data) (c : Contract) (ls : List Label) → contract_entry at d ≡ Ok (c, ls) → IsContractRead c ls
contract_read at d c ls e = record { read = tt; own = (labelled_ok contract_labels (contract_in d) c ls e).1 }

pub contracts_apart : (cs : List Contract) → AreKept IsContractRead [] cs → AreApart same_contract cs
contracts_apart cs = named_apart contract_label any same_contract (λ a b e. ap (λ x. label_of x []) (bytes_same a.function b.function e)) cs

-- Loop rules.

loop_ok : (d : Data) (l : LoopRule) → loop_in d ≡ Ok l → IsLoopRule l
loop_ok d l e =
    let head = both (only_keys loop_keys d) (needed (codes "function") path_in d) in
    let header = needed (codes "header") (number_in 0 4095) d in
    let invariant = needed (codes "invariant") path_in d in
    let arguments = list_at local_element (codes "arguments") d in
    let modifies = list_at place_element (codes "modifies") d in
    let p = and_then_ok (both (both (rule_in d) arguments) modifies) (λ q. Ok (record { function = q.0.0.0.0.1; header = record { 0 = q.0.0.0.1 }; invariant = q.0.0.1; arguments = q.0.1; modifies = q.1 })) l e in
    let a = both_ok (both (rule_in d) arguments) modifies p.0 p.1 in
    let b = both_ok (rule_in d) arguments p.0.0 a.0 in
    let c = both_ok (both head header) invariant p.0.0.0 b.0 in
    let h = both_ok head header p.0.0.0.0 c.0 in
    let n : p.0.0.0.0.1 ≤ 4095 = (number_at_ok 0 4095 (codes "header") d p.0.0.0.0.1 h.1).1 in
    subst IsLoopRule (ok_same (record { function = p.0.0.0.0.0.1; header = record { 0 = p.0.0.0.0.1 }; invariant = p.0.0.0.1; arguments = p.0.0.1; modifies = p.0.1 }) l p.2) n

abbrev loop_label : LoopRule → Label
loop_label l = label_of l.function (decimal l.header.0)

abbrev pub IsLoopRead : LoopRule → List Label → Type 0
IsLoopRead = IsNamed loop_label IsLoopRule

pub loop_read : (at : ℕ) (d : Data) (l : LoopRule) (ls : List Label) → loop_entry at d ≡ Ok (l, ls) → IsLoopRead l ls
loop_read at d l ls e = let r = labelled_ok loop_labels (loop_in d) l ls e in record { read = loop_ok d l r.0; own = r.1 }

pub loops_apart : (ls : List LoopRule) → AreKept IsLoopRead [] ls → AreApart same_loop ls
loops_apart ls = named_apart loop_label IsLoopRule same_loop
    (λ a b e. let p = and_parts (bytes_eq a.function b.function) (a.header.0 == b.header.0) e in
    let f = bytes_same a.function b.function p.0 in let g = eqb-true a.header.0 b.header.0 p.1 in λ i. label_of (f i) (decimal (g i))) ls

pub loops_made : (ls : List LoopRule) → AreKept IsLoopRead [] ls → All IsLoopRule ls
loops_made ls k = named_all loop_label IsLoopRule ls k

-- Units.

unwind_ok : (d : Data) (n : ℕ) → defaulted 20 (codes "unwind") (number_in 1 1000) d ≡ Ok n → (1 ≤ n) × (n ≤ 1000)
unwind_ok d n e = elim (defaulted_ok 20 (codes "unwind") (number_in 1 1000) d n e) [
  | inl f ↦ (omega arith, omega arith)
  | inr f ↦ number_in_ok 1 1000 f.0 n f.1
]

unit_ok : (d : Data) (u : UnitDecl) → unit_in d ≡ Ok u → IsUnitEntry u
unit_ok d u e =
    let front = both (both (only_keys unit_keys d) (needed (codes "kind") (read_as unit_word) d)) (needed (codes "function") path_in d) in
    let unwind = defaulted 20 (codes "unwind") (number_in 1 1000) d in
    let stubs = list_at path_element (codes "stubs") d in
    let p = and_then_ok (both (both front unwind) stubs) (λ q. Ok (record { name = q.0.0.1; kind = q.0.0.0.1; unwind = q.0.1; stubs = q.1 })) u e in
    let a = both_ok (both front unwind) stubs p.0 p.1 in
    let b = both_ok front unwind p.0.0 a.0 in
    subst IsUnitEntry (ok_same (record { name = p.0.0.0.1; kind = p.0.0.0.0.1; unwind = p.0.0.1; stubs = p.0.1 }) u p.2) (unwind_ok d p.0.0.1 b.1)

abbrev unit_label : UnitDecl → Label
unit_label u = label_of (word_of_unit u.kind) u.name

kind_same : (a b : UnitKind) → same_unit_kind a b ≡ true → a ≡ b
kind_same unit.Proof unit.Proof e = refl
kind_same unit.Contract unit.Contract e = refl
kind_same unit.Proof unit.Contract e = absurd cc
kind_same unit.Contract unit.Proof e = absurd cc

abbrev pub IsUnitRead : UnitDecl → List Label → Type 0
IsUnitRead = IsNamed unit_label IsUnitEntry

pub unit_read : (at : ℕ) (d : Data) (u : UnitDecl) (ls : List Label) → unit_entry at d ≡ Ok (u, ls) → IsUnitRead u ls
unit_read at d u ls e = let l = labelled_ok unit_labels (unit_in d) u ls e in record { read = unit_ok d u l.0; own = l.1 }

pub units_apart : (us : List UnitDecl) → AreKept IsUnitRead [] us → AreApart same_unit us
units_apart us = named_apart unit_label IsUnitEntry same_unit
    (λ a b e. let p = and_parts (same_unit_kind a.kind b.kind) (bytes_eq a.name b.name) e in
    let f = kind_same a.kind b.kind p.0 in let g = bytes_same a.name b.name p.1 in λ i. label_of (word_of_unit (f i)) (g i)) us

pub units_made : (us : List UnitDecl) → AreKept IsUnitRead [] us → All IsUnitEntry us
units_made us k = named_all unit_label IsUnitEntry us k
