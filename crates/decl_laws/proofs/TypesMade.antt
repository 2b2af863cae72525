-- Types are well made.
use Rattle.std.proofs.Common.{◌≡◌, ℕ, ◌==◌, nat_le, Bool, true, false, if◌then◌else◌, List, [], ◌∷◌, All, length, codes, Option, None, Result, Ok, Err, inl, inr, refl, sym, subst, ◌∙◌, ap, arith}
use Rattle.std.specs.Prelude.{⊤}
use Rattle.std.specs.List.{list_any}
use Rattle.std.proofs.lemmas.Bool.{and_parts, eqb-true, leb-true, or_cases}
use Rattle.toml.specs.Data.{Data}
use Rattle.mir_ir.specs.declared.declarations.FieldDecl.{FieldDecl}
use Rattle.mir_ir.specs.declared.declarations.TypeDecl.{TypeDecl}
use Rattle.mir_ir.specs.declared.declarations.TypeShape.{TypeShape}
use Rattle.mir_ir.specs.declared.declarations.TypeShape.TheVariants as shape
use Rattle.mir_ir.specs.declared.types.Ty.{Ty, out-Ty}
use Rattle.mir_ir.specs.declared.types.Ty.TheOpen.{Ty-F}
use Rattle.canonical_text.specs.Types.{type_text}
use Rattle.mir_program.specs.Apart.{AreApart}
use Rattle.mir_program.specs.Entries.{IsAlignment, IsNameFor, IsPath, IsShape, IsTupleOf, IsTypeEntry, same_type}
use Rattle.decl_counts.specs.Counts.{HasCountableParts, IsCountableType}
use Rattle.decl_tree.specs.declared.fault.DeclKind.TheVariants as kind
use Rattle.decl_tree.specs.declared.fault.KeyFault.{KeyFault}
use Rattle.decl_tree.specs.declared.labels.Label.{Label}
use Rattle.decl_tree.specs.Faults.{here}
use Rattle.decl_tree.specs.Keys.{needed, only_keys}
use Rattle.decl_tree.specs.Values.{number_in}
use Rattle.decl_texts.specs.Forms.{form_in, form_of}
use Rattle.decl_texts.specs.Texts.{type_in}
use Rattle.decl_types.specs.declared.types.TypeKind.{TypeKind}
use Rattle.decl_types.specs.declared.types.TypeKind.TheVariants as sort
use Rattle.decl_types.specs.Enums.{enum_at}
use Rattle.decl_types.specs.Fields.{fields_at}
use Rattle.decl_types.specs.Types.{Body, align_in, body_of, drop_at, enum_body, fits, fitting, is_named, is_tuple_of, keys_of, kind_at, kind_fault, name_of, power, powers, struct_of, tuple_of, type_by, type_entry, type_keys, type_labels, type_of, type_of_kind}
use Rattle.decl_laws.proofs.EnumsMade.{IsEnumMade, enum_made}
use Rattle.decl_laws.proofs.FieldsMade.{fields_ok}
use Rattle.decl_laws.proofs.Lists.{AreKept, IsNamed, bytes_same, labelled_ok, named_all, named_apart}
use Rattle.decl_laws.proofs.Outcomes.{and_then_ok, needed_ok, number_at_ok, ok_same}

-- Alignments.

abbrev Each : (ℕ → Type 0) → List ℕ → Type 0
Each P [] = Unit {0}
Each P (n ∷ ns) = P n × Each P ns

among : (P : ℕ → Type 0) (n : ℕ) (ps : List ℕ) → Each P ps → list_any (λ p. n == p) ps ≡ true → P n
among P n [] h e = absurd cc
among P n (p ∷ ps) h e = elim (or_cases (n == p) (list_any (λ q. n == q) ps) e) [
  | inl f ↦ subst P (sym (eqb-true n p f)) h.0
  | inr f ↦ among P n ps h.1 f
]

powers_aligned : Each IsAlignment powers
powers_aligned = (
  record { exponent = 0; within = omega arith; power = refl },
  (
    record { exponent = 1; within = omega arith; power = refl },
    (
      record { exponent = 2; within = omega arith; power = refl },
      (
        record { exponent = 3; within = omega arith; power = refl },
        (
          record { exponent = 4; within = omega arith; power = refl },
          (
            record { exponent = 5; within = omega arith; power = refl },
            (
              record { exponent = 6; within = omega arith; power = refl },
              (
                record { exponent = 7; within = omega arith; power = refl },
                (
                  record { exponent = 8; within = omega arith; power = refl },
                  (
                    record { exponent = 9; within = omega arith; power = refl },
                    (
                      record { exponent = 10; within = omega arith; power = refl },
                      (
                        record { exponent = 11; within = omega arith; power = refl },
                        (
                          record { exponent = 12; within = omega arith; power = refl },
                          tt,
                        ),
                      ),
                    ),
                  ),
                ),
              ),
            ),
          ),
        ),
      ),
    ),
  ),
)

power_ok : (n a : ℕ) → power n ≡ Ok a → IsAlignment a
power_ok n a e = by_test (list_any (λ p. n == p) powers) refl e
  where
    by_test : (c : Bool) → list_any (λ p. n == p) powers ≡ c → (if c then Ok n else here kind.OutOfRange) ≡ Ok a → IsAlignment a
    by_test true t f = subst IsAlignment (ok_same n a f) (among IsAlignment n powers powers_aligned t)
    by_test false t f = absurd cc

align_ok : (d : Data) (a : ℕ) → needed (codes "align") align_in d ≡ Ok a → IsAlignment a
align_ok d a e =
    let n = needed_ok (codes "align") align_in d a e in
    let p = and_then_ok (number_in 1 4096 n.0) power a n.2 in
    power_ok p.0 a p.2

-- Names.

named_path : (x : Ty-F Ty) → is_named (form_in x) ≡ true → IsPath x
named_path (Ty-F.Named path) h = tt
named_path _ h = absurd cc

named_tuple : (n : ℕ) (x : Ty-F Ty) → is_tuple_of n (form_in x) ≡ true → IsTupleOf n x
named_tuple n (Ty-F.Tuple items) h =
    let p = and_parts (nat_le 1 (length items)) (length items == n) h in
    let l = leb-true 1 (length items) p.0 in
    let e = eqb-true (length items) n p.1 in (omega arith, e)
named_tuple n _ h = absurd cc

fitting_ok : (c : Bool) (t n : Ty) → fitting c t ≡ Ok n → (c ≡ true) × (t ≡ n)
fitting_ok true t n e = (refl, ok_same t n e)
fitting_ok false t n e = absurd cc

name_ok : (k : TypeKind) (fields : Result (List FieldDecl) KeyFault) (name : Result Ty KeyFault) (n : Ty) → name_of k fields name ≡ Ok n → fits k fields (form_of n) ≡ true
name_ok k fields name n e =
    let a = and_then_ok name (λ t. fitting (fits k fields (form_of t)) t) n e in
    let f = fitting_ok (fits k fields (form_of a.0)) a.0 n a.2 in
    ap (λ t. fits k fields (form_of t)) (sym f.1) ∙ f.0

-- Entries.

type_parts : (known : Result ⊤ KeyFault) (name : Result Ty KeyFault) (size : Result ℕ KeyFault) (align : Result ℕ KeyFault) (body : Result Body KeyFault) (t : TypeDecl) → type_of known name size align body ≡ Ok t
    → (name ≡ Ok t.name) × (size ≡ Ok t.size) × (align ≡ Ok t.align) × (body ≡ Ok (t.shape, t.drop))
type_parts (Ok k) (Ok n) (Ok s) (Ok a) (Ok b) t e = let same = ok_same (record { name = n; shape = b.0; size = s; align = a; drop = b.1 }) t e in
    (ap (λ x. Ok x.name) same, ap (λ x. Ok x.size) same, ap (λ x. Ok x.align) same, ap (λ x. Ok (x.shape, x.drop)) same)
type_parts (Ok k) (Ok n) (Ok s) (Ok a) (Err f) t e = absurd cc
type_parts (Ok k) (Ok n) (Ok s) (Err f) b t e = absurd cc
type_parts (Ok k) (Ok n) (Err f) a b t e = absurd cc
type_parts (Ok k) (Err f) s a b t e = absurd cc
type_parts (Err f) n s a b t e = absurd cc

struct_ok : (fields : Result (List FieldDecl) KeyFault) (drop : Result (Option (List ℕ)) KeyFault) (b : Body) → struct_of fields drop ≡ Ok b → (fs : List FieldDecl) × (fields ≡ Ok fs) × (b.0 ≡ shape.Struct fs)
struct_ok (Ok fs) (Ok f) b e = (fs, refl, ap (λ x. x.0) (sym (ok_same (shape.Struct fs, f) b e)))
struct_ok (Ok fs) (Err f) b e = absurd cc
struct_ok (Err f) drop b e = absurd cc

tuple_ok : (fields : Result (List FieldDecl) KeyFault) (b : Body) → tuple_of fields ≡ Ok b → (fs : List FieldDecl) × (fields ≡ Ok fs) × (b.0 ≡ shape.Tuple fs)
tuple_ok (Ok fs) b e = (fs, refl, ap (λ x. x.0) (sym (ok_same (shape.Tuple fs, None) b e)))
tuple_ok (Err f) b e = absurd cc

enum_body_ok : (drop : Result (Option (List ℕ)) KeyFault) (read : Result TypeShape KeyFault) (b : Body) → enum_body drop read ≡ Ok b → read ≡ Ok b.0
enum_body_ok (Ok f) (Ok s) b e = ap (λ x. Ok x.0) (ok_same (s, f) b e)
enum_body_ok (Ok f) (Err g) b e = absurd cc
enum_body_ok (Err f) s b e = absurd cc

-- the shape and the name that fits it
record IsShaped (s : TypeShape) (n : Ty) : Type 0 where
  named : IsNameFor s (out-Ty n)
  formed : HasCountableParts s → IsShape s

shaped_by : (s r : TypeShape) (n : Ty) → s ≡ r → IsShaped r n → IsShaped s n
shaped_by s r n e h = subst (λ x. IsShaped x n) (sym e) h

enum_shaped : (s : TypeShape) (n : Ty) → IsEnumMade s → is_named (form_of n) ≡ true → IsShaped s n
enum_shaped s n m h = shaped_by s (shape.Enum m.variants m.tag m.discriminant) n m.is (record { named = named_path (out-Ty n) h; formed = λ c. m.made c.0 c.1 })

is_shaped : (k : TypeKind) (d : Data) (n : Ty) (b : Body) → fits k (fields_at d) (form_of n) ≡ true → body_of k (fields_at d) d ≡ Ok b → IsShaped b.0 n
is_shaped sort.Struct d n b h e =
    let f = struct_ok (fields_at d) (drop_at d) b e in
    let named : is_named (form_of n) ≡ true = ap (λ r. fits sort.Struct r (form_of n)) (sym f.1) ∙ h in
    shaped_by b.0 (shape.Struct f.0) n f.2 (record { named = named_path (out-Ty n) named; formed = λ c. record { offsets = fields_ok d f.0 f.1; count = c } })
is_shaped sort.Tuple d n b h e =
    let f = tuple_ok (fields_at d) b e in
    let named : is_tuple_of (length f.0) (form_of n) ≡ true = ap (λ r. fits sort.Tuple r (form_of n)) (sym f.1) ∙ h in
    shaped_by b.0 (shape.Tuple f.0) n f.2 (record { named = named_tuple (length f.0) (out-Ty n) named; formed = λ c. record { offsets = fields_ok d f.0 f.1; count = c } })
is_shaped sort.Enum d n b h e = enum_shaped b.0 n (enum_made d b.0 (enum_body_ok (drop_at d) (enum_at d) b e)) h

abbrev pub IsTypeMade : TypeDecl → Type 0
IsTypeMade t = IsCountableType t → IsTypeEntry t

kind_made : (k : TypeKind) (d : Data) (t : TypeDecl) → type_of_kind k d ≡ Ok t → IsTypeMade t
kind_made k d t e =
    let p = type_parts (only_keys (keys_of k) d) (name_of k (fields_at d) (needed (codes "name") type_in d)) (needed (codes "size") (number_in 0 4096) d)
    (needed (codes "align") align_in d) (body_of k (fields_at d) d) t e in
    let s = is_shaped k d t.name (t.shape, t.drop) (name_ok k (fields_at d) (needed (codes "name") type_in d) t.name p.0) p.3 in
    λ c. record { name = s.named; size = (number_at_ok 0 4096 (codes "size") d t.size p.1).1; align = align_ok d t.align p.2; formed = s.formed c }

no_type : (known : Result ⊤ KeyFault) (name : Result Ty KeyFault) (f : KeyFault) (t : TypeDecl) → kind_fault known name f ≡ Ok t → ⊥
no_type (Ok k) (Ok n) f t e = cc
no_type (Ok k) (Err g) f t e = cc
no_type (Err g) n f t e = cc

type_made : (r : Result TypeKind KeyFault) (d : Data) (t : TypeDecl) → type_by r d ≡ Ok t → IsTypeMade t
type_made (Ok k) d t e = kind_made k d t e
type_made (Err f) d t e = absurd (no_type (only_keys type_keys d) (needed (codes "name") type_in d) f t e)

abbrev type_label : TypeDecl → Label
type_label t = record { first = type_text t.name; second = [] }

abbrev pub IsTypeRead : TypeDecl → List Label → Type 0
IsTypeRead = IsNamed type_label IsTypeMade

pub type_read : (at : ℕ) (d : Data) (t : TypeDecl) (ls : List Label) → type_entry at d ≡ Ok (t, ls) → IsTypeRead t ls
type_read at d t ls e = let l = labelled_ok type_labels (type_by (kind_at d) d) t ls e in record { read = type_made (kind_at d) d t l.0; own = l.1 }

pub types_apart : (ts : List TypeDecl) → AreKept IsTypeRead [] ts → AreApart same_type ts
types_apart ts = named_apart type_label IsTypeMade same_type (λ a b e. ap (λ x. record { first = x; second = [] }) (bytes_same (type_text a.name) (type_text b.name) e)) ts

pub types_made : (ts : List TypeDecl) → AreKept IsTypeRead [] ts → All IsCountableType ts → All IsTypeEntry ts
types_made ts k c n d l = named_all type_label IsTypeMade ts k n d l (c n d l)
