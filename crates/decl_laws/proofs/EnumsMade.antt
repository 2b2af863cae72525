-- Enums are well made.
use Rattle.std.proofs.Common.{◌≡◌, ℕ, ◌≤◌, ◌^◌, ◌==◌, Bool, true, false, if◌then◌else◌, List, [], ◌∷◌, All, length, codes, Option, Some, None, option_map, Result, Ok, Err, refl, sym, subst, ◌∙◌, ap, arith}
use Rattle.std.specs.Prelude.{⊤}
use Rattle.std.proofs.lemmas.Bool.{eqb-true}
use Rattle.toml.specs.Data.{Data, get}
use Rattle.word_bits.specs.declared.word.Word.{Word}
use Rattle.mir_ir.specs.declared.declarations.TagDecl.{TagDecl}
use Rattle.mir_ir.specs.declared.declarations.TypeShape.{TypeShape}
use Rattle.mir_ir.specs.declared.declarations.TypeShape.TheVariants as shape
use Rattle.mir_ir.specs.declared.declarations.VariantDecl.{VariantDecl}
use Rattle.mir_ir.specs.declared.types.IntTy.{IntTy}
use Rattle.mir_ir.specs.declared.types.Ty.{Ty}
use Rattle.mir_ir.specs.Integers.{width_of}
use Rattle.mir_program.specs.Apart.{IsCountable}
use Rattle.mir_program.specs.Entries.{IsEnum, IsField, IsTag, IsTagged, IsVariant, alike_variants}
use Rattle.mir_program.specs.Numbers.{HasBits}
use Rattle.decl_counts.specs.Counts.{HasCountableFields}
use Rattle.decl_tree.specs.declared.fault.DeclKind.TheVariants as kind
use Rattle.decl_tree.specs.declared.fault.KeyFault.{KeyFault}
use Rattle.decl_tree.specs.declared.labels.Label.{Label}
use Rattle.decl_tree.specs.Faults.{and_then, here, key_step, there, under}
use Rattle.decl_tree.specs.Keys.{held_perhaps, needed, only_keys, perhaps}
use Rattle.decl_tree.specs.Lists.{list_at}
use Rattle.decl_tree.specs.Values.{number_in}
use Rattle.decl_texts.specs.declared.forms.Scalar.{Scalar}
use Rattle.decl_texts.specs.declared.forms.Scalar.TheVariants as scalar
use Rattle.decl_texts.specs.Forms.{form_of, scalar_in}
use Rattle.decl_texts.specs.Texts.{scalar_type_in, type_in}
use Rattle.decl_types.specs.Enums.{discriminant_at, enum_at, enum_of, known_int, known_scalar, tag_in, tag_keys, tag_of, tag_type_in, variants_at}
use Rattle.decl_types.specs.Variants.{variant_entry}
use Rattle.decl_laws.proofs.FieldsMade.{IsNumberRead, IsVariantRead, variant_ok, variants_clash}
use Rattle.decl_laws.proofs.Lists.{AreKept, kept_all, kept_apart, list_kept}
use Rattle.decl_laws.proofs.Outcomes.{and_then_ok, needed_ok, number_at_ok, ok_same, there_ok, under_ok}
use Rattle.decl_laws.proofs.Values.{mapped_ok, number_of_type, number_scalar, numbers_of_type}

-- What an enum is read of.

record IsEnumRead (variants : Result (List VariantDecl) KeyFault) (tag : Result (Option TagDecl) KeyFault) (discriminant : Result IntTy KeyFault) (s : TypeShape) : Type 0 where
  listed : List VariantDecl
  given : Option TagDecl
  int : IntTy
  variants_is : variants ≡ Ok listed
  tag_is : tag ≡ Ok given
  int_is : discriminant ≡ Ok int
  some : 1 ≤ length listed
  alone : given ≡ None → length listed ≡ 1
  shape_is : s ≡ shape.Enum listed given int

enum_ok : (variants : Result (List VariantDecl) KeyFault) (tag : Result (Option TagDecl) KeyFault) (discriminant : Result IntTy KeyFault) (s : TypeShape) → enum_of variants tag discriminant ≡ Ok s → IsEnumRead variants tag discriminant s
enum_ok (Ok (v ∷ vs)) (Ok (Some t)) (Ok i) s e = record { listed = v ∷ vs; given = Some t; int = i; variants_is = refl; tag_is = refl; int_is = refl; some = omega arith; alone = λ f. absurd cc; shape_is = sym (ok_same (shape.Enum (v ∷ vs) (Some t) i) s e) }
enum_ok (Ok (v ∷ vs)) (Ok None) (Ok i) s e = by_count (length (v ∷ vs) == 1) refl e
  where
    by_count : (c : Bool) → (length (v ∷ vs) == 1) ≡ c
        → and_then (if c then Ok None else under (key_step (codes "tag")) (here kind.MissingKey)) (λ given. and_then (Ok i) (λ j. Ok (shape.Enum (v ∷ vs) given j))) ≡ Ok s
        → IsEnumRead (Ok (v ∷ vs)) (Ok None) (Ok i) s
    by_count true t f = record { listed = v ∷ vs; given = None; int = i; variants_is = refl; tag_is = refl; int_is = refl; some = omega arith; alone = λ g. eqb-true (length (v ∷ vs)) 1 t; shape_is = sym (ok_same (shape.Enum (v ∷ vs) None i) s f) }
    by_count false t f = absurd cc
enum_ok (Ok (v ∷ vs)) (Ok (Some t)) (Err f) s e = absurd cc
enum_ok (Ok (v ∷ vs)) (Ok None) (Err f) s e = by_count (length (v ∷ vs) == 1) e
  where
    by_count : (c : Bool) → and_then (if c then Ok None else under (key_step (codes "tag")) (here kind.MissingKey)) (λ given. and_then (Err f) (λ j. Ok (shape.Enum (v ∷ vs) given j))) ≡ Ok s → IsEnumRead (Ok (v ∷ vs)) (Ok None) (Err f) s
    by_count true g = absurd cc
    by_count false g = absurd cc
enum_ok (Ok (v ∷ vs)) (Err f) i s e = absurd cc
enum_ok (Ok []) t i s e = absurd cc
enum_ok (Err f) t i s e = absurd cc

-- Tags.

-- the tag that is declared, and its type where that was read
abbrev IsTagFound : Option TagDecl → Option Scalar → Type 0
IsTagFound None None = Unit {0}
IsTagFound None (Some s) = ⊥
IsTagFound (Some tag) None = ⊥
IsTagFound (Some tag) (Some s) = (tag.offset ≤ 4096) × (scalar_in (form_of tag.ty) ≡ Some s)

tag_of_ok : (known : Result ⊤ KeyFault) (ty : Result (Ty × Scalar) KeyFault) (offset : Result ℕ KeyFault) (tag : TagDecl) → tag_of known ty offset ≡ Ok tag
    → (s : Scalar) × (ty ≡ Ok (tag.ty, s)) × (offset ≡ Ok tag.offset)
tag_of_ok (Ok k) (Ok t) (Ok o) tag e = let same : record { ty = t.0; offset = o } ≡ tag = ok_same (record { ty = t.0; offset = o }) tag e in (t.1, ap (λ x. Ok (x.ty, t.1)) same, ap (λ x. Ok x.offset) same)
tag_of_ok (Ok k) (Ok t) (Err f) tag e = absurd cc
tag_of_ok (Ok k) (Err f) o tag e = absurd cc
tag_of_ok (Err f) t o tag e = absurd cc

pub scalar_ok : (d : Data) (t : Ty) (s : Scalar) → scalar_type_in d ≡ Ok (t, s) → scalar_in (form_of t) ≡ Some s
scalar_ok d t s e =
    let a = and_then_ok (type_in d) (λ ty. there kind.WrongKind (option_map (λ x. (ty, x)) (scalar_in (form_of ty)))) (t, s) e in
    let m = mapped_ok (λ x. (a.0, x)) (scalar_in (form_of a.0)) (t, s) (there_ok kind.WrongKind (option_map (λ x. (a.0, x)) (scalar_in (form_of a.0))) (t, s) a.2) in
    ap (λ q. scalar_in (form_of q.0)) m.2 ∙ m.1 ∙ ap (λ q. Some q.1) (sym m.2)

tag_found : (o : Option Data) (given : Option TagDecl) → held_perhaps tag_in o ≡ Ok given → IsTagFound given (tag_type_in o)
tag_found None given e = subst (λ g. IsTagFound g None) (ok_same None given e) tt
tag_found (Some d) given e =
    let a = and_then_ok (tag_in d) (λ x. Ok (Some x)) given e in
    let t = tag_of_ok (only_keys tag_keys d) (needed (codes "type") scalar_type_in d) (needed (codes "offset") (number_in 0 4096) d) a.0 a.1 in
    let n = needed_ok (codes "type") scalar_type_in d (a.0.ty, t.0) t.1 in
    let found : IsTagFound (Some a.0) (known_scalar (Ok (a.0.ty, t.0))) = ((number_at_ok 0 4096 (codes "offset") d a.0.offset t.2).1, scalar_ok n.0 a.0.ty t.0 n.2) in
    subst (λ g. IsTagFound g (tag_type_in (Some d))) (ok_same (Some a.0) given a.2) (subst (λ r. IsTagFound (Some a.0) (known_scalar r)) (sym t.1) found)

tag_of_variant : (given : Option TagDecl) (s : Option Scalar) (text : List ℕ) (w : Option Word) → IsTagFound given s → IsNumberRead s text w → IsTag given w
tag_of_variant None None text None h k = tt
tag_of_variant None None text (Some w) h k = absurd cc
tag_of_variant None (Some s) text w h k = absurd h
tag_of_variant (Some tag) None text w h k = absurd h
tag_of_variant (Some tag) (Some s) text None h k = absurd k
tag_of_variant (Some tag) (Some s) text (Some w) h k = number_of_type tag.ty s w h.1 (number_scalar s text w k)

is_tagged : (given : Option TagDecl) (s : Option Scalar) (vs : List VariantDecl) → IsTagFound given s → (given ≡ None → length vs ≡ 1) → IsTagged given vs
is_tagged None s vs h k = k refl
is_tagged (Some tag) None vs h k = absurd h
is_tagged (Some tag) (Some s) vs h k = (h.0, numbers_of_type tag.ty s h.1)

-- Variants beside the tag.

record IsVariantBut (i : IntTy) (given : Option TagDecl) (v : VariantDecl) : Type 0 where
  value : HasBits (width_of i) v.value
  tagged : IsTag given v.tag
  offsets : All IsField v.fields

variant_but : (i : IntTy) (given : Option TagDecl) (s : Option Scalar) (v : VariantDecl) (ls : List Label) → IsTagFound given s → IsVariantRead i s v ls → IsVariantBut i given v
variant_but i given s v ls h k = record { value = number_scalar (scalar.Int i) k.value_text v.value k.value; tagged = tag_of_variant given s k.tag_text v.tag h k.tag; offsets = k.fields }

all_variants : (i : IntTy) (given : Option TagDecl) (vs : List VariantDecl) → All (IsVariantBut i given) vs → All HasCountableFields vs → All (IsVariant i given) vs
all_variants i given vs h c k d l = let a = h k d l in record { value = a.value; tagged = a.tagged; fields = record { offsets = a.offsets; count = c k d l } }

variants_kept : (r : Result IntTy KeyFault) (i : IntTy) (s : Option Scalar) (d : Data) (vs : List VariantDecl) → r ≡ Ok i → length vs ≤ 2 ^ 64
    → list_at (variant_entry (known_int r) s) (codes "variants") d ≡ Ok vs → AreKept (IsVariantRead i s) [] vs
variants_kept r i s d vs e b f =
    list_kept (variant_entry (Some (scalar.Int i)) s) (IsVariantRead i s) (2 ^ 64) (λ at c v ls l g. variant_ok i s at c v ls l g) (codes "variants") d vs b
    (subst (λ x. list_at (variant_entry (known_int x) s) (codes "variants") d ≡ Ok vs) e f)

pub record IsEnumMade (s : TypeShape) : Type 0 where
  pub variants : List VariantDecl
  pub tag : Option TagDecl
  pub discriminant : IntTy
  pub is : s ≡ shape.Enum variants tag discriminant
  pub made : IsCountable variants → All HasCountableFields variants → IsEnum variants tag discriminant

pub enum_made : (d : Data) (s : TypeShape) → enum_at d ≡ Ok s → IsEnumMade s
enum_made d s e =
    let r = enum_ok (variants_at d) (perhaps (codes "tag") tag_in d) (discriminant_at d) s e in
    let t = tag_found (get (codes "tag") d) r.given (under_ok (key_step (codes "tag")) (held_perhaps tag_in (get (codes "tag") d)) r.given r.tag_is) in
    let types = tag_type_in (get (codes "tag") d) in
    record {
      variants = r.listed;
      tag = r.given;
      discriminant = r.int;
      is = r.shape_is;
      made = λ c f.
          let k : AreKept (IsVariantRead r.int types) [] r.listed = variants_kept (discriminant_at d) r.int types d r.listed r.int_is (omega (arith, c.counted)) r.variants_is in
          record {
            some = r.some;
            count = c;
            tagged = is_tagged r.given types r.listed t r.alone;
            each = all_variants r.int r.given r.listed (kept_all (IsVariantRead r.int types) (IsVariantBut r.int r.given) (λ v ls h. variant_but r.int r.given types v ls t h) [] r.listed k) f;
            apart = kept_apart (IsVariantRead r.int types) alike_variants (variants_clash r.int types) [] r.listed k;
          };
    }
