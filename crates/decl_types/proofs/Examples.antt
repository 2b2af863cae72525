-- Types of small trees, by computation.
use Rattle.std.proofs.Common.{◌≡◌, ℕ, pos, List, [], ◌∷◌, codes, Some, None, Result, Ok, Err, refl}
use Rattle.std.specs.Fmt.{digits}
use Rattle.toml.specs.Data.{Data, string, integer, table, Members, no_members, member}
use Rattle.mir_ir.specs.declared.types.IntTy.TheVariants as int
use Rattle.mir_ir.specs.declared.types.Ty as tree_ty
use Rattle.mir_ir.specs.declared.types.Ty.TheVariants as ty
use Rattle.mir_lex.specs.Bytes.{number_within}
use Rattle.part_texts.proofs.OnLiterals.{texts_on_literals}
use Rattle.decl_tree.specs.declared.fault.DeclKind.{DeclKind}
use Rattle.decl_tree.specs.declared.fault.DeclKind.TheVariants as kind
use Rattle.decl_tree.specs.declared.fault.KeyFault.{KeyFault}
use Rattle.decl_texts.specs.declared.forms.Scalar.TheVariants as scalar
use Rattle.decl_texts.specs.Texts.{is_word}
use Rattle.decl_types.specs.Fields.{field_entry}
use Rattle.decl_types.specs.Variants.{variant_entry}
use Rattle.decl_types.specs.Types.{type_entry, align_in}

abbrev fault : {A : Type 0} → DeclKind → List ℕ → Result A KeyFault
fault k path = Err (record { kind = k; path = path })

-- { type = "u8", offset = 4 } has its position as its name
abbrev byte_at_4 : Data
byte_at_4 = table (member (codes "offset") (integer (pos 4)) (member (codes "type") (string (codes "u8")) no_members))

field : field_entry 2 byte_at_4 ≡ Ok (record { name = codes "2"; ty = ty.Int int.U8; offset = 4 }, [])
unfolding texts_on_literals digits
field = refl

no_type : field_entry 0 (table (member (codes "offset") (integer (pos 4)) (member (codes "type") (string (codes "u8;")) no_members))) ≡ fault kind.WrongKind (codes ".type")
unfolding texts_on_literals
no_type = refl

not_a_power : align_in (integer (pos 3)) ≡ fault kind.OutOfRange []
not_a_power = refl

greatest_power : align_in (integer (pos 4096)) ≡ Ok 4096
greatest_power = refl

-- { name = "C" }, the third variant of an enum
abbrev third : Data
third = table (member (codes "name") (string (codes "C")) no_members)

-- its value and its tag are 2, which is no bool
bool_tag : variant_entry (Some (scalar.Int int.I8)) (Some scalar.Bool) 2 third ≡ fault kind.OutOfRange (codes ".tag")
unfolding number_within is_word digits
bool_tag = refl

byte_tag : variant_entry (Some (scalar.Int int.I8)) (Some (scalar.Int int.U8)) 2 third
    ≡ Ok (
      record { name = codes "C"; value = record { width = 8; value = 2 }; tag = Some (record { width = 8; value = 2 }); fields = [] },
      record { first = codes "name"; second = codes "C" } ∷ record { first = codes "value"; second = codes "2" } ∷ record { first = codes "tag"; second = codes "2" } ∷ [],
    )
unfolding number_within is_word digits
byte_tag = refl

-- without a tag in the enum there is none in the variant
no_tag : variant_entry (Some (scalar.Int int.I8)) None 2 third
    ≡ Ok (
      record { name = codes "C"; value = record { width = 8; value = 2 }; tag = None; fields = [] },
      record { first = codes "name"; second = codes "C" } ∷ record { first = codes "value"; second = codes "2" } ∷ record { first = codes "tag"; second = codes "2" } ∷ [],
    )
unfolding number_within is_word digits
no_tag = refl

-- a type of this kind and with this key beside its kind
abbrev type_with : List ℕ → Members → Data
type_with word more = table (member (codes "kind") (string word) more)

unknown_first : type_entry 0 (type_with (codes "tuple") (member (codes "tag") (integer (pos 1)) no_members)) ≡ fault kind.UnknownKey (codes ".tag")
unknown_first = refl

-- where the kind has a fault, the keys of all kinds are known, and the name comes first
name_first : type_entry 0 (type_with (codes "union") (member (codes "tag") (integer (pos 1)) no_members)) ≡ fault kind.MissingKey (codes ".name")
name_first = refl

then_kind : type_entry 0 (type_with (codes "union") (member (codes "name") (string (codes "u8")) no_members)) ≡ fault kind.WrongKind (codes ".kind")
unfolding texts_on_literals
then_kind = refl

-- u8 is the name of no struct, and this is told before the size that is missing
no_struct : type_entry 0 (type_with (codes "struct") (member (codes "name") (string (codes "u8")) no_members)) ≡ fault kind.WrongKind (codes ".name")
unfolding texts_on_literals tree_ty.out-Ty denote.Hole.Carrier.out
no_struct = refl

no_size : type_entry 0 (type_with (codes "struct") (member (codes "name") (string (codes "A")) no_members)) ≡ fault kind.MissingKey (codes ".size")
unfolding texts_on_literals tree_ty.out-Ty denote.Hole.Carrier.out
no_size = refl
