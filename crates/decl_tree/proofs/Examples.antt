-- Keys, lists and paths of small trees, by computation.
use Rattle.std.proofs.Common.{◌≡◌, ℕ, pos, negsuc, true, List, [], ◌∷◌, codes, Some, Result, Ok, Err, refl}
use Rattle.std.specs.Fmt.{digits}
use Rattle.toml.specs.Data.{Data, string, integer, boolean, array, table, Items, no_items, item, no_members, member}
use Rattle.toml.specs.Parse.{parse_document}
use Rattle.toml.proofs.OnLiterals.{toml_on_literals}
use Rattle.decl_tree.specs.declared.fault.DeclKind.{DeclKind}
use Rattle.decl_tree.specs.declared.fault.DeclKind.TheVariants as kind
use Rattle.decl_tree.specs.declared.fault.KeyFault.{KeyFault}
use Rattle.decl_tree.specs.declared.labels.Label.{Label}
use Rattle.decl_tree.specs.Faults.{and_then}
use Rattle.decl_tree.specs.Labels.{one_label}
use Rattle.decl_tree.specs.Keys.{only_keys, needed, defaulted}
use Rattle.decl_tree.specs.Values.{text_in, number_in}
use Rattle.decl_tree.specs.Lists.{list_at}

abbrev fault : {A : Type 0} → DeclKind → List ℕ → Result A KeyFault
fault k path = Err (record { kind = k; path = path })

-- size = 4097
abbrev sized : Data
sized = table (member (codes "size") (integer (pos 4097)) no_members)

too_great : needed (codes "size") (number_in 0 4096) sized ≡ fault kind.OutOfRange (codes ".size")
too_great = refl

just_fits : needed (codes "size") (number_in 0 4097) sized ≡ Ok 4097
just_fits = refl

absent : needed (codes "align") (number_in 0 4096) sized ≡ fault kind.MissingKey (codes ".align")
absent = refl

absent_with_default : defaulted 20 (codes "unwind") (number_in 1 1000) sized ≡ Ok 20
absent_with_default = refl

below_zero : needed (codes "size") (number_in 0 4096) (table (member (codes "size") (integer (negsuc 0)) no_members)) ≡ fault kind.OutOfRange (codes ".size")
below_zero = refl

no_integer : needed (codes "size") (number_in 0 4096) (table (member (codes "size") (string (codes "8")) no_members)) ≡ fault kind.WrongKind (codes ".size")
no_integer = refl

other_key : only_keys (codes "name" ∷ codes "align" ∷ []) sized ≡ fault kind.UnknownKey (codes ".size")
other_key = refl

no_table : only_keys (codes "size" ∷ []) (boolean true) ≡ fault kind.WrongKind []
no_table = refl

-- keys of a text stand in the order of their bytes, so the first key that is not known is the least
keys_ascend : parse_document (codes "b = 2\na = 1\n") ≡ Some (member (codes "a") (integer (pos 1)) (member (codes "b") (integer (pos 2)) no_members))
unfolding toml_on_literals
keys_ascend = refl

-- texts, no two of them equal
abbrev different : ℕ → Data → Result (List ℕ × List Label) KeyFault
different at d = and_then (text_in d) (λ text. Ok (text, one_label text []))

abbrev methods_of : Items → Data
methods_of texts = table (member (codes "methods") (array texts) no_members)

no_list : list_at different (codes "methods") sized ≡ Ok []
no_list = refl

two_texts : list_at different (codes "methods") (methods_of (item (string (codes "a")) (item (string (codes "b")) no_items))) ≡ Ok (codes "a" ∷ codes "b" ∷ [])
two_texts = refl

-- the duplicate stands at the second of the two, and before a fault that comes later
twice : list_at different (codes "methods") (methods_of (item (string (codes "a")) (item (string (codes "b")) (item (string (codes "a")) (item (boolean true) no_items)))))
    ≡ fault kind.Duplicate (codes ".methods[2]")
unfolding digits
twice = refl

earlier_fault : list_at different (codes "methods") (methods_of (item (string (codes "a")) (item (boolean true) (item (string (codes "a")) no_items))))
    ≡ fault kind.WrongKind (codes ".methods[1]")
unfolding digits
earlier_fault = refl

-- a value that is no list
other_value : list_at different (codes "methods") (table (member (codes "methods") (string (codes "a")) no_members)) ≡ fault kind.WrongKind (codes ".methods")
other_value = refl
