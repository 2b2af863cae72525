-- Declaration files, by computation.
use Rattle.std.specs.Prelude.{⊤}
use Rattle.std.proofs.Common.{◌≡◌, [], ◌∷◌, codes, Ok, Err, refl}
use Rattle.std.specs.Char.{encode_utf8}
use Rattle.std.specs.Fmt.{digits}
use Rattle.std.specs.Str.{is_utf8, chars}
use Rattle.toml.proofs.OnLiterals.{toml_on_literals}
use Rattle.mir_ir.specs.declared.declarations.UnitKind.TheVariants as sort
use Rattle.part_texts.proofs.OnLiterals.{texts_on_literals}
use Rattle.decl_tree.specs.declared.fault.DeclKind.TheVariants as kind
use Rattle.decl_file.specs.declared.fault.DeclFault.TheVariants as answer
use Rattle.decl_file.specs.File.{declared_by}

unfoldable declared_on_literals : ⊤
unfolding declared_by toml_on_literals is_utf8 chars encode_utf8
declared_on_literals = tt

no_toml : declared_by (codes "version\n") ≡ Err answer.NotToml
unfolding declared_on_literals
no_toml = refl

no_version : declared_by (codes "") ≡ Err (answer.Key kind.MissingKey (codes "version"))
unfolding declared_on_literals
no_version = refl

-- the version comes before a key that is not known
another_version : declared_by (codes "version = 2\nunits = 1\n") ≡ Err (answer.Key kind.OutOfRange (codes "version"))
unfolding declared_on_literals
another_version = refl

-- and the least of these keys before the tables
unknown_keys : declared_by (codes "version = 1\nunits = 1\nfunctions = 1\ntype = 1\n") ≡ Err (answer.Key kind.UnknownKey (codes "functions"))
unfolding declared_on_literals
unknown_keys = refl

no_tables : declared_by (codes "version = 1\n") ≡ Ok (record { types = []; traits = []; vtables = []; constants = []; aliases = []; contracts = []; loops = []; units = [] })
unfolding declared_on_literals
no_tables = refl

-- a unit is unwound 20 times where nothing is said
one_unit : declared_by (codes "version = 1\n[[unit]]\nkind = \"proof\"\nfunction = \"f\"\n")
    ≡ Ok (record { types = []; traits = []; vtables = []; constants = []; aliases = []; contracts = []; loops = []; units = record { name = codes "f"; kind = sort.Proof; unwind = 20; stubs = [] } ∷ [] })
unfolding declared_on_literals texts_on_literals
one_unit = refl

-- a duplicate stands at the second entry
two_units : declared_by (codes "version = 1\nunit = [ { kind = \"proof\", function = \"f\" }, { kind = \"proof\", function = \"f\" } ]\n") ≡ Err (answer.Key kind.Duplicate (codes "unit[1]"))
unfolding declared_on_literals texts_on_literals digits
two_units = refl
