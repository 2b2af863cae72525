-- A variant: `name` (a word), `value` (a decimal text, by default its position), `tag` (a decimal text, by default its
-- value), `fields`. Values and tags are numbers of their types, where the key that gives the type has no fault.
use Rattle.std.specs.Prelude.{ℕ, List, [], ◌∷◌, ◌++◌, codes, Option, Some, None, Result, Ok, ⊤}
use Rattle.std.specs.Fmt.{decimal}
use Rattle.toml.specs.Data.{Data}
use Rattle.word_bits.specs.declared.word.Word.{Word}
use Rattle.mir_ir.specs.declared.declarations.FieldDecl.{FieldDecl}
use Rattle.mir_ir.specs.declared.declarations.VariantDecl.{VariantDecl}
use Rattle.decl_tree.specs.declared.fault.DeclKind.TheVariants as kind
use Rattle.decl_tree.specs.declared.fault.KeyFault.{KeyFault}
use Rattle.decl_tree.specs.declared.labels.Label.{Label}
use Rattle.decl_tree.specs.Faults.{here, under, key_step, and_then}
use Rattle.decl_tree.specs.Labels.{one_label}
use Rattle.decl_tree.specs.Keys.{only_keys, needed, defaulted}
use Rattle.decl_texts.specs.declared.forms.Scalar.{Scalar}
use Rattle.decl_texts.specs.Texts.{word_in, decimal_in}
use Rattle.decl_texts.specs.Decimals.{number_word}
use Rattle.decl_types.specs.declared.variants.Numbers.{Numbers}
use Rattle.decl_types.specs.Fields.{fields_at}

abbrev pub variant_keys : List (List ℕ)
variant_keys = codes "name" ∷ codes "value" ∷ codes "tag" ∷ codes "fields" ∷ []

abbrev pub in_range : {A : Type 0} → List ℕ → Option A → Result A KeyFault
in_range key (Some w) = Ok w
in_range key None = under (key_step key) (here kind.OutOfRange)

-- the number that a decimal text writes, where its type is known
abbrev pub number_of : List ℕ → Option Scalar → List ℕ → Result (Option Word) KeyFault
number_of key None text = Ok None
number_of key (Some s) text = and_then (in_range key (number_word s text)) (λ w. Ok (Some w))

-- what a key holds, else a default, as it is written and as a number of the type
abbrev pub number_at : List ℕ → Option Scalar → List ℕ → Data → Result (Option Word × List ℕ) KeyFault
number_at key s other d = and_then (defaulted other key decimal_in d) (λ text. and_then (number_of key s text) (λ w. Ok (w, text)))

-- the value of a variant, then its tag
abbrev pub numbers_at : Option Scalar → Option Scalar → ℕ → Data → Result Numbers KeyFault
numbers_at value_type tag_type at d =
    and_then (number_at (codes "value") value_type (decimal at) d) (λ v. and_then (number_at (codes "tag") tag_type v.1 d) (λ t.
    Ok (record { value = v.0; value_text = v.1; tag = t.0; tag_text = t.1 })))

abbrev pub word_or_zero : Option Word → Word
word_or_zero (Some w) = w
word_or_zero None = record { width = 1; value = 0 }

-- no two variants have one name, one value or one tag
abbrev pub variant_labels : List ℕ → Numbers → List Label
variant_labels name n = one_label (codes "name") name ++ (one_label (codes "value") n.value_text ++ one_label (codes "tag") n.tag_text)

abbrev pub variant_made : List ℕ → Numbers → List FieldDecl → VariantDecl × List Label
variant_made name n fields = (record { name = name; value = word_or_zero n.value; tag = n.tag; fields = fields }, variant_labels name n)

abbrev pub variant_parts : Result ⊤ KeyFault → Result (List ℕ) KeyFault → Result Numbers KeyFault → Result (List FieldDecl) KeyFault
    → Result (List ℕ × Numbers × List FieldDecl) KeyFault
variant_parts known name numbers fields = and_then known (λ _. and_then name (λ n. and_then numbers (λ ns. and_then fields (λ fs. Ok (n, ns, fs)))))

abbrev pub variant_entry : Option Scalar → Option Scalar → ℕ → Data → Result (VariantDecl × List Label) KeyFault
variant_entry value_type tag_type at d =
    and_then (variant_parts (only_keys variant_keys d) (needed (codes "name") word_in d) (numbers_at value_type tag_type at d) (fields_at d))
    (λ p. Ok (variant_made p.0 p.1 p.2))
