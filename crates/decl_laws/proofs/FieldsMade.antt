-- Fields and variants are well made.
use Rattle.std.proofs.Common.{◌≡◌, ℕ, ◌<◌, ◌^◌, ◌==◌, ◌||◌, ◌&&◌, not, Bool, true, false, if◌then◌else◌, List, [], ◌∷◌, ◌++◌, All, length, codes, Option, Some, None, Result, Ok, Err, inl, inr, refl, sym, subst, ◌∙◌, ap, le_refl}
use Rattle.std.specs.Prelude.{⊤}
use Rattle.std.specs.Fmt.{decimal}
use Rattle.std.specs.Str.{bytes_eq}
use Rattle.std.proofs.lemmas.Bool.{eqb-true, or_cases, or_left, or_right}
use Rattle.toml.specs.Data.{Data}
use Rattle.word_bits.specs.declared.word.Word.{Word}
use Rattle.mir_ir.specs.declared.declarations.FieldDecl.{FieldDecl}
use Rattle.mir_ir.specs.declared.declarations.VariantDecl.{VariantDecl}
use Rattle.mir_ir.specs.declared.types.IntTy.{IntTy}
use Rattle.mir_ir.specs.declared.types.Ty.{Ty}
use Rattle.mir_lex.specs.Bytes.{first_is}
use Rattle.mir_lex.specs.Views.{is_index}
use Rattle.mir_program.specs.Entries.{IsField, alike_variants, same_tag}
use Rattle.decl_tree.specs.declared.fault.KeyFault.{KeyFault}
use Rattle.decl_tree.specs.declared.labels.Label.{Label}
use Rattle.decl_tree.specs.Faults.{and_then}
use Rattle.decl_tree.specs.Keys.{defaulted, needed, only_keys}
use Rattle.decl_tree.specs.Labels.{is_seen, one_label, same_label}
use Rattle.decl_tree.specs.Values.{number_in}
use Rattle.decl_texts.specs.declared.forms.Scalar.{Scalar}
use Rattle.decl_texts.specs.declared.forms.Scalar.TheVariants as scalar
use Rattle.decl_texts.specs.Decimals.{is_decimal, number_word}
use Rattle.decl_texts.specs.Texts.{decimal_in, type_in, where_it_is, word_in}
use Rattle.decl_types.specs.declared.variants.Numbers.{Numbers}
use Rattle.decl_types.specs.Fields.{field_entry, field_keys, field_of, fields_at}
use Rattle.decl_types.specs.Variants.{in_range, number_at, number_of, numbers_at, variant_entry, variant_keys, variant_made, variant_parts, word_or_zero}
use Rattle.decl_laws.proofs.Digits.{decimal_index}
use Rattle.decl_laws.proofs.Lists.{bytes_same, kept_all, label_alike, list_kept}
use Rattle.decl_laws.proofs.Outcomes.{and_then_ok, defaulted_ok, number_at_ok, ok_same, read_as_ok, some_same}
use Rattle.decl_laws.proofs.Values.{number_same}

-- Fields.

field_of_ok : (known : Result ⊤ KeyFault) (name : Result (List ℕ) KeyFault) (ty : Result Ty KeyFault) (offset : Result ℕ KeyFault) (p : FieldDecl × List Label) → field_of known name ty offset ≡ Ok p → offset ≡ Ok p.0.offset
field_of_ok (Ok k) (Ok n) (Ok t) (Ok o) p e = ap (λ q. Ok q.0.offset) (ok_same (record { name = n; ty = t; offset = o }, []) p e)
field_of_ok (Ok k) (Ok n) (Ok t) (Err f) p e = absurd cc
field_of_ok (Ok k) (Ok n) (Err f) o p e = absurd cc
field_of_ok (Ok k) (Err f) t o p e = absurd cc
field_of_ok (Err f) n t o p e = absurd cc

abbrev IsFieldEntry : FieldDecl → List Label → Type 0
IsFieldEntry f ls = IsField f

field_ok : (at : ℕ) (d : Data) (f : FieldDecl) (ls : List Label) → field_entry at d ≡ Ok (f, ls) → IsField f
field_ok at d f ls e =
    let o = field_of_ok (only_keys field_keys d) (defaulted (decimal at) (codes "name") word_in d) (needed (codes "type") type_in d) (needed (codes "offset") (number_in 0 4096) d) (f, ls) e in
    (number_at_ok 0 4096 (codes "offset") d f.offset o).1

pub fields_ok : (d : Data) (fs : List FieldDecl) → fields_at d ≡ Ok fs → All IsField fs
fields_ok d fs e =
    kept_all IsFieldEntry IsField (λ f ls h. h) [] fs (list_kept field_entry IsFieldEntry (length fs) (λ at c f ls l r. field_ok at c f ls r) (codes "fields") d fs (le_refl (length fs)) e)

-- Numbers of variants.

-- a number where its type is known
abbrev pub IsNumberRead : Option Scalar → List ℕ → Option Word → Type 0
IsNumberRead None text w = w ≡ None
IsNumberRead (Some s) text None = ⊥
IsNumberRead (Some s) text (Some w) = number_word s text ≡ Some w

where_ok : (test : List ℕ → Bool) (text x : List ℕ) → where_it_is test text ≡ Some x → test x ≡ true
where_ok test text x e = by_test (test text) refl e
  where
    by_test : (c : Bool) → test text ≡ c → (if c then Some text else None) ≡ Some x → test x ≡ true
    by_test true t f = ap test (sym (some_same text x f)) ∙ t
    by_test false t f = absurd cc

decimal_ok : (other key : List ℕ) (d : Data) (text : List ℕ) → is_decimal other ≡ true → defaulted other key decimal_in d ≡ Ok text → is_decimal text ≡ true
decimal_ok other key d text h e = elim (defaulted_ok other key decimal_in d text e) [
  | inl f ↦ ap is_decimal f ∙ h
  | inr f ↦ let r = read_as_ok (where_it_is is_decimal) f.0 text f.1 in where_ok is_decimal r.0 text r.1
]

range_ok : {A : Type 0} (key : List ℕ) (o : Option A) (x : A) → in_range key o ≡ Ok x → o ≡ Some x
range_ok key (Some y) x e = ap Some (ok_same y x e)
range_ok key None x e = absurd cc

number_of_ok : (key : List ℕ) (s : Option Scalar) (text : List ℕ) (w : Option Word) → number_of key s text ≡ Ok w → IsNumberRead s text w
number_of_ok key None text w e = sym (ok_same None w e)
number_of_ok key (Some s) text w e =
    let o = and_then_ok (in_range key (number_word s text)) (λ v. Ok (Some v)) w e in
    subst (IsNumberRead (Some s) text) (ok_same (Some o.0) w o.2) (range_ok key (number_word s text) o.0 o.1)

number_read : (key : List ℕ) (s : Option Scalar) (other : List ℕ) (d : Data) (p : Option Word × List ℕ) → is_decimal other ≡ true → number_at key s other d ≡ Ok p → (is_decimal p.1 ≡ true) × IsNumberRead s p.1 p.0
number_read key s other d p h e =
    let a = and_then_ok (defaulted other key decimal_in d) (λ text. and_then (number_of key s text) (λ w. Ok (w, text))) p e in
    let b = and_then_ok (number_of key s a.0) (λ w. Ok (w, a.0)) p a.2 in
    let same : (b.0, a.0) ≡ p = ok_same (b.0, a.0) p b.2 in
    subst (λ q. (is_decimal q.1 ≡ true) × IsNumberRead s q.1 q.0) same (decimal_ok other key d a.0 h a.1, number_of_ok key s a.0 b.0 b.1)

record AreNumbersRead (value_type tag_type : Option Scalar) (n : Numbers) : Type 0 where
  value_decimal : is_decimal n.value_text ≡ true
  value : IsNumberRead value_type n.value_text n.value
  tag_decimal : is_decimal n.tag_text ≡ true
  tag : IsNumberRead tag_type n.tag_text n.tag

-- digits without a leading zero have no minus
no_sign : (ds : List ℕ) → is_index (45 ∷ ds) ≡ true → ⊥
no_sign [] k = cc
no_sign (d ∷ ds) k = cc

plain_decimal : (text : List ℕ) → is_index text ≡ true → is_decimal text ≡ true
plain_decimal [] h = absurd cc
plain_decimal (a ∷ digits) h = by_sign (a == 45) refl
  where
    by_sign : (c : Bool) → (a == 45) ≡ c → (if c then is_index digits && not (first_is (λ d. d == 48) digits) else is_index (a ∷ digits)) ≡ true
    by_sign true t = absurd (no_sign digits (ap (λ x. is_index (x ∷ digits)) (sym (eqb-true a 45 t)) ∙ h))
    by_sign false t = h

position_decimal : (at : ℕ) → at < 2 ^ 64 → is_decimal (decimal at) ≡ true
position_decimal at h = plain_decimal (decimal at) (decimal_index at h)

numbers_ok : (value_type tag_type : Option Scalar) (at : ℕ) (d : Data) (n : Numbers) → is_decimal (decimal at) ≡ true → numbers_at value_type tag_type at d ≡ Ok n → AreNumbersRead value_type tag_type n
numbers_ok value_type tag_type at d n h e =
    let v = and_then_ok (number_at (codes "value") value_type (decimal at) d)
    (λ v. and_then (number_at (codes "tag") tag_type v.1 d) (λ t. Ok (record { value = v.0; value_text = v.1; tag = t.0; tag_text = t.1 }))) n e in
    let t = and_then_ok (number_at (codes "tag") tag_type v.0.1 d) (λ t. Ok (record { value = v.0.0; value_text = v.0.1; tag = t.0; tag_text = t.1 })) n v.2 in
    let a = number_read (codes "value") value_type (decimal at) d v.0 h v.1 in
    let b = number_read (codes "tag") tag_type v.0.1 d t.0 a.0 t.1 in
    subst (AreNumbersRead value_type tag_type) (ok_same (record { value = v.0.0; value_text = v.0.1; tag = t.0.0; tag_text = t.0.1 }) n t.2)
    (record { value_decimal = a.0; value = a.1; tag_decimal = b.0; tag = b.1 })

-- Variants.

abbrev three_labels : List ℕ → List ℕ → List ℕ → List Label
three_labels name value tag = one_label (codes "name") name ++ (one_label (codes "value") value ++ one_label (codes "tag") tag)

pub record IsVariantRead (i : IntTy) (tag_type : Option Scalar) (v : VariantDecl) (ls : List Label) : Type 0 where
  pub value_text : List ℕ
  pub tag_text : List ℕ
  pub labels : ls ≡ three_labels v.name value_text tag_text
  pub value_decimal : is_decimal value_text ≡ true
  pub value : number_word (scalar.Int i) value_text ≡ Some v.value
  pub tag_decimal : is_decimal tag_text ≡ true
  pub tag : IsNumberRead tag_type tag_text v.tag
  pub fields : All IsField v.fields

parts_ok : (known : Result ⊤ KeyFault) (name : Result (List ℕ) KeyFault) (numbers : Result Numbers KeyFault) (fields : Result (List FieldDecl) KeyFault)
    (p : List ℕ × Numbers × List FieldDecl) → variant_parts known name numbers fields ≡ Ok p → (numbers ≡ Ok p.1) × (fields ≡ Ok p.2)
parts_ok (Ok k) (Ok n) (Ok ns) (Ok fs) p e = let s : (n, ns, fs) ≡ p = ok_same (n, ns, fs) p e in (ap (λ q. Ok q.1) s, ap (λ q. Ok q.2) s)
parts_ok (Ok k) (Ok n) (Ok ns) (Err f) p e = absurd cc
parts_ok (Ok k) (Ok n) (Err f) fs p e = absurd cc
parts_ok (Ok k) (Err f) ns fs p e = absurd cc
parts_ok (Err f) n ns fs p e = absurd cc

known_value : (s : Scalar) (text : List ℕ) (o : Option Word) → IsNumberRead (Some s) text o → number_word s text ≡ Some (word_or_zero o)
known_value s text (Some w) h = h
known_value s text None h = absurd h

pub variant_ok : (i : IntTy) (tag_type : Option Scalar) (at : ℕ) (d : Data) (v : VariantDecl) (ls : List Label) → at < 2 ^ 64 → variant_entry (Some (scalar.Int i)) tag_type at d ≡ Ok (v, ls) → IsVariantRead i tag_type v ls
variant_ok i tag_type at d v ls l e =
    let parts = variant_parts (only_keys variant_keys d) (needed (codes "name") word_in d) (numbers_at (Some (scalar.Int i)) tag_type at d) (fields_at d) in
    let a = and_then_ok parts (λ p. Ok (variant_made p.0 p.1 p.2)) (v, ls) e in
    let b = parts_ok (only_keys variant_keys d) (needed (codes "name") word_in d) (numbers_at (Some (scalar.Int i)) tag_type at d) (fields_at d) a.0 a.1 in
    let n = numbers_ok (Some (scalar.Int i)) tag_type at d a.0.1 (position_decimal at l) b.0 in
    subst (λ q. IsVariantRead i tag_type q.0 q.1) (ok_same (variant_made a.0.0 a.0.1 a.0.2) (v, ls) a.2) (record {
      value_text = a.0.1.value_text;
      tag_text = a.0.1.tag_text;
      labels = refl;
      value_decimal = n.value_decimal;
      value = known_value (scalar.Int i) a.0.1.value_text a.0.1.value n.value;
      tag_decimal = n.tag_decimal;
      tag = n.tag;
      fields = fields_ok d a.0.2 b.1;
    })

-- No two variants are alike.

abbrev label_of : List ℕ → List ℕ → Label
label_of first second = record { first = first; second = second }

name_seen : (n v t : List ℕ) → is_seen (three_labels n v t) (label_of (codes "name") n) ≡ true
name_seen n v t = or_left (same_label (label_of (codes "name") n) (label_of (codes "name") n)) (is_seen (label_of (codes "value") v ∷ label_of (codes "tag") t ∷ []) (label_of (codes "name") n)) (label_alike (label_of (codes "name") n))

value_seen : (n v t : List ℕ) → is_seen (three_labels n v t) (label_of (codes "value") v) ≡ true
value_seen n v t = or_right (same_label (label_of (codes "value") v) (label_of (codes "name") n)) (is_seen (label_of (codes "value") v ∷ label_of (codes "tag") t ∷ []) (label_of (codes "value") v))
    (or_left (same_label (label_of (codes "value") v) (label_of (codes "value") v)) (is_seen (label_of (codes "tag") t ∷ []) (label_of (codes "value") v)) (label_alike (label_of (codes "value") v)))

tag_seen : (n v t : List ℕ) → is_seen (three_labels n v t) (label_of (codes "tag") t) ≡ true
tag_seen n v t = or_right (same_label (label_of (codes "tag") t) (label_of (codes "name") n)) (is_seen (label_of (codes "value") v ∷ label_of (codes "tag") t ∷ []) (label_of (codes "tag") t))
    (or_right (same_label (label_of (codes "tag") t) (label_of (codes "value") v)) (is_seen (label_of (codes "tag") t ∷ []) (label_of (codes "tag") t))
    (or_left (same_label (label_of (codes "tag") t) (label_of (codes "tag") t)) false (label_alike (label_of (codes "tag") t))))

tags_same : (s : Option Scalar) (a b : List ℕ) (v w : Option Word) → is_decimal a ≡ true → is_decimal b ≡ true → IsNumberRead s a v → IsNumberRead s b w → same_tag v w ≡ true → a ≡ b
tags_same s a b None w c d h k e = absurd cc
tags_same s a b (Some v) None c d h k e = absurd cc
tags_same None a b (Some v) (Some w) c d h k e = absurd cc
tags_same (Some s) a b (Some v) (Some w) c d h k e = number_same s a b v w c d h k (eqb-true v.value w.value e)

pub variants_clash : (i : IntTy) (tag_type : Option Scalar) (x y : VariantDecl) (ls ms : List Label) → IsVariantRead i tag_type x ls → IsVariantRead i tag_type y ms → alike_variants x y ≡ true
    → (l : Label) × (is_seen ls l ≡ true) × (is_seen ms l ≡ true)
variants_clash i tag_type x y ls ms h k e = elim (or_cases (bytes_eq x.name y.name) ((x.value.value == y.value.value) || same_tag x.tag y.tag) e) [
  | inl f ↦ by_name (bytes_same x.name y.name f)
  | inr f ↦ elim (or_cases (x.value.value == y.value.value) (same_tag x.tag y.tag) f) [
    | inl g ↦ by_value (number_same (scalar.Int i) h.value_text k.value_text x.value y.value h.value_decimal k.value_decimal h.value k.value (eqb-true x.value.value y.value.value g))
    | inr g ↦ by_tag (tags_same tag_type h.tag_text k.tag_text x.tag y.tag h.tag_decimal k.tag_decimal h.tag k.tag g)
  ]
]
  where
    by_name : x.name ≡ y.name → (l : Label) × (is_seen ls l ≡ true) × (is_seen ms l ≡ true)
    by_name s = (
      label_of (codes "name") x.name,
      ap (λ m. is_seen m (label_of (codes "name") x.name)) h.labels ∙ name_seen x.name h.value_text h.tag_text,
      ap (λ m. is_seen m (label_of (codes "name") x.name)) k.labels ∙ ap (λ n. is_seen (three_labels y.name k.value_text k.tag_text) (label_of (codes "name") n)) s ∙ name_seen y.name k.value_text k.tag_text,
    )

    by_value : h.value_text ≡ k.value_text → (l : Label) × (is_seen ls l ≡ true) × (is_seen ms l ≡ true)
    by_value s = (
      label_of (codes "value") h.value_text,
      ap (λ m. is_seen m (label_of (codes "value") h.value_text)) h.labels ∙ value_seen x.name h.value_text h.tag_text,
      ap (λ m. is_seen m (label_of (codes "value") h.value_text)) k.labels ∙ ap (λ n. is_seen (three_labels y.name k.value_text k.tag_text) (label_of (codes "value") n)) s ∙ value_seen y.name k.value_text k.tag_text,
    )

    by_tag : h.tag_text ≡ k.tag_text → (l : Label) × (is_seen ls l ≡ true) × (is_seen ms l ≡ true)
    by_tag s = (
      label_of (codes "tag") h.tag_text,
      ap (λ m. is_seen m (label_of (codes "tag") h.tag_text)) h.labels ∙ tag_seen x.name h.value_text h.tag_text,
      ap (λ m. is_seen m (label_of (codes "tag") h.tag_text)) k.labels ∙ ap (λ n. is_seen (three_labels y.name k.value_text k.tag_text) (label_of (codes "tag") n)) s ∙ tag_seen y.name k.value_text k.tag_text,
    )
