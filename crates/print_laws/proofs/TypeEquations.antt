-- The text of each form of a type.
use Rattle.std.proofs.Common.{◌≡◌, ℕ, Bool, true, false, if◌then◌else◌, List, [], ◌∷◌, ◌++◌, map, codes, Option, Some, None, refl, sym, ◌∙◌, ap, rules, find}
use Rattle.std.specs.Str.{bytes_eq}
use Rattle.std.specs.Fmt.{decimal}
use Rattle.std.proofs.lemmas.Slice.Eq.{bytes_eq-Decides}
use Rattle.mir_ir.specs.declared.types.Ty.{Ty, out-Ty}
use Rattle.mir_ir.specs.declared.types.Ty.TheVariants as ty
use Rattle.mir_ir.specs.declared.types.Ty.TheOpen.{Ty-F}
use Rattle.mir_ir.specs.declared.types.Ty.TheViews.{the_lemmas}
use Rattle.mir_ir.specs.declared.types.IntTy.{IntTy}
use Rattle.mir_ir.specs.Names.{is_int_named, name_of_int, all_ints, int_of_name}
use Rattle.mir_grammar.specs.Names.{plain_type, int_or_name}
use Rattle.mir_lex.proofs.Runs.{same_some}
use Rattle.canonical_text.specs.declared.positions.Position.TheVariants.{AsType, Alone}
use Rattle.canonical_text.specs.Names.{path_written}
use Rattle.canonical_text.specs.Types.{comma_of_one, pointer_word, reference_word, type_text, with_commas}
use Rattle.canonical_text.proofs.Texts.{level_text, type_text_out}

out_text : (t : Ty) (x : Ty-F Ty) → out-Ty t ≡ x → type_text t ≡ level_text x
out_text t x e = type_text_out t ∙ ap level_text e

pub bool_text : type_text ty.Bool ≡ codes "bool"
bool_text = out_text ty.Bool Ty-F.Bool (search (rules, the_lemmas))

pub char_text : type_text ty.Char ≡ codes "char"
char_text = out_text ty.Char Ty-F.Char (search (rules, the_lemmas))

pub never_text : type_text ty.Never ≡ codes "!"
never_text = out_text ty.Never Ty-F.Never (search (rules, the_lemmas))

pub str_text : type_text ty.Str ≡ codes "str"
str_text = out_text ty.Str Ty-F.Str (search (rules, the_lemmas))

pub int_text : (i : IntTy) → type_text (ty.Int i) ≡ name_of_int i
int_text i = out_text (ty.Int i) (Ty-F.Int i) (search (rules, the_lemmas))

pub path_name_text : (path : List ℕ) → type_text (ty.Named path) ≡ path_written AsType path
path_name_text path = out_text (ty.Named path) (Ty-F.Named path) (search (rules, the_lemmas))

pub dyn_text : (path : List ℕ) → type_text (ty.Dyn path) ≡ codes "dyn " ++ path_written Alone path
dyn_text path = out_text (ty.Dyn path) (Ty-F.Dyn path) (search (rules, the_lemmas))

pub box_text : (t : Ty) → type_text (ty.BoxOf t) ≡ codes "Box<" ++ type_text t ++ codes ">"
box_text t = out_text (ty.BoxOf t) (Ty-F.BoxOf t) (search (rules, the_lemmas))

pub slice_text : (t : Ty) → type_text (ty.Slice t) ≡ codes "[" ++ type_text t ++ codes "]"
slice_text t = out_text (ty.Slice t) (Ty-F.Slice t) (search (rules, the_lemmas))

pub array_text : (t : Ty) (n : ℕ) → type_text (ty.Array t n) ≡ codes "[" ++ type_text t ++ codes "; " ++ decimal n ++ codes "]"
array_text t n = out_text (ty.Array t n) (Ty-F.Array t n) (search (rules, the_lemmas))

pub reference_text : (m : Bool) (t : Ty) → type_text (ty.Ref m t) ≡ reference_word m ++ type_text t
reference_text m t = out_text (ty.Ref m t) (Ty-F.Ref m t) (search (rules, the_lemmas))

pub raw_text : (m : Bool) (t : Ty) → type_text (ty.Raw m t) ≡ pointer_word m ++ type_text t
raw_text m t = out_text (ty.Raw m t) (Ty-F.Raw m t) (search (rules, the_lemmas))

pub tuple_text : (ts : List Ty) → type_text (ty.Tuple ts) ≡ codes "(" ++ with_commas (map type_text ts) ++ comma_of_one (map type_text ts) ++ codes ")"
tuple_text ts = out_text (ty.Tuple ts) (Ty-F.Tuple ts) (search (rules, the_lemmas))

-- A word of the types is its type's text.

found_by : (text : List ℕ) (j i : IntTy) (more : Option IntTy) → (more ≡ Some i → name_of_int i ≡ text) → (c : Bool) → bytes_eq text (name_of_int j) ≡ c → (if c then Some j else more) ≡ Some i → name_of_int i ≡ text
found_by text j i more ih true e h = ap name_of_int (sym (same_some j i h)) ∙ sym ((bytes_eq-Decides text (name_of_int j)).0 e)
found_by text j i more ih false e h = ih h

int_found : (text : List ℕ) (is : List IntTy) (i : IntTy) → find (λ j. is_int_named text j) is ≡ Some i → name_of_int i ≡ text
unfolding is_int_named
int_found text [] i h = absurd cc
int_found text (j ∷ is) i h = found_by text j i (find (λ k. is_int_named text k) is) (int_found text is i) (bytes_eq text (name_of_int j)) refl h

same_word : (word text : List ℕ) (t other : Ty) → type_text t ≡ word → type_text other ≡ text → (c : Bool) → bytes_eq word text ≡ c → type_text (if c then t else other) ≡ text
same_word word text t other e f true h = e ∙ (bytes_eq-Decides word text).0 h
same_word word text t other e f false h = f

int_word : (text : List ℕ) (o : Option IntTy) → path_written AsType text ≡ text → int_of_name text ≡ o → type_text (int_or_name o text) ≡ text
int_word text None w e = path_name_text text ∙ w
int_word text (Some i) w e = int_text i ∙ int_found text all_ints i e

pub plain_text : (text : List ℕ) → path_written AsType text ≡ text → type_text (plain_type text) ≡ text
plain_text text w = same_word (codes "bool") text ty.Bool _ bool_text (same_word (codes "char") text ty.Char _ char_text (same_word (codes "!") text ty.Never _ never_text
    (same_word (codes "str") text ty.Str _ str_text (int_word text (int_of_name text) w refl) (bytes_eq (codes "str") text) refl) (bytes_eq (codes "!") text) refl) (bytes_eq (codes "char") text) refl) (bytes_eq (codes "bool") text) refl
