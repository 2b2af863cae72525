-- The text of a function reads again as this function.
use Rattle.std.proofs.Common.{◌≡◌, inl, ℕ, ◌==◌, Bool, true, false, if◌then◌else◌, List, [], ◌∷◌, ◌++◌, codes, map, refl, sym, ◌∙◌, ap, subst, arith, append_assoc}
use Rattle.std.proofs.lemmas.Bool.{eqb-true}
use Rattle.grammar_words.specs.Grammar.{Part, Then, Made, Each}
use Rattle.grammar_words.specs.Classes.{inside, Past}
use Rattle.mir_ir.specs.declared.types.Ty.{Ty}
use Rattle.mir_ir.specs.declared.tree.Local.{Local}
use Rattle.mir_grammar.specs.declared.named.Named.{Named}
use Rattle.mir_grammar.specs.declared.trees.Placed.{Placed}
use Rattle.mir_grammar.specs.declared.trees.Declared.{Declared}
use Rattle.mir_grammar.specs.declared.trees.RawBlock.{RawBlock}
use Rattle.mir_grammar.specs.declared.trees.RawFunction.{RawFunction}
use Rattle.mir_grammar.specs.Lexemes.{Lexeme, class_of, sign, word}
use Rattle.mir_grammar.specs.Types.{Family, AnyType, any_word, FreePath}
use Rattle.mir_grammar.specs.Places.{to_local_id, locals}
use Rattle.mir_grammar.specs.Functions.{to_declared, one_item, concat, to_items, Items, DeclaredPart, ItemPart, to_function, Parameters, Braces, BlockPart, Inside, FunctionPart}
use Rattle.canonical_text.specs.declared.positions.Position.TheVariants.{Alone}
use Rattle.canonical_text.specs.Names.{path_written}
use Rattle.canonical_text.specs.Types.{type_text}
use Rattle.canonical_text.specs.Places.{local_text}
use Rattle.canonical_text.specs.Functions.{parameters_text, lets_text, blocks_text}
use Rattle.print_laws.specs.Printed.{ArePrintable}
use Rattle.raw_functions.specs.Meant.{blocks_of, local_of, result_type, others_of, by_number, result_local}
use Rattle.print_laws.proofs.Leads.{all_leads, word_follow}
use Rattle.print_laws.proofs.Fits as fits
use Rattle.print_laws.proofs.Fits.{Fits, fits_join, fits_none, fits_text, fits_wide}
use Rattle.print_laws.proofs.Again.{past_token}
use Rattle.print_laws.proofs.TypeTexts.{Retold, free_path, semicolon_inside, mut_inside}
use Rattle.print_laws.proofs.TypeTold.{ty_of}
use Rattle.print_laws.proofs.PlaceTold.{PlacesTold, TypesTold, colon_inside}
use Rattle.print_laws.proofs.Locals.{local_inside, local_fits, local_value}
use Rattle.print_laws.proofs.BlockTold.{four_blanks, brace_inside, brace_end_inside, brace_line}
use Rattle.print_laws.proofs.ItemTold.{LocalTold, AllTold, Declares, declared_text_is, parameters_told}
use Rattle.print_laws.proofs.FunctionTold.{each_plain, blocks_tell, blocks_same, all_plain, all_by_number}
use Rattle.print_laws.proofs.Single.{AllPlain}
use Rattle.print_laws.proofs.Told.{Telling}

abbrev TypeTelling : Part Lexeme Named → Ty → Type 0
TypeTelling U t = Telling word_follow (1 ∷ 7 ∷ []) U ty_of (type_text t) t

-- _0, where it has this type
result_value : (U : Part Lexeme Named) (n : Named) → local_of (to_declared (word (local_text 0), n)) ≡ record { id = to_local_id 0; ty = n.ty }
unfolding to_declared
result_value U n = ap (λ x. record { id = to_local_id x; ty = n.ty }) (local_value 0 (omega arith))

zero_told : (U : Part Lexeme Named) (t : Ty) → TypeTelling U t → LocalTold U (record { id = to_local_id 0; ty = t })
zero_told U t k = record {
  lexemes = word (local_text 0) ∷ sign (codes ":") ∷ k.lexemes;
  value = to_declared (word (local_text 0), k.value);
  same = result_value U k.value ∙ ap (λ x. record { id = to_local_id 0; ty = x }) k.same;
  reads = λ y. ((word (local_text 0), k.value), refl, (sign (codes ":") ∷ (k.lexemes ++ y), (local_inside 0 (omega arith), refl), ((sign (codes ":"), k.value), refl, (k.lexemes ++ y, (colon_inside, refl), k.reads y))));
  fits = fits_text (declared_text_is (0, t)) (fits_join (local_fits 0 (omega arith)) (fits_join (fits.spaced fits.colon refl) k.fits refl) refl);
}

result_told : (U : Part Lexeme Named) (t : Ty) (ds : List Declared) → TypeTelling U t → AllTold U (map local_of ds) → LocalTold U (record { id = to_local_id 0; ty = result_type t ds })
result_told U t [] k h = zero_told U t k
result_told U t (d ∷ ds) k h = result_by (d.id.0 == 0) refl (result_told U t ds k h.1)
  where
    result_by : (c : Bool) → (d.id.0 == 0) ≡ c → LocalTold U (record { id = to_local_id 0; ty = result_type t ds }) → LocalTold U (record { id = to_local_id 0; ty = if c then d.ty.ty else result_type t ds })
    result_by true e i = subst (λ x. LocalTold U (record { id = to_local_id x; ty = d.ty.ty })) (eqb-true d.id.0 0 e) h.0
    result_by false e i = i

-- let mut

let_inside : inside class_of (176 ∷ []) (word (codes "let")) ≡ true
unfolding inside class_of
let_inside = refl

let_fits : Fits all_leads (7 ∷ []) (codes "    let mut ") (word (codes "let") ∷ word (codes "mut") ∷ [])
let_fits = fits_join four_blanks (fits_join (fits.spaced (fits.written_word (codes "let") refl (omega arith) refl) refl) fits.mut_word refl) refl

end_fits : Fits all_leads (7 ∷ []) (codes ";\n") (sign (codes ";") ∷ [])
end_fits = fits_join fits.semicolon fits.fits_line refl

let_reads : (U : Part Lexeme Named) (S : Part Lexeme Items) (ls : List Lexeme) (d : Declared) → ((k : List Lexeme) → DeclaredPart locals U (ls ++ k) d k) → (k : List Lexeme) → ItemPart U S ((word (codes "let") ∷ word (codes "mut") ∷ (ls ++ sign (codes ";") ∷ [])) ++ k) (one_item d) k
let_reads U S ls d f k = inl (
  d,
  refl,
  (
    (word (codes "let"), d),
    refl,
    (
      word (codes "mut") ∷ ((ls ++ sign (codes ";") ∷ []) ++ k),
      (let_inside, refl),
      (
        (d, sign (codes ";")),
        refl,
        (
          sign (codes ";") ∷ k,
          ((true, d), refl, ((ls ++ sign (codes ";") ∷ []) ++ k, inl (word (codes "mut"), refl, (mut_inside, refl)), subst (λ z. DeclaredPart locals U z d (sign (codes ";") ∷ k)) (sym (append_assoc ls (sign (codes ";") ∷ []) k)) (f (sign (codes ";") ∷ k)))),
          (semicolon_inside, refl),
        ),
      ),
    ),
  ),
)

abbrev declared_in : List Items → List Local
declared_in dss = map local_of (concat dss)

lets_told : (U : Part Lexeme Named) (S : Part Lexeme Items) (ls : List Local) → AllTold U ls → Telling (7 ∷ []) (7 ∷ []) (Each (ItemPart U S)) declared_in (lets_text ls) ls
lets_told U S [] h = record { lexemes = []; value = []; same = refl; reads = λ k. refl; fits = fits_none (7 ∷ []) }
lets_told U S (l ∷ ls) h = let x = h.0 in let y = lets_told U S ls h.1 in let xs = word (codes "let") ∷ word (codes "mut") ∷ (x.lexemes ++ sign (codes ";") ∷ []) in record {
  lexemes = xs ++ y.lexemes;
  value = one_item x.value ∷ y.value;
  same = ap (λ z. z ∷ declared_in y.value) x.same ∙ ap (λ z. l ∷ z) y.same;
  reads = λ k. subst (λ w. Each (ItemPart U S) w (one_item x.value ∷ y.value) k) (sym (append_assoc xs y.lexemes k)) (y.lexemes ++ k, let_reads U S x.lexemes x.value x.reads (y.lexemes ++ k), y.reads k);
  fits = fits_join (fits_join (fits_join let_fits x.fits refl) end_fits refl) y.fits refl;
}

-- What stands behind the arrow.

abbrev Rest : Family → Part Lexeme Placed → Part Lexeme Items → Part Lexeme (Named × (Items × List RawBlock))
Rest T P S = Then (T AnyType) (Braces (Inside T P S))

abbrev pub lets_of : Ty → List Declared → List Local
lets_of t ds = record { id = to_local_id 0; ty = result_type t ds } ∷ by_number (others_of ds)

brace_fits : Fits all_leads (7 ∷ []) (codes " {\n") (sign (codes "{") ∷ [])
brace_fits = fits_join fits.fits_space brace_line refl

brace_end_fits : Fits all_leads (7 ∷ []) (codes "}\n") (sign (codes "}") ∷ [])
brace_end_fits = fits_join fits.brace_end fits.fits_line refl

abbrev pub rest_text : Ty → List Local → List RawBlock → List ℕ
rest_text t ls bs = type_text t ++ (codes " {\n" ++ ((lets_text ls ++ blocks_text (blocks_of bs)) ++ codes "}\n"))

-- a reading of what is printed behind the arrow, and what it means
record Behind (U : Family) (Q : Part Lexeme Placed) (S : Part Lexeme Items) (t : Ty) (ds : List Declared) (bs : List RawBlock) : Type 0 where
  pub lexemes : List Lexeme
  pub value : Named × (Items × List RawBlock)
  pub result : value.0.ty ≡ t
  pub items : map local_of value.1.0 ≡ lets_of t ds
  pub blocks : blocks_of value.1.1 ≡ blocks_of bs
  pub plain : AllPlain value.1.1
  pub reads : (k : List Lexeme) → Rest U Q S (lexemes ++ k) value k
  pub fits : Fits all_leads (1 ∷ 7 ∷ []) (rest_text t (lets_of t ds) bs) lexemes

behind_reads : (U : Family) (Q : Part Lexeme Placed) (S : Part Lexeme Items) (xs ys zs : List Lexeme) (n : Named) (dss : List Items) (bs : List RawBlock) → ((k : List Lexeme) → U AnyType (xs ++ k) n k) → ((k : List Lexeme) → Each (ItemPart (U AnyType) S) (ys ++ k) dss k)
    → ((k : List Lexeme) → Each (BlockPart U Q) (zs ++ k) bs k) → (k : List Lexeme) → Rest U Q S ((xs ++ (sign (codes "{") ∷ ((ys ++ zs) ++ sign (codes "}") ∷ []))) ++ k) (n, (to_items dss, bs)) k
behind_reads U Q S xs ys zs n dss bs f g h k =
    let e = sign (codes "}") ∷ k in
    subst (λ w. Rest U Q S w (n, (to_items dss, bs)) k) (sym (append_assoc xs (sign (codes "{") ∷ ((ys ++ zs) ++ sign (codes "}") ∷ [])) k)) (
      sign (codes "{") ∷ (((ys ++ zs) ++ sign (codes "}") ∷ []) ++ k),
      f (sign (codes "{") ∷ (((ys ++ zs) ++ sign (codes "}") ∷ []) ++ k)),
      (
        (sign (codes "{"), (to_items dss, bs)),
        refl,
        (
          ((ys ++ zs) ++ sign (codes "}") ∷ []) ++ k,
          (brace_inside, refl),
          (
            ((to_items dss, bs), sign (codes "}")),
            refl,
            (
              sign (codes "}") ∷ k,
              subst (λ w. Inside U Q S w (to_items dss, bs) (sign (codes "}") ∷ k)) (sym (append_assoc (ys ++ zs) (sign (codes "}") ∷ []) k ∙ append_assoc ys zs (sign (codes "}") ∷ k)))
                  (zs ++ sign (codes "}") ∷ k, (dss, refl, g (zs ++ sign (codes "}") ∷ k)), h (sign (codes "}") ∷ k)),
              (brace_end_inside, refl),
            ),
          ),
        ),
      ),
    )

behind_told : {T U : Family} {P Q : Part Lexeme Placed} → Retold T U → TypesTold (T AnyType) (U AnyType) → PlacesTold P Q → (S V : Part Lexeme Items) → Declares (U AnyType) (Made to_items (Each (ItemPart (T AnyType) S)))
    → (ts mid last rest : List Lexeme) (n : Named) (ds : List Declared) (bs : List RawBlock) → T AnyType ts n mid → ArePrintable ts → (inner : List Lexeme) → Made to_items (Each (ItemPart (T AnyType) S)) inner ds last → ArePrintable inner → Each (BlockPart T P) last bs rest
    → Behind U Q V n.ty ds bs
unfolding to_items
behind_told {T} {U} {P} {Q} q t p S V i ts mid last rest n ds bs h r inner j s b =
    let x = t.tell ts mid n h r in
    let all = i.told inner last ds j s in
    let y = lets_told (U AnyType) V (lets_of n.ty ds) (result_told (U AnyType) n.ty ds x all, all_by_number (U AnyType) ds all) in
    let o = i.left.leaves inner last ds j s in
    let z = blocks_tell q t p last rest bs b o in
    let fit = fits_join x.fits (fits_join brace_fits (fits_join (fits_join y.fits z.fits refl) brace_end_fits refl) refl) refl in record {
      lexemes = x.lexemes ++ (sign (codes "{") ∷ ((y.lexemes ++ z.lexemes) ++ sign (codes "}") ∷ []));
      value = (x.value, (to_items y.value, z.value));
      result = x.same;
      items = y.same;
      blocks = blocks_same q t p last rest bs b o;
      plain = all_plain U Q (z.lexemes ++ []) [] z.value (z.reads []);
      reads = behind_reads U Q V x.lexemes y.lexemes z.lexemes x.value y.value z.value x.reads y.reads (λ k. each_plain U Q (z.lexemes ++ k) k z.value (z.reads k));
      fits = fit;
    }

-- Functions.

fn_inside : inside class_of (175 ∷ []) (word (codes "fn")) ≡ true
unfolding inside class_of
fn_inside = refl

fn_fits : Fits all_leads (1 ∷ []) (codes "fn ") (word (codes "fn") ∷ [])
fn_fits = fits.spaced (fits.written_word (codes "fn") refl (omega arith) refl) refl

arrow_inside : inside class_of (20 ∷ []) (sign (codes "->")) ≡ true
unfolding inside class_of
arrow_inside = refl

arrow_fits : Fits all_leads (7 ∷ []) (codes " -> ") (sign (codes "->") ∷ [])
arrow_fits = fits_join fits.fits_space (fits.spaced fits.arrow refl) refl

abbrev pub parts_text : RawFunction → List ℕ
parts_text f = codes "fn " ++ (path_written Alone f.name.text ++ ((codes "(" ++ (parameters_text (map local_of f.parameters) ++ codes ")")) ++ (codes " -> " ++ rest_text f.result.ty (lets_of f.result.ty f.items) f.blocks)))

-- a reading of the text of a function
pub record Reprinted (U : Family) (Q : Part Lexeme Placed) (V : Part Lexeme Items) (f : RawFunction) : Type 0 where
  pub lexemes : List Lexeme
  pub value : RawFunction
  pub name : value.name ≡ f.name
  pub parameters : map local_of value.parameters ≡ map local_of f.parameters
  pub result : value.result.ty ≡ f.result.ty
  pub items : map local_of value.items ≡ result_local f.result.ty f.items ∷ by_number (others_of f.items)
  pub blocks : blocks_of value.blocks ≡ blocks_of f.blocks
  pub plain : AllPlain value.blocks
  pub reads : (k : List Lexeme) → FunctionPart U Q V (lexemes ++ k) value k
  pub fits : Fits all_leads (1 ∷ []) (parts_text f) lexemes

function_reads : (U : Family) (Q : Part Lexeme Placed) (V : Part Lexeme Items) (xs ys zs : List Lexeme) (n : Named) (ps : List Declared) (v : Named × (Items × List RawBlock)) → ((k : List Lexeme) → FreePath any_word U (xs ++ k) n k) → ((k : List Lexeme) → Parameters (U AnyType) (ys ++ k) ps k)
    → ((k : List Lexeme) → Rest U Q V (zs ++ k) v k) → (k : List Lexeme) → FunctionPart U Q V ((word (codes "fn") ∷ (xs ++ (ys ++ (sign (codes "->") ∷ zs)))) ++ k) (to_function (n, (ps, v))) k
function_reads U Q V xs ys zs n ps v f g h k = (
  (n, (ps, v)),
  refl,
  (
    (word (codes "fn"), (n, (ps, v))),
    refl,
    (
      (xs ++ (ys ++ (sign (codes "->") ∷ zs))) ++ k,
      (fn_inside, refl),
      subst (λ w. Then (FreePath any_word U) (Then (Parameters (U AnyType)) (Past class_of (20 ∷ []) (Rest U Q V))) w (n, (ps, v)) k) (sym (append_assoc xs (ys ++ (sign (codes "->") ∷ zs)) k ∙ ap (λ w. xs ++ w) (append_assoc ys (sign (codes "->") ∷ zs) k)))
          (ys ++ (sign (codes "->") ∷ (zs ++ k)), f (ys ++ (sign (codes "->") ∷ (zs ++ k))), (sign (codes "->") ∷ (zs ++ k), g (sign (codes "->") ∷ (zs ++ k)), ((sign (codes "->"), v), refl, (zs ++ k, (arrow_inside, refl), h k)))),
    ),
  ),
)

reprinted : {U : Family} {Q : Part Lexeme Placed} {V : Part Lexeme Items} (n m : Named) (ps : List Declared) (ds : Items) (bs : List RawBlock) (xs : List Lexeme) → ((k : List Lexeme) → FreePath any_word U (xs ++ k) n k) → Fits word_follow (1 ∷ 7 ∷ []) (path_written Alone n.text) xs
    → Telling all_leads (7 ∷ []) (Parameters (U AnyType)) (map local_of) (codes "(" ++ (parameters_text (map local_of ps) ++ codes ")")) (map local_of ps) → Behind U Q V m.ty ds bs → Reprinted U Q V (to_function (n, (ps, (m, (ds, bs)))))
unfolding to_function
reprinted {U} {Q} {V} n m ps ds bs xs f x y b = let fit = fits_join fn_fits (fits_join x (fits_join y.fits (fits_join arrow_fits b.fits refl) refl) refl) refl in record {
  lexemes = word (codes "fn") ∷ (xs ++ (y.lexemes ++ (sign (codes "->") ∷ b.lexemes)));
  value = to_function (n, (y.value, b.value));
  name = refl;
  parameters = y.same;
  result = b.result;
  items = b.items;
  blocks = b.blocks;
  plain = b.plain;
  reads = function_reads U Q V xs y.lexemes b.lexemes n y.value b.value f y.reads b.reads;
  fits = fit;
}

pub function_told : {T U : Family} {P Q : Part Lexeme Placed} → Retold T U → TypesTold (T AnyType) (U AnyType) → PlacesTold P Q → (S V : Part Lexeme Items) → Declares (U AnyType) (Made to_items (Each (ItemPart (T AnyType) S)))
    → (ts rest : List Lexeme) (f : RawFunction) → FunctionPart T P S ts f rest → ArePrintable ts → Reprinted U Q V f
unfolding inside
function_told {T} {U} {P} {Q} q t p S V i ts rest f h r =
    let w = h.2 in let a = w.0.1 in let d = w.2.2 in let o = d.2 in let x = o.2 in let c = x.2.2 in let y = c.2 in let z = y.2.2 in
    let p1 = past_token (175 ∷ []) w.0.0 w.2.0 refl w.2.1.0 (subst ArePrintable w.2.1.1 r) in
    let n = (free_path Alone any_word refl refl q).keep w.2.0 d.0 a.0 d.1 p1 in
    let k = (parameters_told t).tell d.0 o.0 a.1.0 o.1 n.left in
    let p3 = (parameters_told t).left d.0 o.0 a.1.0 o.1 n.left in
    let p4 = past_token (20 ∷ []) x.0.0 x.2.0 refl x.2.1.0 (subst ArePrintable x.2.1.1 p3) in
    let p5 = t.left x.2.0 c.0 x.0.1.0 c.1 p4 in
    let p6 = past_token (5 ∷ []) y.0.0 y.2.0 refl y.2.1.0 (subst ArePrintable y.2.1.1 p5) in
    let b = behind_told q t p S V i x.2.0 c.0 z.2.1.0 z.2.0 x.0.1.0 z.0.0.0 z.0.0.1 c.1 p4 y.2.0 z.2.1.1 p6 z.2.1.2 in
    subst (Reprinted U Q V) (ap (λ u. to_function (a.0, (a.1.0, (x.0.1.0, u)))) (z.1 ∙ y.1) ∙ ap (λ u. to_function (a.0, (a.1.0, u))) x.1 ∙ ap to_function w.1 ∙ h.1)
    (reprinted a.0 x.0.1.0 a.1.0 z.0.0.0 z.0.0.1 n.lexemes n.reads n.spelt.fits k b)
