-- The text of functions reads again as these functions.
use Rattle.std.proofs.Common.{◌≡◌, ℕ, suc, ◌==◌, Bool, ◌&&◌, true, false, nat_le, nat_lt, if◌then◌else◌, List, [], ◌∷◌, ◌++◌, length, take, drop, codes, map, Some, None, refl, sym, ◌∙◌, ap, subst, arith, append_assoc, append-nil, rules}
use Rattle.std.specs.Bool.{⊤}
use Rattle.std.proofs.lemmas.Bool.{or_parts, and_from, and_parts, leb-false, le-leb}
use Rattle.std.proofs.lemmas.List.{take_at, drop_at}
use Rattle.grammar_words.specs.Grammar.{Part, Made, Each, Never}
use Rattle.vk_core.specs.declared.text_place.TextPlace.{TextPlace}
use Rattle.mir_ir.specs.declared.types.Ty.{Ty}
use Rattle.mir_ir.specs.declared.tree.Block.{Block}
use Rattle.mir_ir.specs.declared.tree.Local.{Local}
use Rattle.mir_grammar.specs.declared.named.Named.{Named}
use Rattle.mir_grammar.specs.declared.trees.Placed.{Placed}
use Rattle.mir_grammar.specs.declared.trees.Declared.{Declared}
use Rattle.mir_grammar.specs.declared.trees.RawFunction.{RawFunction}
use Rattle.mir_grammar.specs.Lexemes.{Lexeme}
use Rattle.mir_grammar.specs.Types.{Family, AnyType, any_word, FreePath}
use Rattle.mir_grammar.specs.Places.{to_local_id}
use Rattle.mir_grammar.specs.Functions.{to_items, Items, ItemPart, to_function, FunctionPart}
use Rattle.canonical_text.specs.declared.positions.Position.TheVariants.{Alone}
use Rattle.canonical_text.specs.Names.{path_written}
use Rattle.canonical_text.specs.Types.{type_text}
use Rattle.canonical_text.specs.Functions.{parameters_text, lets_text, blocks_text, head_text, function_text}
use Rattle.print_laws.specs.Printed.{ArePrintable}
use Rattle.raw_functions.specs.Meant.{blocks_of, local_of, locals_of, result_type, others_of, put_by_number, by_number, all_locals, result_local, function_at}
use Rattle.print_laws.proofs.Fits as fits
use Rattle.print_laws.proofs.Fits.{Fits, fits_join, fits_none, fits_text, fits_wide}
use Rattle.print_laws.proofs.TypeTexts.{Retold, free_path}
use Rattle.print_laws.proofs.PlaceTold.{PlacesTold, TypesTold}
use Rattle.print_laws.proofs.ItemTold.{Declares, parameters_told, all_items_told}
use Rattle.print_laws.proofs.Told.{Leaves}
use Rattle.print_laws.proofs.WholeTold.{parts_text, Reprinted, function_told}
use Rattle.print_laws.specs.Laws.{EachTextIsPrinted}
use Rattle.print_laws.proofs.Writing.{fits_writes}
use Rattle.print_laws.proofs.TypeTexts.{levels}
use Rattle.print_laws.proofs.TupleTold.{printed}
use Rattle.print_laws.proofs.PlaceTold.{places_told}
use Rattle.print_laws.proofs.BlockTold.{block_leaves}
use Rattle.print_laws.proofs.Told.{leaves_made, leaves_past, leaves_ended, leaves_then, leaves_each, told_leaves}
use Rattle.mir_grammar.specs.Types.{NoType, TypeLevel}
use Rattle.mir_grammar.specs.Functions.{ScopeLevel, Text}
use Rattle.mir_ir.specs.declared.tree.Function.{Function}
use Rattle.canonical_text.specs.Functions.{functions_text, more_functions}
use Rattle.print_laws.specs.Laws.{functions_at}
use Rattle.std.proofs.lemmas.Bool.{eq-eqb}
use Rattle.raw_functions.specs.declared.limits.Limit.TheVariants as limit
use Rattle.raw_functions.specs.Doubles.{function_spots, second_of, second_in, second_inside, duplicate_of}
use Rattle.raw_functions.specs.Limits.{function_passed, functions_passed, limit_of}
use Rattle.print_laws.proofs.Distinct.{Distinct, names, second_distinct, distinct_second}
use Rattle.print_laws.proofs.Worded.{Words, scopes_words, AreWorded, function_worded}
use Rattle.print_laws.proofs.Single.{earlier_parts, neither, single_function}

locals_map : (ds : List Declared) → locals_of ds ≡ map local_of ds
locals_map [] = refl
locals_map (d ∷ ds) = ap (λ x. local_of d ∷ x) (locals_map ds)

locals_length : (ds : List Declared) → length ds ≡ length (locals_of ds)
locals_length [] = refl
locals_length (d ∷ ds) = let i = locals_length ds in omega arith

ten : (a n o p c w r b l k e : List ℕ) → a ++ (n ++ ((o ++ (p ++ c)) ++ (w ++ (r ++ (b ++ ((l ++ k) ++ e)))))) ≡ ((((((((a ++ n) ++ o) ++ p) ++ (c ++ w)) ++ r) ++ b) ++ l) ++ k) ++ e
ten a n o p c w r b l k e = search (rules, append_assoc)

whole_text : (here : TextPlace) (f : RawFunction) → parts_text f ≡ function_text (function_at here f)
unfolding function_text head_text all_locals
whole_text here f =
    let ls = locals_of f.parameters in let more = result_local f.result.ty f.items ∷ by_number (others_of f.items) in
    let t : take (length f.parameters) (locals_of f.parameters ++ result_local f.result.ty f.items ∷ by_number (others_of f.items)) ≡ map local_of f.parameters = take_at ls more (length f.parameters) (sym (locals_length f.parameters)) ∙ locals_map f.parameters in
    let u : drop (length f.parameters) (locals_of f.parameters ++ result_local f.result.ty f.items ∷ by_number (others_of f.items)) ≡ result_local f.result.ty f.items ∷ by_number (others_of f.items) = drop_at ls more (length f.parameters) (sym (locals_length f.parameters)) in
    ten (codes "fn ") (path_written Alone f.name.text) (codes "(") (parameters_text (map local_of f.parameters)) (codes ")") (codes " -> ") (type_text f.result.ty) (codes " {\n") (lets_text more) (blocks_text (blocks_of f.blocks)) (codes "}\n")
    ∙ sym (ap (λ x. ((((((((codes "fn " ++ path_written Alone f.name.text) ++ codes "(") ++ parameters_text x) ++ codes ") -> ") ++ type_text f.result.ty) ++ codes " {\n") ++ lets_text (drop (length f.parameters) (locals_of f.parameters ++ more))) ++ blocks_text (blocks_of f.blocks)) ++ codes "}\n") t
    ∙ ap (λ x. ((((((((codes "fn " ++ path_written Alone f.name.text) ++ codes "(") ++ parameters_text (map local_of f.parameters)) ++ codes ") -> ") ++ type_text f.result.ty) ++ codes " {\n") ++ lets_text x) ++ blocks_text (blocks_of f.blocks)) ++ codes "}\n") u)

-- Locals in their order again.

abbrev starts_at : ℕ → List Local → Bool
starts_at n [] = true
starts_at n (l ∷ ls) = nat_le n l.id.0

abbrev rises : List Local → Bool
rises [] = true
rises (l ∷ ls) = starts_at l.id.0 ls && rises ls

not_before : (m n : ℕ) → nat_le m n ≡ false → nat_le n m ≡ true
not_before m n h = le-leb n m (let e = leb-false m n h in omega (arith, e))

put_starts : (n : ℕ) (l : Local) (ms : List Local) → nat_le n l.id.0 ≡ true → starts_at n ms ≡ true → starts_at n (put_by_number l ms) ≡ true
put_starts n l [] h k = h
put_starts n l (m ∷ ms) h k = put_by (nat_le l.id.0 m.id.0)
  where
    put_by : (c : Bool) → starts_at n (if c then l ∷ m ∷ ms else m ∷ put_by_number l ms) ≡ true
    put_by true = h
    put_by false = k

put_rises : (l : Local) (ms : List Local) → rises ms ≡ true → rises (put_by_number l ms) ≡ true
put_rises l [] h = refl
put_rises l (m ∷ ms) h = let p = and_parts (starts_at m.id.0 ms) (rises ms) h in put_by (nat_le l.id.0 m.id.0) refl p.0 (put_rises l ms p.1)
  where
    put_by : (c : Bool) → nat_le l.id.0 m.id.0 ≡ c → starts_at m.id.0 ms ≡ true → rises (put_by_number l ms) ≡ true → rises (if c then l ∷ m ∷ ms else m ∷ put_by_number l ms) ≡ true
    put_by true e s k = and_from (nat_le l.id.0 m.id.0) (rises (m ∷ ms)) e h
    put_by false e s k = and_from (starts_at m.id.0 (put_by_number l ms)) (rises (put_by_number l ms)) (put_starts m.id.0 l ms (not_before l.id.0 m.id.0 e) s) k

sort_rises : (ls : List Local) → rises (by_number ls) ≡ true
sort_rises [] = refl
sort_rises (l ∷ ls) = put_rises l (by_number ls) (sort_rises ls)

rising_sorted : (ls : List Local) → rises ls ≡ true → by_number ls ≡ ls
rising_sorted [] h = refl
rising_sorted (l ∷ []) h = refl
rising_sorted (l ∷ m ∷ more) h = let p = and_parts (nat_le l.id.0 m.id.0) (rises (m ∷ more)) h in ap (put_by_number l) (rising_sorted (m ∷ more) p.1) ∙ rw (p.0) refl

abbrev others : List Local → List Local
others [] = []
others (l ∷ ls) = if l.id.0 == 0 then others ls else l ∷ others ls

others_map : (ds : List Declared) → others_of ds ≡ others (map local_of ds)
others_map [] = refl
others_map (d ∷ ds) = ap (λ x. if d.id.0 == 0 then x else local_of d ∷ x) (others_map ds)

abbrev Nonzero : List Local → Type 0
Nonzero [] = ⊤
Nonzero (l ∷ ls) = ((l.id.0 == 0) ≡ false) × Nonzero ls

nonzero_put : (l : Local) (ls : List Local) → (l.id.0 == 0) ≡ false → Nonzero ls → Nonzero (put_by_number l ls)
nonzero_put l [] h i = (h, tt)
nonzero_put l (m ∷ ls) h i = put_by (nat_le l.id.0 m.id.0) (nonzero_put l ls h i.1)
  where
    put_by : (c : Bool) → Nonzero (put_by_number l ls) → Nonzero (if c then l ∷ m ∷ ls else m ∷ put_by_number l ls)
    put_by true k = (h, i)
    put_by false k = (i.0, k)

nonzero_sorted : (ls : List Local) → Nonzero ls → Nonzero (by_number ls)
nonzero_sorted [] h = tt
nonzero_sorted (l ∷ ls) h = nonzero_put l (by_number ls) h.0 (nonzero_sorted ls h.1)

nonzero_others : (ds : List Declared) → Nonzero (others_of ds)
nonzero_others [] = tt
nonzero_others (d ∷ ds) = others_by (d.id.0 == 0) refl (nonzero_others ds)
  where
    others_by : (c : Bool) → (d.id.0 == 0) ≡ c → Nonzero (others_of ds) → Nonzero (if c then others_of ds else local_of d ∷ others_of ds)
    others_by true e k = k
    others_by false e k = (e, k)

all_others : (ls : List Local) → Nonzero ls → others ls ≡ ls
all_others [] h = refl
all_others (l ∷ ls) h = rw (h.0) (ap (λ x. l ∷ x) (all_others ls h.1))

same_numbers : (here : List Declared) (t : Ty) (ds : List Declared) → map local_of here ≡ record { id = to_local_id 0; ty = t } ∷ by_number (others_of ds) → by_number (others_of here) ≡ by_number (others_of ds)
same_numbers here t ds e =
    let ls = by_number (others_of ds) in
    ap by_number (others_map here ∙ ap others e ∙ all_others ls (nonzero_sorted (others_of ds) (nonzero_others ds))) ∙ rising_sorted ls (sort_rises (others_of ds))

head_same : (l m : Local) (ls ms : List Local) → l ∷ ls ≡ m ∷ ms → l ≡ m
head_same l m ls ms e = cc

same_result : (here : List Declared) (r t : Ty) (ls : List Local) → map local_of here ≡ record { id = to_local_id 0; ty = t } ∷ ls → result_type r here ≡ t
same_result [] r t ls e = absurd (cc e)
same_result (d ∷ ds) r t ls e =
    let h = head_same (local_of d) (record { id = to_local_id 0; ty = t }) (map local_of ds) ls e in
    let z : (d.id.0 == 0) ≡ true = eq-eqb d.id.0 0 (ap (λ (l : Local). l.id.0) h) in rw z (ap (λ (l : Local). l.ty) h)

-- Functions.

abbrev made : TextPlace → List ℕ → ℕ → Ty → List Local → List Block → Function
made here name parameters result ls blocks = record { name = name; place = here; parameters = parameters; result = result; locals = ls; blocks = blocks }

same_length : (a b : List Declared) → map local_of a ≡ map local_of b → length a ≡ length b
same_length a b e = locals_length a ∙ ap length (locals_map a ∙ e ∙ sym (locals_map b)) ∙ sym (locals_length b)

same_function : {U : Family} {Q : Part Lexeme Placed} {V : Part Lexeme Items} (here : TextPlace) (f : RawFunction) (g : Reprinted U Q V f) → function_at here g.value ≡ function_at here f
unfolding all_locals
same_function here f g =
    let v = g.value in
    let first : result_local v.result.ty v.items ≡ result_local f.result.ty f.items = ap (λ x. record { id = to_local_id 0; ty = x }) (same_result v.items v.result.ty (result_type f.result.ty f.items) (by_number (others_of f.items)) g.items) in
    let ls : locals_of v.parameters ++ result_local v.result.ty v.items ∷ by_number (others_of v.items) ≡ locals_of f.parameters ++ result_local f.result.ty f.items ∷ by_number (others_of f.items) =
    ap (λ x. x ++ result_local v.result.ty v.items ∷ by_number (others_of v.items)) (locals_map v.parameters ∙ g.parameters ∙ sym (locals_map f.parameters))
    ∙ ap (λ x. locals_of f.parameters ++ x ∷ by_number (others_of v.items)) first ∙ ap (λ x. locals_of f.parameters ++ result_local f.result.ty f.items ∷ x) (same_numbers v.items (result_type f.result.ty f.items) f.items g.items) in
    ap (λ x. made here x (length v.parameters) v.result.ty (locals_of v.parameters ++ result_local v.result.ty v.items ∷ by_number (others_of v.items)) (blocks_of v.blocks)) (ap (λ (n : Named). n.text) g.name)
    ∙ ap (λ x. made here f.name.text x v.result.ty (locals_of v.parameters ++ result_local v.result.ty v.items ∷ by_number (others_of v.items)) (blocks_of v.blocks)) (same_length v.parameters f.parameters g.parameters)
    ∙ ap (λ x. made here f.name.text (length f.parameters) x (locals_of v.parameters ++ result_local v.result.ty v.items ∷ by_number (others_of v.items)) (blocks_of v.blocks)) g.result
    ∙ ap (λ x. made here f.name.text (length f.parameters) f.result.ty x (blocks_of v.blocks)) ls
    ∙ ap (λ x. made here f.name.text (length f.parameters) f.result.ty (locals_of f.parameters ++ result_local f.result.ty f.items ∷ by_number (others_of f.items)) x) g.blocks

function_leaves : {T U : Family} {P Q : Part Lexeme Placed} → Retold T U → TypesTold (T AnyType) (U AnyType) → PlacesTold P Q → (S : Part Lexeme Items) → Declares (U AnyType) (Made to_items (Each (ItemPart (T AnyType) S))) → Leaves (FunctionPart T P S)
function_leaves {T} {U} {P} {Q} q t p S i = leaves_made to_function (leaves_past (175 ∷ []) refl (leaves_then name_leaves (leaves_then (told_leaves (parameters_told t)) (leaves_past (20 ∷ []) refl (leaves_then (told_leaves t)
    (leaves_past (5 ∷ []) refl (leaves_ended (6 ∷ []) refl (leaves_then i.left (leaves_each (block_leaves q t p))))))))))
  where
    name_leaves : Leaves (FreePath any_word T)
    name_leaves = record { leaves = λ ts rest n h r. ((free_path Alone any_word refl refl q).keep ts rest n h r).left }

-- Texts.

record Texts (U : Family) (Q : Part Lexeme Placed) (V : Part Lexeme Items) (here : TextPlace) (text : List ℕ) (fs : List RawFunction) : Type 0 where
  pub lexemes : List Lexeme
  pub value : List RawFunction
  pub same : functions_at here value ≡ functions_at here fs
  pub called : names (function_spots value) ≡ names (function_spots fs)
  pub single : second_inside fs ≡ None → (functions_passed fs).locals ≡ false → (functions_passed fs).blocks ≡ false → second_inside value ≡ None
  pub reads : (k : List Lexeme) → Each (FunctionPart U Q V) (lexemes ++ k) value k
  pub fits : Fits (0 ∷ []) (0 ∷ 1 ∷ 7 ∷ []) text lexemes

one_more : (U : Family) (Q : Part Lexeme Placed) (V : Part Lexeme Items) (here : TextPlace) (text : List ℕ) (f : RawFunction) (fs : List RawFunction) (x : Reprinted U Q V f) → AreWorded f → Words V → (y : Texts U Q V here text fs)
    → Texts U Q V here (function_text (function_at here f) ++ text) (f ∷ fs)
unfolding functions_passed
one_more U Q V here text f fs x wf vw y = record {
  lexemes = x.lexemes ++ y.lexemes;
  value = x.value ∷ y.value;
  same = ap (λ z. z ∷ functions_at here y.value) (same_function here f x) ∙ ap (λ z. function_at here f ∷ z) y.same;
  called = ap (λ z. z ∷ names (function_spots y.value)) (ap (λ (n : Named). n.text) x.name) ∙ ap (λ z. f.name.text ∷ z) y.called;
  single = λ h l m.
      let s = earlier_parts (second_in f) (second_inside fs) h in
      let lp = or_parts (function_passed f).locals (functions_passed fs).locals l in
      let mp = or_parts (function_passed f).blocks (functions_passed fs).blocks m in
      neither (second_in x.value) (second_inside y.value) (single_function f x.value wf (function_worded U Q V vw (x.lexemes ++ []) [] x.value (x.reads [])) x.parameters x.items x.blocks x.plain lp.0 mp.0 s.0) (y.single s.1 lp.1 mp.1);
  reads = λ k. subst (λ w. Each (FunctionPart U Q V) w (x.value ∷ y.value) k) (sym (append_assoc x.lexemes y.lexemes k)) (y.lexemes ++ k, x.reads (y.lexemes ++ k), y.reads k);
  fits = fits_wide (fits_join (fits_text (whole_text here f) x.fits) y.fits refl) refl refl;
}

behind_line : (U : Family) (Q : Part Lexeme Placed) (V : Part Lexeme Items) (here : TextPlace) (text : List ℕ) (fs : List RawFunction) → Texts U Q V here text fs → Texts U Q V here (codes "\n" ++ text) fs
behind_line U Q V here text fs y = record { lexemes = y.lexemes; value = y.value; same = y.same; called = y.called; single = y.single; reads = y.reads; fits = fits_wide (fits_join fits.fits_line y.fits refl) refl refl }

more_told : {T U : Family} {P Q : Part Lexeme Placed} → Retold T U → TypesTold (T AnyType) (U AnyType) → PlacesTold P Q → (S V : Part Lexeme Items) → Declares (U AnyType) (Made to_items (Each (ItemPart (T AnyType) S)))
    → Words S → Words V → (here : TextPlace) (ts rest : List Lexeme) (fs : List RawFunction) → Each (FunctionPart T P S) ts fs rest → ArePrintable ts → Texts U Q V here (more_functions (functions_at here fs)) fs
more_told {T} {U} {P} {Q} q t p S V i sw vw here ts rest [] h r = record { lexemes = []; value = []; same = refl; called = refl; single = λ h l m. refl; reads = λ k. refl; fits = fits_wide (fits_none (0 ∷ [])) refl refl }
more_told {T} {U} {P} {Q} q t p S V i sw vw here ts rest (f ∷ fs) h r =
    let more = more_told q t p S V i sw vw here h.0 rest fs h.2 ((function_leaves q t p S i).leaves ts h.0 f h.1 r) in
    let x = behind_line U Q V here (function_text (function_at here f) ++ more_functions (functions_at here fs)) (f ∷ fs) (one_more U Q V here (more_functions (functions_at here fs)) f fs (function_told q t p S V i ts h.0 f h.1 r) (function_worded T P S sw ts h.0 f h.1) vw more) in
    record { lexemes = x.lexemes; value = x.value; same = x.same; called = x.called; single = x.single; reads = x.reads; fits = fits_text (sym (append_assoc (codes "\n") (function_text (function_at here f)) (more_functions (functions_at here fs)))) x.fits }

texts_told : {T U : Family} {P Q : Part Lexeme Placed} → Retold T U → TypesTold (T AnyType) (U AnyType) → PlacesTold P Q → (S V : Part Lexeme Items) → Declares (U AnyType) (Made to_items (Each (ItemPart (T AnyType) S)))
    → Words S → Words V → (here : TextPlace) (ts rest : List Lexeme) (fs : List RawFunction) → Each (FunctionPart T P S) ts fs rest → ArePrintable ts → Texts U Q V here (functions_text (functions_at here fs)) fs
texts_told {T} {U} {P} {Q} q t p S V i sw vw here ts rest [] h r = record { lexemes = []; value = []; same = refl; called = refl; single = λ h l m. refl; reads = λ k. refl; fits = fits_wide (fits_none (0 ∷ [])) refl refl }
texts_told {T} {U} {P} {Q} q t p S V i sw vw here ts rest (f ∷ fs) h r =
    one_more U Q V here (more_functions (functions_at here fs)) f fs (function_told q t p S V i ts h.0 f h.1 r) (function_worded T P S sw ts h.0 f h.1) vw (more_told q t p S V i sw vw here h.0 rest fs h.2 ((function_leaves q t p S i).leaves ts h.0 f h.1 r))

limit_by : (c a b n : Bool) → (if c then Some limit.Functions else (if a then Some limit.Blocks else (if b then Some limit.Locals else (if n then Some limit.NameBytes else None)))) ≡ None → (a ≡ false) × (b ≡ false)
limit_by true a b n h = absurd (cc h)
limit_by false true b n h = absurd (cc h)
limit_by false false true n h = absurd (cc h)
limit_by false false false n h = (refl, refl)

single_text : (fs gs : List RawFunction) → names (function_spots gs) ≡ names (function_spots fs) → (second_inside fs ≡ None → (functions_passed fs).locals ≡ false → (functions_passed fs).blocks ≡ false → second_inside gs ≡ None)
    → duplicate_of fs ≡ None → limit_of fs ≡ None → duplicate_of gs ≡ None
unfolding duplicate_of limit_of
single_text fs gs e f h l =
    let s = earlier_parts (second_of (function_spots fs)) (second_inside fs) h in
    let p = functions_passed fs in
    let k = limit_by (nat_lt 4096 (length fs)) p.blocks p.locals p.names l in
    neither (second_of (function_spots gs)) (second_inside gs) (distinct_second (function_spots gs) (subst (λ x. Distinct x) (sym e) (second_distinct (function_spots fs) s.0))) (f s.1 k.1 k.0)

pub each_text_is_printed : EachTextIsPrinted
each_text_is_printed d ts fs here h r =
    let q = levels (suc d) (suc d) (omega arith) in
    let t = (printed (suc d) (suc d) (omega arith)).any in
    let p = places_told t (suc d) (suc d) (omega arith) in
    let k = texts_told q t p (ScopeLevel Never (TypeLevel NoType (suc d) AnyType) (suc d)) (ScopeLevel Never (TypeLevel NoType (suc d) AnyType) (suc d)) (all_items_told t (suc d)) (scopes_words (TypeLevel NoType (suc d) AnyType) (suc d)) (scopes_words (TypeLevel NoType (suc d) AnyType) (suc d)) here ts [] fs h r in
    (k.lexemes, k.value, fits_writes (0 ∷ []) (0 ∷ 1 ∷ 7 ∷ []) (functions_text (functions_at here fs)) k.lexemes refl k.fits, subst (λ x. Text d x k.value []) (append-nil k.lexemes) (k.reads []), k.same, single_text fs k.value k.called k.single)
