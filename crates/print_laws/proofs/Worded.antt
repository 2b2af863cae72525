-- The words of the locals and blocks of a text, and their numbers.
use Rattle.std.proofs.Common.{◌≡◌, inl, inr, ℕ, ◌≤◌, ◌==◌, Bool, true, false, if◌then◌else◌, zero, suc, List, [], ◌∷◌, ◌++◌, drop, refl, sym, ◌∙◌, ap, subst}
use Rattle.std.specs.Bool.{⊤}
use Rattle.mir_lex.specs.Bytes.{value_from}
use Rattle.mir_lex.specs.Views.{capped}
use Rattle.grammar_words.specs.Grammar.{Part, Made, Each, Never}
use Rattle.grammar_words.specs.Classes.{has, inside, Past, Ended}
use Rattle.mir_grammar.specs.declared.named.Named.{Named}
use Rattle.mir_grammar.specs.declared.trees.Placed.{Placed}
use Rattle.mir_grammar.specs.declared.trees.Declared.{Declared}
use Rattle.mir_grammar.specs.declared.trees.RawBlock.{RawBlock}
use Rattle.mir_grammar.specs.declared.trees.RawFunction.{RawFunction}
use Rattle.mir_grammar.specs.Lexemes.{Lexeme, class_of, local_number, label_number}
use Rattle.mir_grammar.specs.Types.{Family, AnyType}
use Rattle.mir_grammar.specs.Places.{locals}
use Rattle.mir_grammar.specs.Functions.{to_declared, to_block, to_items, to_function, concat, inner_items, Items, DeclaredPart, Let, ItemPart, Scope, ScopeLevel, Parameters, BlockPart, FunctionPart}
use Rattle.canonical_text.specs.Places.{local_text, label_text}
use Rattle.print_laws.proofs.Canonical.{local_canonical, label_canonical}
use Rattle.print_laws.proofs.ItemTold.{parameter_some}

abbrev pub number_in : List ℕ → ℕ
number_in w = capped (value_from 10 0 (drop 1 w))

abbrev pub label_in : List ℕ → ℕ
label_in w = capped (value_from 10 0 (drop 2 w))

pub record IsWorded (d : Declared) : Type 0 where
  pub number : d.id.0 ≡ number_in d.word
  pub canonical : d.id.0 ≤ 4095 → d.word ≡ local_text d.id.0

pub record IsLabelled (b : RawBlock) : Type 0 where
  pub number : b.id.0 ≡ label_in b.word
  pub canonical : b.id.0 ≤ 4095 → b.word ≡ label_text b.id.0

abbrev pub AllWorded : Items → Type 0
AllWorded [] = ⊤
AllWorded (d ∷ ds) = IsWorded d × AllWorded ds

abbrev pub AllLabelled : List RawBlock → Type 0
AllLabelled [] = ⊤
AllLabelled (b ∷ bs) = IsLabelled b × AllLabelled bs

-- none is _0
abbrev pub AllSome : Items → Type 0
AllSome [] = ⊤
AllSome (d ∷ ds) = (1 ≤ d.id.0) × AllSome ds

worded_by : (l : Lexeme) (n : Named) → has locals (class_of l) ≡ true → IsWorded (to_declared (l, n))
unfolding to_declared local_number
worded_by l n h = record { number = refl; canonical = local_canonical l h }

labelled_by : (l : Lexeme) (v : _) → has (32 ∷ []) (class_of l) ≡ true → IsLabelled (to_block (l, v))
unfolding to_block label_number
labelled_by l v h = record { number = refl; canonical = label_canonical l h }

local_worded : (T : Part Lexeme Named) (ts rest : List Lexeme) (d : Declared) → DeclaredPart locals T ts d rest → IsWorded d
unfolding inside
local_worded T ts rest d h = subst (λ x. IsWorded x) h.1 (worded_by h.0.0 h.0.1 h.2.1.0)

among_locals : (n : ℕ) → has (31 ∷ []) n ≡ true → has locals n ≡ true
among_locals n h = among_by (30 == n) h
  where
    among_by : (c : Bool) → has (31 ∷ []) n ≡ true → (if c then true else has (31 ∷ []) n) ≡ true
    among_by true h = refl
    among_by false h = h

parameter_worded : (T : Part Lexeme Named) (ts rest : List Lexeme) (d : Declared) → DeclaredPart (31 ∷ []) T ts d rest → IsWorded d × (1 ≤ d.id.0)
unfolding inside to_declared
parameter_worded T ts rest d h = (subst (λ x. IsWorded x) h.1 (worded_by h.0.0 h.0.1 (among_locals (class_of h.0.0) h.2.1.0)), subst (λ (x : Declared). 1 ≤ x.id.0) h.1 (parameter_some h.0.0 h.2.1.0))

block_labelled : (T : Family) (P : Part Lexeme Placed) (ts rest : List Lexeme) (b : RawBlock) → BlockPart T P ts b rest → IsLabelled b
unfolding inside
block_labelled T P ts rest b h = subst (λ x. IsLabelled x) h.1 (labelled_by h.0.0 h.0.1 h.2.1.0)

pub blocks_labelled : (T : Family) (P : Part Lexeme Placed) (ts rest : List Lexeme) (bs : List RawBlock) → Each (BlockPart T P) ts bs rest → AllLabelled bs
blocks_labelled T P ts rest [] h = tt
blocks_labelled T P ts rest (b ∷ bs) h = (block_labelled T P ts h.0 b h.1, blocks_labelled T P h.0 rest bs h.2)

-- Items.

pub record Words (R : Part Lexeme Items) : Type 0 where
  pub worded : (ts rest : List Lexeme) (ds : Items) → R ts ds rest → AllWorded ds

all_append : (a b : Items) → AllWorded a → AllWorded b → AllWorded (a ++ b)
all_append [] b h i = i
all_append (d ∷ a) b h i = (h.0, all_append a b h.1 i)

let_words : (T : Part Lexeme Named) → Words (Let T)
let_words T = record {
  worded = λ ts rest ds h. let v = h.2 in let w = v.2.2 in let x = w.2.1 in
      subst AllWorded h.1 (subst (λ y. IsWorded y) (x.1 ∙ w.1 ∙ v.1) (local_worded T x.2.0 w.2.0 x.0.1 x.2.2), tt);
}

item_words : (T : Part Lexeme Named) (S : Part Lexeme Items) → Words S → Words (ItemPart T S)
item_words T S s = record { worded = λ ts rest ds h. elim h [ inl x ↦ (let_words T).worded ts rest ds x | inr x ↦ elim x [ inl y ↦ subst AllWorded y.1 tt | inr y ↦ s.worded ts rest ds y ] ] }

each_words : (R : Part Lexeme Items) → Words R → (ts rest : List Lexeme) (dss : List Items) → Each R ts dss rest → AllWorded (concat dss)
each_words R s ts rest [] h = tt
each_words R s ts rest (ds ∷ dss) h = all_append ds (concat dss) (s.worded ts h.0 ds h.1) (each_words R s h.0 rest dss h.2)

items_words : (R : Part Lexeme Items) → Words R → Words (Made to_items (Each R))
unfolding to_items
items_words R s = record { worded = λ ts rest ds h. subst AllWorded h.1 (each_words R s ts rest h.0 h.2) }

past_words : (R : Part Lexeme Items) (set : List ℕ) → Words R → Words (Past class_of set R)
past_words R set s = record { worded = λ ts rest ds h. subst AllWorded h.1 (s.worded h.2.0 rest h.0.1 h.2.2) }

ended_words : (R : Part Lexeme Items) (set : List ℕ) → Words R → Words (Ended class_of R set)
ended_words R set s = record { worded = λ ts rest ds h. subst AllWorded h.1 (s.worded ts h.2.0 h.0.0 h.2.1) }

scope_words : (T : Part Lexeme Named) (S : Part Lexeme Items) → Words S → Words (Scope T S)
scope_words T S s = let E = Made to_items (Each (ItemPart T S)) in let i = past_words (Ended class_of E (6 ∷ [])) (5 ∷ []) (ended_words E (6 ∷ []) (items_words (ItemPart T S) (item_words T S s))) in record {
  worded = λ ts rest ds h. let v = h.2 in let w = v.2.2 in subst AllWorded (ap inner_items v.1 ∙ h.1) (i.worded w.2.0 rest v.0.1.1.1 w.2.2);
}

pub scopes_words : (T : Part Lexeme Named) (d : ℕ) → Words (ScopeLevel Never T d)
scopes_words T zero = record { worded = λ ts rest ds h. absurd h }
scopes_words T (suc d) = scope_words T (ScopeLevel Never T d) (scopes_words T d)

-- Parameters.

abbrev AreParameters : Items → Type 0
AreParameters ds = AllWorded ds × AllSome ds

each_parameter : (T : Part Lexeme Named) (ts rest : List Lexeme) (ds : Items) → Each (Past class_of (9 ∷ []) (DeclaredPart (31 ∷ []) T)) ts ds rest → AreParameters ds
each_parameter T ts rest [] h = (tt, tt)
each_parameter T ts rest (d ∷ ds) h =
    let p = subst (λ (x : Declared). IsWorded x × (1 ≤ x.id.0)) h.1.1 (parameter_worded T h.1.2.0 h.0 h.1.0.1 h.1.2.2) in
    let q = each_parameter T h.0 rest ds h.2 in ((p.0, q.0), (p.1, q.1))

parameters_worded : (T : Part Lexeme Named) (ts rest : List Lexeme) (ds : Items) → Parameters T ts ds rest → AreParameters ds
parameters_worded T ts rest ds h =
    let e = h.2.2 in let l = e.2.1 in
    subst AreParameters (e.1 ∙ h.1) (elim l [
      | inl x ↦ let p = parameter_worded T h.2.0 x.2.0 x.0.0 x.2.1 in let q = each_parameter T x.2.0 e.2.0 x.0.1 x.2.2 in subst AreParameters x.1 ((p.0, q.0), (p.1, q.1))
      | inr x ↦ subst AreParameters (sym x.0) (tt, tt)
    ])

-- Functions.

pub record AreWorded (f : RawFunction) : Type 0 where
  pub parameters : AllWorded f.parameters
  pub some : AllSome f.parameters
  pub items : AllWorded f.items
  pub blocks : AllLabelled f.blocks

pub function_worded : (T : Family) (P : Part Lexeme Placed) (S : Part Lexeme Items) → Words S → (ts rest : List Lexeme) (f : RawFunction) → FunctionPart T P S ts f rest → AreWorded f
unfolding to_function
function_worded T P S s ts rest f h =
    let w = h.2 in let a = w.0.1 in let d = w.2.2 in let o = d.2 in let x = o.2 in let c = x.2.2 in let y = c.2 in let z = y.2.2 in
    let q = parameters_worded (T AnyType) d.0 o.0 a.1.0 o.1 in
    let i = (items_words (ItemPart (T AnyType) S) (item_words (T AnyType) S s)).worded y.2.0 z.2.1.0 z.0.0.0 z.2.1.1 in
    let b = blocks_labelled T P z.2.1.0 z.2.0 z.0.0.1 z.2.1.2 in
    subst AreWorded (ap (λ u. to_function (a.0, (a.1.0, (x.0.1.0, u)))) (z.1 ∙ y.1) ∙ ap (λ u. to_function (a.0, (a.1.0, u))) x.1 ∙ ap to_function w.1 ∙ h.1)
    (record { parameters = q.0; some = q.1; items = i; blocks = b })
