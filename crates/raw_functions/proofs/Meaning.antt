-- Lists that grow by what one more part gives.
use Rattle.std.proofs.Common.{◌≡◌, ℕ, Bool, true, false, ◌==◌, if◌then◌else◌, List, [], ◌∷◌, ◌++◌, Option, Some, None, refl, sym, ◌∙◌, ap}
use Rattle.vk_core.specs.declared.text_place.TextPlace.{TextPlace}
use Rattle.mir_ir.specs.declared.tree.Statement.{Statement}
use Rattle.mir_ir.specs.declared.tree.Block.{Block}
use Rattle.mir_ir.specs.declared.tree.Local.{Local}
use Rattle.mir_ir.specs.declared.tree.Function.{Function}
use Rattle.mir_lex.specs.Places.{text_place}
use Rattle.mir_grammar.specs.declared.trees.Declared.{Declared}
use Rattle.mir_grammar.specs.declared.trees.RawBlock.{RawBlock}
use Rattle.mir_grammar.specs.declared.trees.RawFunction.{RawFunction}
use Rattle.mir_grammar.specs.Blocks.{Kept}
use Rattle.raw_functions.specs.Meant.{kept_before, kept_of, block_of, blocks_among, blocks_of, local_of, locals_of, others_of, function_at, function_of, functions_of}
use Rattle.raw_functions.specs.Steps.{is_number, HasNumbers, kept_block, other_of}

grown : {A : Type 0} (xs new add front whole : List A) → xs ≡ front → new ≡ xs ++ add → front ++ add ≡ whole → new ≡ whole
grown xs new add front whole e f g = f ∙ ap (λ l. l ++ add) e ∙ g

-- a first item that stands there or not, before what grows
front_where : {A : Type 0} (b : Bool) (x : A) (xs ys zs : List A) → xs ≡ ys ++ zs → (if b then xs else x ∷ xs) ≡ (if b then ys else x ∷ ys) ++ zs
front_where true x xs ys zs h = h
front_where false x xs ys zs h = ap (λ l. x ∷ l) h

locals_end : (ds : List Declared) (d : Declared) → locals_of (ds ++ d ∷ []) ≡ locals_of ds ++ local_of d ∷ []
locals_end [] d = refl
locals_end (e ∷ ds) d = ap (λ ls. local_of e ∷ ls) (locals_end ds d)

pub locals_more : (ds : List Declared) (d : Declared) (locals new : List Local) (l : Local) → locals ≡ locals_of ds → l ≡ local_of d → new ≡ locals ++ l ∷ [] → new ≡ locals_of (ds ++ d ∷ [])
locals_more ds d locals new l e f g = grown locals new (l ∷ []) (locals_of ds) (locals_of (ds ++ d ∷ [])) e g (ap (λ x. locals_of ds ++ x ∷ []) f ∙ sym (locals_end ds d))

others_end : (ds : List Declared) (d : Declared) → others_of (ds ++ d ∷ []) ≡ others_of ds ++ other_of (local_of d)
others_end [] d = refl
others_end (e ∷ ds) d = front_where (e.id.0 == 0) (local_of e) (others_of (ds ++ d ∷ [])) (others_of ds) (other_of (local_of d)) (others_end ds d)

pub others_more : (ds : List Declared) (d : Declared) (locals new : List Local) (l : Local) → locals ≡ others_of ds → l ≡ local_of d → new ≡ locals ++ other_of l → new ≡ others_of (ds ++ d ∷ [])
others_more ds d locals new l e f g = grown locals new (other_of l) (others_of ds) (others_of (ds ++ d ∷ [])) e g (ap (λ x. others_of ds ++ other_of x) f ∙ sym (others_end ds d))

before_on : (s : Option Statement) (xs ys : List Statement) → kept_before s (xs ++ ys) ≡ kept_before s xs ++ ys
before_on None xs ys = refl
before_on (Some s) xs ys = refl

kept_end : (ss : List Kept) (s : Kept) → kept_of (ss ++ s ∷ []) ≡ kept_of ss ++ kept_before s.value []
kept_end [] s = refl
kept_end (t ∷ ss) s = ap (kept_before t.value) (kept_end ss s) ∙ before_on t.value (kept_of ss) (kept_before s.value [])

pub kept_more : (ss : List Kept) (s : Kept) (kept new : List Statement) → kept ≡ kept_of ss → new ≡ kept ++ kept_before s.value [] → new ≡ kept_of (ss ++ s ∷ [])
kept_more ss s kept new e f = grown kept new (kept_before s.value []) (kept_of ss) (kept_of (ss ++ s ∷ [])) e f (sym (kept_end ss s))

blocks_end : (is_edge : ℕ → Bool) (bs : List RawBlock) (b : RawBlock) → blocks_among is_edge (bs ++ b ∷ []) ≡ blocks_among is_edge bs ++ kept_block is_edge b
blocks_end is_edge [] b = refl
blocks_end is_edge (c ∷ bs) b = front_where c.is_cleanup (block_of is_edge c) (blocks_among is_edge (bs ++ b ∷ [])) (blocks_among is_edge bs) (kept_block is_edge b) (blocks_end is_edge bs b)

pub blocks_more : (is_edge : ℕ → Bool) (bs : List RawBlock) (b : RawBlock) (made new : List Block) → made ≡ blocks_among is_edge bs → new ≡ made ++ kept_block is_edge b → new ≡ blocks_among is_edge (bs ++ b ∷ [])
blocks_more is_edge bs b made new e f = grown made new (kept_block is_edge b) (blocks_among is_edge bs) (blocks_among is_edge (bs ++ b ∷ [])) e f (sym (blocks_end is_edge bs b))

-- the numbers of the cleanup blocks say which labels are edges
pub blocks_made : (numbers : List ℕ) (blocks written : List RawBlock) (made : List Block) → HasNumbers numbers blocks → made ≡ blocks_among (is_number numbers) written → written ≡ blocks → made ≡ blocks_of blocks
unfolding blocks_of
blocks_made numbers blocks written made h e f = e ∙ ap (λ bs. blocks_among (is_number numbers) bs) f ∙ ap (λ (test : ℕ → Bool). blocks_among test blocks) (λ i n. h.each n i)

functions_end : (text : List ℕ) (fs : List RawFunction) (f : RawFunction) → functions_of text (fs ++ f ∷ []) ≡ functions_of text fs ++ function_of text f ∷ []
functions_end text [] f = refl
functions_end text (g ∷ fs) f = ap (λ made. function_of text g ∷ made) (functions_end text fs f)

pub functions_more : (text : List ℕ) (fs : List RawFunction) (f : RawFunction) (place : TextPlace) (made new : List Function) (one : Function) → made ≡ functions_of text fs → place ≡ text_place text f.name.start
    → one ≡ function_at place f → new ≡ made ++ one ∷ [] → new ≡ functions_of text (fs ++ f ∷ [])
functions_more text fs f place made new one e p q g = grown made new (one ∷ []) (functions_of text fs) (functions_of text (fs ++ f ∷ [])) e g
    (ap (λ x. functions_of text fs ++ x ∷ []) (q ∙ ap (λ at. function_at at f) p) ∙ sym (functions_end text fs f))
