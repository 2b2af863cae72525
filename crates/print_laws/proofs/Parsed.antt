-- What is printed means the same by its own tokens.
use Rattle.std.proofs.Common.{◌≡◌, ℕ, suc, ◌==◌, Bool, ◌&&◌, ◌||◌, if◌then◌else◌, List, [], ◌∷◌, ◌++◌, length, codes, map, Some, None, refl, sym, ◌∙◌, ap, subst}
use Rattle.vk_core.specs.declared.text_place.TextPlace.{TextPlace}
use Rattle.mir_ir.specs.declared.types.Ty.{Ty}
use Rattle.mir_ir.specs.declared.tree.Block.{Block}
use Rattle.mir_ir.specs.declared.tree.Local.{Local}
use Rattle.mir_ir.specs.declared.tree.Function.{Function}
use Rattle.mir_ir.specs.declared.tree.Terminator.TheVariants as terminator
use Rattle.mir_lex.specs.declared.token.Token.{Token}
use Rattle.mir_grammar.specs.declared.trees.Target.{Target}
use Rattle.mir_grammar.specs.declared.trees.Target.TheVariants.{ToBlock, ToLabel, ToNone}
use Rattle.mir_grammar.specs.declared.trees.Ending.{Ending}
use Rattle.mir_grammar.specs.declared.trees.Ending.TheVariants.{Settled, Calling}
use Rattle.mir_grammar.specs.declared.trees.Declared.{Declared}
use Rattle.mir_grammar.specs.declared.trees.RawBlock.{RawBlock}
use Rattle.mir_grammar.specs.declared.trees.RawFunction.{RawFunction}
use Rattle.mir_grammar.specs.Lexemes.{Lexeme}
use Rattle.mir_grammar.specs.Places.{to_local_id}
use Rattle.mir_grammar.specs.Functions.{Text}
use Rattle.mir_pieces.specs.Seen.{lexemes}
use Rattle.mir_lex.specs.Tokens.{Lexes}
use Rattle.canonical_text.specs.Functions.{head_text, function_text, more_functions, functions_text}
use Rattle.print_laws.specs.Printed.{AreWritten}
use Rattle.print_laws.specs.Laws.{EachTextReadsAgain, all_placed, EachMeaningReadsAgain}
use Rattle.raw_functions.specs.Meant.{is_cleanup, next_of, terminator_of, block_of, blocks_among, blocks_of, local_of, locals_of, result_type, others_of, by_number, all_locals, result_local, function_at, function_of, functions_of}
use Rattle.print_laws.specs.Laws.{functions_at}
use Rattle.print_laws.proofs.Copies.{SameLexemes, SameEach}
use Rattle.print_laws.proofs.TextCopies.{declared_unplaced, block_unplaced, function_unplaced, SameFunction, texts_copied}
use Rattle.print_laws.proofs.Texts.{each_text_is_printed}
use Rattle.raw_functions.specs.Doubles.{Spot, function_spots, label_spots, local_spots, second_of, second_in, second_inside, duplicate_of}
use Rattle.print_laws.proofs.Distinct.{Distinct, names, second_distinct, distinct_second}
use Rattle.print_laws.proofs.Single.{earlier_parts, neither}

next_same : (c d : ℕ → Bool) → ((n : ℕ) → c n ≡ d n) → (t : Target) → next_of c t ≡ next_of d t
next_same c d e (ToBlock b) = refl
next_same c d e (ToLabel b) = ap (λ x. if x then None else Some b) (e b.0)
next_same c d e ToNone = refl

terminator_same : (c d : ℕ → Bool) → ((n : ℕ) → c n ≡ d n) → (x : Ending) → terminator_of c x ≡ terminator_of d x
terminator_same c d e (Settled t) = refl
terminator_same c d e (Calling place callee operands target) = ap (terminator.Call place callee operands) (next_same c d e target)

blocks_same : (c d : ℕ → Bool) → ((n : ℕ) → c n ≡ d n) → (bs : List RawBlock) → blocks_among c (map block_unplaced bs) ≡ blocks_among d bs
blocks_same c d e [] = refl
blocks_same c d e (b ∷ bs) = ap (λ x. if b.is_cleanup then x else block_of c b ∷ x) (blocks_same c d e bs)
    ∙ ap (λ x. if b.is_cleanup then blocks_among d bs else record { id = b.id; statements = (block_of d b).statements; terminator = x } ∷ blocks_among d bs) (terminator_same c d e b.ending.value)

cleanup_same : (bs : List RawBlock) (n : ℕ) → is_cleanup (map block_unplaced bs) n ≡ is_cleanup bs n
cleanup_same [] n = refl
cleanup_same (b ∷ bs) n = ap (λ x. (b.is_cleanup && n == b.id.0) || x) (cleanup_same bs n)

locals_same : (ds : List Declared) → locals_of (map declared_unplaced ds) ≡ locals_of ds
locals_same [] = refl
locals_same (d ∷ ds) = ap (λ x. local_of d ∷ x) (locals_same ds)

count_same : (ds : List Declared) → length (map declared_unplaced ds) ≡ length ds
count_same [] = refl
count_same (d ∷ ds) = ap suc (count_same ds)

result_same : (t : Ty) (ds : List Declared) → result_type t (map declared_unplaced ds) ≡ result_type t ds
result_same t [] = refl
result_same t (d ∷ ds) = ap (λ x. if d.id.0 == 0 then d.ty.ty else x) (result_same t ds)

others_same : (ds : List Declared) → others_of (map declared_unplaced ds) ≡ others_of ds
others_same [] = refl
others_same (d ∷ ds) = ap (λ x. if d.id.0 == 0 then x else local_of d ∷ x) (others_same ds)

numbers_same : (ds : List Declared) → by_number (others_of (map declared_unplaced ds)) ≡ by_number (others_of ds)
numbers_same ds = ap by_number (others_same ds)

abbrev made : TextPlace → List ℕ → ℕ → Ty → List Local → List Block → Function
made here name parameters result ls blocks = record { name = name; place = here; parameters = parameters; result = result; locals = ls; blocks = blocks }

natural : (here : TextPlace) (f : RawFunction) → function_at here (function_unplaced f) ≡ function_at here f
unfolding all_locals blocks_of
natural here f =
    let g = function_unplaced f in
    ap (λ x. made here f.name.text x f.result.ty (locals_of g.parameters ++ result_local g.result.ty g.items ∷ by_number (others_of g.items)) (blocks_of g.blocks)) (count_same f.parameters)
    ∙ ap (λ x. made here f.name.text (length f.parameters) f.result.ty (x ++ result_local g.result.ty g.items ∷ by_number (others_of g.items)) (blocks_of g.blocks)) (locals_same f.parameters)
    ∙ ap (λ x. made here f.name.text (length f.parameters) f.result.ty (locals_of f.parameters ++ record { id = to_local_id 0; ty = x } ∷ by_number (others_of g.items)) (blocks_of g.blocks)) (result_same f.result.ty f.items)
    ∙ ap (λ x. made here f.name.text (length f.parameters) f.result.ty (locals_of f.parameters ++ result_local f.result.ty f.items ∷ x) (blocks_of g.blocks)) (numbers_same f.items)
    ∙ ap (made here f.name.text (length f.parameters) f.result.ty (locals_of f.parameters ++ result_local f.result.ty f.items ∷ by_number (others_of f.items))) (blocks_same (is_cleanup g.blocks) (is_cleanup f.blocks) (cleanup_same f.blocks) f.blocks)

same_functions : (here : TextPlace) (fs gs : List RawFunction) → SameEach SameFunction fs gs → functions_at here gs ≡ functions_at here fs
same_functions here [] [] h = refl
same_functions here [] (g ∷ gs) h = absurd h
same_functions here (f ∷ fs) [] h = absurd h
same_functions here (f ∷ fs) (g ∷ gs) h = ap (λ x. x ∷ functions_at here gs) (sym (natural here g) ∙ ap (function_at here) (sym h.0) ∙ natural here f) ∙ ap (λ x. function_at here f ∷ x) (same_functions here fs gs h.1)

-- Names.

second_same : (a b : List Spot) → names b ≡ names a → second_of a ≡ None → second_of b ≡ None
second_same a b e h = distinct_second b (subst (λ x. Distinct x) (sym e) (second_distinct a h))

labels_unplaced : (bs : List RawBlock) → names (label_spots (map block_unplaced bs)) ≡ names (label_spots bs)
labels_unplaced [] = refl
labels_unplaced (b ∷ bs) = ap (λ x. b.word ∷ x) (labels_unplaced bs)

words_unplaced : (ps ds : List Declared) → names (local_spots (map declared_unplaced ps) ++ local_spots (map declared_unplaced ds)) ≡ names (local_spots ps ++ local_spots ds)
words_unplaced [] [] = refl
words_unplaced [] (d ∷ ds) = ap (λ x. d.word ∷ x) (words_unplaced [] ds)
words_unplaced (p ∷ ps) ds = ap (λ x. p.word ∷ x) (words_unplaced ps ds)

inside_copied : (f g : RawFunction) → SameFunction f g → second_in f ≡ None → second_in g ≡ None
unfolding second_in
inside_copied f g e h =
    let s = earlier_parts (second_of (label_spots f.blocks)) (second_of (local_spots f.parameters ++ local_spots f.items)) h in
    let a : names (label_spots g.blocks) ≡ names (label_spots f.blocks) = sym (labels_unplaced g.blocks) ∙ ap (λ (x : RawFunction). names (label_spots x.blocks)) (sym e) ∙ labels_unplaced f.blocks in
    let b : names (local_spots g.parameters ++ local_spots g.items) ≡ names (local_spots f.parameters ++ local_spots f.items) =
    sym (words_unplaced g.parameters g.items) ∙ ap (λ (x : RawFunction). names (local_spots x.parameters ++ local_spots x.items)) (sym e) ∙ words_unplaced f.parameters f.items in
    neither (second_of (label_spots g.blocks)) (second_of (local_spots g.parameters ++ local_spots g.items)) (second_same (label_spots f.blocks) (label_spots g.blocks) a s.0)
    (second_same (local_spots f.parameters ++ local_spots f.items) (local_spots g.parameters ++ local_spots g.items) b s.1)

all_copied : (fs gs : List RawFunction) → SameEach SameFunction fs gs → second_inside fs ≡ None → second_inside gs ≡ None
all_copied [] [] h e = refl
all_copied [] (g ∷ gs) h e = absurd h
all_copied (f ∷ fs) [] h e = absurd h
all_copied (f ∷ fs) (g ∷ gs) h e = let s = earlier_parts (second_in f) (second_inside fs) e in neither (second_in g) (second_inside gs) (inside_copied f g h.0 s.0) (all_copied fs gs h.1 s.1)

names_copied : (fs gs : List RawFunction) → SameEach SameFunction fs gs → names (function_spots gs) ≡ names (function_spots fs)
names_copied [] [] h = refl
names_copied [] (g ∷ gs) h = absurd h
names_copied (f ∷ fs) [] h = absurd h
names_copied (f ∷ fs) (g ∷ gs) h = ap (λ x. x ∷ names (function_spots gs)) (ap (λ (x : RawFunction). x.name.text) (sym h.0)) ∙ ap (λ x. f.name.text ∷ x) (names_copied fs gs h.1)

duplicate_copied : (fs gs : List RawFunction) → SameEach SameFunction fs gs → duplicate_of fs ≡ None → duplicate_of gs ≡ None
unfolding duplicate_of
duplicate_copied fs gs h e =
    let s = earlier_parts (second_of (function_spots fs)) (second_inside fs) e in
    neither (second_of (function_spots gs)) (second_inside gs) (second_same (function_spots fs) (function_spots gs) (names_copied fs gs h) s.0) (all_copied fs gs h s.1)

written_same : (text : List ℕ) (ts : List Token) (ls : List Lexeme) → AreWritten text ts ls → SameLexemes ls (lexemes text ts)
written_same text [] [] h = tt
written_same text [] (l ∷ ls) h = absurd h
written_same text (t ∷ ts) [] h = absurd h
written_same text (t ∷ ts) (l ∷ ls) h = ((sym h.0, sym h.1), written_same text ts ls h.2)

none_left : (us : List Lexeme) → SameLexemes [] us → us ≡ []
none_left [] h = refl
none_left (u ∷ us) h = absurd h

pub each_text_reads_again : EachTextReadsAgain
each_text_reads_again d ts fs here h r =
    let p = each_text_is_printed d ts fs here h r in
    let text = functions_text (functions_at here fs) in
    let w = p.2 in
    let k = (texts_copied d).copy p.0 (lexemes (functions_text (functions_at here fs)) w.0) [] p.1 p.3 (written_same text w.0 p.0 w.2) in
    (w.0, k.value, w.1, subst (λ x. Text d (lexemes (functions_text (functions_at here fs)) w.0) k.value x) (none_left k.behind k.same) k.reads, same_functions here p.1 k.value k.equal ∙ p.4, λ x y. duplicate_copied p.1 k.value k.equal (p.5 x y))

-- where functions stand is not printed
text_placed : (text : List ℕ) (here : TextPlace) (f : RawFunction) → function_text (function_of text f) ≡ function_text (function_at here f)
unfolding function_text head_text
text_placed text here f = refl

more_placed : (text : List ℕ) (here : TextPlace) (fs : List RawFunction) → more_functions (functions_of text fs) ≡ more_functions (functions_at here fs)
more_placed text here [] = refl
more_placed text here (f ∷ fs) = ap (λ x. (codes "\n" ++ x) ++ more_functions (functions_of text fs)) (text_placed text here f) ∙ ap (λ x. (codes "\n" ++ function_text (function_at here f)) ++ x) (more_placed text here fs)

texts_placed : (text : List ℕ) (here : TextPlace) (fs : List RawFunction) → functions_text (functions_of text fs) ≡ functions_text (functions_at here fs)
texts_placed text here [] = refl
texts_placed text here (f ∷ fs) = ap (λ x. x ++ more_functions (functions_of text fs)) (text_placed text here f) ∙ ap (λ x. function_text (function_at here f) ++ x) (more_placed text here fs)

placed_at : (text : List ℕ) (here : TextPlace) (fs : List RawFunction) → all_placed here (functions_of text fs) ≡ functions_at here fs
placed_at text here [] = refl
placed_at text here (f ∷ fs) = ap (λ x. function_at here f ∷ x) (placed_at text here fs)

pub each_meaning_reads_again : EachMeaningReadsAgain
each_meaning_reads_again d text ts fs here h r =
    let p = each_text_reads_again d ts fs here h r in
    let w = functions_text (functions_of text fs) in
    let e : functions_text (functions_at here fs) ≡ functions_text (functions_of text fs) = sym (texts_placed text here fs) in
    (p.0, p.1, subst (λ x. Lexes x p.0) e p.2, subst (λ x. Text d (lexemes x p.0) p.1 []) e p.3, placed_at w here p.1 ∙ p.4 ∙ sym (placed_at text here fs), p.5)
