-- The type of a box is the last type of its path.
use Rattle.std.proofs.Common.{◌≡◌, ℕ, Bool, true, false, ◌&&◌, if◌then◌else◌, List, [], ◌∷◌, ◌++◌, codes, Option, Some, None, is_some, refl, sym, ◌∙◌, subst, ◌==◌}
use Rattle.std.proofs.lemmas.Bool.{and_parts, eqb-true}
use Rattle.std.specs.Str.{bytes_eq}
use Rattle.mir_ir.specs.declared.types.Ty.{Ty}
use Rattle.mir_grammar.specs.declared.named.Argument.{Argument}
use Rattle.mir_grammar.specs.declared.named.Argument.TheVariants.{TypeArgument, OtherArgument}
use Rattle.mir_grammar.specs.declared.named.Head.{Head}
use Rattle.mir_grammar.specs.declared.named.Head.TheVariants.{HeadWord, HeadText}
use Rattle.mir_grammar.specs.declared.named.Step.{Step}
use Rattle.mir_grammar.specs.declared.named.Step.TheVariants.{StepWord, StepArguments, StepImpl}
use Rattle.mir_grammar.specs.Names.{only_type, only_arguments, boxed_behind, boxed_type, words_then, first_some, argument_of}
use Rattle.mir_pieces.specs.Boxes.{argument_type, last_argument, step_type, last_type, inner_at, inner_type}

pub last_argument_is : (front : List Argument) (a : Argument) → last_argument (front ++ a ∷ []) ≡ argument_type a
last_argument_is [] a = refl
last_argument_is (b ∷ []) a = refl
last_argument_is (b ∷ c ∷ front) a = last_argument_is (c ∷ front) a

pub last_type_is : (front : List Step) (s : Step) → last_type (front ++ s ∷ []) ≡ step_type s
last_type_is [] s = refl
last_type_is (t ∷ []) s = refl
last_type_is (t ∷ u ∷ front) s = last_type_is (u ∷ front) s

only_type_last : (arguments : List Argument) → is_some (only_type arguments) ≡ true → last_argument arguments ≡ only_type arguments
only_type_last [] h = cc
only_type_last (TypeArgument n ∷ []) h = refl
only_type_last (TypeArgument n ∷ b ∷ more) h = cc
only_type_last (OtherArgument text ∷ more) h = cc

only_last : (steps : List Step) → is_some (only_arguments steps) ≡ true → last_type steps ≡ only_arguments steps
only_last [] h = cc
only_last (StepWord w ∷ more) h = cc
only_last (StepArguments arguments ∷ []) h = only_type_last arguments h
only_last (StepArguments arguments ∷ s ∷ more) h = cc
only_last (StepImpl text ∷ more) h = cc

behind_last : (a b : List ℕ) (more : List Step) → is_some (only_arguments more) ≡ true → last_type (StepWord a ∷ StepWord b ∷ more) ≡ only_arguments more
behind_last a b [] h = cc
behind_last a b (s ∷ more) h = only_last (s ∷ more) h

behind_by : (c : Bool) (a b : List ℕ) (more : List Step) → is_some (if c then only_arguments more else None) ≡ true → last_type (StepWord a ∷ StepWord b ∷ more) ≡ (if c then only_arguments more else None)
behind_by true a b more h = behind_last a b more h
behind_by false a b more h = cc

boxed_behind_last : (steps : List Step) → is_some (boxed_behind steps) ≡ true → last_type steps ≡ boxed_behind steps
boxed_behind_last [] h = cc
boxed_behind_last (StepWord a ∷ []) h = cc
boxed_behind_last (StepWord a ∷ StepWord b ∷ more) h = behind_by (bytes_eq (codes "boxed") a && bytes_eq (codes "Box") b) a b more h
boxed_behind_last (StepWord a ∷ StepArguments arguments ∷ more) h = cc
boxed_behind_last (StepWord a ∷ StepImpl text ∷ more) h = cc
boxed_behind_last (StepArguments arguments ∷ more) h = cc
boxed_behind_last (StepImpl text ∷ more) h = cc

word_last : (c d : Bool) (steps : List Step) → is_some (if c then only_arguments steps else (if d then boxed_behind steps else None)) ≡ true → last_type steps ≡ (if c then only_arguments steps else (if d then boxed_behind steps else None))
word_last true d steps h = only_last steps h
word_last false true steps h = boxed_behind_last steps h
word_last false false steps h = cc

pub boxed_last : (head : Head) (steps : List Step) → is_some (boxed_type head steps) ≡ true → last_type steps ≡ boxed_type head steps
boxed_last (HeadWord w start) steps h = word_last (bytes_eq (codes "Box") w) (bytes_eq (codes "std") w) steps h
boxed_last (HeadText text long start) steps h = cc

none_at : (o : Option Ty) → is_some o ≡ false → None ≡ o
none_at None h = refl
none_at (Some t) h = cc

pub not_boxed : (head : Head) (steps : List Step) → is_some (boxed_type head steps) ≡ false → None ≡ boxed_type head steps
not_boxed head steps h = none_at (boxed_type head steps) h

-- The type argument of a built-in callee is the inner type of its path.

inner_more : (a b : Step) (front : List Step) (s : Step) → inner_at (b ∷ front) s ≡ inner_at (a ∷ b ∷ front) s
inner_more a b front (StepWord w) = refl
inner_more a b front (StepArguments arguments) = refl
inner_more a b front (StepImpl text) = refl

pub inner_is : (front : List Step) (s : Step) → inner_type (front ++ s ∷ []) ≡ inner_at front s
inner_is [] s = refl
inner_is (a ∷ []) s = refl
inner_is (a ∷ b ∷ []) s = inner_more a b [] s
inner_is (a ∷ b ∷ c ∷ front) s = inner_is (b ∷ c ∷ front) s ∙ inner_more a b (c ∷ front) s

alone_inner : (steps : List Step) → is_some (words_then [] [] steps) ≡ true → inner_type steps ≡ words_then [] [] steps
alone_inner [] h = cc
alone_inner (StepWord w ∷ more) h = cc
alone_inner (StepImpl text ∷ more) h = cc
alone_inner (StepArguments arguments ∷ []) h = only_type_last arguments h
alone_inner (StepArguments arguments ∷ StepWord w ∷ []) h = cc
alone_inner (StepArguments arguments ∷ StepWord w ∷ s ∷ more) h = cc
alone_inner (StepArguments arguments ∷ StepArguments others ∷ more) h = cc
alone_inner (StepArguments arguments ∷ StepImpl text ∷ more) h = cc

new_by : (c : Bool) (arguments : List Argument) → is_some (if c then only_type arguments else None) ≡ true → last_argument arguments ≡ (if c then only_type arguments else None)
new_by true arguments h = only_type_last arguments h
new_by false arguments h = cc

new_inner : (steps : List Step) → is_some (words_then [] (codes "new" ∷ []) steps) ≡ true → inner_type steps ≡ words_then [] (codes "new" ∷ []) steps
new_inner [] h = cc
new_inner (StepWord w ∷ more) h = cc
new_inner (StepImpl text ∷ more) h = cc
new_inner (StepArguments arguments ∷ []) h = cc
new_inner (StepArguments arguments ∷ StepWord w ∷ []) h = new_by (bytes_eq (codes "new") w) arguments h
new_inner (StepArguments arguments ∷ StepWord w ∷ s ∷ more) h = cc
new_inner (StepArguments arguments ∷ StepArguments others ∷ more) h = cc
new_inner (StepArguments arguments ∷ StepImpl text ∷ more) h = cc

inner_word : (w : List ℕ) (s : Step) (steps : List Step) → inner_type (StepWord w ∷ s ∷ steps) ≡ inner_type (s ∷ steps)
inner_word w (StepWord x) [] = refl
inner_word w (StepArguments arguments) [] = refl
inner_word w (StepImpl text) [] = refl
inner_word w s (t ∷ more) = refl

then_none : (words last : List (List ℕ)) → words_then words last [] ≡ None
then_none [] last = refl
then_none (a ∷ words) last = refl

then_by : (c : Bool) (w : List ℕ) (words last : List (List ℕ)) (steps : List Step) → (is_some (words_then words last steps) ≡ true → inner_type steps ≡ words_then words last steps)
    → is_some (if c then words_then words last steps else None) ≡ true → inner_type (StepWord w ∷ steps) ≡ (if c then words_then words last steps else None)
then_by false w words last steps i h = cc
then_by true w words last [] i h = cc (then_none words last)
then_by true w words last (s ∷ steps) i h = inner_word w s steps ∙ i h

then_inner : (words last : List (List ℕ)) → ((steps : List Step) → is_some (words_then [] last steps) ≡ true → inner_type steps ≡ words_then [] last steps)
    → (steps : List Step) → is_some (words_then words last steps) ≡ true → inner_type steps ≡ words_then words last steps
then_inner [] last base steps h = base steps h
then_inner (a ∷ words) last base [] h = cc
then_inner (a ∷ words) last base (StepWord w ∷ steps) h = then_by (bytes_eq a w) w words last steps (then_inner words last base steps) h
then_inner (a ∷ words) last base (StepArguments arguments ∷ steps) h = cc
then_inner (a ∷ words) last base (StepImpl text ∷ steps) h = cc

first_inner : (o p q : Option Ty) (x : Option Ty) → (is_some o ≡ true → x ≡ o) → (is_some p ≡ true → x ≡ p) → (is_some q ≡ true → x ≡ q) → is_some (first_some o (first_some p q)) ≡ true → x ≡ first_some o (first_some p q)
first_inner (Some t) p q x f g h i = f refl
first_inner None (Some t) q x f g h i = g refl
first_inner None None q x f g h i = h i

word_inner : (k b d : Bool) (steps : List Step) (any boxed null null_mut : Option Ty)
    → (is_some any ≡ true → inner_type steps ≡ any) → (is_some boxed ≡ true → inner_type steps ≡ boxed) → (is_some null ≡ true → inner_type steps ≡ null) → (new : Option Ty) → (is_some new ≡ true → inner_type steps ≡ new) → (is_some null_mut ≡ true → inner_type steps ≡ null_mut)
    → is_some (if k then any else (if b then new else (if d then first_some boxed (first_some null null_mut) else None))) ≡ true
    → inner_type steps ≡ (if k then any else (if b then new else (if d then first_some boxed (first_some null null_mut) else None)))
word_inner true b d steps any boxed null null_mut a e f new n g h = a h
word_inner false true d steps any boxed null null_mut a e f new n g h = n h
word_inner false false true steps any boxed null null_mut a e f new n g h = first_inner boxed null null_mut (inner_type steps) e f g h
word_inner false false false steps any boxed null null_mut a e f new n g h = cc

pub argument_inner : (head : Head) (steps : List Step) → is_some (argument_of head steps) ≡ true → inner_type steps ≡ argument_of head steps
argument_inner (HeadText text long start) steps h = cc
argument_inner (HeadWord w start) steps h =
    word_inner (bytes_eq (codes "kani") w) (bytes_eq (codes "Box") w) (bytes_eq (codes "std") w) steps _ _ _ _
    (then_inner (codes "any" ∷ []) [] alone_inner steps) (then_inner (codes "boxed" ∷ codes "Box" ∷ []) (codes "new" ∷ []) new_inner steps)
    (then_inner (codes "ptr" ∷ codes "null" ∷ []) [] alone_inner steps) _ (new_inner steps) (then_inner (codes "ptr" ∷ codes "null_mut" ∷ []) [] alone_inner steps) h

pub no_argument : (head : Head) (steps : List Step) → is_some (argument_of head steps) ≡ false → None ≡ argument_of head steps
no_argument head steps h = none_at (argument_of head steps) h

-- a box is no such callee
same_bytes : (a b : List ℕ) → bytes_eq a b ≡ true → a ≡ b
same_bytes [] [] h = refl
same_bytes [] (y ∷ ys) h = cc
same_bytes (x ∷ xs) [] h = cc
same_bytes (x ∷ xs) (y ∷ ys) h = let s = and_parts (x == y) (bytes_eq xs ys) h in let e = eqb-true x y s.0 in let f = same_bytes xs ys s.1 in cc

box_apart : (steps : List Step) → is_some (only_arguments steps) ≡ true → words_then [] (codes "new" ∷ []) steps ≡ None
box_apart [] h = cc
box_apart (StepWord w ∷ more) h = cc
box_apart (StepArguments arguments ∷ []) h = refl
box_apart (StepArguments arguments ∷ s ∷ more) h = cc
box_apart (StepImpl text ∷ more) h = cc

std_apart_at : (steps : List Step) → is_some (only_arguments steps) ≡ true
    → first_some (words_then (codes "boxed" ∷ codes "Box" ∷ []) (codes "new" ∷ []) (StepWord (codes "boxed") ∷ StepWord (codes "Box") ∷ steps))
    (first_some (words_then (codes "ptr" ∷ codes "null" ∷ []) [] (StepWord (codes "boxed") ∷ StepWord (codes "Box") ∷ steps)) (words_then (codes "ptr" ∷ codes "null_mut" ∷ []) [] (StepWord (codes "boxed") ∷ StepWord (codes "Box") ∷ steps))) ≡ None
std_apart_at steps h = rw (box_apart steps h) refl

behind_apart : (a b : List ℕ) (steps : List Step) (start : ℕ) → a ≡ codes "boxed" → b ≡ codes "Box" → is_some (only_arguments steps) ≡ true → None ≡ argument_of (HeadWord (codes "std") start) (StepWord a ∷ StepWord b ∷ steps)
behind_apart a b steps start e f h = subst (λ x. None ≡ argument_of (HeadWord (codes "std") start) (StepWord x ∷ StepWord b ∷ steps)) (sym e)
    (subst (λ x. None ≡ argument_of (HeadWord (codes "std") start) (StepWord (codes "boxed") ∷ StepWord x ∷ steps)) (sym f) (sym (std_apart_at steps h)))

behind_apart_by : (a b : List ℕ) (steps : List Step) (start : ℕ) (c : Bool) → (bytes_eq (codes "boxed") a && bytes_eq (codes "Box") b) ≡ c → is_some (if c then only_arguments steps else None) ≡ true
    → None ≡ argument_of (HeadWord (codes "std") start) (StepWord a ∷ StepWord b ∷ steps)
behind_apart_by a b steps start true e h = let p = and_parts (bytes_eq (codes "boxed") a) (bytes_eq (codes "Box") b) e in
    behind_apart a b steps start (sym (same_bytes (codes "boxed") a p.0)) (sym (same_bytes (codes "Box") b p.1)) h
behind_apart_by a b steps start false e h = cc

std_apart : (steps : List Step) (start : ℕ) → is_some (boxed_behind steps) ≡ true → None ≡ argument_of (HeadWord (codes "std") start) steps
std_apart [] start h = cc
std_apart (StepWord a ∷ []) start h = cc
std_apart (StepWord a ∷ StepWord b ∷ more) start h = behind_apart_by a b more start (bytes_eq (codes "boxed") a && bytes_eq (codes "Box") b) refl h
std_apart (StepWord a ∷ StepArguments arguments ∷ more) start h = cc
std_apart (StepWord a ∷ StepImpl text ∷ more) start h = cc
std_apart (StepArguments arguments ∷ more) start h = cc
std_apart (StepImpl text ∷ more) start h = cc

word_apart : (w : List ℕ) (steps : List Step) (start : ℕ) (c d : Bool) → bytes_eq (codes "Box") w ≡ c → bytes_eq (codes "std") w ≡ d
    → is_some (if c then only_arguments steps else (if d then boxed_behind steps else None)) ≡ true → None ≡ argument_of (HeadWord w start) steps
word_apart w steps start true d e f h = subst (λ x. None ≡ argument_of (HeadWord x start) steps) (same_bytes (codes "Box") w e) (sym (box_apart steps h))
word_apart w steps start false true e f h = subst (λ x. None ≡ argument_of (HeadWord x start) steps) (same_bytes (codes "std") w f) (std_apart steps start h)
word_apart w steps start false false e f h = cc

pub boxed_apart : (head : Head) (steps : List Step) → is_some (boxed_type head steps) ≡ true → None ≡ argument_of head steps
boxed_apart (HeadText text long start) steps h = cc
boxed_apart (HeadWord w start) steps h = word_apart w steps start (bytes_eq (codes "Box") w) (bytes_eq (codes "std") w) refl refl h

pub both_types : (head : Head) (steps : List Step) (a b : Option Ty) → a ≡ boxed_type head steps → b ≡ argument_of head steps → ◌≡◌ {A = Option Ty × Option Ty} (a, b) (boxed_type head steps, argument_of head steps)
both_types head steps a b e f = rw e (rw f refl)
