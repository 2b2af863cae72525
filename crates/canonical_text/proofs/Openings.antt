-- The openings of a list of steps, from the last one on.
use Rattle.std.proofs.Common.{◌≡◌, ℕ, zero, suc, ◌<◌, List, [], ◌∷◌, ◌++◌, length, take, get_or, append_assoc, append-nil, ◌∙◌, ap, sym, arith}
use Rattle.mir_ir.specs.declared.places.Projection.{Projection}
use Rattle.canonical_text.specs.Places.{opening, openings}

-- one more of the steps from the front
pub openings_more : (xs : List Projection) (k : ℕ) (d : Projection) → k < length xs → openings (take (suc k) xs) ≡ opening (get_or xs k d) ++ openings (take k xs)
openings_more [] k d lt = absurd (omega arith)
openings_more (y ∷ ys) zero d lt = sym (append-nil (opening y))
openings_more (y ∷ ys) (suc k) d lt =
    ap (λ l. l ++ opening y) (openings_more ys k d (omega arith)) ∙ append_assoc (opening (get_or ys k d)) (openings (take k ys)) (opening y)

-- a turn of the loop that writes them
pub openings_turn : (xs : List Projection) (k n : ℕ) (x : Projection) (before after_ all : List ℕ) → n ≡ suc k → k < length xs → x ≡ get_or xs k x
    → before ++ openings (take n xs) ≡ all → after_ ≡ before ++ opening x → after_ ++ openings (take k xs) ≡ all
openings_turn xs k n x before after_ all more lt is e w =
    ap (λ l. l ++ openings (take k xs)) w ∙ append_assoc before (opening x) (openings (take k xs))
    ∙ ap (λ y. before ++ (opening y ++ openings (take k xs))) is ∙ ap (λ l. before ++ l) (sym (openings_more xs k x lt))
    ∙ ap (λ m. before ++ openings (take m xs)) (sym more) ∙ e
