-- The lines of a log that keeps literals and hints in two regions.
use Rattle.std.proofs.Common.{◌≡◌, ℕ, zero, suc, List, [], ◌∷◌, ◌++◌, length, refl, ap, arith}
use Rattle.region_pool.specs.Blocks.{block_at}
use Rattle.region_pool.specs.Log.{Line, line_at}
use Rattle.region_pool.specs.Lines.{lines_of}

pub length-lines_of : (literals hints : List (List ℕ)) → length literals ≡ length hints → length (lines_of literals hints) ≡ length literals
length-lines_of [] hints same = refl
length-lines_of (clause ∷ literals) [] same = absurd (omega arith)
length-lines_of (clause ∷ literals) (hint ∷ hints) same = ap suc (length-lines_of literals hints (omega arith))

pub lines_of-append : (literals hints : List (List ℕ)) (clause reasons : List ℕ) → length literals ≡ length hints → lines_of (literals ++ clause ∷ []) (hints ++ reasons ∷ []) ≡ lines_of literals hints ++ (record { literals = clause; hints = reasons }) ∷ []
lines_of-append [] [] clause reasons same = refl
lines_of-append [] (hint ∷ hints) clause reasons same = absurd (omega arith)
lines_of-append (first ∷ literals) [] clause reasons same = absurd (omega arith)
lines_of-append (first ∷ literals) (hint ∷ hints) clause reasons same =
    ap (λ (rest : List Line). record { literals = first; hints = hint } ∷ rest) (lines_of-append literals hints clause reasons (omega arith))

-- what a line has is what the regions have at its place
pub literals_at : (literals hints : List (List ℕ)) (at : ℕ) → length literals ≡ length hints → (line_at (lines_of literals hints) at).literals ≡ block_at literals at
literals_at [] hints at same = refl
literals_at (clause ∷ literals) [] at same = absurd (omega arith)
literals_at (clause ∷ literals) (hint ∷ hints) zero same = refl
literals_at (clause ∷ literals) (hint ∷ hints) (suc at) same = literals_at literals hints at (omega arith)

pub hints_at : (literals hints : List (List ℕ)) (at : ℕ) → length literals ≡ length hints → (line_at (lines_of literals hints) at).hints ≡ block_at hints at
hints_at [] [] at same = refl
hints_at [] (hint ∷ hints) at same = absurd (omega arith)
hints_at (clause ∷ literals) [] at same = absurd (omega arith)
hints_at (clause ∷ literals) (hint ∷ hints) zero same = refl
hints_at (clause ∷ literals) (hint ∷ hints) (suc at) same = hints_at literals hints at (omega arith)
