-- Laws of lines up to the last one.
use Rattle.std.proofs.Common.{ℕ, zero, suc, List, [], ◌∷◌, ◌++◌, refl, sym, subst}
use Rattle.grammar_words.specs.Grammar.{Part, Nothing, Chain, Made, Next, More, Last, Until}
use Rattle.grammar_words.specs.Reading.{Reader, put, second, onward, until}
use Rattle.grammar_words.proofs.Laws.{any, ends_any, Laws, nothing-laws}
use Rattle.grammar_words.proofs.Spelled.{Within, spelled}
use Rattle.grammar_words.proofs.Made.{made-laws}
use Rattle.grammar_words.proofs.Join.{chained-laws}
use Rattle.grammar_words.proofs.Limit.{spent-laws}

-- the lines as one value
abbrev pub Lines : {K S T : Type 0} → Part K (Next S T) → Part K (List S × T)
Lines R ts v rest = Until R ts v.0 v.1 rest

-- what stands behind a line
abbrev pub Behind : {K S T : Type 0} → Part K (Next S T) → Next S T → Part K (List S × T)
Behind R (More s) = Made (put s) (Lines R)
Behind R (Last t) = Nothing ([], t)

abbrev pub Line_first : {K S T : Type 0} → Part K (Next S T) → Part K (List S × T)
Line_first R = Made second (Chain R (Behind R))

line_on : {K S T : Type 0} (R : Part K (Next S T)) (ts mid rest : List K) (a : Next S T) (v : List S × T) → R ts a mid → Behind R a mid v rest → Lines R ts v rest
line_on R ts mid rest (More s) v h b = subst (λ u. Lines R ts u rest) b.1 (mid, h, b.2)
line_on R ts mid rest (Last t) v h b = subst (λ u. Lines R ts u rest) (sym b.0) (subst (λ k. R ts (Last t) k) (sym b.1) h)

pub lines_on : {K S T : Type 0} (R : Part K (Next S T)) → Within (Line_first R) (Lines R)
lines_on R ts rest v h = subst (λ u. Lines R ts u rest) h.1 (line_on R ts h.2.0 rest h.0.0 h.0.1 h.2.1 h.2.2)

until_off : {K S T : Type 0} (R : Part K (Next S T)) (ts rest : List K) (ss : List S) (t : T) → Until R ts ss t rest → Line_first R ts (ss, t) rest
until_off R ts rest [] t h = ((Last t, ([], t)), refl, (rest, h, (refl, refl)))
until_off R ts rest (s ∷ ss) t h = ((More s, (s ∷ ss, t)), refl, (h.0, h.1, ((ss, t), refl, h.2)))

pub lines_off : {K S T : Type 0} (R : Part K (Next S T)) → Within (Lines R) (Line_first R)
lines_off R ts rest v h = until_off R ts rest v.0 v.1 h

pub until_within : {K S T : Type 0} (R Q : Part K (Next S T)) → Within R Q → (ts rest : List K) (ss : List S) (t : T) → Until R ts ss t rest → Until Q ts ss t rest
until_within R Q h ts rest [] t m = h ts rest (Last t) m
until_within R Q h ts rest (s ∷ ss) t m = (m.0, h ts m.0 (More s) m.1, until_within R Q h m.0 rest ss t m.2)

behind-laws : {K S T : Type 0} {x : List K} (R W : Part K (Next S T)) (H : List K → Part K (Next S T)) {r v : Reader K (List S × T)} → Laws any x (Lines R) (Lines W) (λ y. Lines (H y)) r v
    → (a : Next S T) → Laws any x (Behind R a) (Behind W a) (λ y. Behind (H y) a) (onward r a) (onward v a)
behind-laws R W H l (More s) = made-laws (put s) l
behind-laws {K} {S} {T} {x} R W H l (Last t) = nothing-laws any x ([], t)

-- some line may be the last one at once
abbrev pub Closes : {K S T : Type 0} → Part K (Next S T) → Type 0
Closes {K} {S} {T} W = (more : List K) × (t : T) × ((k : List K) → W (more ++ k) (Last t) k)

pub until-laws : {K S T : Type 0} {x : List K} {R W : Part K (Next S T)} {H : List K → Part K (Next S T)} {p w : Reader K (Next S T)} → Laws any x R W H p w → Closes W
    → (n : ℕ) → Laws any x (Lines R) (Lines W) (λ y. Lines (H y)) (until p n) (until w n)
until-laws {K} {S} {T} {x} {R} {W} {H} l g zero = spent-laws (λ y ts rest v h. until_within R (H y) (l.loose y) ts rest v.0 v.1 h) (λ ts rest v h. until_within R W l.wide ts rest v.0 v.1 h) (g.0, ([], g.1), λ k e. g.2 k)
until-laws {K} {S} {T} {x} {R} {W} {H} l g (suc n) =
    spelled (lines_on R) (lines_off R) (lines_on W) (λ y. lines_on (H y)) (λ y. lines_off (H y))
    (made-laws second (chained-laws l (behind-laws R W H (until-laws l g n)) (λ a ts rest b h e. ends_any ts) (λ y a ts rest b h e. ends_any ts)))
