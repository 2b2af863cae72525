-- Productions out of classes of tokens. c gives each token's class, a number; a set of classes is a list.
use Rattle.std.specs.Prelude.{ℕ, zero, suc, Bool, true, false, ◌&&◌, not, ◌==◌, if◌then◌else◌, List, [], ◌∷◌}
use Rattle.grammar_words.specs.Grammar.{Part, One, Nothing, Then, Made, Either, Each, starts}
use Rattle.grammar_words.specs.Reading.{Reader, one, nothing, joined, made, pick, many, spent, cons, first, second}

abbrev pub has : List ℕ → ℕ → Bool
has [] n = false
has (x ∷ set) n = if x == n then true else has set n

unfoldable pub inside : {K : Type 0} → (K → ℕ) → List ℕ → K → Bool
inside c set t = has set (c t)

unfoldable pub outside : {K : Type 0} → (K → ℕ) → List ℕ → K → Bool
outside c set t = not (has set (c t))

-- a token of these classes
abbrev pub Tok : {K : Type 0} → (K → ℕ) → List ℕ → Part K K
Tok c set = One (inside c set)

abbrev pub tok : {K : Type 0} → (K → ℕ) → List ℕ → Reader K K
tok c set = one (inside c set)

-- a token of these classes, and then a part that says it all
abbrev pub Past : {K A : Type 0} → (K → ℕ) → List ℕ → Part K A → Part K A
Past c set R = Made second (Then (Tok c set) R)

abbrev pub past : {K A : Type 0} → (K → ℕ) → List ℕ → Reader K A → Reader K A
past c set p = made second (joined (tok c set) p)

-- a part that says it all, and then a token of these classes
abbrev pub Ended : {K A : Type 0} → (K → ℕ) → Part K A → List ℕ → Part K A
Ended c R set = Made first (Then R (Tok c set))

abbrev pub ended : {K A : Type 0} → (K → ℕ) → Reader K A → List ℕ → Reader K A
ended c p set = made first (joined p (tok c set))

-- a token of b comes, but not one of k before one of d
abbrev pub bare : {K : Type 0} → (K → ℕ) → List ℕ → List ℕ → List ℕ → List K → Bool
bare c b k d [] = false
bare c b k d (t ∷ ts) = inside c b t && not (inside c k t && starts (inside c d) ts)

-- a part, or none, and then this value
abbrev pub Perhaps : {K A : Type 0} → A → Part K A → Part K A
Perhaps a R = Either R (Nothing a)

-- where one of its first tokens comes
abbrev pub perhaps : {K A : Type 0} → (K → ℕ) → List ℕ → A → Reader K A → Reader K A
perhaps c b a p = pick (inside c b) p (nothing a)

-- any number of parts with a token of k between each two
abbrev pub Listed : {K A : Type 0} → (K → ℕ) → List ℕ → Part K A → Part K (List A)
Listed c k R = Perhaps [] (Made cons (Then R (Each (Past c k R))))

abbrev pub listed : {K A : Type 0} → (K → ℕ) → List ℕ → List ℕ → Reader K A → ℕ → Reader K (List A)
listed c b k p m = perhaps c b [] (made cons (joined p (many (inside c k) (past c k p) m)))

-- whether a token of k stands there
abbrev pub Perhaps_token : {K : Type 0} → (K → ℕ) → List ℕ → Part K Bool
Perhaps_token c k = Perhaps false (Made (λ t. true) (Tok c k))

-- any number of parts with a token of k between each two, and whether one stands behind them
abbrev pub Trailed : {K A : Type 0} → (K → ℕ) → List ℕ → Part K A → Part K (List A × Bool)
Trailed c k R = Then (Listed c k R) (Perhaps_token c k)

-- a part before the others
abbrev pub lead : {A : Type 0} → A × (List A × Bool) → List A × Bool
lead v = (v.0 ∷ v.1.0, v.1.1)

-- behind a part: a token of k, and then another part or the end
abbrev pub trail : {K A : Type 0} → (K → ℕ) → List ℕ → List ℕ → Reader K A → ℕ → Reader K (List A × Bool)
trail c b k p zero = pick (inside c k) spent (nothing ([], false))
trail c b k p (suc n) = pick (inside c k) (past c k (pick (inside c b) (made lead (joined p (trail c b k p n))) (nothing ([], true)))) (nothing ([], false))

abbrev pub trailed : {K A : Type 0} → (K → ℕ) → List ℕ → List ℕ → Reader K A → ℕ → Reader K (List A × Bool)
trailed c b k p m = pick (inside c b) (made lead (joined p (trail c b k p m))) (pick (inside c k) (made (λ t. ([], true)) (tok c k)) (nothing ([], false)))
