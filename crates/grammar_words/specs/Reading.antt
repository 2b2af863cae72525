-- Reading from the front of tokens, as a function.
use Rattle.std.specs.Prelude.{ℕ, zero, suc, Bool, if◌then◌else◌, List, [], ◌∷◌}
use Rattle.grammar_words.specs.declared.stop.Why.{Why}
use Rattle.grammar_words.specs.declared.stop.Why.TheVariants.{Wrong, Deep, Spent}
use Rattle.grammar_words.specs.Grammar.{Next, More, Last, starts}

-- a value and the tokens behind it, or why reading stops, and the tokens from there on
pub data Outcome (K A : Type 0) : Type 0 where
  Got : A → List K → Outcome K A
  Fault : Why → List K → Outcome K A

abbrev pub Reader : Type 0 → Type 0 → Type 0
Reader K A = List K → Outcome K A

abbrev pub one : {K : Type 0} → (K → Bool) → Reader K K
one test [] = Fault Wrong []
one test (t ∷ ts) = if test t then Got t ts else Fault Wrong (t ∷ ts)

abbrev pub nothing : {K A : Type 0} → A → Reader K A
nothing a ts = Got a ts

abbrev pub after : {K A B : Type 0} → (A → Reader K B) → Outcome K A → Outcome K B
after f (Got a rest) = f a rest
after f (Fault why rest) = Fault why rest

abbrev pub turned : {K A B : Type 0} → (A → B) → Outcome K A → Outcome K B
turned f (Got a rest) = Got (f a) rest
turned f (Fault why rest) = Fault why rest

abbrev pub pair : {A B : Type 0} → A → B → A × B
pair a b = (a, b)

unfoldable pub chained : {K A B : Type 0} → Reader K A → (A → Reader K B) → Reader K (A × B)
chained p q ts = after (λ a rest. turned (pair a) (q a rest)) (p ts)

abbrev pub joined : {K A B : Type 0} → Reader K A → Reader K B → Reader K (A × B)
joined p q = chained p (λ a. q)

unfoldable pub made : {K A B : Type 0} → (A → B) → Reader K A → Reader K B
made f p ts = turned f (p ts)

-- by a test of the tokens
unfoldable pub choose : {K A : Type 0} → (List K → Bool) → Reader K A → Reader K A → Reader K A
choose test p q ts = if test ts then p ts else q ts

-- by the first token
abbrev pub pick : {K A : Type 0} → (K → Bool) → Reader K A → Reader K A → Reader K A
pick test p q = choose (starts test) p q

-- only where such a token comes
unfoldable pub guard : {K A : Type 0} → (K → Bool) → Reader K A → Reader K A
guard test p ts = if starts test ts then p ts else Fault Wrong ts

-- a token that passes the limit
abbrev pub deep : {K A : Type 0} → Reader K A
deep ts = Fault Deep ts

-- a loop has no more turns
abbrev pub spent : {K A : Type 0} → Reader K A
spent ts = Fault Spent ts

abbrev pub cons : {A : Type 0} → A × List A → List A
cons v = v.0 ∷ v.1

-- a part as long as such a token comes, at most n times
abbrev pub many : {K A : Type 0} → (K → Bool) → Reader K A → ℕ → Reader K (List A)
many test p zero = pick test spent (nothing [])
many test p (suc n) = pick test (made cons (joined p (many test p n))) (nothing [])

-- a line before the lines behind it
abbrev pub put : {S T : Type 0} → S → List S × T → List S × T
put s v = (s ∷ v.0, v.1)

abbrev pub second : {A B : Type 0} → A × B → B
second v = v.1

abbrev pub first : {A B : Type 0} → A × B → A
first v = v.0

abbrev pub onward : {K S T : Type 0} → Reader K (List S × T) → Next S T → Reader K (List S × T)
onward r (More s) = made (put s) r
onward r (Last t) = nothing ([], t)

-- lines up to the last one, at most n
abbrev pub until : {K S T : Type 0} → Reader K (Next S T) → ℕ → Reader K (List S × T)
until p zero = spent
until p (suc n) = made second (chained p (onward (until p n)))
