-- Which answers to a text are right. R d are the texts that are nested at most d deep. H d x y are such texts too, but
-- for a part of any depth that stands just at x, with y behind it.
use Rattle.std.specs.Prelude.{◌≡◌, ℕ, List, [], ◌∷◌, ◌++◌}
use Rattle.grammar_words.specs.declared.stop.Why.TheVariants.{Wrong, Deep, Spent}
use Rattle.grammar_words.specs.Grammar.{Part}
use Rattle.grammar_words.specs.Reading.{Outcome, Got, Fault}

-- these tokens begin a text: something goes on from them to its end
abbrev pub Begins : {K A : Type 0} → (ℕ → Part K A) → List K → Type 0
Begins {K} {A} R front = (d : ℕ) × (more : List K) × (a : A) × R d (front ++ more) a []

-- nothing goes on from the tokens before with the next token, or with the end where there is none
abbrev pub StopsAt : {K A : Type 0} → (ℕ → Part K A) → List K → List K → Type 0
StopsAt {K} {A} R front [] = (d : ℕ) (a : A) → R d front a [] → ⊥
StopsAt R front (t ∷ rest) = Begins R (front ++ t ∷ []) → ⊥

-- x begins a part that is nested too deep: the text is one within the limit but for this part
abbrev pub IsTooDeep : {K A : Type 0} → (List K → List K → Part K A) → List K → List K → Type 0
IsTooDeep {K} {A} H ts x = (y : List K) × (a : A) × H x y ts a []

-- Nothing may stand behind the whole.
abbrev pub whole : {K A : Type 0} → Outcome K A → Outcome K A
whole (Got a []) = Got a []
whole (Got a (t ∷ rest)) = Fault Wrong (t ∷ rest)
whole (Fault why rest) = Fault why rest

-- An answer at the limit n is right:
-- a value, where the text has it within the limit, and no text has another;
-- a wrong token, or the end, where the tokens before it begin a text and go on to none with it, and where no part is
-- nested too deep;
-- a token that begins a part nested too deep, where some text goes on so, but none within the limit.
abbrev pub IsRight : {K A : Type 0} → (ℕ → Part K A) → (ℕ → List K → List K → Part K A) → ℕ → List K → Outcome K A → Type 0
IsRight {K} {A} R H n ts (Got a rest) = R n ts a rest × (rest ≡ []) × ((d : ℕ) (b : A) → R d ts b [] → b ≡ a)
IsRight {K} R H n ts (Fault Wrong rest) = (front : List K) × (ts ≡ front ++ rest) × Begins R front × StopsAt R front rest × ((x : List K) → IsTooDeep (H n) ts x → ⊥)
IsRight R H n ts (Fault Deep []) = ⊥
IsRight {K} {A} R H n ts (Fault Deep (t ∷ rest)) = (front : List K) × (ts ≡ front ++ t ∷ rest) × Begins R (front ++ t ∷ []) × ((more : List K) (a : A) → R n (front ++ t ∷ more) a [] → ⊥) × IsTooDeep (H n) ts (t ∷ rest)
IsRight R H n ts (Fault Spent rest) = ⊥
