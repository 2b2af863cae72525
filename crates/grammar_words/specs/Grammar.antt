-- Words for productions, over tokens of any type K. A part says of tokens that they begin with it, what it means, and
-- which tokens stand behind it.
use Rattle.std.specs.Prelude.{◌≡◌, ◌⊎◌, Bool, true, false, List, [], ◌∷◌}

abbrev pub Part : Type 0 → Type 0 → Type 1
Part K A = List K → A → List K → Type 0

-- one token that passes a test, which is the value
abbrev pub One : {K : Type 0} → (K → Bool) → Part K K
One test ts t rest = (test t ≡ true) × (ts ≡ t ∷ rest)

-- no token
abbrev pub Nothing : {K A : Type 0} → A → Part K A
Nothing a ts b rest = (b ≡ a) × (rest ≡ ts)

-- one part and then another, which may depend on the first one's value
abbrev pub Chain : {K A B : Type 0} → Part K A → (A → Part K B) → Part K (A × B)
Chain {K} R Q ts v rest = (mid : List K) × R ts v.0 mid × Q v.0 mid v.1 rest

-- one part and then another
abbrev pub Then : {K A B : Type 0} → Part K A → Part K B → Part K (A × B)
Then {K} R Q ts v rest = (mid : List K) × R ts v.0 mid × Q mid v.1 rest

-- what is made of a part's value
abbrev pub Made : {K A B : Type 0} → (A → B) → Part K A → Part K B
Made {K} {A} f R ts b rest = (a : A) × (f a ≡ b) × R ts a rest

-- one part or another
abbrev pub Either : {K A : Type 0} → Part K A → Part K A → Part K A
Either R Q ts a rest = R ts a rest ⊎ Q ts a rest

-- a part, any number of times
abbrev pub Each : {K A : Type 0} → Part K A → Part K (List A)
Each R ts [] rest = rest ≡ ts
Each {K} R ts (a ∷ as_) rest = (mid : List K) × R ts a mid × Each R mid as_ rest

-- a line that goes on, or the last one
pub data Next (S T : Type 0) : Type 0 where
  More : S → Next S T
  Last : T → Next S T

-- lines that go on, and the last one
abbrev pub Until : {K S T : Type 0} → Part K (Next S T) → List K → List S → T → List K → Type 0
Until R ts [] last rest = R ts (Last last) rest
Until {K} R ts (s ∷ ss) last rest = (mid : List K) × R ts (More s) mid × Until R mid ss last rest

-- no text
abbrev pub Never : {K A : Type 0} → Part K A
Never ts a rest = ⊥

-- the first token is there and passes a test
abbrev pub starts : {K : Type 0} → (K → Bool) → List K → Bool
starts test [] = false
starts test (t ∷ ts) = test t

-- A part, whatever it may be, stands just at x, where such a token begins it, and y stands behind it.
abbrev pub At : {K A : Type 0} → (K → Bool) → List K → List K → Part K A
At test x y ts a rest = (starts test x ≡ true) × (ts ≡ x) × (rest ≡ y)
