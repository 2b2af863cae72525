-- Laws of one part as laws of another.
use Rattle.std.proofs.Common.{◌≡◌, Bool, true, List, [], ◌∷◌, ◌++◌}
use Rattle.grammar_words.specs.declared.stop.Why.TheVariants.{Wrong, Deep, Spent}
use Rattle.grammar_words.specs.Grammar.{Part}
use Rattle.grammar_words.specs.Reading.{Outcome, Got, Fault, Reader}
use Rattle.grammar_words.proofs.Laws.{ends, Goes, Follows, Laws}

abbrev pub Within : {K A : Type 0} → Part K A → Part K A → Type 0
Within {K} {A} R Q = (ts rest : List K) (a : A) → R ts a rest → Q ts a rest

abbrev pub Narrower : {K : Type 0} → (K → Bool) → (K → Bool) → Type 0
Narrower {K} z s = (k : List K) → ends z k ≡ true → ends s k ≡ true

pub goes_on : {K A : Type 0} (s z : K → Bool) (W V : Part K A) → Narrower z s → Within W V → (f : List K) → Goes s W f → Goes z V f
goes_on s z W V n i f g = (g.0, g.1, λ k e. i (f ++ (g.0 ++ k)) k g.1 (g.2 k (n k e)))

pub follows_on : {K A : Type 0} (s z : K → Bool) (R W Q V : Part K A) → Narrower z s → Within R Q → Within W V → (ts f : List K) (o : Outcome K A) → Follows s R W ts f o → Follows z Q V ts f o
follows_on s z R W Q V n i j ts f (Got a rest) h = (i ts rest a h.0, λ k. j (f ++ k) k a (h.1 k))
follows_on s z R W Q V n i j ts f (Fault Wrong rest) h = goes_on s z W V n j f h
follows_on s z R W Q V n i j ts f (Fault Deep []) h = h
follows_on s z R W Q V n i j ts f (Fault Deep (t ∷ rest)) h = goes_on s z W V n j (f ++ t ∷ []) h
follows_on s z R W Q V n i j ts f (Fault Spent rest) h = tt

-- fewer tokens may stand behind
pub narrower : {K A : Type 0} {s z : K → Bool} {x : List K} {R W : Part K A} {H : List K → Part K A} {p w : Reader K A} → Narrower z s → Laws s x R W H p w → Laws z x R W H p w
narrower {K} {A} {s} {z} {x} {R} {W} {H} {p} {w} n l = record {
  account = λ ts. let c = l.account ts in record {
    front = c.front;
    splits = c.splits;
    steady = c.steady;
    follows = follows_on s z R W R W n (λ us rest a h. h) (λ us rest a h. h) ts c.front (p ts) c.follows;
    grows = c.grows;
  };
  again = λ y ts rest a h e. l.again y ts rest a h (n rest e);
  loose = l.loose;
  wide = l.wide;
  sentence = goes_on s z W W n (λ us rest a h. h) [] l.sentence;
}

-- the same parts in other words
pub spelled : {K A : Type 0} {s : K → Bool} {x : List K} {R W Q V : Part K A} {H G : List K → Part K A} {p w : Reader K A}
    → Within R Q → Within Q R → Within W V → ((y : List K) → Within (H y) (G y)) → ((y : List K) → Within (G y) (H y)) → Laws s x R W H p w → Laws s x Q V G p w
spelled {K} {A} {s} {x} {R} {W} {Q} {V} {H} {G} {p} {w} on off wide holed back l = record {
  account = λ ts. let c = l.account ts in record {
    front = c.front;
    splits = c.splits;
    steady = c.steady;
    follows = follows_on s s R W Q V (λ k e. e) on wide ts c.front (p ts) c.follows;
    grows = c.grows;
  };
  again = λ y ts rest a h e. l.again y ts rest a (back y ts rest a h) e;
  loose = λ y ts rest a h. holed y ts rest a (l.loose y ts rest a (off ts rest a h));
  wide = λ ts rest a h. wide ts rest a (l.wide ts rest a (off ts rest a h));
  sentence = goes_on s s W V (λ k e. e) wide [] l.sentence;
}
