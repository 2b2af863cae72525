-- Words that others make: a token before a part or behind it, a part that may be left out, parts with commas between.
use Rattle.std.proofs.Common.{◌≡◌, ℕ, Bool, true, ◌&&◌, List, [], ◌∷◌}
use Rattle.grammar_words.specs.Grammar.{Part}
use Rattle.grammar_words.specs.Reading.{Reader}
use Rattle.grammar_words.specs.Classes.{has, Past, past, Ended, ended, Perhaps, perhaps, Listed, listed}
use Rattle.grammar_words.proofs.Ready.{Shape, Ready, both_true, token_shape, nothing_shape, tok-ready, nothing-ready, made-ready}
use Rattle.grammar_words.proofs.ReadyJoin.{then_shape, fits_then, then-ready, either_shape, fits_either, either-ready}
use Rattle.grammar_words.proofs.ReadyMany.{many_shape, fits_many, many-ready}

abbrev pub past_shape : List ℕ → Shape → Shape
past_shape set g = then_shape (token_shape set) g

pub past-ready : {K A : Type 0} {c : K → ℕ} {m : ℕ} {g : Shape} {x : List K} {R W : Part K A} {H : List K → Part K A} {p w : Reader K A} (set : List ℕ) (t : K) → has set (c t) ≡ true
    → Ready c m g x R W H p w → fits_then (token_shape set) g ≡ true → Ready c m (past_shape set g) x (Past c set R) (Past c set W) (λ y. Past c set (H y)) (past c set p) (past c set w)
past-ready {K} {A} {c} {m} {g} {x} set t h r e = made-ready (λ v. v.1) (then-ready (tok-ready c m set t h x) r e)

abbrev pub ended_shape : Shape → List ℕ → Shape
ended_shape g set = then_shape g (token_shape set)

pub ended-ready : {K A : Type 0} {c : K → ℕ} {m : ℕ} {g : Shape} {x : List K} {R W : Part K A} {H : List K → Part K A} {p w : Reader K A} (set : List ℕ) (t : K) → has set (c t) ≡ true
    → Ready c m g x R W H p w → fits_then g (token_shape set) ≡ true → Ready c m (ended_shape g set) x (Ended c R set) (Ended c W set) (λ y. Ended c (H y) set) (ended c p set) (ended c w set)
ended-ready {K} {A} {c} {m} {g} {x} set t h r e = made-ready (λ v. v.0) (then-ready r (tok-ready c m set t h x) e)

abbrev pub perhaps_shape : List ℕ → Shape → Shape
perhaps_shape b g = either_shape b g nothing_shape

pub perhaps-ready : {K A : Type 0} {c : K → ℕ} {m : ℕ} {g : Shape} {x : List K} {R W : Part K A} {H : List K → Part K A} {p w : Reader K A} (b : List ℕ) (a : A)
    → Ready c m g x R W H p w → fits_either b g nothing_shape ≡ true → Ready c m (perhaps_shape b g) x (Perhaps a R) (Perhaps a W) (λ y. Perhaps a (H y)) (perhaps c b a p) (perhaps c b a w)
perhaps-ready {K} {A} {c} {m} {g} {x} b a r e = either-ready b r (nothing-ready c m x a) e

abbrev pub some_shape : List ℕ → Shape → Shape
some_shape k g = then_shape g (many_shape k (past_shape k g))

abbrev pub listed_shape : List ℕ → List ℕ → Shape → Shape
listed_shape b k g = perhaps_shape b (some_shape k g)

abbrev pub fits_listed : List ℕ → List ℕ → Shape → Bool
fits_listed b k g = fits_then (token_shape k) g && (fits_many k (past_shape k g) && (fits_then g (many_shape k (past_shape k g)) && fits_either b (some_shape k g) nothing_shape))

pub listed-ready : {K A : Type 0} {c : K → ℕ} {m : ℕ} {g : Shape} {x : List K} {R W : Part K A} {H : List K → Part K A} {p w : Reader K A} (b k : List ℕ) (t : K) → has k (c t) ≡ true
    → Ready c m g x R W H p w → fits_listed b k g ≡ true → Ready c m (listed_shape b k g) x (Listed c k R) (Listed c k W) (λ y. Listed c k (H y)) (listed c b k p m) (listed c b k w m)
listed-ready {K} {A} {c} {m} {g} {x} b k t h r e =
    let f = both_true _ _ e in
    let i = both_true _ _ f.1 in
    let j = both_true _ _ i.1 in
    perhaps-ready b [] (made-ready (λ v. v.0 ∷ v.1) (then-ready r (many-ready k (past-ready k t h r f.0) i.0) j.0)) j.1
