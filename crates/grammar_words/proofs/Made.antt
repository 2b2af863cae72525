-- Laws of what is made of a part.
use Rattle.std.proofs.Common.{◌≡◌, Bool, List, [], ◌∷◌, ◌++◌, refl, ap, ◌∙◌, sym}
use Rattle.grammar_words.specs.declared.stop.Why.TheVariants.{Wrong, Deep, Spent}
use Rattle.grammar_words.specs.Grammar.{Part, Made}
use Rattle.grammar_words.specs.Reading.{Outcome, Got, Fault, Reader, turned, made}
use Rattle.grammar_words.proofs.Laws.{left, with_left, is_firm, Agrees, Goes, Follows, Laws}

pub turned_left : {K A B : Type 0} (f : A → B) (o : Outcome K A) → left (turned f o) ≡ left o
turned_left f (Got a rest) = refl
turned_left f (Fault why rest) = refl

pub turned_with : {K A B : Type 0} (f : A → B) (o : Outcome K A) (x : List K) → turned f (with_left o x) ≡ with_left (turned f o) x
turned_with f (Got a rest) x = refl
turned_with f (Fault why rest) x = refl

pub turned_firm : {K A B : Type 0} (f : A → B) (o : Outcome K A) → is_firm (turned f o) ≡ is_firm o
turned_firm f (Got a rest) = refl
turned_firm f (Fault Wrong rest) = refl
turned_firm f (Fault Deep rest) = refl
turned_firm f (Fault Spent rest) = refl

made_goes : {K A B : Type 0} (s : K → Bool) (W : Part K A) (f : A → B) (front : List K) → Goes s W front → Goes s (Made f W) front
made_goes s W f front g = (g.0, f g.1, λ k e. (g.1, refl, g.2 k e))

made_follows : {K A B : Type 0} (s : K → Bool) (R W : Part K A) (f : A → B) (ts front : List K) (o : Outcome K A) → Follows s R W ts front o → Follows s (Made f R) (Made f W) ts front (turned f o)
made_follows s R W f ts front (Got a rest) h = ((a, refl, h.0), λ k. (a, refl, h.1 k))
made_follows s R W f ts front (Fault Wrong rest) h = made_goes s W f front h
made_follows s R W f ts front (Fault Deep []) h = h
made_follows s R W f ts front (Fault Deep (t ∷ rest)) h = made_goes s W f (front ++ t ∷ []) h
made_follows s R W f ts front (Fault Spent rest) h = tt

made_agrees : {K A B : Type 0} (f : A → B) (x : List K) (o : Outcome K A) (a : A) (rest : List K) → Agrees x o a rest → Agrees x (turned f o) (f a) rest
made_agrees f x (Got b r) a rest h = (ap f h.0, h.1)
made_agrees f x (Fault Wrong r) a rest h = h
made_agrees f x (Fault Deep r) a rest h = h
made_agrees f x (Fault Spent r) a rest h = tt

pub made-laws : {K A B : Type 0} {s : K → Bool} {x : List K} {R W : Part K A} {H : List K → Part K A} {p w : Reader K A} (f : A → B) → Laws s x R W H p w → Laws s x (Made f R) (Made f W) (λ y. Made f (H y)) (made f p) (made f w)
unfolding made
made-laws {K} {A} {B} {s} {x} {R} {W} {H} {p} {w} f l = record {
  account = λ ts. let c = l.account ts in record {
    front = c.front;
    splits = rw turned_left c.splits;
    steady = λ t u v e. ap (turned f) (c.steady t u v (sym (turned_left f (p ts)) ∙ e)) ∙ turned_with f (p ts) (t ∷ v);
    follows = made_follows s R W f ts c.front (p ts) c.follows;
    grows = λ e. ap (turned f) (c.grows (sym (turned_firm f (p ts)) ∙ e));
  };
  again = λ y ts rest b h e. rw (← h.1) (made_agrees f x (p ts) h.0 rest (l.again y ts rest h.0 h.2 e));
  loose = λ y ts rest b h. (h.0, h.1, l.loose y ts rest h.0 h.2);
  wide = λ ts rest b h. (h.0, h.1, l.wide ts rest h.0 h.2);
  sentence = made_goes s W f [] l.sentence;
}
