-- Laws of one part and then another.
use Rattle.std.proofs.Common.{◌≡◌, Bool, true, List, [], ◌∷◌, ◌++◌, refl, ap, ◌∙◌, sym}
use Rattle.std.proofs.lemmas.List.{append_assoc, append-nil}
use Rattle.grammar_words.specs.declared.stop.Why.{Why}
use Rattle.grammar_words.specs.declared.stop.Why.TheVariants.{Wrong, Deep, Spent}
use Rattle.grammar_words.specs.Grammar.{Part, Chain, Then}
use Rattle.grammar_words.specs.Reading.{Outcome, Got, Fault, Reader, pair, after, turned, chained, joined}
use Rattle.grammar_words.proofs.Laws.{ends, left, is_firm, Agrees, Goes, Follows, Account, Laws}
use Rattle.grammar_words.proofs.Made.{turned_left, turned_with, turned_firm}

-- a part goes on, and then the second one
pub goes_then : {K A B : Type 0} (s z : K → Bool) (W : Part K A) (V : A → Part K B) → ((a : A) (ts rest : List K) (b : B) → V a ts b rest → ends z rest ≡ true → ends s ts ≡ true) → ((a : A) → Goes z (V a) [])
    → (f : List K) → Goes s W f → Goes z (Chain W V) f
goes_then s z W V leads sentence f g =
    let n = sentence g.1 in
    (g.0 ++ n.0, (g.1, n.1), λ k e. (n.0 ++ k, rw append_assoc (g.2 (n.0 ++ k) (leads g.1 (n.0 ++ k) k n.1 (n.2 k e) e)), n.2 k e))

-- the second part goes on behind the first one
then_goes : {K A B : Type 0} (z : K → Bool) (W : Part K A) (V : A → Part K B) (f g : List K) (a : A) → ((k : List K) → W (f ++ k) a k) → Goes z (V a) g → Goes z (Chain W V) (f ++ g)
then_goes z W V f g a h n = (n.0, (a, n.1), λ k e. (g ++ (n.0 ++ k), rw append_assoc (h (g ++ (n.0 ++ k))), n.2 k e))

chained_agrees : {K A B : Type 0} (x : List K) (a : A) (b : B) (rest : List K) (o : Outcome K B) → Agrees x o b rest → Agrees x (turned (pair a) o) (a, b) rest
chained_agrees x a b rest (Got c r) h = (ap (pair a) h.0, h.1)
chained_agrees x a b rest (Fault Wrong r) h = h
chained_agrees x a b rest (Fault Deep r) h = h
chained_agrees x a b rest (Fault Spent r) h = tt

after_agrees : {K A B : Type 0} (x : List K) (a : A) (b : B) (mid rest : List K) (q : A → Reader K B) (o : Outcome K A) → Agrees x o a mid → Agrees x (q a mid) b rest → Agrees x (after (λ c r. turned (pair c) (q c r)) o) (a, b) rest
after_agrees x a b mid rest q (Got c r) h n = rw (h.0, h.1) (chained_agrees x a b rest (q a mid) n)
after_agrees x a b mid rest q (Fault Wrong r) h n = h
after_agrees x a b mid rest q (Fault Deep r) h n = h
after_agrees x a b mid rest q (Fault Spent r) h n = tt

-- what is behind the first part's value
got_follows : {K A B : Type 0} (z : K → Bool) (R W : Part K A) (Q V : A → Part K B) (ts mid f g : List K) (a : A) (o : Outcome K B) → R ts a mid → ((k : List K) → W (f ++ k) a k) → Follows z (Q a) (V a) mid g o
    → Follows z (Chain R Q) (Chain W V) ts (f ++ g) (turned (pair a) o)
got_follows z R W Q V ts mid f g a (Got b rest) r h n = ((mid, r, n.0), λ k. (g ++ k, rw append_assoc (h (g ++ k)), n.1 k))
got_follows z R W Q V ts mid f g a (Fault Wrong rest) r h n = then_goes z W V f g a h n
got_follows z R W Q V ts mid f g a (Fault Deep []) r h n = n
got_follows z R W Q V ts mid f g a (Fault Deep (t ∷ rest)) r h n = rw append_assoc (then_goes z W V f (g ++ t ∷ []) a h n)
got_follows z R W Q V ts mid f g a (Fault Spent rest) r h n = tt

-- the first part's value does not change with what stands behind the token there
got_keeps : {K A : Type 0} (p : Reader K A) (f mid : List K) (a : A) → ((t : K) (u v : List K) → mid ≡ t ∷ u → p (f ++ t ∷ v) ≡ Got a (t ∷ v))
    → (g u v : List K) (t : K) → mid ≡ g ++ t ∷ u → p ((f ++ g) ++ t ∷ v) ≡ Got a (g ++ t ∷ v)
got_keeps p f mid a h [] u v t e = rw append-nil (h t u v e)
got_keeps p f mid a h (b ∷ g) u v t e = rw append_assoc (h b (g ++ t ∷ u) (g ++ t ∷ v) e)

both_left : {K A B : Type 0} (a : A) (o : Outcome K B) (g : List K) (mid : List K) → mid ≡ g ++ left o → mid ≡ g ++ left (turned (pair a) o)
both_left a o g mid e = rw turned_left e

pub chained_got : {K A B : Type 0} (p : Reader K A) (q : A → Reader K B) (ts mid : List K) (a : A) → p ts ≡ Got a mid → chained p q ts ≡ turned (pair a) (q a mid)
unfolding chained
chained_got p q ts mid a e = ap (after (λ c r. turned (pair c) (q c r))) e

pub chained_fault : {K A B : Type 0} (p : Reader K A) (q : A → Reader K B) (ts rest : List K) (why : Why) → p ts ≡ Fault why rest → chained p q ts ≡ Fault why rest
unfolding chained
chained_fault p q ts rest why e = ap (after (λ c r. turned (pair c) (q c r))) e

-- the first part is there
got_account : {K A B : Type 0} (s z : K → Bool) (R W : Part K A) (Q V : A → Part K B) (p w : Reader K A) (q v : A → Reader K B) (ts mid : List K) (a : A)
    → Account s R W p w ts (Got a mid) → Account z (Q a) (V a) (q a) (v a) mid (q a mid) → Account z (Chain R Q) (Chain W V) (chained p q) (chained w v) ts (turned (pair a) (q a mid))
got_account s z R W Q V p w q v ts mid a c d = record {
  front = c.front ++ d.front;
  splits = c.splits ∙ ap (λ r. c.front ++ r) (both_left a (q a mid) d.front mid d.splits) ∙ sym (append_assoc c.front d.front (left (turned (pair a) (q a mid))));
  steady = λ t u y e.
      let l : left (q a mid) ≡ t ∷ u = sym (turned_left (pair a) (q a mid)) ∙ e in
      chained_got p q ((c.front ++ d.front) ++ t ∷ y) (d.front ++ t ∷ y) a (got_keeps p c.front mid a c.steady d.front u y t (d.splits ∙ ap (λ r. d.front ++ r) l))
      ∙ (ap (turned (pair a)) (d.steady t u y l) ∙ turned_with (pair a) (q a mid) (t ∷ y));
  follows = got_follows z R W Q V ts mid c.front d.front a (q a mid) c.follows.0 c.follows.1 d.follows;
  grows = λ e. chained_got w v ts mid a (c.grows refl) ∙ ap (turned (pair a)) (d.grows (sym (turned_firm (pair a) (q a mid)) ∙ e));
}

fault_follows : {K A B : Type 0} (s z : K → Bool) (R W : Part K A) (Q V : A → Part K B) → ((a : A) (ts rest : List K) (b : B) → V a ts b rest → ends z rest ≡ true → ends s ts ≡ true) → ((a : A) → Goes z (V a) [])
    → (ts f rest : List K) (why : Why) → Follows s R W ts f (Fault why rest) → Follows z (Chain R Q) (Chain W V) ts f (Fault why rest)
fault_follows s z R W Q V leads sentence ts f rest Wrong h = goes_then s z W V leads sentence f h
fault_follows s z R W Q V leads sentence ts f [] Deep h = h
fault_follows s z R W Q V leads sentence ts f (t ∷ rest) Deep h = goes_then s z W V leads sentence (f ++ t ∷ []) h
fault_follows s z R W Q V leads sentence ts f rest Spent h = tt

fault_firm : {K : Type 0} (A B : Type 0) (rest : List K) (why : Why) → is_firm {A = B} (Fault why rest) ≡ true → is_firm {A = A} (Fault why rest) ≡ true
fault_firm A B rest Wrong e = refl
fault_firm A B rest Deep e = e
fault_firm A B rest Spent e = e

-- the first part is at fault
fault_account : {K A B : Type 0} (s z : K → Bool) (R W : Part K A) (Q V : A → Part K B) (p w : Reader K A) (q v : A → Reader K B) (ts rest : List K) (why : Why)
    → ((a : A) (us r : List K) (b : B) → V a us b r → ends z r ≡ true → ends s us ≡ true) → ((a : A) → Goes z (V a) [])
    → Account s R W p w ts (Fault why rest) → Account z (Chain R Q) (Chain W V) (chained p q) (chained w v) ts (Fault why rest)
fault_account {K} {A} {B} s z R W Q V p w q v ts rest why leads sentence c = record {
  front = c.front;
  splits = c.splits;
  steady = λ t u y e. chained_fault p q (c.front ++ t ∷ y) (t ∷ y) why (c.steady t u y e);
  follows = fault_follows s z R W Q V leads sentence ts c.front rest why c.follows;
  grows = λ e. chained_fault w v ts rest why (c.grows (fault_firm A B rest why e));
}

chained_account : {K A B : Type 0} (s z : K → Bool) (R W : Part K A) (Q V : A → Part K B) (p w : Reader K A) (q v : A → Reader K B) (ts : List K)
    → ((a : A) (us r : List K) (b : B) → V a us b r → ends z r ≡ true → ends s us ≡ true) → ((a : A) → Goes z (V a) [])
    → ((a : A) (us : List K) → Account z (Q a) (V a) (q a) (v a) us (q a us))
    → (o : Outcome K A) → Account s R W p w ts o → Account z (Chain R Q) (Chain W V) (chained p q) (chained w v) ts (after (λ c r. turned (pair c) (q c r)) o)
chained_account s z R W Q V p w q v ts leads sentence d (Got a mid) c = got_account s z R W Q V p w q v ts mid a c (d a mid)
chained_account s z R W Q V p w q v ts leads sentence d (Fault why rest) c = fault_account s z R W Q V p w q v ts rest why leads sentence c

pub chained-laws : {K A B : Type 0} {s z : K → Bool} {x : List K} {R W : Part K A} {H : List K → Part K A} {Q V : A → Part K B} {G : List K → A → Part K B} {p w : Reader K A} {q v : A → Reader K B}
    → Laws s x R W H p w → ((a : A) → Laws z x (Q a) (V a) (λ y. G y a) (q a) (v a))
    → ((a : A) (ts rest : List K) (b : B) → V a ts b rest → ends z rest ≡ true → ends s ts ≡ true)
    → ((y : List K) (a : A) (ts rest : List K) (b : B) → G y a ts b rest → ends z rest ≡ true → ends s ts ≡ true)
    → Laws z x (Chain R Q) (Chain W V) (λ y. Chain (H y) (G y)) (chained p q) (chained w v)
unfolding chained
chained-laws {K} {A} {B} {s} {z} {x} {R} {W} {H} {Q} {V} {G} {p} {w} {q} {v} l k leads holed = record {
  account = λ ts. chained_account s z R W Q V p w q v ts leads (λ a. (k a).sentence) (λ a us. (k a).account us) (p ts) (l.account ts);
  again = λ y ts rest b h e. after_agrees x b.0 b.1 h.0 rest q (p ts) (l.again y ts h.0 b.0 h.1 (holed y b.0 h.0 rest b.1 h.2 e)) ((k b.0).again y h.0 rest b.1 h.2 e);
  loose = λ y ts rest b h. (h.0, l.loose y ts h.0 b.0 h.1, (k b.0).loose y h.0 rest b.1 h.2);
  wide = λ ts rest b h. (h.0, l.wide ts h.0 b.0 h.1, (k b.0).wide h.0 rest b.1 h.2);
  sentence = goes_then s z W V leads (λ a. (k a).sentence) [] l.sentence;
}

pub joined-laws : {K A B : Type 0} {s z : K → Bool} {x : List K} {R W : Part K A} {H : List K → Part K A} {Q V : Part K B} {G : List K → Part K B} {p w : Reader K A} {q v : Reader K B}
    → Laws s x R W H p w → Laws z x Q V G q v
    → ((ts rest : List K) (b : B) → V ts b rest → ends z rest ≡ true → ends s ts ≡ true)
    → ((y ts rest : List K) (b : B) → G y ts b rest → ends z rest ≡ true → ends s ts ≡ true)
    → Laws z x (Then R Q) (Then W V) (λ y. Then (H y) (G y)) (joined p q) (joined w v)
joined-laws l k leads holed = chained-laws l (λ a. k) (λ a. leads) (λ y a. holed y)
