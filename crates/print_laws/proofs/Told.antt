-- The words of a grammar, where the text of what a part means reads again as something that means the same. A part's value
-- a means h a, and f is its text.
use Rattle.std.proofs.Common.{◌≡◌, inl, inr, ℕ, true, List, [], ◌∷◌, ◌++◌, codes, map, refl, sym, ◌∙◌, ap, subst, append_assoc}
use Rattle.grammar_words.specs.Grammar.{Part, Nothing, Then, Made, Either, Each}
use Rattle.grammar_words.specs.Reading.{cons}
use Rattle.grammar_words.specs.Classes.{has, inside, Tok, Past, Ended, Listed}
use Rattle.grammar_words.proofs.Sets.{subset, apart}
use Rattle.mir_grammar.specs.Lexemes.{Lexeme, class_of, sign}
use Rattle.canonical_text.specs.declared.positions.Position.{Position}
use Rattle.canonical_text.specs.Names.{path_written}
use Rattle.print_laws.specs.Printed.{ArePrintable}
use Rattle.print_laws.proofs.Leads.{all_leads}
use Rattle.print_laws.proofs.Fits.{Fits, fits_none, fits_join, fits_wide, fits_text, subset_self, subset_tail, comma, spaced}
use Rattle.print_laws.proofs.Spelt.{coarsely}
use Rattle.print_laws.proofs.Again.{past_token, Again, past_either, either_past, past_made, made_past}

-- lexemes that this text is, where what is in `follow` stands behind it, and that W reads as something that means x
pub record Telling {A T : Type 0} (follow leads : List ℕ) (W : Part Lexeme A) (h : A → T) (text : List ℕ) (x : T) : Type 0 where
  pub lexemes : List Lexeme
  pub value : A
  pub same : h value ≡ x
  pub reads : (k : List Lexeme) → W (lexemes ++ k) value k
  pub fits : Fits follow leads text lexemes

-- what R reads
pub record Told {A T : Type 0} (follow leads : List ℕ) (R W : Part Lexeme A) (h : A → T) (f : T → List ℕ) : Type 0 where
  pub tell : (ts rest : List Lexeme) (a : A) → R ts a rest → ArePrintable ts → Telling follow leads W h (f (h a)) (h a)
  pub left : (ts rest : List Lexeme) (a : A) → R ts a rest → ArePrintable ts → ArePrintable rest

pub telling_wide : {A T : Type 0} {s l : List ℕ} {W : Part Lexeme A} {h : A → T} {text : List ℕ} {x : T} (t m : List ℕ) → subset t s ≡ true → subset l m ≡ true → Telling s l W h text x → Telling t m W h text x
telling_wide t m e g k = record { lexemes = k.lexemes; value = k.value; same = k.same; reads = k.reads; fits = fits_wide k.fits e g }

pub telling_into : {A T : Type 0} {s l : List ℕ} {W : Part Lexeme A} {h : A → T} {text : List ℕ} {x : T} (V : Part Lexeme A) → ((ts rest : List Lexeme) (a : A) → W ts a rest → V ts a rest) → Telling s l W h text x → Telling s l V h text x
telling_into V w k = record { lexemes = k.lexemes; value = k.value; same = k.same; reads = λ y. w (k.lexemes ++ y) y k.value (k.reads y); fits = k.fits }

-- where the very value is read, and the text is a name
pub told_again : {A T : Type 0} {here : Position} {s l : List ℕ} {R W : Part Lexeme A} {f : A → List ℕ} (h : A → T) (g : T → List ℕ) → ((a : A) → path_written here (f a) ≡ g (h a)) → Again here s l R W f → Told (coarsely s) (coarsely l) R W h g
told_again h g e c = record {
  tell = λ ts rest a r p. let k = c.keep ts rest a r p in record { lexemes = k.lexemes; value = a; same = refl; reads = k.reads; fits = fits_text (e a) k.spelt.fits };
  left = λ ts rest a r p. (c.keep ts rest a r p).left;
}

-- one token that is printed as it is
pub told_tok : {T : Type 0} (s l set : List ℕ) (h : Lexeme → T) (g : T → List ℕ) → apart set (12 ∷ []) ≡ true → ((t : Lexeme) → has set (class_of t) ≡ true → (more : List Lexeme) → ArePrintable (t ∷ more) → Fits s l (g (h t)) (t ∷ []))
    → Told s l (Tok class_of set) (Tok class_of set) h g
unfolding inside
told_tok {T} s l set h g n f = record {
  tell = λ ts rest t r p. record { lexemes = t ∷ []; value = t; same = refl; reads = λ k. (r.0, refl); fits = f t r.0 rest (subst ArePrintable r.1 p) };
  left = λ ts rest t r p. past_token set t rest n r.0 (subst ArePrintable r.1 p);
}

-- what is made of a part's value
pub told_made : {A B S T : Type 0} {s l : List ℕ} {R W : Part Lexeme A} {h : A → S} {f : S → List ℕ} (m : A → B) (i : B → T) (k : S → T) (g : T → List ℕ) → ((a : A) → i (m a) ≡ k (h a)) → ((x : S) → f x ≡ g (k x))
    → Told s l R W h f → Told s l (Made m R) (Made m W) i g
told_made {A} {B} {S} {T} {s} {l} {R} {W} {h} m i k g e q c = record {
  tell = λ ts rest v r p. let t = c.tell ts rest r.0 r.2 p in subst (λ y. Telling s l (Made m W) i (g (i y)) (i y)) r.1 (record {
    lexemes = t.lexemes;
    value = m t.value;
    same = e t.value ∙ ap k t.same ∙ sym (e r.0);
    reads = λ y. (t.value, refl, t.reads y);
    fits = fits_text (q (h r.0) ∙ ap g (sym (e r.0))) t.fits;
  });
  left = λ ts rest v r p. c.left ts rest r.0 r.2 p;
}

pub told_wide : {A T : Type 0} {s l : List ℕ} {R W : Part Lexeme A} {h : A → T} {f : T → List ℕ} (t m : List ℕ) → subset t s ≡ true → subset l m ≡ true → Told s l R W h f → Told t m R W h f
told_wide t m e g c = record { tell = λ ts rest a r p. telling_wide t m e g (c.tell ts rest a r p); left = c.left }

pub told_into : {A T : Type 0} {s l : List ℕ} {R W V : Part Lexeme A} {h : A → T} {f : T → List ℕ} → ((ts rest : List Lexeme) (a : A) → W ts a rest → V ts a rest) → Told s l R W h f → Told s l R V h f
told_into {V = V} w c = record { tell = λ ts rest a r p. telling_into V w (c.tell ts rest a r p); left = c.left }

pub told_from : {A T : Type 0} {s l : List ℕ} {R Q W : Part Lexeme A} {h : A → T} {f : T → List ℕ} → ((ts rest : List Lexeme) (a : A) → ArePrintable ts → Q ts a rest → R ts a rest) → Told s l R W h f → Told s l Q W h f
told_from w c = record { tell = λ ts rest a r p. c.tell ts rest a (w ts rest a p r) p; left = λ ts rest a r p. c.left ts rest a (w ts rest a p r) p }

-- one part and then another
abbrev pub both_of : {A B S T : Type 0} → (A → S) → (B → T) → A × B → S × T
both_of h i v = (h v.0, i v.1)

pub told_then : {A B S T : Type 0} {s l t m : List ℕ} {R W : Part Lexeme A} {Q V : Part Lexeme B} {h : A → S} {i : B → T} {f : S → List ℕ} {g : T → List ℕ}
    → Told t l R W h f → Told s m Q V i g → subset m t ≡ true → Told s l (Then R Q) (Then W V) (both_of h i) (λ v. f v.0 ++ g v.1)
told_then {A} {B} {S} {T} {s} {l} {t} {m} {R} {W} {Q} {V} {h} {i} c d e = record {
  tell = λ ts rest v r p.
      let x = c.tell ts r.0 v.0 r.1 p in
      let y = d.tell r.0 rest v.1 r.2 (c.left ts r.0 v.0 r.1 p) in record {
        lexemes = x.lexemes ++ y.lexemes;
        value = (x.value, y.value);
        same = ap (λ a. (a, i y.value)) x.same ∙ ap (λ a. (h v.0, a)) y.same;
        reads = λ k. subst (λ z. Then W V z (x.value, y.value) k) (sym (append_assoc x.lexemes y.lexemes k)) (y.lexemes ++ k, x.reads (y.lexemes ++ k), y.reads k);
        fits = fits_join x.fits y.fits e;
      };
  left = λ ts rest v r p. d.left r.0 rest v.1 r.2 (c.left ts r.0 v.0 r.1 p);
}

-- one part or another
pub told_both : {A T : Type 0} {s l t m : List ℕ} {R Q W : Part Lexeme A} {h : A → T} {f : T → List ℕ} (u n : List ℕ) → Told s l R W h f → Told t m Q W h f
    → subset u s ≡ true → subset u t ≡ true → subset l n ≡ true → subset m n ≡ true → Told u n (Either R Q) W h f
told_both u n c d e g i j = record {
  tell = λ ts rest a r p. elim r [ inl x ↦ telling_wide u n e i (c.tell ts rest a x p) | inr x ↦ telling_wide u n g j (d.tell ts rest a x p) ];
  left = λ ts rest a r p. elim r [ inl x ↦ c.left ts rest a x p | inr x ↦ d.left ts rest a x p ];
}

pub told_either : {A T : Type 0} {s l t m : List ℕ} {R W Q V : Part Lexeme A} {h : A → T} {f : T → List ℕ} (u n : List ℕ) → Told s l R W h f → Told t m Q V h f
    → subset u s ≡ true → subset u t ≡ true → subset l n ≡ true → subset m n ≡ true → Told u n (Either R Q) (Either W V) h f
told_either {W = W} {V = V} u n c d e g i j = told_both u n (told_into {V = Either W V} (λ ts rest a r. inl r) c) (told_into {V = Either W V} (λ ts rest a r. inr r) d) e g i j

-- a token whose text is q, and then a part
pub told_past : {A T : Type 0} {s l u m q : List ℕ} {R W : Part Lexeme A} {h : A → T} {f : T → List ℕ} (set : List ℕ) (t : Lexeme) → inside class_of set t ≡ true → apart set (12 ∷ []) ≡ true → Fits u m q (t ∷ [])
    → Told s l R W h f → subset l u ≡ true → Told s m (Past class_of set R) (Past class_of set W) h (λ x. q ++ f x)
unfolding inside
told_past {A} {T} {s} {l} {u} {m} {q} {R} {W} {h} {f} set t i n w c e = record {
  tell = λ ts rest v r p.
      let o = past_token set r.0.0 r.2.0 n r.2.1.0 (subst ArePrintable r.2.1.1 p) in
      let k = c.tell r.2.0 rest r.0.1 r.2.2 o in
      subst (λ a. Telling s m (Past class_of set W) h (q ++ f (h a)) (h a)) r.1 (record {
        lexemes = t ∷ k.lexemes;
        value = k.value;
        same = k.same;
        reads = λ x. ((t, k.value), refl, (k.lexemes ++ x, (i, refl), k.reads x));
        fits = fits_join w k.fits e;
      });
  left = λ ts rest v r p. c.left r.2.0 rest r.0.1 r.2.2 (past_token set r.0.0 r.2.0 n r.2.1.0 (subst ArePrintable r.2.1.1 p));
}

-- a part, and then a token whose text is q
pub told_ended : {A T : Type 0} {s l u m q : List ℕ} {R W : Part Lexeme A} {h : A → T} {f : T → List ℕ} (set : List ℕ) (t : Lexeme) → inside class_of set t ≡ true → apart set (12 ∷ []) ≡ true → Fits s m q (t ∷ [])
    → Told u l R W h f → subset m u ≡ true → Told s l (Ended class_of R set) (Ended class_of W set) h (λ x. f x ++ q)
unfolding inside
told_ended {A} {T} {s} {l} {u} {m} {q} {R} {W} {h} {f} set t i n w c e = record {
  tell = λ ts rest v r p.
      let k = c.tell ts r.2.0 r.0.0 r.2.1 p in
      let fits = fits_join k.fits w e in
      subst (λ a. Telling s l (Ended class_of W set) h (f (h a) ++ q) (h a)) r.1 (record {
        lexemes = k.lexemes ++ t ∷ [];
        value = k.value;
        same = k.same;
        reads = λ x. ((k.value, t), refl, (t ∷ x, subst (λ z. W z k.value (t ∷ x)) (sym (append_assoc k.lexemes (t ∷ []) x)) (k.reads (t ∷ x)), (i, refl)));
        fits = fits;
      });
  left = λ ts rest v r p. past_token set r.0.1 rest n r.2.2.0 (subst ArePrintable r.2.2.1 (c.left ts r.2.0 r.0.0 r.2.1 p));
}

-- one token that stands for a value
pub told_mark : {B T : Type 0} {s l q : List ℕ} {i : B → T} {g : T → List ℕ} (m : Lexeme → B) (x : T) (set : List ℕ) (t : Lexeme) → ((a : Lexeme) → has set (class_of a) ≡ true → i (m a) ≡ x) → inside class_of set t ≡ true → apart set (12 ∷ []) ≡ true
    → Fits s l q (t ∷ []) → q ≡ g x → Told s l (Made m (Tok class_of set)) (Made m (Tok class_of set)) i g
unfolding inside
told_mark {B} {T} {s} {l} {q} {i} {g} m x set t e f n w z = record {
  tell = λ ts rest v r p.
      let same = sym (ap i r.1) ∙ e r.0 r.2.0 in record {
        lexemes = t ∷ [];
        value = m t;
        same = e t f ∙ sym same;
        reads = λ k. (t, refl, (f, refl));
        fits = fits_text (z ∙ ap g (sym same)) w;
      };
  left = λ ts rest v r p. past_token set r.0 rest n r.2.0 (subst ArePrintable r.2.1 p);
}

-- a part, any number of times
pub told_each : {A T : Type 0} {s l : List ℕ} {R W : Part Lexeme A} {h : A → T} {f : T → List ℕ} (u m : List ℕ) (g : List T → List ℕ) → [] ≡ g [] → ((a : T) (as_ : List T) → f a ++ g as_ ≡ g (a ∷ as_)) → Told s l R W h f
    → subset m s ≡ true → subset l m ≡ true → subset u m ≡ true → Told u m (Each R) (Each W) (map h) g
told_each {A} {T} {s} {l} {R} {W} {h} {f} u m g z o c e i j = record { tell = tell_each; left = left_each }
  where
    left_each : (ts rest : List Lexeme) (as_ : List A) → Each R ts as_ rest → ArePrintable ts → ArePrintable rest
    left_each ts rest [] r p = subst ArePrintable (sym r) p
    left_each ts rest (a ∷ as_) r p = left_each r.0 rest as_ r.2 (c.left ts r.0 a r.1 p)

    tell_each : (ts rest : List Lexeme) (as_ : List A) → Each R ts as_ rest → ArePrintable ts → Telling u m (Each W) (map h) (g (map h as_)) (map h as_)
    tell_each ts rest [] r p = record { lexemes = []; value = []; same = refl; reads = λ k. refl; fits = fits_text z (fits_wide (fits_none u) (subset_self u) j) }
    tell_each ts rest (a ∷ as_) r p =
        let x = c.tell ts r.0 a r.1 p in
        let y = tell_each r.0 rest as_ r.2 (c.left ts r.0 a r.1 p) in record {
          lexemes = x.lexemes ++ y.lexemes;
          value = x.value ∷ y.value;
          same = ap (λ v. v ∷ map h y.value) x.same ∙ ap (λ v. h a ∷ v) y.same;
          reads = λ k. subst (λ w. Each W w (x.value ∷ y.value) k) (sym (append_assoc x.lexemes y.lexemes k)) (y.lexemes ++ k, x.reads (y.lexemes ++ k), y.reads k);
          fits = fits_text (o (h a) (map h as_)) (fits_wide (fits_join x.fits y.fits e) (subset_self u) i);
        }

-- no token
pub told_nothing : {A T : Type 0} {h : A → T} {f : T → List ℕ} (s : List ℕ) (a : A) → [] ≡ f (h a) → Told s s (Nothing a) (Nothing a) h f
told_nothing {A} {T} {h} {f} s a e = record {
  tell = λ ts rest v r p. record { lexemes = []; value = a; same = ap h (sym r.0); reads = λ k. (refl, refl); fits = fits_text (e ∙ ap (λ x. f (h x)) (sym r.0)) (fits_none s) };
  left = λ ts rest v r p. subst ArePrintable (sym r.1) p;
}

-- A token and then a part, which is one of two, or is made of another's value.

pub told_past_made : {A B T : Type 0} {s l : List ℕ} {h : B → T} {g : T → List ℕ} (set : List ℕ) (R W : Part Lexeme A) (m : A → B) → Told s l (Made m (Past class_of set R)) (Made m (Past class_of set W)) h g
    → Told s l (Past class_of set (Made m R)) (Past class_of set (Made m W)) h g
told_past_made set R W m c = told_from (λ ts rest v r. past_made set m R ts rest v) (told_into (made_past set m W) c)

pub told_past_either : {A T : Type 0} {s l : List ℕ} {h : A → T} {g : T → List ℕ} (set : List ℕ) (R Q W V : Part Lexeme A) → Told s l (Either (Past class_of set R) (Past class_of set Q)) (Either (Past class_of set W) (Past class_of set V)) h g
    → Told s l (Past class_of set (Either R Q)) (Past class_of set (Either W V)) h g
told_past_either set R Q W V c = told_from (λ ts rest v r. past_either set R Q ts rest v) (told_into (either_past set W V) c)

-- parts with a comma and a blank between each two
comma_inside : inside class_of (9 ∷ []) (sign (codes ",")) ≡ true
unfolding inside class_of
comma_inside = refl

seven_more : (s u : List ℕ) → has s 7 ≡ true → subset u s ≡ true → subset (7 ∷ u) s ≡ true
seven_more s u h e = rw h e

pub told_listed : {A T : Type 0} {s l : List ℕ} {R W : Part Lexeme A} {h : A → T} {f : T → List ℕ} (u m : List ℕ) (g g_more : List T → List ℕ) → [] ≡ g [] → [] ≡ g_more [] → ((x : T) (xs : List T) → f x ++ g_more xs ≡ g (x ∷ xs))
    → ((x : T) (xs : List T) → (codes ", " ++ f x) ++ g_more xs ≡ g_more (x ∷ xs)) → Told s l R W h f → has s 7 ≡ true → subset u s ≡ true → subset l all_leads ≡ true → subset l m ≡ true → subset u m ≡ true
    → Told u m (Listed class_of (9 ∷ []) R) (Listed class_of (9 ∷ []) W) (map h) g
told_listed {A} {T} {s} {l} {R} {W} {h} {f} u m g g_more z y o q c w e i j k =
    let more : Told u (7 ∷ u) (Each (Past class_of (9 ∷ []) R)) (Each (Past class_of (9 ∷ []) W)) (map h) g_more =
    told_each u (7 ∷ u) g_more y q (told_past (9 ∷ []) (sign (codes ",")) comma_inside refl (spaced comma refl) c i) (seven_more s u w e) refl (subset_tail 7 u) in
    told_either u m (told_made cons (map h) (λ v. v.0 ∷ v.1) g (λ v. refl) (λ v. o v.0 v.1) (told_then c more (seven_more s u w e))) (told_nothing u [] z) (subset_self u) (subset_self u) j k

-- what is made of a part's value, with the equation of texts for what the part reads
pub told_made_of : {A B S T : Type 0} {s l : List ℕ} {R W : Part Lexeme A} {h : A → S} {f : S → List ℕ} (m : A → B) (i : B → T) (k : S → T) (g : T → List ℕ) → ((a : A) → i (m a) ≡ k (h a))
    → ((ts rest : List Lexeme) (a : A) → R ts a rest → f (h a) ≡ g (k (h a))) → Told s l R W h f → Told s l (Made m R) (Made m W) i g
told_made_of {A} {B} {S} {T} {s} {l} {R} {W} {h} m i k g e q c = record {
  tell = λ ts rest v r p. let t = c.tell ts rest r.0 r.2 p in subst (λ y. Telling s l (Made m W) i (g (i y)) (i y)) r.1 (record {
    lexemes = t.lexemes;
    value = m t.value;
    same = e t.value ∙ ap k t.same ∙ sym (e r.0);
    reads = λ y. (t.value, refl, t.reads y);
    fits = fits_text (q ts rest r.0 r.2 ∙ ap g (sym (e r.0))) t.fits;
  });
  left = λ ts rest v r p. c.left ts rest r.0 r.2 p;
}

-- A part before a token, which is one of two, or is made of another's value.

pub ended_either : {A : Type 0} (set : List ℕ) (R Q : Part Lexeme A) (ts rest : List Lexeme) (a : A) → Ended class_of (Either R Q) set ts a rest → Either (Ended class_of R set) (Ended class_of Q set) ts a rest
ended_either set R Q ts rest a h = elim (h.2.1) [ inl x ↦ inl (h.0, h.1, (h.2.0, x, h.2.2)) | inr x ↦ inr (h.0, h.1, (h.2.0, x, h.2.2)) ]

pub either_ended : {A : Type 0} (set : List ℕ) (R Q : Part Lexeme A) (ts rest : List Lexeme) (a : A) → Either (Ended class_of R set) (Ended class_of Q set) ts a rest → Ended class_of (Either R Q) set ts a rest
either_ended set R Q ts rest a (inl h) = (h.0, h.1, (h.2.0, inl h.2.1, h.2.2))
either_ended set R Q ts rest a (inr h) = (h.0, h.1, (h.2.0, inr h.2.1, h.2.2))

pub ended_made : {A B : Type 0} (set : List ℕ) (f : A → B) (R : Part Lexeme A) (ts rest : List Lexeme) (b : B) → Ended class_of (Made f R) set ts b rest → Made f (Ended class_of R set) ts b rest
ended_made set f R ts rest b h = (h.2.1.0, h.2.1.1 ∙ h.1, ((h.2.1.0, h.0.1), refl, (h.2.0, h.2.1.2, h.2.2)))

pub made_ended : {A B : Type 0} (set : List ℕ) (f : A → B) (R : Part Lexeme A) (ts rest : List Lexeme) (b : B) → Made f (Ended class_of R set) ts b rest → Ended class_of (Made f R) set ts b rest
made_ended set f R ts rest b h = ((b, h.2.0.1), refl, (h.2.2.0, (h.0, h.1, subst (λ v. R ts v h.2.2.0) h.2.1 h.2.2.1), h.2.2.2))

pub told_ended_made : {A B T : Type 0} {s l : List ℕ} {h : B → T} {g : T → List ℕ} (set : List ℕ) (R W : Part Lexeme A) (m : A → B) → Told s l (Made m (Ended class_of R set)) (Made m (Ended class_of W set)) h g
    → Told s l (Ended class_of (Made m R) set) (Ended class_of (Made m W) set) h g
told_ended_made set R W m c = told_from (λ ts rest v r. ended_made set m R ts rest v) (told_into (made_ended set m W) c)

pub told_ended_either : {A T : Type 0} {s l : List ℕ} {h : A → T} {g : T → List ℕ} (set : List ℕ) (R Q W V : Part Lexeme A) → Told s l (Either (Ended class_of R set) (Ended class_of Q set)) (Either (Ended class_of W set) (Ended class_of V set)) h g
    → Told s l (Ended class_of (Either R Q) set) (Ended class_of (Either W V) set) h g
told_ended_either set R Q W V c = told_from (λ ts rest v r. ended_either set R Q ts rest v) (told_into (either_ended set W V) c)

-- another text for what a part reads
pub told_text_of : {A T : Type 0} {s l : List ℕ} {R W : Part Lexeme A} {h : A → T} {f : T → List ℕ} (g : T → List ℕ) → ((ts rest : List Lexeme) (a : A) → R ts a rest → f (h a) ≡ g (h a)) → Told s l R W h f → Told s l R W h g
told_text_of g e c = record {
  tell = λ ts rest a r p. let t = c.tell ts rest a r p in record { lexemes = t.lexemes; value = t.value; same = t.same; reads = t.reads; fits = fits_text (e ts rest a r) t.fits };
  left = c.left;
}

-- What stands between two tokens.

past_map : {A : Type 0} (set : List ℕ) (R Q : Part Lexeme A) → ((ts rest : List Lexeme) (a : A) → R ts a rest → Q ts a rest) → (ts rest : List Lexeme) (a : A) → Past class_of set R ts a rest → Past class_of set Q ts a rest
past_map set R Q f ts rest a h = (h.0, h.1, (h.2.0, h.2.1, f h.2.0 rest h.0.1 h.2.2))

abbrev pub Between : {A : Type 0} → List ℕ → List ℕ → Part Lexeme A → Part Lexeme A
Between a b R = Past class_of a (Ended class_of R b)

pub told_between_made : {A B T : Type 0} {s l : List ℕ} {h : B → T} {g : T → List ℕ} (x y : List ℕ) (R W : Part Lexeme A) (m : A → B) → Told s l (Made m (Between x y R)) (Made m (Between x y W)) h g
    → Told s l (Between x y (Made m R)) (Between x y (Made m W)) h g
told_between_made x y R W m c = told_from (λ ts rest v p r. past_made x m (Ended class_of R y) ts rest v (past_map x (Ended class_of (Made m R) y) (Made m (Ended class_of R y)) (ended_made y m R) ts rest v r))
    (told_into (λ ts rest v r. past_map x (Made m (Ended class_of W y)) (Ended class_of (Made m W) y) (made_ended y m W) ts rest v (made_past x m (Ended class_of W y) ts rest v r)) c)

pub told_between_either : {A T : Type 0} {s l : List ℕ} {h : A → T} {g : T → List ℕ} (x y : List ℕ) (R Q W V : Part Lexeme A) → Told s l (Either (Between x y R) (Between x y Q)) (Either (Between x y W) (Between x y V)) h g
    → Told s l (Between x y (Either R Q)) (Between x y (Either W V)) h g
told_between_either x y R Q W V c = told_from (λ ts rest v p r. past_either x (Ended class_of R y) (Ended class_of Q y) ts rest v (past_map x (Ended class_of (Either R Q) y) (Either (Ended class_of R y) (Ended class_of Q y)) (ended_either y R Q) ts rest v r))
    (told_into (λ ts rest v r. past_map x (Either (Ended class_of W y) (Ended class_of V y)) (Ended class_of (Either W V) y) (either_ended y W V) ts rest v (either_past x (Ended class_of W y) (Ended class_of V y) ts rest v r)) c)

-- a token that does not stand there, and then a part
pub told_added : {A T : Type 0} {s l u m q : List ℕ} {R W : Part Lexeme A} {h : A → T} {f : T → List ℕ} (set : List ℕ) (t : Lexeme) → inside class_of set t ≡ true → Fits u m q (t ∷ [])
    → Told s l R W h f → subset l u ≡ true → Told s m R (Past class_of set W) h (λ x. q ++ f x)
told_added {A} {T} {s} {l} {u} {m} {q} {R} {W} {h} {f} set t i w c e = record {
  tell = λ ts rest v r p. let k = c.tell ts rest v r p in record {
    lexemes = t ∷ k.lexemes;
    value = k.value;
    same = k.same;
    reads = λ x. ((t, k.value), refl, (k.lexemes ++ x, (i, refl), k.reads x));
    fits = fits_join w k.fits e;
  };
  left = c.left;
}

-- what a part leaves is printable where it is
pub record Leaves {A : Type 0} (R : Part Lexeme A) : Type 0 where
  pub leaves : (ts rest : List Lexeme) (a : A) → R ts a rest → ArePrintable ts → ArePrintable rest

pub leaves_tok : (set : List ℕ) → apart set (12 ∷ []) ≡ true → Leaves (Tok class_of set)
unfolding inside
leaves_tok set n = record { leaves = λ ts rest t r p. past_token set t rest n r.0 (subst ArePrintable r.1 p) }

pub leaves_made : {A B : Type 0} {R : Part Lexeme A} (m : A → B) → Leaves R → Leaves (Made m R)
leaves_made m c = record { leaves = λ ts rest v r p. c.leaves ts rest r.0 r.2 p }

pub leaves_then : {A B : Type 0} {R : Part Lexeme A} {Q : Part Lexeme B} → Leaves R → Leaves Q → Leaves (Then R Q)
leaves_then c d = record { leaves = λ ts rest v r p. d.leaves r.0 rest v.1 r.2 (c.leaves ts r.0 v.0 r.1 p) }

pub leaves_either : {A : Type 0} {R Q : Part Lexeme A} → Leaves R → Leaves Q → Leaves (Either R Q)
leaves_either c d = record { leaves = λ ts rest v r p. elim r [ inl x ↦ c.leaves ts rest v x p | inr x ↦ d.leaves ts rest v x p ] }

pub leaves_nothing : {A : Type 0} (a : A) → Leaves (Nothing a)
leaves_nothing a = record { leaves = λ ts rest v r p. subst ArePrintable (sym r.1) p }

pub leaves_past : {A : Type 0} {R : Part Lexeme A} (set : List ℕ) → apart set (12 ∷ []) ≡ true → Leaves R → Leaves (Past class_of set R)
leaves_past set n c = leaves_made (λ v. v.1) (leaves_then (leaves_tok set n) c)

pub leaves_ended : {A : Type 0} {R : Part Lexeme A} (set : List ℕ) → apart set (12 ∷ []) ≡ true → Leaves R → Leaves (Ended class_of R set)
leaves_ended set n c = leaves_made (λ v. v.0) (leaves_then c (leaves_tok set n))

pub leaves_each : {A : Type 0} {R : Part Lexeme A} → Leaves R → Leaves (Each R)
leaves_each {A} {R} c = record { leaves = each_leaves }
  where
    each_leaves : (ts rest : List Lexeme) (as_ : List A) → Each R ts as_ rest → ArePrintable ts → ArePrintable rest
    each_leaves ts rest [] r p = subst ArePrintable (sym r) p
    each_leaves ts rest (a ∷ as_) r p = each_leaves r.0 rest as_ r.2 (c.leaves ts r.0 a r.1 p)

pub told_leaves : {A T : Type 0} {s l : List ℕ} {R W : Part Lexeme A} {h : A → T} {f : T → List ℕ} → Told s l R W h f → Leaves R
told_leaves c = record { leaves = c.left }

-- where each meaning has a reading
pub told_each_meaning : {A T : Type 0} {s l : List ℕ} {R W : Part Lexeme A} {h : A → T} {f : T → List ℕ} → ((x : T) → Telling s l W h (f x) x) → Leaves R → Told s l R W h f
told_each_meaning {h = h} g c = record { tell = λ ts rest a r p. g (h a); left = c.leaves }

-- a text that is written otherwise by the same lexemes
pub told_refit : {A T : Type 0} {s l : List ℕ} {R W : Part Lexeme A} {h : A → T} {f : T → List ℕ} (t m : List ℕ) (g : T → List ℕ) → ((x : T) (ls : List Lexeme) → Fits s l (f x) ls → Fits t m (g x) ls) → Told s l R W h f → Told t m R W h g
told_refit {h = h} t m g e c = record {
  tell = λ ts rest a r p. let k = c.tell ts rest a r p in record { lexemes = k.lexemes; value = k.value; same = k.same; reads = k.reads; fits = e (h a) k.lexemes k.fits };
  left = c.left;
}

-- a token of one text
pub told_sign : {s l q : List ℕ} (set : List ℕ) (t : Lexeme) → inside class_of set t ≡ true → apart set (12 ∷ []) ≡ true → Fits s l q (t ∷ []) → Told s l (Tok class_of set) (Tok class_of set) (λ x. tt) (λ (u : Unit {0}). q)
told_sign set t i n f = told_each_meaning (λ u. record { lexemes = t ∷ []; value = t; same = refl; reads = λ k. (i, refl); fits = f }) (leaves_tok set n)
