-- The same where a part is read again by another part, with values of its own: a value a of the first means m a, and a value
-- b of the second h b.
use Rattle.std.proofs.Common.{◌≡◌, inl, inr, ℕ, true, List, [], ◌∷◌, ◌++◌, refl, sym, ◌∙◌, ap, subst, append_assoc}
use Rattle.grammar_words.specs.Grammar.{Part, Then, Made, Either}
use Rattle.grammar_words.specs.Classes.{inside, Past, Ended}
use Rattle.grammar_words.proofs.Sets.{subset, apart}
use Rattle.mir_grammar.specs.Lexemes.{Lexeme, class_of}
use Rattle.print_laws.specs.Printed.{ArePrintable}
use Rattle.print_laws.proofs.Fits.{Fits, fits_join, fits_text}
use Rattle.print_laws.proofs.Again.{past_token}
use Rattle.print_laws.proofs.Told.{Telling, Told, both_of, telling_wide, telling_into}

pub record ToldAs {A B T : Type 0} (follow leads : List ℕ) (R : Part Lexeme A) (W : Part Lexeme B) (m : A → T) (h : B → T) (f : T → List ℕ) : Type 0 where
  pub tell : (ts rest : List Lexeme) (a : A) → R ts a rest → ArePrintable ts → Telling follow leads W h (f (m a)) (m a)
  pub left : (ts rest : List Lexeme) (a : A) → R ts a rest → ArePrintable ts → ArePrintable rest

pub as_told : {A T : Type 0} {s l : List ℕ} {R W : Part Lexeme A} {h : A → T} {f : T → List ℕ} → Told s l R W h f → ToldAs s l R W h h f
as_told c = record { tell = c.tell; left = c.left }

-- what is made of both values
pub as_made : {A B C D S T : Type 0} {s l : List ℕ} {R : Part Lexeme A} {W : Part Lexeme B} {m : A → S} {h : B → S} {f : S → List ℕ} (p : A → C) (q : B → D) (n : C → T) (i : D → T) (k : S → T) (g : T → List ℕ)
    → ((a : A) → n (p a) ≡ k (m a)) → ((a : B) → i (q a) ≡ k (h a)) → ((x : S) → f x ≡ g (k x)) → ToldAs s l R W m h f → ToldAs s l (Made p R) (Made q W) n i g
as_made {s = s} {l = l} {R = R} {W = W} {m = m} {h = h} p q n i k g e d t c = record {
  tell = λ ts rest v r x. let z = c.tell ts rest r.0 r.2 x in subst (λ y. Telling s l (Made q W) i (g y) y) (sym (e r.0) ∙ ap n r.1) (record {
    lexemes = z.lexemes;
    value = q z.value;
    same = d z.value ∙ ap k z.same;
    reads = λ y. (z.value, refl, z.reads y);
    fits = fits_text (t (m r.0)) z.fits;
  });
  left = λ ts rest v r x. c.left ts rest r.0 r.2 x;
}

-- what is made of what is read again
pub as_value : {A B D T : Type 0} {s l : List ℕ} {R : Part Lexeme A} {W : Part Lexeme B} {m : A → T} {h : B → T} {f : T → List ℕ} (q : B → D) (i : D → T) → ((a : B) → i (q a) ≡ h a) → ToldAs s l R W m h f → ToldAs s l R (Made q W) m i f
as_value q i d c = record {
  tell = λ ts rest v r x. let z = c.tell ts rest v r x in record { lexemes = z.lexemes; value = q z.value; same = d z.value ∙ z.same; reads = λ y. (z.value, refl, z.reads y); fits = z.fits };
  left = c.left;
}

pub as_wide : {A B T : Type 0} {s l : List ℕ} {R : Part Lexeme A} {W : Part Lexeme B} {m : A → T} {h : B → T} {f : T → List ℕ} (t n : List ℕ) → subset t s ≡ true → subset l n ≡ true → ToldAs s l R W m h f → ToldAs t n R W m h f
as_wide t n e g c = record { tell = λ ts rest a r x. telling_wide t n e g (c.tell ts rest a r x); left = c.left }

pub as_into : {A B T : Type 0} {s l : List ℕ} {R : Part Lexeme A} {W : Part Lexeme B} {m : A → T} {h : B → T} {f : T → List ℕ} (V : Part Lexeme B) → ((ts rest : List Lexeme) (a : B) → W ts a rest → V ts a rest) → ToldAs s l R W m h f → ToldAs s l R V m h f
as_into V w c = record { tell = λ ts rest a r x. telling_into V w (c.tell ts rest a r x); left = c.left }

pub as_then : {A B C D S T : Type 0} {s l t n : List ℕ} {R : Part Lexeme A} {W : Part Lexeme B} {Q : Part Lexeme C} {V : Part Lexeme D} {m : A → S} {h : B → S} {o : C → T} {i : D → T} {f : S → List ℕ} {g : T → List ℕ}
    → ToldAs t l R W m h f → ToldAs s n Q V o i g → subset n t ≡ true → ToldAs s l (Then R Q) (Then W V) (both_of m o) (both_of h i) (λ v. f v.0 ++ g v.1)
as_then {W = W} {V = V} {m = m} {h = h} {o = o} {i = i} c d e = record {
  tell = λ ts rest v r p.
      let x = c.tell ts r.0 v.0 r.1 p in
      let y = d.tell r.0 rest v.1 r.2 (c.left ts r.0 v.0 r.1 p) in record {
        lexemes = x.lexemes ++ y.lexemes;
        value = (x.value, y.value);
        same = ap (λ a. (a, i y.value)) x.same ∙ ap (λ a. (m v.0, a)) y.same;
        reads = λ k. subst (λ z. Then W V z (x.value, y.value) k) (sym (append_assoc x.lexemes y.lexemes k)) (y.lexemes ++ k, x.reads (y.lexemes ++ k), y.reads k);
        fits = fits_join x.fits y.fits e;
      };
  left = λ ts rest v r p. d.left r.0 rest v.1 r.2 (c.left ts r.0 v.0 r.1 p);
}

pub as_both : {A B T : Type 0} {s l : List ℕ} {R Q : Part Lexeme A} {W : Part Lexeme B} {m : A → T} {h : B → T} {f : T → List ℕ} → ToldAs s l R W m h f → ToldAs s l Q W m h f → ToldAs s l (Either R Q) W m h f
as_both c d = record {
  tell = λ ts rest a r p. elim r [ inl x ↦ c.tell ts rest a x p | inr x ↦ d.tell ts rest a x p ];
  left = λ ts rest a r p. elim r [ inl x ↦ c.left ts rest a x p | inr x ↦ d.left ts rest a x p ];
}

-- a token on both sides
pub as_past : {A B T : Type 0} {s l u n q : List ℕ} {R : Part Lexeme A} {W : Part Lexeme B} {m : A → T} {h : B → T} {f : T → List ℕ} (set : List ℕ) (t : Lexeme) → inside class_of set t ≡ true → apart set (12 ∷ []) ≡ true → Fits u n q (t ∷ [])
    → ToldAs s l R W m h f → subset l u ≡ true → ToldAs s n (Past class_of set R) (Past class_of set W) m h (λ x. q ++ f x)
unfolding inside
as_past {s = s} {n = n} {q = q} {W = W} {m = m} {h = h} {f = f} set t i a w c e = record {
  tell = λ ts rest v r p.
      let o = past_token set r.0.0 r.2.0 a r.2.1.0 (subst ArePrintable r.2.1.1 p) in
      let k = c.tell r.2.0 rest r.0.1 r.2.2 o in
      subst (λ z. Telling s n (Past class_of set W) h (q ++ f (m z)) (m z)) r.1 (record {
        lexemes = t ∷ k.lexemes;
        value = k.value;
        same = k.same;
        reads = λ x. ((t, k.value), refl, (k.lexemes ++ x, (i, refl), k.reads x));
        fits = fits_join w k.fits e;
      });
  left = λ ts rest v r p. c.left r.2.0 rest r.0.1 r.2.2 (past_token set r.0.0 r.2.0 a r.2.1.0 (subst ArePrintable r.2.1.1 p));
}

pub as_ended : {A B T : Type 0} {s l u n q : List ℕ} {R : Part Lexeme A} {W : Part Lexeme B} {m : A → T} {h : B → T} {f : T → List ℕ} (set : List ℕ) (t : Lexeme) → inside class_of set t ≡ true → apart set (12 ∷ []) ≡ true → Fits s n q (t ∷ [])
    → ToldAs u l R W m h f → subset n u ≡ true → ToldAs s l (Ended class_of R set) (Ended class_of W set) m h (λ x. f x ++ q)
unfolding inside
as_ended {s = s} {l = l} {q = q} {W = W} {m = m} {h = h} {f = f} set t i a w c e = record {
  tell = λ ts rest v r p.
      let k = c.tell ts r.2.0 r.0.0 r.2.1 p in
      let fits = fits_join k.fits w e in
      subst (λ z. Telling s l (Ended class_of W set) h (f (m z) ++ q) (m z)) r.1 (record {
        lexemes = k.lexemes ++ t ∷ [];
        value = k.value;
        same = k.same;
        reads = λ x. ((k.value, t), refl, (t ∷ x, subst (λ z. W z k.value (t ∷ x)) (sym (append_assoc k.lexemes (t ∷ []) x)) (k.reads (t ∷ x)), (i, refl)));
        fits = fits;
      });
  left = λ ts rest v r p. past_token set r.0.1 rest a r.2.2.0 (subst ArePrintable r.2.2.1 (c.left ts r.2.0 r.0.0 r.2.1 p));
}

-- a token before what is read again alone
pub as_added : {A B T : Type 0} {s l u n q : List ℕ} {R : Part Lexeme A} {W : Part Lexeme B} {m : A → T} {h : B → T} {f : T → List ℕ} (set : List ℕ) (t : Lexeme) → inside class_of set t ≡ true → Fits u n q (t ∷ [])
    → ToldAs s l R W m h f → subset l u ≡ true → ToldAs s n R (Past class_of set W) m h (λ x. q ++ f x)
as_added set t i w c e = record {
  tell = λ ts rest v r p. let k = c.tell ts rest v r p in record {
    lexemes = t ∷ k.lexemes;
    value = k.value;
    same = k.same;
    reads = λ x. ((t, k.value), refl, (k.lexemes ++ x, (i, refl), k.reads x));
    fits = fits_join w k.fits e;
  };
  left = c.left;
}

-- a part behind what is read again alone
pub as_with : {A B D X T : Type 0} {s l t n q : List ℕ} {R : Part Lexeme A} {W : Part Lexeme B} {V : Part Lexeme D} {m : A → T} {h : B → T} {f : T → List ℕ} {o : D → X} {x : X}
    → ToldAs t l R W m h f → Telling s n V o q x → subset n t ≡ true → ToldAs s l R (Then W V) m (λ v. h v.0) (λ x. f x ++ q)
as_with {W = W} {V = V} c y e = record {
  tell = λ ts rest v r p.
      let x = c.tell ts rest v r p in record {
        lexemes = x.lexemes ++ y.lexemes;
        value = (x.value, y.value);
        same = x.same;
        reads = λ k. subst (λ z. Then W V z (x.value, y.value) k) (sym (append_assoc x.lexemes y.lexemes k)) (y.lexemes ++ k, x.reads (y.lexemes ++ k), y.reads k);
        fits = fits_join x.fits y.fits e;
      };
  left = c.left;
}
