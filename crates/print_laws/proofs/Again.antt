-- The words of a grammar, where a part's text, as a name is written, reads again as the part.
use Rattle.std.proofs.Common.{◌≡◌, inl, inr, ℕ, true, List, [], ◌∷◌, ◌++◌, codes, refl, sym, ◌∙◌, ap, subst, append_assoc}
use Rattle.grammar_words.specs.Grammar.{Part, Nothing, Then, Made, Either, Each}
use Rattle.grammar_words.specs.Reading.{cons}
use Rattle.grammar_words.specs.Classes.{has, inside, Tok, Past, Ended, Perhaps_token, Listed, Trailed}
use Rattle.grammar_words.proofs.Sets.{subset, apart}
use Rattle.mir_grammar.specs.Lexemes.{Lexeme, class_of, sign}
use Rattle.mir_grammar.specs.Names.{comma_text, list_text, texts_of, comma_where}
use Rattle.canonical_text.specs.declared.positions.Position.{Position}
use Rattle.canonical_text.specs.declared.positions.Position.TheVariants.{AsType}
use Rattle.print_laws.specs.Printed.{ArePrintable}
use Rattle.print_laws.proofs.Fits.{subset_self, subset_tail}
use Rattle.print_laws.proofs.Spelt.{all_fronts, Spelt, spelt_none, spelt_join, spelt_wide, spelt_text}
use Rattle.print_laws.proofs.NameTokens.{comma, comma_blank}

-- lexemes that this text is at a position, where what is in `follow` stands behind it, and that W reads as the value
pub record Kept {A : Type 0} (here : Position) (follow leads : List ℕ) (W : Part Lexeme A) (text : List ℕ) (a : A) (rest : List Lexeme) : Type 0 where
  pub lexemes : List Lexeme
  pub reads : (k : List Lexeme) → W (lexemes ++ k) a k
  pub spelt : Spelt here AsType follow leads text lexemes
  pub left : ArePrintable rest

-- what R reads has a text, as it stands at a position, which W reads as the same
pub record Again {A : Type 0} (here : Position) (follow leads : List ℕ) (R W : Part Lexeme A) (f : A → List ℕ) : Type 0 where
  pub keep : (ts rest : List Lexeme) (a : A) → R ts a rest → ArePrintable ts → Kept here follow leads W (f a) a rest

-- what stands behind a token that is not ::
pub past_token : (set : List ℕ) (t : Lexeme) (rest : List Lexeme) → apart set (12 ∷ []) ≡ true → has set (class_of t) ≡ true → ArePrintable (t ∷ rest) → ArePrintable rest
past_token set t rest n h r = r.2

pub past_colons : (t : Lexeme) (rest : List Lexeme) → has (12 ∷ []) (class_of t) ≡ true → ArePrintable (t ∷ rest) → ArePrintable rest
past_colons t rest h r = r.2

-- one token, with its own text
pub again_tok : {here : Position} (s l set : List ℕ) → apart set (12 ∷ []) ≡ true → ((t : Lexeme) → has set (class_of t) ≡ true → (more : List Lexeme) → ArePrintable (t ∷ more) → Spelt here AsType s l t.text (t ∷ []))
    → Again here s l (Tok class_of set) (Tok class_of set) (λ t. t.text)
unfolding inside
again_tok s l set n f = record {
  keep = λ ts rest t h r. let q = subst ArePrintable h.1 r in record {
    lexemes = t ∷ [];
    reads = λ k. (h.0, refl);
    spelt = f t h.0 rest q;
    left = past_token set t rest n h.0 q;
  };
}

-- no token
pub again_nothing : {A : Type 0} {f : A → List ℕ} (s : List ℕ) (a : A) → has s 0 ≡ true → [] ≡ f a → Again AsType s s (Nothing a) (Nothing a) f
again_nothing {A} {f} s a z e = record {
  keep = λ ts rest v h r. record {
    lexemes = [];
    reads = λ k. (h.0, refl);
    spelt = spelt_text (e ∙ ap f (sym h.0)) (spelt_none s z);
    left = subst ArePrintable (sym h.1) r;
  };
}

-- what is made of a part's value
pub again_made : {A B : Type 0} {here : Position} {s l : List ℕ} {R W : Part Lexeme A} {f : A → List ℕ} (h : A → B) (g : B → List ℕ) → ((a : A) → f a ≡ g (h a)) → Again here s l R W f → Again here s l (Made h R) (Made h W) g
again_made {A} {B} {here} {s} {l} {R} {W} {f} h g e c = record {
  keep = λ ts rest v m r. let k = c.keep ts rest m.0 m.2 r in record {
    lexemes = k.lexemes;
    reads = λ x. (m.0, m.1, k.reads x);
    spelt = spelt_text (e m.0 ∙ ap g m.1) k.spelt;
    left = k.left;
  };
}

-- another text for the same
pub again_as : {A : Type 0} {here : Position} {s l : List ℕ} {R W : Part Lexeme A} {f g : A → List ℕ} → ((a : A) → f a ≡ g a) → Again here s l R W f → Again here s l R W g
again_as e c = record { keep = λ ts rest v m r. let k = c.keep ts rest v m r in record { lexemes = k.lexemes; reads = k.reads; spelt = spelt_text (e v) k.spelt; left = k.left } }

-- fewer may stand behind it, and more at its front
pub again_wide : {A : Type 0} {here : Position} {s l : List ℕ} {R W : Part Lexeme A} {f : A → List ℕ} (t m : List ℕ) → subset t s ≡ true → subset l m ≡ true → Again here s l R W f → Again here t m R W f
again_wide t m e g c = record { keep = λ ts rest v n r. let k = c.keep ts rest v n r in record { lexemes = k.lexemes; reads = k.reads; spelt = spelt_wide k.spelt e g; left = k.left } }

-- what is read so is read as a part of more
pub again_into : {A : Type 0} {here : Position} {s l : List ℕ} {R W V : Part Lexeme A} {f : A → List ℕ} → ((ts rest : List Lexeme) (a : A) → W ts a rest → V ts a rest) → Again here s l R W f → Again here s l R V f
again_into w c = record { keep = λ ts rest v n r. let k = c.keep ts rest v n r in record { lexemes = k.lexemes; reads = λ x. w (k.lexemes ++ x) x v (k.reads x); spelt = k.spelt; left = k.left } }

-- one part and then another
pub again_then : {A B : Type 0} {here : Position} {s l t m : List ℕ} {R W : Part Lexeme A} {Q V : Part Lexeme B} {f : A → List ℕ} {g : B → List ℕ}
    → Again here t l R W f → Again AsType s m Q V g → subset m t ≡ true → Again here s l (Then R Q) (Then W V) (λ v. f v.0 ++ g v.1)
again_then {A} {B} {here} {s} {l} {t} {m} {R} {W} {Q} {V} c d e = record {
  keep = λ ts rest v h r.
      let i = c.keep ts h.0 v.0 h.1 r in
      let j = d.keep h.0 rest v.1 h.2 i.left in record {
        lexemes = i.lexemes ++ j.lexemes;
        reads = λ k. subst (λ z. Then W V z v k) (sym (append_assoc i.lexemes j.lexemes k)) (j.lexemes ++ k, i.reads (j.lexemes ++ k), j.reads k);
        spelt = spelt_join i.spelt j.spelt e;
        left = j.left;
      };
}

-- one part or another
pub again_either : {A : Type 0} {here : Position} {s l t m : List ℕ} {R W Q V : Part Lexeme A} {f : A → List ℕ} (u n : List ℕ) → Again here s l R W f → Again here t m Q V f
    → subset u s ≡ true → subset u t ≡ true → subset l n ≡ true → subset m n ≡ true → Again here u n (Either R Q) (Either W V) f
again_either {A} {here} {s} {l} {t} {m} {R} {W} {Q} {V} {f} u n c d e g i j = record {
  keep = λ ts rest v h r. elim h [
    | inl x ↦ let k = c.keep ts rest v x r in record { lexemes = k.lexemes; reads = λ y. inl (k.reads y); spelt = spelt_wide k.spelt e i; left = k.left }
    | inr x ↦ let k = d.keep ts rest v x r in record { lexemes = k.lexemes; reads = λ y. inr (k.reads y); spelt = spelt_wide k.spelt g j; left = k.left }
  ];
}

-- the same of one reading
pub again_both : {A : Type 0} {here : Position} {s l t m : List ℕ} {R Q W : Part Lexeme A} {f : A → List ℕ} (u n : List ℕ) → Again here s l R W f → Again here t m Q W f
    → subset u s ≡ true → subset u t ≡ true → subset l n ≡ true → subset m n ≡ true → Again here u n (Either R Q) W f
again_both {A} {here} {s} {l} {t} {m} {R} {Q} {W} {f} u n c d e g i j = record {
  keep = λ ts rest v h r. elim h [
    | inl x ↦ let k = c.keep ts rest v x r in record { lexemes = k.lexemes; reads = k.reads; spelt = spelt_wide k.spelt e i; left = k.left }
    | inr x ↦ let k = d.keep ts rest v x r in record { lexemes = k.lexemes; reads = k.reads; spelt = spelt_wide k.spelt g j; left = k.left }
  ];
}

-- A token whose text is p, and then a part.
past_kept : {A : Type 0} (set : List ℕ) (t : Lexeme) {here there : Position} {s l u m p text : List ℕ} {W : Part Lexeme A} {a : A} {rest : List Lexeme} → inside class_of set t ≡ true → Spelt here there u m p (t ∷ []) → subset l u ≡ true
    → Kept there s l W text a rest → Kept here s m (Past class_of set W) (p ++ text) a rest
past_kept set t {a = a} i f e k = record { lexemes = t ∷ k.lexemes; reads = λ x. ((t, a), refl, (k.lexemes ++ x, (i, refl), k.reads x)); spelt = spelt_join f k.spelt e; left = k.left }

pub again_past : {A : Type 0} {here there : Position} {s l u m p : List ℕ} {R W : Part Lexeme A} {f : A → List ℕ} (set : List ℕ) (t : Lexeme) → inside class_of set t ≡ true → apart set (12 ∷ []) ≡ true → Spelt here there u m p (t ∷ [])
    → Again there s l R W f → subset l u ≡ true → Again here s m (Past class_of set R) (Past class_of set W) (λ a. p ++ f a)
unfolding inside
again_past {A} {here} {there} {s} {l} {u} {m} {p} {R} {W} {f} set t i n q c e = record {
  keep = λ ts rest v h r.
      let o = subst ArePrintable h.2.1.1 r in
      let k = c.keep h.2.0 rest h.0.1 h.2.2 (past_token set h.0.0 h.2.0 n h.2.1.0 o) in
      subst (λ a. Kept here s m (Past class_of set W) (p ++ f a) a rest) h.1 (past_kept set t i q e k);
}

-- the same behind ::
pub again_colons : {A : Type 0} {here there : Position} {s l u m p : List ℕ} {R W : Part Lexeme A} {f : A → List ℕ} (t : Lexeme) → inside class_of (12 ∷ []) t ≡ true → Spelt here there u m p (t ∷ [])
    → Again there s l R W f → subset l u ≡ true → Again here s m (Past class_of (12 ∷ []) R) (Past class_of (12 ∷ []) W) (λ a. p ++ f a)
unfolding inside
again_colons {A} {here} {there} {s} {l} {u} {m} {p} {R} {W} {f} t i q c e = record {
  keep = λ ts rest v h r.
      let o = subst ArePrintable h.2.1.1 r in
      let k = c.keep h.2.0 rest h.0.1 h.2.2 (past_colons h.0.0 h.2.0 h.2.1.0 o) in
      subst (λ a. Kept here s m (Past class_of (12 ∷ []) W) (p ++ f a) a rest) h.1 (past_kept (12 ∷ []) t i q e k);
}

-- :: is left out
pub again_no_colons : {A : Type 0} {here : Position} {s l : List ℕ} {R W : Part Lexeme A} {f : A → List ℕ} → Again here s l R W f → Again here s l (Past class_of (12 ∷ []) R) W f
unfolding inside
again_no_colons {A} {here} {s} {l} {R} {W} {f} c = record {
  keep = λ ts rest v h r.
      let o = subst ArePrintable h.2.1.1 r in
      let k = c.keep h.2.0 rest h.0.1 h.2.2 (past_colons h.0.0 h.2.0 h.2.1.0 o) in
      subst (λ a. Kept here s l W (f a) a rest) h.1 k;
}

-- a part, and then a token whose text is p
pub again_ended : {A : Type 0} {here : Position} {s l u m p : List ℕ} {R W : Part Lexeme A} {f : A → List ℕ} (set : List ℕ) (t : Lexeme) → inside class_of set t ≡ true → apart set (12 ∷ []) ≡ true → Spelt AsType AsType s m p (t ∷ [])
    → Again here u l R W f → subset m u ≡ true → Again here s l (Ended class_of R set) (Ended class_of W set) (λ a. f a ++ p)
unfolding inside
again_ended {A} {here} {s} {l} {u} {m} {p} {R} {W} {f} set t i n q c e = record {
  keep = λ ts rest v h r.
      let k = c.keep ts h.2.0 h.0.0 h.2.1 r in
      let o = subst ArePrintable h.2.2.1 k.left in
      let all = spelt_join k.spelt q e in
      subst (λ a. Kept here s l (Ended class_of W set) (f a ++ p) a rest) h.1 (record {
        lexemes = k.lexemes ++ t ∷ [];
        reads = λ x. ((h.0.0, t), refl, (t ∷ x, subst (λ z. W z h.0.0 (t ∷ x)) (sym (append_assoc k.lexemes (t ∷ []) x)) (k.reads (t ∷ x)), (i, refl)));
        spelt = all;
        left = past_token set h.0.1 rest n h.2.2.0 o;
      });
}

-- a part, any number of times
pub again_each : {A : Type 0} {s l : List ℕ} {R W : Part Lexeme A} {f : A → List ℕ} (u m : List ℕ) (g : List A → List ℕ) → [] ≡ g [] → ((a : A) (as_ : List A) → f a ++ g as_ ≡ g (a ∷ as_)) → Again AsType s l R W f
    → subset m s ≡ true → subset l m ≡ true → subset u m ≡ true → has u 0 ≡ true → Again AsType u m (Each R) (Each W) g
again_each {A} {s} {l} {R} {W} {f} u m g z o c e i j n = record { keep = each_kept }
  where
    each_kept : (ts rest : List Lexeme) (as_ : List A) → Each R ts as_ rest → ArePrintable ts → Kept AsType u m (Each W) (g as_) as_ rest
    each_kept ts rest [] h r = record { lexemes = []; reads = λ k. refl; spelt = spelt_text z (spelt_wide (spelt_none u n) (subset_self u) j); left = subst ArePrintable (sym h) r }
    each_kept ts rest (a ∷ as_) h r =
        let x = c.keep ts h.0 a h.1 r in
        let y = each_kept h.0 rest as_ h.2 x.left in record {
          lexemes = x.lexemes ++ y.lexemes;
          reads = λ k. subst (λ w. Each W w (a ∷ as_) k) (sym (append_assoc x.lexemes y.lexemes k)) (y.lexemes ++ k, x.reads (y.lexemes ++ k), y.reads k);
          spelt = spelt_text (o a as_) (spelt_wide (spelt_join x.spelt y.spelt e) (subset_self u) i);
          left = y.left;
        }

comma_inside : inside class_of (9 ∷ []) (sign (codes ",")) ≡ true
unfolding inside class_of
comma_inside = refl

seven_more : (s u : List ℕ) → has s 7 ≡ true → subset u s ≡ true → subset (7 ∷ u) s ≡ true
seven_more s u h e = rw h e

seven_zero : (u : List ℕ) → has u 0 ≡ true → has (7 ∷ u) 0 ≡ true
seven_zero u z = z

-- parts with a comma and a blank between each two
pub again_listed : {A : Type 0} {s l : List ℕ} {R W : Part Lexeme A} {f : A → List ℕ} (u m : List ℕ) → Again AsType s l R W f → has s 7 ≡ true → subset u s ≡ true → subset l all_fronts ≡ true → subset l m ≡ true → subset u m ≡ true → has u 0 ≡ true
    → Again AsType u m (Listed class_of (9 ∷ []) R) (Listed class_of (9 ∷ []) W) (λ as_. list_text (texts_of f as_))
again_listed {A} {s} {l} {R} {W} {f} u m c h e i j k z =
    let more : Again AsType u (7 ∷ u) (Each (Past class_of (9 ∷ []) R)) (Each (Past class_of (9 ∷ []) W)) (λ as_. comma_text (texts_of f as_)) =
    again_each u (7 ∷ u) (λ as_. comma_text (texts_of f as_)) refl (λ a as_. append_assoc (codes ", ") (f a) (comma_text (texts_of f as_))) (again_past (9 ∷ []) (sign (codes ",")) comma_inside refl comma_blank c i)
    (seven_more s u h e) refl (subset_tail 7 u) z in
    again_either u m (again_made cons (λ as_. list_text (texts_of f as_)) (λ v. refl) (again_then c more (seven_more s u h e))) (again_nothing u [] z refl) (subset_self u) (subset_self u) j k

-- whether a comma stands there
again_comma : (u : List ℕ) → subset u all_fronts ≡ true → has u 0 ≡ true → Again AsType u (7 ∷ u) (Perhaps_token class_of (9 ∷ [])) (Perhaps_token class_of (9 ∷ [])) comma_where
unfolding inside
again_comma u e z = record {
  keep = λ ts rest v h r. elim h [
    | inl x ↦ record {
      lexemes = sign (codes ",") ∷ [];
      reads = λ k. inl (sign (codes ","), x.1, (comma_inside, refl));
      spelt = spelt_text (ap comma_where x.1) (spelt_wide comma e refl);
      left = past_token (9 ∷ []) x.0 rest refl x.2.0 (subst ArePrintable x.2.1 r);
    }
    | inr x ↦ record {
      lexemes = [];
      reads = λ k. inr (x.0, refl);
      spelt = spelt_text (ap comma_where (sym x.0)) (spelt_wide (spelt_none u z) (subset_self u) (subset_tail 7 u));
      left = subst ArePrintable (sym x.1) r;
    }
  ];
}

-- the same, and whether a comma stands behind them
pub again_trailed : {A : Type 0} {s l : List ℕ} {R W : Part Lexeme A} {f : A → List ℕ} (u m : List ℕ) → Again AsType s l R W f → has s 7 ≡ true → subset u s ≡ true → subset u all_fronts ≡ true → subset l all_fronts ≡ true
    → subset l m ≡ true → has m 7 ≡ true → subset u m ≡ true → has u 0 ≡ true
    → Again AsType u m (Trailed class_of (9 ∷ []) R) (Trailed class_of (9 ∷ []) W) (λ v. list_text (texts_of f v.0) ++ comma_where v.1)
again_trailed u m c h e a i j n k z = again_then (again_listed (7 ∷ u) m c h (seven_more _ u h e) i j (seven_more m u n k) (seven_zero u z)) (again_comma u a z) (subset_self (7 ∷ u))

-- One token that stands for a value.
pub again_mark : {A : Type 0} {here : Position} {s l p : List ℕ} {g : A → List ℕ} (a : A) (set : List ℕ) (t : Lexeme) → inside class_of set t ≡ true → apart set (12 ∷ []) ≡ true → Spelt here AsType s l p (t ∷ []) → p ≡ g a
    → Again here s l (Made (λ x. a) (Tok class_of set)) (Made (λ x. a) (Tok class_of set)) g
unfolding inside
again_mark {A} {here} {s} {l} {p} {g} a set t i n q e = record {
  keep = λ ts rest v h r. record {
    lexemes = t ∷ [];
    reads = λ k. (t, h.1, (i, refl));
    spelt = spelt_text (e ∙ ap g h.1) q;
    left = past_token set h.0 rest n h.2.0 (subst ArePrintable h.2.1 r);
  };
}

-- one token of which the text is p
pub again_tok_as : {here : Position} {p : List ℕ} (s l set : List ℕ) → apart set (12 ∷ []) ≡ true → ((t : Lexeme) → has set (class_of t) ≡ true → t.text ≡ p) → ((t : Lexeme) → has set (class_of t) ≡ true → (more : List Lexeme) → ArePrintable (t ∷ more) → Spelt here AsType s l t.text (t ∷ []))
    → Again here s l (Tok class_of set) (Tok class_of set) (λ t. p)
unfolding inside
again_tok_as {here} {p} s l set n e f = record {
  keep = λ ts rest t h r. let q = subst ArePrintable h.1 r in record {
    lexemes = t ∷ [];
    reads = λ k. (h.0, refl);
    spelt = spelt_text (e t h.0) (f t h.0 rest q);
    left = past_token set t rest n h.0 q;
  };
}

-- what is read so, where the tokens are printable, is also read as what has a text
pub again_from : {A : Type 0} {here : Position} {s l : List ℕ} {R Q W : Part Lexeme A} {f : A → List ℕ} → ((ts rest : List Lexeme) (a : A) → ArePrintable ts → Q ts a rest → R ts a rest) → Again here s l R W f → Again here s l Q W f
again_from w c = record { keep = λ ts rest v n r. c.keep ts rest v (w ts rest v r n) r }

-- A token and then a part, which is one of two, or is made of another's value.

pub past_either : {A : Type 0} (set : List ℕ) (R Q : Part Lexeme A) (ts rest : List Lexeme) (a : A) → Past class_of set (Either R Q) ts a rest → Either (Past class_of set R) (Past class_of set Q) ts a rest
past_either set R Q ts rest a h = elim (h.2.2) [ inl x ↦ inl (h.0, h.1, (h.2.0, h.2.1, x)) | inr x ↦ inr (h.0, h.1, (h.2.0, h.2.1, x)) ]

pub either_past : {A : Type 0} (set : List ℕ) (R Q : Part Lexeme A) (ts rest : List Lexeme) (a : A) → Either (Past class_of set R) (Past class_of set Q) ts a rest → Past class_of set (Either R Q) ts a rest
either_past set R Q ts rest a (inl h) = (h.0, h.1, (h.2.0, h.2.1, inl h.2.2))
either_past set R Q ts rest a (inr h) = (h.0, h.1, (h.2.0, h.2.1, inr h.2.2))

pub past_made : {A B : Type 0} (set : List ℕ) (f : A → B) (R : Part Lexeme A) (ts rest : List Lexeme) (b : B) → Past class_of set (Made f R) ts b rest → Made f (Past class_of set R) ts b rest
past_made set f R ts rest b h = (h.2.2.0, h.2.2.1 ∙ h.1, ((h.0.0, h.2.2.0), refl, (h.2.0, h.2.1, h.2.2.2)))

pub made_past : {A B : Type 0} (set : List ℕ) (f : A → B) (R : Part Lexeme A) (ts rest : List Lexeme) (b : B) → Made f (Past class_of set R) ts b rest → Past class_of set (Made f R) ts b rest
made_past set f R ts rest b h = ((h.2.0.0, b), refl, (h.2.2.0, h.2.2.1, (h.0, h.1, subst (λ v. R h.2.2.0 v rest) h.2.1 h.2.2.2)))

pub again_past_made : {A B : Type 0} {here : Position} {s l : List ℕ} {g : B → List ℕ} (set : List ℕ) (R W : Part Lexeme A) (h : A → B) → Again here s l (Made h (Past class_of set R)) (Made h (Past class_of set W)) g
    → Again here s l (Past class_of set (Made h R)) (Past class_of set (Made h W)) g
again_past_made set R W h c = again_from (λ ts rest v r. past_made set h R ts rest v) (again_into (made_past set h W) c)

pub again_past_either : {A : Type 0} {here : Position} {s l : List ℕ} {g : A → List ℕ} (set : List ℕ) (R Q W V : Part Lexeme A) → Again here s l (Either (Past class_of set R) (Past class_of set Q)) (Either (Past class_of set W) (Past class_of set V)) g
    → Again here s l (Past class_of set (Either R Q)) (Past class_of set (Either W V)) g
again_past_either set R Q W V c = again_from (λ ts rest v r. past_either set R Q ts rest v) (again_into (either_past set W V) c)
