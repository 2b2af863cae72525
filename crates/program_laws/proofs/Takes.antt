-- The words of a grammar, and what they take: what is read is well made, and weighs no more than the tokens that it takes.
use Rattle.std.proofs.Common.{◌≡◌, inl, inr, ℕ, suc, ◌+◌, ◌≤◌, Bool, true, false, List, [], ◌∷◌, length, refl, sym, ap, subst, le_refl, arith}
use Rattle.std.specs.Bool.{⊤}
use Rattle.mir_lex.specs.Tokens.{IsToken}
use Rattle.grammar_words.specs.Grammar.{Part, Nothing, Then, Made, Either, Each, Never}
use Rattle.grammar_words.specs.Reading.{cons, first, second}
use Rattle.grammar_words.specs.Classes.{has, inside, Tok, Past, Ended, Perhaps, Perhaps_token, Listed, Trailed}
use Rattle.mir_grammar.specs.Lexemes.{Lexeme, class_of}

-- lexemes that are tokens
abbrev pub AreTokens : List Lexeme → Type 0
AreTokens [] = ⊤
AreTokens (t ∷ ts) = IsToken t.kind t.text × AreTokens ts

-- what is read of these tokens keeps a fact, and weighs no more than the tokens before the rest
pub record Taken (weight : ℕ) (Fact : Type 0) (ts rest : List Lexeme) : Type 0 where
  pub left : AreTokens rest
  pub fact : Fact
  pub spent : length rest + weight ≤ length ts

pub record Takes {A : Type 0} (R : Part Lexeme A) (P : A → Type 0) (w : A → ℕ) : Type 0 where
  pub taken : (ts rest : List Lexeme) (a : A) → R ts a rest → AreTokens ts → Taken (w a) (P a) ts rest

-- of which nothing is said
abbrev pub Anything : {A : Type 0} → A → Type 0
Anything a = ⊤

-- which weighs nothing
abbrev pub nil : {A : Type 0} → A → ℕ
nil a = 0

abbrev pub Every : {A : Type 0} → (A → Type 0) → List A → Type 0
Every P [] = ⊤
Every P (a ∷ as_) = P a × Every P as_

abbrev pub total : {A : Type 0} → (A → ℕ) → List A → ℕ
total w [] = 0
total w (a ∷ as_) = w a + total w as_

pub takes_tok : (set : List ℕ) (P : Lexeme → Type 0) → ((t : Lexeme) → has set (class_of t) ≡ true → IsToken t.kind t.text → P t) → Takes (Tok class_of set) P (λ t. 1)
unfolding inside
takes_tok set P f = record {
  taken = λ ts rest t r p. let q = subst AreTokens r.1 p in record { left = q.1; fact = f t r.0 q.0; spent = let e : length ts ≡ suc (length rest) = ap length r.1 in omega arith };
}

pub takes_any : (set : List ℕ) → Takes (Tok class_of set) Anything (λ t. 1)
takes_any set = takes_tok set Anything (λ t h i. tt)

-- what is said is said of more, and the weight is less
pub takes_into : {A : Type 0} {R : Part Lexeme A} {P O : A → Type 0} {w v : A → ℕ} → ((a : A) → P a → O a × (v a ≤ w a)) → Takes R P w → Takes R O v
takes_into f r = record {
  taken = λ ts rest a h p. let x = r.taken ts rest a h p in let y = f a x.fact in record { left = x.left; fact = y.0; spent = let c = x.spent in let d = y.1 in omega arith };
}

pub takes_made : {A B : Type 0} {R : Part Lexeme A} {P : A → Type 0} {w : A → ℕ} {O : B → Type 0} {v : B → ℕ} (f : A → B) → ((a : A) → P a → O (f a) × (v (f a) ≤ w a)) → Takes R P w → Takes (Made f R) O v
takes_made {A} {B} {R} {P} {w} {O} {v} f g r = record {
  taken = λ ts rest b h p. let x = r.taken ts rest h.0 h.2 p in let y = g h.0 x.fact in
      subst (λ k. Taken (v k) (O k) ts rest) h.1 (record { left = x.left; fact = y.0; spent = let c = x.spent in let d = y.1 in omega arith });
}

pub takes_then : {A B : Type 0} {R : Part Lexeme A} {P : A → Type 0} {w : A → ℕ} {Q : Part Lexeme B} {O : B → Type 0} {v : B → ℕ} → Takes R P w → Takes Q O v
    → Takes (Then R Q) (λ (x : A × B). P x.0 × O x.1) (λ (x : A × B). w x.0 + v x.1)
takes_then r q = record {
  taken = λ ts rest x h p. let a = r.taken ts h.0 x.0 h.1 p in let b = q.taken h.0 rest x.1 h.2 a.left in record { left = b.left; fact = (a.fact, b.fact); spent = let c = a.spent in let d = b.spent in omega arith };
}

pub takes_either : {A : Type 0} {R Q : Part Lexeme A} {P : A → Type 0} {w : A → ℕ} → Takes R P w → Takes Q P w → Takes (Either R Q) P w
takes_either r q = record { taken = λ ts rest a h p. elim h [ inl x ↦ r.taken ts rest a x p | inr x ↦ q.taken ts rest a x p ] }

pub takes_nothing : {A : Type 0} (P : A → Type 0) (w : A → ℕ) (a : A) → P a → w a ≡ 0 → Takes (Nothing a) P w
takes_nothing P w a f z = record {
  taken = λ ts rest b h p. subst (λ k. Taken (w k) (P k) ts rest) (sym h.0) (record { left = subst AreTokens (sym h.1) p; fact = f; spent = let e : length rest ≡ length ts = ap length h.1 in omega arith });
}

pub takes_never : {A : Type 0} (P : A → Type 0) (w : A → ℕ) → Takes (Never {K = Lexeme} {A = A}) P w
takes_never P w = record { taken = λ ts rest a h p. absurd h }

-- behind a token, which weighs one
pub takes_past_more : {A : Type 0} {R : Part Lexeme A} {P : A → Type 0} {w : A → ℕ} (set : List ℕ) → Takes R P w → Takes (Past class_of set R) P (λ (a : A). 1 + w a)
takes_past_more {A} {R} {P} {w} set r = takes_made second (λ x g. (g.1, le_refl (1 + w x.1))) (takes_then (takes_any set) r)

pub takes_past : {A : Type 0} {R : Part Lexeme A} {P : A → Type 0} {w : A → ℕ} (set : List ℕ) → Takes R P w → Takes (Past class_of set R) P w
takes_past {A} {R} {P} {w} set r = takes_into (λ a g. (g, omega arith)) (takes_past_more set r)

pub takes_ended : {A : Type 0} {R : Part Lexeme A} {P : A → Type 0} {w : A → ℕ} (set : List ℕ) → Takes R P w → Takes (Ended class_of R set) P w
takes_ended {A} {R} {P} {w} set r = takes_made first (λ x g. (g.0, omega arith)) (takes_then r (takes_any set))

pub takes_each : {A : Type 0} {R : Part Lexeme A} {P : A → Type 0} {w : A → ℕ} → Takes R P w → Takes (Each R) (Every P) (total w)
takes_each {A} {R} {P} {w} r = record { taken = go }
  where
    go : (ts rest : List Lexeme) (as_ : List A) → Each R ts as_ rest → AreTokens ts → Taken (total w as_) (Every P as_) ts rest
    go ts rest [] h p = record { left = subst AreTokens (sym h) p; fact = tt; spent = let e : length rest ≡ length ts = ap length h in omega arith }
    go ts rest (a ∷ as_) h p = let x = r.taken ts h.0 a h.1 p in let y = go h.0 rest as_ h.2 x.left in record { left = y.left; fact = (x.fact, y.fact); spent = let c = x.spent in let d = y.spent in omega arith }

pub takes_perhaps : {A : Type 0} {R : Part Lexeme A} {P : A → Type 0} {w : A → ℕ} (a : A) → P a → w a ≡ 0 → Takes R P w → Takes (Perhaps a R) P w
takes_perhaps {A} {R} {P} {w} a f z r = takes_either r (takes_nothing P w a f z)

pub takes_listed : {A : Type 0} {R : Part Lexeme A} {P : A → Type 0} {w : A → ℕ} (k : List ℕ) → Takes R P w → Takes (Listed class_of k R) (Every P) (total w)
takes_listed {A} {R} {P} {w} k r = takes_perhaps [] tt refl (takes_made cons (λ x g. (g, le_refl (w x.0 + total w x.1))) (takes_then r (takes_each (takes_past k r))))

pub takes_perhaps_token : (k : List ℕ) → Takes (Perhaps_token class_of k) Anything nil
takes_perhaps_token k = takes_perhaps false tt refl (takes_made (λ t. true) (λ t g. (tt, omega arith)) (takes_any k))

pub takes_trailed : {A : Type 0} {R : Part Lexeme A} {P : A → Type 0} {w : A → ℕ} (k : List ℕ) → Takes R P w → Takes (Trailed class_of k R) (λ (v : List A × Bool). Every P v.0) (λ (v : List A × Bool). total w v.0)
takes_trailed {A} {R} {P} {w} k r = takes_into (λ x g. (g.0, omega arith)) (takes_then (takes_listed k r) (takes_perhaps_token k))
