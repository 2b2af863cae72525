-- What the test of two tokens says of a part, by its shape.
use Rattle.std.proofs.Common.{◌≡◌, inl, inr, ℕ, Bool, true, false, ◌&&◌, ◌||◌, not, List, [], ◌∷◌, refl, sym, subst}
use Rattle.grammar_words.specs.Grammar.{Part, Then, Made, Either, starts}
use Rattle.grammar_words.specs.Classes.{inside, outside, Tok, bare}
use Rattle.grammar_words.proofs.Laws.{any, ends, ends_any}
use Rattle.grammar_words.proofs.Spelled.{Within}
use Rattle.grammar_words.proofs.Sets.{subset, apart, subset_has, starts_subset, starts_apart, ends_subset, ends_not, ends_none}
use Rattle.grammar_words.proofs.Ready.{Shape, Opens, both_true}
use Rattle.grammar_words.proofs.Fork.{Seen}

-- no token of the part's firsts is in b
bare_apart : {K : Type 0} (c : K → ℕ) (b k d : List ℕ) (ts : List K) → starts (inside c b) ts ≡ false → bare c b k d ts ≡ false
bare_apart c b k d [] e = refl
bare_apart c b k d (t ∷ ts) e = rw e refl

bare_alone : {K : Type 0} (c : K → ℕ) (b k d : List ℕ) (ts : List K) → starts (inside c b) ts ≡ true → starts (inside c k) ts ≡ false → bare c b k d ts ≡ true
bare_alone c b k d [] e f = e
bare_alone c b k d (t ∷ ts) e f = rw (e, f) refl

bare_behind : {K : Type 0} (c : K → ℕ) (b k d : List ℕ) (t : K) (ts : List K) → inside c b t ≡ true → starts (inside c d) ts ≡ false → bare c b k d (t ∷ ts) ≡ true
bare_behind c b k d t ts e f = rw (e, f) (go (inside c k t))
  where
    go : (i : Bool) → not (i && false) ≡ true
    go true = refl
    go false = refl

bare_before : {K : Type 0} (c : K → ℕ) (b k d : List ℕ) (t : K) (ts : List K) → inside c k t ≡ true → starts (inside c d) ts ≡ true → bare c b k d (t ∷ ts) ≡ false
bare_before c b k d t ts e f = rw (e, f) (go (inside c b t))
  where
    go : (i : Bool) → (i && not (true && true)) ≡ false
    go true = refl
    go false = refl

-- it begins with no token of b
pub seen-apart : {K A : Type 0} {c : K → ℕ} {z : K → Bool} {R : Part K A} (g : Shape) (b k d : List ℕ) → Opens c g R → (not g.empty && apart g.firsts b) ≡ true → Seen c b k d z false R
seen-apart {K} {A} {c} {z} {R} g b k d o e = record {
  sees = λ ts rest a r n.
      let f = both_true _ _ e in
      bare_apart c b k d ts (elim (o ts rest a r) [ inl i ↦ starts_apart c g.firsts b f.1 ts i | inr i ↦ absurd (let j : not true ≡ true = subst (λ u. not u ≡ true) i.0 f.0 in cc) ]);
}

-- it begins with a token of b that is not in k
pub seen-alone : {K A : Type 0} {c : K → ℕ} {z : K → Bool} {R : Part K A} (g : Shape) (b k d : List ℕ) → Opens c g R → (not g.empty && (subset g.firsts b && apart g.firsts k)) ≡ true → Seen c b k d z true R
seen-alone {K} {A} {c} {z} {R} g b k d o e = record {
  sees = λ ts rest a r n.
      let f = both_true _ _ e in
      let h = both_true _ _ f.1 in
      elim (o ts rest a r) [ inl i ↦ bare_alone c b k d ts (starts_subset c g.firsts b h.0 ts i) (starts_apart c g.firsts k h.1 ts i) | inr i ↦ absurd (let j : not true ≡ true = subst (λ u. not u ≡ true) i.0 f.0 in cc) ];
}

-- a token of b, behind which no token of d may stand
pub seen-token : {K : Type 0} {c : K → ℕ} (s b k d set : List ℕ) → (subset set b && subset d s) ≡ true → Seen c b k d (outside c s) true (Tok c set)
unfolding inside
seen-token {K} {c} s b k d set e = record {
  sees = λ ts rest t r n.
      let f = both_true _ _ e in
      rw r.1 (bare_behind c b k d t rest (subset_has set b (c t) f.0 r.0) (ends_not c d rest (ends_subset c d s f.1 rest n)));
}

second_false : {K A : Type 0} (c : K → ℕ) (s d : List ℕ) (h : Shape) (Q : Part K A) → Opens c h Q → apart h.firsts d ≡ true → (h.empty ≡ true → subset d s ≡ true) → (ts rest : List K) (a : A) → Q ts a rest → ends (outside c s) rest ≡ true → starts (inside c d) ts ≡ false
second_false c s d h Q o e f ts rest a q n = elim (o ts rest a q) [
  | inl i ↦ starts_apart c h.firsts d e ts i
  | inr i ↦ subst (λ u. starts (inside c d) u ≡ false) (sym i.1) (ends_not c d rest (ends_subset c d s (f i.0) rest n))
]

abbrev pub fits_behind : List ℕ → List ℕ → List ℕ → List ℕ → Shape → Bool
fits_behind s b d set h = subset set b && (apart h.firsts d && (not h.empty || subset d s))

or_true : (a b : Bool) → (not a || b) ≡ true → a ≡ true → b ≡ true
or_true true b e f = e
or_true false b e f = absurd cc

-- a token of b, and then a part that begins with no token of d
pub seen-behind : {K A : Type 0} {c : K → ℕ} {Q : Part K A} (h : Shape) (s b k d set : List ℕ) → Opens c h Q → fits_behind s b d set h ≡ true → Seen c b k d (outside c s) true (Then (Tok c set) Q)
unfolding inside
seen-behind {K} {A} {c} {Q} h s b k d set o e = record {
  sees = λ ts rest a r n.
      let f = both_true _ _ e in
      let i = both_true _ _ f.1 in
      rw r.1.1 (bare_behind c b k d a.0 r.0 (subset_has set b (c a.0) f.0 r.1.0) (second_false c s d h Q o i.0 (or_true h.empty (subset d s) i.1) r.0 rest a.1 r.2 n));
}

-- a token of k, and then a part that begins with one of d
pub seen-before : {K A : Type 0} {c : K → ℕ} {z : K → Bool} {Q : Part K A} (h : Shape) (b k d set : List ℕ) → Opens c h Q → (subset set k && (not h.empty && subset h.firsts d)) ≡ true → Seen c b k d z false (Then (Tok c set) Q)
unfolding inside
seen-before {K} {A} {c} {z} {Q} h b k d set o e = record {
  sees = λ ts rest a r n.
      let f = both_true _ _ e in
      let i = both_true _ _ f.1 in
      rw r.1.1 (bare_before c b k d a.0 r.0 (subset_has set k (c a.0) f.0 r.1.0)
      (elim (o r.0 rest a.1 r.2) [ inl j ↦ starts_subset c h.firsts d i.1 r.0 j | inr j ↦ absurd (let l : not true ≡ true = subst (λ u. not u ≡ true) j.0 i.0 in cc) ]));
}

pub seen-made : {K A B : Type 0} {c : K → ℕ} {b k d : List ℕ} {z : K → Bool} {v : Bool} {R : Part K A} (f : A → B) → Seen c b k d z v R → Seen c b k d z v (Made f R)
seen-made f s = record { sees = λ ts rest a r n. s.sees ts rest r.0 r.2 n }

pub seen-either : {K A : Type 0} {c : K → ℕ} {b k d : List ℕ} {z : K → Bool} {v : Bool} {R Q : Part K A} → Seen c b k d z v R → Seen c b k d z v Q → Seen c b k d z v (Either R Q)
seen-either s t = record { sees = λ ts rest a r n. elim r [ inl e ↦ s.sees ts rest a e n | inr e ↦ t.sees ts rest a e n ] }

-- whatever stands behind the first part
pub seen-then : {K A B : Type 0} {c : K → ℕ} {b k d : List ℕ} {z : K → Bool} {v : Bool} {R : Part K A} (Q : Part K B) → Seen c b k d any v R → Seen c b k d z v (Then R Q)
seen-then Q s = record { sees = λ ts rest a r n. s.sees ts r.0 a.0 r.1 (ends_any r.0) }

pub seen-within : {K A : Type 0} {c : K → ℕ} {b k d : List ℕ} {z : K → Bool} {v : Bool} {Q : Part K A} (R : Part K A) → Within Q R → Seen c b k d z v R → Seen c b k d z v Q
seen-within R i s = record { sees = λ ts rest a r n. s.sees ts rest a (i ts rest a r) n }

-- a token of b, and then a part that has a token, none of d
pub behind_any : {K A : Type 0} {c : K → ℕ} {Q : Part K A} (h : Shape) (b k d set : List ℕ) → Opens c h Q → (not h.empty && fits_behind [] b d set h) ≡ true → Seen c b k d any true (Then (Tok c set) Q)
behind_any {K} {A} {c} {Q} h b k d set o e =
    let f = both_true _ _ e in
    let s = seen-behind h [] b k d set o f.1 in
    record { sees = λ ts rest a r n. s.sees ts rest a r (ends_none c rest) }
