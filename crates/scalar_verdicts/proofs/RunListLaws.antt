-- Runs that are kept in a list.
use Rattle.std.proofs.Common.{◌≡◌, ℕ, ◌+◌, ◌<◌, ◌≤◌, List, [], ◌∷◌, ◌++◌, length, drop, get_or, subst, sym, refl, inl, inr}
use Rattle.std.proofs.lemmas.List.{drop_all, drop_more}
use Rattle.mir_ir.specs.declared.tree.Function.{Function}
use Rattle.scalar_runs.specs.declared.breach.Breach.{Breach}
use Rattle.scalar_terms.specs.declared.replays.FaultRun.{FaultRun}
use Rattle.scalar_terms.specs.Faults.{FaultsWith}
use Rattle.scalar_terms.specs.Replays.{IsFaultRun, Reaches}
use Rattle.scalar_verdicts.specs.Runs.{Adds, EachReached, HasRun, IsNoted, IsPassed, IsReplayed, IsRunTo}

pub passed_none : (runs : List FaultRun) (b : Breach) → IsPassed runs b runs
passed_none runs b = record { there = λ has. has; back = λ has. has; reached = λ f each. each }

passed_on : (runs left : List FaultRun) (b : Breach) (x : FaultRun) → IsPassed runs b (x ∷ left) → (x.breach ≡ b → ⊥) → IsPassed runs b left
passed_on runs left b x passed other = record {
  there = λ has. elim (passed.there has) [ inl here ↦ absurd (other here) | inr later ↦ later ];
  back = λ has. passed.back (inr has);
  reached = λ f each. (passed.reached f each).1;
}

passed_found : (runs left : List FaultRun) (b : Breach) (x : FaultRun) → IsPassed runs b (x ∷ left) → x.breach ≡ b → IsRunTo runs b x × HasRun runs b
passed_found runs left b x passed here =
    ((λ f each. subst (λ c. Reaches f c x.choices.items x.steps) here (passed.reached f each).0), passed.back (inl here))

next_run : (runs : List FaultRun) (b : Breach) (i : ℕ) (x : FaultRun) → x ≡ get_or runs i x → i < length runs → IsPassed runs b (drop i runs) → IsPassed runs b (x ∷ drop (i + 1) runs)
next_run runs b i x at less passed = subst (λ y. IsPassed runs b (y ∷ drop (i + 1) runs)) (sym at) (subst (IsPassed runs b) (drop_more runs i x less) passed)

-- the next run of the list is to another fault
pub passed_more : (runs : List FaultRun) (b : Breach) (i : ℕ) (x : FaultRun) → x ≡ get_or runs i x → i < length runs → IsPassed runs b (drop i runs) → (x.breach ≡ b → ⊥) → IsPassed runs b (drop (i + 1) runs)
passed_more runs b i x at less passed other = passed_on runs (drop (i + 1) runs) b x (next_run runs b i x at less passed) other

-- the next run of the list is to the fault
pub passed_here : (runs : List FaultRun) (b : Breach) (i : ℕ) (x : FaultRun) → x ≡ get_or runs i x → i < length runs → IsPassed runs b (drop i runs) → x.breach ≡ b → IsRunTo runs b x × HasRun runs b
passed_here runs b i x at less passed here = passed_found runs (drop (i + 1) runs) b x (next_run runs b i x at less passed) here

pub passed_all : (runs : List FaultRun) (b : Breach) (i : ℕ) → length runs ≤ i → IsPassed runs b (drop i runs) → HasRun runs b → ⊥
passed_all runs b i end passed has = subst (λ left. HasRun left b) (drop_all i runs end) (passed.there has)

each_append : (f : Function) (xs : List FaultRun) (x : FaultRun) → EachReached f xs → Reaches f x.breach x.choices.items x.steps → EachReached f (xs ++ x ∷ [])
each_append f [] x each this = (this, tt)
each_append f (y ∷ ys) x each this = (each.0, each_append f ys x each.1 this)

has_append : (xs ys : List FaultRun) (b : Breach) → HasRun xs b → HasRun (xs ++ ys) b
has_append [] ys b has = absurd has
has_append (x ∷ xs) ys b has = elim has [ inl here ↦ inl here | inr later ↦ inr (has_append xs ys b later) ]

has_last : (xs : List FaultRun) (x : FaultRun) → HasRun (xs ++ x ∷ []) x.breach
has_last [] x = inl refl
has_last (y ∷ ys) x = inr (has_last ys x)

pub noted_push : (old new : List FaultRun) (x : FaultRun) → new ≡ old ++ x ∷ [] → IsNoted old new x
noted_push old new x e = subst (λ xs. IsNoted old xs x) (sym e) (record {
  sound = λ f this each. each_append f old x each this;
  kept = λ b has. has_append old (x ∷ []) b has;
  has = has_last old x;
})

pub noted_before : (old : List FaultRun) (x : FaultRun) → HasRun old x.breach → IsNoted old old x
noted_before old x has = record { sound = λ f this each. each; kept = λ b h. h; has = has }

pub adds_none : (f : Function) (runs : List FaultRun) → Adds f runs runs
adds_none f runs = record { sound = λ each. each; kept = λ b has. has }

pub adds_more : (f : Function) (old mid new : List FaultRun) → Adds f old mid → Adds f mid new → Adds f old new
adds_more f old mid new first second = record { sound = λ each. second.sound (first.sound each); kept = λ b has. second.kept b (first.kept b has) }

-- the run that was replayed was noted
pub replayed_some : (f : Function) (inputs : ℕ → ℕ) (old new : List FaultRun) (x : FaultRun) → IsFaultRun f inputs x → IsNoted old new x → IsReplayed f inputs old new
replayed_some f inputs old new x is noted = record {
  adds = record { sound = noted.sound f is.reaches; kept = noted.kept };
  has = λ b faults. subst (HasRun new) (sym (is.one b faults)) noted.has;
}

pub replayed_none : (f : Function) (inputs : ℕ → ℕ) (runs : List FaultRun) → ((b : Breach) → FaultsWith f inputs b → ⊥) → IsReplayed f inputs runs runs
replayed_none f inputs runs none = record { adds = adds_none f runs; has = λ b faults. absurd (none b faults) }
