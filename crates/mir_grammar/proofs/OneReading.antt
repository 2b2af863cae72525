-- A text has at most one reading, since the answer to it is right.
use Rattle.std.proofs.Common.{◌≡◌, ℕ, List, [], ◌∷◌, sym, ◌∙◌, subst}
use Rattle.std.proofs.lemmas.List.{append_assoc, append-nil}
use Rattle.grammar_words.specs.declared.stop.Why.TheVariants.{Wrong, Deep, Spent}
use Rattle.grammar_words.specs.Grammar.{Part}
use Rattle.grammar_words.specs.Reading.{Outcome, Got, Fault}
use Rattle.grammar_words.specs.Exact.{IsRight}
use Rattle.mir_grammar.specs.Functions.{Text, HoledText, answer, HasOneReading}
use Rattle.mir_grammar.proofs.FunctionReady.{each_answer_is_right}

-- a text within the limit has the value of a right answer
only : {K A : Type 0} (R : ℕ → Part K A) (H : ℕ → List K → List K → Part K A) (n : ℕ) (ts : List K) (o : Outcome K A) → IsRight R H n ts o → (a b : A) (e : ℕ) → R n ts a [] → R e ts b [] → a ≡ b
only R H n ts (Got v rest) r a b e h k = r.2 n a h ∙ sym (r.2 e b k)
only R H n ts (Fault Wrong []) r a b e h k = absurd (r.3 n a (subst (λ u. R n u a []) (r.1 ∙ append-nil r.0) h))
only R H n ts (Fault Wrong (t ∷ rest)) r a b e h k = absurd (r.3 (n, rest, a, subst (λ u. R n u a []) (r.1 ∙ sym (append_assoc r.0 (t ∷ []) rest)) h))
only R H n ts (Fault Deep []) r a b e h k = absurd r
only R H n ts (Fault Deep (t ∷ rest)) r a b e h k = absurd (r.3 rest a (subst (λ u. R n u a []) r.1 h))
only R H n ts (Fault Spent rest) r a b e h k = absurd r

pub has_one_reading : HasOneReading
has_one_reading d e ts a b h k = only Text HoledText d ts (answer d ts) (each_answer_is_right d ts) a b e h k
