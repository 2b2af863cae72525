-- The answers to a text are right.
use Rattle.std.proofs.Common.{◌≡◌, ℕ, ◌+◌, List, [], ◌∷◌, length, Option, Some, None, Result, Err, refl, sym, ◌∙◌, ap, subst}
use Rattle.std.proofs.lemmas.List.{append_assoc, append-nil}
use Rattle.vk_core.specs.declared.text_place.TextPlace.{TextPlace}
use Rattle.mir_ir.specs.declared.tree.Function.{Function}
use Rattle.mir_lex.specs.declared.token.Token.{Token}
use Rattle.mir_lex.specs.declared.fault.FaultKind.{FaultKind}
use Rattle.mir_lex.specs.declared.fault.FaultKind.TheVariants as fault
use Rattle.mir_lex.specs.declared.fault.LexFault.{LexFault}
use Rattle.mir_lex.specs.declared.fault.LexFault.TheVariants as lex
use Rattle.mir_lex.specs.Tokens.{Lexes, IsLexing, FailsAt}
use Rattle.mir_lex.proofs.Agreeing.{has_one_lexing}
use Rattle.grammar_words.specs.declared.stop.Why.TheVariants.{Wrong, Deep, Spent}
use Rattle.grammar_words.specs.Reading.{Outcome, Got, Fault}
use Rattle.grammar_words.specs.Exact.{IsRight}
use Rattle.grammar_words.specs.Coded.{counted}
use Rattle.mir_grammar.specs.declared.trees.RawFunction.{RawFunction}
use Rattle.mir_grammar.specs.Lexemes.{Lexeme}
use Rattle.mir_grammar.specs.Functions.{Text, HoledText, text_at, answer}
use Rattle.mir_grammar.proofs.FunctionReady.{each_answer_is_right}
use Rattle.mir_grammar.proofs.OneReading.{has_one_reading}
use Rattle.mir_pieces.specs.Seen.{lexemes}
use Rattle.raw_functions.specs.Doubles.{duplicate_of}
use Rattle.raw_functions.specs.Limits.{limit_of}
use Rattle.raw_functions.specs.Meant.{functions_of}
use Rattle.mir_text.specs.declared.fault.TextFault.{TextFault}
use Rattle.mir_text.specs.declared.fault.TextFault.TheVariants as told
use Rattle.mir_text.specs.Answers.{HasTokens, Reads, IsWrongAt, IsTooDeepAt, place_of, unsupported_in, IsWritten, Means, IsAnswer, HasOneMeaning}
use Rattle.mir_text.specs.Coded.{from_lex, wrong_at, fault_before, ended, answered, IsReading}
use Rattle.mir_text.proofs.Ending.{settled, settled_whole, last_tokens}

pub lex_right : (text : List ℕ) (f : LexFault) → IsLexing text (Err f) → IsAnswer text (Err (from_lex f))
lex_right text (lex.BadByte place) h = h
lex_right text (lex.OpenText place) h = h
lex_right text (lex.NumberTooWide place) h = h
lex_right text (lex.NameTooLong place) h = h
lex_right text lex.Memory h = h

wrong_right : (text : List ℕ) (ts rest : List Lexeme) → HasTokens text ts → IsWrongAt ts rest → (u : Option (List ℕ)) → unsupported_in rest ≡ u → IsAnswer text (Err (wrong_at (place_of text rest) u))
wrong_right text ts rest has h None e = record { tokens = ts; rest = rest; has = has; wrong = h; other = e; at = refl }
wrong_right text ts rest has h (Some form) e = record { tokens = ts; rest = rest; has = has; wrong = h; word = e; at = refl }

reading_right : (text : List ℕ) (ts : List Lexeme) (o : Outcome Lexeme (List RawFunction)) → HasTokens text ts → IsRight Text HoledText 63 ts o → IsReading text (answered text ts (settled o))
reading_right text ts (Got fs rest) has r = record { tokens = ts; has = has; reads = subst (λ u. Text 63 ts fs u) r.1 r.0 }
reading_right text ts (Fault Wrong rest) has r =
    subst (λ u. IsAnswer text (Err (fault_before text Wrong u))) (sym (last_tokens ts r.0 rest r.1)) (wrong_right text ts rest has r (unsupported_in rest) refl)
reading_right text ts (Fault Deep []) has r = absurd r
reading_right text ts (Fault Deep (t ∷ rest)) has r =
    subst (λ u. IsAnswer text (Err (fault_before text Deep u))) (sym (last_tokens ts r.0 (t ∷ rest) r.1)) (record { tokens = ts; rest = t ∷ rest; has = has; deep = r; at = refl })
reading_right text ts (Fault Spent rest) has r = absurd r

pub written_right : (text : List ℕ) (tokens : List Token) (pieces : List Lexeme) (read : Result (List RawFunction) TextFault) → Lexes text tokens → pieces ≡ lexemes text tokens
    → read ≡ answered text pieces (ended (counted (text_at (length pieces + 1) 63 pieces))) → IsReading text read
unfolding answer
written_right text tokens pieces read l s e =
    subst (IsReading text) (sym (e ∙ ap (answered text pieces) (settled_whole (text_at (length pieces + 1) 63 pieces))))
    (reading_right text pieces (answer 63 pieces) (record { tokens = tokens; lexed = l; seen = s }) (each_answer_is_right 63 pieces))

pub same_tokens : (text : List ℕ) (a b : List Lexeme) → HasTokens text a → HasTokens text b → a ≡ b
same_tokens text a b h k = h.seen ∙ ap (lexemes text) ((has_one_lexing text).tokens h.tokens k.tokens h.lexed k.lexed) ∙ sym k.seen

same_written : (text : List ℕ) (a b : List RawFunction) → IsWritten text a → IsWritten text b → a ≡ b
same_written text a b h k = has_one_reading 63 63 k.tokens a b (subst (λ ts. Reads ts a) (same_tokens text h.tokens k.tokens h.has k.has) h.reads) k.reads

wrong_none : (ts rest : List Lexeme) (fs : List RawFunction) → IsWrongAt ts rest → Reads ts fs → ⊥
wrong_none ts [] fs w h = w.3 63 fs (subst (λ u. Reads u fs) (w.1 ∙ append-nil w.0) h)
wrong_none ts (t ∷ rest) fs w h = w.3 (63, rest, fs, subst (λ u. Reads u fs) (w.1 ∙ sym (append_assoc w.0 (t ∷ []) rest)) h)

deep_none : (ts rest : List Lexeme) (fs : List RawFunction) → IsTooDeepAt ts rest → Reads ts fs → ⊥
deep_none ts [] fs w h = absurd w
deep_none ts (t ∷ rest) fs w h = w.3 rest fs (subst (λ u. Reads u fs) w.1 h)

-- a text of functions has tokens, so no token is at fault
lex_none : (text : List ℕ) (kind : FaultKind) (place : TextPlace) (fs : List Function) → FailsAt text kind place → Means text fs → ⊥
lex_none text kind place fs f m = (has_one_lexing text).apart m.is.has.tokens kind f.0 m.is.has.lexed f.1

means_one : (text : List ℕ) (a b : List Function) → Means text a → Means text b → a ≡ b
means_one text a b h k = h.meant ∙ ap (functions_of text) (same_written text h.written k.written h.is k.is) ∙ sym k.meant

read_again : (text : List ℕ) (ts : List Lexeme) (fs : List Function) → HasTokens text ts → (m : Means text fs) → Reads ts m.written
read_again text ts fs has m = subst (λ u. Reads u m.written) (same_tokens text m.is.tokens ts m.is.has has) m.is.reads

refused_none : (text : List ℕ) (f : TextFault) → IsAnswer text (Err f) → (f ≡ told.Memory → ⊥) → (fs : List Function) → Means text fs → ⊥
refused_none text (told.Lex (lex.BadByte place)) h n fs m = lex_none text fault.BadByte place fs h m
refused_none text (told.Lex (lex.OpenText place)) h n fs m = lex_none text fault.OpenText place fs h m
refused_none text (told.Lex (lex.NumberTooWide place)) h n fs m = lex_none text fault.NumberTooWide place fs h m
refused_none text (told.Lex (lex.NameTooLong place)) h n fs m = lex_none text fault.NameTooLong place fs h m
refused_none text (told.Lex lex.Memory) h n fs m = absurd h
refused_none text (told.Unexpected place) h n fs m = wrong_none h.tokens h.rest m.written h.wrong (read_again text h.tokens fs h.has m)
refused_none text (told.Unsupported place form) h n fs m = wrong_none h.tokens h.rest m.written h.wrong (read_again text h.tokens fs h.has m)
refused_none text (told.TooDeep place) h n fs m = deep_none h.tokens h.rest m.written h.deep (read_again text h.tokens fs h.has m)
refused_none text (told.Duplicate place) h n fs m =
    let e = same_written text h.written m.written h.is m.is in let s : duplicate_of h.written ≡ None = ap duplicate_of e ∙ m.single in let t = h.twice in absurd (cc)
refused_none text (told.TooMany what) h n fs m =
    let e = same_written text h.written m.written h.is m.is in let s : limit_of h.written ≡ None = ap limit_of e ∙ m.within in let t = h.passed in absurd (cc)
refused_none text told.Memory h n fs m = n refl

pub has_one_meaning : (text : List ℕ) → HasOneMeaning text
has_one_meaning text = record { one = means_one text; refused = refused_none text }
