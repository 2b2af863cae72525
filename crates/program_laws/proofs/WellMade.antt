-- What the text of functions means is well made.
use Rattle.std.proofs.Common.{◌≡◌, ℕ, suc, ◌+◌, ◌*◌, ◌^◌, ◌≤◌, nat_lt, Bool, true, false, if◌then◌else◌, List, [], ◌∷◌, ◌++◌, length, flat_map, All, length-append, Some, None, refl, sym, subst, arith}
use Rattle.std.proofs.lemmas.Bool.{ltb-false}
use Rattle.mir_ir.specs.declared.declarations.Declarations.{Declarations}
use Rattle.mir_ir.specs.declared.tree.Function.{Function}
use Rattle.mir_lex.specs.declared.token.Token.{Token}
use Rattle.mir_lex.specs.Views.{AreSlices, AreInOrder}
use Rattle.mir_lex.proofs.Agreeing.{has_one_lexing}
use Rattle.grammar_words.specs.Grammar.{Each, Never}
use Rattle.mir_grammar.specs.declared.limits.Passed.{Passed}
use Rattle.mir_grammar.specs.declared.trees.RawFunction.{RawFunction}
use Rattle.mir_grammar.specs.Lexemes.{Lexeme}
use Rattle.mir_grammar.specs.Types.{AnyType, NoType, TypeLevel}
use Rattle.mir_grammar.specs.Places.{PlaceLevel}
use Rattle.mir_grammar.specs.Functions.{ScopeLevel, FunctionPart, Text}
use Rattle.mir_pieces.specs.Seen.{lexemes}
use Rattle.raw_functions.specs.Doubles.{function_spots, second_of, second_inside, duplicate_of}
use Rattle.raw_functions.specs.declared.limits.Limit.TheVariants as limit
use Rattle.raw_functions.specs.Limits.{functions_passed, limit_in, limit_of}
use Rattle.raw_functions.specs.Meant.{functions_of}
use Rattle.mir_text.specs.Answers.{HasTokens, Means}
use Rattle.print_laws.proofs.Single.{earlier_parts}
use Rattle.print_laws.proofs.Worded.{AreWorded, scopes_words, function_worded}
use Rattle.mir_program.specs.Apart.{AreApart}
use Rattle.mir_program.specs.Entries.{AreDeclarations}
use Rattle.mir_program.specs.Functions.{IsFunction}
use Rattle.mir_program.specs.Joined.{written, written_in_declarations, scalars, all_written, same_function, IsProgram}
use Rattle.mir_program.specs.Mentions.{function_types}
use Rattle.program_laws.specs.Laws.{AreWellMade}
use Rattle.program_laws.proofs.Takes.{AreTokens, Every, total}
use Rattle.program_laws.proofs.TextTakes.{IsRightFunction, function_weight, text_takes}
use Rattle.program_laws.proofs.LocalsMade.{every_all}
use Rattle.program_laws.proofs.FunctionsMade.{functions_made, functions_apart, count_same, types_low}

-- Tokens.

are_tokens : (text : List ℕ) (ts : List Token) → AreSlices text ts → AreTokens (lexemes text ts)
are_tokens text [] h = tt
are_tokens text (t ∷ ts) h = (h.0, are_tokens text ts h.1)

-- no more tokens than bytes
few : (text : List ℕ) (here size : ℕ) (ts : List Token) → AreInOrder here size ts → here + length (lexemes text ts) ≤ size
few text here size [] h = omega (arith, h)
few text here size (t ∷ ts) h = let i = few text t.end size ts h.2 in let a = h.0 in let b = h.1 in omega arith

-- Words.

worded : (d : ℕ) (ts rest : List Lexeme) (fs : List RawFunction) → Each (FunctionPart (TypeLevel NoType (suc d)) (PlaceLevel Never (TypeLevel NoType (suc d) AnyType) (suc d)) (ScopeLevel Never (TypeLevel NoType (suc d) AnyType) (suc d))) ts fs rest → Every AreWorded fs
worded d ts rest [] h = tt
worded d ts rest (f ∷ fs) h = (
  function_worded (TypeLevel NoType (suc d)) (PlaceLevel Never (TypeLevel NoType (suc d) AnyType) (suc d)) (ScopeLevel Never (TypeLevel NoType (suc d) AnyType) (suc d)) (scopes_words (TypeLevel NoType (suc d) AnyType) (suc d)) ts h.0 f h.1,
  worded d h.0 rest fs h.2,
)

-- Limits.

pub record IsWithin (fs : List RawFunction) : Type 0 where
  pub few : length fs ≤ 4096
  pub blocks : (functions_passed fs).blocks ≡ false
  pub locals : (functions_passed fs).locals ≡ false

passed_none : (p : Passed) → limit_in p ≡ None → (p.blocks ≡ false) × (p.locals ≡ false)
passed_none p h = by_blocks p.blocks p.locals p.names h
  where
    by_blocks : (b l n : Bool) → limit_in (record { locals = l; blocks = b; names = n }) ≡ None → (b ≡ false) × (l ≡ false)
    by_blocks true l n e = absurd (cc e)
    by_blocks false true n e = absurd (cc e)
    by_blocks false false n e = (refl, refl)

within_limits : (fs : List RawFunction) → limit_of fs ≡ None → IsWithin fs
unfolding limit_of
within_limits fs h = by_count (nat_lt 4096 (length fs)) refl h
  where
    by_count : (c : Bool) → nat_lt 4096 (length fs) ≡ c → (if c then Some limit.Functions else limit_in (functions_passed fs)) ≡ None → IsWithin fs
    by_count true e k = absurd (cc k)
    by_count false e k = let p = passed_none (functions_passed fs) k in record { few = ltb-false 4096 (length fs) e; blocks = p.0; locals = p.1 }

-- Joined.

joined_types : (fs : List Function) (d : Declarations) → length (all_written (record { functions = fs; declarations = d })) ≡ 16 + (length (written_in_declarations d) + length (flat_map (function_types written) fs))
unfolding all_written
joined_types fs d = omega (arith, length-append (scalars ++ written_in_declarations d) (flat_map (function_types written) fs), length-append scalars (written_in_declarations d))

joined : (text : List ℕ) (fs : List Function) → length text ≤ 4194304 → All IsFunction fs → length fs ≤ 4096 → AreApart same_function fs → length (flat_map (function_types written) fs) ≤ 2 * length text
    → (d : Declarations) → AreDeclarations d → length (written_in_declarations d) ≤ 2 ^ 31 → IsProgram (record { functions = fs; declarations = d })
joined text fs small each few_ apart types d declared n = record {
  functions = each;
  count = record { counted = omega arith };
  apart = apart;
  declarations = declared;
  types = record { counted = let e = joined_types fs d in omega arith };
}

well_made : (text : List ℕ) (fs : List Function) → length text ≤ 4194304 → All IsFunction fs → length fs ≤ 4096 → AreApart same_function fs → length (flat_map (function_types written) fs) ≤ 2 * length text → AreWellMade text fs
well_made text fs small each few_ apart types = record { each = each; few = few_; apart = apart; types = types; joins = joined text fs small each few_ apart types }

made_of : (text : List ℕ) (fs : List RawFunction) → length text ≤ 4194304 → total function_weight fs ≤ length text → Every AreWorded fs → Every IsRightFunction fs → duplicate_of fs ≡ None → IsWithin fs → AreWellMade text (functions_of text fs)
unfolding duplicate_of
made_of text fs small weight w r d l =
    let s = earlier_parts (second_of (function_spots fs)) (second_inside fs) d in
    well_made text (functions_of text fs) small (every_all IsFunction (functions_of text fs) (functions_made text fs w r (omega arith) s.1 l.locals l.blocks))
    (let a = l.few in let e = count_same text fs in omega arith) (functions_apart text fs s.0) (let e = types_low text fs in omega arith)

read_of : (text : List ℕ) (ts : List Lexeme) (fs : List RawFunction) → length text ≤ 4194304 → HasTokens text ts → Text 63 ts fs [] → duplicate_of fs ≡ None → limit_of fs ≡ None → AreWellMade text (functions_of text fs)
read_of text ts fs small has reads d l =
    let laws = has_one_lexing text in
    let e : AreTokens ts = subst AreTokens (sym has.seen) (are_tokens text has.tokens (laws.slices has.tokens has.lexed)) in
    let n : length ts ≤ length text = subst (λ k. length k ≤ length text) (sym has.seen) (let f = few text 0 (length text) has.tokens (laws.order has.tokens has.lexed) in omega arith) in
    let t = (text_takes 63).taken ts [] fs reads e in
    made_of text fs small (let s = t.spent in omega arith) (worded 63 ts [] fs reads) t.fact d (within_limits fs l)

pub means_well_made : (text : List ℕ) (fs : List Function) → length text ≤ 4194304 → Means text fs → AreWellMade text fs
means_well_made text fs small m = subst (AreWellMade text) (sym m.meant) (read_of text m.is.tokens m.written small m.is.has m.is.reads m.single m.within)
