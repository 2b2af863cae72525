-- The canonical text of functions that some text means reads again.
use Rattle.std.proofs.Common.{◌≡◌, ℕ, true, List, [], ◌∷◌, refl, sym, ◌∙◌, ap, subst}
use Rattle.std.proofs.lemmas.Bool.{and_parts}
use Rattle.vk_core.specs.declared.text_place.TextPlace.{TextPlace}
use Rattle.mir_ir.specs.declared.tree.Function.{Function}
use Rattle.canonical_text.specs.Functions.{functions_text}
use Rattle.mir_lex.specs.declared.token.Token.{Token}
use Rattle.mir_lex.specs.Views.{AreSlices, text_of}
use Rattle.mir_lex.proofs.Agreeing.{has_one_lexing}
use Rattle.mir_grammar.specs.Lexemes.{Lexeme}
use Rattle.mir_pieces.specs.Seen.{lexemes}
use Rattle.raw_functions.specs.Meant.{functions_of}
use Rattle.print_laws.specs.Laws.{all_placed}
use Rattle.print_laws.specs.Printed.{is_printable, are_printable, ArePrintable}
use Rattle.print_laws.proofs.Parsed.{each_meaning_reads_again}
use Rattle.mir_text.specs.Answers.{HasTokens, Means}
use Rattle.mir_print.specs.Again.{IsWithin, MeansButForPlaces, ReadsAgain}

nowhere : TextPlace
nowhere = record { line = 0; column = 0 }

placed_twice : (here there : TextPlace) (fs : List Function) → all_placed here (all_placed there fs) ≡ all_placed here fs
placed_twice here there [] = refl
placed_twice here there (f ∷ fs) = ap (λ x. record { name = f.name; place = here; parameters = f.parameters; result = f.result; locals = f.locals; blocks = f.blocks } ∷ x) (placed_twice here there fs)

anywhere : (there : TextPlace) (fs gs : List Function) → all_placed there gs ≡ all_placed there fs → (here : TextPlace) → all_placed here gs ≡ all_placed here fs
anywhere there fs gs e here = sym (placed_twice here there gs) ∙ ap (all_placed here) e ∙ placed_twice here there fs

-- the tokens of a text are tokens
slices_printable : (text : List ℕ) (ts : List Token) → AreSlices text ts → are_printable (lexemes text ts) ≡ true → ArePrintable (lexemes text ts)
slices_printable text [] s h = tt
slices_printable text (t ∷ ts) s h =
    let l : Lexeme = record { kind = t.kind; text = text_of text t; start = t.start } in
    let p = and_parts (is_printable l (lexemes text ts)) (are_printable (lexemes text ts)) h in (s.0, p.0, slices_printable text ts s.1 p.1)

text_printable : (text : List ℕ) (ts : List Lexeme) → HasTokens text ts → are_printable ts ≡ true → ArePrintable ts
text_printable text ts k h = subst (λ x. ArePrintable x) (sym k.seen) (slices_printable text k.tokens ((has_one_lexing text).slices k.tokens k.lexed) (subst (λ x. are_printable x ≡ true) k.seen h))

means_again : (fs : List Function) (text : List ℕ) (m : Means text fs) → are_printable m.is.tokens ≡ true → IsWithin (functions_text fs) → MeansButForPlaces (functions_text fs) fs
means_again fs text m h w =
    let r = text_printable text m.is.tokens m.is.has h in
    let p = each_meaning_reads_again 63 text m.is.tokens m.written nowhere m.is.reads r in
    let e : functions_text (functions_of text m.written) ≡ functions_text fs = ap functions_text (sym m.meant) in
    subst (λ x. MeansButForPlaces x fs) e (
      functions_of (functions_text (functions_of text m.written)) p.1,
      record {
        written = p.1;
        is = record { tokens = lexemes (functions_text (functions_of text m.written)) p.0; has = record { tokens = p.0; lexed = p.2; seen = refl }; reads = p.3 };
        single = p.5 m.single m.within;
        within = subst IsWithin (sym e) w p.1 (record { tokens = lexemes (functions_text (functions_of text m.written)) p.0; has = record { tokens = p.0; lexed = p.2; seen = refl }; reads = p.3 });
        meant = refl;
      },
      anywhere nowhere fs (functions_of (functions_text (functions_of text m.written)) p.1) (p.4 ∙ ap (all_placed nowhere) (sym m.meant)),
    )

pub canonical_reads_again : (fs : List Function) (printed : List ℕ) → printed ≡ functions_text fs → ReadsAgain fs printed
canonical_reads_again fs printed e = record { reads = λ text m r w. subst (λ x. MeansButForPlaces x fs) (sym e) (means_again fs text m r (subst IsWithin e w)) }
