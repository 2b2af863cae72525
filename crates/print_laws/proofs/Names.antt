-- Types and paths alone.
use Rattle.std.proofs.Common.{ℕ, suc, refl, arith, List, [], ◌∷◌, append-nil, subst}
use Rattle.mir_grammar.specs.Lexemes.{Lexeme}
use Rattle.grammar_words.specs.Grammar.{Part}
use Rattle.mir_grammar.specs.Types.{any_word}
use Rattle.mir_grammar.specs.Functions.{TypeText, PlaceText}
use Rattle.print_laws.specs.Printed.{Writes}
use Rattle.print_laws.specs.Laws.{EachTypeReadsAgain, EachPathReadsAgain, EachTypeIsPrinted, EachPlaceIsPrinted}
use Rattle.canonical_text.specs.declared.positions.Position.{Position}
use Rattle.canonical_text.specs.declared.positions.Position.TheVariants.{Alone}
use Rattle.canonical_text.specs.Names.{path_written}
use Rattle.canonical_text.specs.Types.{type_text}
use Rattle.print_laws.proofs.Spelt.{coarsely}
use Rattle.print_laws.proofs.Leads.{word_follow}
use Rattle.print_laws.proofs.Again.{Kept}
use Rattle.print_laws.proofs.TypeTexts.{levels, free_path}
use Rattle.canonical_text.specs.Places.{place_text}
use Rattle.print_laws.proofs.PlaceTold.{places_told}
use Rattle.print_laws.proofs.TupleTold.{printed}
use Rattle.print_laws.proofs.Writing.{fits_writes}

kept_alone : {A : Type 0} {here : Position} {l text : List ℕ} {W : Part Lexeme A} {a : A} {rest : List Lexeme} → Kept here word_follow l W text a rest → (ls : List Lexeme) × Writes (path_written here text) ls × W ls a []
kept_alone {A} {here} {l} {text} {W} {a} k = (k.lexemes, fits_writes word_follow (coarsely l) (path_written here text) k.lexemes refl k.spelt.fits, subst (λ x. W x a []) (append-nil k.lexemes) (k.reads []))

pub each_type_reads_again : EachTypeReadsAgain
each_type_reads_again d ts n h r = let t = levels (suc d) (suc d) (omega arith) in kept_alone (t.any.keep ts [] n h r)

pub each_path_reads_again : EachPathReadsAgain
each_path_reads_again d ts n h r = let t = free_path Alone any_word refl refl (levels (suc d) (suc d) (omega arith)) in kept_alone (t.keep ts [] n h r)

pub each_type_is_printed : EachTypeIsPrinted
each_type_is_printed d ts n h r = let t = printed (suc d) (suc d) (omega arith) in let k = t.any.tell ts [] n h r in
    (k.lexemes, k.value, fits_writes word_follow (1 ∷ 7 ∷ []) (type_text n.ty) k.lexemes refl k.fits, subst (λ x. TypeText d x k.value []) (append-nil k.lexemes) (k.reads []), k.same)

pub each_place_is_printed : EachPlaceIsPrinted
each_place_is_printed d ts p h r = let t = places_told (printed (suc d) (suc d) (omega arith)).any (suc d) (suc d) (omega arith) in let k = t.tell ts [] p h r in
    (k.lexemes, k.value, fits_writes word_follow (1 ∷ 7 ∷ []) (place_text p.place) k.lexemes refl k.fits, subst (λ x. PlaceText d x k.value []) (append-nil k.lexemes) (k.reads []), k.same)
