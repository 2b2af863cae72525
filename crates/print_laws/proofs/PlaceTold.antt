-- The text of a place reads again as this place.
use Rattle.std.proofs.Common.{◌≡◌, inl, inr, ℕ, zero, suc, ◌≤◌, true, List, [], ◌∷◌, ◌++◌, codes, map, refl, sym, ◌∙◌, ap, subst, arith, append_assoc, append-nil, rules}
use Rattle.std.specs.Fmt.{decimal}
use Rattle.grammar_words.specs.Grammar.{Part, Then, Made, Each, Never}
use Rattle.grammar_words.specs.Classes.{inside, Tok, Past}
use Rattle.mir_ir.specs.declared.places.Projection.{Projection}
use Rattle.mir_ir.specs.declared.places.Projection.TheVariants as step
use Rattle.mir_ir.specs.declared.places.PlaceExpr.{PlaceExpr}
use Rattle.mir_grammar.specs.declared.named.Named.{Named}
use Rattle.mir_grammar.specs.declared.trees.Placed.{Placed}
use Rattle.mir_grammar.specs.declared.trees.Stepped.{Stepped}
use Rattle.mir_grammar.specs.Lexemes.{Lexeme, class_of, sign, word, number_value}
use Rattle.mir_grammar.specs.Types.{any_word}
use Rattle.mir_grammar.specs.Places.{to_local_id, to_local_place, with_step, with_steps, to_stepped, to_place, to_deref, to_field, to_downcast, to_index, to_front, to_back, locals, NumberOf, IndexInside, Index, Selector, Base, PlaceBody, PlaceLevel}
use Rattle.canonical_text.specs.Types.{type_text}
use Rattle.canonical_text.specs.Places.{local_text, opening, closing, openings, closings, from_front_text, from_back_text, place_text}
use Rattle.print_laws.proofs.Leads.{all_leads, word_follow}
use Rattle.print_laws.proofs.Fits as fits
use Rattle.print_laws.proofs.Tokens.{word_token}
use Rattle.print_laws.proofs.TypeTexts.{opening_inside, closing_inside, bracket_inside, bracket_end_inside, star_inside, as_inside}
use Rattle.print_laws.proofs.TypeTold.{ty_of, number_told}
use Rattle.print_laws.proofs.Locals.{local_told}
use Rattle.print_laws.proofs.Told.{Told, told_tok, told_made, told_made_of, told_text_of, Between, told_between_made, told_between_either, both_of, told_then, told_either, told_past, told_ended, told_each}

abbrev pub place_of : Placed → PlaceExpr
place_of p = p.place

abbrev pub step_of : Stepped → Projection
step_of s = s.step

-- a place and then one more step, and steps
abbrev stepped : PlaceExpr → List Projection → PlaceExpr
stepped p ss = record { local = p.local; steps = p.steps ++ ss }

openings_append : (a b : List Projection) → openings (a ++ b) ≡ openings b ++ openings a
openings_append [] b = sym (append-nil (openings b))
openings_append (s ∷ a) b = ap (λ x. x ++ opening s) (openings_append a b) ∙ append_assoc (openings b) (openings a) (opening s)

closings_append : (a b : List Projection) → closings (a ++ b) ≡ closings a ++ closings b
closings_append [] b = refl
closings_append (s ∷ a) b = ap (λ x. closing s ++ x) (closings_append a b) ∙ sym (append_assoc (closing s) (closings a) (closings b))

five : (o p l c d : List ℕ) → ((o ++ p) ++ l) ++ (c ++ d) ≡ o ++ (((p ++ l) ++ c) ++ d)
five o p l c d = search (rules, append_assoc)

stepped_text : (p : PlaceExpr) (ss : List Projection) → place_text (stepped p ss) ≡ openings ss ++ (place_text p ++ closings ss)
unfolding place_text
stepped_text p ss = ap (λ x. x ++ local_text p.local.0 ++ closings (p.steps ++ ss)) (openings_append p.steps ss) ∙ ap (λ x. (openings ss ++ openings p.steps) ++ local_text p.local.0 ++ x) (closings_append p.steps ss) ∙ five (openings ss) (openings p.steps) (local_text p.local.0) (closings p.steps) (closings ss)

pub comma_inside : inside class_of (9 ∷ []) (sign (codes ",")) ≡ true
unfolding inside class_of
comma_inside = refl

pub dot_inside : inside class_of (13 ∷ []) (sign (codes ".")) ≡ true
unfolding inside class_of
dot_inside = refl

pub colon_inside : inside class_of (11 ∷ []) (sign (codes ":")) ≡ true
unfolding inside class_of
colon_inside = refl

of_inside : inside class_of (119 ∷ []) (word (codes "of")) ≡ true
unfolding inside class_of
of_inside = refl

pub dash_inside : inside class_of (19 ∷ []) (sign (codes "-")) ≡ true
unfolding inside class_of
dash_inside = refl

-- Indices.

abbrev pair_text : ℕ × ℕ → List ℕ
pair_text v = decimal v.0 ++ (codes " of " ++ decimal v.1)

number_of : Told word_follow (1 ∷ []) NumberOf NumberOf (both_of number_value number_value) pair_text
number_of = told_then number_told (told_past (119 ∷ []) (word (codes "of")) of_inside refl fits.of_word number_told refl) refl

-- an index between its brackets
abbrev index_text : Projection → List ℕ
index_text (step.Field index ty) = []
index_text step.Deref = []
index_text (step.Index local) = local_text local.0
index_text (step.FromFront at least) = pair_text (at, least)
index_text (step.FromBack at least) = codes "-" ++ pair_text (at, least)
index_text (step.Downcast variant) = []

index_inside : Told word_follow (1 ∷ 7 ∷ []) IndexInside IndexInside step_of index_text
unfolding to_index to_front to_back
index_inside = told_either word_follow (1 ∷ 7 ∷ []) (told_made to_index step_of (λ n. step.Index (to_local_id n)) index_text (λ l. refl) (λ n. refl) local_told)
    (told_either word_follow (1 ∷ 7 ∷ []) (told_made to_front step_of (λ v. step.FromFront v.0 v.1) index_text (λ l. refl) (λ n. refl) number_of)
    (told_made to_back step_of (λ v. step.FromBack v.0 v.1) index_text (λ l. refl) (λ n. refl) (told_past (19 ∷ []) (sign (codes "-")) dash_inside refl fits.dash number_of refl)) refl refl refl refl) refl refl refl refl

-- a step that stands behind its place alone
record IsIndex (s : Projection) : Type 0 where
  pub opens : [] ≡ opening s
  pub closes : codes "[" ++ (index_text s ++ codes "]") ≡ closing s

inside_index : (ts rest : List Lexeme) (s : Stepped) → IndexInside ts s rest → IsIndex s.step
unfolding to_index to_front to_back from_front_text from_back_text
inside_index ts rest s (inl h) = subst (λ (x : Stepped). IsIndex x.step) h.1 (record { opens = refl; closes = refl })
inside_index ts rest s (inr (inl h)) = subst (λ (x : Stepped). IsIndex x.step) h.1 (record { opens = refl; closes = ap (λ x. codes "[" ++ (x ++ codes "]")) (sym (append_assoc (decimal (number_value h.0.0)) (codes " of ") (decimal (number_value h.0.1)))) })
inside_index ts rest s (inr (inr h)) = subst (λ (x : Stepped). IsIndex x.step) h.1 (record { opens = refl; closes = ap (λ x. codes "[-" ++ (x ++ codes "]")) (sym (append_assoc (decimal (number_value h.0.0)) (codes " of ") (decimal (number_value h.0.1)))) })

index_closes : (ts rest : List Lexeme) (s : Stepped) → Index ts s rest → IsIndex s.step
index_closes ts rest s h = let e = h.2.2 in subst (λ (x : Stepped). IsIndex x.step) (e.1 ∙ h.1) (inside_index h.2.0 e.2.0 e.0.0 e.2.1)

index_told : Told all_leads (7 ∷ []) Index Index step_of closing
index_told = told_text_of closing (λ ts rest s h. (index_closes ts rest s h).closes)
    (told_past (3 ∷ []) (sign (codes "[")) bracket_inside refl fits.bracket (told_ended (4 ∷ []) (sign (codes "]")) bracket_end_inside refl fits.bracket_end index_inside refl) refl)

indices_told : Told word_follow word_follow (Each Index) (Each Index) (map step_of) closings
indices_told = told_each word_follow word_follow closings refl (λ s ss. refl) index_told refl refl refl

each_opens : (ts rest : List Lexeme) (ss : List Stepped) → Each Index ts ss rest → openings (map step_of ss) ≡ []
each_opens ts rest [] h = refl
each_opens ts rest (s ∷ ss) h = ap (λ x. openings (map step_of ss) ++ x) (sym (index_closes ts h.0 s h.1).opens) ∙ append-nil (openings (map step_of ss)) ∙ each_opens h.0 rest ss h.2

with_steps_place : (p : Placed) (ss : List Stepped) → (with_steps p ss).place ≡ stepped p.place (map step_of ss)
with_steps_place p [] = ap (λ x. record { local = p.place.local; steps = x }) (sym (append-nil p.place.steps))
with_steps_place p (s ∷ ss) = with_steps_place (with_step p s) ss ∙ ap (λ x. record { local = p.place.local; steps = x }) (append_assoc p.place.steps (s.step ∷ []) (map step_of ss))

place_is : (v : Placed × List Stepped) → place_of (to_place v) ≡ stepped v.0.place (map step_of v.1)
unfolding to_place
place_is v = with_steps_place v.0 v.1

-- Fields and variants.

abbrev selector_text : Projection → List ℕ
selector_text (step.Field index ty) = codes "." ++ (decimal index ++ (codes ": " ++ type_text ty))
selector_text step.Deref = []
selector_text (step.Index local) = []
selector_text (step.FromFront at least) = []
selector_text (step.FromBack at least) = []
selector_text (step.Downcast variant) = codes " as " ++ variant

record IsSelector (s : Projection) : Type 0 where
  pub opens : codes "(" ≡ opening s
  pub closes : selector_text s ++ codes ")" ≡ closing s

abbrev pub TypesTold : Part Lexeme Named → Part Lexeme Named → Type 0
TypesTold T U = Told word_follow (1 ∷ 7 ∷ []) T U ty_of type_text

abbrev pub PlacesTold : Part Lexeme Placed → Part Lexeme Placed → Type 0
PlacesTold P Q = Told word_follow (1 ∷ 7 ∷ []) P Q place_of place_text

field_told : {T U : Part Lexeme Named} → TypesTold T U → Told word_follow (7 ∷ []) (Made to_field (Past class_of (13 ∷ []) (Then (Tok class_of (35 ∷ [])) (Past class_of (11 ∷ []) T)))) (Made to_field (Past class_of (13 ∷ []) (Then (Tok class_of (35 ∷ [])) (Past class_of (11 ∷ []) U)))) step_of selector_text
unfolding to_field
field_told t = told_made to_field step_of (λ v. step.Field v.0 v.1) selector_text (λ v. refl) (λ v. refl)
    (told_past (13 ∷ []) (sign (codes ".")) dot_inside refl fits.dot (told_then number_told (told_past (11 ∷ []) (sign (codes ":")) colon_inside refl (fits.spaced fits.colon refl) t refl) refl) refl)

downcast_told : Told word_follow (7 ∷ []) (Made to_downcast (Past class_of (118 ∷ []) (Tok class_of any_word))) (Made to_downcast (Past class_of (118 ∷ []) (Tok class_of any_word))) step_of selector_text
unfolding to_downcast
downcast_told = told_made to_downcast step_of (λ w. step.Downcast w) selector_text (λ l. refl) (λ w. refl)
    (told_past (118 ∷ []) (word (codes "as")) as_inside refl fits.as_word (told_tok word_follow (1 ∷ []) any_word (λ (l : Lexeme). l.text) (λ w. w) refl (word_token any_word refl)) refl)

selector_told : {T U : Part Lexeme Named} → TypesTold T U → Told word_follow (7 ∷ []) (Selector T) (Selector U) step_of selector_text
selector_told t = told_either word_follow (7 ∷ []) (field_told t) downcast_told refl refl refl refl

is_selector : (T : Part Lexeme Named) (ts rest : List Lexeme) (s : Stepped) → Selector T ts s rest → IsSelector s.step
unfolding to_field to_downcast
is_selector T ts rest s (inl h) = subst (λ (x : Stepped). IsSelector x.step) h.1 (record { opens = refl; closes = ap (λ x. codes "." ++ (x ++ codes ")")) (sym (append_assoc (decimal (number_value h.0.0)) (codes ": ") (type_text h.0.1.ty))) })
is_selector T ts rest s (inr h) = subst (λ (x : Stepped). IsSelector x.step) h.1 (record { opens = refl; closes = refl })

inside_selector : (T : Part Lexeme Named) (P : Part Lexeme Placed) (ts rest : List Lexeme) (v : Placed × Stepped) → Between (1 ∷ []) (2 ∷ []) (Then P (Selector T)) ts v rest → IsSelector v.1.step
inside_selector T P ts rest v h = let e = h.2.2 in subst (λ (x : Placed × Stepped). IsSelector x.1.step) (e.1 ∙ h.1) (is_selector T e.2.1.0 e.2.0 e.0.0.1 e.2.1.2)

-- Places.

deref_told : {P Q : Part Lexeme Placed} → PlacesTold P Q → Told all_leads (7 ∷ []) (Between (1 ∷ []) (2 ∷ []) (Made to_deref (Past class_of (16 ∷ []) P))) (Between (1 ∷ []) (2 ∷ []) (Made to_deref (Past class_of (16 ∷ []) Q))) place_of place_text
unfolding to_deref
deref_told {P} {Q} p = told_between_made (1 ∷ []) (2 ∷ []) (Past class_of (16 ∷ []) P) (Past class_of (16 ∷ []) Q) to_deref (told_made to_deref place_of (λ x. stepped x (step.Deref ∷ [])) place_text (λ x. refl) (λ x. sym (stepped_text x (step.Deref ∷ [])))
    (told_past (1 ∷ []) (sign (codes "(")) opening_inside refl fits.opening (told_ended (2 ∷ []) (sign (codes ")")) closing_inside refl fits.closing (told_past (16 ∷ []) (sign (codes "*")) star_inside refl fits.star p refl) refl) refl))

selected_text : (p : PlaceExpr) (s : Projection) → IsSelector s → codes "(" ++ ((place_text p ++ selector_text s) ++ codes ")") ≡ place_text (stepped p (s ∷ []))
selected_text p s i = ap (λ x. codes "(" ++ x) (append_assoc (place_text p) (selector_text s) (codes ")") ∙ ap (λ x. place_text p ++ x) (i.closes ∙ sym (append-nil (closing s))))
    ∙ ap (λ x. x ++ (place_text p ++ (closing s ++ []))) i.opens ∙ sym (stepped_text p (s ∷ []))

selected_told : {T U : Part Lexeme Named} {P Q : Part Lexeme Placed} → TypesTold T U → PlacesTold P Q
    → Told all_leads (7 ∷ []) (Between (1 ∷ []) (2 ∷ []) (Made to_stepped (Then P (Selector T)))) (Between (1 ∷ []) (2 ∷ []) (Made to_stepped (Then Q (Selector U)))) place_of place_text
unfolding to_stepped
selected_told {T} {U} {P} {Q} t p = told_between_made (1 ∷ []) (2 ∷ []) (Then P (Selector T)) (Then Q (Selector U)) to_stepped (told_made_of to_stepped place_of (λ v. stepped v.0 (v.1 ∷ [])) place_text (λ v. refl)
    (λ ts rest v h. selected_text v.0.place v.1.step (inside_selector T P ts rest v h))
    (told_past (1 ∷ []) (sign (codes "(")) opening_inside refl fits.opening (told_ended (2 ∷ []) (sign (codes ")")) closing_inside refl fits.closing (told_then p (selector_told t) refl) refl) refl))

local_place : Told word_follow (1 ∷ []) (Made to_local_place (Tok class_of locals)) (Made to_local_place (Tok class_of locals)) place_of place_text
unfolding to_local_place place_text
local_place = told_made to_local_place place_of (λ n. record { local = to_local_id n; steps = [] }) place_text (λ l. refl) (λ n. sym (append-nil (local_text n))) local_told

base_told : {T U : Part Lexeme Named} {P Q : Part Lexeme Placed} → TypesTold T U → PlacesTold P Q → PlacesTold (Base T P) (Base U Q)
base_told {T} {U} {P} {Q} t p = told_either word_follow (1 ∷ 7 ∷ []) local_place (told_between_either (1 ∷ []) (2 ∷ []) (Made to_deref (Past class_of (16 ∷ []) P)) (Made to_stepped (Then P (Selector T)))
    (Made to_deref (Past class_of (16 ∷ []) Q)) (Made to_stepped (Then Q (Selector U))) (told_either all_leads (7 ∷ []) (deref_told p) (selected_told t p) refl refl refl refl)) refl refl refl refl

body_text : (T : Part Lexeme Named) (P : Part Lexeme Placed) (ts rest : List Lexeme) (v : Placed × List Stepped) → Then (Base T P) (Each Index) ts v rest → place_text v.0.place ++ closings (map step_of v.1) ≡ place_text (stepped v.0.place (map step_of v.1))
body_text T P ts rest v h = sym (stepped_text v.0.place (map step_of v.1) ∙ ap (λ x. x ++ (place_text v.0.place ++ closings (map step_of v.1))) (each_opens h.0 rest v.1 h.2))

body_told : {T U : Part Lexeme Named} {P Q : Part Lexeme Placed} → TypesTold T U → PlacesTold P Q → PlacesTold (PlaceBody T P) (PlaceBody U Q)
body_told {T} {U} {P} {Q} t p = told_made_of to_place place_of (λ v. stepped v.0 v.1) place_text place_is (λ ts rest v h. body_text T P ts rest v h) (told_then (base_told t p) indices_told refl)

-- at each depth, and deeper
pub places_told : {T U : Part Lexeme Named} → TypesTold T U → (d e : ℕ) → d ≤ e → PlacesTold (PlaceLevel Never T d) (PlaceLevel Never U e)
places_told t zero e h = record { tell = λ ts rest a r p. absurd r; left = λ ts rest a r p. absurd r }
places_told t (suc d) zero h = absurd (omega arith)
places_told t (suc d) (suc e) h = body_told t (places_told t d e (omega arith))
