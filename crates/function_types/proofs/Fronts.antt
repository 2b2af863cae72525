-- Texts that begin with a front, and the head of a path to a method behind a `dyn` type.
use Rattle.std.proofs.Common.{◌≡◌, ℕ, Bool, true, false, ◌&&◌, ◌==◌, List, [], ◌∷◌, ◌++◌, Option, Some, None, bytes_eq, drop, length, take, refl, ap, ◌∙◌, append_assoc}
use Rattle.std.specs.Prelude.{codes, if◌then◌else◌, option_and_then}
use Rattle.type_rules.specs.Calls.{dyn_head}
use Rattle.function_types.specs.Steps.{behind, behind_names}

-- what is left is this
abbrev pub is_rest : List ℕ → Option (List ℕ) → Bool
is_rest more None = false
is_rest more (Some rest) = bytes_eq rest more

and_assoc : (a b c : Bool) → (a && (b && c)) ≡ ((a && b) && c)
and_assoc true b c = refl
and_assoc false b c = refl

in_parts : (text front more : List ℕ) → bytes_eq text (front ++ more) ≡ (bytes_eq (take (length front) text) front && bytes_eq (drop (length front) text) more)
in_parts [] [] more = refl
in_parts (c ∷ text) [] more = refl
in_parts [] (b ∷ front) more = refl
in_parts (c ∷ text) (b ∷ front) more =
    ap (λ r. (c == b) && r) (in_parts text front more) ∙ and_assoc (c == b) (bytes_eq (take (length front) text) front) (bytes_eq (drop (length front) text) more)

chosen : (b : Bool) (rest more : List ℕ) → (b && bytes_eq rest more) ≡ is_rest more (if b then Some rest else None)
chosen true rest more = refl
chosen false rest more = refl

joined : (text front more : List ℕ) → bytes_eq text (front ++ more) ≡ is_rest more (behind front text)
joined text front more = in_parts text front more ∙ chosen (bytes_eq (take (length front) text) front) (drop (length front) text) more

onward : (o : Option (List ℕ)) (front more : List ℕ) → is_rest (front ++ more) o ≡ is_rest more (option_and_then (behind front) o)
onward None front more = refl
onward (Some text) front more = joined text front more

regrouped : (a b c d e : List ℕ) → a ++ b ++ c ++ d ++ e ≡ a ++ (b ++ (c ++ (d ++ e)))
regrouped a b c d e = append_assoc (a ++ b ++ c) d e ∙ append_assoc (a ++ b) c (d ++ e) ∙ append_assoc a b (c ++ (d ++ e))

in_five : (a b c d e head : List ℕ)
    → bytes_eq head (a ++ b ++ c ++ d ++ e) ≡ is_rest e (option_and_then (behind d) (option_and_then (behind c) (option_and_then (behind b) (behind a head))))
in_five a b c d e head =
    ap (bytes_eq head) (regrouped a b c d e) ∙ joined head a (b ++ (c ++ (d ++ e))) ∙ onward (behind a head) b (c ++ (d ++ e))
    ∙ onward (option_and_then (behind b) (behind a head)) c (d ++ e) ∙ onward (option_and_then (behind c) (option_and_then (behind b) (behind a head))) d e

pub dyn_head_is : (name head : List ℕ) → dyn_head name head ≡ is_rest (codes ">") (behind_names name head)
dyn_head_is name head = in_five (codes "<dyn ") name (codes " as ") name (codes ">") head
