-- What a rule of typing gives: a value, or the kind of its refusal.
use Rattle.std.specs.Prelude.{Bool, true, false, List, [], ◌∷◌, Option, Some, None, Result, Ok, Err}
use Rattle.type_rules.specs.declared.refusal.TypeKind.{TypeKind}

abbrev pub OrRefused : Type 0 → Type 0
OrRefused A = Result A TypeKind

-- goes on with the value; the first refusal decides
infixl 20 ◌>>=◌
abbrev pub ◌>>=◌ : {A B : Type 0} → OrRefused A → (A → OrRefused B) → OrRefused B
◌>>=◌ (Ok a) f = f a
◌>>=◌ (Err kind) f = Err kind

infixl 20 ◌>>◌
abbrev pub ◌>>◌ : {B : Type 0} → OrRefused (Unit {0}) → OrRefused B → OrRefused B
◌>>◌ (Ok _) r = r
◌>>◌ (Err kind) r = Err kind

-- refused where the test is false
abbrev pub check : Bool → TypeKind → OrRefused (Unit {0})
check true kind = Ok tt
check false kind = Err kind

-- refused where there is none
abbrev pub required : {A : Type 0} → Option A → TypeKind → OrRefused A
required (Some a) kind = Ok a
required None kind = Err kind

-- each of a list, from the first to the last
abbrev pub each : {A B : Type 0} → (A → OrRefused B) → List A → OrRefused (List B)
each f [] = Ok []
each f (a ∷ more) = f a >>= (λ first. each f more >>= (λ rest. Ok (first ∷ rest)))

abbrev pub each_holds : {A : Type 0} → (A → OrRefused (Unit {0})) → List A → OrRefused (Unit {0})
each_holds f [] = Ok tt
each_holds f (a ∷ more) = f a >> each_holds f more
