-- The type of a tuple.
use Rattle.std.proofs.Common.{◌≡◌, Bool, true, false, List, [], ◌∷◌, ◌++◌, length, refl, sym, ◌∙◌, ap, arith, length-append}
use Rattle.mir_ir.specs.declared.types.Ty.{Ty}
use Rattle.mir_ir.specs.declared.types.Ty.TheVariants as ty
use Rattle.mir_grammar.specs.declared.named.Named.{Named}
use Rattle.mir_grammar.specs.Names.{types_of, tuple_type}
use Rattle.mir_pieces.specs.Boxes.{tuple_of}

pub tuple_is : (names : List Named) (comma : Bool) → tuple_of (types_of names) comma ≡ tuple_type names comma
tuple_is [] comma = refl
tuple_is (n ∷ []) true = refl
tuple_is (n ∷ []) false = refl
tuple_is (n ∷ m ∷ more) comma = refl

pub tuple_all : (types : List Ty) (comma : Bool) → comma ≡ true → ty.Tuple types ≡ tuple_of types comma
tuple_all [] comma h = refl
tuple_all (t ∷ []) true h = refl
tuple_all (t ∷ []) false h = cc
tuple_all (t ∷ u ∷ more) comma h = refl

pub tuple_many : (types : List Ty) (comma : Bool) → (length types ≡ 1 → ⊥) → ty.Tuple types ≡ tuple_of types comma
tuple_many [] comma h = refl
tuple_many (t ∷ []) comma h = absurd (h refl)
tuple_many (t ∷ u ∷ more) comma h = refl

pub tuple_one : (types front : List Ty) (t : Ty) (comma : Bool) → comma ≡ false → length types ≡ 1 → types ≡ front ++ t ∷ [] → t ≡ tuple_of types comma
tuple_one types [] t true c l e = cc
tuple_one types [] t false c l e = rw e refl
tuple_one types (u ∷ front) t comma c l e = absurd (omega (arith, ap length e, length-append front (t ∷ [])))

types_end : (names : List Named) (n : Named) → types_of (names ++ n ∷ []) ≡ types_of names ++ n.ty ∷ []
types_end [] n = refl
types_end (m ∷ names) n = ap (λ ts. m.ty ∷ ts) (types_end names n)

pub types_more : (names : List Named) (n : Named) (types new : List Ty) (t : Ty) → types ≡ types_of names → t ≡ n.ty → new ≡ types ++ t ∷ [] → new ≡ types_of (names ++ n ∷ [])
types_more names n types new t e f g = g ∙ ap (λ ts. ts ++ t ∷ []) e ∙ ap (λ x. types_of names ++ x ∷ []) f ∙ sym (types_end names n)
