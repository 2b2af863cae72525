-- Types that have another one inside, and what stands before it and behind it.
use Rattle.std.specs.Prelude.{Bool, true, false, [], ◌∷◌, Some, None}
use Rattle.grammar_words.specs.Reading.{Reader, after, made, joined, pick, nothing, second}
use Rattle.grammar_words.specs.Classes.{inside, tok, past, ended}
use Rattle.mir_grammar.specs.Lexemes.{Lexeme, class_of}
use Rattle.mir_grammar.specs.declared.named.Named.{Named}
use Rattle.mir_grammar.specs.Names.{to_array, to_ref, to_raw, to_dyn}
use Rattle.mir_grammar.specs.Types.{Readers, colons, perhaps_token, bound_at}
use Rattle.mir_pieces.specs.declared.want.Want.{Want}
use Rattle.mir_pieces.specs.declared.want.Want.TheVariants.{AnyType, NotMut, BehindMut}
use Rattle.mir_pieces.specs.Wants.{want_of}
use Rattle.type_reader.specs.declared.wrapper.Wrapper.{Wrapper}
use Rattle.type_reader.specs.declared.wrapper.Wrapper.TheVariants.{Array, Ref, Raw}

-- [
unfoldable pub array_front : Reader Lexeme (Wrapper × Want)
array_front = past class_of (3 ∷ []) (nothing (Array, AnyType))

-- mut, or nothing
unfoldable pub target_front : Reader Lexeme (Wrapper × Want)
target_front = pick (inside class_of (117 ∷ [])) (past class_of (117 ∷ []) (pick (inside class_of colons) (nothing (Ref false, BehindMut)) (nothing (Ref true, AnyType)))) (nothing (Ref false, NotMut))

-- a lifetime, or nothing
unfoldable pub lifetime_front : Reader Lexeme Bool
lifetime_front = perhaps_token (42 ∷ [])

-- & and perhaps a lifetime
unfoldable pub ref_front : Reader Lexeme (Wrapper × Want)
ref_front = past class_of (15 ∷ []) (made second (joined lifetime_front target_front))

-- * and mut or const
unfoldable pub raw_front : Reader Lexeme (Wrapper × Want)
raw_front = past class_of (16 ∷ []) (pick (inside class_of (117 ∷ [])) (past class_of (117 ∷ []) (nothing (Raw true, AnyType))) (past class_of (116 ∷ []) (nothing (Raw false, AnyType))))

-- what stands before the inner type, and what is wanted there
unfoldable pub wrapper_front : Reader Lexeme (Wrapper × Want)
wrapper_front = pick (inside class_of (3 ∷ [])) array_front (pick (inside class_of (15 ∷ [])) ref_front raw_front)

-- ; N ]
unfoldable pub count_at : Reader Lexeme Lexeme
count_at = past class_of (10 ∷ []) (ended class_of (tok class_of (35 ∷ [])) (4 ∷ []))

abbrev pub counted_of : Named → Lexeme → Named
counted_of item count = to_array (item, Some count)

-- ] or ; N ]
unfoldable pub array_end : Named → Reader Lexeme Named
array_end item = pick (inside class_of (4 ∷ [])) (made (λ t. to_array (item, None)) (tok class_of (4 ∷ []))) (made (counted_of item) count_at)

-- what stands behind the inner type
unfoldable pub wrapper_end : Wrapper → Named → Reader Lexeme Named
wrapper_end Array inner = array_end inner
wrapper_end (Ref mutable) inner = nothing (to_ref (mutable, inner))
wrapper_end (Raw mutable) inner = nothing (to_raw (mutable, inner))

-- an array, a slice, a reference or a pointer, where t reads types of one level less
unfoldable pub wrapped_at : Readers → Reader Lexeme Named
wrapped_at t ts = after (λ v rest. after (wrapper_end v.0) (t (want_of v.1) rest)) (wrapper_front ts)

-- + and a lifetime, or nothing
unfoldable pub bound : Reader Lexeme Bool
bound = bound_at

abbrev pub dyn_of : Named → Bool → Named
dyn_of path bounded = to_dyn path

-- what stands behind the path of a dyn type
unfoldable pub dyn_end : Named → Reader Lexeme Named
dyn_end path = made (dyn_of path) bound
