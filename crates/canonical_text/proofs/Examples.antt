-- How names are written.
use Rattle.std.proofs.Common.{◌≡◌, codes, refl}
use Rattle.canonical_text.specs.declared.positions.Position.TheVariants.{AsValue, AsConstant, AsType, Alone}
use Rattle.canonical_text.specs.Names.{is_reserved, path_written}

plain : path_written AsType (codes "F<u8, &mut Box<a::b>>") ≡ codes "F<u8, &mut Box<a::b>>"
unfolding path_written is_reserved
plain = refl

-- a word that begins a type, at the head of a type and as the trait that a function belongs to
type_word : path_written AsType (codes "str<a>") ≡ codes "str::<a>"
unfolding path_written is_reserved
type_word = refl

trait_alone : path_written Alone (codes "str<a>") ≡ codes "str<a>"
unfolding path_written is_reserved
trait_alone = refl

-- the word of an operator, at the head of a type, of a value and of a constant
operator_type : path_written AsType (codes "Add<u8>") ≡ codes "Add<u8>"
unfolding path_written is_reserved
operator_type = refl

operator_value : path_written AsValue (codes "Add<Sub<u8>>") ≡ codes "Add::<Sub<u8>>"
unfolding path_written is_reserved
operator_value = refl

operator_constant : path_written AsConstant (codes "Add<u8>::N") ≡ codes "Add<u8>::N"
unfolding path_written is_reserved
operator_constant = refl

truth_constant : path_written AsConstant (codes "true<u8>::N") ≡ codes "true::<u8>::N"
unfolding path_written is_reserved
truth_constant = refl

-- words of types are no words of values
type_value : path_written AsValue (codes "str<a>::B") ≡ codes "str<a>::B"
unfolding path_written is_reserved
type_value = refl

-- a trait and its method, also of types that are named as the words before traits are
method : path_written AsValue (codes "<u8 as Add<u8>>::add") ≡ codes "<u8 as Add<u8>>::add"
unfolding path_written is_reserved
method = refl

word_method : path_written AsValue (codes "<as as u8<a>>::add") ≡ codes "<as as u8<a>>::add"
unfolding path_written is_reserved
word_method = refl

dyn_method : path_written AsValue (codes "<dyn u8<a> as u8<a>>::add") ≡ codes "<dyn u8<a> as u8<a>>::add"
unfolding path_written is_reserved
dyn_method = refl

reserved_inside : path_written AsValue (codes "F<str<a>, char, [u8<a>; 2]>") ≡ codes "F<str::<a>, char, [u8::<a>; 2]>"
unfolding path_written is_reserved
reserved_inside = refl

type_inside : path_written AsType (codes "Vec<u8<T>>") ≡ codes "Vec<u8::<T>>"
unfolding path_written is_reserved
type_inside = refl

-- behind :: any word begins arguments
reserved_behind : path_written AsType (codes "a::str<u8>") ≡ codes "a::str<u8>"
unfolding path_written is_reserved
reserved_behind = refl

segment_kept : path_written Alone (codes "num::<impl Add<u8> for u8<a>>::add<u8>") ≡ codes "num::<impl Add<u8> for u8<a>>::add<u8>"
unfolding path_written is_reserved
segment_kept = refl

-- behind a segment there may be such a word again
behind_segment : path_written AsType (codes "F<<impl Not<a>>::b, str<a>>") ≡ codes "F<<impl Not<a>>::b, str::<a>>"
unfolding path_written is_reserved
behind_segment = refl
