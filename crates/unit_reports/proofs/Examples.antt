-- Texts of values.
use Rattle.std.proofs.Common.{◌≡◌, refl, codes}
use Rattle.std.specs.Fmt.{digits}
use Rattle.mir_ir.specs.declared.types.IntTy.TheVariants as int
use Rattle.unit_reports.specs.Values.{integer_text}

byte_of_200 : integer_text int.U8 200 ≡ codes "200"
unfolding integer_text digits
byte_of_200 = refl

-- the bits of 200 are -56 with a sign
signed_byte_of_200 : integer_text int.I8 200 ≡ codes "-56"
unfolding integer_text digits
signed_byte_of_200 = refl

least_of_16_bits : integer_text int.I16 32768 ≡ codes "-32768"
unfolding integer_text digits
least_of_16_bits = refl
