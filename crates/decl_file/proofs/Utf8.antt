-- Bytes are a text exactly where they are UTF-8.
use Rattle.std.proofs.Common.{◌≡◌, ℕ, true, false, List, Some, None, if◌then◌else◌, refl, ap}
use Rattle.std.specs.Str.{IsUtf8, is_utf8}
use Rattle.std.proofs.lemmas.Str.{IsUtf8-from_is_utf8, is_utf8-from_IsUtf8}
use Rattle.decl_file.specs.File.{text_of}

pub a_text : (bs : List ℕ) → IsUtf8 bs → text_of bs ≡ Some bs
a_text bs u = ap (λ b. if b then Some bs else None) (is_utf8-from_IsUtf8 bs u)

is_utf8_not : (bs : List ℕ) → ¬ (IsUtf8 bs) → is_utf8 bs ≡ false
is_utf8_not bs broken = elim (is_utf8 bs) as (λ b. is_utf8 bs ≡ b → b ≡ false) [ true ↦ λ e. absurd (broken (IsUtf8-from_is_utf8 bs e)) | false ↦ λ e. refl ] refl

pub no_text : (bs : List ℕ) → ¬ (IsUtf8 bs) → text_of bs ≡ None
no_text bs broken = ap (λ b. if b then Some bs else None) (is_utf8_not bs broken)
