-- Places in a text: the line and the column, both from 1, of the byte behind these.
use Rattle.std.specs.Prelude.{ℕ, ◌+◌, not, ◌==◌, List, take, reverse}
use Rattle.std.specs.List.{count_by, prefix_len}
use Rattle.vk_core.specs.declared.text_place.TextPlace.{TextPlace}

-- one line more than there are line feeds before
abbrev pub line_behind : List ℕ → ℕ
line_behind before = count_by (λ b. b == 10) before + 1

-- one column more than there are bytes behind the last line feed
abbrev pub column_behind : List ℕ → ℕ
column_behind before = prefix_len (λ b. not (b == 10)) (reverse before) + 1

unfoldable pub text_place : List ℕ → ℕ → TextPlace
text_place text offset = record { line = line_behind (take offset text); column = column_behind (take offset text) }
