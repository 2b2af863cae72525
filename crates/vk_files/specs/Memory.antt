-- Files and a sink in memory.
use Rattle.std.specs.Prelude.{ℕ, List, [], Bool, Option, Some, None, min, length, drop, slice_get, ◌==◌, ◌&&◌, nat_lt}
use Rattle.std.specs.List.{find}
use Rattle.std.specs.Option.{option_map, unwrap_or}
use Rattle.std.specs.Prelude.{String, string_bytes}
use Rattle.std.specs.Str.{bytes_eq}
use Rattle.std.specs.declared.vec.Vec.{Vec}
use Rattle.std.specs.declared.alloc.Global.{Global}
use Rattle.vk_files.specs.declared.files.Opened.{Opened}
use Rattle.vk_files.specs.declared.files.Opened.TheVariants.{Found, Missing}
use Rattle.vk_files.specs.declared.shelf.Reading.{Reading}

-- a name and the bytes of the file
abbrev pub Entry : Type 0
Entry = String Global × Vec ℕ Global

-- whether a file has this name
abbrev pub has_name : List ℕ → Entry → Bool
has_name name file = bytes_eq (string_bytes file.0) name

-- the bytes of the first file of this name
abbrev pub first_named : List Entry → List ℕ → Option (List ℕ)
first_named files name = option_map (λ f. f.1.items) (find (has_name name) files)

-- the bytes of the file at a place
abbrev pub bytes_at : List Entry → ℕ → Option (List ℕ)
bytes_at files at = option_map (λ f. f.1.items) (slice_get files at)

-- what is unread of the file that is open
abbrev pub unread : List Entry → Option Reading → List ℕ
unread files None = []
unread files (Some reading) = drop reading.read (unwrap_or (bytes_at files reading.file) [])

-- what opening a name answers that stands for these bytes or for no file
abbrev pub opened_as : Option (List ℕ) → Opened
opened_as (Some bytes) = Found
opened_as None = Missing

-- how many bytes a read or a write moves, of so many that are there, into so much room
abbrev pub moved : (piece room there : ℕ) → ℕ
moved piece room there = min (min piece room) there

-- whether a write would take nothing of a piece that is not empty
abbrev pub is_full : (piece room : ℕ) → List ℕ → Bool
is_full piece room bytes = (moved piece room (length bytes) == 0) && nat_lt 0 (length bytes)
