-- What the calls on files answer. A name stands for `Some bytes`, or for `None` where there is no such file;
-- where that is not told, there is one `None` around it.
use Rattle.std.specs.Prelude.{◌≡◌, ◌<◌, ◌≤◌, ◌+◌, ℕ, List, [], ◌++◌, Option, Some, None, Bool, IsTrue, IsFalse, Result, Ok, Err, length, take, drop}
use Rattle.std.specs.declared.vec.Vec.{Vec}
use Rattle.std.specs.declared.alloc.Global.{Global}
use Rattle.vk_files.specs.declared.files.Opened.{Opened}
use Rattle.vk_files.specs.declared.files.Opened.TheVariants.{Found, Missing}
use Rattle.vk_files.specs.declared.reading.FileFault.{FileFault}
use Rattle.vk_files.specs.declared.reading.FileFault.TheVariants as faults

-- What opening answers, and what is then unread: where it is told what the name stands for, Found only where
-- there is a file, and then all its bytes are unread; Missing only where there is none.
abbrev pub Opens : Option (Option (List ℕ)) → Option (List ℕ) → Opened → Type 0
Opens None left answer = Unit {0}
Opens (Some (Some bytes)) left Found = left ≡ Some bytes
Opens (Some (Some bytes)) left Missing = ⊥
Opens (Some None) left Found = ⊥
Opens (Some None) left Missing = Unit {0}

-- What reading a whole file of at most `max` bytes answers: all its bytes where they are at most `max`, Missing
-- only where there is no file, TooLong only where there are more than `max` bytes. A fault of the outside and
-- want of memory can come with any file.
abbrev pub ReadsFile : Option (List ℕ) → ℕ → Result (Vec ℕ Global) FileFault → Type 0
ReadsFile file max (Ok bytes) = (file ≡ Some bytes.items) × (length bytes.items ≤ max)
ReadsFile file max (Err faults.Missing) = file ≡ None
ReadsFile file max (Err faults.TooLong) = (bytes : List ℕ) × (file ≡ Some bytes) × (max < length bytes)
ReadsFile file max (Err faults.Failed) = Unit {0}
ReadsFile file max (Err faults.Memory) = Unit {0}

-- How an answer goes with what opening answered: bytes and TooLong only after Found, Missing only after Missing.
abbrev pub FitsOpening : Bool → Result (Vec ℕ Global) FileFault → Type 0
FitsOpening found (Ok bytes) = IsTrue found
FitsOpening found (Err faults.Missing) = IsFalse found
FitsOpening found (Err faults.TooLong) = IsTrue found
FitsOpening found (Err faults.Failed) = Unit {0}
FitsOpening found (Err faults.Memory) = Unit {0}

-- What one read behind the bytes read so far answers, `rest` being unread before it: a count, and then so many
-- bytes of the rest stand behind the others and the remainder is unread, with 0 only at the end; TooLong only
-- where all in all there are more than `max` bytes.
abbrev pub ReadsPiece : List ℕ → List ℕ → List ℕ → Option (List ℕ) → ℕ → Result ℕ FileFault → Type 0
ReadsPiece rest before after left max (Ok n) = (after ≡ before ++ take n rest) × (left ≡ Some (drop n rest)) × (n ≡ 0 → rest ≡ [])
ReadsPiece rest before after left max (Err faults.Missing) = ⊥
ReadsPiece rest before after left max (Err faults.TooLong) = max < length before + length rest
ReadsPiece rest before after left max (Err faults.Failed) = Unit {0}
ReadsPiece rest before after left max (Err faults.Memory) = Unit {0}
