-- Faults with the path that leads to them: a key is the step `.key`, an element of a list the step `[3]`.
use Rattle.std.specs.Prelude.{ℕ, List, [], ◌++◌, codes, Option, Some, None, Result, Ok, Err}
use Rattle.std.specs.Fmt.{decimal}
use Rattle.decl_tree.specs.declared.fault.DeclKind.{DeclKind}
use Rattle.decl_tree.specs.declared.fault.KeyFault.{KeyFault}

-- a fault at the thing itself
abbrev pub here : {A : Type 0} → DeclKind → Result A KeyFault
here k = Err (record { kind = k; path = [] })

-- a fault inside is told with the step that leads inside
abbrev pub under : {A : Type 0} → List ℕ → Result A KeyFault → Result A KeyFault
under step (Ok x) = Ok x
under step (Err f) = Err (record { kind = f.kind; path = step ++ f.path })

abbrev pub key_step : List ℕ → List ℕ
key_step key = codes "." ++ key

abbrev pub item_step : ℕ → List ℕ
item_step at = codes "[" ++ decimal at ++ codes "]"

-- the first fault, else what the second gives of the first's value
abbrev pub and_then : {A B : Type 0} → Result A KeyFault → (A → Result B KeyFault) → Result B KeyFault
and_then (Ok x) next = next x
and_then (Err f) next = Err f

-- a value that is there, else a fault at the thing itself
abbrev pub there : {A : Type 0} → DeclKind → Option A → Result A KeyFault
there k (Some x) = Ok x
there k None = here k
