-- What a test takes from what was read.
use Rattle.std.specs.Prelude.{Bool, true, false, Option, Some, None, Result, Ok, Err}
use Rattle.vk_core.specs.declared.memory.NoMemory.{NoMemory}
use Rattle.decl_tree.specs.declared.fault.KeyFault.{KeyFault}

module _ {A : Type 0} where
  -- whether it is a value
  abbrev pub was_read : Result (Result A KeyFault) NoMemory → Bool
  was_read (Ok (Ok x)) = true
  was_read (Ok (Err f)) = false
  was_read (Err e) = false

  -- the value
  abbrev pub value_of : Result (Result A KeyFault) NoMemory → Option A
  value_of (Ok (Ok x)) = Some x
  value_of (Ok (Err f)) = None
  value_of (Err e) = None
