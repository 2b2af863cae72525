-- Calls that are numbered from 1, of which some are to fail.
use Rattle.std.specs.Prelude.{ℕ, ◌+◌, ◌-◌, ◌^◌, ◌==◌, min, Bool, if◌then◌else◌}
use Rattle.std.specs.List.{list_any}
use Rattle.vk_files.specs.declared.calls.Calls.{Calls}

-- the next number, up to the greatest of 64 bits
abbrev pub one_more : ℕ → ℕ
one_more n = min (n + 1) (2 ^ 64 - 1)

-- whether the call that comes next is one that is to fail
abbrev pub next_fails : Calls → Bool
next_fails calls = list_any (λ number. number == one_more calls.made) calls.failing.items

-- the calls after one more, which is a fault where it was to fail
abbrev pub after_call : Calls → Calls
after_call calls =
    record calls { made = one_more calls.made; faults = (if next_fails calls then one_more calls.faults else calls.faults) }

-- the calls after one more fault
abbrev pub after_fault : Calls → Calls
after_fault calls = record calls { faults = one_more calls.faults }

-- the calls after a write, which is a fault where it was to fail or there is no room
abbrev pub after_write : Calls → Bool → Calls
after_write calls full = if next_fails calls then after_call calls else (if full then after_fault (after_call calls) else after_call calls)
