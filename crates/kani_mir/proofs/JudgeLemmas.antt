-- What is told of two files that are refused.
use Rattle.std.proofs.Common.{◌≡◌, ℕ, List, Result, Err, subst}
use Rattle.mir_program.specs.Joined.{Joined}
use Rattle.front_end.specs.Front.{IsRefused, IsTold}
use Rattle.front_end.specs.declared.refusal.Refusal.{Refusal}

pub refused_by : (m d : List ℕ) (told : Result Joined Refusal) (r : Refusal) → told ≡ Err r → IsTold m d told → IsRefused m d r
refused_by m d told r e h = subst (IsTold m d) e h
