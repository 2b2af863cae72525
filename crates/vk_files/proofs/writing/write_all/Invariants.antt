use Rattle.std.proofs.Common.{◌≡◌, ◌++◌, Some, IfSome, length, take, ◌-◌, ◌≤◌}
use Rattle.vk_files.proofs.writing.write_all.Given as goal

-- the first `taken` bytes are written
abbrev pub invariant-loop-taken : goal.invariant-loop-taken
invariant-loop-taken g l = record {
  within : l.taken ≤ length l.bytes;
  told : IfSome (g.K.Sink.written l.initial.sink) (λ w. g.K.Sink.written l.sink ≡ Some (w ++ take l.taken l.bytes));
  later : g.K.Sink.faults l.initial.sink ≤ g.K.Sink.faults l.sink;
}

abbrev pub decreases-loop-taken : goal.decreases-loop-taken
decreases-loop-taken g l = length l.bytes - l.taken
