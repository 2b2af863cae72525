use Rattle.std.proofs.Common.{◌≡◌, ◌<◌, ◌≤◌, ◌+◌, ◌-◌, ℕ, List, IsTrue, length, vec_len}
use Rattle.vk_files.proofs.Going.{Going}
use Rattle.vk_files.proofs.reading.read_rest.Given as goal

abbrev pub invariant-loop-bytes : goal.invariant-loop-bytes
invariant-loop-bytes g l = record {
  found : IsTrue (g.F.Files.found l.files);
  room : 0 < vec_len l.piece;
  short : length l.bytes.items ≤ l.max;
  going : Going (g.F.Files.left l.initial.files) (g.F.Files.left l.files) l.bytes.items;
  later : g.F.Files.faults l.initial.files ≤ g.F.Files.faults l.files;
  keeps : (n : List ℕ) → g.F.Files.held l.files n ≡ g.F.Files.held l.initial.files n;
}

abbrev pub decreases-loop-bytes : goal.decreases-loop-bytes
decreases-loop-bytes g l = l.max + 1 - length l.bytes.items
