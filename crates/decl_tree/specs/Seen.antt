-- How the labels that were seen are kept.
use Rattle.std.specs.Prelude.{ℕ, List, map, Vec}
use Rattle.std.specs.declared.alloc.Global.{Global}
use Rattle.decl_tree.specs.declared.labels.Label.{Label}
use Rattle.decl_tree.specs.declared.labels.Seen.TheInside.{Inside}

abbrev pub label_of : Vec ℕ Global × Vec ℕ Global → Label
label_of k = record { first = k.0.items; second = k.1.items }

abbrev pub labels_of : Inside → List Label
labels_of s = map label_of s.keys.keys
