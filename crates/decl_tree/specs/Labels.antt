-- What no two entries of a list may share: labels of two texts.
use Rattle.std.specs.Prelude.{ℕ, Bool, ◌&&◌, List, [], ◌∷◌, ◌++◌, if◌then◌else◌, Option, Some, None}
use Rattle.std.specs.List.{list_any}
use Rattle.std.specs.Str.{bytes_eq}
use Rattle.decl_tree.specs.declared.labels.Label.{Label}

abbrev pub same_label : Label → Label → Bool
same_label a b = bytes_eq a.first b.first && bytes_eq a.second b.second

abbrev pub is_seen : List Label → Label → Bool
is_seen seen label = list_any (same_label label) seen

-- the labels seen, with these, one after the other; none where one of them was seen
abbrev pub with_labels : List Label → List Label → Option (List Label)
with_labels seen [] = Some seen
with_labels seen (l ∷ ls) = if is_seen seen l then None else with_labels (seen ++ l ∷ []) ls

abbrev pub one_label : List ℕ → List ℕ → List Label
one_label first second = record { first = first; second = second } ∷ []
