-- Keys of the hash table beside the labels that they stand for.
use Rattle.std.proofs.Common.{◌≡◌, ℕ, Bool, not, ◌∙◌, ◌&&◌, ◌||◌, List, [], ◌∷◌, map, Vec, refl, ap}
use Rattle.std.specs.List.{list_any}
use Rattle.std.specs.Str.{bytes_eq}
use Rattle.std.specs.declared.alloc.Global.{Global}
use Rattle.decl_tree.specs.declared.labels.Label.{Label}
use Rattle.decl_tree.specs.Labels.{is_seen, same_label}
use Rattle.decl_tree.specs.Seen.{label_of}

abbrev pub Key : Type 0
Key = Vec ℕ Global × Vec ℕ Global

pub seen_mapped : (k : Key) (ks : List Key) → list_any (λ y. bytes_eq k.0.items y.0.items && bytes_eq k.1.items y.1.items) ks ≡ is_seen (map label_of ks) (label_of k)
seen_mapped k [] = refl
seen_mapped k (x ∷ ks) = ap (λ b. same_label (label_of k) (label_of x) || b) (seen_mapped k ks)

-- a label is new where the hash table lacks its key
pub added_new : (k : Key) (ks : List Key) (old : List Label) (label : Label) (new : Bool) → map label_of ks ≡ old → k.0.items ≡ label.first → k.1.items ≡ label.second
    → new ≡ not (list_any (λ y. bytes_eq k.0.items y.0.items && bytes_eq k.1.items y.1.items) ks) → new ≡ not (is_seen old label)
added_new k ks old label new seen first second added =
    added ∙ ap not (seen_mapped k ks ∙ (λ i. is_seen (seen i) (record { first = first i; second = second i })))
