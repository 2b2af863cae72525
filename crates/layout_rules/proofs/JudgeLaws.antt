-- From one rule to all of them.
use Rattle.std.proofs.Common.{◌≡◌, ℕ, Bool, List, Option, Some, None, Err, find, option_map, slice_get, refl, subst, sym, ap}
use Rattle.layout_rules.specs.declared.fault.LayoutFault.{LayoutFault}
use Rattle.layout_rules.specs.declared.fault.LayoutFault.TheVariants as fault
use Rattle.layout_rules.specs.declared.fault.LayoutKind.{LayoutKind}
use Rattle.type_layouts.specs.declared.outline.Outline.{Outline}
use Rattle.type_layouts.specs.declared.row.Row.{Row}
use Rattle.layout_rules.specs.Judged.{IsJudged}
use Rattle.type_layouts.specs.Parts.{is_too_big, parts_table}
use Rattle.type_layouts.specs.Recursion.{IsRecursive, NoneRecursive}
use Rattle.layout_rules.specs.Refused.{IsRefusal}
use Rattle.layout_rules.specs.Rules.{AreKept, IsAnswer, IsFirst, IsFirstRecursive, NoneBefore, first_outline, first_row, first_too_big, outline_text, row_text, rules_before}
use Rattle.layout_rules.specs.Search.{IsFirstPlace}

module _ (all : List Outline) (rows : List Row) where
  pub refused : (rule : LayoutKind) (text : List ℕ) (e : LayoutFault) → IsRefusal rule text e → IsFirst all rows rule text → IsJudged all rows rule (Err e)
  refused rule text (fault.Rule kind t) is first = (is.0, subst (λ n. IsFirst all rows rule n) (sym is.1) first)
  refused rule text fault.Memory is first = tt

  pub answered : (rule : LayoutKind) (e : LayoutFault) → IsJudged all rows rule (Err e) → AreKept all rows (rules_before rule) → IsAnswer all rows (Err e)
  answered rule (fault.Rule kind text) judged kept =
      (subst (λ k. AreKept all rows (rules_before k)) (sym judged.0) kept, subst (λ k. IsFirst all rows k text) (sym judged.0) judged.1)
  answered rule fault.Memory judged kept = tt

-- the first that passes, by its text
pub named_row : (test : Row → Bool) (rows : List Row) (row : Row) → find test rows ≡ Some row → first_row test rows ≡ Some row.text
named_row test rows row e = ap (option_map row_text) e

pub named_outline : (test : Outline → Bool) (all : List Outline) (o : Outline) → find test all ≡ Some o → first_outline test all ≡ Some o.text
named_outline test all o e = ap (option_map outline_text) e

pub none_named : {A B : Type 0} (f : A → B) (o : Option A) → o ≡ None → option_map f o ≡ None
none_named f o e = ap (option_map f) e

-- the first declared type that holds itself, by its text
pub first_place : (all : List Outline) (place : ℕ) (o : Outline) → IsRecursive all place → NoneBefore all place → slice_get all place ≡ Some o → IsFirstRecursive all o.text
first_place all place o recursive first at = record { place = place; recursive = recursive; first = first; named = ap (option_map outline_text) at }

-- where no place was found, none holds itself
pub no_place : (all : List Outline) (place : Option ℕ) → IsFirstPlace all place → ((n : ℕ) → place ≡ Some n → ⊥) → NoneRecursive all
no_place all None first none = first
no_place all (Some n) first none = absurd (none n refl)

-- the first type that is too big by a table of parts, by its text
pub named_big : (all : List Outline) (table : List ℕ) (rows : List Row) (row : Row) → table ≡ parts_table all → Some row ≡ find (λ r. is_too_big table r.extent) rows
    → first_too_big all rows ≡ Some row.text
named_big all table rows row e h = ap (option_map row_text) (sym (subst (λ t. Some row ≡ find (λ r. is_too_big t r.extent) rows) e h))
