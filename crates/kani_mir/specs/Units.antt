-- What is verified of a program: its units, whose functions are of the scalar form so far, and what is told of each.
use Rattle.std.specs.Prelude.{◌≡◌, ℕ, ◌-◌, ◌^◌, Bool, true, false, ◌&&◌, List, [], ◌∷◌, Some}
use Rattle.std.specs.List.{list_all}
use Rattle.mir_ir.specs.declared.tree.Function.{Function}
use Rattle.mir_ir.specs.declared.declarations.Declarations.{Declarations}
use Rattle.mir_ir.specs.declared.declarations.Unit as units
use Rattle.mir_ir.specs.declared.declarations.UnitKind.{UnitKind}
use Rattle.mir_ir.specs.declared.declarations.UnitKind.TheVariants as unit_kind
use Rattle.mir_program.specs.Joined.{Joined}
use Rattle.type_rules.specs.Lookup.{function_named}
use Rattle.typed_program.specs.WellTyped.{IsWellTyped}
use Rattle.front_end.specs.Front.{IsRead}
use Rattle.scalar_form.specs.Form.{is_scalar}
use Rattle.scalar_verdicts.specs.Statuses.{FitStatuses, NeverFaults, NoneIsSpent}
use Rattle.unit_reports.specs.declared.status.UnitReport.{UnitReport}

-- two files with these bytes make this program, which is well typed
pub record IsTyped (m d : List ℕ) (p : Joined) : Type 0 where
  pub read : IsRead m d p
  pub typed : IsWellTyped p

abbrev pub is_proof : UnitKind → Bool
is_proof unit_kind.Proof = true
is_proof unit_kind.Contract = false

abbrev pub is_none : List (List ℕ) → Bool
is_none [] = true
is_none (name ∷ names) = false

-- a proof harness, with nothing in the place of a function
abbrev pub is_harness : units.Unit → Bool
is_harness u = is_proof u.kind && is_none u.stubs

-- nothing is declared but proof harnesses
pub record HasHarnessesAlone (d : Declarations) : Type 0 where
  pub types : d.types ≡ []
  pub traits : d.traits ≡ []
  pub vtables : d.vtables ≡ []
  pub constants : d.constants ≡ []
  pub aliases : d.aliases ≡ []
  pub contracts : d.contracts ≡ []
  pub loops : d.loops ≡ []
  pub units : list_all is_harness d.units ≡ true

-- what is built so far
pub record IsBuilt (p : Joined) : Type 0 where
  pub declarations : HasHarnessesAlone p.declarations
  pub functions : list_all is_scalar p.functions ≡ true

-- the greatest u64: no budget of lines is set
abbrev pub no_budget : ℕ
no_budget = 2 ^ 64 - 1

-- the report tells of the unit, and each status is true of all runs of its function; none is spent
pub record IsReportOf (functions : List Function) (u : units.Unit) (report : UnitReport) : Type 0 where
  pub harness : report.harness ≡ u.name
  pub function : Function
  pub named : function_named functions u.name ≡ Some function
  pub form : is_scalar function ≡ true
  pub statuses : FitStatuses function no_budget report.statuses.items
  pub unspent : NoneIsSpent report.statuses.items

-- one report for each unit, in their order
abbrev pub AreReports : List Function → List units.Unit → List UnitReport → Type 0
AreReports functions [] [] = Unit {0}
AreReports functions [] (r ∷ rs) = ⊥
AreReports functions (u ∷ us) [] = ⊥
AreReports functions (u ∷ us) (r ∷ rs) = IsReportOf functions u r × AreReports functions us rs

-- the unit names a function of which no choices and no number of steps lead to a fault
pub record NeverFails (functions : List Function) (u : units.Unit) : Type 0 where
  pub function : Function
  pub named : function_named functions u.name ≡ Some function
  pub form : is_scalar function ≡ true
  pub never : NeverFaults function

abbrev pub NoneFails : List Function → List units.Unit → Type 0
NoneFails functions [] = Unit {0}
NoneFails functions (u ∷ us) = NeverFails functions u × NoneFails functions us

-- two files make a well-typed program, of which no unit fails
pub record IsSafe (m d : List ℕ) : Type 0 where
  pub program : Joined
  pub typed : IsTyped m d program
  pub units : NoneFails program.functions program.declarations.units
