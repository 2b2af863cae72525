-- What there is to tell at each step of the command.
use Rattle.std.specs.Prelude.{◌≡◌, ℕ, ◌<◌, ◌≤◌, List, [], ◌∷◌, Option, None, IsSome, Result, Ok, Err}
use Rattle.mir_ir.specs.declared.tree.Function.{Function}
use Rattle.mir_ir.specs.declared.declarations.Unit as units
use Rattle.mir_program.specs.Joined.{Joined}
use Rattle.type_rules.specs.Lookup.{function_named}
use Rattle.vk_core.specs.declared.memory.NoMemory.{NoMemory}
use Rattle.vk_files.specs.Causes.{Rose}
use Rattle.vk_files.specs.declared.reading.FileFault.{FileFault}
use Rattle.vk_files.specs.declared.reading.FileFault.TheVariants as fault
use Rattle.kani_mir.specs.declared.answer.Answer.{Answer}
use Rattle.kani_mir.specs.declared.answer.Answer.TheVariants as answer
use Rattle.kani_mir.specs.declared.answer.FileWord.{FileWord}
use Rattle.kani_mir.specs.declared.answer.FileWord.TheVariants as file
use Rattle.kani_mir.specs.Command.{Fits, IsJudged, IsLong, Says}
use Rattle.kani_mir.specs.Units.{AreReports, IsBuilt}

-- of a well-typed program: one report for each of its units where it is built, and else that it is not
abbrev pub IsTold : Joined → Answer → Type 0
IsTold p answer.Usage = ⊥
IsTold p (answer.Missing w) = ⊥
IsTold p (answer.ReadFault w) = ⊥
IsTold p (answer.TooLong w) = ⊥
IsTold p (answer.Refused refusal) = ⊥
IsTold p answer.NotBuilt = IsBuilt p → ⊥
IsTold p (answer.Report reports) = IsBuilt p × AreReports p.functions p.declarations.units reports

-- the unit names a function of the text
abbrev pub IsKnown : List Function → units.Unit → Type 0
IsKnown functions u = IsSome (function_named functions u.name)

-- of a file that was not read
abbrev pub IsRefusal : FileWord → FileFault → Result Answer NoMemory → Type 0
IsRefusal w fault.Missing r = r ≡ Ok (answer.Missing w)
IsRefusal w fault.Failed r = r ≡ Ok (answer.ReadFault w)
IsRefusal w fault.TooLong r = r ≡ Ok (answer.TooLong w)
IsRefusal w fault.Memory r = (e : NoMemory) × (r ≡ Err e)

-- of the declaration file, where the text was read
abbrev pub IsFoundBehind : List ℕ → Option (Option (List ℕ)) → ℕ → ℕ → Answer → Type 0
IsFoundBehind m decl before now answer.Usage = ⊥
IsFoundBehind m decl before now (answer.Missing file.Mir) = ⊥
IsFoundBehind m decl before now (answer.Missing file.Declarations) = Says decl None
IsFoundBehind m decl before now (answer.ReadFault file.Mir) = ⊥
IsFoundBehind m decl before now (answer.ReadFault file.Declarations) = Rose before now
IsFoundBehind m decl before now (answer.TooLong file.Mir) = ⊥
IsFoundBehind m decl before now (answer.TooLong file.Declarations) = IsLong decl
IsFoundBehind m decl before now (answer.Refused refusal) = (d : List ℕ) × Fits decl d × IsJudged m d (answer.Refused refusal)
IsFoundBehind m decl before now answer.NotBuilt = (d : List ℕ) × Fits decl d × IsJudged m d answer.NotBuilt
IsFoundBehind m decl before now (answer.Report reports) = (d : List ℕ) × Fits decl d × IsJudged m d (answer.Report reports)
