-- What the command answers, what it writes, and with which status it ends.
use Rattle.std.specs.Prelude.{◌≡◌, ◌⊎◌, ℕ, ◌<◌, ◌≤◌, Bool, true, ◌&&◌, if◌then◌else◌, List, [], ◌∷◌, ◌++◌, length, take, map, codes, Option, Some, None, IfSome, string_bytes, String}
use Rattle.std.specs.declared.alloc.Global.{Global}
use Rattle.vk_files.specs.Causes.{Rose}
use Rattle.mir_program.specs.Joined.{Joined}
use Rattle.front_end.specs.Front.{IsRefused}
use Rattle.front_end.specs.Lines.{refusal_text}
use Rattle.unit_reports.specs.declared.status.UnitReport.{UnitReport}
use Rattle.unit_reports.specs.declared.verdict.Verdict.TheVariants as verdict
use Rattle.unit_reports.specs.Report.{line, report_of}
use Rattle.unit_reports.specs.Verdicts.{same_verdict, verdict_of}
use Rattle.kani_mir.specs.Units.{AreReports, IsBuilt, IsSafe, IsTyped}
use Rattle.kani_mir.specs.declared.answer.Answer.{Answer}
use Rattle.kani_mir.specs.declared.answer.Answer.TheVariants as answer
use Rattle.kani_mir.specs.declared.answer.FileWord.{FileWord}
use Rattle.kani_mir.specs.declared.answer.FileWord.TheVariants as file

-- the most bytes of a file
abbrev pub max_file : ℕ
max_file = 4194304

-- the words are `verify MIR DECL`
abbrev pub AreVerify : List (List ℕ) → List ℕ → List ℕ → Type 0
AreVerify words mir decl = words ≡ codes "verify" ∷ mir ∷ decl ∷ []

-- what is told of a name is this
abbrev pub Says : Option (Option (List ℕ)) → Option (List ℕ) → Type 0
Says told file = IfSome told (λ f. f ≡ file)

-- a file with these bytes, which are not too many
abbrev pub Fits : Option (Option (List ℕ)) → List ℕ → Type 0
Fits told bytes = Says told (Some bytes) × (length bytes ≤ max_file)

-- a file that is too long
abbrev pub IsLong : Option (Option (List ℕ)) → Type 0
IsLong told = IfSome told (λ f. (bytes : List ℕ) × (f ≡ Some bytes) × (max_file < length bytes))

-- what is right for files with these bytes
abbrev pub IsJudged : List ℕ → List ℕ → Answer → Type 0
IsJudged m d answer.Usage = ⊥
IsJudged m d (answer.Missing w) = ⊥
IsJudged m d (answer.ReadFault w) = ⊥
IsJudged m d (answer.TooLong w) = ⊥
IsJudged m d (answer.Refused refusal) = IsRefused m d refusal
IsJudged m d answer.NotBuilt = (p : Joined) × IsTyped m d p × (IsBuilt p → ⊥)
IsJudged m d (answer.Report reports) = (p : Joined) × IsTyped m d p × IsBuilt p × AreReports p.functions p.declarations.units reports

-- both files were read, and this is right for them
abbrev pub AreRead : Option (Option (List ℕ)) → Option (Option (List ℕ)) → Answer → Type 0
AreRead mir decl a = (m d : List ℕ) × Fits mir m × Fits decl d × IsJudged m d a

-- What is right for two names, where this is told of them: the first file decides before the second one, and both
-- before what they hold. A read fault needs a rise of the files' count of faults.
abbrev pub IsFound : Option (Option (List ℕ)) → Option (Option (List ℕ)) → ℕ → ℕ → Answer → Type 0
IsFound mir decl before now answer.Usage = ⊥
IsFound mir decl before now (answer.Missing file.Mir) = Says mir None
IsFound mir decl before now (answer.Missing file.Declarations) = (m : List ℕ) × Fits mir m × Says decl None
IsFound mir decl before now (answer.ReadFault file.Mir) = Rose before now
IsFound mir decl before now (answer.ReadFault file.Declarations) = (m : List ℕ) × Fits mir m × Rose before now
IsFound mir decl before now (answer.TooLong file.Mir) = IsLong mir
IsFound mir decl before now (answer.TooLong file.Declarations) = (m : List ℕ) × Fits mir m × IsLong decl
IsFound mir decl before now (answer.Refused refusal) = AreRead mir decl (answer.Refused refusal)
IsFound mir decl before now answer.NotBuilt = AreRead mir decl answer.NotBuilt
IsFound mir decl before now (answer.Report reports) = AreRead mir decl (answer.Report reports)

-- What is right for words, where the files hold this; the counts are those of the files' faults.
abbrev pub IsRight : List (List ℕ) → (List ℕ → Option (Option (List ℕ))) → ℕ → ℕ → Answer → Type 0
IsRight words held before now a =
    ((a ≡ answer.Usage) × ((mir decl : List ℕ) → AreVerify words mir decl → ⊥))
    ⊎ ((mir decl : List ℕ) × AreVerify words mir decl × IsFound (held mir) (held decl) before now a)

abbrev pub is_successful : UnitReport → Bool
is_successful r = same_verdict (verdict_of r.statuses.items) verdict.Successful

abbrev pub all_units_succeed : List UnitReport → Bool
all_units_succeed [] = true
all_units_succeed (r ∷ rs) = is_successful r && all_units_succeed rs

abbrev pub status_of : Answer → ℕ
status_of answer.Usage = 64
status_of (answer.Missing w) = 4
status_of (answer.ReadFault w) = 4
status_of (answer.TooLong w) = 2
status_of (answer.Refused refusal) = 2
status_of answer.NotBuilt = 2
status_of (answer.Report reports) = if all_units_succeed reports then 0 else 1

-- the name of a file, by the words
abbrev pub name_in : List (List ℕ) → FileWord → List ℕ
name_in [] w = []
name_in (command ∷ []) w = []
name_in (command ∷ mir ∷ []) file.Mir = mir
name_in (command ∷ mir ∷ []) file.Declarations = []
name_in (command ∷ mir ∷ decl ∷ rest) file.Mir = mir
name_in (command ∷ mir ∷ decl ∷ rest) file.Declarations = decl

unfoldable pub text_of : List (List ℕ) → Answer → List ℕ
text_of words answer.Usage = line (codes "error: usage: NotBuilt")
text_of words (answer.Missing w) = line (codes "error: file: Missing " ++ name_in words w)
text_of words (answer.ReadFault w) = line (codes "error: file: ReadFault " ++ name_in words w)
text_of words (answer.TooLong w) = line (codes "error: file: TooLong " ++ name_in words w)
text_of words (answer.Refused refusal) = line (refusal_text refusal)
text_of words answer.NotBuilt = line (codes "error: input: NotBuilt")
text_of words (answer.Report reports) = report_of reports

-- How a call ends: with a right answer that was written whole, and its status; cut short by a fault of the sink, behind
-- some first bytes of a right answer; or for want of memory, before anything was written.
pub data Concludes (right : Answer → Type 0) (text : Answer → List ℕ) (sink_rose : Type 0) (before after : Option (List ℕ)) (status : ℕ) : Type 0 where
  whole : (a : Answer) → right a → status ≡ status_of a → IfSome before (λ w. after ≡ Some (w ++ text a)) → Concludes right text sink_rose before after status
  cut : (a : Answer) → right a → status ≡ 5 → sink_rose → IfSome before (λ w. (n : ℕ) × (n < length (text a)) × (after ≡ Some (w ++ take n (text a)))) → Concludes right text sink_rose before after status
  nothing : status ≡ 3 → after ≡ before → Concludes right text sink_rose before after status

abbrev pub words_of : List (String Global) → List (List ℕ)
words_of words = map (λ w. string_bytes w) words

-- Where the files tell what they hold and the words are `verify MIR DECL`, the two files make a well-typed program, each unit of which
-- names a function of the scalar form of which no choices and no number of steps lead to a fault.
abbrev pub Headline : List (List ℕ) → (List ℕ → Option (Option (List ℕ))) → Type 0
Headline words held = (mir decl m d : List ℕ) → AreVerify words mir decl → held mir ≡ Some (Some m) → held decl ≡ Some (Some d) → IsSafe m d
