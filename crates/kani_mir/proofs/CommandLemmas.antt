-- How the command's answers are right, and what success means.
use Rattle.std.proofs.Common.{◌≡◌, ◌⊎◌, inl, inr, ℕ, ◌+◌, ◌-◌, ◌^◌, ◌<◌, ◌≤◌, min, Bool, true, false, cond, ◌&&◌, List, [], ◌∷◌, length, Option, Some, None, IfSome, ap, subst, sym, ◌∙◌, refl, arith, get_or}
use Rattle.std.specs.Prelude.{codes, string_bytes, String}
use Rattle.std.specs.declared.alloc.Global.{Global}
use Rattle.vk_files.specs.Causes.{Rose}
use Rattle.unit_reports.specs.declared.status.UnitReport.{UnitReport}
use Rattle.kani_mir.specs.Command.{AreVerify, Concludes, Fits, Headline, IsFound, IsJudged, IsRight, Says, all_units_succeed, cut, max_file, nothing, status_of, whole, words_of}
use Rattle.kani_mir.specs.Told.{IsFoundBehind}
use Rattle.kani_mir.specs.declared.answer.Answer.{Answer}
use Rattle.kani_mir.specs.declared.answer.Answer.TheVariants as answer
use Rattle.kani_mir.specs.declared.answer.FileWord.TheVariants as file
use Rattle.std.proofs.lemmas.Option.{same_Some}
use Rattle.kani_mir.specs.Units.{IsSafe}
use Rattle.kani_mir.proofs.UnitLemmas.{none_fails}

-- three words, of which the first is `verify`
pub verify_words : (ws : List (String Global)) (command mir decl : String Global) → 3 ≤ length ws → length ws < 4 → command ≡ get_or ws 0 command → mir ≡ get_or ws 1 mir → decl ≡ get_or ws 2 decl
    → string_bytes command ≡ codes "verify" → words_of ws ≡ codes "verify" ∷ string_bytes mir ∷ string_bytes decl ∷ []
verify_words [] command mir decl least most e0 e1 e2 named = absurd (omega arith)
verify_words (a ∷ []) command mir decl least most e0 e1 e2 named = absurd (omega arith)
verify_words (a ∷ b ∷ []) command mir decl least most e0 e1 e2 named = absurd (omega arith)
verify_words (a ∷ b ∷ c ∷ []) command mir decl least most e0 e1 e2 named = cc
verify_words (a ∷ b ∷ c ∷ d ∷ ws) command mir decl least most e0 e1 e2 named = absurd (omega arith)

-- a file that was read
pub fits_read : (told : Option (Option (List ℕ))) (bytes : List ℕ) → IfSome told (λ held. (held ≡ Some bytes) × (length bytes ≤ 4194304)) → length bytes ≤ 4194304 → Fits told bytes
fits_read None bytes h short = (tt, short)
fits_read (Some held) bytes h short = (h.0, short)

pub behind_judged : (m d : List ℕ) (told : Option (Option (List ℕ))) (before now : ℕ) (a : Answer) → Fits told d → IsJudged m d a → IsFoundBehind m told before now a
behind_judged m d told before now answer.Usage fits judged = judged
behind_judged m d told before now (answer.Missing w) fits judged = absurd judged
behind_judged m d told before now (answer.ReadFault w) fits judged = absurd judged
behind_judged m d told before now (answer.TooLong w) fits judged = absurd judged
behind_judged m d told before now (answer.Refused refusal) fits judged = (d, fits, judged)
behind_judged m d told before now answer.NotBuilt fits judged = (d, fits, judged)
behind_judged m d told before now (answer.Report reports) fits judged = (d, fits, judged)

pub rose_later : (before mid now : ℕ) → before ≤ mid → Rose mid now → Rose before now
rose_later before mid now later rose = omega arith

pub found_behind : (mir decl : Option (Option (List ℕ))) (m : List ℕ) (before mid now : ℕ) (a : Answer) → Fits mir m → before ≤ mid → IsFoundBehind m decl mid now a → IsFound mir decl before now a
found_behind mir decl m before mid now answer.Usage fits later found = found
found_behind mir decl m before mid now (answer.Missing file.Mir) fits later found = absurd found
found_behind mir decl m before mid now (answer.Missing file.Declarations) fits later found = (m, fits, found)
found_behind mir decl m before mid now (answer.ReadFault file.Mir) fits later found = absurd found
found_behind mir decl m before mid now (answer.ReadFault file.Declarations) fits later found = (m, fits, rose_later before mid now later found)
found_behind mir decl m before mid now (answer.TooLong file.Mir) fits later found = absurd found
found_behind mir decl m before mid now (answer.TooLong file.Declarations) fits later found = (m, fits, found)
found_behind mir decl m before mid now (answer.Refused refusal) fits later found = (m, found.0, fits, found.1, found.2)
found_behind mir decl m before mid now answer.NotBuilt fits later found = (m, found.0, fits, found.1, found.2)
found_behind mir decl m before mid now (answer.Report reports) fits later found = (m, found.0, fits, found.1, found.2)

-- a status of 0 for a report
pub zero_succeeds : (is : Bool) → ◌≡◌ {A = ℕ} (cond is 0 1) 0 → is ≡ true
zero_succeeds true e = refl
zero_succeeds false e = absurd (omega arith)

pub says_same : (told : Option (Option (List ℕ))) (m n : List ℕ) → told ≡ Some (Some m) → Says told (Some n) → Some n ≡ Some m
says_same told m n e says = sym (subst (λ t. Says t (Some n)) e says)

pub second_or : List ℕ → List (List ℕ) → List ℕ
second_or other [] = other
second_or other (a ∷ []) = other
second_or other (a ∷ b ∷ rest) = b

pub same_mir : (words : List (List ℕ)) (mir decl mir2 decl2 : List ℕ) → AreVerify words mir decl → AreVerify words mir2 decl2 → mir2 ≡ mir
unfolding second_or
same_mir words mir decl mir2 decl2 one two = ap (second_or mir) (sym two ∙ one)

pub third_or : List ℕ → List (List ℕ) → List ℕ
third_or other [] = other
third_or other (a ∷ []) = other
third_or other (a ∷ b ∷ []) = other
third_or other (a ∷ b ∷ c ∷ rest) = c

pub same_decl : (words : List (List ℕ)) (mir decl mir2 decl2 : List ℕ) → AreVerify words mir decl → AreVerify words mir2 decl2 → decl2 ≡ decl
unfolding third_or
same_decl words mir decl mir2 decl2 one two = ap (third_or decl) (sym two ∙ one)

pub same_bytes : (told : Option (Option (List ℕ))) (m n : List ℕ) → told ≡ Some (Some m) → Says told (Some n) → n ≡ m
same_bytes told m n e says = same_Some n m (same_Some (Some n) (Some m) (ap (λ t. Some t) (says_same told m n e says)))

pub judged_safe : (m d : List ℕ) (reports : List UnitReport) → IsJudged m d (answer.Report reports) → all_units_succeed reports ≡ true → IsSafe m d
judged_safe m d reports judged success =
    record { program = judged.0; typed = judged.1; units = none_fails judged.0.functions judged.0.declarations.units reports judged.3 success }

-- where an answer is right and its status is 0, the two files make a program of which no unit fails
pub found_headline : (mir decl : Option (Option (List ℕ))) (before now : ℕ) (a : Answer) → IsFound mir decl before now a → status_of a ≡ 0 → (m d : List ℕ) → mir ≡ Some (Some m) → decl ≡ Some (Some d) → IsSafe m d
found_headline mir decl before now answer.Usage found zero m d told_m told_d = absurd found
found_headline mir decl before now (answer.Missing w) found zero m d told_m told_d = absurd (omega arith)
found_headline mir decl before now (answer.ReadFault w) found zero m d told_m told_d = absurd (omega arith)
found_headline mir decl before now (answer.TooLong w) found zero m d told_m told_d = absurd (omega arith)
found_headline mir decl before now (answer.Refused refusal) found zero m d told_m told_d = absurd (omega arith)
found_headline mir decl before now answer.NotBuilt found zero m d told_m told_d = absurd (omega arith)
found_headline mir decl before now (answer.Report reports) found zero m d told_m told_d =
    subst (λ n. IsSafe n d) (same_bytes mir m found.0 told_m found.2.0)
    (subst (λ n. IsSafe found.0 n) (same_bytes decl d found.1 told_d found.3.0)
    (judged_safe found.0 found.1 reports found.4 (zero_succeeds (all_units_succeed reports) zero)))

pub right_headline : (words : List (List ℕ)) (held : List ℕ → Option (Option (List ℕ))) (before now : ℕ) (a : Answer) → IsRight words held before now a → status_of a ≡ 0 → Headline words held
right_headline words held before now a (inl usage) zero mir decl m d are told_m told_d = absurd (usage.1 mir decl are)
right_headline words held before now a (inr right) zero mir decl m d are told_m told_d =
    found_headline (held right.0) (held right.1) before now a right.3 zero m d
    (ap held (same_mir words mir decl right.0 right.1 are right.2) ∙ told_m) (ap held (same_decl words mir decl right.0 right.1 are right.2) ∙ told_d)

pub headline : (words : List (List ℕ)) (held : List ℕ → Option (Option (List ℕ))) (before now : ℕ) (text : Answer → List ℕ) (rose : Type 0) (w v : Option (List ℕ)) (status : ℕ)
    → Concludes (IsRight words held before now) text rose w v status → status ≡ 0 → Headline words held
headline words held before now text rose w v status (whole a right told written) zero = right_headline words held before now a right (sym told ∙ zero)
headline words held before now text rose w v status (cut a right told risen written) zero = absurd (omega arith)
headline words held before now text rose w v status (nothing told same) zero = absurd (omega arith)
