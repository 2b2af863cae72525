use Rattle.std.proofs.Common.{◌≡◌, [], List, ℕ, Option, IfSome, is_some, ap, sym, subst}
use Rattle.vk_files.specs.Memory.{opened_as}
use Rattle.vk_files.proofs.Finding.{first_at, first_absent, first_is_some, opened_found, left_whole, same_place}
use Rattle.vk_files.proofs.shelf.Shelf.open_file.Goals as goal

pub returns-in-Some-clause-answer : goal.returns-in-Some-clause-answer
returns-in-Some-clause-answer c = opened_found _ (first_is_some c.args.self.now.files.items c.args.name.now c.in-Some.file (same_place c.args.name.now c.in-Some.ensures c.deref.ensures.value))

pub returns-in-Some-clause-left : goal.returns-in-Some-clause-left
returns-in-Some-clause-left c = left_whole _ _ (first_at c.args.self.now.files.items c.args.name.now c.in-Some.file (same_place c.args.name.now c.in-Some.ensures c.deref.ensures.value))

pub returns-in-Some-clause-is_open : goal.returns-in-Some-clause-is_open
returns-in-Some-clause-is_open c = first_is_some c.args.self.now.files.items c.args.name.now c.in-Some.file (same_place c.args.name.now c.in-Some.ensures c.deref.ensures.value)

pub returns-in-None-clause-answer : goal.returns-in-None-clause-answer
returns-in-None-clause-answer c = ap (λ o. opened_as o) (sym (first_absent c.args.self.now.files.items c.args.name.now (same_place c.args.name.now c.in-None.ensures c.deref.ensures.value)))

pub returns-in-None-clause-left : goal.returns-in-None-clause-left
returns-in-None-clause-left c =
    let Left : Option (List ℕ) → Type 0 = λ o. IfSome o (λ bytes. [] ≡ bytes) in
    subst Left (sym (first_absent c.args.self.now.files.items c.args.name.now (same_place c.args.name.now c.in-None.ensures c.deref.ensures.value))) tt

pub returns-in-None-clause-is_open : goal.returns-in-None-clause-is_open
returns-in-None-clause-is_open c = ap (λ o. is_some o) (sym (first_absent c.args.self.now.files.items c.args.name.now (same_place c.args.name.now c.in-None.ensures c.deref.ensures.value)))
