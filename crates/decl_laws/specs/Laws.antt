-- What is read of a declaration file is well made.
use Rattle.std.specs.Prelude.{◌≡◌, ℕ, List, Ok}
use Rattle.mir_ir.specs.declared.declarations.Declarations.{Declarations}
use Rattle.mir_program.specs.Entries.{AreDeclarations}
use Rattle.decl_counts.specs.Counts.{AreCountable}
use Rattle.decl_file.specs.File.{declared_by}

-- whatever the bytes declare is well made where its lists are so short that it can be
pub record IsFileWellMade (bytes : List ℕ) : Type 0 where
  pub made : (d : Declarations) → declared_by bytes ≡ Ok d → AreCountable d → AreDeclarations d
  pub countable : (d : Declarations) → AreDeclarations d → AreCountable d
