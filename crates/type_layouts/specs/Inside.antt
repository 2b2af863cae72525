-- How declared types are found.
use Rattle.std.specs.Prelude.{◌≡◌, ℕ, List, bytes_eq}
use Rattle.mir_ir.specs.declared.declarations.TypeDecl.{TypeDecl}
use Rattle.indexmap.specs.IndexMap.{get_by}
use Rattle.type_layouts.specs.declared.scope.Scope.TheInside.{Inside}
use Rattle.type_layouts.specs.Entries.{entry_of}

abbrev pub declared_in : Inside → List TypeDecl
declared_in s = s.types.now

-- each text has the place of the first declaration of that name
pub record IsNumbered (s : Inside) : Type 0 where
  pub numbered : (text : List ℕ) → get_by (λ k. bytes_eq text k.items) s.numbers ≡ entry_of s.types.now text
