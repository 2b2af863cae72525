-- A file that is read piece by piece.
use Rattle.std.proofs.Common.{◌≡◌, ℕ, List, ◌++◌, Option, Some, IfSome}

-- These bytes were read since so much was unread, and the others are unread now; nothing where it is not told.
pub record Going (first now : Option (List ℕ)) (bytes : List ℕ) : Type 0 where
  pub told : IfSome first (λ whole. (rest : List ℕ) × (now ≡ Some rest) × (whole ≡ bytes ++ rest))
