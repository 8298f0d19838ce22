-- The command table.
use Rattle.std.specs.Prelude.{◌≡◌, ℕ, List, [], ◌∷◌, codes}

-- the words of a row of the table, which today has the row `try` alone
abbrev pub IsRow : List (List ℕ) → Type 0
IsRow words = words ≡ codes "try" ∷ []
