-- A table of the domains that have an entry path in common.
use Rattle.std.specs.Prelude.{◌≡◌, ℕ, ◌<◌, Bool, false, ◌||◌, List, [], slice_index_or}
use Rattle.tables.specs.Entries.{enters}
use Rattle.tables.specs.declared.entry.Entry.{Entry}
use Rattle.clash.specs.Clashes.{shares}

abbrev pub marked : List Bool → ℕ → Bool
marked row f = slice_index_or row f false

abbrev pub row_of : List (List Bool) → ℕ → List Bool
row_of rows e = slice_index_or rows e []

-- after has what before has, and of the domains above e those that have the path as an entry path
abbrev pub Entered : List Entry → ℕ → List ℕ → List Bool → List Bool → Type 0
Entered entries e p before after = (f : ℕ) → e < f → f < 32 → marked after f ≡ (marked before f || enters entries f p)

-- of the domains above e the row has those that have an entry path in common with e
pub record Sharers (entries : List Entry) (e : ℕ) (row : List Bool) : Type 0 where
  pub marks : (f : ℕ) → e < f → f < 32 → marked row f ≡ shares entries e f

abbrev pub Shared : List Entry → List (List Bool) → Type 0
Shared entries rows = (e : ℕ) → e < 32 → Sharers entries e (row_of rows e)
