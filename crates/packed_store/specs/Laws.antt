-- What the layout of packed records comes to.
use Rattle.std.specs.Prelude.{◌≡◌, ℕ, List, None, slice_index_or}
use Rattle.packed_store.specs.Layout.{Table, Holds}
use Rattle.packed_store.specs.Reading.{packed_contents}

-- no memory holds two tables
abbrev pub OneTable : Type 0
OneTable = (xs : List ℕ) (t u : Table) → Holds xs t → Holds xs u → t ≡ u

-- what is read at each place is what the table that the memory holds has there
abbrev pub HeldIsRead : Type 0
HeldIsRead = (xs : List ℕ) (t : Table) → Holds xs t → (k : ℕ) → packed_contents xs k ≡ slice_index_or t k None
