-- Whether separations are kept.
use Rattle.std.specs.Prelude.{ℕ, Bool, true, false, List, Some, None, Option}
use Rattle.std.specs.List.{AllByRecursion}
use Rattle.label.specs.declared.numbers.Typ.{Typ}
use Rattle.machine.specs.Flow.{of_type, Chain}
use Rattle.machine.specs.Policy.{Policy as Asked}
use Rattle.tables.specs.declared.table.Apart.{Apart}
use Rattle.draft.specs.Endings.{KeptApart, FirstBroken}

abbrev pub Chained : Asked → Apart → Bool → Type 0
Chained P a true = (n : ℕ) × Chain P (of_type P a.from.0) (of_type P a.to.0) n
Chained P a false = KeptApart P a

abbrev pub Breaks : Asked → List Apart → Option (Typ × Typ) → Type 0
Breaks P aparts None = AllByRecursion (KeptApart P) aparts
Breaks P aparts (Some pair) = FirstBroken P aparts pair
