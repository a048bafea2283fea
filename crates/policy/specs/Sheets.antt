-- The sheets of a sealed policy: one for each object, with a cell for each domain.
use Rattle.std.specs.Prelude.{◌≡◌, ℕ, suc, ◌<◌, false, cond, List, [], ◌∷◌, length, replicate, Some, None, Option, slice_index_or}
use Rattle.std.specs.Option.{option_map}
use Rattle.label.specs.Letters.{none}
use Rattle.label.specs.declared.numbers.Dom.{Dom}
use Rattle.label.specs.declared.numbers.Typ.{Typ}
use Rattle.tables.specs.Model.{Model}
use Rattle.policy.specs.declared.cell.Cell.{Cell}
use Rattle.policy.specs.declared.cell.Sheet.{Sheet}
use Rattle.policy.specs.declared.complete.Policy.{Policy}
use Rattle.policy.specs.Cells.{cell_of}
use Rattle.policy.specs.Grants.{path_of, type_at, object_type}
use Rattle.policy.specs.Holds.{model_of}

abbrev pub blank_cell : Cell
blank_cell = record { barrier = None; long = 0; letters = none; enters = false; target = None }

-- what stands where there is no object
abbrev pub blank_sheet : Sheet
blank_sheet = record { typ = record { 0 = 0 }; cells = replicate 32 blank_cell }

abbrev pub cell_at : Sheet → ℕ → Cell
cell_at s d = slice_index_or s.cells d blank_cell

abbrev pub sheet_at : List Sheet → ℕ → Sheet
sheet_at ss o = slice_index_or ss o (record { typ = record { 0 = 0 }; cells = [] })

-- what is decided about an object with this path
pub record SheetFor (m : Model) (p : List ℕ) (s : Sheet) : Type 0 where
  pub typ : Some s.typ ≡ type_at m p
  pub cells : (d : ℕ) → d < 32 → cell_at s d ≡ cell_of m d p (type_at m p)

-- the number of a type; every object has one
abbrev pub number_of : Option Typ → ℕ
number_of None = 0
number_of (Some t) = t.0

abbrev pub type_number : Model → ℕ → ℕ
type_number m o = number_of (object_type m o)

-- a cell as a list of numbers, by which two cells can be compared
abbrev pub code : Option ℕ → ℕ
code None = 0
code (Some n) = suc n

abbrev pub number : Option Dom → Option ℕ
number o = option_map (λ d. d.0) o

abbrev pub written : Cell → List ℕ
written c = code c.barrier ∷ c.long ∷ c.letters.bits ∷ cond c.enters 1 0 ∷ code (number c.target) ∷ []

-- every cell, by the numbers of its object and its domain, is what the definition says
abbrev pub CellsMade : Policy → List Sheet → Type 0
CellsMade p ss = (at : ℕ × ℕ) → (at.0 < length (model_of p).objects) × (at.1 < 32) → written (cell_at (sheet_at ss at.0) at.1) ≡ written (cell_of (model_of p) at.1 (path_of (model_of p) at.0) (object_type (model_of p) at.0))

abbrev pub TypesMade : Policy → List Sheet → Type 0
TypesMade p ss = (o : ℕ) → o < length (model_of p).objects → (sheet_at ss o).typ.0 ≡ type_number (model_of p) o
