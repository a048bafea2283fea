-- A memory of packed records: the present places in rising order, each with its number, its length and its bytes, without gaps,
-- and then the end: the memory's end, or the byte 255, which is no place's number. What follows the end is unused.
use Rattle.std.specs.Prelude.{◌≡◌, ℕ, suc, ◌/◌, min, Bool, true, List, [], ◌∷◌, ◌++◌, length, Some, None, Option, ◌==◌}
use Rattle.store.specs.Meaning.{Short}

-- how many places a memory has
abbrev pub packed_places : List ℕ → ℕ
packed_places xs = min (length xs / 66) 128

-- what each place holds, in order of the places
abbrev pub Table : Type 0
Table = List (Option (List ℕ))

abbrev pub AllShort : Table → Type 0
AllShort [] = Unit {0}
AllShort (o ∷ t) = Short o × AllShort t

-- the record of the place p
abbrev pub coded : ℕ → Option (List ℕ) → List ℕ
coded p None = []
coded p (Some bytes) = p ∷ length bytes ∷ bytes

-- the records of the places from p on
abbrev pub encode : ℕ → Table → List ℕ
encode p [] = []
encode p (o ∷ t) = coded p o ++ encode (suc p) t

-- no record follows
abbrev pub ended : List ℕ → Bool
ended [] = true
ended (q ∷ ys) = q == 255

-- the memory holds the table, which has an entry for each place
pub record Holds (xs : List ℕ) (t : Table) : Type 0 where
  pub places : length t ≡ packed_places xs
  pub short : AllShort t
  pub unused : List ℕ
  pub records : xs ≡ encode 0 t ++ unused
  pub end : ended unused ≡ true
