-- How many places a memory has.
use Rattle.std.specs.Prelude.{ℕ, ◌/◌, min, List, length}

-- so many bytes are counted for a place
abbrev pub places_in : ℕ → List ℕ → ℕ
places_in bytes xs = min (length xs / bytes) 128
