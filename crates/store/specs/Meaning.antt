-- What a store holds.
use Rattle.std.specs.Prelude.{ℕ, ◌<◌, ◌≤◌, List, length, IfSome, Some, None, Option, slice_index}

-- what each place holds: None where it is absent, else its bytes
abbrev pub Contents : Type 0
Contents = ℕ → Option (List ℕ)

-- the contents of a fresh store
abbrev pub all_absent : Contents
all_absent k = None

-- at most 64 bytes
abbrev pub Short : Option (List ℕ) → Type 0
Short o = IfSome o (λ xs. length xs ≤ 64)

-- every element is a byte
abbrev pub Octets : List ℕ → Type 0
Octets xs = (j : ℕ) → slice_index xs j < 256

-- the j-th byte of what a place holds; 0 where there is none
abbrev pub byte_at : Option (List ℕ) → ℕ → ℕ
byte_at None j = 0
byte_at (Some xs) j = slice_index xs j

-- every place holds bytes
abbrev pub AllOctets : Contents → Type 0
AllOctets v = (k j : ℕ) → byte_at (v k) j < 256
