-- What a name is.
use Rattle.std.specs.Prelude.{◌≡◌, ℕ, ◌≤◌, ◌⊎◌, List, length, slice_index}
use Rattle.std.specs.List.{AllByRecursion}

-- a to z
pub record Lower (b : ℕ) : Type 0 where
  pub low : 97 ≤ b
  pub high : b ≤ 122

-- a to z, 0 to 9, underscore
abbrev pub NameByte : ℕ → Type 0
NameByte b = Lower b ⊎ (((48 ≤ b) × (b ≤ 57)) ⊎ (b ≡ 95))

-- 1 to 24 such bytes, the first a letter
pub record IsName (s : List ℕ) : Type 0 where
  pub some : 1 ≤ length s
  pub short : length s ≤ 24
  pub first : Lower (slice_index s 0)
  pub bytes : AllByRecursion NameByte s
