-- The text that tells what a store holds: a line for each place.
use Rattle.std.specs.Prelude.{ℕ, zero, suc, ◌/◌, ◌%◌, false, List, [], ◌∷◌, ◌++◌, Some, None, decimal, Option}
use Rattle.std.specs.Fmt.{digit_glyph}
use Rattle.store.specs.Meaning.{Contents}

-- two lower-case hexadecimal digits a byte
abbrev pub pairs : List ℕ → List ℕ
pairs [] = []
pairs (b ∷ bs) = digit_glyph false (b / 16) ∷ digit_glyph false (b % 16) ∷ pairs bs

-- `-` for no bytes
abbrev pub hex : List ℕ → List ℕ
hex [] = 45 ∷ []
hex (b ∷ bs) = pairs (b ∷ bs)

-- `place `, the number in decimal and a space
abbrev pub heading : ℕ → List ℕ
heading p = (112 ∷ 108 ∷ 97 ∷ 99 ∷ 101 ∷ 32 ∷ []) ++ (decimal p ++ 32 ∷ [])

-- the heading, then `absent`, or `present ` and the bytes, and a line feed
abbrev pub line : ℕ → Option (List ℕ) → List ℕ
line p None = heading p ++ (97 ∷ 98 ∷ 115 ∷ 101 ∷ 110 ∷ 116 ∷ 10 ∷ [])
line p (Some bytes) = heading p ++ ((112 ∷ 114 ∷ 101 ∷ 115 ∷ 101 ∷ 110 ∷ 116 ∷ 32 ∷ []) ++ (hex bytes ++ 10 ∷ []))

-- the lines of the first n places
abbrev pub listing : Contents → ℕ → List ℕ
listing v zero = []
listing v (suc n) = listing v n ++ line n (v n)
