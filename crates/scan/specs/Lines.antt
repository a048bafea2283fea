-- Line numbers.
use Rattle.std.specs.Prelude.{ℕ, ◌+◌, List, take, count_by, nat_eq}

-- how many of the bytes are line feeds
abbrev pub feeds_in : List ℕ → ℕ
feeds_in bs = count_by (λ b. nat_eq b 10) bs

-- one more than the line feeds before the place
abbrev pub line_of : List ℕ → ℕ → ℕ
line_of text p = 1 + feeds_in (take p text)
