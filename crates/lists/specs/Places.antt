-- Where a text stands in a list of texts.
use Rattle.std.specs.Prelude.{ℕ, suc, Bool, true, cond, not, ◌&&◌, List, [], ◌∷◌, is_some, Some, None, Option}
use Rattle.std.specs.Str.{bytes_eq}

-- the number of a text in a list whose first has the number n; the first number, if it stands there more than once
unfoldable pub place_from : ℕ → List (List ℕ) → List ℕ → Option ℕ
place_from n [] s = None
place_from n (t ∷ ts) s = cond (bytes_eq t s) (Some n) (place_from (suc n) ts s)

-- the number of a text, counted from 0
abbrev pub place_of : List (List ℕ) → List ℕ → Option ℕ
place_of ts s = place_from 0 ts s

-- no text stands twice
abbrev pub distinct : List (List ℕ) → Bool
distinct [] = true
distinct (t ∷ ts) = not (is_some (place_of ts t)) && distinct ts
