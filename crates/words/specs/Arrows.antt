-- Words with an arrow in them.
use Rattle.std.specs.Prelude.{◌≡◌, ℕ, ◌+◌, ◌<◌, Bool, cond, ◌↔◌, List, [], ◌∷◌, ◌++◌, length, take, drop, Some, None, codes, Option}
use Rattle.std.specs.Option.{option_map}
use Rattle.std.specs.Str.{bytes_eq}

-- the bytes begin with an arrow
abbrev pub arrow : List ℕ → Bool
arrow bs = bytes_eq (take 2 bs) (codes "->")

-- the place of the first arrow in bytes whose first has the place i
unfoldable pub arrow_from : ℕ → List ℕ → Option ℕ
arrow_from i [] = None
arrow_from i (b ∷ bs) = cond (arrow (b ∷ bs)) (Some i) (arrow_from (i + 1) bs)

abbrev pub first_arrow : List ℕ → Option ℕ
first_arrow w = arrow_from 0 w

-- what stands before the first arrow, and what stands after it
unfoldable pub split_arrow : List ℕ → Option (List ℕ × List ℕ)
split_arrow w = option_map (λ i. (take i w, drop (i + 2) w)) (first_arrow w)

-- an arrow stands at the place i of the word
abbrev pub ArrowAt : List ℕ → ℕ → Type 0
ArrowAt w i = take 2 (drop i w) ≡ codes "->"

pub record SplitAtTheFirst : Type 0 where
  -- the word is the two parts with an arrow between them, and no arrow stands at an earlier place
  pub splits : (w before after : List ℕ) → (split_arrow w ≡ Some (before, after)) ↔ ((w ≡ before ++ (codes "->" ++ after)) × ((i : ℕ) → i < length before → ArrowAt w i → ⊥))
  -- a word is not split exactly where no arrow stands in it
  pub whole : (w : List ℕ) → (split_arrow w ≡ None) ↔ ((i : ℕ) → ArrowAt w i → ⊥)
