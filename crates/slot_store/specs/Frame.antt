-- What a write to one slot changes. Only the make's own functions speak of it.
use Rattle.std.specs.Prelude.{◌≡◌, ℕ, ◌+◌, ◌*◌, ◌<◌, ◌≤◌, List, length, slice_index}
use Rattle.slot_store.specs.Layout.{slot_places, mark}

-- ys is xs but for the slot k, whose mark is now m
pub record Wrote (xs ys : List ℕ) (k m : ℕ) : Type 0 where
  pub long : length ys ≡ length xs
  pub marked : mark ys k ≡ m
  pub other : (j : ℕ) → (65 * k ≤ j → j < 65 * k + 65 → ⊥) → slice_index ys j ≡ slice_index xs j

-- no place has a mark
abbrev pub Unmarked : List ℕ → Type 0
Unmarked xs = (k : ℕ) → k < slot_places xs → mark xs k ≡ 0
