-- What the layout of slots comes to.
use Rattle.std.specs.Prelude.{◌≡◌, ℕ, ◌<◌, List}
use Rattle.store.specs.Meaning.{Contents, Short}
use Rattle.slot_store.specs.Layout.{slot_places, slot_contents, Marked, Laid}

-- a memory is a slot store's exactly if contents of at most 64 bytes a place are laid out in it
pub record MarkedIsLaid : Type 0 where
  pub laid : (xs : List ℕ) → Marked xs → Laid xs (slot_contents xs)
  pub marked : (xs : List ℕ) (v : Contents) → ((k : ℕ) → Short (v k)) → Laid xs v → Marked xs

-- and it has no other contents than those
abbrev pub OneReading : Type 0
OneReading = (xs : List ℕ) (v : Contents) → Laid xs v → (k : ℕ) → k < slot_places xs → v k ≡ slot_contents xs k
