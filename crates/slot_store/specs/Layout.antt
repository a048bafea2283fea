-- A memory read as slots of 65 bytes, one a place: a mark, which is 0 for an absent place and else the length plus 1, and then 64 bytes,
-- of which the first ones, as many as the length says, are what the place holds.
use Rattle.std.specs.Prelude.{◌≡◌, ℕ, ◌+◌, ◌-◌, ◌*◌, ◌/◌, ◌<◌, ◌≤◌, min, cond, List, length, take, drop, Some, None, Option, ◌==◌, nat_lt, slice_index}
use Rattle.store.specs.Meaning.{Contents}

-- how many places a memory has
abbrev pub slot_places : List ℕ → ℕ
slot_places xs = min (length xs / 65) 128

abbrev pub mark : List ℕ → ℕ → ℕ
mark xs k = slice_index xs (65 * k)

-- the first bytes of the slot k behind its mark
abbrev pub slot_bytes : List ℕ → ℕ → ℕ → List ℕ
slot_bytes xs k len = take len (drop (65 * k + 1) xs)

-- what the slot k holds
abbrev pub slot_at : List ℕ → ℕ → Option (List ℕ)
slot_at xs k = cond (mark xs k == 0) None (Some (slot_bytes xs k (mark xs k - 1)))

-- what a memory holds at each place
unfoldable pub slot_contents : List ℕ → Contents
slot_contents xs k = cond (nat_lt k (slot_places xs)) (slot_at xs k) None

-- a memory is a slot store's exactly if every place's mark is at most 65
abbrev pub Marked : List ℕ → Type 0
Marked xs = (k : ℕ) → k < slot_places xs → mark xs k ≤ 65

-- the mark of the place k, if the memory has it, is at most 65
abbrev pub MarkedAt : List ℕ → ℕ → Type 0
MarkedAt xs k = k < slot_places xs → mark xs k ≤ 65

-- the slot k holds this, byte for byte
abbrev pub SlotIs : List ℕ → ℕ → Option (List ℕ) → Type 0
SlotIs xs k None = mark xs k ≡ 0
SlotIs xs k (Some bytes) = (mark xs k ≡ length bytes + 1) × (slot_bytes xs k (length bytes) ≡ bytes)

-- each slot of the memory holds the contents of its place
abbrev pub Laid : List ℕ → Contents → Type 0
Laid xs v = (k : ℕ) → k < slot_places xs → SlotIs xs k (v k)
