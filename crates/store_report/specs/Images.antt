-- What the memory image of a store holds, and what becomes of it.
use Rattle.std.specs.Prelude.{◌≡◌, ℕ, min, List, length, Ok, Err}
use Rattle.store.specs.Meaning.{Contents, all_absent}
use Rattle.store.specs.Answers.{put_answer, put_contents, clear_answer, clear_contents}
use Rattle.slot_store.specs.Layout.{slot_places, slot_contents, Marked}
use Rattle.packed_store.specs.Layout.{packed_places, Holds}
use Rattle.packed_store.specs.Reading.{table, packed_contents}
use Rattle.store_report.specs.declared.Make.{Make}
use Rattle.store_report.specs.declared.Make.TheVariants.{Slot, Packed}
use Rattle.store_report.specs.declared.ImageError.{ImageError}
use Rattle.store_report.specs.declared.ImageError.TheVariants.{NotAStore, Refused, OutOfMemory}
use Rattle.store_report.specs.Listing.{listing}

abbrev pub image_places : Make → List ℕ → ℕ
image_places Slot xs = slot_places xs
image_places Packed xs = packed_places xs

abbrev pub image_contents : Make → List ℕ → Contents
image_contents Slot xs = slot_contents xs
image_contents Packed xs = packed_contents xs

-- the bytes are a store's of this make
abbrev pub IsImage : Make → List ℕ → Type 0
IsImage Slot xs = Marked xs
IsImage Packed xs = Holds xs (table xs)

-- the text lists what the image holds
pub record Listed (make : Make) (xs text : List ℕ) : Type 0 where
  pub image : IsImage make xs
  pub lines : text ≡ listing (image_contents make xs) (image_places make xs)

abbrev pub ListFails : Make → List ℕ → ImageError → Type 0
ListFails make xs NotAStore = IsImage make xs → ⊥
ListFails make xs (Refused e) = ⊥
ListFails make xs OutOfMemory = Unit {0}

-- the image ys is xs after a put at the place p
pub record PutDone (make : Make) (xs : List ℕ) (p : ℕ) (bytes ys : List ℕ) : Type 0 where
  pub before : IsImage make xs
  pub after : IsImage make ys
  pub taken : put_answer (image_places make xs) p (length bytes) ≡ Ok tt
  pub contents : image_contents make ys ≡ put_contents (image_places make xs) (image_contents make xs) p bytes
  pub places : image_places make ys ≡ image_places make xs

abbrev pub PutFails : Make → List ℕ → ℕ → List ℕ → ImageError → Type 0
PutFails make xs p bytes NotAStore = IsImage make xs → ⊥
PutFails make xs p bytes (Refused e) = IsImage make xs × (put_answer (image_places make xs) p (length bytes) ≡ Err e)
PutFails make xs p bytes OutOfMemory = ⊥

-- the image ys is xs after a clear of the place p
pub record ClearDone (make : Make) (xs : List ℕ) (p : ℕ) (ys : List ℕ) : Type 0 where
  pub before : IsImage make xs
  pub after : IsImage make ys
  pub taken : clear_answer (image_places make xs) p ≡ Ok tt
  pub contents : image_contents make ys ≡ clear_contents (image_places make xs) (image_contents make xs) p
  pub places : image_places make ys ≡ image_places make xs

abbrev pub ClearFails : Make → List ℕ → ℕ → ImageError → Type 0
ClearFails make xs p NotAStore = IsImage make xs → ⊥
ClearFails make xs p (Refused e) = IsImage make xs × (clear_answer (image_places make xs) p ≡ Err e)
ClearFails make xs p OutOfMemory = ⊥

-- the image of a fresh store with so many places, of which at most 128 count
pub record FreshImage (make : Make) (n : ℕ) (ys : List ℕ) : Type 0 where
  pub image : IsImage make ys
  pub places : image_places make ys ≡ min n 128
  pub contents : image_contents make ys ≡ all_absent
