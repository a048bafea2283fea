-- How far a scan of the records has come, and what it leaves. Only the make's own functions speak of it.
use Rattle.std.specs.Prelude.{◌≡◌, ℕ, ◌+◌, ◌-◌, ◌≤◌, List, ◌++◌, length, take, drop, Some, Option, slice_set}
use Rattle.store.specs.Meaning.{Short}
use Rattle.packed_store.specs.Layout.{packed_places, coded, encode, Holds}
use Rattle.packed_store.specs.Reading.{record_at, decode, table}

-- at i is a record of the place p, of `len` bytes
pub record Found (xs : List ℕ) (i p len : ℕ) : Type 0 where
  pub is : record_at p (drop i xs) ≡ Some (take len (drop (i + 2) xs))
  pub within : i + 2 + len ≤ length xs
  pub short : len ≤ 64

-- the records of the places below p are the first i bytes, and those of the others follow
pub record Stands (xs : List ℕ) (p i : ℕ) : Type 0 where
  pub within : i ≤ length xs
  pub front : take i xs ≡ encode 0 (take p (table xs))
  pub rest : decode (packed_places xs - p) p (drop i xs) ≡ drop p (table xs)

-- ys is xs with a gap of `size` bytes at i, into which a record of the place p may be written
pub record Opened (xs ys : List ℕ) (p size i : ℕ) : Type 0 where
  pub long : length ys ≡ length xs
  pub room : i + size ≤ length xs
  pub fills : (o : Option (List ℕ)) → Short o → length (coded p o) ≡ size → Holds (take i ys ++ (coded p o ++ drop (i + size) ys)) (slice_set (table xs) p o)
