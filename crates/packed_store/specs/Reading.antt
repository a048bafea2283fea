-- How a memory of packed records is read. The places are gone through in turn: a place whose record does not come next is absent.
use Rattle.std.specs.Prelude.{ℕ, zero, suc, min, Bool, cond, List, [], ◌∷◌, length, take, drop, Some, None, Option, ◌==◌, nat_le, slice_index_or}
use Rattle.store.specs.Meaning.{Contents}
use Rattle.packed_store.specs.Layout.{packed_places, Table, coded, encode, ended}

-- what the place p holds, where its record, if it has one, begins the bytes
abbrev pub record_at : ℕ → List ℕ → Option (List ℕ)
record_at p [] = None
record_at p (q ∷ []) = None
record_at p (q ∷ len ∷ ys) = cond (q == p) (cond (nat_le len (min 64 (length ys))) (Some (take len ys)) None) None

-- what m places from p on hold
abbrev pub decode : ℕ → ℕ → List ℕ → Table
decode zero p ys = []
decode (suc m) p ys = record_at p ys ∷ decode m (suc p) (drop (length (coded p (record_at p ys))) ys)

-- the table that a memory holds, if it holds any
unfoldable pub table : List ℕ → Table
table xs = decode (packed_places xs) 0 xs

-- whether it holds one: behind the records that were read comes the end
unfoldable pub intact : List ℕ → Bool
intact xs = ended (drop (length (encode 0 (table xs))) xs)

-- what a memory holds at each place
unfoldable pub packed_contents : List ℕ → Contents
packed_contents xs k = slice_index_or (table xs) k None
