-- How a refusal is printed.
use Rattle.std.specs.Prelude.{ℕ, List, ◌++◌, codes, decimal}
use Rattle.store.specs.declared.StoreRefusal.{StoreRefusal}
use Rattle.store.specs.declared.StoreRefusal.TheVariants.{NoPlace, TooLong, SmallBuffer}
use Rattle.store.specs.Number.{number}

abbrev pub reason : StoreRefusal → List ℕ
reason NoPlace = codes "the store has no such place"
reason TooLong = codes "more than 64 bytes"
reason SmallBuffer = codes "a buffer of fewer than 64 bytes"

-- `refused `, the number in decimal, a colon, a space and the reason
abbrev pub printed : StoreRefusal → List ℕ
printed e = codes "refused " ++ (decimal (number e) ++ (codes ": " ++ reason e))
