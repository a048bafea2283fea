-- The number of each refusal. A call is refused by the lowest that applies.
use Rattle.std.specs.Prelude.{ℕ}
use Rattle.store.specs.declared.StoreRefusal.{StoreRefusal}
use Rattle.store.specs.declared.StoreRefusal.TheVariants.{NoPlace, TooLong, SmallBuffer}

abbrev pub number : StoreRefusal → ℕ
number NoPlace = 22
number TooLong = 23
number SmallBuffer = 26
