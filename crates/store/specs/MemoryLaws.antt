-- What holds of every memory.
use Rattle.std.specs.Prelude.{ℕ, ◌≤◌, List}
use Rattle.std.proofs.Common.{arith}
use Rattle.store.specs.Memory.{places_in}

pub few_places : (bytes : ℕ) (xs : List ℕ) → places_in bytes xs ≤ 128
few_places bytes xs = omega arith
