-- The lowest number that passes a test.
use Rattle.std.specs.Prelude.{ℕ, zero, suc, Bool, cond, Some, None, Option}
use Rattle.std.specs.Option.{option_or}

-- of the numbers below n
unfoldable pub lowest : (ℕ → Bool) → ℕ → Option ℕ
lowest f zero = None
lowest f (suc n) = option_or (lowest f n) (cond (f n) (Some n) None)
