-- A short text as it lies in its array: with zeros behind it.
use Rattle.std.specs.Prelude.{◌≡◌, ℕ, ◌-◌, List, ◌++◌, length, take, replicate}
use Rattle.std.proofs.Common.{ap, ◌∙◌}
use Rattle.std.proofs.Math.Seq.{take-append_seam}

-- the bytes with zeros behind them, n in all
abbrev pub padded : ℕ → List ℕ → List ℕ
padded n s = s ++ replicate (n - length s) 0

-- the text stands in front
pub held_text : (n : ℕ) (s b : List ℕ) → b ≡ padded n s → take (length s) b ≡ s
held_text n s b e = ap (take (length s)) e ∙ take-append_seam s (replicate (n - length s) 0)
