-- The number and the layer of each fault.
use Rattle.std.specs.Prelude.{ℕ}
use Rattle.label.specs.declared.refusal.Refusal.{Refusal}
use Rattle.label.specs.declared.refusal.Refusal.TheVariants as refusal
use Rattle.reader.specs.declared.reason.Reason.{Reason}
use Rattle.reader.specs.declared.reason.Reason.TheVariants.{Stray, Misfit, Misshapen, Repeated, Undeclared, Full, Letters, Signals, Clash, Incomplete, Chain, TooMuch}

abbrev pub number : Reason → ℕ
number Stray = 1
number Misfit = 2
number Misshapen = 3
number Repeated = 4
number Undeclared = 5
number Full = 6
number Letters = 7
number Signals = 8
number (Clash domains) = 9
number Incomplete = 10
number (Chain types) = 11
number TooMuch = 12

-- what it is found in: 1 bytes, 2 statement, 3 tables, 4 flow
abbrev pub layer : Reason → ℕ
layer Stray = 1
layer Misfit = 2
layer Misshapen = 2
layer Repeated = 3
layer Undeclared = 3
layer Full = 3
layer Letters = 2
layer Signals = 2
layer (Clash domains) = 3
layer Incomplete = 3
layer (Chain types) = 4
layer TooMuch = 3

-- the fault of a text whose statement the tables refuse; they refuse none for the other reasons
abbrev pub reason_of : Refusal → Reason
reason_of refusal.Misshapen = Misshapen
reason_of refusal.Repeated = Repeated
reason_of refusal.Undeclared = Undeclared
reason_of refusal.Full = Full
reason_of refusal.NoLetter = Letters
reason_of refusal.Incomplete = Incomplete
reason_of refusal.NoObject = Misfit
reason_of refusal.NoDomain = Misfit
reason_of refusal.SmallBuffer = Misfit
reason_of refusal.NoType = Misfit
reason_of (refusal.Denied pair) = Misfit
reason_of refusal.NoPassage = Misfit
reason_of refusal.Memory = Misfit
