-- What the calls of the reader answer, in terms of what a token comes to.
use Rattle.std.specs.Prelude.{◌≡◌, ℕ, Ok, Err, Result}
use Rattle.label.specs.declared.refusal.Refusal.{Refusal}
use Rattle.label.specs.declared.refusal.Refusal.TheVariants as refusal
use Rattle.reader.specs.Composed.{Composed, composed}
use Rattle.reader.specs.Reading.{Outcome, tables, fault}
use Rattle.reader.specs.Reasons.{reason_of}
use Rattle.reader.specs.Statements.{Next}
use Rattle.reader.specs.declared.composition.Composition.{Composition}
use Rattle.reader.specs.declared.position.Position.{Position}
use Rattle.reader.specs.declared.stop.Stop.{Stop}
use Rattle.reader.specs.declared.stop.Stop.TheVariants as stop
use Rattle.reader.specs.declared.stop.Halt.{Halt}
use Rattle.reader.specs.declared.stop.Halt.TheVariants as halt

-- why a call stops that the tables refuse
abbrev pub stop_of : Refusal → Stop
stop_of refusal.Misshapen = stop.Refused (reason_of refusal.Misshapen)
stop_of refusal.Repeated = stop.Refused (reason_of refusal.Repeated)
stop_of refusal.Undeclared = stop.Refused (reason_of refusal.Undeclared)
stop_of refusal.Full = stop.Refused (reason_of refusal.Full)
stop_of refusal.NoLetter = stop.Refused (reason_of refusal.NoLetter)
stop_of refusal.Incomplete = stop.Refused (reason_of refusal.Incomplete)
stop_of refusal.NoObject = stop.Refused (reason_of refusal.NoObject)
stop_of refusal.NoDomain = stop.Refused (reason_of refusal.NoDomain)
stop_of refusal.SmallBuffer = stop.Refused (reason_of refusal.SmallBuffer)
stop_of refusal.NoType = stop.Refused (reason_of refusal.NoType)
stop_of (refusal.Denied pair) = stop.Refused (reason_of (refusal.Denied pair))
stop_of refusal.NoPassage = stop.Refused (reason_of refusal.NoPassage)
stop_of refusal.Memory = stop.Memory

-- A call that takes a token and leaves `after`: it goes on, or stops at the fault, or memory is wanting.
abbrev pub Steps : Next → Result Position Stop → Composed → Type 0
Steps due (Ok next) after = due ≡ Ok (after, next)
Steps due (Err stop.Memory) after = Unit {0}
Steps due (Err (stop.Refused e)) after = due ≡ Err e

-- the same with the place of the token
abbrev pub halt_at : Stop → ℕ → Halt
halt_at stop.Memory place = halt.Memory
halt_at (stop.Refused e) place = halt.At e place

-- A call that takes a whole text and leaves `after`: the tables that the text comes to, or its fault, or memory is wanting.
abbrev pub Ends : Outcome → Result (Unit {0}) Halt → Composed → Type 0
Ends due (Ok u) after = due ≡ tables after
Ends due (Err halt.Memory) after = Unit {0}
Ends due (Err (halt.At e place)) after = due ≡ fault e place

-- a call that gives what the text comes to
abbrev pub Reads : Outcome → Result Composition Halt → Type 0
Reads due (Ok c) = due ≡ tables (composed c)
Reads due (Err halt.Memory) = Unit {0}
Reads due (Err (halt.At e place)) = due ≡ fault e place
