-- What a module comes to after others: tables, or a fault with its place.
use Rattle.std.specs.Prelude.{◌≡◌, ℕ, ◌+◌, Bool, cond, ◌||◌, List, length, Some, None, Ok, Err, Result, nat_le, nat_lt}
use Rattle.policy.specs.Holds.{model_of}
use Rattle.scan.specs.Lines.{line_of}
use Rattle.reader.specs.Composed.{Composed as Tabled}
use Rattle.reader.specs.Reading.{Outcome, read, tables, fault}
use Rattle.reader.specs.declared.reason.Reason.{Reason}
use Rattle.reader.specs.declared.reason.Reason.TheVariants.{TooMuch}
use Rattle.draft.specs.Endings.{Verdict}
use Rattle.draft.specs.declared.fault.Failure.{Failure}
use Rattle.draft.specs.declared.fault.Failure.TheVariants.{Memory, Faulty}
use Rattle.draft.specs.declared.fault.Fault.{Fault}
use Rattle.draft.specs.declared.settled.Composed.{Composed}

-- what is composed, as tables
abbrev pub tabled : Composed → Tabled
tabled c = record { tables = model_of c.policy.decisions.policy; specified = c.specified }

-- what a call answers, as tables
abbrev pub outcome : Result Composed Failure → Result Tabled Failure
outcome (Ok c) = Ok (tabled c)
outcome (Err e) = Err e

-- a ninth module, or a text of more than 16,384 bytes, is not read
abbrev pub is_too_much : ℕ → List ℕ → Bool
is_too_much kept text = nat_le 8 kept || nat_lt 16384 (length text)

-- a fault found before reading
abbrev pub unread : ℕ → Fault
unread kept = record { reason = TooMuch; «module» = kept + 1; line = 0; place = 0 }

-- a fault at a place of the text
abbrev pub located : ℕ → List ℕ → Reason → ℕ → Fault
located kept text e p = record { reason = e; «module» = kept + 1; line = line_of text p; place = p }

-- What a text that was read comes to: tables on which the verdict is that all is well, or a fault in reading or at the text's end.
abbrev pub Reads : ℕ → List ℕ → Outcome → Result Tabled Failure → Type 0
Reads kept text (tables c) (Ok d) = (d ≡ c) × Verdict c.tables None
Reads kept text (tables c) (Err Memory) = Unit {0}
Reads kept text (tables c) (Err (Faulty f)) = (e : Reason) × ((f ≡ located kept text e (length text)) × Verdict c.tables (Some e))
Reads kept text (fault e p) (Ok d) = ⊥
Reads kept text (fault e p) (Err Memory) = Unit {0}
Reads kept text (fault e p) (Err (Faulty f)) = f ≡ located kept text e p

abbrev pub Refuses : ℕ → Result Tabled Failure → Type 0
Refuses kept (Ok d) = ⊥
Refuses kept (Err Memory) = ⊥
Refuses kept (Err (Faulty f)) = f ≡ unread kept

-- What the text of a module comes to, where so many modules were kept before and come to c.
abbrev pub Composes : ℕ → Tabled → List ℕ → Result Tabled Failure → Type 0
Composes kept c text r = cond (is_too_much kept text) (Refuses kept r) (Reads kept text (read c text) r)
