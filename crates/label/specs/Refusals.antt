-- The number of each refusal, and what it carries.
use Rattle.std.specs.Prelude.{◌≡◌, ℕ, Bool, cond, Some, None, Ok, Err, Option, Result, nat_le}
use Rattle.label.specs.declared.refusal.Refusal.{Refusal}
use Rattle.label.specs.declared.refusal.Refusal.TheVariants.{Misshapen, Repeated, Undeclared, Full, NoLetter, Incomplete, NoObject, NoDomain, SmallBuffer, NoType, Denied, NoPassage, Memory}

abbrev pub number : Refusal → Option ℕ
number Misshapen = Some 3
number Repeated = Some 4
number Undeclared = Some 5
number Full = Some 6
number NoLetter = Some 7
number Incomplete = Some 10
number NoObject = Some 22
number NoDomain = Some 24
number SmallBuffer = Some 26
number NoType = Some 27
number (Denied pair) = Some 30
number NoPassage = Some 31
number Memory = None

-- why one more entry is refused, if it is: it is there already, or there are as many as there may be
abbrev pub refuses_more : Bool → ℕ → ℕ → Option Refusal
refuses_more there count limit = cond there (Some Repeated) (cond (nat_le limit count) (Some Full) None)

-- What a call that adds to a table answers and leaves. Where it is refused, all stays as it was.
-- Where it is not, the table has what was to be added, or memory is wanting and all stays as it was.
abbrev pub Takes : {X : Type 0} → Option Refusal → X → X → Result (Unit {0}) Refusal → X → Type 0
Takes (Some e) before added r after = (r ≡ Err e) × (after ≡ before)
Takes None before added (Ok u) after = after ≡ added
Takes None before added (Err e) after = (e ≡ Memory) × (after ≡ before)

-- The same of a call that wants no memory: it is refused and all stays as it was, or it is done.
abbrev pub Does : {X : Type 0} → Option Refusal → X → X → Result (Unit {0}) Refusal → X → Type 0
Does (Some e) before added r after = (r ≡ Err e) × (after ≡ before)
Does None before added r after = (r ≡ Ok tt) × (after ≡ added)
