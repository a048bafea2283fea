-- How a make is named.
use Rattle.std.specs.Prelude.{◌≡◌, ℕ, List, Result, MatchResult, codes}
use Rattle.store_report.specs.declared.Make.{Make}
use Rattle.store_report.specs.declared.Make.TheVariants.{Slot, Packed}
use Rattle.store_report.specs.declared.UnknownMake.{UnknownMake}

abbrev pub make_name : Make → List ℕ
make_name Slot = codes "slot"
make_name Packed = codes "packed"

-- the make that a text names, or none if it names none
abbrev pub ReadsMake : List ℕ → Result Make UnknownMake → Type 0
ReadsMake text r = MatchResult r (λ make. text ≡ make_name make) (λ _. (make : Make) → (text ≡ make_name make) → ⊥)
