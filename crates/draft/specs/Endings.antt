-- The checks at the end of a text, over the tables with the module joined.
use Rattle.std.specs.Prelude.{◌≡◌, ℕ, ◌<◌, true, false, List, ◌∷◌, ◌++◌, length, Some, None, Option}
use Rattle.std.specs.List.{AllByRecursion}
use Rattle.label.specs.declared.numbers.Typ.{Typ}
use Rattle.machine.specs.Flow.{of_type, Chain, NoChain}
use Rattle.machine.specs.Policy.{Policy as Asked}
use Rattle.tables.specs.Model.{Model}
use Rattle.tables.specs.declared.table.Apart.{Apart}
use Rattle.policy.specs.Abstract.{asked_of, first_number}
use Rattle.policy.specs.Holds.{complete}
use Rattle.clash.specs.Clashes.{clash}
use Rattle.reader.specs.declared.reason.Reason.{Reason}
use Rattle.reader.specs.declared.reason.Reason.TheVariants as reason

-- no chain leads from the one type to the other
abbrev pub KeptApart : Asked → Apart → Type 0
KeptApart P a = NoChain P (of_type P a.from.0) (of_type P a.to.0)

-- the earliest of the separations that is broken, by its two types
pub record FirstBroken (P : Asked) (aparts : List Apart) (pair : Typ × Typ) : Type 0 where
  pub earlier : List Apart
  pub broken : Apart
  pub later : List Apart
  pub all : aparts ≡ earlier ++ broken ∷ later
  pub kept : AllByRecursion (KeptApart P) earlier
  pub types : pair ≡ (broken.from, broken.to)
  pub links : ℕ
  pub chain : Chain P (of_type P broken.from.0) (of_type P broken.to.0) links

abbrev pub DeclaresFirst : Model → Type 0
DeclaresFirst m = first_number m.first < length m.domains

-- all is well: there are a default domain and an -r rule on /, no domain has two auto passages that share an entry path,
-- and every separation is kept
pub record Settled (m : Model) : Type 0 where
  pub complete_is : complete m ≡ true
  pub no_clash : clash m ≡ None
  pub first_is : DeclaresFirst m
  pub apart : AllByRecursion (KeptApart (asked_of m first_is)) m.aparts

-- some separation is broken, and all else is well
pub record Broken (m : Model) (pair : Typ × Typ) : Type 0 where
  pub complete_is : complete m ≡ true
  pub no_clash : clash m ≡ None
  pub first_is : DeclaresFirst m
  pub first_broken : FirstBroken (asked_of m first_is) m.aparts pair

-- The verdict on the tables at the end of a text: 10, 9 and 11 in this order, or that all is well.
-- (Only a first module can be incomplete, since what is complete stays so.)
abbrev pub Verdict : Model → Option Reason → Type 0
Verdict m None = Settled m
Verdict m (Some reason.Stray) = ⊥
Verdict m (Some reason.Misfit) = ⊥
Verdict m (Some reason.Misshapen) = ⊥
Verdict m (Some reason.Repeated) = ⊥
Verdict m (Some reason.Undeclared) = ⊥
Verdict m (Some reason.Full) = ⊥
Verdict m (Some reason.Letters) = ⊥
Verdict m (Some reason.Signals) = ⊥
Verdict m (Some (reason.Clash pair)) = (complete m ≡ true) × (clash m ≡ Some pair)
Verdict m (Some reason.Incomplete) = complete m ≡ false
Verdict m (Some (reason.Chain pair)) = Broken m pair
Verdict m (Some reason.TooMuch) = ⊥
