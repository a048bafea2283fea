-- Tables on which one can rely.
use Rattle.std.specs.Prelude.{◌≡◌, ℕ, ◌<◌, ◌≤◌, true, false, ◌⊎◌, List, length, slice_index_or}
use Rattle.std.specs.List.{AllByRecursion}
use Rattle.label.specs.Letters.{none}
use Rattle.label.specs.Texts.{name_text, text}
use Rattle.label.specs.declared.name.Name.{Name}
use Rattle.label.specs.declared.numbers.Dom.{Dom}
use Rattle.label.specs.declared.path.Path.{Path}
use Rattle.rules.specs.Typing.{distinct}
use Rattle.tables.specs.Begins.{declared_in}
use Rattle.tables.specs.Entries.{count_of}
use Rattle.tables.specs.Holdings.{rights_on, listed}
use Rattle.tables.specs.Model.{Model, holding_of}
use Rattle.tables.specs.declared.entry.Entry.{Entry}
use Rattle.tables.specs.declared.holding.Passage.{Passage}
use Rattle.reader.specs.Composed.{Composed, is_specified}

-- every limit holds
pub record WithinLimits (m : Model) : Type 0 where
  pub types : length m.types ≤ 64
  pub domains : length m.domains ≤ 32
  pub rules : length m.rules ≤ 256
  pub objects : length m.objects ≤ 128
  pub aparts : length m.aparts ≤ 128
  -- of each domain
  pub entries : (d : ℕ) → count_of m.entries d ≤ 8

-- no two in the list are alike: places at which alike ones stand are one place
abbrev pub NoTwo : {X : Type 0} → (X → X → Type 0) → List X → Type 0
NoTwo {X} Alike xs = (i j : ℕ) (x : X) → i < length xs → j < length xs → Alike (slice_index_or xs i x) (slice_index_or xs j x) → i ≡ j

abbrev pub SameName : Name → Name → Type 0
SameName a b = name_text a ≡ name_text b

abbrev pub SamePath : Path → Path → Type 0
SamePath a b = text a ≡ text b

-- of one domain
abbrev pub SameEntry : Entry → Entry → Type 0
SameEntry a b = (a.dom ≡ b.dom) × SamePath a.path b.path

-- nothing stands twice
pub record Distinct (m : Model) : Type 0 where
  pub types : NoTwo SameName m.types
  pub domains : NoTwo SameName m.domains
  pub objects : NoTwo SamePath m.objects
  -- with the same flag on the same path
  pub rules : distinct m.rules ≡ true
  pub entries : NoTwo SameEntry m.entries

-- every type and every domain that is spoken of is declared
pub record Declared (m : Model) : Type 0 where
  -- the default domain, if there is one
  pub first : declared_in m.first (length m.domains) ≡ true
  pub rules : AllByRecursion (λ r. r.typ.0 < length m.types) m.rules
  pub aparts : AllByRecursion (λ a. (a.from.0 < length m.types) × (a.to.0 < length m.types)) m.aparts
  pub entries : AllByRecursion (λ x. x.dom.0 < length m.domains) m.entries
  -- a domain that is not declared has no rights, and none has rights on a type that is not
  pub rights : (d t : ℕ) → (length m.domains ≤ d) ⊎ (length m.types ≤ t) → rights_on (holding_of m d) t ≡ none
  -- no passage leads from a domain, or to one, that is not declared
  pub passages : (d : ℕ) (how : Passage) (e : ℕ) → (length m.domains ≤ d) ⊎ (length m.domains ≤ e) → listed (holding_of m d) how e ≡ false

pub record Sound (c : Composed) : Type 0 where
  pub limits : WithinLimits c.tables
  pub once : Distinct c.tables
  pub declared : Declared c.tables
  -- a domain that is not declared had no spec_domain
  pub specified : (d : Dom) → length c.tables.domains ≤ d.0 → is_specified c d ≡ false
