-- What is still there after more was read.
use Rattle.std.specs.Prelude.{◌≡◌, ℕ, true, List, ◌++◌, is_some, Some, codes}
use Rattle.label.specs.Letters.{has}
use Rattle.label.specs.declared.numbers.Dom.{Dom}
use Rattle.rules.specs.Typing.{rule_on}
use Rattle.rules.specs.declared.rule.Flag.TheVariants.{R}
use Rattle.tables.specs.Holdings.{rights_on, listed}
use Rattle.tables.specs.Model.{Model, holding_of}
use Rattle.tables.specs.declared.holding.Passage.{Passage}
use Rattle.reader.specs.Composed.{Composed, is_specified}

-- the list now begins with the list before, so that every number keeps its meaning
abbrev pub Longer : {X : Type 0} → List X → List X → Type 0
Longer {X} before now = (more : List X) × (now ≡ before ++ more)

-- all that the tables before said, the tables now say too
pub record Extends (before now : Composed) : Type 0 where
  pub types : Longer before.tables.types now.tables.types
  pub domains : Longer before.tables.domains now.tables.domains
  pub rules : Longer before.tables.rules now.tables.rules
  pub objects : Longer before.tables.objects now.tables.objects
  pub entries : Longer before.tables.entries now.tables.entries
  pub aparts : Longer before.tables.aparts now.tables.aparts
  -- a default domain that is set stays
  pub first : (d : Dom) → before.tables.first ≡ Some d → now.tables.first ≡ Some d
  -- every letter that a domain holds on a type it still holds
  pub rights : (d t l : ℕ) → has (rights_on (holding_of before.tables d) t) l ≡ true → has (rights_on (holding_of now.tables d) t) l ≡ true
  -- every passage that is listed is still listed
  pub passages : (d : ℕ) (how : Passage) (e : ℕ) → listed (holding_of before.tables d) how e ≡ true → listed (holding_of now.tables d) how e ≡ true
  -- a domain that had its spec_domain counts as having had it
  pub specified : (d : Dom) → is_specified before d ≡ true → is_specified now d ≡ true

-- every program has a domain to start in, and every path a type
pub record Complete (m : Model) : Type 0 where
  -- there is a default domain
  pub first : is_some m.first ≡ true
  -- and an -r rule on /
  pub root : is_some (rule_on m.rules R (codes "/")) ≡ true
