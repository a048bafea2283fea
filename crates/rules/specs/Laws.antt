-- How a path comes by its type, in words that need no search.
use Rattle.std.specs.Prelude.{◌≡◌, ℕ, ◌<◌, true, ◌⊎◌, ◌↔◌, List, [], ◌∷◌, take, is_some, Some, None, codes}
use Rattle.label.specs.Paths.{ancestor, IsPath}
use Rattle.label.specs.Texts.{text}
use Rattle.rules.specs.declared.rule.Rule.{Rule}
use Rattle.rules.specs.declared.rule.Flag.{Flag}
use Rattle.rules.specs.declared.rule.Flag.TheVariants.{E, R}
use Rattle.rules.specs.Typing.{stands_on, rule_on, distinct, under, deciding, type_of}

-- the rule is one of the rules
abbrev pub Among : Rule → List Rule → Type 0
Among r [] = ⊥
Among r (x ∷ xs) = (x ≡ r) ⊎ Among r xs

-- the ancestor of `long` bytes is the longest that has a rule for what lies under it, and r is that rule
pub record Longest (rs : List Rule) (p : List ℕ) (r : Rule) : Type 0 where
  pub long : ℕ
  pub above : ancestor p long ≡ true
  pub says : under rs (take long p) ≡ Some r
  pub others : (m : ℕ) → long < m → ancestor p m ≡ true → under rs (take m p) ≡ None

-- the three steps by which r decides
abbrev pub Decided : List Rule → List ℕ → Rule → Type 0
Decided rs p r =
    (rule_on rs E p ≡ Some r)
    ⊎ ((rule_on rs E p ≡ None) × ((rule_on rs R p ≡ Some r) ⊎ ((rule_on rs R p ≡ None) × Longest rs p r)))

pub record Laws : Type 0 where
  -- what is found is one of the rules, and stands on the path with the flag
  pub found : (rs : List Rule) (f : Flag) (p : List ℕ) (r : Rule) → rule_on rs f p ≡ Some r → Among r rs × (stands_on r f p ≡ true)
  -- each of distinct rules is found at its flag and path
  pub finds : (rs : List Rule) (r : Rule) → distinct rs ≡ true → Among r rs → rule_on rs r.flag (text r.path) ≡ Some r
  -- a rule decides exactly by the three steps
  pub decided : (rs : List Rule) (p : List ℕ) (r : Rule) → (deciding rs p ≡ Some r) ↔ Decided rs p r
  -- with an -r rule on / every path has a type
  pub typed : (rs : List Rule) (p : List ℕ) → is_some (rule_on rs R (codes "/")) ≡ true → ∥ IsPath p ∥₁ → is_some (type_of rs p) ≡ true
