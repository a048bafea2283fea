-- The type that rules give a path.
use Rattle.std.specs.Prelude.{ℕ, zero, suc, Bool, true, false, cond, not, ◌&&◌, List, [], ◌∷◌, length, take, is_some, None, Option}
use Rattle.std.specs.Option.{option_or, option_map}
use Rattle.std.specs.List.{find}
use Rattle.std.specs.Str.{bytes_eq}
use Rattle.label.specs.Paths.{ancestor}
use Rattle.label.specs.Texts.{text}
use Rattle.label.specs.declared.numbers.Typ.{Typ}
use Rattle.rules.specs.declared.rule.Flag.{Flag}
use Rattle.rules.specs.declared.rule.Flag.TheVariants.{E, U, R}
use Rattle.rules.specs.declared.rule.Rule.{Rule}

abbrev pub same_flag : Flag → Flag → Bool
same_flag E E = true
same_flag E U = false
same_flag E R = false
same_flag U E = false
same_flag U U = true
same_flag U R = false
same_flag R E = false
same_flag R U = false
same_flag R R = true

-- the rule has this flag, and stands on exactly this path
abbrev pub stands_on : Rule → Flag → List ℕ → Bool
stands_on r f p = same_flag r.flag f && bytes_eq (text r.path) p

-- the first rule that does
unfoldable pub rule_on : List Rule → Flag → List ℕ → Option Rule
rule_on rs f p = find (λ r. stands_on r f p) rs

-- no two rules have the same flag and path
abbrev pub distinct : List Rule → Bool
distinct [] = true
distinct (r ∷ rs) = not (is_some (rule_on rs r.flag (text r.path))) && distinct rs

-- the rule on a path that speaks of what lies under it: -u goes before -r
abbrev pub under : List Rule → List ℕ → Option Rule
under rs p = option_or (rule_on rs U p) (rule_on rs R p)

-- such a rule on the longest ancestor, shorter than n, that has one
unfoldable pub above : List Rule → List ℕ → ℕ → Option Rule
above rs p zero = None
above rs p (suc n) = cond (ancestor p n) (option_or (under rs (take n p)) (above rs p n)) (above rs p n)

-- The rule that decides: an -e rule on exactly this path, else an -r rule on exactly this path,
-- else the -u or -r rule on the longest ancestor that has one.
unfoldable pub deciding : List Rule → List ℕ → Option Rule
deciding rs p = option_or (rule_on rs E p) (option_or (rule_on rs R p) (above rs p (length p)))

abbrev pub type_of : List Rule → List ℕ → Option Typ
type_of rs p = option_map (λ r. r.typ) (deciding rs p)
