-- How the search for the deciding rule compares rules: the highest rank decides.
use Rattle.std.specs.Prelude.{ℕ, ◌+◌, ◌*◌, Bool, true, false, cond, ◌&&◌, ◌||◌, List, [], ◌∷◌, length, take, Some, Option, ◌==◌, nat_lt}
use Rattle.std.specs.Str.{bytes_eq}
use Rattle.label.specs.Paths.{ancestor}
use Rattle.label.specs.Texts.{text}
use Rattle.rules.specs.declared.rule.Flag.{Flag}
use Rattle.rules.specs.declared.rule.Flag.TheVariants.{E, U, R}
use Rattle.rules.specs.declared.rule.Rule.{Rule}

-- the first n bytes are the path or one of its ancestors
abbrev pub reaches : List ℕ → ℕ → Bool
reaches p n = n == length p || ancestor p n

-- the rule's path is this path or one of its ancestors
abbrev pub covers : Rule → List ℕ → Bool
covers r p = reaches p (length (text r.path)) && bytes_eq (text r.path) (take (length (text r.path)) p)

-- the rank of a rule on a path of n bytes that is the whole path or an ancestor; 0 where its flag does not speak of it
abbrev pub strength : Flag → Bool → ℕ → ℕ
strength R whole n = 2 * n + 1
strength E true n = 2 * n + 2
strength E false n = 0
strength U true n = 0
strength U false n = 2 * n + 2

-- the rank that a rule has if it covers the path
abbrev pub claim : Rule → List ℕ → ℕ
claim r p = cond (reaches p (length (text r.path))) (strength r.flag (length (text r.path) == length p) (length (text r.path))) 0

abbrev pub rank : Rule → List ℕ → ℕ
rank r p = cond (covers r p) (strength r.flag (length (text r.path) == length p) (length (text r.path))) 0

-- the first rule of the highest rank above k, else o
unfoldable pub highest : List Rule → List ℕ → ℕ → Option Rule → Option Rule
highest [] p k o = o
highest (r ∷ rs) p k o = highest rs p (cond (nat_lt k (rank r p)) (rank r p) k) (cond (nat_lt k (rank r p)) (Some r) o)
