-- How a program passes from domain to domain by running an object.
use Rattle.std.specs.Prelude.{ℕ, Bool, cond, not, ◌&&◌, ◌||◌, List, length, is_ok, None, Option}
use Rattle.std.specs.Option.{option_map}
use Rattle.label.specs.Letters.{letter_x}
use Rattle.label.specs.declared.numbers.Dom.{Dom}
use Rattle.tables.specs.Entries.{enters}
use Rattle.tables.specs.Holdings.{listed}
use Rattle.tables.specs.Model.{Model, holding_of, no_domain}
use Rattle.tables.specs.declared.holding.Passage.TheVariants.{Auto, Exec}
use Rattle.policy.specs.Lowest.{lowest}
use Rattle.policy.specs.Grants.{grant_on, path_of, no_object}

-- the domain d lists a passage to e, as auto or exec
abbrev pub passage_to : Model → ℕ → ℕ → Bool
passage_to m d e = listed (holding_of m d) Auto e || listed (holding_of m d) Exec e

-- the domain d may run the object o
abbrev pub runs : Model → ℕ → ℕ → Bool
runs m d o = not (no_object m o || no_domain m d) && is_ok (grant_on m d o letter_x)

-- the path of the object o is an entry path of the domain e
abbrev pub entered : Model → ℕ → ℕ → Bool
entered m o e = not (no_object m o || no_domain m e) && enters m.entries e (path_of m o)

-- d may pass to e by the object o: d may run it, its path is an entry path of e, and d lists the passage
unfoldable pub pass : Model → ℕ → ℕ → ℕ → Bool
pass m d o e = runs m d o && (entered m o e && passage_to m d e)

-- d lists an auto passage to e, and the path is an entry path of e
abbrev pub leads : Model → ℕ → List ℕ → ℕ → Bool
leads m d p e = listed (holding_of m d) Auto e && enters m.entries e p

-- the lowest domain to which an auto passage of d leads by the path
abbrev pub target : Model → ℕ → List ℕ → Option Dom
target m d p = option_map (λ e. record { 0 = e }) (lowest (leads m d p) (length m.domains))

-- the domain to which a run of the object without a wish passes, if any
unfoldable pub auto : Model → ℕ → ℕ → Option Dom
auto m d o = cond (runs m d o) (target m d (path_of m o)) None
