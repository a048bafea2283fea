-- Auto passages of one domain that share an entry path.
use Rattle.std.specs.Prelude.{ℕ, Bool, false, ◌&&◌, ◌||◌, List, [], ◌∷◌, length, is_some, Some, None, Option, ◌==◌, nat_lt}
use Rattle.std.specs.Option.{option_map}
use Rattle.label.specs.Texts.{text}
use Rattle.label.specs.declared.numbers.Dom.{Dom}
use Rattle.tables.specs.Entries.{enters}
use Rattle.tables.specs.Holdings.{listed}
use Rattle.tables.specs.Model.{Model, holding_of}
use Rattle.tables.specs.declared.entry.Entry.{Entry}
use Rattle.tables.specs.declared.holding.Passage.TheVariants.{Auto}
use Rattle.policy.specs.Lowest.{lowest}

-- one of xs is an entry path of e, and among the entries an entry path of f too
abbrev pub shared_by : List Entry → List Entry → ℕ → ℕ → Bool
shared_by [] entries e f = false
shared_by (x ∷ xs) entries e f = (x.dom.0 == e && enters entries f (text x.path)) || shared_by xs entries e f

-- e and f have an entry path in common
abbrev pub shares : List Entry → ℕ → ℕ → Bool
shares entries e f = shared_by entries entries e f

-- d lists auto passages to e and to f, which have an entry path in common
abbrev pub clashing : Model → ℕ → ℕ → ℕ → Bool
clashing m d e f = shares m.entries e f && (listed (holding_of m d) Auto e && listed (holding_of m d) Auto f)

-- the lowest target above e that clashes with e
abbrev pub second : Model → ℕ → ℕ → Option ℕ
second m d e = lowest (λ f. nat_lt e f && clashing m d e f) (length m.domains)

-- the lowest target that clashes with one above it
abbrev pub first : Model → ℕ → Option ℕ
first m d = lowest (λ e. is_some (second m d e)) (length m.domains)

-- the lowest domain that has a clash
abbrev pub clashed : Model → Option ℕ
clashed m = lowest (λ d. is_some (first m d)) (length m.domains)

abbrev pub pair_from : Model → ℕ → Option ℕ → Option (Dom × Dom)
pair_from m d None = None
pair_from m d (Some e) = option_map (λ f. (record { 0 = e }, record { 0 = f })) (second m d e)

-- the lowest pair of targets of d that clash, the lower target first
abbrev pub pair : Model → ℕ → Option (Dom × Dom)
pair m d = pair_from m d (first m d)

abbrev pub pair_of : Model → Option ℕ → Option (Dom × Dom)
pair_of m None = None
pair_of m (Some d) = pair m d

-- the lowest pair of the lowest domain that has a clash
abbrev pub clash : Model → Option (Dom × Dom)
clash m = pair_of m (clashed m)
