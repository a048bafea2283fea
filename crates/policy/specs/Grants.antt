-- What a domain is granted on a path and on an object.
use Rattle.std.specs.Prelude.{◌≡◌, ℕ, ◌<◌, Bool, true, false, not, ◌&&◌, ◌||◌, List, [], map, length, take, Some, None, Ok, Err, Option, Result, nat_le, slice_index_or}
use Rattle.label.specs.Letters.{has, none, letter_r, letter_x, letter_d}
use Rattle.label.specs.Paths.{ancestor}
use Rattle.label.specs.Texts.{text}
use Rattle.label.specs.declared.numbers.Typ.{Typ}
use Rattle.label.specs.declared.rights.Rights.{Rights}
use Rattle.rules.specs.Typing.{type_of}
use Rattle.tables.specs.Holdings.{rights_on}
use Rattle.tables.specs.Model.{Model, holding_of}
use Rattle.policy.specs.Lowest.{lowest}

-- the type of a path, by the rules
abbrev pub type_at : Model → List ℕ → Option Typ
type_at m p = type_of m.rules p

abbrev pub no_object : Model → ℕ → Bool
no_object m o = nat_le (length m.objects) o

-- the path of an object, by its number
abbrev pub path_of : Model → ℕ → List ℕ
path_of m o = slice_index_or (map text m.objects) o []

-- the type of an object, by its number
abbrev pub object_type : Model → ℕ → Option Typ
object_type m o = type_at m (path_of m o)

-- the letters that a domain holds on a type: none where there is no type
abbrev pub letters_on : Model → ℕ → Option Typ → Rights
letters_on m d None = none
letters_on m d (Some t) = rights_on (holding_of m d) t.0

abbrev pub holds : Model → ℕ → Option Typ → ℕ → Bool
holds m d t l = has (letters_on m d t) l

-- the first n bytes are an ancestor of the path, and the domain lacks d on its type
abbrev pub barred : Model → ℕ → List ℕ → ℕ → Bool
barred m d p n = ancestor p n && not (holds m d (type_at m (take n p)) letter_d)

-- the length of the first ancestor, from / downward, at which the domain is barred
abbrev pub barrier : Model → ℕ → List ℕ → Option ℕ
barrier m d p = lowest (barred m d p) (length p)

-- granted, or the denial: the length of the first path that failed, and the letter lacking there
abbrev pub verdict : Option ℕ → Bool → ℕ → ℕ → Result (Unit {0}) (ℕ × ℕ)
verdict (Some n) held long l = Err (n, letter_d)
verdict None true long l = Ok tt
verdict None false long l = Err (long, l)

-- d on the type of every ancestor, and the letter on the own type t
abbrev pub grant : Model → ℕ → List ℕ → Option Typ → ℕ → Result (Unit {0}) (ℕ × ℕ)
grant m d p t l = verdict (barrier m d p) (holds m d t l) (length p) l

-- the same for reading, which r or x grants: a denial at the path itself names r
abbrev pub grant_read : Model → ℕ → List ℕ → Option Typ → Result (Unit {0}) (ℕ × ℕ)
grant_read m d p t = verdict (barrier m d p) (holds m d t letter_r || holds m d t letter_x) (length p) letter_r

-- on an object, by its number
unfoldable pub grant_on : Model → ℕ → ℕ → ℕ → Result (Unit {0}) (ℕ × ℕ)
grant_on m d o l = grant m d (path_of m o) (object_type m o) l

unfoldable pub read_on : Model → ℕ → ℕ → Result (Unit {0}) (ℕ × ℕ)
read_on m d o = grant_read m d (path_of m o) (object_type m o)

-- the types of the ancestors shorter than n, by their lengths
abbrev pub Above : Model → List ℕ → List (Option Typ) → ℕ → Type 0
Above m p types n = (k : ℕ) → k < n → ancestor p k ≡ true → slice_index_or types k None ≡ type_at m (take k p)
