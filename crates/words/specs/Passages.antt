-- The ways of taking a passage.
use Rattle.std.specs.Prelude.{ℕ, List, [], ◌∷◌, codes, Option, refl}
use Rattle.tables.specs.declared.holding.Passage.{Passage}
use Rattle.tables.specs.declared.holding.Passage.TheVariants.{Auto, Exec}
use Rattle.words.specs.Spelled.{spelled_so, EachReadBack}

abbrev pub passage_text : Passage → List ℕ
passage_text Auto = codes "auto"
passage_text Exec = codes "exec"

abbrev pub passages : List Passage
passages = Auto ∷ Exec ∷ []

-- the way of taking a passage that the bytes name
unfoldable pub passage_of : List ℕ → Option Passage
passage_of w = spelled_so passage_text passages w

pub passage_read_back : EachReadBack passage_text passages
passage_read_back Auto = refl
passage_read_back Exec = refl
