-- The flags of a rule.
use Rattle.std.specs.Prelude.{ℕ, List, [], ◌∷◌, codes, Option, refl}
use Rattle.rules.specs.declared.rule.Flag.{Flag}
use Rattle.rules.specs.declared.rule.Flag.TheVariants.{E, U, R}
use Rattle.words.specs.Spelled.{spelled_so, EachReadBack}

abbrev pub flag_text : Flag → List ℕ
flag_text E = codes "-e"
flag_text U = codes "-u"
flag_text R = codes "-r"

abbrev pub flags : List Flag
flags = E ∷ U ∷ R ∷ []

-- the flag that a word is
unfoldable pub flag_of : List ℕ → Option Flag
flag_of w = spelled_so flag_text flags w

pub flag_read_back : EachReadBack flag_text flags
flag_read_back E = refl
flag_read_back U = refl
flag_read_back R = refl
