-- The words that begin a statement.
use Rattle.std.specs.Prelude.{ℕ, List, [], ◌∷◌, codes, Option, refl}
use Rattle.rules.specs.declared.rule.Flag.TheVariants.{E, U, R}
use Rattle.words.specs.Spelled.{spelled_so, EachReadBack}
use Rattle.words.specs.declared.keyword.Keyword.{Keyword}
use Rattle.words.specs.declared.keyword.Keyword.TheVariants.{Types, Domains, DefaultDomain, DefaultType, SpecDomain, WidenDomain, Assign, Object, Apart}

abbrev pub keyword_text : Keyword → List ℕ
keyword_text Types = codes "types"
keyword_text Domains = codes "domains"
keyword_text DefaultDomain = codes "default_d"
keyword_text (DefaultType E) = codes "default_et"
keyword_text (DefaultType U) = codes "default_ut"
keyword_text (DefaultType R) = codes "default_rt"
keyword_text SpecDomain = codes "spec_domain"
keyword_text WidenDomain = codes "widen_domain"
keyword_text Assign = codes "assign"
keyword_text Object = codes "object"
keyword_text Apart = codes "apart"

abbrev pub keywords : List Keyword
keywords = Types ∷ Domains ∷ DefaultDomain ∷ DefaultType E ∷ DefaultType U ∷ DefaultType R ∷ SpecDomain ∷ WidenDomain ∷ Assign ∷ Object ∷ Apart ∷ []

-- the keyword that a word is
unfoldable pub keyword_of : List ℕ → Option Keyword
keyword_of w = spelled_so keyword_text keywords w

pub keyword_read_back : EachReadBack keyword_text keywords
keyword_read_back Types = refl
keyword_read_back Domains = refl
keyword_read_back DefaultDomain = refl
keyword_read_back (DefaultType E) = refl
keyword_read_back (DefaultType U) = refl
keyword_read_back (DefaultType R) = refl
keyword_read_back SpecDomain = refl
keyword_read_back WidenDomain = refl
keyword_read_back Assign = refl
keyword_read_back Object = refl
keyword_read_back Apart = refl
