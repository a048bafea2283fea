-- What each token does at each position of a line: where it leads and what it adds to the tables, or why it is refused there.
use Rattle.std.specs.Prelude.{ℕ, cond, List, map, length, is_some, Some, None, Ok, Err, codes, Option, Result, nat_le}
use Rattle.label.specs.Held.{named, pathed}
use Rattle.label.specs.Refusals.{refuses_more}
use Rattle.label.specs.Tests.{is_name}
use Rattle.label.specs.Texts.{name_text, text}
use Rattle.label.specs.declared.name.Name.{Name}
use Rattle.label.specs.declared.numbers.Dom.{Dom}
use Rattle.label.specs.declared.numbers.Typ.{Typ}
use Rattle.label.specs.declared.path.Path.{Path}
use Rattle.label.specs.declared.refusal.Refusal.{Refusal}
use Rattle.label.specs.declared.rights.Rights.{Rights}
use Rattle.lists.specs.Places.{place_of}
use Rattle.rules.specs.Typing.{rule_on}
use Rattle.rules.specs.declared.rule.Flag.{Flag}
use Rattle.scan.specs.Tokens.{Said}
use Rattle.scan.specs.Tokens.Said.{word, sign}
use Rattle.scan.specs.declared.token.Mark.{Mark}
use Rattle.scan.specs.declared.token.Mark.TheVariants as mark
use Rattle.tables.specs.Holdings.{with_rights, with_passage}
use Rattle.tables.specs.Model.{Model, holding_of, with_type, with_domain, with_default, with_rule, with_object, with_entry, with_holding, with_apart, refuses_type, refuses_domain, refuses_default, refuses_rule, refuses_object, refuses_entry, refuses_rights, refuses_passage, refuses_apart}
use Rattle.tables.specs.declared.holding.Passage.{Passage}
use Rattle.words.specs.Arrows.{split_arrow}
use Rattle.words.specs.Flags.{flag_of}
use Rattle.words.specs.Keywords.{keyword_of}
use Rattle.words.specs.Letters.{letters_of}
use Rattle.words.specs.Passages.{passage_of}
use Rattle.words.specs.declared.keyword.Keyword.{Keyword}
use Rattle.words.specs.declared.keyword.Keyword.TheVariants as keyword
use Rattle.reader.specs.Composed.{Composed, tabled, is_specified, specifying}
use Rattle.reader.specs.Reasons.{reason_of}
use Rattle.reader.specs.declared.position.Group.{Group}
use Rattle.reader.specs.declared.position.Group.TheVariants as group
use Rattle.reader.specs.declared.position.Position.{Position}
use Rattle.reader.specs.declared.position.Position.TheVariants.{Start, Name as FirstName, MoreNames, DefaultDomain, Specified, Widened, Open, Within, RuleFlag, RulePath, RuleType, ObjectPath, ApartFrom, ApartTo, LineEnd}
use Rattle.reader.specs.declared.position.Sort.{Sort}
use Rattle.reader.specs.declared.position.Sort.TheVariants as sort
use Rattle.reader.specs.declared.reason.Reason.{Reason}
use Rattle.reader.specs.declared.reason.Reason.TheVariants.{Stray, Misfit, Misshapen, Repeated, Undeclared, Full, Letters, Signals}

-- what a token comes to: tables and the next position, or a fault at its place
abbrev pub Next : Type 0
Next = Result (Composed × Position) Reason

abbrev pub then : {A B : Type 0} → Result A Reason → (A → Result B Reason) → Result B Reason
then (Ok a) k = k a
then (Err e) k = Err e

-- what is lacking is refused for this reason
abbrev pub or_refuse : {A : Type 0} → Reason → Option A → Result A Reason
or_refuse e None = Err e
or_refuse e (Some a) = Ok a

-- the tables with what was added and the next position, unless they refuse it
abbrev pub unless : Option Refusal → Composed → Model → Position → Next
unless (Some e) c added next = Err (reason_of e)
unless None c added next = Ok (tabled c added, next)

-- ── Names ──

-- where a declared name is expected: what is no name is refused first, then what is not declared
abbrev pub declared : List Name → List ℕ → Result ℕ Reason
declared names w = cond (is_name w) (or_refuse Undeclared (place_of (map name_text names) w)) (Err Misshapen)

abbrev pub type_named : Composed → List ℕ → Result Typ Reason
type_named c w = then (declared c.tables.types w) (λ t. Ok (record { 0 = t }))

abbrev pub domain_named : Composed → List ℕ → Result Dom Reason
domain_named c w = then (declared c.tables.domains w) (λ d. Ok (record { 0 = d }))

-- a new name, or a path: what is not of the form is refused
abbrev pub new_name : List ℕ → Result Name Reason
new_name w = or_refuse Misshapen (named w)

abbrev pub a_path : List ℕ → Result Path Reason
a_path w = or_refuse Misshapen (pathed w)

-- ── Statements ──

-- types NAME.. and domains NAME..
abbrev pub declare : Composed → Sort → Name → Next
declare c sort.Types n = unless (refuses_type c.tables n) c (with_type c.tables n) (MoreNames sort.Types)
declare c sort.Domains n = unless (refuses_domain c.tables n) c (with_domain c.tables n) (MoreNames sort.Domains)

abbrev pub name_word : Composed → Sort → List ℕ → Next
name_word c s w = then (new_name w) (λ n. declare c s n)

-- default_d DOMAIN
abbrev pub set_default : Composed → Dom → Next
set_default c d = unless (refuses_default c.tables d) c (with_default c.tables d) LineEnd

abbrev pub default_word : Composed → List ℕ → Next
default_word c w = then (domain_named c w) (λ d. set_default c d)

-- assign FLAG PATH TYPE
abbrev pub flag_word : Composed → List ℕ → Next
flag_word c w = then (or_refuse Misfit (flag_of w)) (λ f. Ok (c, RulePath f))

-- a rule with this flag on this path: refused at the path if there is one, or if there are 256
abbrev pub begin_rule : Composed → Flag → Path → Next
begin_rule c f p = unless (refuses_more (is_some (rule_on c.tables.rules f (text p))) (length c.tables.rules) 256) c c.tables (RuleType f p)

abbrev pub rule_path : Composed → Flag → List ℕ → Next
rule_path c f w = then (a_path w) (λ p. begin_rule c f p)

abbrev pub end_rule : Composed → Flag → Path → Typ → Next
end_rule c f p t = unless (refuses_rule c.tables (record { flag = f; path = p; typ = t })) c (with_rule c.tables (record { flag = f; path = p; typ = t })) LineEnd

abbrev pub rule_type : Composed → Flag → Path → List ℕ → Next
rule_type c f p w = then (type_named c w) (λ t. end_rule c f p t)

-- object PATH
abbrev pub add_object : Composed → Path → Next
add_object c p = unless (refuses_object c.tables p) c (with_object c.tables p) LineEnd

abbrev pub object_word : Composed → List ℕ → Next
object_word c w = then (a_path w) (λ p. add_object c p)

-- apart TYPE TYPE: the 129th is refused at its first word
abbrev pub begin_apart : Composed → Next
begin_apart c = cond (nat_le 128 (length c.tables.aparts)) (Err Full) (Ok (c, ApartFrom))

abbrev pub apart_from : Composed → List ℕ → Next
apart_from c w = then (type_named c w) (λ t. Ok (c, ApartTo t))

abbrev pub end_apart : Composed → Typ → Typ → Next
end_apart c t u = unless (refuses_apart c.tables (record { from = t; to = u })) c (with_apart c.tables (record { from = t; to = u })) LineEnd

abbrev pub apart_to : Composed → Typ → List ℕ → Next
apart_to c t w = then (type_named c w) (λ u. end_apart c t u)

-- spec_domain DOMAIN: refused a second time
abbrev pub specify : Composed → Dom → Next
specify c d = cond (is_specified c d) (Err Repeated) (Ok (specifying c d, Open group.Entries d))

abbrev pub specified_word : Composed → List ℕ → Next
specified_word c w = then (domain_named c w) (λ d. specify c d)

-- widen_domain DOMAIN
abbrev pub widened_word : Composed → List ℕ → Next
widened_word c w = then (domain_named c w) (λ d. Ok (c, Open group.Entries d))

-- an entry path of the domain
abbrev pub add_entry : Composed → Dom → Path → Next
add_entry c d p = unless (refuses_entry c.tables (record { dom = d; path = p })) c (with_entry c.tables (record { dom = d; path = p })) (Within group.Entries d)

abbrev pub entry_word : Composed → Dom → List ℕ → Next
entry_word c d w = then (a_path w) (λ p. add_entry c d p)

-- LETTERS->TYPE: the arrow, the type and then the letters
abbrev pub add_rights : Composed → Dom → Typ → Rights → Next
add_rights c d t r = unless (refuses_rights c.tables d.0 t.0) c (with_holding c.tables d.0 (with_rights (holding_of c.tables d.0) t.0 r)) (Within group.Rights d)

abbrev pub rights_word : Composed → Dom → List ℕ → Next
rights_word c d w = then (or_refuse Misfit (split_arrow w)) (λ s. then (type_named c s.1) (λ t. then (or_refuse Letters (letters_of s.0)) (λ r. add_rights c d t r)))

-- auto->DOMAIN or exec->DOMAIN
abbrev pub add_passage : Composed → Dom → Passage → Dom → Next
add_passage c d how e = unless (refuses_passage c.tables d.0 e.0) c (with_holding c.tables d.0 (with_passage (holding_of c.tables d.0) how e.0)) (Within group.Passages d)

abbrev pub passage_word : Composed → Dom → List ℕ → Next
passage_word c d w = then (or_refuse Misfit (split_arrow w)) (λ s. then (or_refuse Misfit (passage_of s.0)) (λ how. then (domain_named c s.1) (λ e. add_passage c d how e)))

-- a word of a group
abbrev pub member : Composed → Group → Dom → List ℕ → Next
member c group.Entries d w = entry_word c d w
member c group.Rights d w = rights_word c d w
member c group.Passages d w = passage_word c d w
member c group.Signals d w = Err Signals

-- the first word of a line
abbrev pub begin : Composed → Keyword → Next
begin c keyword.Types = Ok (c, FirstName sort.Types)
begin c keyword.Domains = Ok (c, FirstName sort.Domains)
begin c keyword.DefaultDomain = cond (is_some c.tables.first) (Err Repeated) (Ok (c, DefaultDomain))
-- default_et, default_ut and default_rt are the rules on /
begin c (keyword.DefaultType f) = then (a_path (codes "/")) (λ p. begin_rule c f p)
begin c keyword.SpecDomain = Ok (c, Specified)
begin c keyword.WidenDomain = Ok (c, Widened)
begin c keyword.Assign = Ok (c, RuleFlag)
begin c keyword.Object = Ok (c, ObjectPath)
begin c keyword.Apart = begin_apart c

abbrev pub first_word : Composed → List ℕ → Next
first_word c w = then (or_refuse Misfit (keyword_of w)) (λ k. begin c k)

-- a word
abbrev pub on_word : Composed → Position → List ℕ → Next
on_word c Start w = first_word c w
on_word c (FirstName s) w = name_word c s w
on_word c (MoreNames s) w = name_word c s w
on_word c DefaultDomain w = default_word c w
on_word c Specified w = specified_word c w
on_word c Widened w = widened_word c w
on_word c (Open g d) w = Err Misfit
on_word c (Within g d) w = member c g d w
on_word c RuleFlag w = flag_word c w
on_word c (RulePath f) w = rule_path c f w
on_word c (RuleType f p) w = rule_type c f p w
on_word c ObjectPath w = object_word c w
on_word c ApartFrom w = apart_from c w
on_word c (ApartTo t) w = apart_to c t w
on_word c LineEnd w = Err Misfit

-- ── Marks ──

-- behind a group of the domain comes the next, and behind the last the line's end
abbrev pub behind : Group → Dom → Position
behind group.Entries d = Open group.Rights d
behind group.Rights d = Open group.Passages d
behind group.Passages d = Open group.Signals d
behind group.Signals d = LineEnd

-- which mark fits at a position, and where it leads
pub data Fit : Type 0 where
  none : Fit
  line_end : Fit
  opening closing : Position → Fit

abbrev pub fit : Position → Fit
fit Start = line_end
fit (FirstName s) = none
fit (MoreNames s) = line_end
fit DefaultDomain = none
fit Specified = none
fit Widened = none
fit (Open g d) = opening (Within g d)
fit (Within g d) = closing (behind g d)
fit RuleFlag = none
fit (RulePath f) = none
fit (RuleType f p) = none
fit ObjectPath = none
fit ApartFrom = none
fit (ApartTo t) = none
fit LineEnd = line_end

-- the text's end ends a line too
abbrev pub meet : Fit → Mark → Option Position
meet none k = None
meet line_end mark.Open = None
meet line_end mark.Close = None
meet line_end mark.End = Some Start
meet line_end mark.Last = Some Start
meet line_end mark.Stray = None
meet (opening next) mark.Open = Some next
meet (opening next) mark.Close = None
meet (opening next) mark.End = None
meet (opening next) mark.Last = None
meet (opening next) mark.Stray = None
meet (closing next) mark.Open = None
meet (closing next) mark.Close = Some next
meet (closing next) mark.End = None
meet (closing next) mark.Last = None
meet (closing next) mark.Stray = None

-- why a mark that does not fit is refused
abbrev pub misfit : Mark → Reason
misfit mark.Open = Misfit
misfit mark.Close = Misfit
misfit mark.End = Misfit
misfit mark.Last = Misfit
misfit mark.Stray = Stray

abbrev pub on_mark : Position → Mark → Result Position Reason
on_mark p k = or_refuse (misfit k) (meet (fit p) k)

-- a token
abbrev pub on_token : Composed → Position → Said → Next
on_token c p (word w) = on_word c p w
on_token c p (sign k) = then (on_mark p k) (λ next. Ok (c, next))
