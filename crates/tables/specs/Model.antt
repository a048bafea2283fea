-- What the tables of a policy say.
use Rattle.std.specs.Prelude.{◌≡◌, ℕ, Bool, true, false, cond, ◌||◌, List, [], ◌∷◌, ◌++◌, map, length, replicate, is_some, Some, None, vec_items, Option, Result, MatchResult, nat_le, slice_index_or, slice_set}
use Rattle.std.specs.Option.{option_or}
use Rattle.label.specs.Refusals.{refuses_more}
use Rattle.label.specs.Texts.{name_text, text}
use Rattle.label.specs.declared.name.Name.{Name}
use Rattle.label.specs.declared.path.Path.{Path}
use Rattle.label.specs.declared.numbers.Dom.{Dom}
use Rattle.label.specs.declared.refusal.Refusal.{Refusal}
use Rattle.label.specs.declared.refusal.Refusal.TheVariants.{Repeated, Undeclared}
use Rattle.lists.specs.Places.{place_of}
use Rattle.rules.specs.Held.{rules_of, refusal_of}
use Rattle.rules.specs.declared.rule.Rule.{Rule}
use Rattle.tables.specs.declared.entry.Entry.{Entry}
use Rattle.tables.specs.declared.holding.Holding.{Holding}
use Rattle.tables.specs.declared.table.Apart.{Apart}
use Rattle.tables.specs.declared.table.Tables.{Tables}
use Rattle.tables.specs.Entries.{enters, count_of}
use Rattle.tables.specs.Holdings.{nothing}

-- Types, domains and objects are numbered from 0 in the order of declaration.
pub record Model : Type 0 where
  pub types : List Name
  pub domains : List Name
  -- the default domain, in which every program starts
  pub first : Option Dom
  pub rules : List Rule
  pub objects : List Path
  pub entries : List Entry
  -- what each domain holds, by its number
  pub holdings : List Holding
  pub aparts : List Apart

abbrev pub model : Tables → Model
model t = record {
  types = vec_items t.types.list;
  domains = vec_items t.domains.list;
  first = t.first;
  rules = rules_of t.rules;
  objects = vec_items t.objects.list;
  entries = vec_items t.entries.list;
  holdings = t.holdings;
  aparts = vec_items t.aparts;
}

abbrev pub empty : Model
empty = record {
  types = [];
  domains = [];
  first = None;
  rules = [];
  objects = [];
  entries = [];
  holdings = replicate 32 nothing;
  aparts = [];
}

-- what the domain of number d holds; beyond the table nothing
abbrev pub holding_of : Model → ℕ → Holding
holding_of m d = slice_index_or m.holdings d (record { rights = []; passages = [] })

-- what each call adds

abbrev pub with_type : Model → Name → Model
with_type m n = record {
  types = m.types ++ n ∷ [];
  domains = m.domains;
  first = m.first;
  rules = m.rules;
  objects = m.objects;
  entries = m.entries;
  holdings = m.holdings;
  aparts = m.aparts;
}

abbrev pub with_domain : Model → Name → Model
with_domain m n = record {
  types = m.types;
  domains = m.domains ++ n ∷ [];
  first = m.first;
  rules = m.rules;
  objects = m.objects;
  entries = m.entries;
  holdings = m.holdings;
  aparts = m.aparts;
}

abbrev pub with_default : Model → Dom → Model
with_default m d = record {
  types = m.types;
  domains = m.domains;
  first = Some d;
  rules = m.rules;
  objects = m.objects;
  entries = m.entries;
  holdings = m.holdings;
  aparts = m.aparts;
}

abbrev pub with_rule : Model → Rule → Model
with_rule m r = record {
  types = m.types;
  domains = m.domains;
  first = m.first;
  rules = m.rules ++ r ∷ [];
  objects = m.objects;
  entries = m.entries;
  holdings = m.holdings;
  aparts = m.aparts;
}

abbrev pub with_object : Model → Path → Model
with_object m p = record {
  types = m.types;
  domains = m.domains;
  first = m.first;
  rules = m.rules;
  objects = m.objects ++ p ∷ [];
  entries = m.entries;
  holdings = m.holdings;
  aparts = m.aparts;
}

abbrev pub with_entry : Model → Entry → Model
with_entry m e = record {
  types = m.types;
  domains = m.domains;
  first = m.first;
  rules = m.rules;
  objects = m.objects;
  entries = m.entries ++ e ∷ [];
  holdings = m.holdings;
  aparts = m.aparts;
}

abbrev pub with_holding : Model → ℕ → Holding → Model
with_holding m d h = record {
  types = m.types;
  domains = m.domains;
  first = m.first;
  rules = m.rules;
  objects = m.objects;
  entries = m.entries;
  holdings = slice_set m.holdings d h;
  aparts = m.aparts;
}

abbrev pub with_apart : Model → Apart → Model
with_apart m a = record {
  types = m.types;
  domains = m.domains;
  first = m.first;
  rules = m.rules;
  objects = m.objects;
  entries = m.entries;
  holdings = m.holdings;
  aparts = m.aparts ++ a ∷ [];
}

-- why each call is refused, if it is

abbrev pub no_domain : Model → ℕ → Bool
no_domain m d = nat_le (length m.domains) d

abbrev pub no_type : Model → ℕ → Bool
no_type m t = nat_le (length m.types) t

abbrev pub unless : Bool → Option Refusal
unless undeclared = cond undeclared (Some Undeclared) None

-- what a call answers that only wants something to be declared
abbrev pub Wants : Bool → Result (Unit {0}) Refusal → Type 0
Wants undeclared r = MatchResult r (λ _. undeclared ≡ false) (λ e. (undeclared ≡ true) × (e ≡ Undeclared))

abbrev pub refuses_type : Model → Name → Option Refusal
refuses_type m n = refuses_more (is_some (place_of (map name_text m.types) (name_text n))) (length m.types) 64

abbrev pub refuses_domain : Model → Name → Option Refusal
refuses_domain m n = refuses_more (is_some (place_of (map name_text m.domains) (name_text n))) (length m.domains) 32

abbrev pub refuses_default : Model → Dom → Option Refusal
refuses_default m d = cond (is_some m.first) (Some Repeated) (unless (no_domain m d.0))

abbrev pub refuses_rule : Model → Rule → Option Refusal
refuses_rule m r = option_or (refusal_of m.rules r) (unless (no_type m r.typ.0))

abbrev pub refuses_object : Model → Path → Option Refusal
refuses_object m p = refuses_more (is_some (place_of (map text m.objects) (text p))) (length m.objects) 128

abbrev pub refuses_entry : Model → Entry → Option Refusal
refuses_entry m e = option_or (unless (no_domain m e.dom.0)) (refuses_more (enters m.entries e.dom.0 (text e.path)) (count_of m.entries e.dom.0) 8)

abbrev pub refuses_rights : Model → ℕ → ℕ → Option Refusal
refuses_rights m d t = unless (no_domain m d || no_type m t)

abbrev pub refuses_passage : Model → ℕ → ℕ → Option Refusal
refuses_passage m d e = unless (no_domain m d || no_domain m e)

abbrev pub refuses_apart : Model → Apart → Option Refusal
refuses_apart m a = option_or (refuses_more false (length m.aparts) 128) (unless (no_type m a.from.0 || no_type m a.to.0))
