-- What each statement adds takes nothing away.
use Rattle.std.proofs.Common.{◌≡◌, ℕ, Bool, true, false, cond, List, [], ◌∷◌, ◌++◌, is_some, Some, None, codes, Option, sym, refl, ap, ◌∙◌, subst, append_assoc, append-nil, arith}
use Rattle.std.proofs.lemmas.Bool.{or_left, true≢false}
use Rattle.label.proofs.Bits.{sets}
use Rattle.label.specs.Letters.{none, union, has}
use Rattle.label.specs.declared.name.Name.{Name}
use Rattle.label.specs.declared.numbers.Dom.{Dom}
use Rattle.label.specs.declared.path.Path.{Path}
use Rattle.label.specs.declared.refusal.Refusal.{Refusal}
use Rattle.label.specs.declared.rights.Rights.{Rights}
use Rattle.rules.specs.Typing.{stands_on, rule_on}
use Rattle.rules.specs.declared.rule.Flag.{Flag}
use Rattle.rules.specs.declared.rule.Flag.TheVariants.{R}
use Rattle.rules.specs.declared.rule.Rule.{Rule}
use Rattle.tables.specs.Holdings.{no_way, has_way, with_way, ways_to, rights_on, listed, with_rights, with_passage}
use Rattle.tables.specs.Model.{holding_of, with_type, with_domain, with_default, with_rule, with_object, with_entry, with_holding, with_apart, refuses_default}
use Rattle.tables.specs.declared.entry.Entry.{Entry}
use Rattle.tables.specs.declared.holding.Holding.{Holding}
use Rattle.tables.specs.declared.holding.Ways.{Ways}
use Rattle.tables.specs.declared.holding.Passage.{Passage}
use Rattle.tables.specs.declared.holding.Passage.TheVariants.{Auto, Exec}
use Rattle.tables.specs.declared.table.Apart.{Apart}
use Rattle.reader.specs.Composed.{Composed, tabled, specifying}
use Rattle.reader.specs.Reading.{read, tables}
use Rattle.sound_tables.specs.Extends.{Longer, Extends, Complete}
use Rattle.sound_tables.proofs.Places.{after_write}
use Rattle.sound_tables.proofs.Tokens.{Preserved, read_keeps}

-- ── Lists ──

same : {X : Type 0} (xs : List X) → Longer xs xs
same xs = ([], sym (append-nil xs))

pushed : {X : Type 0} (xs : List X) (x : X) → Longer xs (xs ++ x ∷ [])
pushed xs x = (x ∷ [], refl)

longer_still : {X : Type 0} (xs ys zs : List X) → Longer xs ys → Longer ys zs → Longer xs zs
longer_still xs ys zs l m = (l.0 ++ m.0, m.1 ∙ ap (λ z. z ++ m.0) l.1 ∙ append_assoc xs l.0 m.0)

-- ── One change after another ──

extends_itself : (c : Composed) → Extends c c
extends_itself c = record {
  types = same _;
  domains = same _;
  rules = same _;
  objects = same _;
  entries = same _;
  aparts = same _;
  first = λ d e. e;
  rights = λ d t l e. e;
  passages = λ d how f e. e;
  specified = λ d e. e;
}

extends_further : (a b c : Composed) → Extends a b → Extends b c → Extends a c
extends_further a b c x y = record {
  types = longer_still _ _ _ x.types y.types;
  domains = longer_still _ _ _ x.domains y.domains;
  rules = longer_still _ _ _ x.rules y.rules;
  objects = longer_still _ _ _ x.objects y.objects;
  entries = longer_still _ _ _ x.entries y.entries;
  aparts = longer_still _ _ _ x.aparts y.aparts;
  first = λ d e. y.first d (x.first d e);
  rights = λ d t l e. y.rights d t l (x.rights d t l e);
  passages = λ d how f e. y.passages d how f (x.passages d how f e);
  specified = λ d e. y.specified d (x.specified d e);
}

-- ── What a domain holds ──

letters_stay : (h : Holding) (t : ℕ) (r : Rights) (u l : ℕ) → has (rights_on h u) l ≡ true → has (rights_on (with_rights h t r) u) l ≡ true
letters_stay h t r u l e =
    after_write (λ x. has x l ≡ true) h.rights t u (union (rights_on h t) r) none
    (λ q. sets.union_has (rights_on h t) r l ∙ or_left _ _ (ap (λ v. has (rights_on h v) l) (sym q) ∙ e))
    e

letters_beside : (h : Holding) (how : Passage) (e t l : ℕ) → has (rights_on h t) l ≡ true → has (rights_on (with_passage h how e) t) l ≡ true
letters_beside h how e t l p = p

way_stays : (w : Ways) (how how' : Passage) → has_way w how' ≡ true → has_way (with_way w how) how' ≡ true
way_stays w Auto Auto p = refl
way_stays w Auto Exec p = p
way_stays w Exec Auto p = p
way_stays w Exec Exec p = refl

passages_stay : (h : Holding) (how : Passage) (d : ℕ) (how' : Passage) (e : ℕ) → listed h how' e ≡ true → listed (with_passage h how d) how' e ≡ true
passages_stay h how d how' e p =
    after_write (λ w. has_way w how' ≡ true) h.passages d e (with_way (ways_to h d) how) no_way
    (λ q. way_stays (ways_to h d) how how' (ap (λ v. has_way (ways_to h v) how') (sym q) ∙ p))
    p

passages_beside : (h : Holding) (t : ℕ) (r : Rights) (how : Passage) (e : ℕ) → listed h how e ≡ true → listed (with_rights h t r) how e ≡ true
passages_beside h t r how e p = p

-- ── Statements ──

-- where a default domain is not refused, none is set
none_set : (first : Option Dom) (x : Refusal) (o : Option Refusal) → cond (is_some first) (Some x) o ≡ None → (d : Dom) → first ≡ Some d → ⊥
none_set None x o e d q = let z : ◌≡◌ {A = ℕ} 0 1 = cc in omega arith
none_set (Some y) x o e d q = let z : ◌≡◌ {A = ℕ} 0 1 = cc in omega arith

module _ (c : Composed) where
  -- longer lists, and all else as it was
  lists_extend : (types domains : List Name) (rules : List Rule) (objects : List Path) (entries : List Entry) (aparts : List Apart) → Longer c.tables.types types → Longer c.tables.domains domains → Longer c.tables.rules rules → Longer c.tables.objects objects → Longer c.tables.entries entries → Longer c.tables.aparts aparts → Extends c (tabled c (record { types = types; domains = domains; first = c.tables.first; rules = rules; objects = objects; entries = entries; holdings = c.tables.holdings; aparts = aparts }))
  lists_extend types domains rules objects entries aparts t d r o e a = record {
    types = t;
    domains = d;
    rules = r;
    objects = o;
    entries = e;
    aparts = a;
    first = λ d e. e;
    rights = λ d t l e. e;
    passages = λ d how f e. e;
    specified = λ d e. e;
  }

  type_extends : (n : Name) → Extends c (tabled c (with_type c.tables n))
  type_extends n = lists_extend _ _ _ _ _ _ (pushed _ n) (same _) (same _) (same _) (same _) (same _)

  domain_extends : (n : Name) → Extends c (tabled c (with_domain c.tables n))
  domain_extends n = lists_extend _ _ _ _ _ _ (same _) (pushed _ n) (same _) (same _) (same _) (same _)

  rule_extends : (r : Rule) → Extends c (tabled c (with_rule c.tables r))
  rule_extends r = lists_extend _ _ _ _ _ _ (same _) (same _) (pushed _ r) (same _) (same _) (same _)

  object_extends : (p : Path) → Extends c (tabled c (with_object c.tables p))
  object_extends p = lists_extend _ _ _ _ _ _ (same _) (same _) (same _) (pushed _ p) (same _) (same _)

  entry_extends : (x : Entry) → Extends c (tabled c (with_entry c.tables x))
  entry_extends x = lists_extend _ _ _ _ _ _ (same _) (same _) (same _) (same _) (pushed _ x) (same _)

  apart_extends : (a : Apart) → Extends c (tabled c (with_apart c.tables a))
  apart_extends a = lists_extend _ _ _ _ _ _ (same _) (same _) (same _) (same _) (same _) (pushed _ a)

  default_extends : (d : Dom) → refuses_default c.tables d ≡ None → Extends c (tabled c (with_default c.tables d))
  default_extends d e = record {
    types = same _;
    domains = same _;
    rules = same _;
    objects = same _;
    entries = same _;
    aparts = same _;
    first = λ x q. absurd (none_set c.tables.first _ _ e x q);
    rights = λ d t l e. e;
    passages = λ d how f e. e;
    specified = λ d e. e;
  }

  specified_extends : (d : Dom) → Extends c (specifying c d)
  specified_extends d = record {
    types = same _;
    domains = same _;
    rules = same _;
    objects = same _;
    entries = same _;
    aparts = same _;
    first = λ d e. e;
    rights = λ d t l e. e;
    passages = λ d how f e. e;
    specified = λ x e. after_write (λ b. b ≡ true) c.specified d.0 x.0 true false (λ _. refl) e;
  }

  -- a domain that holds more
  holding_extends : (d : ℕ) (h : Holding) → ((t l : ℕ) → has (rights_on (holding_of c.tables d) t) l ≡ true → has (rights_on h t) l ≡ true) → ((how : Passage) (e : ℕ) → listed (holding_of c.tables d) how e ≡ true → listed h how e ≡ true) → Extends c (tabled c (with_holding c.tables d h))
  holding_extends d h rights passages = record {
    types = same _;
    domains = same _;
    rules = same _;
    objects = same _;
    entries = same _;
    aparts = same _;
    first = λ d e. e;
    rights = λ x t l e.
        after_write (λ g. has (rights_on g t) l ≡ true) c.tables.holdings d x h _
        (λ q. rights t l (subst (λ y. has (rights_on (holding_of c.tables y) t) l ≡ true) q e))
        e;
    passages = λ x how f e.
        after_write (λ g. listed g how f ≡ true) c.tables.holdings d x h _
        (λ q. passages how f (subst (λ y. listed (holding_of c.tables y) how f ≡ true) q e))
        e;
    specified = λ d e. e;
  }

  rights_extend : (d t : ℕ) (r : Rights) → Extends c (tabled c (with_holding c.tables d (with_rights (holding_of c.tables d) t r)))
  rights_extend d t r = holding_extends d _ (letters_stay (holding_of c.tables d) t r) (passages_beside (holding_of c.tables d) t r)

  passage_extends : (d : ℕ) (how : Passage) (e : ℕ) → Extends c (tabled c (with_holding c.tables d (with_passage (holding_of c.tables d) how e)))
  passage_extends d how e = holding_extends d _ (letters_beside (holding_of c.tables d) how e) (passages_stay (holding_of c.tables d) how e)

-- ── Whole texts ──

extending_is_preserved : (before : Composed) → Preserved (Extends before)
extending_is_preserved before = record {
  type = λ c x n _. extends_further _ c _ x (type_extends c n);
  domain = λ c x n _. extends_further _ c _ x (domain_extends c n);
  default = λ c x d e. extends_further _ c _ x (default_extends c d e);
  rule = λ c x r _. extends_further _ c _ x (rule_extends c r);
  object = λ c x p _. extends_further _ c _ x (object_extends c p);
  apart = λ c x a _. extends_further _ c _ x (apart_extends c a);
  specified = λ c x d _ _. extends_further _ c _ x (specified_extends c d);
  entry = λ c x y _. extends_further _ c _ x (entry_extends c y);
  rights = λ c x d t r _. extends_further _ c _ x (rights_extend c d t r);
  passage = λ c x d how e _. extends_further _ c _ x (passage_extends c d how e);
}

pub read_extends : (c : Composed) (text : List ℕ) (after : Composed) → read c text ≡ tables after → Extends c after
read_extends c text after = read_keeps (Extends c) (extending_is_preserved c) c text after (extends_itself c)

-- ── Complete tables ──

still_some : (o p : Option Dom) → ((d : Dom) → o ≡ Some d → p ≡ Some d) → is_some o ≡ true → is_some p ≡ true
still_some None p stays e = absurd (true≢false (sym e))
still_some (Some d) p stays e = ap is_some (stays d refl)

either_some : (b : Bool) (r : Rule) (o p : Option Rule) → (is_some o ≡ true → is_some p ≡ true) → is_some (cond b (Some r) o) ≡ true → is_some (cond b (Some r) p) ≡ true
either_some true r o p later e = refl
either_some false r o p later e = later e

still_ruled : (rs more : List Rule) (f : Flag) (p : List ℕ) → is_some (rule_on rs f p) ≡ true → is_some (rule_on (rs ++ more) f p) ≡ true
unfolding rule_on
still_ruled [] more f p e = absurd (true≢false (sym e))
still_ruled (r ∷ rs) more f p e = either_some (stands_on r f p) r _ _ (still_ruled rs more f p) e

pub read_keeps_complete : (c : Composed) (text : List ℕ) (after : Composed) → read c text ≡ tables after → Complete c.tables → Complete after.tables
read_keeps_complete c text after e whole =
    let x = read_extends c text after e in
    record {
      first = still_some _ _ x.first whole.first;
      root = subst (λ rs. is_some (rule_on rs R (codes "/")) ≡ true) (sym x.rules.1) (still_ruled _ x.rules.0 R (codes "/") whole.root);
    }
