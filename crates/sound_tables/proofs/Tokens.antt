-- Token by token, what every statement keeps is kept by a whole text.
use Rattle.std.proofs.Common.{◌≡◌, ℕ, ◌<◌, Bool, true, false, cond, leb, List, [], ◌∷◌, map, length, is_some, IfOk, Some, None, Ok, Err, codes, Option, Result, sym, refl, subst}
use Rattle.std.proofs.lemmas.Bool.{cond_both}
use Rattle.label.specs.Tests.{is_name}
use Rattle.label.specs.Texts.{name_text}
use Rattle.label.specs.declared.name.Name.{Name}
use Rattle.label.specs.declared.numbers.Dom.{Dom}
use Rattle.label.specs.declared.numbers.Typ.{Typ}
use Rattle.label.specs.declared.path.Path.{Path}
use Rattle.label.specs.declared.refusal.Refusal.{Refusal}
use Rattle.label.specs.declared.rights.Rights.{Rights}
use Rattle.lists.specs.Places.{place_of}
use Rattle.rules.specs.declared.rule.Flag.{Flag}
use Rattle.rules.specs.declared.rule.Rule.{Rule}
use Rattle.scan.specs.Lex.{tokens_of}
use Rattle.scan.specs.Tokens.{Piece, Said}
use Rattle.scan.specs.Tokens.Piece.{at}
use Rattle.scan.specs.Tokens.Said.{word, sign}
use Rattle.tables.specs.Holdings.{with_rights, with_passage}
use Rattle.tables.specs.Model.{Model, holding_of, with_type, with_domain, with_default, with_rule, with_object, with_entry, with_holding, with_apart, refuses_type, refuses_domain, refuses_default, refuses_rule, refuses_object, refuses_entry, refuses_rights, refuses_passage, refuses_apart}
use Rattle.tables.specs.declared.entry.Entry.{Entry}
use Rattle.tables.specs.declared.holding.Passage.{Passage}
use Rattle.tables.specs.declared.table.Apart.{Apart}
use Rattle.words.specs.Arrows.{split_arrow}
use Rattle.words.specs.Flags.{flag_of}
use Rattle.words.specs.Keywords.{keyword_of}
use Rattle.words.specs.Letters.{letters_of}
use Rattle.words.specs.Passages.{passage_of}
use Rattle.words.specs.declared.keyword.Keyword.{Keyword}
use Rattle.words.specs.declared.keyword.Keyword.TheVariants as keyword
use Rattle.reader.specs.Composed.{Composed, tabled, is_specified, specifying}
use Rattle.reader.specs.Reading.{Outcome, reading, read, tables, fault}
use Rattle.reader.specs.Statements.{Next, then, or_refuse, unless, declared, domain_named, type_named, new_name, a_path, declare, name_word, set_default, begin_rule, end_rule, add_object, begin_apart, end_apart, specify, add_entry, add_rights, add_passage, member, begin, on_word, on_mark, on_token}
use Rattle.reader.specs.declared.position.Group.{Group}
use Rattle.reader.specs.declared.position.Group.TheVariants as group
use Rattle.reader.specs.declared.position.Position.{Position}
use Rattle.reader.specs.declared.position.Position.TheVariants.{Start, Name as FirstName, MoreNames, DefaultDomain, Specified, Widened, Open, Within, RuleFlag, RulePath, RuleType, ObjectPath, ApartFrom, ApartTo, LineEnd}
use Rattle.reader.specs.declared.position.Sort.{Sort}
use Rattle.reader.specs.declared.position.Sort.TheVariants as sort
use Rattle.reader.specs.declared.reason.Reason.{Reason}
use Rattle.reader.specs.declared.reason.Reason.TheVariants.{Misfit, Misshapen, Repeated, Undeclared, Full, Letters}
use Rattle.reader.proofs.Taking.{reading_goes, reading_stops, reading_ends}
use Rattle.sound_tables.proofs.Places.{place_below}

-- Every statement keeps the invariant. What it adds is not refused by the tables; a spec_domain is of a declared domain that had none.
pub record Preserved (Inv : Composed → Type 0) : Type 0 where
  pub type : (c : Composed) → Inv c → (n : Name) → refuses_type c.tables n ≡ None → Inv (tabled c (with_type c.tables n))
  pub domain : (c : Composed) → Inv c → (n : Name) → refuses_domain c.tables n ≡ None → Inv (tabled c (with_domain c.tables n))
  pub default : (c : Composed) → Inv c → (d : Dom) → refuses_default c.tables d ≡ None → Inv (tabled c (with_default c.tables d))
  pub rule : (c : Composed) → Inv c → (r : Rule) → refuses_rule c.tables r ≡ None → Inv (tabled c (with_rule c.tables r))
  pub object : (c : Composed) → Inv c → (p : Path) → refuses_object c.tables p ≡ None → Inv (tabled c (with_object c.tables p))
  pub apart : (c : Composed) → Inv c → (a : Apart) → refuses_apart c.tables a ≡ None → Inv (tabled c (with_apart c.tables a))
  pub specified : (c : Composed) → Inv c → (d : Dom) → d.0 < length c.tables.domains → is_specified c d ≡ false → Inv (specifying c d)
  pub entry : (c : Composed) → Inv c → (x : Entry) → refuses_entry c.tables x ≡ None → Inv (tabled c (with_entry c.tables x))
  pub rights : (c : Composed) → Inv c → (d t : ℕ) (r : Rights) → refuses_rights c.tables d t ≡ None → Inv (tabled c (with_holding c.tables d (with_rights (holding_of c.tables d) t r)))
  pub passage : (c : Composed) → Inv c → (d : ℕ) (how : Passage) (e : ℕ) → refuses_passage c.tables d e ≡ None → Inv (tabled c (with_holding c.tables d (with_passage (holding_of c.tables d) how e)))

-- a domain that is named is declared
declared_below : (names : List Name) (w : List ℕ) → IfOk (declared names w) (λ k. k < length names)
declared_below names w = by (is_name w) (place_of (map name_text names) w) refl
  where
    by : (b : Bool) (o : Option ℕ) → place_of (map name_text names) w ≡ o → IfOk (cond b (or_refuse Undeclared o) (Err Misshapen)) (λ k. k < length names)
    by true None e = tt
    by true (Some k) e = place_below name_text names w k e
    by false o e = tt

named_declared : (c : Composed) (w : List ℕ) → IfOk (domain_named c w) (λ d. d.0 < length c.tables.domains)
named_declared c w = by (declared c.tables.domains w) (declared_below c.tables.domains w)
  where
    by : (x : Result ℕ Reason) → IfOk x (λ k. k < length c.tables.domains) → IfOk (then {B = Dom} x (λ d. Ok (record { 0 = d }))) (λ d. d.0 < length c.tables.domains)
    by (Ok k) h = h
    by (Err e) h = tt

module _ (Inv : Composed → Type 0) (kept : Preserved Inv) where
  -- where the token is not refused, the invariant holds
  abbrev Keeps : Next → Type 0
  Keeps next = IfOk next (λ n. Inv n.0)

  then_knowing : {A : Type 0} (P : A → Type 0) (x : Result A Reason) (k : A → Next) → IfOk x P → ((a : A) → P a → Keeps (k a)) → Keeps (then x k)
  then_knowing P (Ok a) k h f = f a h
  then_knowing P (Err e) k h f = tt

  then_keeps : {A : Type 0} (x : Result A Reason) (k : A → Next) → ((a : A) → Keeps (k a)) → Keeps (then x k)
  then_keeps (Ok a) k f = f a
  then_keeps (Err e) k f = tt

  unless_keeps : (o : Option Refusal) (c : Composed) (added : Model) (next : Position) → (o ≡ None → Inv (tabled c added)) → Keeps (unless o c added next)
  unless_keeps None c added next f = f refl
  unless_keeps (Some e) c added next f = tt

  module _ (c : Composed) (s : Inv c) where
    -- ── Statements ──

    declare_keeps : (sort : Sort) (n : Name) → Keeps (declare c sort n)
    declare_keeps sort.Types n = unless_keeps _ c _ _ (kept.type c s n)
    declare_keeps sort.Domains n = unless_keeps _ c _ _ (kept.domain c s n)

    default_keeps : (d : Dom) → Keeps (set_default c d)
    default_keeps d = unless_keeps _ c _ LineEnd (kept.default c s d)

    rule_begins : (f : Flag) (p : Path) → Keeps (begin_rule c f p)
    rule_begins f p = unless_keeps _ c c.tables (RuleType f p) (λ _. s)

    rule_keeps : (f : Flag) (p : Path) (t : Typ) → Keeps (end_rule c f p t)
    rule_keeps f p t = unless_keeps _ c _ LineEnd (kept.rule c s (record { flag = f; path = p; typ = t }))

    object_keeps : (p : Path) → Keeps (add_object c p)
    object_keeps p = unless_keeps _ c _ LineEnd (kept.object c s p)

    apart_begins : Keeps (begin_apart c)
    apart_begins = cond_both (leb 128 (length c.tables.aparts)) (Err Full) (Ok (c, ApartFrom)) Keeps (λ _. tt) (λ _. s)

    apart_keeps : (t u : Typ) → Keeps (end_apart c t u)
    apart_keeps t u = unless_keeps _ c _ LineEnd (kept.apart c s (record { from = t; to = u }))

    specify_keeps : (d : Dom) → d.0 < length c.tables.domains → Keeps (specify c d)
    specify_keeps d l = cond_both (is_specified c d) (Err Repeated) (Ok (specifying c d, Open group.Entries d)) Keeps (λ _. tt) (kept.specified c s d l)

    entry_keeps : (d : Dom) (p : Path) → Keeps (add_entry c d p)
    entry_keeps d p = unless_keeps _ c _ (Within group.Entries d) (kept.entry c s (record { dom = d; path = p }))

    rights_keep : (d : Dom) (t : Typ) (r : Rights) → Keeps (add_rights c d t r)
    rights_keep d t r = unless_keeps _ c _ (Within group.Rights d) (kept.rights c s d.0 t.0 r)

    passage_keeps : (d : Dom) (how : Passage) (e : Dom) → Keeps (add_passage c d how e)
    passage_keeps d how e = unless_keeps _ c _ (Within group.Passages d) (kept.passage c s d.0 how e.0)

    -- ── Words ──

    name_keeps : (sort : Sort) (w : List ℕ) → Keeps (name_word c sort w)
    name_keeps sort w = then_keeps (new_name w) (declare c sort) (declare_keeps sort)

    member_keeps : (g : Group) (d : Dom) (w : List ℕ) → Keeps (member c g d w)
    member_keeps group.Entries d w = then_keeps (a_path w) (add_entry c d) (entry_keeps d)
    member_keeps group.Rights d w =
        then_keeps (or_refuse Misfit (split_arrow w)) _ (λ x.
        then_keeps (type_named c x.1) _ (λ t.
        then_keeps (or_refuse Letters (letters_of x.0)) (add_rights c d t) (rights_keep d t)))
    member_keeps group.Passages d w =
        then_keeps (or_refuse Misfit (split_arrow w)) _ (λ x.
        then_keeps (or_refuse Misfit (passage_of x.0)) _ (λ how.
        then_keeps (domain_named c x.1) (add_passage c d how) (passage_keeps d how)))
    member_keeps group.Signals d w = tt

    begin_keeps : (k : Keyword) → Keeps (begin c k)
    begin_keeps keyword.Types = s
    begin_keeps keyword.Domains = s
    begin_keeps keyword.DefaultDomain = cond_both (is_some c.tables.first) (Err Repeated) (Ok (c, DefaultDomain)) Keeps (λ _. tt) (λ _. s)
    begin_keeps (keyword.DefaultType f) = then_keeps (a_path (codes "/")) (begin_rule c f) (rule_begins f)
    begin_keeps keyword.SpecDomain = s
    begin_keeps keyword.WidenDomain = s
    begin_keeps keyword.Assign = s
    begin_keeps keyword.Object = s
    begin_keeps keyword.Apart = apart_begins

    word_keeps : (p : Position) (w : List ℕ) → Keeps (on_word c p w)
    word_keeps Start w = then_keeps (or_refuse Misfit (keyword_of w)) (begin c) begin_keeps
    word_keeps (FirstName sort) w = name_keeps sort w
    word_keeps (MoreNames sort) w = name_keeps sort w
    word_keeps DefaultDomain w = then_keeps (domain_named c w) (set_default c) default_keeps
    word_keeps Specified w = then_knowing _ (domain_named c w) (specify c) (named_declared c w) specify_keeps
    word_keeps Widened w = then_keeps (domain_named c w) (λ d. Ok (c, Open group.Entries d)) (λ d. s)
    word_keeps (Open g d) w = tt
    word_keeps (Within g d) w = member_keeps g d w
    word_keeps RuleFlag w = then_keeps (or_refuse Misfit (flag_of w)) (λ f. Ok (c, RulePath f)) (λ f. s)
    word_keeps (RulePath f) w = then_keeps (a_path w) (begin_rule c f) (rule_begins f)
    word_keeps (RuleType f p) w = then_keeps (type_named c w) (end_rule c f p) (rule_keeps f p)
    word_keeps ObjectPath w = then_keeps (a_path w) (add_object c) object_keeps
    word_keeps ApartFrom w = then_keeps (type_named c w) (λ t. Ok (c, ApartTo t)) (λ t. s)
    word_keeps (ApartTo t) w = then_keeps (type_named c w) (end_apart c t) (apart_keeps t)
    word_keeps LineEnd w = tt

    token_keeps : (p : Position) (said : Said) → Keeps (on_token c p said)
    token_keeps p (word w) = word_keeps p w
    token_keeps p (sign k) = then_keeps (on_mark p k) (λ next. Ok (c, next)) (λ next. s)

  abbrev IfRead : Outcome → Type 0
  IfRead (tables c) = Inv c
  IfRead (fault e place) = Unit {0}

  reading_keeps : (c : Composed) (p : Position) (ts : List Piece) → Inv c → IfRead (reading c p ts)
  reading_keeps c p [] s = subst IfRead (sym (reading_ends c p)) s
  reading_keeps c p (at place said ∷ ts) s = by (on_token c p said) refl (token_keeps c s p said) (λ next. reading_keeps next.0 next.1 ts)
    where
      by : (o : Next) → on_token c p said ≡ o → Keeps o → ((next : Composed × Position) → Inv next.0 → IfRead (reading next.0 next.1 ts)) → IfRead (reading c p (at place said ∷ ts))
      by (Ok next) e k later = subst IfRead (sym (reading_goes c p place said ts next e)) (later next k)
      by (Err r) e k later = subst IfRead (sym (reading_stops c p place said ts r e)) tt

  pub read_keeps : (c : Composed) (text : List ℕ) (after : Composed) → Inv c → read c text ≡ tables after → Inv after
  read_keeps c text after s e = subst IfRead e (reading_keeps c Start (tokens_of text) s)
