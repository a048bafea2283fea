-- What each statement adds leaves sound tables sound.
use Rattle.std.proofs.Common.{◌≡◌, ℕ, ◌<◌, ◌≤◌, Bool, true, false, cond, ◌||◌, leb, List, [], ◌∷◌, ◌++◌, length, set, is_some, Some, None, Option, sym, refl, ◌∙◌, inl, inr, ⊎_elim, arith}
use Rattle.std.proofs.ByRecursion.{All-push, All-weaker}
use Rattle.std.proofs.lemmas.List.{length_push}
use Rattle.std.proofs.lemmas.Bool.{or_parts, leb-false, ltb-true, lt-ltb}
use Rattle.std.specs.Option.{option_or}
use Rattle.label.specs.Letters.{none, union}
use Rattle.label.specs.Texts.{name_text, text}
use Rattle.label.specs.declared.name.Name.{Name}
use Rattle.label.specs.declared.numbers.Dom.{Dom}
use Rattle.label.specs.declared.path.Path.{Path}
use Rattle.label.specs.declared.refusal.Refusal.{Refusal}
use Rattle.label.specs.declared.rights.Rights.{Rights}
use Rattle.rules.proofs.Adds.{distinct_after_push, not_refused}
use Rattle.rules.specs.declared.rule.Rule.{Rule}
use Rattle.tables.proofs.Enters.{few_after_push}
use Rattle.tables.specs.Entries.{count_of}
use Rattle.tables.specs.Begins.{declared_in}
use Rattle.tables.specs.Holdings.{no_way, has_way, with_way, nothing as holds_nothing, ways_to, rights_on, listed, with_rights, with_passage}
use Rattle.tables.specs.Model.{Model, holding_of, with_type, with_domain, with_default, with_rule, with_object, with_entry, with_holding, with_apart, unless, refuses_type, refuses_domain, refuses_default, refuses_rule, refuses_object, refuses_entry, refuses_rights, refuses_passage, refuses_apart}
use Rattle.tables.specs.declared.entry.Entry.{Entry}
use Rattle.tables.specs.declared.holding.Holding.{Holding}
use Rattle.tables.specs.declared.holding.Passage.{Passage}
use Rattle.tables.specs.declared.holding.Passage.TheVariants.{Auto, Exec}
use Rattle.tables.specs.declared.table.Apart.{Apart}
use Rattle.reader.specs.Composed.{Composed, nothing, tabled, specifying}
use Rattle.reader.specs.Reading.{read, tables}
use Rattle.sound_tables.specs.Sound.{WithinLimits, Distinct, Sound, SameName, SamePath, SameEntry}
use Rattle.sound_tables.proofs.Tokens.{Preserved, read_keeps}
use Rattle.sound_tables.proofs.Places.{longer, after_write, in_copies, no_two_of_none, no_two_push, stands_nowhere, enters_nowhere}

-- ── What is not refused ──

neither_refuses : (a b : Option Refusal) → option_or a b ≡ None → (a ≡ None) × (b ≡ None)
neither_refuses None b e = (refl, e)
neither_refuses (Some x) b e = absurd (let z : ◌≡◌ {A = ℕ} 0 1 = cc in omega arith)

none_undeclared : (b : Bool) → unless b ≡ None → b ≡ false
none_undeclared true e = absurd (let z : ◌≡◌ {A = ℕ} 0 1 = cc in omega arith)
none_undeclared false e = refl

first_refuses_none : (b : Bool) (x : Refusal) (o : Option Refusal) → cond b (Some x) o ≡ None → o ≡ None
first_refuses_none true x o e = absurd (let z : ◌≡◌ {A = ℕ} 0 1 = cc in omega arith)
first_refuses_none false x o e = e

-- the number is below the count
counted : (n k : ℕ) → unless (leb n k) ≡ None → k < n
counted n k e = leb-false n k (none_undeclared (leb n k) e)

both_counted : (n k m l : ℕ) → unless (leb n k || leb m l) ≡ None → (k < n) × (l < m)
both_counted n k m l e =
    let h = or_parts (leb n k) (leb m l) (none_undeclared _ e) in
    (leb-false n k h.0, leb-false m l h.1)

one_more : {X : Type 0} (xs : List X) (x : X) (n : ℕ) → length xs < n → length (xs ++ x ∷ []) ≤ n
one_more xs x n l = omega (arith, length_push xs x)

still_declared : (o : Option Dom) (n m : ℕ) → n ≤ m → declared_in o n ≡ true → declared_in o m ≡ true
still_declared None n m l e = refl
still_declared (Some d) n m l e = let h = ltb-true d.0 n e in lt-ltb d.0 m (omega arith)

-- ── What a domain holds ──

rights_kept : (h : Holding) (how : Passage) (e t : ℕ) → rights_on (with_passage h how e) t ≡ rights_on h t
rights_kept h how e t = refl

passages_kept : (h : Holding) (t : ℕ) (r : Rights) (how : Passage) (e : ℕ) → listed (with_rights h t r) how e ≡ listed h how e
passages_kept h t r how e = refl

no_rights_beyond : (h : Holding) (t : ℕ) (r : Rights) (u : ℕ) → t < u → rights_on h u ≡ none → rights_on (with_rights h t r) u ≡ none
no_rights_beyond h t r u l e = after_write (λ x. x ≡ none) h.rights t u (union (rights_on h t) r) none (λ q. absurd (omega arith)) e

no_passage_beyond : (h : Holding) (how : Passage) (d : ℕ) (how' : Passage) (e : ℕ) → d < e → listed h how' e ≡ false → listed (with_passage h how d) how' e ≡ false
no_passage_beyond h how d how' e l n = after_write (λ w. has_way w how' ≡ false) h.passages d e (with_way (ways_to h d) how) no_way (λ q. absurd (omega arith)) n

-- ── Before any module ──

in_no_way : (how : Passage) → has_way no_way how ≡ false
in_no_way Auto = refl
in_no_way Exec = refl

no_passage : (how : Passage) (e : ℕ) → listed holds_nothing how e ≡ false
no_passage how e = in_copies (λ w. has_way w how ≡ false) 32 e no_way no_way (in_no_way how) (in_no_way how)

none_past : (how : Passage) (e : ℕ) → listed (record { rights = []; passages = [] }) how e ≡ false
none_past how e = in_no_way how

pub nothing_is_sound : Sound nothing
unfolding count_of
nothing_is_sound = record {
  limits = record { types = omega arith; domains = omega arith; rules = omega arith; objects = omega arith; aparts = omega arith; entries = λ d. omega arith };
  once = record {
    types = no_two_of_none SameName;
    domains = no_two_of_none SameName;
    objects = no_two_of_none SamePath;
    rules = refl;
    entries = no_two_of_none SameEntry;
  };
  declared = record {
    first = refl;
    rules = tt;
    aparts = tt;
    entries = tt;
    rights = λ d t _. in_copies (λ h. rights_on h t ≡ none) 32 d holds_nothing _ (in_copies (λ x. x ≡ none) 64 t none none refl refl) refl;
    passages = λ d how e _. in_copies (λ h. listed h how e ≡ false) 32 d holds_nothing _ (no_passage how e) (none_past how e);
  };
  specified = λ d _. in_copies (λ x. x ≡ false) 32 d.0 false false refl refl;
}

-- ── What a change elsewhere in the tables leaves ──

limits_elsewhere : (m : Model) (first : Option Dom) (holdings : List Holding) → WithinLimits m → WithinLimits (record { types = m.types; domains = m.domains; first = first; rules = m.rules; objects = m.objects; entries = m.entries; holdings = holdings; aparts = m.aparts })
limits_elsewhere m first holdings l = record { types = l.types; domains = l.domains; rules = l.rules; objects = l.objects; aparts = l.aparts; entries = l.entries }

once_elsewhere : (m : Model) (first : Option Dom) (holdings : List Holding) (aparts : List Apart) → Distinct m → Distinct (record { types = m.types; domains = m.domains; first = first; rules = m.rules; objects = m.objects; entries = m.entries; holdings = holdings; aparts = aparts })
once_elsewhere m first holdings aparts o = record { types = o.types; domains = o.domains; objects = o.objects; rules = o.rules; entries = o.entries }

module _ (c : Composed) (s : Sound c) where
  -- ── Declarations ──

  type_keeps_sound : (n : Name) → refuses_type c.tables n ≡ None → Sound (tabled c (with_type c.tables n))
  type_keeps_sound n e =
      let h = not_refused _ _ _ (sym e) in
      let l = longer c.tables.types n in
      record {
        limits = record {
          types = one_more _ n 64 h.1;
          domains = s.limits.domains;
          rules = s.limits.rules;
          objects = s.limits.objects;
          aparts = s.limits.aparts;
          entries = s.limits.entries;
        };
        once = record {
          types = no_two_push SameName (λ a b. sym) c.tables.types n s.once.types (stands_nowhere name_text 0 c.tables.types (name_text n) h.0);
          domains = s.once.domains;
          objects = s.once.objects;
          rules = s.once.rules;
          entries = s.once.entries;
        };
        declared = record {
          first = s.declared.first;
          rules = All-weaker _ _ (λ r k. omega arith) _ s.declared.rules;
          aparts = All-weaker _ _ (λ a k. omega arith) _ s.declared.aparts;
          entries = s.declared.entries;
          rights = λ d t k. s.declared.rights d t (⊎_elim inl (λ u. inr (omega arith)) k);
          passages = s.declared.passages;
        };
        specified = s.specified;
      }

  domain_keeps_sound : (n : Name) → refuses_domain c.tables n ≡ None → Sound (tabled c (with_domain c.tables n))
  domain_keeps_sound n e =
      let h = not_refused _ _ _ (sym e) in
      let l = longer c.tables.domains n in
      record {
        limits = record {
          types = s.limits.types;
          domains = one_more _ n 32 h.1;
          rules = s.limits.rules;
          objects = s.limits.objects;
          aparts = s.limits.aparts;
          entries = s.limits.entries;
        };
        once = record {
          types = s.once.types;
          domains = no_two_push SameName (λ a b. sym) c.tables.domains n s.once.domains (stands_nowhere name_text 0 c.tables.domains (name_text n) h.0);
          objects = s.once.objects;
          rules = s.once.rules;
          entries = s.once.entries;
        };
        declared = record {
          first = still_declared c.tables.first _ _ l s.declared.first;
          rules = s.declared.rules;
          aparts = s.declared.aparts;
          entries = All-weaker _ _ (λ x k. omega arith) _ s.declared.entries;
          rights = λ d t k. s.declared.rights d t (⊎_elim (λ u. inl (omega arith)) inr k);
          passages = λ d how f k. s.declared.passages d how f (⊎_elim (λ u. inl (omega arith)) (λ u. inr (omega arith)) k);
        };
        specified = λ d k. s.specified d (omega arith);
      }

  default_keeps_sound : (d : Dom) → refuses_default c.tables d ≡ None → Sound (tabled c (with_default c.tables d))
  default_keeps_sound d e = record {
    limits = limits_elsewhere c.tables (Some d) c.tables.holdings s.limits;
    once = once_elsewhere c.tables (Some d) c.tables.holdings c.tables.aparts s.once;
    declared = record {
      first = lt-ltb d.0 _ (counted _ d.0 (first_refuses_none (is_some c.tables.first) _ _ e));
      rules = s.declared.rules;
      aparts = s.declared.aparts;
      entries = s.declared.entries;
      rights = s.declared.rights;
      passages = s.declared.passages;
    };
    specified = s.specified;
  }

  -- ── Rules, objects and aparts ──

  rule_keeps_sound : (r : Rule) → refuses_rule c.tables r ≡ None → Sound (tabled c (with_rule c.tables r))
  rule_keeps_sound r e =
      let p = neither_refuses _ _ e in
      let h = not_refused _ _ _ (sym p.0) in
      record {
        limits = record {
          types = s.limits.types;
          domains = s.limits.domains;
          rules = one_more _ r 256 h.1;
          objects = s.limits.objects;
          aparts = s.limits.aparts;
          entries = s.limits.entries;
        };
        once = record {
          types = s.once.types;
          domains = s.once.domains;
          objects = s.once.objects;
          rules = distinct_after_push c.tables.rules _ r true refl s.once.rules h.0;
          entries = s.once.entries;
        };
        declared = record {
          first = s.declared.first;
          rules = All-push _ c.tables.rules r s.declared.rules (counted _ r.typ.0 p.1);
          aparts = s.declared.aparts;
          entries = s.declared.entries;
          rights = s.declared.rights;
          passages = s.declared.passages;
        };
        specified = s.specified;
      }

  object_keeps_sound : (p : Path) → refuses_object c.tables p ≡ None → Sound (tabled c (with_object c.tables p))
  object_keeps_sound p e =
      let h = not_refused _ _ _ (sym e) in
      record {
        limits = record {
          types = s.limits.types;
          domains = s.limits.domains;
          rules = s.limits.rules;
          objects = one_more _ p 128 h.1;
          aparts = s.limits.aparts;
          entries = s.limits.entries;
        };
        once = record {
          types = s.once.types;
          domains = s.once.domains;
          objects = no_two_push SamePath (λ a b. sym) c.tables.objects p s.once.objects (stands_nowhere text 0 c.tables.objects (text p) h.0);
          rules = s.once.rules;
          entries = s.once.entries;
        };
        declared = record {
          first = s.declared.first;
          rules = s.declared.rules;
          aparts = s.declared.aparts;
          entries = s.declared.entries;
          rights = s.declared.rights;
          passages = s.declared.passages;
        };
        specified = s.specified;
      }

  apart_keeps_sound : (a : Apart) → refuses_apart c.tables a ≡ None → Sound (tabled c (with_apart c.tables a))
  apart_keeps_sound a e =
      let p = neither_refuses _ _ e in
      let h = not_refused false _ _ (sym p.0) in
      record {
        limits = record {
          types = s.limits.types;
          domains = s.limits.domains;
          rules = s.limits.rules;
          objects = s.limits.objects;
          aparts = one_more _ a 128 h.1;
          entries = s.limits.entries;
        };
        once = once_elsewhere c.tables c.tables.first c.tables.holdings (c.tables.aparts ++ a ∷ []) s.once;
        declared = record {
          first = s.declared.first;
          rules = s.declared.rules;
          aparts = All-push _ c.tables.aparts a s.declared.aparts (both_counted _ a.from.0 _ a.to.0 p.1);
          entries = s.declared.entries;
          rights = s.declared.rights;
          passages = s.declared.passages;
        };
        specified = s.specified;
      }

  -- ── What a domain has ──

  specified_keeps_sound : (d : Dom) → d.0 < length c.tables.domains → Sound (specifying c d)
  specified_keeps_sound d l = record {
    limits = s.limits;
    once = s.once;
    declared = s.declared;
    specified = λ x k. after_write (λ b. b ≡ false) c.specified d.0 x.0 true false (λ q. absurd (omega arith)) (s.specified x k);
  }

  entry_keeps_sound : (x : Entry) → refuses_entry c.tables x ≡ None → Sound (tabled c (with_entry c.tables x))
  entry_keeps_sound x e =
      let p = neither_refuses _ _ e in
      let h = not_refused _ _ _ (sym p.1) in
      record {
        limits = record {
          types = s.limits.types;
          domains = s.limits.domains;
          rules = s.limits.rules;
          objects = s.limits.objects;
          aparts = s.limits.aparts;
          entries = few_after_push c.tables.entries _ x true refl s.limits.entries h.1;
        };
        once = record {
          types = s.once.types;
          domains = s.once.domains;
          objects = s.once.objects;
          rules = s.once.rules;
          entries = no_two_push SameEntry (λ a b k. (sym k.0, sym k.1)) c.tables.entries x s.once.entries (enters_nowhere c.tables.entries x h.0);
        };
        declared = record {
          first = s.declared.first;
          rules = s.declared.rules;
          aparts = s.declared.aparts;
          entries = All-push _ c.tables.entries x s.declared.entries (counted _ x.dom.0 p.0);
          rights = s.declared.rights;
          passages = s.declared.passages;
        };
        specified = s.specified;
      }

  -- a holding that is changed for a declared domain
  module _ (d : ℕ) (h : Holding) (l : d < length c.tables.domains) where
    holding_keeps_sound : ((t : ℕ) → length c.tables.types ≤ t → rights_on h t ≡ none) → ((how : Passage) (e : ℕ) → length c.tables.domains ≤ e → listed h how e ≡ false) → Sound (tabled c (with_holding c.tables d h))
    holding_keeps_sound rights passages = record {
      limits = limits_elsewhere c.tables c.tables.first (set c.tables.holdings d h) s.limits;
      once = once_elsewhere c.tables c.tables.first (set c.tables.holdings d h) c.tables.aparts s.once;
      declared = record {
        first = s.declared.first;
        rules = s.declared.rules;
        aparts = s.declared.aparts;
        entries = s.declared.entries;
        rights = λ e t k.
            after_write (λ x. rights_on x t ≡ none) c.tables.holdings d e h _
            (λ q. ⊎_elim (λ u. absurd (omega arith)) (rights t) k)
            (s.declared.rights e t k);
        passages = λ e how f k.
            after_write (λ x. listed x how f ≡ false) c.tables.holdings d e h _
            (λ q. ⊎_elim (λ u. absurd (omega arith)) (passages how f) k)
            (s.declared.passages e how f k);
      };
      specified = s.specified;
    }

  rights_keep_sound : (d t : ℕ) (r : Rights) → refuses_rights c.tables d t ≡ None → Sound (tabled c (with_holding c.tables d (with_rights (holding_of c.tables d) t r)))
  rights_keep_sound d t r e =
      let h = both_counted _ d _ t e in
      holding_keeps_sound d _ h.0
      (λ u k. no_rights_beyond (holding_of c.tables d) t r u (omega arith) (s.declared.rights d u (inr k)))
      (λ how f k. passages_kept (holding_of c.tables d) t r how f ∙ s.declared.passages d how f (inr k))

  passage_keeps_sound : (d : ℕ) (how : Passage) (e : ℕ) → refuses_passage c.tables d e ≡ None → Sound (tabled c (with_holding c.tables d (with_passage (holding_of c.tables d) how e)))
  passage_keeps_sound d how e q =
      let h = both_counted _ d _ e q in
      holding_keeps_sound d _ h.0
      (λ t k. rights_kept (holding_of c.tables d) how e t ∙ s.declared.rights d t (inr k))
      (λ how' f k. no_passage_beyond (holding_of c.tables d) how e how' f (omega arith) (s.declared.passages d how' f (inr k)))

-- ── Whole texts ──

sound_is_preserved : Preserved Sound
sound_is_preserved = record {
  type = type_keeps_sound;
  domain = domain_keeps_sound;
  default = default_keeps_sound;
  rule = rule_keeps_sound;
  object = object_keeps_sound;
  apart = apart_keeps_sound;
  specified = λ c s d l _. specified_keeps_sound c s d l;
  entry = entry_keeps_sound;
  rights = rights_keep_sound;
  passage = passage_keeps_sound;
}

pub read_keeps_sound : (c : Composed) (text : List ℕ) (after : Composed) → Sound c → read c text ≡ tables after → Sound after
read_keeps_sound = read_keeps Sound sound_is_preserved
