-- How a path comes by its type.
use Rattle.std.proofs.Common.{◌≡◌, ℕ, zero, suc, ◌<◌, ◌≤◌, Bool, true, false, cond, not, ◌&&◌, ltb, ◌⊎◌, List, [], ◌∷◌, length, get_or, take, is_some, Some, None, codes, Option, sym, refl, ap, ◌∙◌, subst, inl, inr, ⊎_elim, arith}
use mathlib.Core.Logic.{∥∥₁_elim}
use mathlib.Core.Bool.{Bool-set}
use native.Mathlib.Decide.{le_ind}
use Rattle.std.proofs.lemmas.Slice.Eq.{text_from_reads}
use Rattle.std.proofs.lemmas.Bool.{true≢false, cases_eq, cases_lt, cases_Bool, and_parts, and_from, ltb-true, lt-ltb, not-true, cond-true, cond-false, cond_both}
use Rattle.std.specs.Option.{option_or, option_map}
use Rattle.label.specs.Paths.{ancestor, IsPath}
use Rattle.label.specs.Texts.{text}
use Rattle.label.proofs.Parts.{path_starts}
use Rattle.rules.specs.declared.rule.Rule.{Rule}
use Rattle.rules.specs.declared.rule.Flag.{Flag}
use Rattle.rules.specs.declared.rule.Flag.TheVariants.{E, U, R}
use Rattle.rules.specs.Typing.{stands_on, rule_on, distinct, under, above, deciding, type_of}
use Rattle.rules.specs.Laws.{Among, Longest, Decided, Laws}
use Rattle.rules.proofs.Finds.{stands_on_its_own, stands_where_another}

abbrev IsNone : Option Rule → Type 0
IsNone None = Unit {0}
IsNone (Some x) = ⊥

none_is_not_some : {P : Type 0} {x : Rule} → None ≡ Some x → P
none_is_not_some e = absurd (subst IsNone e tt)

first_or_second : (a b : Option Rule) (x : Rule) → option_or a b ≡ Some x → (a ≡ Some x) ⊎ ((a ≡ None) × (b ≡ Some x))
first_or_second None b x e = inr (refl, e)
first_or_second (Some y) b x e = inl e

-- the ancestor of n bytes has the rule r, and no longer one below m has any
abbrev Says : List Rule → List ℕ → Rule → ℕ → Type 0
Says rs p r m =
    (n : ℕ) × ((ancestor p n ≡ true) × (under rs (take n p) ≡ Some r) × ((k : ℕ) → n < k → k < m → ancestor p k ≡ true → under rs (take k p) ≡ None))

says_more : (rs : List Rule) (p : List ℕ) (r : Rule) (m : ℕ) → Says rs p r m → (ancestor p m ≡ true → under rs (take m p) ≡ None) → Says rs p r (suc m)
says_more rs p r m s none = (
  s.0,
  (
    s.1.0,
    s.1.1,
    λ k l h a.
        ⊎_elim (λ e. ap (λ j. under rs (take j p)) e ∙ none (ap (ancestor p) (sym e) ∙ a)) (λ e. s.1.2 k l (omega (arith, e)) a) (cases_eq k m),
  ),
)

above_says : (rs : List Rule) (p : List ℕ) (r : Rule) (m : ℕ) → above rs p m ≡ Some r → Says rs p r m
unfolding above
above_says rs p r zero e = none_is_not_some e
above_says rs p r (suc m) e =
    ⊎_elim
    (λ a.
    ⊎_elim
    (λ s. (m, (a, s, λ k l h. absurd (omega arith))))
    (λ s. says_more rs p r m (above_says rs p r m s.1) (λ _. s.0))
    (first_or_second (under rs (take m p)) _ r (sym (cond-true _ _ _ a) ∙ e)))
    (λ a. says_more rs p r m (above_says rs p r m (sym (cond-false _ _ _ a) ∙ e)) (λ b. absurd (true≢false (sym b ∙ a))))
    (cases_Bool (ancestor p m))

-- an ancestor is shorter
shorter : (p : List ℕ) (n : ℕ) → ancestor p n ≡ true → n < length p
shorter p n a = ltb-true n (length p) (and_parts (ltb 0 n) (ltb n (length p)) (and_parts (ltb 0 n && ltb n (length p)) _ a).0).1

decided : (rs : List Rule) (p : List ℕ) (r : Rule) → deciding rs p ≡ Some r → Decided rs p r
unfolding deciding
decided rs p r e =
    ⊎_elim inl
    (λ h.
    inr (h.0, ⊎_elim inl (λ g. inr (g.0, longest (above_says rs p r (length p) g.1))) (first_or_second (rule_on rs R p) _ r h.1)))
    (first_or_second (rule_on rs E p) _ r e)
  where
    longest : Says rs p r (length p) → Longest rs p r
    longest s = record { long = s.0; above = s.1.0; says = s.1.1; others = λ m l a. s.1.2 m l (shorter p m a) a }

-- what the longest ancestor has is what is found above
above_from : (rs : List Rule) (p : List ℕ) (r : Rule) → Longest rs p r → above rs p (length p) ≡ Some r
unfolding above
above_from rs p r h =
    le_ind {n = suc h.long} (λ m. above rs p m ≡ Some r)
    (cond-true _ _ _ h.above ∙ ap (λ o. option_or o (above rs p h.long)) h.says)
    (λ m l q.
    ⊎_elim
    (λ a. cond-true _ _ _ a ∙ ap (λ o. option_or o (above rs p m)) (h.others m (omega arith) a) ∙ q)
    (λ a. cond-false _ _ _ a ∙ q)
    (cases_Bool (ancestor p m)))
    (length p) (let k = shorter p h.long h.above in omega arith)

decides : (rs : List Rule) (p : List ℕ) (r : Rule) → Decided rs p r → deciding rs p ≡ Some r
unfolding deciding
decides rs p r d =
    ⊎_elim
    (λ e. ap (λ o. option_or o (option_or (rule_on rs R p) (above rs p (length p)))) e)
    (λ h.
    ap (λ o. option_or o (option_or (rule_on rs R p) (above rs p (length p)))) h.0
    ∙ ⊎_elim
    (λ e. ap (λ o. option_or o (above rs p (length p))) e)
    (λ g. ap (λ o. option_or o (above rs p (length p))) g.0 ∙ above_from rs p r g.1)
    h.1)
    d

found : (rs : List Rule) (f : Flag) (p : List ℕ) (r : Rule) → rule_on rs f p ≡ Some r → Among r rs × (stands_on r f p ≡ true)
unfolding rule_on
found [] f p r e = none_is_not_some e
found (x ∷ rs) f p r e =
    ⊎_elim
    (λ h. let s = same (sym (cond-true _ _ _ h) ∙ e) in (inl s, ap (λ y. stands_on y f p) (sym s) ∙ h))
    (λ h. let g = found rs f p r (sym (cond-false _ _ _ h) ∙ e) in (inr g.0, g.1))
    (cases_Bool (stands_on x f p))
  where
    same : {a b : Rule} → Some a ≡ Some b → a ≡ b
    same q = cc

some_first : (b : Bool) (r : Rule) (o : Option Rule) → is_some o ≡ true → is_some (cond b (Some r) o) ≡ true
some_first true r o e = refl
some_first false r o e = e

finds_some : (rs : List Rule) (r : Rule) → Among r rs → is_some (rule_on rs r.flag (text r.path)) ≡ true
unfolding rule_on
finds_some [] r a = absurd a
finds_some (x ∷ rs) r a =
    ⊎_elim
    (λ e. ap is_some (cond-true _ _ _ (ap (λ z. stands_on z r.flag (text r.path)) e ∙ stands_on_its_own r)))
    (λ h. some_first (stands_on x r.flag (text r.path)) x _ (finds_some rs r h))
    a

finds : (rs : List Rule) (r : Rule) → distinct rs ≡ true → Among r rs → rule_on rs r.flag (text r.path) ≡ Some r
unfolding rule_on
finds [] r k a = absurd a
finds (x ∷ rs) r k a =
    let h = and_parts (not (is_some (rule_on rs x.flag (text x.path)))) (distinct rs) k in
    ⊎_elim
    (λ e. cond-true _ _ _ (ap (λ z. stands_on z r.flag (text r.path)) e ∙ stands_on_its_own r) ∙ ap (λ z. Some z) e)
    (λ later.
    ⊎_elim
    (λ f.
    let q = stands_where_another x r f in
    absurd (true≢false (sym (finds_some rs r later) ∙ ap (λ z. is_some (rule_on rs z (text r.path))) (sym q.0) ∙ ap (λ z. is_some (rule_on rs x.flag z)) (sym q.1) ∙ not-true _ h.0)))
    (λ f. cond-false _ _ _ f ∙ finds rs r h.1 later)
    (cases_Bool (stands_on x r.flag (text r.path))))
    a

some_left : (a b : Option Rule) → is_some a ≡ true → is_some (option_or a b) ≡ true
some_left None b e = absurd (true≢false (sym e))
some_left (Some x) b e = refl

some_right : (a b : Option Rule) → is_some b ≡ true → is_some (option_or a b) ≡ true
some_right None b e = e
some_right (Some x) b e = refl

some_mapped : (o : Option Rule) → is_some o ≡ true → is_some (option_map (λ r. r.typ) o) ≡ true
some_mapped None e = e
some_mapped (Some x) e = refl

module _ (rs : List Rule) (root : is_some (rule_on rs R (codes "/")) ≡ true) where
  above_some : (x : ℕ) (xs : List ℕ) → x ≡ 47 → 1 < length (x ∷ xs) → is_some (above rs (x ∷ xs) (length (x ∷ xs))) ≡ true
  unfolding above
  above_some x xs e l =
      le_ind {n = 2} (λ m. is_some (above rs (x ∷ xs) m) ≡ true)
      (let a : ancestor (x ∷ xs) 1 ≡ true = and_from _ _ (lt-ltb 1 (length (x ∷ xs)) l) refl in
      ap is_some (cond-true _ _ _ a)
      ∙ some_left (under rs (x ∷ [])) _
      (some_right (rule_on rs U (x ∷ [])) _ (ap (λ z. is_some (rule_on rs R (z ∷ []))) e ∙ root)))
      (λ m _ q. cond_both {A = Option Rule} (ancestor (x ∷ xs) m) _ _ (λ o. is_some o ≡ true) (λ _. some_right (under rs (take m (x ∷ xs))) _ q) (λ _. q))
      (length (x ∷ xs)) l

  slash_decided : (p : List ℕ) → 1 ≤ length p → get_or p 0 0 ≡ 47 → is_some (deciding rs p) ≡ true
  unfolding deciding
  slash_decided [] l e = absurd (omega arith)
  slash_decided (x ∷ xs) l e =
      some_right (rule_on rs E (x ∷ xs)) _
      (⊎_elim
      (λ h. some_right (rule_on rs R (x ∷ xs)) _ (above_some x xs e h))
      (λ h.
      let r : x ∷ xs ≡ codes "/" = text_from_reads (x ∷ xs) (codes "/") (omega arith) (e, tt) in
      some_left (rule_on rs R (x ∷ xs)) _ (ap (λ z. is_some (rule_on rs R z)) r ∙ root))
      (cases_lt 1 (length (x ∷ xs))))

  pub path_typed : (p : List ℕ) → ∥ IsPath p ∥₁ → is_some (type_of rs p) ≡ true
  path_typed p h = ∥∥₁_elim h (Bool-set _ _) (λ q. let s = path_starts p q in some_mapped (deciding rs p) (slash_decided p s.0 s.1))

pub laws : Laws
laws = record { found = found; finds = finds; decided = λ rs p r. (decided rs p r, decides rs p r); typed = λ rs p root h. path_typed rs root p h }
