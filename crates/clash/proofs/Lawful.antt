-- The lowest clash is what the laws say.
use Rattle.std.proofs.lemmas.Option.{none-some}
use Rattle.std.proofs.Common.{◌≡◌, ℕ, ◌<◌, ◌≤◌, true, false, ◌&&◌, eqb, ltb, List, [], ◌∷◌, length, is_some, Some, None, Option, unwrap_or, sym, refl, ap, ◌∙◌, inl, inr, ⊎_elim, arith}
use Rattle.std.specs.Option.{option_map}
use Rattle.std.specs.Str.{bytes_eq}
use Rattle.std.proofs.lemmas.Slice.Eq.{bytes_eq-Decides}
use Rattle.std.proofs.lemmas.Bool.{true≢false, and_parts, and_from, or_cases, or_left, or_right, cases_Bool, cases_order, cases_lt, lt-ltb, ltb-true, cond-true}
use Rattle.label.specs.Texts.{text}
use Rattle.label.specs.declared.numbers.Dom.{Dom}
use Rattle.tables.specs.Entries.{is_for, enters}
use Rattle.tables.specs.Holdings.{listed}
use Rattle.tables.specs.Model.{Model, holding_of}
use Rattle.tables.specs.declared.entry.Entry.{Entry}
use Rattle.tables.specs.declared.holding.Passage.TheVariants.{Auto}
use Rattle.policy.specs.Grants.{path_of}
use Rattle.policy.specs.Lowest.{lowest}
use Rattle.policy.specs.LowestLaws.{none_passes, none-lowest, is_lowest}
use Rattle.policy.specs.PassageLaws.{pass_parts, pass_from, pass_to}
use Rattle.policy.specs.Passages.{leads, runs, pass, target, auto}
use Rattle.clash.specs.Clashes.{shared_by, shares, clashing, second, first, clashed, pair_from, pair_of, clash}
use Rattle.clash.specs.Laws.{Clash, Clear, LowestClash, Laws}
use Rattle.clash.proofs.Searches.{no_pair_no_first}

shared_path : (xs ys : List Entry) (e f : ℕ) → shared_by xs ys e f ≡ true → (p : List ℕ) × ((enters xs e p ≡ true) × (enters ys f p ≡ true))
shared_path [] ys e f h = absurd (true≢false (sym h))
shared_path (x ∷ xs) ys e f h =
    ⊎_elim
    (λ here.
    let q = and_parts (eqb x.dom.0 e) (enters ys f (text x.path)) here in
    (text x.path, (or_left _ _ (and_from _ _ q.0 ((bytes_eq-Decides (text x.path) (text x.path)).1 refl)), q.1)))
    (λ later. let r = shared_path xs ys e f later in (r.0, (or_right (is_for x e r.0) _ r.1.0, r.1.1)))
    (or_cases (eqb x.dom.0 e && enters ys f (text x.path)) (shared_by xs ys e f) h)

path_shared : (xs ys : List Entry) (e f : ℕ) (p : List ℕ) → enters xs e p ≡ true → enters ys f p ≡ true → shared_by xs ys e f ≡ true
path_shared [] ys e f p h g = absurd (true≢false (sym h))
path_shared (x ∷ xs) ys e f p h g =
    ⊎_elim
    (λ here.
    let q = and_parts (eqb x.dom.0 e) (bytes_eq (text x.path) p) here in
    or_left _ _ (and_from _ _ q.0 (ap (enters ys f) ((bytes_eq-Decides (text x.path) p).0 q.1) ∙ g)))
    (λ later. or_right (eqb x.dom.0 e && enters ys f (text x.path)) _ (path_shared xs ys e f p later g))
    (or_cases (is_for x e p) (enters xs e p) h)

none_from : {X : Type 0} (o : Option X) → is_some o ≡ false → o ≡ None
none_from None h = refl
none_from (Some x) h = absurd (true≢false h)

module _ (m : Model) (d : ℕ) where
  clash_is : (e f : ℕ) → clashing m d e f ≡ true → Clash m d e f
  clash_is e f h =
      let p = and_parts (shares m.entries e f) _ h in
      let q = and_parts (listed (holding_of m d) Auto e) (listed (holding_of m d) Auto f) p.1 in
      let s = shared_path m.entries m.entries e f p.0 in
      record { path = s.0; to_first = and_from _ _ q.0 s.1.0; to_second = and_from _ _ q.1 s.1.1 }

  is_clash : (e f : ℕ) → Clash m d e f → clashing m d e f ≡ true
  is_clash e f c =
      let p = and_parts (listed (holding_of m d) Auto e) (enters m.entries e c.path) c.to_first in
      let q = and_parts (listed (holding_of m d) Auto f) (enters m.entries f c.path) c.to_second in
      and_from _ _ (path_shared m.entries m.entries e f c.path p.1 q.1) (and_from _ _ p.0 q.0)

  clash_turned : (e f : ℕ) → Clash m d e f → Clash m d f e
  clash_turned e f c = record { path = c.path; to_first = c.to_second; to_second = c.to_first }

  no_second : (e : ℕ) → is_some (second m d e) ≡ false → (f : ℕ) → e < f → f < length m.domains → Clash m d e f → ⊥
  no_second e h f l lf c =
      true≢false
      (sym (and_from _ _ (lt-ltb e f l) (is_clash e f c))
      ∙ none_passes (λ k. ltb e k && clashing m d e k) (length m.domains) (none_from (second m d e) h) f lf)

  no_first_no_pair : is_some (first m d) ≡ false → (e f : ℕ) → e < f → f < length m.domains → Clash m d e f → ⊥
  no_first_no_pair h e f l lf =
      no_second e (none_passes (λ k. is_some (second m d k)) (length m.domains) (none_from (first m d) h) e (omega arith)) f l lf

  no_first_clear : is_some (first m d) ≡ false → Clear m d
  no_first_clear h e f le lf c =
      ⊎_elim (λ same. same)
      (λ apart. absurd (⊎_elim (λ l. no_first_no_pair h e f l lf c) (λ l. no_first_no_pair h f e l le (clash_turned e f c)) apart))
      (cases_order e f)

  clear_no_first : Clear m d → is_some (first m d) ≡ false
  clear_no_first clear =
      ap is_some
      (none-lowest (λ k. is_some (second m d k)) (length m.domains)
      (λ e le. ap is_some (none-lowest (λ k. ltb e k && clashing m d e k) (length m.domains) (λ f lf. alone e f le lf))))
    where
      alone : (e f : ℕ) → e < length m.domains → f < length m.domains → (ltb e f && clashing m d e f) ≡ false
      alone e f le lf =
          ⊎_elim
          (λ t.
          let q = and_parts (ltb e f) (clashing m d e f) t in
          absurd (omega (arith, ltb-true e f q.0, clear e f le lf (clash_is e f q.1))))
          (λ t. t)
          (cases_Bool (ltb e f && clashing m d e f))

module _ (m : Model) where
  none-clashed : (o : Option ℕ) → clashed m ≡ o → pair_of m o ≡ None → o ≡ None
  none-clashed None is h = refl
  none-clashed (Some d) is h =
      absurd (true≢false (sym (is_lowest (λ k. is_some (first m k)) (length m.domains) d is).passes ∙ no_pair_no_first m d (sym h)))

  none_clear : clash m ≡ None → (d : ℕ) → d < length m.domains → Clear m d
  none_clear h d l = no_first_clear m d (none_passes (λ k. is_some (first m k)) (length m.domains) (none-clashed (clashed m) refl h) d l)

  clear_none : ((d : ℕ) → d < length m.domains → Clear m d) → clash m ≡ None
  clear_none clear = ap (pair_of m) (none-lowest (λ k. is_some (first m k)) (length m.domains) (λ d l. clear_no_first m d (clear d l)))

  -- the pair that is named is the first target and the second of the lowest domain
  record Named (e f : ℕ) : Type 0 where
    dom : ℕ
    dom_is : clashed m ≡ Some dom
    first_is : first m dom ≡ Some e
    second_is : second m dom e ≡ Some f

  abbrev lower : Option (Dom × Dom) → ℕ
  lower o = unwrap_or (option_map (λ t. t.0.0) o) 0

  abbrev higher : Option (Dom × Dom) → ℕ
  higher o = unwrap_or (option_map (λ t. t.1.0) o) 0

  by_second : (d x : ℕ) (e f : Dom) (o : Option ℕ) → clashed m ≡ Some d → first m d ≡ Some x → second m d x ≡ o → option_map {U = Dom × Dom} (λ k. (record { 0 = x }, record { 0 = k })) o ≡ Some (e, f) → Named e.0 f.0
  by_second d x e f None is-d is-e is h = absurd (none-some _ h)
  by_second d x e f (Some y) is-d is-e is h =
      let ex : x ≡ e.0 = ap lower h in
      let fy : y ≡ f.0 = ap higher h in
      record { dom = d; dom_is = is-d; first_is = is-e ∙ ap Some ex; second_is = ap (second m d) (sym ex) ∙ is ∙ ap Some fy }

  by_first : (d : ℕ) (e f : Dom) (o : Option ℕ) → clashed m ≡ Some d → first m d ≡ o → pair_from m d o ≡ Some (e, f) → Named e.0 f.0
  by_first d e f None is-d is h = absurd (none-some _ h)
  by_first d e f (Some x) is-d is h = by_second d x e f (second m d x) is-d is refl h

  by_domain : (e f : Dom) (o : Option ℕ) → clashed m ≡ o → pair_of m o ≡ Some (e, f) → Named e.0 f.0
  by_domain e f None is h = absurd (none-some _ h)
  by_domain e f (Some d) is h = by_first d e f (first m d) is refl h

  named_lowest : (e f : ℕ) → Named e f → LowestClash m e f
  named_lowest e f n =
      let d = n.dom in
      let D = is_lowest (λ k. is_some (first m k)) (length m.domains) d n.dom_is in
      let E = is_lowest (λ k. is_some (second m d k)) (length m.domains) e n.first_is in
      let F = is_lowest (λ k. ltb e k && clashing m d e k) (length m.domains) f n.second_is in
      let both = and_parts (ltb e f) (clashing m d e f) F.passes in
      record {
        dom = d;
        declared = D.below;
        clashes = clash_is m d e f both.1;
        ordered = ltb-true e f both.0;
        within = F.below;
        no_lower_domain = λ k l. no_first_clear m k (D.others k l);
        no_lower_pair = λ x y l ly c.
            ⊎_elim
            (λ (same : e ≡ x).
            inr (
              same,
              ⊎_elim
                  (λ (less : y < f).
                  absurd
                  (true≢false
                  (sym (and_from (ltb e y) _ (lt-ltb e y (omega (arith, same, l))) (ap (λ k. clashing m d k y) same ∙ is_clash m d x y c))
                  ∙ F.others y less)))
                  (λ (more : f ≤ y). more)
                  (cases_lt y f),
            ))
            (⊎_elim (λ (above : e < x). inl above) (λ (below : x < e). absurd (no_second m d x (E.others x below) y l ly c)))
            (cases_order e x);
      }

only_target : (m : Model) (d e : ℕ) (p : List ℕ) (o : Option ℕ) → Clear m d → e < length m.domains → leads m d p e ≡ true → lowest (leads m d p) (length m.domains) ≡ o → option_map (λ x. x.0) (option_map {U = Dom} (λ k. record { 0 = k }) o) ≡ Some e
only_target m d e p None clear le h is = absurd (true≢false (sym h ∙ none_passes (leads m d p) (length m.domains) is e le))
only_target m d e p (Some k) clear le h is =
    let K = is_lowest (leads m d p) (length m.domains) k is in
    ap Some (clear k e K.below le (record { path = p; to_first = K.passes; to_second = h }))

auto_taken : (m : Model) (d o e : ℕ) → clash m ≡ None → pass m d o e ≡ true → leads m d (path_of m o) e ≡ true → option_map (λ x. x.0) (auto m d o) ≡ Some e
unfolding auto
auto_taken m d o e none h l =
    ap (option_map (λ x. x.0)) (cond-true (runs m d o) (target m d (path_of m o)) None (pass_parts m d o e h).0)
    ∙ only_target m d e (path_of m o) _ (none_clear m none d (pass_from m d o e h)) (pass_to m d o e h) l refl

pub laws : Laws
laws = record {
  none = λ m. (none_clear m, clear_none m);
  some = λ m e f h. named_lowest m e.0 f.0 (by_domain m e f (clashed m) refl h);
  auto_taken = auto_taken;
}
