-- The nearest of a set of objects is found one by one, and a shortest chain to it is a shortest chain to the set.
use Rattle.std.proofs.Common.{◌≡◌, Bor, MatchOption, ℕ, zero, suc, cond, get_or, [], ◌∷◌, ◌<◌, ◌≤◌, Bool, true, false, leb, List, ◌++◌, length, drop, Some, None, Ok, Option, option_map, sym, refl, ap, ◌∙◌, subst, arith}
use Rattle.std.specs.Fn.{CalledAt}
use Rattle.std.specs.Iterator.Runs.{Run, AnyItem, CallKeepsClosure, NoKeyBeyond}
use Rattle.std.specs.List.{cons_option, filter_map}
use Rattle.std.specs.Ordering.{is_lt, nat_cmp}
use Rattle.std.proofs.lemmas.Map.Keys.{ge_from_not_lt}
use denote.Param.Members.{Mut}
use Rattle.std.proofs.lemmas.Bool.{eqb-true, eq-eqb, le-leb, le-ltb, cond-true}
use Rattle.machine.specs.Flow.{Chain, NoChain, Shortest, Objects as Set}
use Rattle.machine.specs.Policy.{Policy as Asked}
use Rattle.reach.specs.Distances.{distance_of}
use Rattle.reach.specs.Trails.{traced, written}
use Rattle.flow.specs.declared.spread.Near.{Near}
use Rattle.flow.specs.declared.spread.Spread.{Spread}
use Rattle.flow.specs.Nearest.{end_at, Nearer, Nearest}
use Rattle.flow.specs.Searches.{Fewest, Searched, Answered}
use Rattle.flow.specs.Spreads.{only, Held, HeldAt, SpreadOf}

-- what a filter keeps, by place
kept : {B : Type 0} (h : ℕ → Option B) (xs : List ℕ) (j : ℕ) (y : B) → j < length xs → h (get_or xs j 0) ≡ Some y → (k : ℕ) × (k < length (filter_map h xs)) × ((d : B) → get_or (filter_map h xs) k d ≡ y)
kept h [] j y l e = absurd (omega arith)
kept h (x ∷ xs) zero y l e = rw e (0, omega arith, λ d. refl)
kept {B} h (x ∷ xs) (suc j) y l e = later (h x) (kept h xs j y (omega arith) e)
  where
    later : (o : Option B) → (k : ℕ) × (k < length (filter_map h xs)) × ((d : B) → get_or (filter_map h xs) k d ≡ y) → (k : ℕ) × (k < length (cons_option o (filter_map h xs))) × ((d : B) → get_or (cons_option o (filter_map h xs)) k d ≡ y)
    later None r = r
    later (Some z) r = (suc r.0, omega (arith, r.1), r.2)

kept_from : {B : Type 0} (h : ℕ → Option B) (xs : List ℕ) (k : ℕ) (y : B) → k < length (filter_map h xs) → ((d : B) → get_or (filter_map h xs) k d ≡ y) → (j : ℕ) × (j < length xs) × (h (get_or xs j 0) ≡ Some y)
kept_from h [] k y l e = absurd (omega arith)
kept_from {B} h (x ∷ xs) k y l e = by (h x) refl k l e (λ i m q. kept_from h xs i y m q)
  where
    later : (j : ℕ) × (j < length xs) × (h (get_or xs j 0) ≡ Some y) → (j : ℕ) × (j < length (x ∷ xs)) × (h (get_or (x ∷ xs) j 0) ≡ Some y)
    later r = (suc r.0, omega (arith, r.1), r.2)

    by : (o : Option B) → h x ≡ o → (k : ℕ) → k < length (cons_option o (filter_map h xs)) → ((d : B) → get_or (cons_option o (filter_map h xs)) k d ≡ y) →
        ((i : ℕ) → i < length (filter_map h xs) → ((d : B) → get_or (filter_map h xs) i d ≡ y) → (j : ℕ) × (j < length xs) × (h (get_or xs j 0) ≡ Some y)) →
        (j : ℕ) × (j < length (x ∷ xs)) × (h (get_or (x ∷ xs) j 0) ≡ Some y)
    by None q k l e f = later (f k l e)
    by (Some z) q zero l e f = (0, omega arith, q ∙ ap Some (e z))
    by (Some z) q (suc k) l e f = later (f k (omega arith) e)

-- an element with the fewest links, or none where there is no element
abbrev pub IsLeastOf : List Near → Option Near → Type 0
IsLeastOf xs None = length xs ≡ 0
IsLeastOf xs (Some near) = ((k : ℕ) × (k < length xs) × ((d : Near) → get_or xs k d ≡ near)) × ((k : ℕ) (d : Near) → k < length xs → near.links ≤ (get_or xs k d).links)

none_is_not_some : {n : ℕ} (o : Option ℕ) → o ≡ None → o ≡ Some n → ⊥
none_is_not_some o p q = let z : ◌≡◌ {A = ℕ} 0 1 = cc in omega arith

-- what a run of `min_by_key` picks by the links
some_at : (o : Option Near) (x : Near) → option_map (λ y. y) o ≡ Some x → o ≡ Some x
some_at None x e = cc
some_at (Some y) x e = e

module _ {S F : Type 0} {steps : S → Option Near → S → Type 0} (p : Run steps) (g : Mut F (Bor Near × Unit {0}) ℕ) (f : F) (keeps : CallKeepsClosure g f)
    (key : (x : Near) (n : ℕ) (f' : F) → CalledAt g f x n f' → n ≡ x.links) where
  pub picks_least : (r : Option Near) → MatchOption r (p.len ≡ 0) (λ m. AnyItem p (λ x. x ≡ m) × NoKeyBeyond p g f is_lt nat_cmp m) → IsLeastOf p.items r
  picks_least None h = omega (arith, p.long)
  picks_least (Some m) h =
      let least = h.1 keeps in (
        (h.0.0, omega (arith, p.long, h.0.1), λ d. let e = some_at (p.at h.0.0) (get_or p.items h.0.0 d) (p.reads h.0.0 d h.0.1) in rw e at h.0.2),
        λ k d l.
            let e = some_at (p.at k) (get_or p.items k d) (p.reads k d (omega (arith, p.long))) in
            let other = rw e at (least.2 k) in
            omega (arith, ge_from_not_lt other.0 least.0 other.2, key (get_or p.items k d) other.0 f other.1, key m least.0 f least.1),
      )

module _ (distance : ℕ → Option ℕ) (To : Set) where
  end_of : (o : ℕ) (near : Near) → end_at distance To o ≡ Some near → (To o ≡ true) × (near.obj ≡ o) × (distance o ≡ Some near.links)
  end_of o near e = by (To o) (distance o) e
    where
      by : (b : Bool) (far : Option ℕ) → cond b (option_map (λ n. record { obj = o; links = n }) far) None ≡ Some near → (b ≡ true) × (near.obj ≡ o) × (far ≡ Some near.links)
      by false far e = cc
      by true None e = cc
      by true (Some n) e = (refl, cc, cc)

  end_is : (o n : ℕ) → To o ≡ true → distance o ≡ Some n → end_at distance To o ≡ Some (record { obj = o; links = n })
  end_is o n i e = rw (i, e) refl

  -- the least of the ends in a list of all objects
  module _ (xs : List ℕ) (len : length xs ≡ 128) (at : (k : ℕ) → k < 128 → get_or xs k 0 ≡ k) where
    abbrev ends : List Near
    ends = filter_map (end_at distance To) xs

    -- an object that has an end is among them
    among_ends : (o n : ℕ) → o < 128 → To o ≡ true → distance o ≡ Some n → (k : ℕ) × (k < length ends) × ((d : Near) → get_or ends k d ≡ record { obj = o; links = n })
    among_ends o n l i e = kept (end_at distance To) xs o (record { obj = o; links = n }) (omega (arith, len)) (rw (at o l) (end_is o n i e))

    none_there : length ends ≡ 0 → (o : ℕ) → o < 128 → To o ≡ true → (far : Option ℕ) → distance o ≡ far → distance o ≡ None
    none_there h o l i None e = e
    none_there h o l i (Some n) e = absurd (omega (arith, h, (among_ends o n l i e).1))

    pub least_end : (r : Option Near) → IsLeastOf ends r → Nearest distance To r
    least_end None h = λ o l i. none_there h o l i (distance o) refl
    least_end (Some near) h =
        let j = kept_from (end_at distance To) xs h.0.0 near h.0.1 h.0.2 in
        let small : j.0 < 128 = omega (arith, len, j.1) in
        let is = end_of j.0 near (rw (at j.0 small) at j.2) in
        record {
          object = omega (arith, is.1);
          in_set = rw is.1 is.0;
          far = rw is.1 is.2;
          least = λ o n l i e.
              let k = among_ends o n l i e in
              subst (λ (m : Near). near.links ≤ m.links) (k.2 near) (h.1 k.0 near k.1);
        }

-- chains to one object of a set, and to the set

module _ (P : Asked) (From To : Set) where
  pub chain_into : (o n : ℕ) → To o ≡ true → Chain P From (only o) n → Chain P From To n
  chain_into o n i c =
      record {
        from = c.from;
        to = c.to;
        from_is = c.from_is;
        to_is = c.to_is;
        from_in = c.from_in;
        to_in = ap To (eqb-true c.to o c.to_in) ∙ i;
        walk = c.walk;
      }

  pub chain_to_one : (n : ℕ) (c : Chain P From To n) → Chain P From (only c.to) n
  chain_to_one n c =
      record { from = c.from; to = c.to; from_is = c.from_is; to_is = c.to_is; from_in = c.from_in; to_in = eq-eqb c.to c.to refl; walk = c.walk }

  module _ (spread : Spread) (of : SpreadOf P From spread) where
    held : (o : ℕ) (far : Option ℕ) → o < 128 → distance_of spread.reach o ≡ far → HeldAt P From spread o far
    held o far l e = subst (HeldAt P From spread o) e (of.chains o l)

    chain_is_held : (n : ℕ) (c : Chain P From To n) (far : Option ℕ) → distance_of spread.reach c.to ≡ far → (m : ℕ) × ((far ≡ Some m) × (m ≤ n))
    chain_is_held n c None e = absurd (held c.to None (omega (arith, c.to_is, of.objects_few)) e n (chain_to_one n c))
    chain_is_held n c (Some m) e = (m, (refl, (held c.to (Some m) (omega (arith, c.to_is, of.objects_few)) e).shortest.least n (chain_to_one n c)))

    pub no_chain : Nearest (distance_of spread.reach) To None → NoChain P From To
    no_chain h n c =
        let r = chain_is_held n c (distance_of spread.reach c.to) refl in
        none_is_not_some (distance_of spread.reach c.to) (h c.to (omega (arith, c.to_is, of.objects_few)) c.to_in) r.1.0

    module _ (near : Near) (h : Nearer (distance_of spread.reach) To near) where
      pub to_nearest : Held P From spread near.obj near.links
      to_nearest = held near.obj (Some near.links) h.object h.far

      pub shortest : Shortest P From To near.links
      shortest =
          record {
            chain = chain_into near.obj near.links h.in_set to_nearest.shortest.chain;
            least = λ n c.
                let r = chain_is_held n c (distance_of spread.reach c.to) refl in
                omega (arith, r.1.1, h.least c.to r.0 (omega (arith, c.to_is, of.objects_few)) c.to_in r.1.0);
          }

      pub answered : (before after : List ℕ) (r : Option ℕ) → 160 ≤ length before → r ≡ traced spread.reach near.obj (length before) → after ≡ written spread.reach near.obj before r →
          Searched P From To before (Ok r) after
      unfolding shortest chain_into
      answered before after r room e a =
          let is : r ≡ Some near.links = e ∙ cond-true (leb 160 (length before)) (distance_of spread.reach near.obj) None (le-leb 160 (length before) room) ∙ h.far in
          subst (λ (b : Bool). Answered b P From To before (Ok r) after) (sym (le-ltb (length before) 160 room))
          (subst (λ (o : Option ℕ). Answered false P From To before (Ok o) after) (sym is)
          (record {
            shortest = shortest;
            nodes =
                a ∙ ap (written spread.reach near.obj before) is
                ∙ ap (λ (l : List ℕ). l ++ drop (suc near.links) before) (sym to_nearest.nodes);
          }))

-- the fewest links to the set are those to the nearest of it
pub fewest_links : (P : Asked) (From To : Set) (spread : Spread) → SpreadOf P From spread → (near : Option Near) → Nearest (distance_of spread.reach) To near → Fewest P From To (option_map (λ (n : Near). n.links) near)
fewest_links P From To spread of None h = no_chain P From To spread of h
fewest_links P From To spread of (Some near) h = shortest P From To spread of near h
