-- The search for the lowest clash, domain by domain and target by target.
use Rattle.std.proofs.Common.{◌≡◌, ℕ, ◌+◌, ◌<◌, Bool, true, false, length, is_some, Some, None, Option, MatchOption, IsSomeAnd, IfSome, sym, refl, ap, ◌∙◌, subst, zero-add, arith}
use Rattle.std.specs.Option.{option_map}
use Rattle.std.proofs.lemmas.Iterator.Adapters.{option_map_id}
use Rattle.std.specs.Fn.{Called}
use Rattle.std.specs.Iterator.Runs.{Run, ItemsCountUp, CallKeepsClosure, AllItemsGive, IsFirstToGive}
use denote.Param.Members.{Mut}
use Rattle.label.specs.declared.numbers.Dom.{Dom}
use Rattle.tables.specs.Model.{Model}
use Rattle.policy.specs.Lowest.{lowest}
use Rattle.policy.specs.LowestLaws.{none-lowest, is_lowest}
use Rattle.policy.proofs.Lowest.{lowest_here}
use Rattle.clash.specs.Clashes.{second, first, pair_from, pair, pair_of, clash}

module _ {B : Type 0} (t : ℕ → Option B) where
  -- what t gives at the lowest number at which it gives something
  abbrev pub at_lowest : Option ℕ → Option B
  at_lowest None = None
  at_lowest (Some i) = t i

  module _ {S F : Type 0} {steps : S → Option ℕ → S → Type 0} {g : Mut F (ℕ × Unit {0}) (Option B)} (p : Run steps) (f : F) (n : ℕ) (up : ItemsCountUp p 0 n) (keeps : CallKeepsClosure g f) (gives : (x : ℕ) (y : Option B) → Called g f (x, tt) y f → y ≡ t x) where
    at : (k : ℕ) → k < p.len → p.at k ≡ Some k
    at k l = sym (option_map_id (p.at k)) ∙ up.3 k l ∙ ap Some (zero-add k)

    nothing : (k : ℕ) → None ≡ t k → is_some (t k) ≡ false
    nothing k h = sym (ap is_some h)

    -- what `find_map` finds over a range is what the closure gives at the lowest number at which it gives something
    pub first_found : (r : Option B) → MatchOption r ((p.whole ≡ true) × AllItemsGive p g f None) (λ y. (i : ℕ) × (i < p.len) × (p.len ≡ i + 1) × IsFirstToGive p g f (Some y) None i) → r ≡ at_lowest (lowest (λ k. is_some (t k)) n)
    first_found None h =
        ap at_lowest (sym (none-lowest (λ k. is_some (t k)) n
        (λ k l. nothing k (gives k None (subst (λ o. IfSome o (λ x. Called g f (x, tt) None f)) (at k (omega (arith, l, up.1 h.0))) (h.1 keeps k))))))
    first_found (Some y) h =
        let i = h.0 in
        let first = h.3 keeps in
        let found : Some y ≡ t i = gives i (Some y) (subst (λ o. IsSomeAnd o (λ x. Called g f (x, tt) (Some y) f)) (at i h.1) first.0) in
        found
        ∙ ap at_lowest (lowest_here (λ k. is_some (t k)) i n (omega (arith, h.2, up.0))
        (none-lowest (λ k. is_some (t k)) i (λ k l. nothing k (gives k None (subst (λ o. IsSomeAnd o (λ x. Called g f (x, tt) None f)) (at k (omega (arith, l, h.1))) (first.1 k l)))))
        (sym (ap is_some found)))

some_map : {X Y : Type 0} (g : X → Y) (o : Option X) → is_some (option_map g o) ≡ is_some o
some_map g None = refl
some_map g (Some x) = refl

module _ (m : Model) (d : ℕ) where
  abbrev pub pair_at : ℕ → Option (Dom × Dom)
  pair_at e = option_map (λ f. (record { 0 = e }, record { 0 = f })) (second m d e)

  pub pair_is : at_lowest pair_at (lowest (λ e. is_some (pair_at e)) (length m.domains)) ≡ pair m d
  pair_is = ap (λ (f : ℕ → Bool). at_lowest pair_at (lowest f (length m.domains))) (λ i e. some_map {Y = Dom × Dom} (λ f. (record { 0 = e }, record { 0 = f })) (second m d e) i) ∙ by (first m d)
    where
      by : (o : Option ℕ) → at_lowest pair_at o ≡ pair_from m d o
      by None = refl
      by (Some e) = refl

  some_pair : (o : Option ℕ) → first m d ≡ o → is_some (pair_from m d o) ≡ is_some o
  some_pair None h = refl
  some_pair (Some e) h = some_map {Y = Dom × Dom} (λ f. (record { 0 = e }, record { 0 = f })) (second m d e) ∙ (is_lowest (λ k. is_some (second m d k)) (length m.domains) e h).passes

  pub no_pair_no_first : None ≡ pair m d → is_some (first m d) ≡ false
  no_pair_no_first h = sym (some_pair (first m d) refl) ∙ ap is_some (sym h)

pub clash_is : (m : Model) → at_lowest (pair m) (lowest (λ d. is_some (pair m d)) (length m.domains)) ≡ clash m
clash_is m = ap (λ (f : ℕ → Bool). at_lowest (pair m) (lowest f (length m.domains))) (λ i d. some_pair m d (first m d) refl i) ∙ by (lowest (λ d. is_some (first m d)) (length m.domains))
  where
    by : (o : Option ℕ) → at_lowest (pair m) o ≡ pair_of m o
    by None = refl
    by (Some d) = refl
