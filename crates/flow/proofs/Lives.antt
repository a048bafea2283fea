-- What a search along the passages finds from the default domain are the live domains.
use Rattle.std.proofs.Common.{◌≡◌, ℕ, suc, ◌+◌, ◌<◌, ◌≤◌, Bool, true, false, get_or, set, replicate, is_some, Some, None, Option, sym, refl, ap, ◌∙◌, subst, arith}
use Rattle.std.proofs.lemmas.Bool.{true≢false}
use Rattle.machine.specs.Flow.{Live, live_first, live_pass, Node, obj, dom, number}
use Rattle.machine.specs.Policy.{Policy as Asked}
use Rattle.reach.specs.Walks.{Walk, here, on, Found, walk_is_found}
use Rattle.flow.specs.declared.chart.Links.{Links}
use Rattle.flow.specs.Nodes.{Numbered}
use Rattle.flow.specs.Passages.{Passage}
use Rattle.flow.specs.Rows.{linked}
use Rattle.flow.specs.Tables.{TableOf}
use Rattle.flow.proofs.Marks.{domains_apart, one_mark, one_mark_here}
use Rattle.flow.proofs.Nodes.{node_of}

-- the node of a live domain
record LiveAt (P : Asked) (v : ℕ) : Type 0 where
  at : ℕ
  at_is : v ≡ 128 + at
  few : at < 32
  live : Live P at

module _ (P : Asked) (domains_few : P.domains ≤ 32) (t : Links) (passages : TableOf (Passage P) t) where
  module _ (S : ℕ → Bool) (first : S (128 + P.first) ≡ true) (first_only : (v : ℕ) → S v ≡ true → v ≡ 128 + P.first) where
    live_found : {e : ℕ} → Live P e → (e < 32) × ((n : ℕ) × Walk S (linked t) n (128 + e))
    live_found live_first = (omega (arith, domains_few, P.first_is), (0, here (omega (arith, domains_few, P.first_is)) first))
    live_found (live_pass {d = d} {e = e} o L h) =
        let r = live_found L in
        let l : e < 32 = omega (arith, domains_few, P.pass_domain d o e h) in
        (l, (suc r.1.0, on r.1.1 (omega arith) ((passages (dom d) (dom e) r.0 l).1 (o, h))))

    passed : {d v : ℕ} → Live P d → (y : Node) → Numbered y → number y ≡ v → Passage P (dom d) y → LiveAt P v
    passed L (obj o) few is p = absurd p
    passed L (dom e) few is p = record { at = e; at_is = sym is; few = few; live = live_pass p.0 L p.1 }

    found_live : {n v : ℕ} → Walk S (linked t) n v → LiveAt P v
    found_live (here {b = v} l s) = record { at = P.first; at_is = first_only v s; few = omega (arith, domains_few, P.first_is); live = live_first }
    found_live (on {b = b} {c = v} w l s) =
        let r = found_live w in
        let y = node_of v l in
        passed r.live y.node y.numbered y.number_is
        ((passages (dom r.at) y.node r.few y.numbered).0 (subst (λ k. linked t (128 + r.at) k ≡ true) (sym y.number_is) (subst (λ k. linked t k v ≡ true) r.at_is s)))

    module _ (distance : ℕ → Option ℕ) (parent : ℕ → ℕ) (f : Found S (linked t) distance parent) where
      found_is_live : (d : ℕ) (o : Option ℕ) → distance (128 + d) ≡ o → is_some o ≡ true → Live P d
      found_is_live d None e h = absurd (true≢false (sym h))
      found_is_live d (Some n) e h =
          let r = found_live (f.walk (128 + d) n e) in
          subst (Live P) (sym (domains_apart d r.at r.at_is)) r.live

      pub lives : (d : ℕ) → (is_some (distance (128 + d)) ≡ true → Live P d) × (Live P d → is_some (distance (128 + d)) ≡ true)
      lives d = (λ h. found_is_live d (distance (128 + d)) refl h, λ L. ap is_some (walk_is_found f (live_found L).1.1).1)

  -- where the default domain alone is marked
  pub lives_from_first : (place : ℕ) → place ≡ 128 + P.first → (distance : ℕ → Option ℕ) (parent : ℕ → ℕ) →
      Found (λ v. get_or (set (replicate 160 false) place true) v false) (linked t) distance parent →
      (d : ℕ) → (is_some (distance (128 + d)) ≡ true → Live P d) × (Live P d → is_some (distance (128 + d)) ≡ true)
  lives_from_first place e distance parent f =
      let marks : ℕ → Bool = λ v. get_or (set (replicate 160 false) place true) v false in
      lives marks
      (subst (λ k. marks k ≡ true) e (one_mark_here 160 place (omega (arith, e, domains_few, P.first_is))))
      (λ v h. one_mark 160 place v h ∙ e)
      distance parent f
