-- What a search along the links of a chart finds are the chains of its policy.
use Rattle.std.proofs.Common.{◌≡◌, ℕ, zero, suc, ◌+◌, ◌<◌, Bool, true, false, ◌&&◌, ltb, List, [], ◌∷◌, ◌++◌, map, get_or, Some, None, Option, sym, refl, ap, ◌∙◌, subst, ⊎_elim, arith}
use Rattle.std.proofs.lemmas.List.{map_push}
use Rattle.std.proofs.lemmas.Bool.{true≢false, cases_lt, and_parts, and_from, lt-ltb, ltb-true, eq-eqb, eqb-true}
use Rattle.machine.specs.Flow.{Node, obj, dom, number, Link, learns, passes, alters, Walk, here, on, trail, Chain, NoChain, Objects as Set}
use Rattle.machine.specs.Policy.{Policy as Asked}
use Rattle.reach.specs.Distances.{distance_of, parent_of}
use Rattle.reach.specs.Trails.{trail as nodes_to}
use Rattle.reach.specs.Walks.{Walk as Steps, here as begun, on as stepped, Found, walk_to_node, walk_of_none}
use Rattle.flow.specs.declared.chart.Chart.{Chart}
use Rattle.flow.specs.Charts.{Charts}
use Rattle.flow.specs.Nodes.{Numbered}
use Rattle.flow.specs.Rows.{linked}
use Rattle.flow.specs.Sets.{within}
use Rattle.flow.specs.Sources.{Sources}
use Rattle.flow.specs.Spreads.{only, HeldAt, SpreadOf}
use Rattle.flow.specs.declared.spread.Spread.{Spread}
use Rattle.flow.proofs.LinkParts.{live_is}
use Rattle.flow.proofs.Nodes.{number_below, node_of}

-- a walk from an object of the set, over given nodes
record WalkBy (P : Asked) (From : Set) (n : ℕ) (x : Node) (nodes : List ℕ) : Type 0 where
  from : ℕ
  from_is : from < P.objects
  from_in : From from ≡ true
  walk : Walk P (obj from) n x
  nodes_are : map number (trail walk) ≡ nodes

module _ (P : Asked) (chart : Chart) (charts : Charts P chart) (From : Set) (S : ℕ → Bool)
    (sources : (o : ℕ) → o < 128 → S o ≡ within P From o) (no_others : (v : ℕ) → S v ≡ true → v < 128) where
  link_numbered : {x y : Node} → Link P x y → Numbered x × Numbered y
  link_numbered (learns {d = d} {o = o} L l g) = (omega (arith, l, charts.objects_few), omega (arith, live_is P L, charts.domains_few))
  link_numbered (passes {d = d} {e = e} o L h) = (omega (arith, live_is P L, charts.domains_few), omega (arith, P.pass_domain d o e h, charts.domains_few))
  link_numbered (alters {d = d} {o = o} how L l g) = (omega (arith, live_is P L, charts.domains_few), omega (arith, l, charts.objects_few))

  -- a walk of the policy is one of the table
  walk_stepped : {o : ℕ} → o < P.objects → From o ≡ true → {n : ℕ} {x : Node} → Walk P (obj o) n x → Steps S (linked chart.links) n (number x)
  walk_stepped {o} l i here =
      let few : o < 128 = omega (arith, l, charts.objects_few) in
      begun (omega arith) (sources o few ∙ and_from (ltb o P.objects) _ (lt-ltb o P.objects l) i)
  walk_stepped l i (on {b = b} {c = c} w k) =
      let h = link_numbered k in
      stepped (walk_stepped l i w) (number_below c h.1) ((charts.links b c h.0 h.1).1 k)

  module _ (distance : ℕ → Option ℕ) (parent : ℕ → ℕ) (f : Found S (linked chart.links) distance parent) where
    source_is : (v : ℕ) → S v ≡ true → (v < P.objects) × (From v ≡ true)
    source_is v s =
        let a = and_parts (ltb v P.objects) _ (sym (sources v (no_others v s)) ∙ s) in
        (ltb-true v P.objects a.0, a.1)

    -- a way back in the table is a walk of the policy
    walked : (n : ℕ) (x : Node) → Numbered x → distance (number x) ≡ Some n → WalkBy P From n x (nodes_to parent n (number x))
    unfolding nodes_to
    walked zero (obj o) h e =
        let s = source_is o (walk_of_none (f.walk o 0 e)) in
        record { from = o; from_is = s.0; from_in = s.1; walk = here; nodes_are = refl }
    walked zero (dom d) h e = absurd (omega (arith, no_others (128 + d) (walk_of_none (f.walk (128 + d) 0 e))))
    walked (suc n) x h e =
        let v = number x in
        let near = f.near v n e in
        let y = node_of (parent v) (walk_to_node (f.walk (parent v) n near)) in
        let r = walked n y.node y.numbered (ap distance y.number_is ∙ near) in
        record {
          from = r.from;
          from_is = r.from_is;
          from_in = r.from_in;
          walk = on r.walk ((charts.links y.node x y.numbered h).0 (ap (λ (k : ℕ). linked chart.links k v) y.number_is ∙ f.edge v n e));
          nodes_are =
              map_push number (trail r.walk) x
              ∙ ap (λ (l : List ℕ). l ++ v ∷ []) (r.nodes_are ∙ ap (λ (k : ℕ). nodes_to parent n k) y.number_is);
        }

    -- where a walk ends at an object, it is one of the policy's
    abbrev Ends : Node → Type 0
    Ends (obj o) = o < P.objects
    Ends (dom d) = Unit {0}

    ends : {o : ℕ} → o < P.objects → {n : ℕ} {x : Node} → Walk P (obj o) n x → Ends x
    ends l here = l
    ends l (on w (learns L h g)) = tt
    ends l (on w (passes o L h)) = tt
    ends l (on w (alters how L h g)) = h

    chain_stepped : (o k : ℕ) → Chain P From (only o) k → Steps S (linked chart.links) k o
    chain_stepped o k c = subst (Steps S (linked chart.links) k) (eqb-true c.to o c.to_in) (walk_stepped c.from_is c.from_in c.walk)

    found_none : (o : ℕ) → distance o ≡ None → NoChain P From (only o)
    found_none o e k c = f.unreached o k e (chain_stepped o k c)

-- what an exploration from the objects of a set holds
pub spread_of : (P : Asked) (chart : Chart) (charts : Charts P chart) (From : Set) (marks : List Bool) → Sources chart.objects From marks → (spread : Spread) →
    Found (λ v. get_or marks v false) (linked chart.links) (distance_of spread.reach) (parent_of spread.reach) → SpreadOf P From spread
spread_of P chart charts From marks from spread f = record { objects_few = charts.objects_few; chains = λ o l. held o l (distance_of spread.reach o) refl }
  where
    sources : (o : ℕ) → o < 128 → get_or marks o false ≡ within P From o
    sources o l = from.of_objects o l ∙ ap (λ n. ltb o n && From o) charts.objects

    no_others : (v : ℕ) → get_or marks v false ≡ true → v < 128
    no_others v h = ⊎_elim (λ l. l) (λ l. absurd (true≢false (sym h ∙ from.no_others v l))) (cases_lt v 128)

    held : (o : ℕ) → o < 128 → (far : Option ℕ) → distance_of spread.reach o ≡ far → HeldAt P From spread o far
    held o l None e = found_none P chart charts From (λ v. get_or marks v false) sources no_others _ _ f o e
    held o l (Some n) e =
        let r = walked P chart charts From (λ v. get_or marks v false) sources no_others _ _ f n (obj o) l e in
        record {
          shortest = record {
            chain = record { from = r.from; to = o; from_is = r.from_is; to_is = ends P chart charts From (λ v. get_or marks v false) sources no_others _ _ f r.from_is r.walk; from_in = r.from_in; to_in = eq-eqb o o refl; walk = r.walk };
            least = λ k c. f.least o n k e (chain_stepped P chart charts From (λ v. get_or marks v false) sources no_others _ _ f o k c);
          };
          nodes = r.nodes_are;
        }
