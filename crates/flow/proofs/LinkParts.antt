-- What a link rests on.
use Rattle.std.proofs.Common.{◌≡◌, ℕ, ◌+◌, ◌<◌, Bool, true, false, ◌&&◌, ◌||◌, ◌↔◌, ltb, List, get_or, ⊎_elim}
use Rattle.std.proofs.lemmas.Bool.{and_parts, and_from, or_cases, or_left, or_right, lt-ltb, ltb-true}
use Rattle.machine.specs.Flow.{Live, live_first, live_pass, Node, obj, dom, Change, by_writing, by_appending, by_making, act_of, Link, learns, passes, alters}
use Rattle.machine.specs.Policy.{Act, reading, writing, appending, making, granted, Policy as Asked}
use Rattle.policy.specs.Abstract.{asked}
use Rattle.flow.specs.declared.chart.Links.{Links}
use Rattle.flow.specs.declared.linking.Linking.{Linking}
use Rattle.flow.specs.Allows.{allowed, changed}
use Rattle.flow.specs.Grounds.{Linked}
use Rattle.flow.specs.Nodes.{Numbered}
use Rattle.flow.specs.Passages.{Alive, Passage}
use Rattle.flow.specs.Rows.{linked}
use Rattle.flow.specs.Tables.{TableOf}

module _ (P : Asked) where
  pub live_is : {d : ℕ} → Live P d → d < P.domains
  live_is live_first = P.first_is
  live_is (live_pass {d = d} {e = e} o L h) = P.pass_domain d o e h

  -- what a link rests on
  abbrev pub Parts : Node → Node → Type 0
  Parts (obj o) (obj i) = ⊥
  Parts (obj o) (dom d) = Live P d × (o < P.objects) × (granted P reading d o ≡ true)
  Parts (dom d) (dom e) = Live P d × ((o : ℕ) × (P.pass d o e ≡ true))
  Parts (dom d) (obj o) = Live P d × (o < P.objects) × ((how : Change) × (granted P (act_of how) d o ≡ true))

  pub parts : {x y : Node} → Link P x y → Parts x y
  parts (learns L l g) = (L, l, g)
  parts (passes o L h) = (L, (o, h))
  parts (alters how L l g) = (L, l, (how, g))

  allowed_from : (act : Act) (d o : ℕ) → o < P.objects → d < P.domains → granted P act d o ≡ true → allowed P act d o ≡ true
  allowed_from act d o l m g =
      and_from (ltb o P.objects) _ (lt-ltb o P.objects l) (and_from (ltb d P.domains) _ (lt-ltb d P.domains m) g)

  allowed_parts : (act : Act) (d o : ℕ) → allowed P act d o ≡ true → (o < P.objects) × (granted P act d o ≡ true)
  allowed_parts act d o h =
      let a = and_parts (ltb o P.objects) _ h in
      (ltb-true o P.objects a.0, (and_parts (ltb d P.domains) _ a.1).1)

  changed_from : (how : Change) (d o : ℕ) → allowed P (act_of how) d o ≡ true → changed P d o ≡ true
  changed_from by_writing d o h = or_left _ _ h
  changed_from by_appending d o h = or_right (allowed P writing d o) _ (or_left _ _ h)
  changed_from by_making d o h = or_right (allowed P writing d o) _ (or_right (allowed P appending d o) _ h)

  changed_parts : (d o : ℕ) → changed P d o ≡ true → (how : Change) × (allowed P (act_of how) d o ≡ true)
  changed_parts d o h =
      ⊎_elim (λ w. (by_writing, w))
      (λ x. ⊎_elim (λ a. (by_appending, a)) (λ c. (by_making, c)) (or_cases (allowed P appending d o) (allowed P making d o) x))
      (or_cases (allowed P writing d o) (allowed P appending d o || allowed P making d o) h)

  module _ (live : List Bool) (alive : Alive P live) (d : ℕ) (l : d < 32) where
    pub learns_if : (o : ℕ) → ((get_or live d false && allowed P reading d o) ≡ true) ↔ Link P (obj o) (dom d)
    learns_if o = (
      λ h.
          let a = and_parts (get_or live d false) _ h in
          let g = allowed_parts reading d o a.1 in
          learns ((alive d l).0 a.0) g.0 g.1,
      λ k.
          let q = parts k in
          and_from (get_or live d false) _ ((alive d l).1 q.0) (allowed_from reading d o q.1 (live_is q.0) q.2),
    )

    pub alters_if : (o : ℕ) → ((get_or live d false && changed P d o) ≡ true) ↔ Link P (dom d) (obj o)
    alters_if o = (
      λ h.
          let a = and_parts (get_or live d false) _ h in
          let c = changed_parts d o a.1 in
          let g = allowed_parts (act_of c.0) d o c.1 in
          alters c.0 ((alive d l).0 a.0) g.0 g.1,
      λ k.
          let q = parts k in
          and_from (get_or live d false) _ ((alive d l).1 q.0) (changed_from q.2.0 d o (allowed_from (act_of q.2.0) d o q.1 (live_is q.0) q.2.1)),
    )

    pub passes_if : (t : Links) → TableOf (Passage P) t → (e : ℕ) → e < 32 → ((get_or live d false && linked t (128 + d) (128 + e)) ≡ true) ↔ Link P (dom d) (dom e)
    passes_if t table e m = (
      λ h.
          let a = and_parts (get_or live d false) _ h in
          let p = (table (dom d) (dom e) l m).0 a.1 in
          passes p.0 ((alive d l).0 a.0) p.1,
      λ k.
          let q = parts k in
          and_from (get_or live d false) _ ((alive d l).1 q.0) ((table (dom d) (dom e) l m).1 q.1),
    )

-- what is said to be a link is one
pub linked_is_link : (s : Linking) → Alive (asked s.policy.now.policy) s.live → TableOf (Passage (asked s.policy.now.policy)) s.passages → (x y : Node) → Numbered x → Numbered y → Linked s x y ↔ Link (asked s.policy.now.policy) x y
linked_is_link s alive passing (obj o) (obj i) h k = (λ q. absurd q, λ q. absurd (parts _ q))
linked_is_link s alive passing (obj o) (dom d) h k = learns_if _ s.live alive d k o
linked_is_link s alive passing (dom d) (obj o) h k = alters_if _ s.live alive d h o
linked_is_link s alive passing (dom d) (dom e) h k = passes_if _ s.live alive d h s.passages passing e k
