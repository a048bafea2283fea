-- The node at place h of the queue is expanded: each node is looked at in turn.
use Rattle.std.proofs.Common.{◌≡◌, ℕ, ◌+◌, ◌<◌, ◌≤◌, Bool, true, false, eqb, ◌≢◌, ◌⊎◌, Some, None, Option, is_some, refl, sym, ap, ◌∙◌, subst, inl, inr, ⊎_elim, arith}
use Rattle.std.proofs.lemmas.List.{get_or-set_same, get_or-set_other}
use Rattle.std.proofs.lemmas.Bool.{cases_lt, cases_eq, both_ways, ne_eqb}
use Rattle.reach.specs.declared.search.Search.{Search}
use Rattle.reach.specs.declared.table.Step.{Step}
use Rattle.reach.specs.Queue.{far, far_of, node_at, finding, Looked, Parent, Queue, SameSources}
use Rattle.reach.specs.Steps.{step_at, from_of}
use Rattle.reach.proofs.Missing.{queue_has_room, room_stays}

-- a distance is below the number of nodes
pub far_is_short : (E : ℕ → ℕ → Bool) (h w : ℕ) (s : Search) → Queue E h w s → (i : ℕ) → i < s.count → far_of s (node_at s i) < 160
far_is_short E h w s r i l = omega (arith, r.short i l, r.room.count)

module _ (E : ℕ → ℕ → Bool) (h w : ℕ) (s : Search) (r : Queue E h w s) (hh : h < s.count) (hw : w < 160) where
  -- the node w is found, or no edge leads there
  pub queue_kept : (step_at s.steps w ≡ None → E (node_at s h) w ≡ false) → Queue E h (w + 1) s
  queue_kept f =
      record {
        room = r.room;
        node = r.node;
        queued = r.queued;
        sorted = r.sorted;
        low = r.low;
        short = r.short;
        back = r.back;
        closed = λ i v hi hv q t. ⊎_elim (λ l. r.closed i v hi hv (inl l) t) (λ z. at_h i v hi hv z.0 z.1 t (cases_eq v w)) q;
      }
    where
      at_w : E (node_at s h) w ≡ true → (step : Option Step) → step_at s.steps w ≡ step → far_of s w ≤ far_of s (node_at s h) + 1
      at_w t None e = absurd (both_ways (E (node_at s h) w) (f e) t)
      at_w t (Some x) e =
          let j = r.queued w (ap is_some e) in
          let q : far_of s (node_at s j.0) ≡ far_of s w = ap (far_of s) j.2 in
          omega (arith, r.low h j.0 (omega arith) hh j.1)

      at_h : (i v : ℕ) → i < s.count → v < 160 → i ≡ h → v < w + 1 → E (node_at s i) v ≡ true → (v ≡ w) ⊎ (v ≡ w → ⊥) → far_of s v ≤ far_of s (node_at s i) + 1
      at_h i v hi hv e l t (inl q) =
          let t' : E (node_at s h) w ≡ true = ap (λ (x : ℕ). E (node_at s x) w) (sym e) ∙ ap (E (node_at s i)) (sym q) ∙ t in
          rw (e, q) (at_w t' (step_at s.steps w) refl)
      at_h i v hi hv e l t (inr n) = r.closed i v hi hv (inr (e, omega arith)) t

  -- the node w is found from the node at place h
  module _ (e : step_at s.steps w ≡ None) (t : E (node_at s h) w ≡ true) where
    abbrev step : Step
    step = record { dist = far_of s (node_at s h) + 1; parent = node_at s h }

    abbrev s' : Search
    s' = finding s w step

    w_is_far : far_of s w ≡ 255
    w_is_far = ap far e

    pub find_has_room : s.count < 160
    find_has_room = queue_has_room s r.room w step hw e

    step_other : (v : ℕ) → v ≢ w → step_at s'.steps v ≡ step_at s.steps v
    step_other v n = get_or-set_other s.steps w v (Some step) None n

    far_other : (v : ℕ) → v ≢ w → far_of s' v ≡ far_of s v
    far_other v n = ap far (step_other v n)

    step_w : step_at s'.steps w ≡ Some step
    step_w = get_or-set_same s.steps w (Some step) None (omega (arith, r.room.steps))

    far_w : far_of s' w ≡ far_of s (node_at s h) + 1
    far_w = ap far step_w

    pub node_before : (i : ℕ) → i < s.count → node_at s' i ≡ node_at s i
    node_before i l = get_or-set_other s.queue s.count i w 0 (omega arith)

    node_last : node_at s' s.count ≡ w
    node_last = get_or-set_same s.queue s.count w 0 (omega (arith, r.room.queue, find_has_room))

    w_is_not_queued : (i : ℕ) → i < s.count → node_at s i ≢ w
    w_is_not_queued i l q = let z : far_of s (node_at s i) ≡ far_of s w = ap (far_of s) q in omega (arith, w_is_far, far_is_short E h w s r i l)

    pub far_before : (i : ℕ) → i < s.count → far_of s' (node_at s' i) ≡ far_of s (node_at s i)
    far_before i l = ap (far_of s') (node_before i l) ∙ far_other (node_at s i) (w_is_not_queued i l)

    far_last : far_of s' (node_at s' s.count) ≡ far_of s (node_at s h) + 1
    far_last = ap (far_of s') node_last ∙ far_w

    -- each place is an old one or the last
    far_at : (i : ℕ) → i < s.count + 1 →
        ((i < s.count) × (far_of s' (node_at s' i) ≡ far_of s (node_at s i))) ⊎ ((i ≡ s.count) × (far_of s' (node_at s' i) ≡ far_of s (node_at s h) + 1))
    far_at i l = by (cases_lt i s.count)
      where
        by : (i < s.count) ⊎ (s.count ≤ i) →
            ((i < s.count) × (far_of s' (node_at s' i) ≡ far_of s (node_at s i))) ⊎ ((i ≡ s.count) × (far_of s' (node_at s' i) ≡ far_of s (node_at s h) + 1))
        by (inl q) = inl (q, far_before i q)
        by (inr q) = let z : i ≡ s.count = omega arith in inr (z, ap (λ (x : ℕ). far_of s' (node_at s' x)) z ∙ far_last)

    node_stays : (i : ℕ) → (i < s.count) ⊎ (s.count ≤ i) → i < s.count + 1 → node_at s' i < 160
    node_stays i (inl q) l = rw (node_before i q) (r.node i q)
    node_stays i (inr q) l = let z : i ≡ s.count = omega arith in rw z (rw node_last hw)

    queued_stays : (v : ℕ) → is_some (step_at s'.steps v) ≡ true → (v ≡ w) ⊎ (v ≡ w → ⊥) → (i : ℕ) × (i < s.count + 1) × (node_at s' i ≡ v)
    queued_stays v f (inl q) = (s.count, omega arith, node_last ∙ sym q)
    queued_stays v f (inr q) =
        let j = r.queued v (ap is_some (sym (step_other v q)) ∙ f) in
        (j.0, omega (arith, j.1), node_before j.0 j.1 ∙ j.2)

    sorted_stays : (i j : ℕ) → i ≤ j → j < s.count + 1 → far_of s' (node_at s' i) ≤ far_of s' (node_at s' j)
    sorted_stays i j l hj =
        ⊎_elim
        (λ a. ⊎_elim
        (λ b. omega (arith, a.1, b.1, r.sorted i j l b.0))
        (λ b. omega (arith, a.1, b.1, r.low h i (omega arith) hh a.0))
        (far_at j hj))
        (λ a. ⊎_elim (λ b. omega (arith, a.0, b.0)) (λ b. omega (arith, a.1, b.1)) (far_at j hj))
        (far_at i (omega arith))

    low_stays : (i j : ℕ) → h ≤ i → i < s.count + 1 → j < s.count + 1 → far_of s' (node_at s' j) ≤ far_of s' (node_at s' i) + 1
    low_stays i j l hi hj =
        ⊎_elim
        (λ a. ⊎_elim
        (λ b. omega (arith, a.1, b.1, r.low i j l a.0 b.0))
        (λ b. omega (arith, a.1, b.1, r.sorted h i l a.0))
        (far_at j hj))
        (λ a. ⊎_elim
        (λ b. omega (arith, a.1, b.1, r.low h j (omega arith) hh b.0))
        (λ b. omega (arith, a.1, b.1))
        (far_at j hj))
        (far_at i hi)

    back_stays : (v k : ℕ) → far_of s' v ≡ k + 1 → k + 1 < 255 → (v ≡ w) ⊎ (v ≡ w → ⊥) → Parent E s' v k (from_of (step_at s'.steps v))
    back_stays v k q l (inl z) =
        let d : far_of s (node_at s h) ≡ k = omega (arith, far_w, ap (far_of s') z) in
        let p : from_of (step_at s'.steps v) ≡ node_at s h = ap (λ (x : ℕ). from_of (step_at s'.steps x)) z ∙ ap from_of step_w in
        rw p (record {
          node = r.node h hh;
          far = far_other (node_at s h) (w_is_not_queued h hh) ∙ d;
          edge = ap (E (node_at s h)) z ∙ t;
        })
    back_stays v k q l (inr z) =
        let b = r.back v k (sym (far_other v z) ∙ q) l in
        let p : from_of (step_at s'.steps v) ≡ from_of (step_at s.steps v) = ap from_of (step_other v z) in
        let n : from_of (step_at s.steps v) ≢ w = λ x. omega (arith, w_is_far, ap (far_of s) x, b.far) in
        rw p (record { node = b.node; far = far_other (from_of (step_at s.steps v)) n ∙ b.far; edge = b.edge })

    closed_stays : (i v : ℕ) → i < s.count → v < 160 → Looked h (w + 1) i v → E (node_at s i) v ≡ true → (v ≡ w) ⊎ (v ≡ w → ⊥) →
        far_of s' v ≤ far_of s (node_at s i) + 1
    closed_stays i v hi hv (inl l) x (inl z) =
        let c = r.closed i v hi hv (inl l) x in
        absurd (omega (arith, w_is_far, ap (far_of s) z, far_is_short E h w s r i hi))
    closed_stays i v hi hv (inr l) x (inl z) =
        omega (arith, ap (far_of s') z, far_w, ap (λ (y : ℕ). far_of s (node_at s y)) l.0)
    closed_stays i v hi hv (inl l) x (inr z) = omega (arith, far_other v z, r.closed i v hi hv (inl l) x)
    closed_stays i v hi hv (inr l) x (inr z) =
        let m = l.1 in omega (arith, far_other v z, r.closed i v hi hv (inr (l.0, omega arith)) x)

    pub queue_found : Queue E h (w + 1) s'
    queue_found =
        record {
          room = room_stays s r.room w step hw e;
          node = λ i l. node_stays i (cases_lt i s.count) l;
          queued = λ v f. queued_stays v f (cases_eq v w);
          sorted = sorted_stays;
          low = low_stays;
          short = λ i l. ⊎_elim (λ a. omega (arith, a.1, r.short i a.0)) (λ a. omega (arith, a.0, a.1, r.short h hh)) (far_at i l);
          back = λ v k q l. back_stays v k q l (cases_eq v w);
          closed = λ i v hi hv q x.
              let l : i < s.count = ⊎_elim (λ z. omega arith) (λ z. omega (arith, z.0)) q in
              rw (far_before i l) (closed_stays i v l hv q (ap (λ (y : ℕ). E y v) (sym (node_before i l)) ∙ x) (cases_eq v w));
        }

    pub found_is_no_source : SameSources s s'
    found_is_no_source v hv = by (cases_eq v w)
      where
        by : (v ≡ w) ⊎ (v ≡ w → ⊥) → eqb (far_of s' v) 0 ≡ eqb (far_of s v) 0
        by (inl q) = ne_eqb (far_of s' v) 0 (λ z. omega (arith, z, far_w, ap (far_of s') q)) ∙ sym (ne_eqb (far_of s v) 0 (λ z. omega (arith, z, w_is_far, ap (far_of s) q)))
        by (inr q) = ap (λ (x : ℕ). eqb x 0) (far_other v q)

-- The node u at place h of the queue, at a level, is expanded as far as the node w.
pub record Expanding (E : ℕ → ℕ → Bool) (h u level w : ℕ) (s s' : Search) : Type 0 where
  pub queue : Queue E h w s'
  pub place : h < s'.count
  pub node : node_at s' h ≡ u
  pub far : far_of s' (node_at s' h) ≡ level
  pub sources : SameSources s s'

module _ (E : ℕ → ℕ → Bool) (h u level w : ℕ) (s s' : Search) (r : Expanding E h u level w s s') where
  pub expanding_kept : w < 160 → (step_at s'.steps w ≡ None → E u w ≡ false) → Expanding E h u level (w + 1) s s'
  expanding_kept hw f =
      record {
        queue = queue_kept E h w s' r.queue r.place hw (λ q. ap (λ (x : ℕ). E x w) r.node ∙ f q);
        place = r.place;
        node = r.node;
        far = r.far;
        sources = r.sources;
      }

  pub expanding_found : w < 160 → step_at s'.steps w ≡ None → E u w ≡ true → Expanding E h u level (w + 1) s (finding s' w (record { dist = level + 1; parent = u }))
  expanding_found hw e t =
      let x : E (node_at s' h) w ≡ true = ap (λ (y : ℕ). E y w) r.node ∙ t in
      subst (λ (k : ℕ). Expanding E h u level (w + 1) s (finding s' w (record { dist = k + 1; parent = u }))) r.far
      (subst (λ (y : ℕ). Expanding E h u level (w + 1) s (finding s' w (record { dist = far_of s' (node_at s' h) + 1; parent = y }))) r.node
      (record {
        queue = queue_found E h w s' r.queue r.place hw e x;
        place = omega (arith, r.place);
        node = node_before E h w s' r.queue r.place hw e x h r.place ∙ r.node;
        far = far_before E h w s' r.queue r.place hw e x h r.place ∙ r.far;
        sources = λ v hv. found_is_no_source E h w s' r.queue r.place hw e x v hv ∙ r.sources v hv;
      }))

  pub expanding_has_room : w < 160 → step_at s'.steps w ≡ None → E u w ≡ true → s'.count < 160
  expanding_has_room hw e t = find_has_room E h w s' r.queue r.place hw e (ap (λ (y : ℕ). E y w) r.node ∙ t)
