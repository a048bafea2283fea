-- A complete search has found what there is to find.
use Rattle.std.proofs.Common.{◌≡◌, ℕ, zero, suc, ◌+◌, ◌<◌, ◌≤◌, Bool, true, eqb, Some, is_some, sym, ap, ◌∙◌, subst, inl, arith}
use Rattle.std.proofs.lemmas.Bool.{true≢false, eq-eqb, eqb-true}
use Rattle.reach.specs.declared.search.Search.{Search}
use Rattle.reach.specs.Queue.{far_of, Parent, Queue}
use Rattle.reach.specs.Rooted.{Short, Rooted}
use Rattle.reach.specs.Steps.{step_at, dist_of, from_of}
use Rattle.reach.specs.Walks.{Walk, here, on, Found}
use Rattle.reach.proofs.Expanding.{far_is_short}
use Rattle.reach.proofs.Looking.{near_is_found, dist_is_found, dist_is_far, far_is_dist, no_dist_is_none}

-- Every node that is found was expanded.
module _ (S : ℕ → Bool) (E : ℕ → ℕ → Bool) (h : ℕ) (s : Search) (r : Queue E h 0 s) (all : s.count ≤ h)
    (sources : (v : ℕ) → v < 160 → eqb (far_of s v) 0 ≡ S v) where
  found_is_node : (v : ℕ) → is_some (step_at s.steps v) ≡ true → v < 160
  found_is_node v f = let i = r.queued v f in subst (λ (x : ℕ). x < 160) i.2 (r.node i.0 i.1)

  found_is_short : (v : ℕ) → is_some (step_at s.steps v) ≡ true → far_of s v < 160
  found_is_short v f =
      let i = r.queued v f in
      omega (arith, ap (far_of s) i.2, far_is_short E h 0 s r i.0 i.1)

  found_is_closed : (x v : ℕ) → v < 160 → is_some (step_at s.steps x) ≡ true → E x v ≡ true → far_of s v ≤ far_of s x + 1
  found_is_closed x v hv f t =
      let i = r.queued x f in
      let l = i.1 in
      let before : i.0 < h = omega arith in
      omega (arith, ap (far_of s) i.2, r.closed i.0 v i.1 hv (inl before) (ap (λ (y : ℕ). E y v) i.2 ∙ t))

  walked : (k v : ℕ) → v < 160 → far_of s v ≡ k → k < 255 → Walk S E k v
  walked zero v hv q l = here hv (sym (sources v hv) ∙ eq-eqb (far_of s v) 0 q)
  walked (suc k) v hv q l =
      let e : far_of s v ≡ k + 1 = omega arith in
      let b = r.back v k e (omega arith) in
      on (walked k (from_of (step_at s.steps v)) b.node b.far (omega arith)) hv b.edge

  shortest : {n v : ℕ} → Walk S E n v → (far_of s v ≤ n) × (is_some (step_at s.steps v) ≡ true)
  shortest (here {b = v} hv t) =
      let z : far_of s v ≡ 0 = eqb-true (far_of s v) 0 (sources v hv ∙ t) in
      (omega arith, near_is_found _ (λ q. omega (arith, q)))
  shortest (on {b = b} {c = v} w hv t) =
      let i = shortest w in
      let c = found_is_closed b v hv i.1 t in
      let z = found_is_short b i.1 in
      (omega (arith, i.0), near_is_found _ (λ q. omega (arith, q)))

  -- a node with a distance
  told : (v n : ℕ) → dist_of (step_at s.steps v) ≡ Some n → (v < 160) × (far_of s v ≡ n) × (n < 160)
  told v n e =
      let f = dist_is_found (step_at s.steps v) n e in
      let q = dist_is_far (step_at s.steps v) n e in
      (found_is_node v f, q, omega (arith, found_is_short v f))

  stepped : (v n : ℕ) → dist_of (step_at s.steps v) ≡ Some (suc n) → Parent E s v n (from_of (step_at s.steps v))
  stepped v n e = let t = told v (suc n) e in r.back v n (omega (arith, t.1)) (omega (arith, t.2))

  pub complete_is_short : Short s.steps
  complete_is_short v n e = let t = told v n e in (t.0, t.2)

  near : (v n : ℕ) → dist_of (step_at s.steps v) ≡ Some (suc n) → dist_of (step_at s.steps (from_of (step_at s.steps v))) ≡ Some n
  near v n e = far_is_dist _ n (stepped v n e).far (λ q. omega (arith, q, (told v (suc n) e).2))

  pub complete_is_rooted : Rooted s.steps
  complete_is_rooted v n e = ((stepped v n e).node, near v n e)

  pub complete_is_found : Found S E (λ v. dist_of (step_at s.steps v)) (λ v. from_of (step_at s.steps v))
  complete_is_found =
      record {
        walk = λ v n e. let t = told v n e in walked n v t.0 t.1 (omega (arith, t.2));
        least = λ v n m e w. omega (arith, (shortest w).0, (told v n e).1);
        unreached = λ v m e w. absurd (true≢false (sym (shortest w).1 ∙ ap is_some (no_dist_is_none _ e)));
        short = λ v n e. (told v n e).2;
        near = near;
        edge = λ v n e. (stepped v n e).edge;
      }
