-- The steps back from a node to a source, written into a buffer.
use Rattle.std.proofs.Common.{◌≡◌, ℕ, suc, ◌+◌, ◌<◌, ◌≤◌, List, [], ◌∷◌, ◌++◌, length, get_or, drop, set, Some, None, Option, IsSome, sym, refl, ap, ◌∙◌, append_assoc, add-one, arith, drop-cons}
use Rattle.std.proofs.lemmas.List.{get_or-set_same, drop-set-lt, drop_more}
use Rattle.reach.specs.declared.table.Reach.{Reach}
use Rattle.reach.specs.declared.table.Step.{Step}
use Rattle.reach.specs.Distances.{distance_of, parent_of}
use Rattle.reach.specs.Steps.{step_at, dist_of, from_of}
use Rattle.reach.specs.Trails.{trail}

-- The walk to `to` stands in the buffer from place k on: the steps back from the node there give the rest of it.
pub record Stepping (reach : Reach) (to n k : ℕ) (before nodes : List ℕ) : Type 0 where
  pub node : get_or nodes k 0 < 160
  pub far : distance_of reach (get_or nodes k 0) ≡ Some k
  pub whole : trail (parent_of reach) k (get_or nodes k 0) ++ drop (suc k) nodes ≡ trail (parent_of reach) n to ++ drop (suc n) before

-- the node at a place is the end of the trail that leads there
step_back : (parent : ℕ → ℕ) (k : ℕ) (nodes : List ℕ) (m : ℕ) → m ≡ suc k → m < length nodes →
    trail parent k (parent (get_or nodes m 0)) ++ drop (suc k) nodes ≡ trail parent m (get_or nodes m 0) ++ drop (suc m) nodes
unfolding trail
step_back parent k nodes m e h =
    let l : suc k < length nodes = omega arith in
    rw e (ap (λ (l : List ℕ). trail parent k (parent (get_or nodes (suc k) 0)) ++ l) (drop-cons nodes (suc k) 0 l)
    ∙ sym (append_assoc (trail parent k (parent (get_or nodes (suc k) 0))) (get_or nodes (suc k) 0 ∷ []) (drop (suc (suc k)) nodes)))

-- a step leads to a node that has a distance
pub has_step : (reach : Reach) (v k : ℕ) → distance_of reach v ≡ Some k → IsSome (step_at reach.steps v)
unfolding distance_of
has_step reach v k e = by (step_at reach.steps v) e
  where
    by : (step : Option Step) → dist_of step ≡ Some k → IsSome step
    by None q = absurd (let z : ◌≡◌ {A = ℕ} 0 1 = cc in omega arith)
    by (Some s) q = refl

-- that step leads from the parent
pub parent_is : (reach : Reach) (v : ℕ) (step : Step) → step_at reach.steps v ≡ Some step → step.parent ≡ parent_of reach v
unfolding parent_of
parent_is reach v step e = sym (ap from_of e)

module _ (reach : Reach) (to n : ℕ) where
  pub distance_bounds : distance_of reach to ≡ Some n → (to < 160) × (n < 160)
  unfolding distance_of
  distance_bounds e = reach.short to n e

  pub stepping_none : distance_of reach to ≡ Some n → (nodes : List ℕ) → n < length nodes → Stepping reach to n n (set nodes n to) (set nodes n to)
  stepping_none e nodes h =
      let same = get_or-set_same nodes n to 0 h in
      record { node = rw same (distance_bounds e).0; far = rw same e; whole = rw same refl }

  pub stepping_more : (k : ℕ) (before nodes : List ℕ) (u : ℕ) → u ≡ parent_of reach (get_or nodes (k + 1) 0) → k + 1 ≤ n → n < 160 → 160 ≤ length nodes →
      Stepping reach to n (k + 1) before nodes → Stepping reach to n k before (set nodes k u)
  unfolding distance_of parent_of
  stepping_more k before nodes u is h small room s =
      let hk : k < length nodes = omega arith in
      let hs : k + 1 < length nodes = omega arith in
      let same = get_or-set_same nodes k (parent_of reach (get_or nodes (k + 1) 0)) 0 hk in
      let r = reach.rooted (get_or nodes (k + 1) 0) k (s.far ∙ ap Some (add-one k)) in
      let behind = drop-set-lt (suc k) nodes k (parent_of reach (get_or nodes (k + 1) 0)) (omega arith) in
      rw is (record {
        node = rw same r.0;
        far = rw same r.1;
        whole = rw (same, behind) (step_back (parent_of reach) k nodes (k + 1) (add-one k) hs ∙ s.whole);
      })

  pub stepping_all : (before nodes : List ℕ) → 0 < length nodes → Stepping reach to n 0 (set before n to) nodes →
      nodes ≡ trail (parent_of reach) n to ++ drop (suc n) before
  unfolding trail
  stepping_all before nodes h s =
      drop_more nodes 0 0 h ∙ s.whole ∙ ap (λ (l : List ℕ). trail (parent_of reach) n to ++ l) (drop-set-lt (suc n) before n to (omega arith))
