-- What a trace writes are the nodes of a shortest walk.
use Rattle.std.specs.Prelude.{◌≡◌, ℕ, zero, suc, ◌+◌, ◌-◌, ◌<◌, ◌≤◌, Bool, true, false, cond, ◌⊎◌, List, [], ◌∷◌, ◌++◌, length, drop, Some, None, Option, ◌≢◌, nat_le, slice_index, refl}
use Rattle.std.proofs.Common.{sym, ap, ◌∙◌, inl, inr, append_assoc, length-append}
use Rattle.std.proofs.Math.Path.{subst}
use native.Mathlib.Omega.{arith}
use Rattle.std.proofs.lemmas.List.{get_or_at, get_or-drop, drop_at}
use Rattle.std.proofs.lemmas.Bool.{cases_eq, leb-true, le-leb}
use Rattle.reach.specs.declared.table.Reach.{Reach}
use Rattle.reach.specs.Distances.{distance_of, parent_of}
use Rattle.reach.specs.Trails.{trail, traced, written}
use Rattle.reach.specs.Walks.{Found, walk_to_node, walk_of_none}

-- The first n + 1 numbers of a list are the nodes of a walk from a node in S along edges of E to a node, each as far as its place says.
pub record ShortestWalk (S : ℕ → Bool) (E : ℕ → ℕ → Bool) (distance : ℕ → Option ℕ) (to n : ℕ) (nodes : List ℕ) : Type 0 where
  pub first : S (slice_index nodes 0) ≡ true
  pub last : slice_index nodes n ≡ to
  pub node : (k : ℕ) → k ≤ n → slice_index nodes k < 160
  pub far : (k : ℕ) → k ≤ n → distance (slice_index nodes k) ≡ Some k
  pub edge : (k : ℕ) → k < n → E (slice_index nodes k) (slice_index nodes (k + 1)) ≡ true

-- Where a trace has an answer, it writes a shortest walk.
abbrev pub ShortestWalks : Type 0
ShortestWalks =
    (S : ℕ → Bool) (E : ℕ → ℕ → Bool) (reach : Reach) → Found S E (distance_of reach) (parent_of reach) →
    (to n : ℕ) (nodes : List ℕ) → traced reach to (length nodes) ≡ Some n →
    ShortestWalk S E (distance_of reach) to n (written reach to nodes (Some n))

-- an answer is the distance, and the buffer had room
pub traced-some : (reach : Reach) (to room n : ℕ) → traced reach to room ≡ Some n → (160 ≤ room) × (distance_of reach to ≡ Some n)
traced-some reach to room n e = let t = told (nat_le 160 room) e in (leb-true 160 room t.0, t.1)
  where
    told : (wide : Bool) → cond wide (distance_of reach to) None ≡ Some n → (wide ≡ true) × (distance_of reach to ≡ Some n)
    told true q = (refl, q)
    told false q = absurd (let z : ◌≡◌ {A = ℕ} 0 1 = cc in omega arith)

-- with room for all nodes, there is no answer only where there is no distance
pub traced-none : (reach : Reach) (to room : ℕ) → 160 ≤ room → traced reach to room ≡ None → distance_of reach to ≡ None
traced-none reach to room h e = told (nat_le 160 room) (le-leb 160 room h) e
  where
    told : (wide : Bool) → wide ≡ true → cond wide (distance_of reach to) None ≡ None → distance_of reach to ≡ None
    told true w q = q
    told false w q = absurd (let z : ◌≡◌ {A = ℕ} 0 1 = cc in omega arith)

pub length-trail : (parent : ℕ → ℕ) (n v : ℕ) → length (trail parent n v) ≡ suc n
unfolding trail
length-trail parent zero v = refl
length-trail parent (suc n) v = length-append (trail parent n (parent v)) (v ∷ []) ∙ (omega (arith, length-trail parent n (parent v)))

-- what stands behind the walk stays
pub written_keeps_rest : (reach : Reach) (to n : ℕ) (nodes : List ℕ) → drop (suc n) (written reach to nodes (Some n)) ≡ drop (suc n) nodes
written_keeps_rest reach to n nodes = drop_at (trail (parent_of reach) n to) (drop (suc n) nodes) (suc n) (length-trail (parent_of reach) n to)

pub written_keeps : (reach : Reach) (to n : ℕ) (nodes : List ℕ) (k : ℕ) → n < k → slice_index (written reach to nodes (Some n)) k ≡ slice_index nodes k
written_keeps reach to n nodes k h =
    let at : suc n + (k - suc n) ≡ k = omega arith in
    let after = get_or-drop (suc n) (written reach to nodes (Some n)) (k - suc n) 0 in
    let before = get_or-drop (suc n) nodes (k - suc n) 0 in
    rw at at (sym after ∙ ap (λ (l : List ℕ). slice_index l (k - suc n)) (written_keeps_rest reach to n nodes) ∙ before)

module _ (S : ℕ → Bool) (E : ℕ → ℕ → Bool) (distance : ℕ → Option ℕ) (parent : ℕ → ℕ) (f : Found S E distance parent) where
  -- a shortest walk to the parent goes on to the node
  walk_goes_on : (to n : ℕ) → distance to ≡ Some (suc n) → (nodes : List ℕ) → ShortestWalk S E distance (parent to) n nodes → slice_index nodes (suc n) ≡ to →
      ShortestWalk S E distance to (suc n) nodes
  walk_goes_on to n e nodes w end =
      record {
        first = w.first;
        last = end;
        node = λ k h. node k h (cases_eq k (suc n));
        far = λ k h. far k h (cases_eq k (suc n));
        edge = λ k h. edge k h (cases_eq k n);
      }
    where
      node : (k : ℕ) → k ≤ suc n → (k ≡ suc n) ⊎ (k ≢ suc n) → slice_index nodes k < 160
      node k h (inl q) = rw q (rw end (walk_to_node (f.walk to (suc n) e)))
      node k h (inr q) = w.node k (omega arith)

      far : (k : ℕ) → k ≤ suc n → (k ≡ suc n) ⊎ (k ≢ suc n) → distance (slice_index nodes k) ≡ Some k
      far k h (inl q) = rw q (rw end e)
      far k h (inr q) = w.far k (omega arith)

      edge : (k : ℕ) → k < suc n → (k ≡ n) ⊎ (k ≢ n) → E (slice_index nodes k) (slice_index nodes (k + 1)) ≡ true
      edge k h (inl q) = let s : k + 1 ≡ suc n = omega arith in rw s (rw end (rw q (rw w.last (f.edge to n e))))
      edge k h (inr q) = w.edge k (omega arith)

  -- whatever stands behind the trail
  pub trail_is_shortest_walk : (to n : ℕ) → distance to ≡ Some n → (rest : List ℕ) → ShortestWalk S E distance to n (trail parent n to ++ rest)
  unfolding trail
  trail_is_shortest_walk to zero e rest =
      record {
        first = walk_of_none (f.walk to 0 e);
        last = refl;
        node = λ k h. let z : k ≡ 0 = omega arith in rw z (walk_to_node (f.walk to 0 e));
        far = λ k h. let z : k ≡ 0 = omega arith in rw z e;
        edge = λ k h. absurd (omega arith);
      }
  trail_is_shortest_walk to (suc n) e rest =
      subst (λ (l : List ℕ). ShortestWalk S E distance to (suc n) l) (sym (append_assoc (trail parent n (parent to)) (to ∷ []) rest))
      (walk_goes_on to n e (trail parent n (parent to) ++ to ∷ rest)
      (trail_is_shortest_walk (parent to) n (f.near to n e) (to ∷ rest))
      (get_or_at (trail parent n (parent to)) to rest 0 (suc n) (length-trail parent n (parent to))))

pub written_is_shortest_walk : ShortestWalks
written_is_shortest_walk S E reach f to n nodes e =
    trail_is_shortest_walk S E (distance_of reach) (parent_of reach) f to n (traced-some reach to (length nodes) n e).1 (drop (suc n) nodes)
