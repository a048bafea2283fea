-- The sources are found one by one, and are then the queue.
use Rattle.std.proofs.Common.{◌≡◌, ℕ, ◌+◌, ◌<◌, ◌≤◌, Bool, true, false, cond, ◌≢◌, ◌⊎◌, replicate, Some, None, Option, sym, ap, ◌∙◌, inl, inr, ⊎_elim, arith, below_more}
use Rattle.std.proofs.lemmas.List.{length-replicate, get_or-set_same, get_or-set_other, get_or-replicate, get_or_past}
use Rattle.std.proofs.lemmas.Bool.{cases_lt, cases_eq, both_ways}
use Rattle.reach.specs.declared.search.Search.{Search}
use Rattle.reach.specs.declared.table.Step.{Step}
use Rattle.reach.specs.Queue.{far, far_of, node_at, finding, Started}
use Rattle.reach.specs.Steps.{step_at}
use Rattle.reach.proofs.Missing.{missing_all, queue_has_room, room_stays}

-- how a source is found
abbrev source : ℕ → Step
source v = record { dist = 0; parent = v }

none_found : (n v : ℕ) → step_at (replicate n None) v ≡ None
none_found n v = ⊎_elim (λ h. get_or-replicate n v None None h) (λ h. get_or_past (replicate n None) v None (rw length-replicate h)) (cases_lt v n)

pub started_none : (S : ℕ → Bool) → Started S 0 (record { steps = replicate 160 None; queue = replicate 160 0; count = 0 })
started_none S =
    record {
      room = record {
        steps = length-replicate {A = Option Step} 160 None;
        queue = length-replicate {A = ℕ} 160 0;
        count = omega (arith, missing_all);
      };
      below = λ v h. absurd (omega arith);
      above = λ v h. none_found 160 v;
      first = λ i h. absurd (omega arith);
      queued = λ v h s. absurd (omega arith);
    }

module _ (S : ℕ → Bool) (n : ℕ) (s : Search) (r : Started S n s) (hn : n < 160) where
  -- a node that is no source
  pub started_other : S n ≡ false → Started S (n + 1) s
  started_other f =
      record {
        room = r.room;
        below = below_more (λ v. step_at s.steps v ≡ cond (S v) (Some (source v)) None) n r.below
            (r.above n (omega arith) ∙ sym (ap (λ (t : Bool). cond t (Some (source n)) None) f));
        above = λ v l. r.above v (omega arith);
        first = λ i h. let a = r.first i h in (omega (arith, a.0), a.1);
        queued = λ v h t. queued v h t (cases_eq v n);
      }
    where
      queued : (v : ℕ) → v < n + 1 → S v ≡ true → (v ≡ n) ⊎ (v ≡ n → ⊥) → (i : ℕ) × (i < s.count) × (node_at s i ≡ v)
      queued v h t (inl e) = absurd (both_ways (S v) (ap S e ∙ f) t)
      queued v h t (inr ne) = r.queued v (omega arith) t

  n_is_missing : step_at s.steps n ≡ None
  n_is_missing = r.above n (omega arith)

  pub start_has_room : s.count < 160
  start_has_room = queue_has_room s r.room n (source n) hn n_is_missing

  step_other : (v : ℕ) → v ≢ n → step_at (finding s n (source n)).steps v ≡ step_at s.steps v
  step_other v ne = get_or-set_other s.steps n v (Some (source n)) None ne

  step_source : step_at (finding s n (source n)).steps n ≡ Some (source n)
  step_source = get_or-set_same s.steps n (Some (source n)) None (omega (arith, r.room.steps))

  node_before : (i : ℕ) → i < s.count → node_at (finding s n (source n)) i ≡ node_at s i
  node_before i h = get_or-set_other s.queue s.count i n 0 (omega arith)

  node_last : node_at (finding s n (source n)) s.count ≡ n
  node_last = get_or-set_same s.queue s.count n 0 (omega (arith, r.room.queue, start_has_room))

  pub started_source : S n ≡ true → Started S (n + 1) (finding s n (source n))
  started_source t =
      record {
        room = room_stays s r.room n (source n) hn n_is_missing;
        below = below_more (λ v. step_at (finding s n (source n)).steps v ≡ cond (S v) (Some (source v)) None) n
            (λ v h. step_other v (omega arith) ∙ r.below v h)
            (step_source ∙ sym (ap (λ (b : Bool). cond b (Some (source n)) None) t));
        above = λ v l. step_other v (omega arith) ∙ r.above v (omega arith);
        first = λ i h. first i (cases_lt i s.count) h;
        queued = λ v h q. queued v h q (cases_eq v n);
      }
    where
      first : (i : ℕ) → (i < s.count) ⊎ (s.count ≤ i) → i < s.count + 1 → (node_at (finding s n (source n)) i < n + 1) × (far_of (finding s n (source n)) (node_at (finding s n (source n)) i) ≡ 0)
      first i (inl l) h =
          let a = r.first i l in
          let ne : node_at s i ≢ n = omega (arith, a.0) in
          rw (node_before i l) (omega (arith, a.0), ap far (step_other (node_at s i) ne) ∙ a.1)
      first i (inr l) h = let e : i ≡ s.count = omega arith in rw e (rw node_last (omega arith, ap far step_source))

      queued : (v : ℕ) → v < n + 1 → S v ≡ true → (v ≡ n) ⊎ (v ≡ n → ⊥) → (i : ℕ) × (i < s.count + 1) × (node_at (finding s n (source n)) i ≡ v)
      queued v h q (inl e) = (s.count, omega arith, node_last ∙ sym e)
      queued v h q (inr ne) = let a = r.queued v (omega arith) q in (a.0, omega (arith, a.1), node_before a.0 a.1 ∙ a.2)
