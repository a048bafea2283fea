-- How many nodes are not found.
use Rattle.std.proofs.Common.{◌≡◌, ℕ, ◌+◌, ◌<◌, cond, List, length, set, replicate, Some, None, Option, is_none, refl, ◌∙◌, arith}
use Rattle.std.proofs.lemmas.List.{length-set}
use Rattle.std.proofs.lemmas.List.Sums.{sum_by-set}
use Rattle.reach.specs.declared.search.Search.{Search}
use Rattle.reach.specs.declared.table.Step.{Step}
use Rattle.reach.specs.Queue.{missing, finding, Room}
use Rattle.reach.specs.Steps.{step_at}

pub missing_all : missing (replicate 160 None) ≡ 160
unfolding missing
missing_all = refl

-- a node that is found is missing no more
pub missing-set : (steps : List (Option Step)) (v : ℕ) (step : Step) → v < length steps → step_at steps v ≡ None → missing (set steps v (Some step)) + 1 ≡ missing steps
unfolding missing
missing-set steps v step h e =
    let s = sum_by-set (λ (x : Option Step). cond (is_none x) 1 0) steps v (Some step) None h in
    omega (arith, rw e at s)

module _ (s : Search) (r : Room s) (v : ℕ) (step : Step) (hv : v < 160) (e : step_at s.steps v ≡ None) where
  pub queue_has_room : s.count < 160
  queue_has_room = omega (arith, r.count, missing-set s.steps v step (omega (arith, r.steps)) e)

  pub room_stays : Room (finding s v step)
  room_stays =
      record {
        steps = length-set s.steps v (Some step) ∙ r.steps;
        queue = length-set s.queue s.count v ∙ r.queue;
        count = omega (arith, r.count, missing-set s.steps v step (omega (arith, r.steps)) e);
      }
