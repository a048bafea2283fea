-- What a step says of how far it leads.
use Rattle.std.proofs.Common.{◌≡◌, ℕ, true, ◌≢◌, Some, None, Option, is_some, refl}
use Rattle.reach.specs.declared.table.Step.{Step}
use Rattle.reach.specs.Queue.{far}
use Rattle.reach.specs.Steps.{dist_of}

pub near_is_found : (step : Option Step) → far step ≢ 255 → is_some step ≡ true
near_is_found None n = absurd (n refl)
near_is_found (Some t) n = refl

pub dist_is_found : (step : Option Step) (n : ℕ) → dist_of step ≡ Some n → is_some step ≡ true
dist_is_found None n e = cc
dist_is_found (Some t) n e = refl

pub dist_is_far : (step : Option Step) (n : ℕ) → dist_of step ≡ Some n → far step ≡ n
dist_is_far None n e = cc
dist_is_far (Some t) n e = cc

pub far_is_dist : (step : Option Step) (n : ℕ) → far step ≡ n → n ≢ 255 → dist_of step ≡ Some n
far_is_dist None n e ne = absurd (ne (cc))
far_is_dist (Some t) n e ne = cc

pub no_dist_is_none : (step : Option Step) → dist_of step ≡ None → step ≡ None
no_dist_is_none None e = refl
no_dist_is_none (Some t) e = cc
