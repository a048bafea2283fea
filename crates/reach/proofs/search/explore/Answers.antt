use Rattle.reach.specs.Distances.{distance_of, parent_of}
use Rattle.reach.proofs.Completing.{complete_is_found, complete_is_short, complete_is_rooted}
use Rattle.reach.proofs.search.explore.Goals as goal

pub invariant_of-result : goal.invariant_of-result
invariant_of-result g c = record {
  short = complete_is_short _ _ _ _ c.loop-place.invariant.0 c.loop-place-test.false c.loop-place.invariant.1;
  rooted = complete_is_rooted _ _ _ _ c.loop-place.invariant.0 c.loop-place-test.false c.loop-place.invariant.1;
}

pub returns : goal.returns
unfolding distance_of parent_of
returns g c = complete_is_found _ _ _ _ c.loop-place.invariant.0 c.loop-place-test.false c.loop-place.invariant.1
