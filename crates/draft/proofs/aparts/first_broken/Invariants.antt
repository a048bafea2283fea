use Rattle.std.proofs.Common.{take}
use Rattle.std.specs.List.{AllByRecursion}
use Rattle.policy.specs.Abstract.{asked}
use Rattle.policy.specs.Holds.{model_of}
use Rattle.draft.specs.Endings.{KeptApart}
use Rattle.draft.proofs.aparts.first_broken.Given as goal

abbrev pub invariant-loop-apart : goal.invariant-loop-apart
invariant-loop-apart l = AllByRecursion (KeptApart (asked l.decisions.policy)) (take l.apart-index (model_of l.decisions.policy).aparts)
