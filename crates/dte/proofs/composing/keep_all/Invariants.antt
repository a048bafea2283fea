use Rattle.std.proofs.Common.{◌≡◌}
use Rattle.draft.specs.Drafts.{phase_of}
use Rattle.draft.specs.declared.phase.Phase.TheVariants.{Rest}
use Rattle.dte.proofs.composing.keep_all.Given as goal

-- between two modules the draft is at rest
abbrev pub invariant-loop-module : goal.invariant-loop-module
invariant-loop-module l = phase_of l.draft ≡ Rest
