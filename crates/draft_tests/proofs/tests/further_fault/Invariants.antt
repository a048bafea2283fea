use Rattle.std.proofs.Common.{◌≡◌}
use Rattle.draft.specs.Drafts.{phase_of}
use Rattle.draft.specs.declared.phase.Phase.TheVariants.{Rest}
use Rattle.draft_tests.proofs.tests.further_fault.Given as goal

-- between two modules the draft is at rest
abbrev pub invariant-loop : goal.invariant-loop
invariant-loop l = phase_of l.draft ≡ Rest
