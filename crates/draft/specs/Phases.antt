-- The phases of a draft.
use Rattle.std.specs.Prelude.{ℕ, Bool, not, ◌&&◌, is_some, Option, nat_le}
use Rattle.draft.specs.declared.draft.State.{State}
use Rattle.draft.specs.declared.draft.State.TheVariants as state
use Rattle.draft.specs.declared.phase.Phase.{Phase}
use Rattle.draft.specs.declared.phase.Phase.TheVariants.{Blank, Rest, Trial}

-- the phase in which a draft holds this
abbrev pub phase_in : State → Phase
phase_in state.Blank = Blank
phase_in (state.Rest kept) = Rest
phase_in (state.Trial kept tried) = Trial

-- what is kept and what is tried in each phase
abbrev pub in_phase : {X : Type 0} → Phase → Option X → Option X → Bool
in_phase Blank kept tried = not (is_some kept) && not (is_some tried)
in_phase Rest kept tried = is_some kept && not (is_some tried)
in_phase Trial kept tried = is_some kept && is_some tried

-- how many modules may be kept: eight, and seven beside one on trial
abbrev pub in_bounds : Phase → ℕ → Bool
in_bounds Blank n = nat_le n 8
in_bounds Rest n = nat_le n 8
in_bounds Trial n = nat_le n 7
