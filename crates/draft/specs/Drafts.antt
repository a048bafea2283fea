-- What a draft holds, and what its calls come to.
use Rattle.std.specs.Prelude.{◌≡◌, ℕ, ◌+◌, true, List, Some, None, Ok, Err, Option, Result, refl}
use Rattle.reader.specs.Composed.{nothing, Composed as Tabled}
use Rattle.draft.specs.Composing.{tabled, Composes}
use Rattle.draft.specs.Phases.{phase_in, in_phase}
use Rattle.draft.specs.declared.draft.Draft.{Draft}
use Rattle.draft.specs.declared.draft.State.{State}
use Rattle.draft.specs.declared.draft.State.TheVariants as state
use Rattle.draft.specs.declared.fault.Failure.{Failure}
use Rattle.draft.specs.declared.phase.Phase.{Phase}
use Rattle.draft.specs.declared.phase.Phase.TheVariants.{Blank, Rest, Trial}

-- a draft by its phase, the number of modules kept, what they come to, and what they come to with the one on trial
pub record View : Type 0 where
  pub phase : Phase
  pub modules : ℕ
  pub kept : Option Tabled
  pub tried : Option Tabled

-- the phase that the draft is in
abbrev pub phase_of : Draft → Phase
phase_of d = phase_in d.state

-- what the modules that were kept come to
abbrev pub kept_in : State → Option Tabled
kept_in state.Blank = None
kept_in (state.Rest c) = Some (tabled c)
kept_in (state.Trial c t) = Some (tabled c)

-- what they come to with the module on trial
abbrev pub tried_in : State → Option Tabled
tried_in state.Blank = None
tried_in (state.Rest c) = None
tried_in (state.Trial c t) = Some (tabled t)

-- a draft holds what its phase says
pub held_in_phase : (s : State) → in_phase (phase_in s) (kept_in s) (tried_in s) ≡ true
held_in_phase state.Blank = refl
held_in_phase (state.Rest c) = refl
held_in_phase (state.Trial c t) = refl

abbrev pub view : Draft → View
view d = record { phase = phase_of d; modules = d.modules; kept = kept_in d.state; tried = tried_in d.state }

abbrev pub blank : View
blank = record { phase = Blank; modules = 0; kept = None; tried = None }

-- at rest with so many modules
abbrev pub resting : ℕ → Tabled → View
resting n c = record { phase = Rest; modules = n; kept = Some c; tried = None }

-- with one more on trial
abbrev pub trying : ℕ → Tabled → Tabled → View
trying n c t = record { phase = Trial; modules = n; kept = Some c; tried = Some t }

-- what the modules kept come to; nothing before the first
abbrev pub base : Option Tabled → Tabled
base None = nothing
base (Some c) = c

-- A first module opens the draft, or is refused and leaves it as it was.
abbrev pub Opens : {T B : Type 0} → List ℕ → View → Result T (B × Failure) → View → Type 0
Opens text before (Ok t) after = (c : Tabled) × (Composes 0 nothing text (Ok c) × (after ≡ resting 1 c))
Opens text before (Err e) after = Composes 0 nothing text (Err e.1) × (after ≡ before)

-- A further module is put on trial beside what is kept, or is refused and leaves the draft as it was.
abbrev pub Tries : {T B : Type 0} → List ℕ → View → Result T (B × Failure) → View → Type 0
Tries text before (Ok t) after = (c : Tabled) × (Composes before.modules (base before.kept) text (Ok c) × (after ≡ trying before.modules (base before.kept) c))
Tries text before (Err e) after = Composes before.modules (base before.kept) text (Err e.1) × (after ≡ before)

-- what is on trial joins what is kept
abbrev pub kept : View → View
kept v = resting (v.modules + 1) (base v.tried)

-- what is on trial is gone, and all is as before the trial
abbrev pub withdrawn : View → View
withdrawn v = resting v.modules (base v.kept)
