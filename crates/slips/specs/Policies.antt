-- Policies of one module, and of two.
use Rattle.std.specs.Prelude.{◌≡◌, ℕ, List, Ok, Err, Result}
use Rattle.policy.specs.Holds.{model_of}
use Rattle.reader.specs.Composed.{nothing, Composed as Tabled}
use Rattle.draft.specs.Composing.{Composes}
use Rattle.draft.specs.Drafts.{view, resting}
use Rattle.draft.specs.declared.draft.Draft.{Draft}
use Rattle.draft.specs.declared.fault.Failure.{Failure}
use Rattle.draft.specs.declared.sealed_policy.SealedPolicy.{SealedPolicy}

-- the policy has these tables
abbrev pub Has : SealedPolicy → Tabled → Type 0
Has p c = model_of p.decisions.policy ≡ c.tables

-- the policy of the text alone, or why the text is not taken
abbrev pub Alone : List ℕ → Result SealedPolicy Failure → Type 0
Alone text (Ok p) = (c : Tabled) × (Composes 0 nothing text (Ok c) × Has p c)
Alone text (Err e) = Composes 0 nothing text (Err e)

-- a draft at rest with the text as its only module, or why the text is not taken
abbrev pub Opened : {T : Type 0} → List ℕ → Result (Draft × T) Failure → Type 0
Opened text (Ok d) = (c : Tabled) × (Composes 0 nothing text (Ok c) × (view d.0 ≡ resting 1 c))
Opened text (Err e) = Composes 0 nothing text (Err e)

-- the policy of both texts, the second read after the first
abbrev pub Both : List ℕ → List ℕ → SealedPolicy → Type 0
Both text more p = (c : Tabled) × ((d : Tabled) × (Composes 0 nothing text (Ok c) × (Composes 1 c more (Ok d) × Has p d)))

-- why one of the two texts is not taken
pub data Refused (text more : List ℕ) (e : Failure) : Type 0 where
  first : Composes 0 nothing text (Err e) → Refused text more e
  second : (c : Tabled) → Composes 0 nothing text (Ok c) → Composes 1 c more (Err e) → Refused text more e

-- the policy of the first text alone beside that of both
abbrev pub Beside : List ℕ → List ℕ → Result (SealedPolicy × SealedPolicy) Failure → Type 0
Beside text more (Ok p) = Alone text (Ok p.0) × Both text more p.1
Beside text more (Err e) = Refused text more e
