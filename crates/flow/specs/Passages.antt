-- Where domains may pass to, and which domains are live.
use Rattle.std.specs.Prelude.{◌≡◌, ℕ, ◌<◌, Bool, true, false, ◌↔◌, List, slice_index_or}
use Rattle.machine.specs.Flow.{Live, Node, obj, dom}
use Rattle.machine.specs.Policy.{Policy as Asked}

-- d may pass to e, by some object
abbrev pub Passes : Asked → ℕ → ℕ → Type 0
Passes P d e = (o : ℕ) × (P.pass d o e ≡ true)

-- a passage leads from a domain to a domain
abbrev pub Passage : Asked → Node → Node → Type 0
Passage P (dom d) (dom e) = Passes P d e
Passage P (dom d) (obj o) = ⊥
Passage P (obj o) y = ⊥

-- the marked domains are those to which d may pass, by an object below n
abbrev pub TargetsOf : Asked → ℕ → ℕ → List Bool → Type 0
TargetsOf P d n row = (e : ℕ) → e < 32 → (slice_index_or row e false ≡ true) ↔ ((o : ℕ) × (o < n) × (P.pass d o e ≡ true))

-- the marked domains are the live ones
abbrev pub Alive : Asked → List Bool → Type 0
Alive P live = (d : ℕ) → d < 32 → (slice_index_or live d false ≡ true) ↔ Live P d
