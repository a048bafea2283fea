-- What it is for one set of objects to be kept apart from another, and that this is exactly where no chain leads.
use Rattle.std.specs.Prelude.{◌≡◌, ℕ, ◌<◌, true, false, ◌↔◌}
use Rattle.machine.specs.Policy.{Policy}
use Rattle.machine.specs.State.{Contents, loaded}
use Rattle.machine.specs.Series.{Series, after}
use Rattle.machine.specs.Possible.{Possible, PossibleSeries}
use Rattle.machine.specs.Flow.{Objects, of_type, NoChain}

-- alike in an object: it is absent in both, or present in both with the same bytes
abbrev pub Alike : Contents → Contents → ℕ → Type 0
Alike m n o = m o ≡ n o

abbrev pub AlikeOutside : Policy → Objects → Contents → Contents → Type 0
AlikeOutside P set m n = (o : ℕ) → o < P.objects → set o ≡ false → Alike m n o

abbrev pub AlikeIn : Policy → Objects → Contents → Contents → Type 0
AlikeIn P set m n = (o : ℕ) → o < P.objects → set o ≡ true → Alike m n o

-- Two controllers, loaded alike outside From, are alike in To after every series that is carried out on both:
-- nothing of what the objects of From held can be told from those of To.
abbrev pub Separated : Policy → Objects → Objects → Type 0
Separated P From To =
    (m n : Contents) → Possible P m → Possible P n → AlikeOutside P From m n →
    (series : Series) → PossibleSeries series →
    AlikeIn P To (after P (loaded m) series).contents (after P (loaded n) series).contents

-- the same for contents of any length and numbers of any size in place of bytes
abbrev pub SeparatedFreely : Policy → Objects → Objects → Type 0
SeparatedFreely P From To =
    (m n : Contents) → AlikeOutside P From m n →
    (series : Series) →
    AlikeIn P To (after P (loaded m) series).contents (after P (loaded n) series).contents

-- the one-type case: all objects of type A, and all of type B
abbrev pub TypesUnchained : Policy → ℕ → ℕ → Type 0
TypesUnchained P A B = NoChain P (of_type P A) (of_type P B)

abbrev pub TypesSeparated : Policy → ℕ → ℕ → Type 0
TypesSeparated P A B = Separated P (of_type P A) (of_type P B)

-- ── The theorem ──

-- for every policy and every two types, also one type twice
abbrev pub TypesSeparatedExactly : Type 0
TypesSeparatedExactly = (P : Policy) (A B : ℕ) → TypesUnchained P A B ↔ TypesSeparated P A B

abbrev pub SetsSeparatedExactly : Type 0
SetsSeparatedExactly = (P : Policy) (From To : Objects) → NoChain P From To ↔ Separated P From To

abbrev pub SetsSeparatedFreely : Type 0
SetsSeparatedFreely = (P : Policy) (From To : Objects) → NoChain P From To ↔ SeparatedFreely P From To
