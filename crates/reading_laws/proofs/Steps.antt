-- Reading and scanning by the first step.
use Rattle.std.proofs.Common.{◌≡◌, ℕ, List, ◌∷◌, Ok, Err, refl}
use Rattle.scan.specs.Tokens.{Piece, Said}
use Rattle.scan.specs.Tokens.Piece.{at}
use Rattle.reader.specs.Composed.{Composed}
use Rattle.reader.specs.Reading.{Outcome, reading}
use Rattle.reader.specs.Reading.Outcome.{fault}
use Rattle.reader.specs.Statements.{Next, on_token}
use Rattle.reader.specs.declared.position.Position.{Position}

-- the outcome by what the first token comes to
abbrev pub reading_by : Next → ℕ → List Piece → Outcome
reading_by (Ok next) place ts = reading next.0 next.1 ts
reading_by (Err e) place ts = fault e place

reading_by_lem : (n : Next) (c : Composed) (p : Position) (place : ℕ) (s : Said) (ts : List Piece) → on_token c p s ≡ n → reading c p (at place s ∷ ts) ≡ reading_by n place ts
unfolding reading
reading_by_lem (Ok next) c p place s ts e = rw (e, reading)
reading_by_lem (Err why) c p place s ts e = rw (e, reading)

pub reading-cons : (c : Composed) (p : Position) (place : ℕ) (s : Said) (ts : List Piece) → reading c p (at place s ∷ ts) ≡ reading_by (on_token c p s) place ts
reading-cons c p place s ts = reading_by_lem (on_token c p s) c p place s ts refl
