-- Token by token.
use Rattle.std.proofs.Common.{◌≡◌, ℕ, Bool, true, false, List, [], ◌∷◌, Ok, Err, sym, refl, ap, ◌∙◌, subst}
use Rattle.scan.specs.Tokens.{Piece, Said, Gives, is_last}
use Rattle.scan.specs.Tokens.Piece.{at}
use Rattle.reader.specs.Composed.{Composed}
use Rattle.reader.specs.Reading.{Outcome, reading, tables, fault}
use Rattle.reader.specs.Statements.{on_token}
use Rattle.reader.specs.Stops.{Steps, Ends, halt_at}
use Rattle.reader.specs.declared.position.Position.{Position}
use Rattle.reader.specs.declared.reason.Reason.{Reason}
use Rattle.reader.specs.declared.stop.Halt.{Halt}
use Rattle.reader.specs.declared.stop.Stop.{Stop}
use Rattle.reader.specs.declared.stop.Stop.TheVariants as stop

module _ (c : Composed) (p : Position) (place : ℕ) (s : Said) (ts : List Piece) where
  pub reading_goes : (next : Composed × Position) → on_token c p s ≡ Ok next → reading c p (at place s ∷ ts) ≡ reading next.0 next.1 ts
  unfolding reading
  reading_goes next e = rw (e, reading)

  pub reading_stops : (e : Reason) → on_token c p s ≡ Err e → reading c p (at place s ∷ ts) ≡ fault e place
  unfolding reading
  reading_stops e h = rw (h, reading)

pub reading_ends : (c : Composed) (p : Position) → reading c p [] ≡ tables c
unfolding reading
reading_ends c p = refl

module _ (due : Outcome) (c : Composed) (p : Position) (ts us : List Piece) (place : ℕ) (s : Said) (inv : due ≡ reading c p ts) (gives : Gives ts (at place s) us) where
  -- the token stands first
  first : (vs : List Piece) × (ts ≡ at place s ∷ vs)
  first = by (is_last (at place s)) refl
    where
      by : (b : Bool) → is_last (at place s) ≡ b → (vs : List Piece) × (ts ≡ at place s ∷ vs)
      by true e = ([], (gives.last e).0)
      by false e = (us, gives.more e)

  pub goes_on_lem : (after : Composed) (next : Position) → on_token c p s ≡ Ok (after, next) → is_last (at place s) ≡ false → due ≡ reading after next us
  goes_on_lem after next e l = inv ∙ ap (reading c p) (gives.more l) ∙ reading_goes c p place s us (after, next) e

  pub comes_to_an_end : (after : Composed) (next : Position) → on_token c p s ≡ Ok (after, next) → is_last (at place s) ≡ true → due ≡ tables after
  comes_to_an_end after next e l = inv ∙ ap (reading c p) (gives.last l).0 ∙ reading_goes c p place s [] (after, next) e ∙ reading_ends after next

  stopped : (why : Stop) (after : Composed) → Steps (on_token c p s) (Err why) after → Ends due (Err (halt_at why place)) after
  stopped stop.Memory after h = tt
  stopped (stop.Refused e) after h = inv ∙ ap (reading c p) first.1 ∙ reading_stops c p place s first.0 e h

  pub stops : (why : Stop) (after : Composed) (found : Halt) → found ≡ halt_at why place → Steps (on_token c p s) (Err why) after → Ends due (Err found) after
  stops why after found e h = subst (λ f. Ends due (Err f) after) (sym e) (stopped why after h)
