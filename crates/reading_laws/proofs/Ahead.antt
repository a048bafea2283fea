-- A fault is found without a look at the lines behind it.
use Rattle.std.proofs.Common.{◌≡◌, ℕ, ◌+◌, ◌<◌, ◌≤◌, List, [], ◌∷◌, ◌++◌, length, Ok, Err, sym, ap, ◌∙◌, arith}
use Rattle.std.proofs.ByRecursion.{All-weaker}
use Rattle.std.specs.List.{AllByRecursion}
use Rattle.scan.specs.declared.step.Mode.TheVariants as mode
use Rattle.scan.specs.Lex.{lex, tokens_of}
use Rattle.scan.specs.Lineation.{front, LinesAreReadOneByOne}
use Rattle.scan.specs.Tokens.{Piece, offset}
use Rattle.scan.specs.Tokens.Piece.{at}
use Rattle.reader.specs.Composed.{Composed}
use Rattle.reader.specs.Reading.{reading}
use Rattle.reader.specs.Reading.Outcome.{tables, fault}
use Rattle.reader.specs.Statements.{on_token}
use Rattle.reader.specs.declared.position.Position.{Position}
use Rattle.reader.specs.declared.position.Position.TheVariants.{Start}
use Rattle.reader.specs.declared.reason.Reason.{Reason}
use Rattle.reading_laws.specs.Ahead.{FirstFaultDoesNotLookAhead}
use Rattle.reader.proofs.Taking.{reading_ends}
use Rattle.reading_laws.proofs.Steps.{reading_by, reading-cons}
use Rattle.reading_laws.proofs.Places.{places_from}

tables_are_no_fault : {c : Composed} {e : Reason} {place : ℕ} → tables c ≡ fault e place → ⊥
tables_are_no_fault h = let z : ◌≡◌ {A = ℕ} 0 1 = cc in omega arith

fault_places : {e f : Reason} {p q : ℕ} → fault e p ≡ fault f q → p ≡ q
fault_places h = cc

-- no fault lies before all tokens
no_fault_before : (c : Composed) (p : Position) (ts : List Piece) (e : Reason) (place : ℕ) → AllByRecursion (λ t. place < offset t) ts → reading c p ts ≡ fault e place → ⊥
no_fault_before c p [] e place all h = tables_are_no_fault (sym (reading_ends c p) ∙ h)
no_fault_before c p (at q s ∷ ts) e place all h =
    (elim (on_token c p s) as (λ x. reading_by x q ts ≡ fault e place → ⊥) [
      | Ok next ↦ λ g. no_fault_before next.0 next.1 ts e place all.1 g
      | Err f ↦ λ g. let same = fault_places g in omega (arith, all.0)
    ]) (sym (reading-cons c p q s ts) ∙ h)

-- tokens that all lie behind a fault play no part in it
fault_stands_without : (c : Composed) (p : Position) (ts us vs : List Piece) (e : Reason) (place : ℕ) → AllByRecursion (λ t. place < offset t) us → reading c p (ts ++ us) ≡ fault e place → reading c p (ts ++ vs) ≡ fault e place
fault_stands_without c p [] us vs e place all h = absurd (no_fault_before c p us e place all h)
fault_stands_without c p (at q s ∷ ts) us vs e place all h =
    reading-cons c p q s (ts ++ vs)
    ∙ (elim (on_token c p s) as (λ x. reading_by x q (ts ++ us) ≡ fault e place → reading_by x q (ts ++ vs) ≡ fault e place) [
      | Ok next ↦ λ g. fault_stands_without next.0 next.1 ts us vs e place all g
      | Err f ↦ λ g. g
    ]) (sym (reading-cons c p q s (ts ++ us)) ∙ h)

pub first_fault_does_not_look_ahead : LinesAreReadOneByOne → FirstFaultDoesNotLookAhead
first_fault_does_not_look_ahead lines c u v w e place h le =
    let behind = All-weaker (λ t. 0 + length u + 1 ≤ offset t) (λ t. place < offset t) (λ t from. omega arith) (lex mode.Blank (0 + length u + 1) v) (places_from (0 + length u + 1) v) in
    ap (reading c Start) (lines mode.Blank 0 u w)
    ∙ fault_stands_without c Start (front (tokens_of (u ++ 10 ∷ []))) _ (lex mode.Blank (0 + length u + 1) w) e place behind (ap (reading c Start) (sym (lines mode.Blank 0 u v)) ∙ h)
