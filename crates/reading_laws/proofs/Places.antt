-- The same bytes further on give the same tokens, and the same outcome but for a fault's place.
use Rattle.std.proofs.Common.{◌≡◌, ℕ, ◌+◌, ◌≤◌, List, [], ◌∷◌, map, Ok, Err, sym, refl, ap, ◌∙◌, subst, zero-add, arith}
use Rattle.std.specs.List.{AllByRecursion}
use Rattle.scan.specs.declared.step.Mode.{Mode}
use Rattle.scan.specs.declared.step.Mode.TheVariants as mode
use Rattle.scan.specs.Bytes.{class_at}
use Rattle.scan.specs.Steps.{deed}
use Rattle.scan.specs.Steps.Deed.{pass, begin, give}
use Rattle.scan.specs.Tokens.{Piece, offset}
use Rattle.scan.specs.Tokens.Piece.{at}
use Rattle.scan.specs.Tokens.Said.{word, sign}
use Rattle.scan.specs.Lex.{run, lex, tokens_of}
use Rattle.reader.specs.Composed.{Composed}
use Rattle.reader.specs.Reading.{reading}
use Rattle.reader.specs.Statements.{on_token}
use Rattle.reader.specs.declared.position.Position.{Position}
use Rattle.reading_laws.specs.Turns.{further}
use Rattle.scan.proofs.LexSteps.{lex_by, lex-nil, lex-cons}
use Rattle.reader.proofs.Taking.{reading_ends}
use Rattle.reading_laws.proofs.Steps.{reading_by, reading-cons}

-- the token, n bytes further on
abbrev pub moved : ℕ → Piece → Piece
moved n (at p s) = at (p + n) s

lex_further : (n : ℕ) (m : Mode) (p : ℕ) (bs : List ℕ) → lex m (p + n) bs ≡ map (moved n) (lex m p bs)
lex_further n m p [] = lex-nil m (p + n) ∙ ap (map (moved n)) (sym (lex-nil m p))
lex_further n m p (b ∷ bs) =
    let on : p + n + 1 ≡ p + 1 + n = omega arith in
    lex-cons m (p + n) b bs
    ∙ elim (deed m (class_at b bs)) as (λ d. lex_by d (p + n) b bs ≡ map (moved n) (lex_by d p b bs)) [
      | pass k ↦ ap (λ q. lex k q bs) on ∙ lex_further n k (p + 1) bs
      | begin ↦ ap (λ l. at (p + n) (word (b ∷ run bs)) ∷ l) (ap (λ q. lex mode.Word q bs) on ∙ lex_further n mode.Word (p + 1) bs)
      | give g ↦ ap (λ l. at (p + n) (sign g) ∷ l) (ap (λ q. lex mode.Blank q bs) on ∙ lex_further n mode.Blank (p + 1) bs)
    ]
    ∙ ap (map (moved n)) (sym (lex-cons m p b bs))

pub tokens_further : (n : ℕ) (v : List ℕ) → lex mode.Blank n v ≡ map (moved n) (tokens_of v)
tokens_further n v = ap (λ k. lex mode.Blank k v) (sym (zero-add n)) ∙ lex_further n mode.Blank 0 v

pub reading-further : (n : ℕ) (c : Composed) (p : Position) (ts : List Piece) → reading c p (map (moved n) ts) ≡ further n (reading c p ts)
reading-further n c p [] = reading_ends c p ∙ ap (further n) (sym (reading_ends c p))
reading-further n c p (at place s ∷ ts) =
    reading-cons c p (place + n) s (map (moved n) ts)
    ∙ elim (on_token c p s) as (λ x. reading_by x (place + n) (map (moved n) ts) ≡ further n (reading_by x place ts)) [
      | Ok next ↦ reading-further n next.0 next.1 ts
      | Err e ↦ refl
    ]
    ∙ ap (further n) (sym (reading-cons c p place s ts))

moved_from : (n : ℕ) (ts : List Piece) → AllByRecursion (λ t. n ≤ offset t) (map (moved n) ts)
moved_from n [] = tt
moved_from n (at p s ∷ ts) = (omega arith, moved_from n ts)

pub places_from : (n : ℕ) (v : List ℕ) → AllByRecursion (λ t. n ≤ offset t) (lex mode.Blank n v)
places_from n v = subst (AllByRecursion (λ t. n ≤ offset t)) (sym (tokens_further n v)) (moved_from n (tokens_of v))
