-- Two texts with a line feed between them are read as the one and then the other.
use Rattle.std.proofs.Common.{◌≡◌, ℕ, ◌+◌, false, List, [], ◌∷◌, length, Ok, refl, ap, ◌∙◌}
use Rattle.std.specs.List.{AllByRecursion}
use Rattle.scan.specs.declared.step.Mode.TheVariants as mode
use Rattle.scan.specs.declared.token.Mark.TheVariants as mark
use Rattle.scan.specs.Lex.{lex, tokens_of}
use Rattle.scan.specs.Lineation.{front, Clean, TextsJoinByALineFeed}
use Rattle.scan.specs.Order.{TokensAreInOrder}
use Rattle.scan.specs.Tokens.{Piece, Said, is_stray}
use Rattle.scan.specs.Tokens.Piece.{at}
use Rattle.scan.specs.Tokens.Said.{word, sign}
use Rattle.reader.specs.Composed.{Composed}
use Rattle.reader.specs.Reading.{reading, read}
use Rattle.reader.specs.Reading.Outcome.{tables}
use Rattle.reader.specs.Statements.{Fit, fit, meet, then, or_refuse, misfit, on_token}
use Rattle.reader.specs.Statements.Fit.{none, line_end, opening, closing}
use Rattle.reader.specs.declared.position.Position.{Position}
use Rattle.reader.specs.declared.position.Position.TheVariants.{Start}
use Rattle.reading_laws.specs.Exact.{Taken}
use Rattle.reading_laws.specs.Turns.{TextsJoinedByALineFeedAreReadInTurn}
use Rattle.reading_laws.proofs.Exact.{taken_goes_on, read_is_whole, reading_is_exact, refused_is_not_taken}
use Rattle.reading_laws.proofs.Places.{tokens_further, reading-further}
use Rattle.reading_laws.proofs.Steps.{reading_by, reading-cons}

-- ── A text that is read is clean ──

stray_fits_nowhere : (f : Fit) (c : Composed) (x : Composed × Position) → then (or_refuse (misfit mark.Stray) (meet f mark.Stray)) (λ next. Ok (c, next)) ≡ Ok x → ⊥
stray_fits_nowhere none c x h = refused_is_not_taken h
stray_fits_nowhere line_end c x h = refused_is_not_taken h
stray_fits_nowhere (opening next) c x h = refused_is_not_taken h
stray_fits_nowhere (closing next) c x h = refused_is_not_taken h

not_stray : (s : Said) (c : Composed) (p : Position) (place : ℕ) (x : Composed × Position) → on_token c p s ≡ Ok x → is_stray (at place s) ≡ false
not_stray (word w) c p place x h = refl
not_stray (sign mark.Open) c p place x h = refl
not_stray (sign mark.Close) c p place x h = refl
not_stray (sign mark.End) c p place x h = refl
not_stray (sign mark.Last) c p place x h = refl
not_stray (sign mark.Stray) c p place x h = absurd (stray_fits_nowhere (fit p) c x h)

taken_is_clean : (c : Composed) (p : Position) (ts : List Piece) (d : Composed) (q : Position) → Taken c p ts d q → AllByRecursion (λ t. is_stray t ≡ false) ts
taken_is_clean c p [] d q t = tt
taken_is_clean c p (at place s ∷ ts) d q (next, e, t) = (not_stray s c p place next e, taken_is_clean next.0 next.1 ts d q t)

read_is_clean : TokensAreInOrder → (c : Composed) (text : List ℕ) (d : Composed) → read c text ≡ tables d → Clean text
read_is_clean order c text d h = taken_is_clean c Start (tokens_of text) d Start ((reading_is_exact order c text (tables d)).0 h)

-- ── In turn ──

pub texts_joined_by_a_line_feed_are_read_in_turn : TokensAreInOrder → TextsJoinByALineFeed → TextsJoinedByALineFeedAreReadInTurn
texts_joined_by_a_line_feed_are_read_in_turn order joined c d u v h =
    let whole = read_is_whole order c u d h in
    let rest = lex mode.Blank (length u + 1) v in
    ap (reading c Start) (joined u v (read_is_clean order c u d h))
    ∙ taken_goes_on c Start (front (tokens_of u)) (at (length u) (sign mark.End) ∷ rest) d whole.before whole.taken
    ∙ reading-cons d whole.before (length u) (sign mark.End) rest
    ∙ ap (λ x. reading_by x (length u) rest) whole.feeds
    ∙ ap (reading d Start) (tokens_further (length u + 1) v)
    ∙ reading-further (length u + 1) d Start (tokens_of v)
