-- The order of the tokens.
use Rattle.std.specs.Prelude.{◌≡◌, ℕ, ◌+◌, ◌<◌, ◌≤◌, false, List, [], ◌∷◌, ◌++◌, length}
use Rattle.std.specs.List.{AllByRecursion}
use Rattle.scan.specs.declared.token.Mark.TheVariants as mark
use Rattle.scan.specs.Tokens.{Piece, is_last, offset}
use Rattle.scan.specs.Tokens.Piece.{at}
use Rattle.scan.specs.Tokens.Said.{sign}
use Rattle.scan.specs.Lex.{tokens_of}
use Rattle.scan.specs.Lineation.{front}

-- the first place is low or past it, and each is past the one before it
abbrev pub Rising : ℕ → List Piece → Type 0
Rising low [] = Unit {0}
Rising low (t ∷ ts) = (low ≤ offset t) × Rising (offset t + 1) ts

-- The places rise. The text's end is the last token, at the text's length, and no other token is it; the others are within the text.
pub record InOrder (text : List ℕ) : Type 0 where
  pub rising : Rising 0 (tokens_of text)
  pub ends : tokens_of text ≡ front (tokens_of text) ++ at (length text) (sign mark.Last) ∷ []
  pub once : AllByRecursion (λ t. is_last t ≡ false) (front (tokens_of text))
  pub within : AllByRecursion (λ t. offset t < length text) (front (tokens_of text))

abbrev pub TokensAreInOrder : Type 0
TokensAreInOrder = (text : List ℕ) → InOrder text
