-- Words are longest runs.
use Rattle.std.specs.Prelude.{◌≡◌, ℕ, ◌+◌, ◌<◌, ◌≤◌, true, false, List, length, take, drop, slice_index}
use Rattle.std.specs.List.{AllByRecursion}
use Rattle.scan.specs.Bytes.{word_byte}
use Rattle.scan.specs.Tokens.{Piece}
use Rattle.scan.specs.Tokens.Piece.{at}
use Rattle.scan.specs.Tokens.Said.{word, sign}
use Rattle.scan.specs.Lex.{tokens_of}

-- The bytes w stand in the text at place p, are one byte of a word or more, and could not be longer:
-- the byte before them, if there is one, and the byte behind them, if there is one, are no bytes of a word.
pub record LongestRun (text : List ℕ) (p : ℕ) (w : List ℕ) : Type 0 where
  pub here : take (length w) (drop p text) ≡ w
  pub some : 1 ≤ length w
  pub bytes : AllByRecursion (λ b. word_byte b ≡ true) w
  pub before : (q : ℕ) → q + 1 ≡ p → word_byte (slice_index text q) ≡ false
  pub behind : p + length w < length text → word_byte (slice_index text (p + length w)) ≡ false

abbrev pub RunIfWord : List ℕ → Piece → Type 0
RunIfWord text (at p (word w)) = LongestRun text p w
RunIfWord text (at p (sign g)) = Unit {0}

abbrev pub WordsAreLongestRuns : Type 0
WordsAreLongestRuns = (text : List ℕ) → AllByRecursion (RunIfWord text) (tokens_of text)
