-- What each mark stands for.
use Rattle.std.specs.Prelude.{◌≡◌, ℕ, ◌+◌, ◌<◌, false, List, length, ◌≢◌, slice_index}
use Rattle.std.specs.List.{AllByRecursion}
use Rattle.scan.specs.declared.token.Mark.{Mark}
use Rattle.scan.specs.declared.token.Mark.TheVariants as mark
use Rattle.scan.specs.Bytes.{word_byte}
use Rattle.scan.specs.Tokens.{Piece}
use Rattle.scan.specs.Tokens.Piece.{at}
use Rattle.scan.specs.Tokens.Said.{word, sign}
use Rattle.scan.specs.Lex.{tokens_of}

-- The byte at place p is no byte of a word, no bracket, begins no comment, ends no line and is no blank space:
-- neither space nor tab, nor a backslash with a line feed directly behind it.
pub record StrayAt (text : List ℕ) (p : ℕ) : Type 0 where
  pub within : p < length text
  pub unworded : word_byte (slice_index text p) ≡ false
  pub unopen : slice_index text p ≢ 40
  pub unclose : slice_index text p ≢ 41
  pub unhash : slice_index text p ≢ 35
  pub unfeed : slice_index text p ≢ 10
  pub unspace : slice_index text p ≢ 32
  pub untab : slice_index text p ≢ 9
  pub unjoined : slice_index text p ≡ 92 → slice_index text (p + 1) ≢ 10

abbrev pub MarkAt : List ℕ → ℕ → Mark → Type 0
MarkAt text p mark.Open = slice_index text p ≡ 40
MarkAt text p mark.Close = slice_index text p ≡ 41
MarkAt text p mark.End = slice_index text p ≡ 10
MarkAt text p mark.Last = p ≡ length text
MarkAt text p mark.Stray = StrayAt text p

abbrev pub StandsIfMark : List ℕ → Piece → Type 0
StandsIfMark text (at p (word w)) = Unit {0}
StandsIfMark text (at p (sign g)) = MarkAt text p g

abbrev pub MarksStandForBytes : Type 0
MarksStandForBytes = (text : List ℕ) → AllByRecursion (StandsIfMark text) (tokens_of text)
