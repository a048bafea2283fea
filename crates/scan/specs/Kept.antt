-- What of a text is hidden by comments and continuations, and that all else is in the tokens.
use Rattle.std.specs.Prelude.{◌≡◌, ℕ, ◌+◌, ◌<◌, ◌≤◌, Bool, true, false, if◌then◌else◌, List, length, take, fold, ◌==◌, slice_index}
use Rattle.std.specs.List.{ContainsAt as Has, AllByRecursion}
use Rattle.scan.specs.declared.token.Mark.TheVariants as mark
use Rattle.scan.specs.Bytes.{word_byte}
use Rattle.scan.specs.Tokens.{Piece}
use Rattle.scan.specs.Tokens.Piece.{at}
use Rattle.scan.specs.Tokens.Said.{word, sign}
use Rattle.scan.specs.Lex.{tokens_of}
use Rattle.scan.specs.Marks.{StrayAt}

-- a comment goes on behind the byte: it is `#`, or one went on before it, and it is no line feed
abbrev pub hidden_behind : Bool → ℕ → Bool
hidden_behind before b = if b == 10 then false else (if b == 35 then true else before)

-- the place is in a comment: `#` stands before it, with no line feed between
abbrev pub commented : List ℕ → ℕ → Bool
commented text p = fold hidden_behind false (take p text)

-- directly before the place stands no backslash, but perhaps in a comment
abbrev pub Unjoined : List ℕ → ℕ → Type 0
Unjoined text p = (q : ℕ) → q + 1 ≡ p → slice_index text q ≡ 92 → commented text q ≡ true

-- one of the tokens is a word that the byte at place p is in
pub record Covered (ts : List Piece) (p : ℕ) : Type 0 where
  pub start : ℕ
  pub bytes : List ℕ
  pub there : Has ts (at start (word bytes))
  pub low : start ≤ p
  pub high : p < start + length bytes

-- Outside comments every byte of a word is in a word, and every bracket and every stray byte is a token.
-- Every line feed ends a line, unless a backslash joins it.
pub record Kept (text : List ℕ) (p : ℕ) : Type 0 where
  pub words : commented text p ≡ false → word_byte (slice_index text p) ≡ true → Covered (tokens_of text) p
  pub opens : commented text p ≡ false → slice_index text p ≡ 40 → Has (tokens_of text) (at p (sign mark.Open))
  pub closes : commented text p ≡ false → slice_index text p ≡ 41 → Has (tokens_of text) (at p (sign mark.Close))
  pub strays : commented text p ≡ false → StrayAt text p → Has (tokens_of text) (at p (sign mark.Stray))
  pub ends : Unjoined text p → slice_index text p ≡ 10 → Has (tokens_of text) (at p (sign mark.End))

abbrev pub NothingIsLost : Type 0
NothingIsLost = (text : List ℕ) (p : ℕ) → p < length text → Kept text p

-- the token is not in a comment, and as the end of a line it is not joined
abbrev pub Seen : List ℕ → Piece → Type 0
Seen text (at p (word w)) = commented text p ≡ false
Seen text (at p (sign mark.Open)) = commented text p ≡ false
Seen text (at p (sign mark.Close)) = commented text p ≡ false
Seen text (at p (sign mark.End)) = Unjoined text p
Seen text (at p (sign mark.Last)) = Unit {0}
Seen text (at p (sign mark.Stray)) = commented text p ≡ false

abbrev pub NothingHiddenIsSeen : Type 0
NothingHiddenIsSeen = (text : List ℕ) → AllByRecursion (Seen text) (tokens_of text)
