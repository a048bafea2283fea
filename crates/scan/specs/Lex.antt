-- The tokens of a text.
use Rattle.std.specs.Prelude.{ℕ, ◌+◌, true, false, List, [], ◌∷◌, drop}
use Rattle.scan.specs.declared.step.Mode.{Mode}
use Rattle.scan.specs.declared.step.Mode.TheVariants as mode
use Rattle.scan.specs.declared.token.Mark.TheVariants as mark
use Rattle.scan.specs.declared.scanner.Scanner.{Scanner}
use Rattle.scan.specs.Bytes.{class_at, word_byte}
use Rattle.scan.specs.Steps.{deed}
use Rattle.scan.specs.Steps.Deed.{pass, begin, give}
use Rattle.scan.specs.Tokens.{Piece}
use Rattle.scan.specs.Tokens.Piece.{at}
use Rattle.scan.specs.Tokens.Said.{word, sign}

-- the bytes of a word with which the bytes begin
abbrev pub run : List ℕ → List ℕ
run [] = []
run (b ∷ bs) = elim (word_byte b) [ true ↦ b ∷ run bs | false ↦ [] ]

-- the tokens of the bytes, read in mode m, where the first byte's place is p
unfoldable pub lex : Mode → ℕ → List ℕ → List Piece
lex m p [] = at p (sign mark.Last) ∷ []
lex m p (b ∷ bs) =
    elim (deed m (class_at b bs)) [
      | pass n ↦ lex n (p + 1) bs
      | begin ↦ at p (word (b ∷ run bs)) ∷ lex mode.Word (p + 1) bs
      | give g ↦ at p (sign g) ∷ lex mode.Blank (p + 1) bs
    ]

-- the tokens of a text
abbrev pub tokens_of : List ℕ → List Piece
tokens_of text = lex mode.Blank 0 text

-- the tokens of a text from a place on
abbrev pub tokens_from : List ℕ → ℕ → List Piece
tokens_from text p = lex mode.Blank p (drop p text)

-- the tokens that a scanner has before it
abbrev pub tokens : Scanner → List Piece
tokens s = tokens_from s.text.now s.place
