-- Tokens with their places, and what it is to read one.
use Rattle.std.specs.Prelude.{◌≡◌, ℕ, ◌+◌, Bool, true, false, if◌then◌else◌, List, [], ◌∷◌, length}
use Rattle.scan.specs.declared.token.Mark.{Mark}
use Rattle.scan.specs.declared.token.Mark.TheVariants as mark
use Rattle.scan.specs.declared.token.Token.{Token}
use Rattle.scan.specs.declared.token.Token.TheVariants as token
use Rattle.scan.specs.declared.token.Placed.{Placed}

-- a word with its bytes, or a mark
pub data Said : Type 0 where
  word : List ℕ → Said
  sign : Mark → Said

-- what is said, and its place, a byte offset
pub data Piece : Type 0 where
  at : ℕ → Said → Piece

-- a token of the code as one of these
abbrev pub said : Token → Said
said (token.Word w) = word w.now
said (token.Sign k) = sign k

abbrev pub piece : Placed → Piece
piece t = at t.place (said t.token)

abbrev pub offset : Piece → ℕ
offset (at p s) = p

abbrev pub is_last : Piece → Bool
is_last (at p (word w)) = false
is_last (at p (sign mark.Open)) = false
is_last (at p (sign mark.Close)) = false
is_last (at p (sign mark.End)) = false
is_last (at p (sign mark.Last)) = true
is_last (at p (sign mark.Stray)) = false

-- the place behind what is said: the text's end takes no byte
abbrev pub behind : Piece → ℕ
behind (at p (word w)) = p + length w
behind (at p (sign k)) = if is_last (at p (sign k)) then p else p + 1

abbrev pub is_stray : Piece → Bool
is_stray (at p (word w)) = false
is_stray (at p (sign mark.Open)) = false
is_stray (at p (sign mark.Close)) = false
is_stray (at p (sign mark.End)) = false
is_stray (at p (sign mark.Last)) = false
is_stray (at p (sign mark.Stray)) = true

-- From the tokens ts the token t was read, and us are to come. The last one stays to come, however often it is read.
pub record Gives (ts : List Piece) (t : Piece) (us : List Piece) : Type 0 where
  pub more : is_last t ≡ false → ts ≡ t ∷ us
  pub last : is_last t ≡ true → (ts ≡ t ∷ []) × (us ≡ ts)
