-- A text is read line by line.
use Rattle.std.specs.Prelude.{◌≡◌, ℕ, ◌+◌, false, List, [], ◌∷◌, ◌++◌, length}
use Rattle.std.specs.List.{AllByRecursion}
use Rattle.scan.specs.declared.step.Mode.{Mode}
use Rattle.scan.specs.declared.step.Mode.TheVariants as mode
use Rattle.scan.specs.declared.token.Mark.TheVariants as mark
use Rattle.scan.specs.Tokens.{is_stray}
use Rattle.scan.specs.Tokens.Piece.{at}
use Rattle.scan.specs.Tokens.Said.{sign}
use Rattle.scan.specs.Lex.{lex, tokens_of}

-- all but the last
abbrev pub front : {X : Type 0} → List X → List X
front [] = []
front (t ∷ []) = []
front (t ∷ u ∷ us) = t ∷ front (u ∷ us)

-- Behind a line feed scanning begins anew, and what comes before it is read without a look beyond it:
-- the tokens of u, a line feed and v are those of u and a line feed, but for their last, and then those of v.
abbrev pub LinesAreReadOneByOne : Type 0
LinesAreReadOneByOne = (m : Mode) (p : ℕ) (u v : List ℕ) → lex m p (u ++ 10 ∷ v) ≡ front (lex m p (u ++ 10 ∷ [])) ++ lex mode.Blank (p + length u + 1) v

-- no byte of the text is stray
abbrev pub Clean : List ℕ → Type 0
Clean text = AllByRecursion (λ t. is_stray t ≡ false) (tokens_of text)

-- The tokens of two texts with a line feed between them are those of the one, with the end of a line in place of the
-- last, and then those of the other. The first must be clean: a backslash at its end would take the line feed away.
abbrev pub TextsJoinByALineFeed : Type 0
TextsJoinByALineFeed = (u v : List ℕ) → Clean u → tokens_of (u ++ 10 ∷ v) ≡ front (tokens_of u) ++ at (length u) (sign mark.End) ∷ lex mode.Blank (length u + 1) v
