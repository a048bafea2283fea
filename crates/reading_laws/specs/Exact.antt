-- What an outcome of reading says of the text.
use Rattle.std.specs.Prelude.{◌≡◌, ℕ, ◌≤◌, List, [], ◌∷◌, ◌++◌, length, Ok, Err}
use Rattle.scan.specs.Lex.{tokens_of}
use Rattle.scan.specs.Tokens.{Piece, Said}
use Rattle.scan.specs.Tokens.Piece.{at}
use Rattle.reader.specs.Composed.{Composed}
use Rattle.reader.specs.Reading.{Outcome, read}
use Rattle.reader.specs.Reading.Outcome.{tables, fault}
use Rattle.reader.specs.Statements.{on_token}
use Rattle.reader.specs.declared.position.Position.{Position}
use Rattle.reader.specs.declared.position.Position.TheVariants.{Start}
use Rattle.reader.specs.declared.reason.Reason.{Reason}

-- each of the tokens is taken, and together they lead from c at position p to d at position q
abbrev pub Taken : Composed → Position → List Piece → Composed → Position → Type 0
Taken c p [] d q = (c ≡ d) × (p ≡ q)
Taken c p (at place said ∷ ts) d q = (next : Composed × Position) × (on_token c p said ≡ Ok next) × Taken next.0 next.1 ts d q

-- Among the tokens stands one at this place that is refused for this reason, and all before it are taken.
pub record FirstRefused (c : Composed) (p : Position) (ts : List Piece) (reason : Reason) (place : ℕ) : Type 0 where
  pub before : List Piece
  pub said : Said
  pub behind : List Piece
  pub stands : ts ≡ before ++ at place said ∷ behind
  -- what the tokens before it lead to
  pub composed : Composed
  pub position : Position
  pub taken : Taken c p before composed position
  pub refused : on_token composed position said ≡ Err reason

-- Tables: every token is taken, and the last line is whole. A fault: its place is within the text or at its end, and the
-- text's first refused token stands there.
abbrev pub Exact : Composed → List ℕ → Outcome → Type 0
Exact c text (tables d) = Taken c Start (tokens_of text) d Start
Exact c text (fault reason place) = (place ≤ length text) × FirstRefused c Start (tokens_of text) reason place

-- a text comes to an outcome exactly if that outcome says what is so of the text
abbrev pub ReadingIsExact : Type 0
ReadingIsExact = (c : Composed) (text : List ℕ) (o : Outcome) → (read c text ≡ o → Exact c text o) × (Exact c text o → read c text ≡ o)
