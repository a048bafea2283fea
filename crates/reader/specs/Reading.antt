-- What a module text comes to, read after others: tables, or its first fault.
use Rattle.std.specs.Prelude.{ℕ, List, [], ◌∷◌, Ok, Err}
use Rattle.scan.specs.Lex.{tokens_of}
use Rattle.scan.specs.Tokens.{Piece}
use Rattle.scan.specs.Tokens.Piece.{at}
use Rattle.reader.specs.Composed.{Composed}
use Rattle.reader.specs.Statements.{on_token}
use Rattle.reader.specs.declared.position.Position.{Position}
use Rattle.reader.specs.declared.position.Position.TheVariants.{Start}
use Rattle.reader.specs.declared.reason.Reason.{Reason}

pub data Outcome : Type 0 where
  tables : Composed → Outcome
  -- the reason, and the place of the token where it was found
  fault : Reason → ℕ → Outcome

-- Tokens are taken in order from a position of a line on. The first that is refused ends the reading.
unfoldable pub reading : Composed → Position → List Piece → Outcome
reading c p [] = tables c
reading c p (at place said ∷ ts) = elim (on_token c p said) [ Ok next ↦ reading next.0 next.1 ts | Err e ↦ fault e place ]

-- a text comes to this, where c is what the modules before it come to
abbrev pub read : Composed → List ℕ → Outcome
read c text = reading c Start (tokens_of text)
