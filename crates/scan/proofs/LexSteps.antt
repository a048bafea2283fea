-- The tokens of a byte and those behind it, by what the byte does.
use Rattle.std.proofs.Common.{◌≡◌, ℕ, ◌+◌, Bool, true, false, List, [], ◌∷◌, sym, refl, ap, ◌∙◌, arith}
use Rattle.scan.specs.declared.step.Mode.{Mode}
use Rattle.scan.specs.declared.step.Mode.TheVariants as mode
use Rattle.scan.specs.declared.token.Mark.TheVariants as mark
use Rattle.scan.specs.Bytes.{class_at, word_byte}
use Rattle.scan.specs.Steps.{Deed, deed}
use Rattle.scan.specs.Steps.Deed.{pass, begin, give}
use Rattle.scan.specs.Tokens.{Piece}
use Rattle.scan.specs.Tokens.Piece.{at}
use Rattle.scan.specs.Tokens.Said.{word, sign}
use Rattle.scan.specs.Lex.{run, lex}
use Rattle.scan.specs.Lineation.{front}
use Rattle.std.proofs.lemmas.Bool.{true≢false}

pub run_more : (b : ℕ) (bs : List ℕ) → word_byte b ≡ true → run (b ∷ bs) ≡ b ∷ run bs
run_more b bs e = grind arith

pub run_ends : (b : ℕ) (bs : List ℕ) → word_byte b ≡ false → run (b ∷ bs) ≡ []
run_ends b bs e = grind arith

pub lex-nil : (m : Mode) (p : ℕ) → lex m p [] ≡ at p (sign mark.Last) ∷ []
unfolding lex
lex-nil m p = refl

-- the tokens by what the first byte does
abbrev pub lex_by : Deed → ℕ → ℕ → List ℕ → List Piece
lex_by (pass n) p b bs = lex n (p + 1) bs
lex_by begin p b bs = at p (word (b ∷ run bs)) ∷ lex mode.Word (p + 1) bs
lex_by (give g) p b bs = at p (sign g) ∷ lex mode.Blank (p + 1) bs

by_deed : (d : Deed) (m : Mode) (p b : ℕ) (bs : List ℕ) → deed m (class_at b bs) ≡ d → lex m p (b ∷ bs) ≡ lex_by d p b bs
unfolding lex
by_deed (pass n) m p b bs e = rw (e, lex)
by_deed begin m p b bs e = rw (e, lex)
by_deed (give g) m p b bs e = rw (e, lex)

pub lex-cons : (m : Mode) (p b : ℕ) (bs : List ℕ) → lex m p (b ∷ bs) ≡ lex_by (deed m (class_at b bs)) p b bs
lex-cons m p b bs = by_deed (deed m (class_at b bs)) m p b bs refl

some : List Piece → Bool
some [] = false
some (t ∷ ts) = true

-- there is always a token left
lex-some : (m : Mode) (p : ℕ) (bs : List ℕ) → some (lex m p bs) ≡ true
unfolding some
lex-some m p [] = ap some (lex-nil m p)
lex-some m p (b ∷ bs) =
    ap some (lex-cons m p b bs)
    ∙ elim (deed m (class_at b bs)) as (λ d. some (lex_by d p b bs) ≡ true) [ pass n ↦ lex-some n (p + 1) bs | begin ↦ refl | give g ↦ refl ]

front-some : (t : Piece) (ts : List Piece) → some ts ≡ true → front (t ∷ ts) ≡ t ∷ front ts
unfolding some
front-some t [] h = absurd (true≢false (sym h))
front-some t (u ∷ us) h = refl

pub front-cons : (t : Piece) (m : Mode) (p : ℕ) (bs : List ℕ) → front (t ∷ lex m p bs) ≡ t ∷ front (lex m p bs)
front-cons t m p bs = front-some t (lex m p bs) (lex-some m p bs)
