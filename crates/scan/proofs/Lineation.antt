-- A text is read line by line.
use Rattle.std.proofs.Common.{◌≡◌, ℕ, ◌+◌, true, false, List, [], ◌∷◌, ◌++◌, length, sym, refl, ap, ◌∙◌, zero-add, arith}
use Rattle.std.specs.List.{AllByRecursion}
use Rattle.std.proofs.lemmas.Bool.{true≢false}
use Rattle.scan.specs.declared.step.Mode.{Mode}
use Rattle.scan.specs.declared.step.Mode.TheVariants as mode
use Rattle.scan.specs.declared.token.Mark.TheVariants as mark
use Rattle.scan.specs.Bytes.{class_of, class_at, feeds}
use Rattle.scan.specs.Steps.{Deed, deed}
use Rattle.scan.specs.Steps.Deed.{pass, begin, give}
use Rattle.scan.specs.Tokens.{Piece, is_stray}
use Rattle.scan.specs.Tokens.Piece.{at}
use Rattle.scan.specs.Tokens.Said.{word, sign}
use Rattle.scan.specs.Lex.{run, lex, tokens_of}
use Rattle.scan.specs.Lineation.{front, LinesAreReadOneByOne, TextsJoinByALineFeed}
use Rattle.scan.proofs.ByteLaws.{continued_feeds, word_not_continued, blank_not_continued}
use Rattle.scan.proofs.LexSteps.{run_more, run_ends, lex-nil, lex-cons, lex_by, front-cons}

feeds_before_feed : (u v w : List ℕ) → feeds (u ++ 10 ∷ v) ≡ feeds (u ++ 10 ∷ w)
feeds_before_feed [] v w = refl
feeds_before_feed (c ∷ u) v w = refl

run_before_feed : (u v w : List ℕ) → run (u ++ 10 ∷ v) ≡ run (u ++ 10 ∷ w)
run_before_feed [] v w = refl
run_before_feed (c ∷ u) v w = grind (arith, run_more, run_ends, run_before_feed u v w)

-- what a line feed leaves of the mode
feed_read : (m : Mode) (p : ℕ) (v : List ℕ) → lex m p (10 ∷ v) ≡ front (lex m p (10 ∷ [])) ++ lex mode.Blank (p + 1) v
feed_read m p v = grind (arith, lex-cons m p 10 v, lex-cons m p 10 [], lex-nil mode.Blank (p + 1))

pub lines_are_read_one_by_one : LinesAreReadOneByOne
lines_are_read_one_by_one m p [] v =
    let here : p + 0 + 1 ≡ p + 1 = omega arith in
    feed_read m p v ∙ ap (λ q. front (lex m p (10 ∷ [])) ++ lex mode.Blank q v) (sym here)
lines_are_read_one_by_one m p (b ∷ u) v =
    let same = ap (λ f. deed m (class_of b f)) (feeds_before_feed u v []) in
    let on : p + 1 + length u + 1 ≡ p + length (b ∷ u) + 1 = omega arith in
    lex-cons m p b (u ++ 10 ∷ v)
    ∙ ap (λ d. lex_by d p b (u ++ 10 ∷ v)) same
    ∙ elim (deed m (class_at b (u ++ 10 ∷ []))) as (λ d. lex_by d p b (u ++ 10 ∷ v) ≡ front (lex_by d p b (u ++ 10 ∷ [])) ++ lex mode.Blank (p + 1 + length u + 1) v) [
      | pass n ↦ lines_are_read_one_by_one n (p + 1) u v
      | begin ↦ (λ i. at p (word (b ∷ run_before_feed u v [] i)) ∷ lines_are_read_one_by_one mode.Word (p + 1) u v i) ∙ ap (λ l. l ++ lex mode.Blank (p + 1 + length u + 1) v) (sym (front-cons _ mode.Word (p + 1) (u ++ 10 ∷ [])))
      | give g ↦ ap (λ l. at p (sign g) ∷ l) (lines_are_read_one_by_one mode.Blank (p + 1) u v) ∙ ap (λ l. l ++ lex mode.Blank (p + 1 + length u + 1) v) (sym (front-cons _ mode.Blank (p + 1) (u ++ 10 ∷ [])))
    ]
    ∙ ap (λ l. front l ++ lex mode.Blank (p + 1 + length u + 1) v) (sym (lex-cons m p b (u ++ 10 ∷ [])))
    ∙ ap (λ q. front (lex m p (b ∷ (u ++ 10 ∷ []))) ++ lex mode.Blank q v) on

run_at_feed : (u v : List ℕ) → run (u ++ 10 ∷ v) ≡ run u
run_at_feed [] v = refl
run_at_feed (c ∷ u) v = grind (arith, run_at_feed u v)

abbrev AllClean : List Piece → Type 0
AllClean ts = AllByRecursion (λ t. is_stray t ≡ false) ts

-- a backslash at the end is stray, unless a comment hides it
clean_back : (m : Mode) (p : ℕ) → AllClean (lex m p (92 ∷ [])) → deed m (class_of 92 true) ≡ deed m (class_of 92 false)
clean_back mode.Blank p h = absurd (true≢false (rw (lex-cons mode.Blank p 92 []) at h).0)
clean_back mode.Word p h = absurd (true≢false (rw (lex-cons mode.Word p 92 []) at h).0)
clean_back mode.Comment p h = refl
clean_back mode.Continued p h = refl

-- so what comes behind a clean text does not change what its last byte does
same_deed : (m : Mode) (p b : ℕ) (u v : List ℕ) → AllClean (lex m p (b ∷ u)) → deed m (class_at b (u ++ 10 ∷ v)) ≡ deed m (class_at b u)
same_deed m p b (c ∷ u) v h = refl
same_deed m p b [] v h = grind (arith, clean_back m p)

-- a line feed ends the line, outside a continuation
feed_ends : (m : Mode) (p : ℕ) (v : List ℕ) → (m ≡ mode.Continued → ⊥) → lex m p (10 ∷ v) ≡ at p (sign mark.End) ∷ lex mode.Blank (p + 1) v
feed_ends m p v out = grind (arith, lex-cons m p 10 v)

pub joined_by_a_feed : (m : Mode) (p : ℕ) (u v : List ℕ) → (m ≡ mode.Continued → feeds u ≡ true) → AllClean (lex m p u) → lex m p (u ++ 10 ∷ v) ≡ front (lex m p u) ++ at (p + length u) (sign mark.End) ∷ lex mode.Blank (p + length u + 1) v
joined_by_a_feed m p [] v r h =
    let here : p + 0 ≡ p = omega arith in
    feed_ends m p v (λ c. true≢false (sym (r c)))
    ∙ ap (λ q. at q (sign mark.End) ∷ lex mode.Blank (q + 1) v) (sym here)
    ∙ ap (λ l. front l ++ at (p + 0) (sign mark.End) ∷ lex mode.Blank (p + 0 + 1) v) (sym (lex-nil m p))
joined_by_a_feed m p (b ∷ u) v r h =
    let on : p + 1 + length u ≡ p + length (b ∷ u) = omega arith in
    let Joined : Deed → Type 0 = λ d. deed m (class_at b u) ≡ d → AllClean (lex_by d p b u) → lex_by d p b (u ++ 10 ∷ v) ≡ front (lex_by d p b u) ++ at (p + 1 + length u) (sign mark.End) ∷ lex mode.Blank (p + 1 + length u + 1) v in
    let rest = at (p + 1 + length u) (sign mark.End) ∷ lex mode.Blank (p + 1 + length u + 1) v in
    lex-cons m p b (u ++ 10 ∷ v)
    ∙ ap (λ d. lex_by d p b (u ++ 10 ∷ v)) (same_deed m p b u v h)
    ∙ (elim (deed m (class_at b u)) as Joined [
      | pass n ↦ λ e c. joined_by_a_feed n (p + 1) u v (λ is. continued_feeds m b u (e ∙ ap pass is)) c
      | begin ↦ λ e c. (λ i. at p (word (b ∷ run_at_feed u v i)) ∷ joined_by_a_feed mode.Word (p + 1) u v (λ is. absurd (word_not_continued is)) c.1 i) ∙ ap (λ l. l ++ rest) (sym (front-cons _ mode.Word (p + 1) u))
      | give g ↦ λ e c. ap (λ l. at p (sign g) ∷ l) (joined_by_a_feed mode.Blank (p + 1) u v (λ is. absurd (blank_not_continued is)) c.1) ∙ ap (λ l. l ++ rest) (sym (front-cons _ mode.Blank (p + 1) u))
    ]) refl (rw (lex-cons m p b u) at h)
    ∙ ap (λ l. front l ++ rest) (sym (lex-cons m p b u))
    ∙ ap (λ q. front (lex m p (b ∷ u)) ++ at q (sign mark.End) ∷ lex mode.Blank (q + 1) v) on

pub texts_join_by_a_line_feed : TextsJoinByALineFeed
texts_join_by_a_line_feed u v h =
    joined_by_a_feed mode.Blank 0 u v (λ is. absurd (blank_not_continued is)) h
    ∙ ap (λ n. front (tokens_of u) ++ at n (sign mark.End) ∷ lex mode.Blank (n + 1) v) (zero-add (length u))
