-- The order of the tokens.
use Rattle.std.proofs.Common.{◌≡◌, ℕ, ◌+◌, ◌<◌, ◌≤◌, false, List, [], ◌∷◌, ◌++◌, length, sym, refl, ap, ◌∙◌, zero-add, arith}
use Rattle.std.specs.List.{AllByRecursion}
use Rattle.std.proofs.ByRecursion.{All-weaker}
use Rattle.scan.specs.declared.step.Class.{Class}
use Rattle.scan.specs.declared.step.Mode.{Mode}
use Rattle.scan.specs.declared.step.Mode.TheVariants as mode
use Rattle.scan.specs.declared.token.Mark.{Mark}
use Rattle.scan.specs.declared.token.Mark.TheVariants as mark
use Rattle.scan.specs.Bytes.{class_at}
use Rattle.scan.specs.Steps.{Deed, deed}
use Rattle.scan.specs.Steps.Deed.{pass, begin, give}
use Rattle.scan.specs.Tokens.{Piece, is_last, offset}
use Rattle.scan.specs.Tokens.Piece.{at}
use Rattle.scan.specs.Tokens.Said.{word, sign}
use Rattle.scan.specs.Lex.{run, lex, tokens_of}
use Rattle.scan.specs.Lineation.{front}
use Rattle.scan.specs.Order.{Rising, TokensAreInOrder}
use Rattle.scan.proofs.LexSteps.{lex-nil, lex-cons, lex_by, front-cons}

rising_lower : (low high : ℕ) (ts : List Piece) → low ≤ high → Rising high ts → Rising low ts
rising_lower low high [] h r = tt
rising_lower low high (t ∷ ts) h r = (omega (arith, r.0), r.1)

pub rising_from : (m : Mode) (p : ℕ) (bs : List ℕ) → Rising p (lex m p bs)
rising_from m p [] = rw (lex-nil m p) (omega arith, tt)
rising_from m p (b ∷ bs) =
    rw (lex-cons m p b bs)
    (elim (deed m (class_at b bs)) as (λ d. Rising p (lex_by d p b bs)) [
      | pass n ↦ rising_lower p (p + 1) (lex n (p + 1) bs) (omega arith) (rising_from n (p + 1) bs)
      | begin ↦ (omega arith, rising_from mode.Word (p + 1) bs)
      | give g ↦ (omega arith, rising_from mode.Blank (p + 1) bs)
    ])

-- no byte is the text's end
sign_not_last : (m : Mode) (k : Class) (g : Mark) (p : ℕ) → deed m k ≡ give g → is_last (at p (sign g)) ≡ false
sign_not_last m k g p e = grind arith

-- a token before the end
pub record Inner (end : ℕ) (t : Piece) : Type 0 where
  pub more : is_last t ≡ false
  pub within : offset t < end

pub inner_front : (m : Mode) (p : ℕ) (bs : List ℕ) → AllByRecursion (Inner (p + length bs)) (front (lex m p bs))
inner_front m p [] = rw (lex-nil m p) tt
inner_front m p (b ∷ bs) =
    let on : p + 1 + length bs ≡ p + length (b ∷ bs) = omega arith in
    let Front : Deed → Type 0 = λ d. deed m (class_at b bs) ≡ d → AllByRecursion (Inner (p + 1 + length bs)) (front (lex_by d p b bs)) in
    rw (← on, lex-cons m p b bs)
    ((elim (deed m (class_at b bs)) as Front [
      | pass n ↦ λ e. inner_front n (p + 1) bs
      | begin ↦ λ e. rw (front-cons (at p (word (b ∷ run bs))) mode.Word (p + 1) bs) (record { more = refl; within = omega arith }, inner_front mode.Word (p + 1) bs)
      | give g ↦ λ e. rw (front-cons (at p (sign g)) mode.Blank (p + 1) bs) (record { more = sign_not_last m (class_at b bs) g p e; within = omega arith }, inner_front mode.Blank (p + 1) bs)
    ]) refl)

pub ends_with_last : (m : Mode) (p : ℕ) (bs : List ℕ) → lex m p bs ≡ front (lex m p bs) ++ at (p + length bs) (sign mark.Last) ∷ []
ends_with_last m p [] = let here : p + 0 ≡ p = omega arith in rw (lex-nil m p, here) refl
ends_with_last m p (b ∷ bs) =
    let on : p + 1 + length bs ≡ p + length (b ∷ bs) = omega arith in
    let end = at (p + 1 + length bs) (sign mark.Last) ∷ [] in
    lex-cons m p b bs
    ∙ elim (deed m (class_at b bs)) as (λ d. lex_by d p b bs ≡ front (lex_by d p b bs) ++ end) [
      | pass n ↦ ends_with_last n (p + 1) bs
      | begin ↦ ap (λ l. at p (word (b ∷ run bs)) ∷ l) (ends_with_last mode.Word (p + 1) bs) ∙ ap (λ l. l ++ end) (sym (front-cons _ mode.Word (p + 1) bs))
      | give g ↦ ap (λ l. at p (sign g) ∷ l) (ends_with_last mode.Blank (p + 1) bs) ∙ ap (λ l. l ++ end) (sym (front-cons _ mode.Blank (p + 1) bs))
    ]
    ∙ ap (λ l. front l ++ end) (sym (lex-cons m p b bs))
    ∙ ap (λ q. front (lex m p (b ∷ bs)) ++ at q (sign mark.Last) ∷ []) on

pub tokens_are_in_order : TokensAreInOrder
tokens_are_in_order text =
    let whole = zero-add (length text) in
    let inner : AllByRecursion (Inner (length text)) (front (tokens_of text)) = rw whole at (inner_front mode.Blank 0 text) in
    record {
      rising = rising_from mode.Blank 0 text;
      ends = ends_with_last mode.Blank 0 text ∙ ap (λ n. front (tokens_of text) ++ at n (sign mark.Last) ∷ []) whole;
      once = All-weaker (Inner (length text)) (λ t. is_last t ≡ false) (λ t i. i.more) (front (tokens_of text)) inner;
      within = All-weaker (Inner (length text)) (λ t. offset t < length text) (λ t i. i.within) (front (tokens_of text)) inner;
    }
