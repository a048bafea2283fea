-- What one turn of the scanner's loop keeps.
use Rattle.std.proofs.Common.{◌≡◌, ℕ, ◌+◌, ◌-◌, ◌<◌, ◌≤◌, Bool, true, false, List, [], ◌∷◌, ◌++◌, length, get_or, take, drop, sym, refl, ap, ◌∙◌, append_assoc, append-nil, arith, length-drop, get_or-drop}
use Rattle.std.proofs.lemmas.List.{length-take, at_drop_more, at_drop_all, take_more}
use Rattle.std.proofs.lemmas.Bool.{both_ways, true≢false}
use Rattle.scan.specs.declared.step.Class.{Class}
use Rattle.scan.specs.declared.step.Step.TheVariants.{Pass, Begin, Cut, Give}
use Rattle.scan.specs.declared.token.Mark.{Mark}
use Rattle.scan.specs.declared.token.Mark.TheVariants as mark
use Rattle.scan.specs.declared.step.Mode.{Mode}
use Rattle.scan.specs.declared.step.Mode.TheVariants as mode
use Rattle.scan.specs.Bytes.{class_at, word_byte}
use Rattle.scan.proofs.ByteLaws.{plain_is_word_byte}
use Rattle.scan.specs.Steps.{Deed, deed, is_plain, step_of}
use Rattle.scan.specs.Steps.Deed.{pass, begin, give}
use Rattle.scan.specs.Tokens.{Piece, Gives, is_last, behind}
use Rattle.scan.specs.Tokens.Piece.{at}
use Rattle.scan.specs.Tokens.Said.{word, sign}
use Rattle.scan.specs.Lex.{lex, run, tokens_from}
use Rattle.scan.proofs.LexSteps.{run_more, run_ends, lex-nil, lex_by, lex-cons}

-- at place p of the text s, in a mode, what is to come is all that was to come at the call
abbrev pub Going : Mode → List ℕ → ℕ → ℕ → List Piece → Type 0
Going mode.Blank s start p all = lex mode.Blank p (drop p s) ≡ all
Going mode.Word s start p all = (start ≤ p) × (p ≤ length s) × (at start (word (take (p - start) (drop start s) ++ run (drop p s))) ∷ lex mode.Word p (drop p s) ≡ all)
Going mode.Comment s start p all = lex mode.Comment p (drop p s) ≡ all
Going mode.Continued s start p all = lex mode.Continued p (drop p s) ≡ all

-- the table of the steps is finite, so by cases
abbrev outside : Mode → Bool
outside mode.Blank = true
outside mode.Word = false
outside mode.Comment = true
outside mode.Continued = true

pass-deed : (m n : Mode) (k : Class) → Pass n ≡ step_of m k → deed m k ≡ pass n
pass-deed m n k e = grind arith

only_words_pass_to_words : (m : Mode) (k : Class) → outside m ≡ true → Pass mode.Word ≡ step_of m k → ⊥
only_words_pass_to_words m k h e = grind arith

word_goes_on : (n : Mode) (k : Class) → Pass n ≡ step_of mode.Word k → (n ≡ mode.Word) × (is_plain k ≡ true)
word_goes_on n k e = (grind arith, grind arith)

word_begins : (m : Mode) (k : Class) → Begin ≡ step_of m k → (m ≡ mode.Blank) × (deed mode.Blank k ≡ begin)
word_begins m k e = (grind arith, grind arith)

sign_given : (m : Mode) (k : Class) (g : Mark) → Give g ≡ step_of m k → (outside m ≡ true) × (deed m k ≡ give g)
sign_given m k g e = (grind arith, grind arith)

sign_not_last : (m : Mode) (k : Class) (g : Mark) (p : ℕ) → Give g ≡ step_of m k → is_last (at p (sign g)) ≡ false
sign_not_last m k g p e = grind arith

word_cut : (m : Mode) (k : Class) → Cut ≡ step_of m k → (m ≡ mode.Word) × (is_plain k ≡ false)
word_cut m k e = (grind arith, grind arith)

cut_is_fresh : (k : Class) → is_plain k ≡ false → deed mode.Word k ≡ deed mode.Blank k
cut_is_fresh k e = rw (e, deed) refl

not_last : {ts us : List Piece} {t : Piece} → is_last t ≡ false → ts ≡ t ∷ us → Gives ts t us
not_last e h = record { more = λ _. h; last = λ e'. absurd (both_ways _ e e') }

-- outside a word the state is what is to come
to_come : (m : Mode) (s : List ℕ) (start p : ℕ) (all : List Piece) → outside m ≡ true → Going m s start p all → lex m p (drop p s) ≡ all
to_come m s start p all o h = grind arith

going : (m : Mode) (s : List ℕ) (start p : ℕ) (all : List Piece) → (m ≡ mode.Word → ⊥) → lex m p (drop p s) ≡ all → Going m s start p all
going m s start p all o h = grind arith

-- a byte at place p of s, and its class k
module _ (s : List ℕ) (all : List Piece) (start p : ℕ) (in' : p < length s) (k : Class) (is : k ≡ class_at (get_or s p 0) (drop (p + 1) s)) where
  lexed : (m : Mode) (d : Deed) → deed m k ≡ d → lex m p (drop p s) ≡ lex_by d p (get_or s p 0) (drop (p + 1) s)
  lexed m d e = grind (arith, at_drop_more (lex m p) s p 0 in', lex-cons m p (get_or s p 0) (drop (p + 1) s), is)

  passes : (m n : Mode) → Pass n ≡ step_of m k → lex n (p + 1) (drop (p + 1) s) ≡ lex m p (drop p s)
  passes m n e = grind (arith, lexed m (pass n) (pass-deed m n k e))

  byte_in_word : is_plain k ≡ true → word_byte (get_or s p 0) ≡ true
  byte_in_word e = grind (arith, plain_is_word_byte (get_or s p 0) (drop (p + 1) s))

  word_longer : is_plain k ≡ true → Going mode.Word s start p all → lex mode.Word (p + 1) (drop (p + 1) s) ≡ lex mode.Word p (drop p s) → Going mode.Word s start (p + 1) all
  word_longer plain h later =
      let long : p - start < length (drop start s) = rw length-drop (omega (arith, h.0)) in
      let byte = get_or-drop start s (p - start) 0 in
      let whole : take (p + 1 - start) (drop start s) ++ run (drop (p + 1) s) ≡ take (p - start) (drop start s) ++ run (drop p s) = grind (arith, take_more (drop start s) (p - start) 0 long, byte, at_drop_more run s p 0 in', run_more (get_or s p 0) (drop (p + 1) s) (byte_in_word plain), append_assoc (take (p - start) (drop start s)) (get_or s p 0 ∷ []) (run (drop (p + 1) s)), h.0) in
      (omega (arith, h.0), omega arith, (λ i. at start (word (whole i)) ∷ later i) ∙ h.2)

  pub turned : (m n : Mode) → Pass n ≡ step_of m k → Going m s start p all → Going n s start (p + 1) all
  turned mode.Blank n e h = grind (arith, only_words_pass_to_words mode.Blank k, passes mode.Blank n e, going n s start (p + 1) all)
  turned mode.Word n e h =
      let w = word_goes_on n k e in
      rw w.0 (word_longer w.1 h (passes mode.Word mode.Word (ap Pass (sym w.0) ∙ e)))
  turned mode.Comment n e h = grind (arith, only_words_pass_to_words mode.Comment k, passes mode.Comment n e, going n s start (p + 1) all)
  turned mode.Continued n e h = grind (arith, only_words_pass_to_words mode.Continued k, passes mode.Continued n e, going n s start (p + 1) all)

  pub begun : (m : Mode) → Begin ≡ step_of m k → Going m s start p all → Going mode.Word s p (p + 1) all
  begun m e h =
      let b = word_begins m k e in
      let one : p + 1 - p ≡ 1 = omega arith in
      let front = ap (λ n. take n (drop p s)) one ∙ at_drop_more (take 1) s p 0 in' in
      let was : lex mode.Blank p (drop p s) ≡ all = rw b.0 at h in
      (omega arith, omega arith, rw front (sym (lexed mode.Blank begin b.1) ∙ was))

  pub given : (m : Mode) (g : Mark) (t : Piece) → Give g ≡ step_of m k → Going m s start p all → t ≡ at p (sign g) → Gives all t (tokens_from s (behind t))
  given m g t e h et =
      let o = sign_given m k g e in
      let no_last = sign_not_last m k g p e in
      let next : behind (at p (sign g)) ≡ p + 1 = rw no_last refl in
      rw (et, next) (not_last no_last (sym (to_come m s start p all o.0 h) ∙ lexed m (give g) o.1))

-- a word ends at place p
ends : (s : List ℕ) (all : List Piece) (start p : ℕ) (t : Piece) → run (drop p s) ≡ [] → lex mode.Word p (drop p s) ≡ tokens_from s p → Going mode.Word s start p all → t ≡ at start (word (take (p - start) (drop start s))) → Gives all t (tokens_from s (behind t))
ends s all start p t none same h et =
    let next : start + length (take (p - start) (drop start s)) ≡ p = omega (arith, h.0, h.1, length-take (p - start) (drop start s), length-drop start s) in
    rw (et, next) (not_last refl (sym h.2 ∙ rw (none, same, append-nil) refl))

pub cut_at : (s : List ℕ) (all : List Piece) (start p : ℕ) (t : Piece) → p < length s → (m : Mode) (k : Class) → k ≡ class_at (get_or s p 0) (drop (p + 1) s) → Cut ≡ step_of m k → Going m s start p all → t ≡ at start (word (take (p - start) (drop start s))) → Gives all t (tokens_from s (behind t))
cut_at s all start p t in' m k is c h =
    let w = word_cut m k c in
    let no_byte : word_byte (get_or s p 0) ≡ false = sym (plain_is_word_byte (get_or s p 0) (drop (p + 1) s)) ∙ ap is_plain (sym is) ∙ w.1 in
    ends s all start p t
    (at_drop_more run s p 0 in' ∙ run_ends (get_or s p 0) (drop (p + 1) s) no_byte)
    (lexed s all start p in' k is mode.Word (deed mode.Blank k) (cut_is_fresh k w.1) ∙ sym (lexed s all start p in' k is mode.Blank (deed mode.Blank k) refl))
    (rw w.0 at h)

pub cut_last : (s : List ℕ) (all : List Piece) (start p : ℕ) (t : Piece) → length s ≤ p → Going mode.Word s start p all → t ≡ at start (word (take (length s - start) (drop start s))) → Gives all t (tokens_from s (behind t))
cut_last s all start p t out h et =
    let end : length s ≡ p = omega (arith, h.1) in
    ends s all start p t
    (at_drop_all run s p out)
    (at_drop_all (lex mode.Word p) s p out ∙ lex-nil mode.Word p ∙ sym (at_drop_all (lex mode.Blank p) s p out ∙ lex-nil mode.Blank p))
    h
    (et ∙ ap (λ n. at start (word (take (n - start) (drop start s)))) end)

-- the text's end, outside a word
pub last_given : (s : List ℕ) (all : List Piece) (start p : ℕ) (t : Piece) → length s ≤ p → (m : Mode) → (m ≡ mode.Word → ⊥) → Going m s start p all → t ≡ at p (sign mark.Last) → Gives all t (tokens_from s (behind t))
last_given s all start p t out m w h et =
    let o : outside m ≡ true = grind arith in
    let l = sym (at_drop_all (lex m p) s p out ∙ lex-nil m p) ∙ to_come m s start p all o h in
    rw et record { more = λ e. absurd (true≢false e); last = λ _. (sym l, (at_drop_all (lex mode.Blank p) s p out ∙ lex-nil mode.Blank p) ∙ l) }
