-- Words are longest runs.
use Rattle.std.proofs.Common.{◌≡◌, ℕ, ◌+◌, true, false, List, [], ◌∷◌, length, get_or, take, drop, sym, refl, ap, ◌∙◌, subst, arith}
use Rattle.std.specs.List.{AllByRecursion}
use Rattle.std.proofs.lemmas.List.{get_or-drop}
use Rattle.scan.specs.declared.step.Mode.{Mode}
use Rattle.scan.specs.declared.step.Mode.TheVariants as mode
use Rattle.scan.specs.Bytes.{class_at, feeds, word_byte}
use Rattle.scan.specs.Steps.{Deed, deed}
use Rattle.scan.specs.Steps.Deed.{pass, begin, give}
use Rattle.scan.specs.Lex.{run, lex}
use Rattle.scan.specs.Runs.{LongestRun, RunIfWord, WordsAreLongestRuns}
use Rattle.scan.proofs.ByteLaws.{continued_feeds, word_begins, sign_no_word_byte, blank_no_word_byte}
use Rattle.scan.proofs.FromPlace.{byte_at, rest_at}
use Rattle.scan.proofs.LexSteps.{lex-nil, lex-cons, lex_by}

run_here : (bs : List ℕ) → take (length (run bs)) bs ≡ run bs
run_here [] = refl
run_here (b ∷ bs) = grind (arith, run_here bs)

run_bytes : (bs : List ℕ) → AllByRecursion (λ b. word_byte b ≡ true) (run bs)
run_bytes [] = tt
run_bytes (b ∷ bs) = grind (arith, run_bytes bs)

run_stops : (bs : List ℕ) → word_byte (get_or bs (length (run bs)) 0) ≡ false
run_stops [] = refl
run_stops (b ∷ bs) = grind (arith, run_stops bs)

-- no byte of a word stands directly before place p
abbrev NoneBefore : List ℕ → ℕ → Type 0
NoneBefore text p = (q : ℕ) → q + 1 ≡ p → word_byte (get_or text q 0) ≡ false

none_before : (text : List ℕ) (p b : ℕ) → get_or text p 0 ≡ b → word_byte b ≡ false → NoneBefore text (p + 1)
none_before text p b is none q e = grind arith

-- what is known in a mode of the bytes around the place
abbrev Around : Mode → List ℕ → ℕ → List ℕ → Type 0
Around mode.Blank text p bs = NoneBefore text p
Around mode.Word text p bs = Unit {0}
Around mode.Comment text p bs = Unit {0}
Around mode.Continued text p bs = feeds bs ≡ true

continued : (m : Mode) (text : List ℕ) (p : ℕ) (bs : List ℕ) → Around m text p bs → m ≡ mode.Continued → feeds bs ≡ true
continued m text p bs a e = grind arith

around_next : (text : List ℕ) (m n : Mode) (p b : ℕ) (bs : List ℕ) → get_or text p 0 ≡ b → Around m text p (b ∷ bs) → deed m (class_at b bs) ≡ pass n → Around n text (p + 1) bs
around_next text m mode.Blank p b bs is a e = none_before text p b is (blank_no_word_byte m b bs (continued m text p (b ∷ bs) a) e)
around_next text m mode.Word p b bs is a e = tt
around_next text m mode.Comment p b bs is a e = tt
around_next text m mode.Continued p b bs is a e = continued_feeds m b bs e

longest : (text : List ℕ) (p b : ℕ) (bs : List ℕ) → drop p text ≡ b ∷ bs → NoneBefore text p → word_byte b ≡ true → LongestRun text p (b ∷ run bs)
longest text p b bs left none w =
    record {
      here = ap (λ l. take (length (b ∷ run bs)) l) left ∙ ap (λ r. b ∷ r) (run_here bs);
      some = omega arith;
      bytes = (w, run_bytes bs);
      before = none;
      behind = λ _. ap word_byte (sym (get_or-drop p text (length (b ∷ run bs)) 0) ∙ ap (λ l. get_or l (length (b ∷ run bs)) 0) left) ∙ run_stops bs;
    }

runs_from : (text : List ℕ) (m : Mode) (p : ℕ) (bs : List ℕ) → drop p text ≡ bs → Around m text p bs → AllByRecursion (RunIfWord text) (lex m p bs)
runs_from text m p [] left a = rw (lex-nil m p) (tt, tt)
runs_from text m p (b ∷ bs) left a =
    let is = byte_at text p b bs left in
    let rest = rest_at text p b bs left in
    let Runs : Deed → Type 0 = λ d. deed m (class_at b bs) ≡ d → AllByRecursion (RunIfWord text) (lex_by d p b bs) in
    rw (lex-cons m p b bs)
    ((elim (deed m (class_at b bs)) as Runs [
      | pass n ↦ λ e. runs_from text n (p + 1) bs rest (around_next text m n p b bs is a e)
      | begin ↦ λ e.
          let w = word_begins m b bs e in
          let none : NoneBefore text p = let Known : Mode → Type 0 = λ m. Around m text p (b ∷ bs) in subst Known w.0 a in
          (longest text p b bs left none w.1, runs_from text mode.Word (p + 1) bs rest tt)
      | give g ↦ λ e. (tt, runs_from text mode.Blank (p + 1) bs rest (none_before text p b is (sign_no_word_byte m b bs g e)))
    ]) refl)

pub words_are_longest_runs : WordsAreLongestRuns
words_are_longest_runs text = runs_from text mode.Blank 0 text refl (λ q e. absurd (omega arith))
