-- What each mark stands for.
use Rattle.std.proofs.Common.{◌≡◌, ℕ, ◌+◌, ◌≤◌, Bool, true, List, [], ◌∷◌, length, get_or, drop, sym, refl, ap, ◌∙◌, arith}
use Rattle.std.specs.List.{AllByRecursion}
use Rattle.std.proofs.lemmas.List.{get_or-drop, length-drop}
use Rattle.scan.specs.declared.step.Class.{Class}
use Rattle.scan.specs.declared.step.Class.TheVariants as class
use Rattle.scan.specs.declared.step.Mode.{Mode}
use Rattle.scan.specs.declared.step.Mode.TheVariants as mode
use Rattle.scan.specs.declared.token.Mark.{Mark}
use Rattle.scan.specs.declared.token.Mark.TheVariants as mark
use Rattle.scan.specs.Bytes.{class_of, class_at, feeds, word_byte}
use Rattle.scan.specs.Steps.{Deed, deed}
use Rattle.scan.specs.Steps.Deed.{pass, begin, give}
use Rattle.scan.specs.Lex.{lex}
use Rattle.scan.specs.Marks.{StrayAt, MarkAt, StandsIfMark, MarksStandForBytes}
use Rattle.scan.proofs.ByteLaws.{classed_byte, sign_no_word_byte}
use Rattle.scan.proofs.FromPlace.{byte_at, rest_at, within_text}
use Rattle.scan.proofs.LexSteps.{lex-nil, lex-cons, lex_by}

-- the table of the deeds is finite, so by cases
abbrev pub class_giving : Mark → Class
class_giving mark.Open = class.Open
class_giving mark.Close = class.Close
class_giving mark.End = class.Feed
class_giving mark.Last = class.Stray
class_giving mark.Stray = class.Stray

pub given_by : (m : Mode) (k : Class) (g : Mark) → deed m k ≡ give g → k ≡ class_giving g
given_by m k g e = grind arith

no_byte_last : (m : Mode) (k : Class) → deed m k ≡ give mark.Last → ⊥
no_byte_last m k e = grind arith

-- a byte of another class is not stray
classed : (b c : ℕ) (joins : Bool) → b ≡ c → class_of b joins ≡ class.Stray → class_of c joins ≡ class.Stray
classed b c joins e h = ap (λ n. class_of n joins) (sym e) ∙ h

module _ (text : List ℕ) (p b : ℕ) (bs : List ℕ) (left : drop p text ≡ b ∷ bs) where
  feed_behind : get_or text (p + 1) 0 ≡ 10 → feeds bs ≡ true
  feed_behind e = grind (arith, get_or-drop p text 1 0, left)

  not_stray : (c : ℕ) (joins : Bool) → (class_of c joins ≡ class.Stray → ⊥) → feeds bs ≡ joins → class_at b bs ≡ class.Stray → get_or text p 0 ≡ c → ⊥
  not_stray c joins never f k e = never (ap (λ j. class_of c j) (sym f) ∙ classed b c (feeds bs) (sym (byte_at text p b bs left) ∙ e) k)

  stray_at : (m : Mode) → deed m (class_at b bs) ≡ give mark.Stray → StrayAt text p
  stray_at m e =
      let k = given_by m (class_at b bs) mark.Stray e in
      record {
        within = within_text text p b bs left;
        unworded = ap word_byte (byte_at text p b bs left) ∙ sign_no_word_byte m b bs mark.Stray e;
        unopen = λ e. grind (arith, byte_at text p b bs left, k, e);
        unclose = λ e. grind (arith, byte_at text p b bs left, k, e);
        unhash = λ e. grind (arith, byte_at text p b bs left, k, e);
        unfeed = λ e. grind (arith, byte_at text p b bs left, k, e);
        unspace = λ e. grind (arith, byte_at text p b bs left, k, e);
        untab = λ e. grind (arith, byte_at text p b bs left, k, e);
        unjoined = λ back f. not_stray 92 true (λ h. grind arith) (feed_behind f) k back;
      }

  mark_at : (m : Mode) (g : Mark) → deed m (class_at b bs) ≡ give g → MarkAt text p g
  mark_at m mark.Open e = byte_at text p b bs left ∙ classed_byte b (feeds bs) _ (given_by m (class_at b bs) mark.Open e)
  mark_at m mark.Close e = byte_at text p b bs left ∙ classed_byte b (feeds bs) _ (given_by m (class_at b bs) mark.Close e)
  mark_at m mark.End e = byte_at text p b bs left ∙ classed_byte b (feeds bs) _ (given_by m (class_at b bs) mark.End e)
  mark_at m mark.Last e = absurd (no_byte_last m (class_at b bs) e)
  mark_at m mark.Stray e = stray_at m e

marks_from : (text : List ℕ) (m : Mode) (p : ℕ) (bs : List ℕ) → p ≤ length text → drop p text ≡ bs → AllByRecursion (StandsIfMark text) (lex m p bs)
marks_from text m p [] low left =
    let end : p ≡ length text = omega (arith, sym (length-drop p text) ∙ ap length left) in
    rw (lex-nil m p) (end, tt)
marks_from text m p (b ∷ bs) low left =
    let rest = rest_at text p b bs left in
    let next : p + 1 ≤ length text = omega (arith, within_text text p b bs left) in
    let Marks : Deed → Type 0 = λ d. deed m (class_at b bs) ≡ d → AllByRecursion (StandsIfMark text) (lex_by d p b bs) in
    rw (lex-cons m p b bs)
    ((elim (deed m (class_at b bs)) as Marks [
      | pass n ↦ λ e. marks_from text n (p + 1) bs next rest
      | begin ↦ λ e. (tt, marks_from text mode.Word (p + 1) bs next rest)
      | give g ↦ λ e. (mark_at text p b bs left m g e, marks_from text mode.Blank (p + 1) bs next rest)
    ]) refl)

pub marks_stand_for_bytes : MarksStandForBytes
marks_stand_for_bytes text = marks_from text mode.Blank 0 text (omega arith) refl
