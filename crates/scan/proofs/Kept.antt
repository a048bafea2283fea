-- What is not hidden is in the tokens, and nothing else is.
use Rattle.std.proofs.Common.{◌≡◌, ℕ, ◌+◌, ◌<◌, ◌≤◌, Bool, true, false, eqb, List, [], ◌∷◌, length, get_or, drop, sym, refl, ap, ◌∙◌, subst, ⊎_elim, arith}
use Rattle.std.specs.List.{ContainsAt as Has, AllByRecursion}
use Rattle.std.proofs.ByRecursion.{has_append_left, has_append_right, has_push}
use Rattle.std.proofs.lemmas.List.{get_or-drop, length-drop}
use Rattle.std.proofs.lemmas.Bool.{cases_eq, cases_lt, eq-eqb, ne_eqb}
use Rattle.scan.specs.declared.step.Class.{Class}
use Rattle.scan.specs.declared.step.Class.TheVariants as class
use Rattle.scan.specs.declared.step.Mode.{Mode}
use Rattle.scan.specs.declared.step.Mode.TheVariants as mode
use Rattle.scan.specs.declared.token.Mark.{Mark}
use Rattle.scan.specs.declared.token.Mark.TheVariants as mark
use Rattle.scan.specs.Bytes.{class_of, class_at, feeds, word_byte}
use Rattle.scan.specs.Steps.{Deed, deed, is_plain}
use Rattle.scan.specs.Steps.Deed.{pass, begin, give}
use Rattle.scan.specs.Tokens.{Piece}
use Rattle.scan.specs.Tokens.Piece.{at}
use Rattle.scan.specs.Tokens.Said.{word, sign}
use Rattle.scan.specs.Lex.{run, lex}
use Rattle.scan.specs.Marks.{StrayAt, MarkAt}
use Rattle.scan.specs.Kept.{commented, Covered, Seen, NothingIsLost, NothingHiddenIsSeen}
use Rattle.scan.proofs.ByteLaws.{classed_byte, feed_no_word_byte, plain_is_word_byte, word_begins, blank_not_continued}
use Rattle.scan.proofs.FromPlace.{byte_at, rest_at, within_text}
use Rattle.scan.proofs.LexSteps.{run_more, lex-nil, lex-cons, lex_by}
use Rattle.scan.proofs.Marks.{class_giving, given_by}
use Rattle.scan.proofs.Hiding.{Tells, hides, tells_next}

-- the table of the deeds is finite, so by cases
reads_mark : (m : Mode) (g : Mark) → hides m ≡ false → (m ≡ mode.Continued → ⊥) → (g ≡ mark.Last → ⊥) → deed m (class_giving g) ≡ give g
reads_mark m g h c l = grind arith

reads_end : (m : Mode) → (m ≡ mode.Continued → ⊥) → deed m class.Feed ≡ give mark.End
reads_end m c = grind arith

reads_word : (k : Class) → is_plain k ≡ true → deed mode.Blank k ≡ begin
reads_word k e = grind arith

in_word : (m : Mode) (k : Class) → deed m k ≡ pass mode.Word → (m ≡ mode.Word) × (is_plain k ≡ true)
in_word m k e = (grind arith, grind arith)

gives_openly : (m : Mode) (k : Class) (g : Mark) → (g ≡ mark.End → ⊥) → deed m k ≡ give g → hides m ≡ false
gives_openly m k g o e = grind arith

gives_uncontinued : (m : Mode) (k : Class) (g : Mark) → deed m k ≡ give g → m ≡ mode.Continued → ⊥
gives_uncontinued m k g e c = grind arith

stray_class : (b : ℕ) (joins : Bool) → word_byte b ≡ false → (b ≡ 32 → ⊥) → (b ≡ 9 → ⊥) → (b ≡ 10 → ⊥) → (b ≡ 35 → ⊥) → (b ≡ 40 → ⊥) → (b ≡ 41 → ⊥) → (b ≡ 92 → joins ≡ true → ⊥) → class_of b joins ≡ class.Stray
stray_class b joins w s t f h o c j = grind (arith, ne_eqb b 32 s, ne_eqb b 9 t, ne_eqb b 10 f, ne_eqb b 35 h, ne_eqb b 40 o, ne_eqb b 41 c)

has_first : (t : Piece) (ts : List Piece) → Has (t ∷ ts) t
has_first t ts = has_append_left (t ∷ []) ts t (has_push [] t)

has_later : (t : Piece) (ts : List Piece) (x : Piece) → Has ts x → Has (t ∷ ts) x
has_later t ts x h = has_append_right (t ∷ []) ts x h

covered_later : (t : Piece) (ts : List Piece) (q : ℕ) → Covered ts q → Covered (t ∷ ts) q
covered_later t ts q c = record { start = c.start; bytes = c.bytes; there = has_later t ts _ c.there; low = c.low; high = c.high }

-- how far the word goes on that was given already
abbrev ahead : Mode → List ℕ → ℕ
ahead mode.Blank bs = 0
ahead mode.Word bs = length (run bs)
ahead mode.Comment bs = 0
ahead mode.Continued bs = 0

-- the byte at the place that the scanner is at
module _ (text : List ℕ) (m : Mode) (p b : ℕ) (bs : List ℕ) (left : drop p text ≡ b ∷ bs) (told : Tells text m p (b ∷ bs)) where
  uncontinued : (c : ℕ) → get_or text p 0 ≡ c → eqb c 10 ≡ false → m ≡ mode.Continued → ⊥
  uncontinued c is e on = grind (arith, byte_at text p b bs left, told.feed on)

  classed_as : (c : ℕ) (k : Class) → get_or text p 0 ≡ c → class_of c (feeds bs) ≡ k → class_at b bs ≡ k
  classed_as c k is e = grind (arith, byte_at text p b bs left)

  feed_behind : feeds bs ≡ true → get_or text (p + 1) 0 ≡ 10
  feed_behind e = grind (arith, get_or-drop p text 1 0, left, told.feed)

  classed_stray : StrayAt text p → class_at b bs ≡ class.Stray
  classed_stray s =
      let is = byte_at text p b bs left in
      stray_class b (feeds bs) (ap word_byte (sym is) ∙ s.unworded) (λ e. s.unspace (is ∙ e)) (λ e. s.untab (is ∙ e)) (λ e. s.unfeed (is ∙ e)) (λ e. s.unhash (is ∙ e)) (λ e. s.unopen (is ∙ e)) (λ e. s.unclose (is ∙ e)) (λ e f. s.unjoined (is ∙ e) (feed_behind f))

  mark_read : (g : Mark) → MarkAt text p g → Seen text (at p (sign g)) → deed m (class_at b bs) ≡ give g
  mark_read mark.Open is s = grind (arith, classed_as 40 class.Open is refl, told.hidden, uncontinued 40 is refl, reads_mark m mark.Open)
  mark_read mark.Close is s = grind (arith, classed_as 41 class.Close is refl, told.hidden, uncontinued 41 is refl, reads_mark m mark.Close)
  mark_read mark.End is s = grind (arith, classed_as 10 class.Feed is refl, told.joined, s, reads_end m)
  mark_read mark.Last is s = grind (arith, within_text text p b bs left)
  mark_read mark.Stray is s = grind (arith, classed_stray is, is.unfeed, byte_at text p b bs left, told.hidden, told.feed, reads_mark m mark.Stray)

  word_byte_begins : (n : Mode) → m ≡ n → p + ahead n (b ∷ bs) ≤ p → commented text p ≡ false → word_byte b ≡ true → deed n (class_at b bs) ≡ begin
  word_byte_begins mode.Blank is a c w = grind (arith, plain_is_word_byte b bs, reads_word)
  word_byte_begins mode.Word is a c w = grind (arith, run_more b bs w)
  word_byte_begins mode.Comment is a c w = grind (arith, told.hidden)
  word_byte_begins mode.Continued is a c w = grind (arith, feed_no_word_byte b, told.feed is)

  mark_seen : (g : Mark) → deed m (class_at b bs) ≡ give g → Seen text (at p (sign g))
  mark_seen mark.Open e = grind (arith, told.hidden, gives_openly m (class_at b bs) mark.Open, e)
  mark_seen mark.Close e = grind (arith, told.hidden, gives_openly m (class_at b bs) mark.Close, e)
  mark_seen mark.End e = told.unjoined (gives_uncontinued m _ mark.End e) (eq-eqb b 10 (classed_byte b (feeds bs) class.Feed (given_by m (class_at b bs) mark.End e)))
  mark_seen mark.Last e = tt
  mark_seen mark.Stray e = grind (arith, told.hidden, gives_openly m (class_at b bs) mark.Stray, e)

marks_kept : (text : List ℕ) (m : Mode) (p : ℕ) (bs : List ℕ) → drop p text ≡ bs → Tells text m p bs → (q : ℕ) (g : Mark) → p ≤ q → q < length text → MarkAt text q g → Seen text (at q (sign g)) → Has (lex m p bs) (at q (sign g))
marks_kept text m p [] left told q g low in' is s = absurd (omega (arith, sym (length-drop p text) ∙ ap length left))
marks_kept text m p (b ∷ bs) left told q g low in' is s =
    let rest = rest_at text p b bs left in
    let There : List Piece → Type 0 = λ l. Has l (at q (sign g)) in
    ⊎_elim
    (λ e.
    let Here : ℕ → Type 0 = λ n. MarkAt text n g × Seen text (at n (sign g)) in
    let here = subst Here (sym e) (is, s) in
    let reads = lex-cons m p b bs ∙ ap (λ d. lex_by d p b bs) (mark_read text m p b bs left told g here.0 here.1) in
    subst There (sym reads) (rw (← e) (has_first (at p (sign g)) (lex mode.Blank (p + 1) bs))))
    (λ far.
    let next : p + 1 ≤ q = omega arith in
    let Later : Deed → Type 0 = λ d. deed m (class_at b bs) ≡ d → Has (lex_by d p b bs) (at q (sign g)) in
    subst There (sym (lex-cons m p b bs))
    ((elim (deed m (class_at b bs)) as Later [
      | pass n ↦ λ e. marks_kept text n (p + 1) bs rest (tells_next text m p b bs left told (pass n) e) q g next in' is s
      | begin ↦ λ e. has_later _ _ _ (marks_kept text mode.Word (p + 1) bs rest (tells_next text m p b bs left told begin e) q g next in' is s)
      | give h ↦ λ e. has_later _ _ _ (marks_kept text mode.Blank (p + 1) bs rest (tells_next text m p b bs left told (give h) e) q g next in' is s)
    ]) refl))
    (cases_eq p q)

ahead_next : (m n : Mode) (p q b : ℕ) (bs : List ℕ) → deed m (class_at b bs) ≡ pass n → p + ahead m (b ∷ bs) ≤ q → p + 1 ≤ q → p + 1 + ahead n bs ≤ q
ahead_next m n p q b bs e a h = grind (arith, in_word m (class_at b bs), run_more b bs, plain_is_word_byte b bs)

words_kept : (text : List ℕ) (m : Mode) (p : ℕ) (bs : List ℕ) → drop p text ≡ bs → Tells text m p bs → (q : ℕ) → p + ahead m bs ≤ q → q < length text → commented text q ≡ false → word_byte (get_or text q 0) ≡ true → Covered (lex m p bs) q
words_kept text m p [] left told q a in' c w = absurd (omega (arith, sym (length-drop p text) ∙ ap length left))
words_kept text m p (b ∷ bs) left told q a in' c w =
    let rest = rest_at text p b bs left in
    let In : List Piece → Type 0 = λ l. Covered l q in
    let first : p ≤ q → q < p + length (b ∷ run bs) → Covered (at p (word (b ∷ run bs)) ∷ lex mode.Word (p + 1) bs) q = λ low high. record { start = p; bytes = b ∷ run bs; there = has_first _ _; low = low; high = high } in
    ⊎_elim
    (λ e.
    let is : word_byte b ≡ true = ap word_byte (sym (byte_at text p b bs left)) ∙ ap (λ n. word_byte (get_or text n 0)) e ∙ w in
    let near : p + ahead m (b ∷ bs) ≤ p = omega arith in
    let reads = lex-cons m p b bs ∙ ap (λ d. lex_by d p b bs) (word_byte_begins text m p b bs left told m refl near (ap (commented text) e ∙ c) is) in
    subst In (sym reads) (first (omega arith) (omega arith)))
    (λ far.
    let next : p + 1 ≤ q = omega arith in
    let Later : Deed → Type 0 = λ d. deed m (class_at b bs) ≡ d → Covered (lex_by d p b bs) q in
    subst In (sym (lex-cons m p b bs))
    ((elim (deed m (class_at b bs)) as Later [
      | pass n ↦ λ e. words_kept text n (p + 1) bs rest (tells_next text m p b bs left told (pass n) e) q (ahead_next m n p q b bs e a next) in' c w
      | begin ↦ λ e.
          ⊎_elim
          (λ below. first (omega arith) (omega arith))
          (λ above. covered_later _ _ q (words_kept text mode.Word (p + 1) bs rest (tells_next text m p b bs left told begin e) q above in' c w))
          (cases_lt q (p + 1 + length (run bs)))
      | give h ↦ λ e. covered_later _ _ q (words_kept text mode.Blank (p + 1) bs rest (tells_next text m p b bs left told (give h) e) q (omega arith) in' c w)
    ]) refl))
    (cases_eq p q)

seen_from : (text : List ℕ) (m : Mode) (p : ℕ) (bs : List ℕ) → drop p text ≡ bs → Tells text m p bs → AllByRecursion (Seen text) (lex m p bs)
seen_from text m p [] left told = rw (lex-nil m p) (tt, tt)
seen_from text m p (b ∷ bs) left told =
    let rest = rest_at text p b bs left in
    let Shown : Deed → Type 0 = λ d. deed m (class_at b bs) ≡ d → AllByRecursion (Seen text) (lex_by d p b bs) in
    rw (lex-cons m p b bs)
    ((elim (deed m (class_at b bs)) as Shown [
      | pass n ↦ λ e. seen_from text n (p + 1) bs rest (tells_next text m p b bs left told (pass n) e)
      | begin ↦ λ e. (told.hidden ∙ ap hides (word_begins m b bs e).0, seen_from text mode.Word (p + 1) bs rest (tells_next text m p b bs left told begin e))
      | give g ↦ λ e. (mark_seen text m p b bs left told g e, seen_from text mode.Blank (p + 1) bs rest (tells_next text m p b bs left told (give g) e))
    ]) refl)

-- the beginning of a text
told_first : (text : List ℕ) → Tells text mode.Blank 0 text
told_first text =
    record {
      hidden = refl;
      unjoined = λ c f q e. absurd (omega arith);
      feed = λ c. absurd (blank_not_continued c);
      joined = λ c. absurd (blank_not_continued c);
    }

pub nothing_is_lost : NothingIsLost
nothing_is_lost text p in' =
    let kept = λ (g : Mark). marks_kept text mode.Blank 0 text refl (told_first text) p g (omega arith) in' in
    record {
      words = words_kept text mode.Blank 0 text refl (told_first text) p (omega arith) in';
      opens = λ c is. kept mark.Open is c;
      closes = λ c is. kept mark.Close is c;
      strays = λ c is. kept mark.Stray is c;
      ends = λ c is. kept mark.End is c;
    }

pub nothing_hidden_is_seen : NothingHiddenIsSeen
nothing_hidden_is_seen text = seen_from text mode.Blank 0 text refl (told_first text)
