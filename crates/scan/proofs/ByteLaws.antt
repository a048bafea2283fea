-- Which bytes are bytes of a word, and what the others do.
use Rattle.std.proofs.Common.{◌≡◌, ℕ, Bool, true, false, eqb, List, sym, refl, ap, ◌∙◌, arith}
use Rattle.scan.specs.declared.step.Class.{Class}
use Rattle.scan.specs.declared.step.Class.TheVariants as class
use Rattle.scan.specs.Bytes.{class_of, class_at, feeds, word_byte}
use Rattle.scan.specs.declared.step.Mode.{Mode}
use Rattle.scan.specs.declared.step.Mode.TheVariants as mode
use Rattle.scan.specs.declared.token.Mark.{Mark}
use Rattle.scan.specs.Steps.{deed, is_plain}
use Rattle.scan.specs.Steps.Deed.{pass, begin, give}
use Rattle.std.proofs.lemmas.Bool.{eqb-true, cond_both}

-- the bytes of words are those of the class Plain
pub plain_is_word_byte : (b : ℕ) (bs : List ℕ) → is_plain (class_at b bs) ≡ word_byte b
plain_is_word_byte b bs = grind arith

-- the byte of a class that has one alone, and else b
abbrev pub byte_of : Class → ℕ → ℕ
byte_of class.Space b = b
byte_of class.Feed b = 10
byte_of class.Hash b = 35
byte_of class.Join b = 92
byte_of class.Open b = 40
byte_of class.Close b = 41
byte_of class.Plain b = b
byte_of class.Stray b = b

class_tells_byte : (b : ℕ) (joins : Bool) → byte_of (class_of b joins) b ≡ b
class_tells_byte b joins =
    let Tells : Class → Type 0 = λ k. byte_of k b ≡ b in
    cond_both (word_byte b) _ _ Tells (λ _. refl) (λ _.
    cond_both (eqb b 32) _ _ Tells (λ _. refl) (λ _.
    cond_both (eqb b 9) _ _ Tells (λ _. refl) (λ _.
    cond_both (eqb b 10) _ _ Tells (λ e. sym (eqb-true b 10 e)) (λ _.
    cond_both (eqb b 35) _ _ Tells (λ e. sym (eqb-true b 35 e)) (λ _.
    cond_both (eqb b 92) _ _ Tells (λ e. cond_both joins _ _ Tells (λ _. sym (eqb-true b 92 e)) (λ _. refl)) (λ _.
    cond_both (eqb b 40) _ _ Tells (λ e. sym (eqb-true b 40 e)) (λ _.
    cond_both (eqb b 41) _ _ Tells (λ e. sym (eqb-true b 41 e)) (λ _. refl))))))))

pub classed_byte : (b : ℕ) (joins : Bool) (k : Class) → class_of b joins ≡ k → b ≡ byte_of k b
classed_byte b joins k e = sym (class_tells_byte b joins) ∙ ap (λ k. byte_of k b) e

pub blank_not_continued : mode.Blank ≡ mode.Continued → ⊥
blank_not_continued e = grind arith

pub word_not_continued : mode.Word ≡ mode.Continued → ⊥
word_not_continued e = grind arith

-- only a backslash that a line feed follows makes a continuation
pub only_joins_continue : (m : Mode) (k : Class) → deed m k ≡ pass mode.Continued → k ≡ class.Join
only_joins_continue m k e = grind arith

join_feeds : (b : ℕ) (joins : Bool) → class_of b joins ≡ class.Join → joins ≡ true
join_feeds b true e = refl
join_feeds b false e = grind arith

pub continued_feeds : (m : Mode) (b : ℕ) (bs : List ℕ) → deed m (class_at b bs) ≡ pass mode.Continued → feeds bs ≡ true
continued_feeds m b bs e = join_feeds b (feeds bs) (only_joins_continue m (class_at b bs) e)

-- a word begins with a byte of a word, behind blank space
blank_before_word : (m : Mode) (k : Class) → deed m k ≡ begin → (m ≡ mode.Blank) × (is_plain k ≡ true)
blank_before_word m k e = (grind arith, grind arith)

pub word_begins : (m : Mode) (b : ℕ) (bs : List ℕ) → deed m (class_at b bs) ≡ begin → (m ≡ mode.Blank) × (word_byte b ≡ true)
word_begins m b bs e =
    let p = blank_before_word m (class_at b bs) e in
    (p.0, sym (plain_is_word_byte b bs) ∙ p.1)

-- a token by itself is no byte of a word
sign_not_plain : (m : Mode) (k : Class) (g : Mark) → deed m k ≡ give g → is_plain k ≡ false
sign_not_plain m k g e = grind arith

pub sign_no_word_byte : (m : Mode) (b : ℕ) (bs : List ℕ) (g : Mark) → deed m (class_at b bs) ≡ give g → word_byte b ≡ false
sign_no_word_byte m b bs g e = sym (plain_is_word_byte b bs) ∙ sign_not_plain m (class_at b bs) g e

-- nor is a byte behind which all is as behind blank space
blank_not_plain : (m : Mode) (k : Class) → (m ≡ mode.Continued → ⊥) → deed m k ≡ pass mode.Blank → is_plain k ≡ false
blank_not_plain m k c e = grind arith

pub feed_no_word_byte : (b : ℕ) → eqb b 10 ≡ true → word_byte b ≡ false
feed_no_word_byte b e = grind arith

pub blank_no_word_byte : (m : Mode) (b : ℕ) (bs : List ℕ) → (m ≡ mode.Continued → eqb b 10 ≡ true) → deed m (class_at b bs) ≡ pass mode.Blank → word_byte b ≡ false
blank_no_word_byte m b bs c e = grind (arith, plain_is_word_byte b bs, feed_no_word_byte b, blank_not_plain m (class_at b bs))
