-- What a byte is outside a comment.
use Rattle.std.specs.Prelude.{ℕ, Bool, false, if◌then◌else◌, not, ◌&&◌, ◌||◌, List, [], ◌∷◌, ◌==◌, nat_le}
use Rattle.scan.specs.declared.step.Class.{Class}
use Rattle.scan.specs.declared.step.Class.TheVariants as class

-- a line feed comes next
abbrev pub feeds : List ℕ → Bool
feeds [] = false
feeds (b ∷ bs) = b == 10

-- a byte of a word: 0x21 to 0x7E, and none of # ( ) \
abbrev pub word_byte : ℕ → Bool
word_byte b = (nat_le 33 b && nat_le b 126) && not ((b == 35 || b == 92) || (b == 40 || b == 41))

-- the class of a byte, where joins says whether a line feed comes directly behind it
abbrev pub class_of : ℕ → Bool → Class
class_of b joins =
    if word_byte b then class.Plain else
    if b == 32 then class.Space else
    if b == 9 then class.Space else
    if b == 10 then class.Feed else
    if b == 35 then class.Hash else
    if b == 92 then (if joins then class.Join else class.Stray) else
    if b == 40 then class.Open else
    if b == 41 then class.Close else class.Stray

-- the class of a byte before the bytes bs
abbrev pub class_at : ℕ → List ℕ → Class
class_at b bs = class_of b (feeds bs)
