-- What a byte does to a scanner, by the mode that the scanner is in.
use Rattle.std.specs.Prelude.{Bool, true, false, if◌then◌else◌, not}
use Rattle.scan.specs.declared.step.Class.{Class}
use Rattle.scan.specs.declared.step.Class.TheVariants as class
use Rattle.scan.specs.declared.step.Mode.{Mode}
use Rattle.scan.specs.declared.step.Mode.TheVariants as mode
use Rattle.scan.specs.declared.step.Step.{Step}
use Rattle.scan.specs.declared.step.Step.TheVariants as step
use Rattle.scan.specs.declared.token.Mark.{Mark}
use Rattle.scan.specs.declared.token.Mark.TheVariants as mark

-- the byte is passed over and the next is read in this mode, or a word begins with it, or it is a token by itself
pub data Deed : Type 0 where
  pass : Mode → Deed
  begin : Deed
  give : Mark → Deed

abbrev pub is_plain : Class → Bool
is_plain class.Space = false
is_plain class.Feed = false
is_plain class.Hash = false
is_plain class.Join = false
is_plain class.Open = false
is_plain class.Close = false
is_plain class.Plain = true
is_plain class.Stray = false

abbrev pub is_feed : Class → Bool
is_feed class.Space = false
is_feed class.Feed = true
is_feed class.Hash = false
is_feed class.Join = false
is_feed class.Open = false
is_feed class.Close = false
is_feed class.Plain = false
is_feed class.Stray = false

-- behind blank space
abbrev pub fresh : Class → Deed
fresh class.Space = pass mode.Blank
fresh class.Feed = give mark.End
fresh class.Hash = pass mode.Comment
fresh class.Join = pass mode.Continued
fresh class.Open = give mark.Open
fresh class.Close = give mark.Close
fresh class.Plain = begin
fresh class.Stray = give mark.Stray

-- In a word its bytes are passed over, and any other is read as behind blank space.
-- In a comment all is passed over but the line feed. A continuation passes over its line feed.
abbrev pub deed : Mode → Class → Deed
deed mode.Blank k = fresh k
deed mode.Word k = elim (is_plain k) [ true ↦ pass mode.Word | false ↦ fresh k ]
deed mode.Comment k = elim (is_feed k) [ true ↦ give mark.End | false ↦ pass mode.Comment ]
deed mode.Continued k = pass mode.Blank

-- a byte before which a word ended
abbrev pub cuts : Mode → Class → Bool
cuts mode.Blank k = false
cuts mode.Word k = not (is_plain k)
cuts mode.Comment k = false
cuts mode.Continued k = false

abbrev pub as_step : Deed → Step
as_step (pass n) = step.Pass n
as_step begin = step.Begin
as_step (give g) = step.Give g

-- the same for a scanner that gives a word where it ends: it stops before the byte that cuts the word
abbrev pub step_of : Mode → Class → Step
step_of m k = if cuts m k then step.Cut else as_step (deed m k)
