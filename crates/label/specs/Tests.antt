-- The forms of names and paths as tests of their bytes.
use Rattle.std.specs.Prelude.{ℕ, Bool, true, false, cond, not, ◌&&◌, ◌||◌, List, [], ◌∷◌, length, ◌==◌, nat_le, slice_index}

-- a to z
abbrev pub lower : ℕ → Bool
lower b = nat_le 97 b && nat_le b 122

-- a to z, 0 to 9, underscore
abbrev pub name_byte : ℕ → Bool
name_byte b = lower b || ((nat_le 48 b && nat_le b 57) || b == 95)

abbrev pub name_bytes : List ℕ → Bool
name_bytes [] = true
name_bytes (b ∷ bs) = name_byte b && name_bytes bs

-- 1 to 24 such bytes, the first a letter
unfoldable pub is_name : List ℕ → Bool
is_name s = (nat_le 1 (length s) && nat_le (length s) 24) && (lower (slice_index s 0) && name_bytes s)

-- 0x21 to 0x7E, and none of / ( ) # \
abbrev pub path_byte : ℕ → Bool
path_byte b = (nat_le 33 b && nat_le b 126) && not (b == 47 || (b == 40 || (b == 41 || (b == 35 || b == 92))))

-- how far a component has come: no byte yet, one dot, two dots, or what may be a component
pub data Part : Type 0 where
  nothing dot dots some : Part

abbrev pub grown : Part → ℕ → Part
grown nothing b = cond (b == 46) dot some
grown dot b = cond (b == 46) dots some
grown dots b = some
grown some b = some

-- a component may end here
abbrev pub whole : Part → Bool
whole nothing = false
whole dot = false
whole dots = false
whole some = true

-- components with one slash between them, the first of which has come this far
abbrev pub components : Part → List ℕ → Bool
components part [] = whole part
components part (b ∷ bs) = cond (b == 47) (whole part) (path_byte b) && components (cond (b == 47) nothing (grown part b)) bs

-- nothing, or components
abbrev pub after_slash : List ℕ → Bool
after_slash [] = true
after_slash (b ∷ bs) = components nothing (b ∷ bs)

abbrev pub slash_first : List ℕ → Bool
slash_first [] = false
slash_first (b ∷ bs) = b == 47 && after_slash bs

-- a slash and the components after it, at most 64 bytes together
unfoldable pub is_path : List ℕ → Bool
is_path s = nat_le (length s) 64 && slash_first s
