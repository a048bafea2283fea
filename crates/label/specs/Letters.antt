-- Letters, and sets of letters as bits.
use Rattle.std.specs.Prelude.{ℕ, Bool, false, cond, not, Some, None, Option, ◌==◌, bit_and, bit_or}
use Rattle.label.specs.declared.rights.Rights.{Rights}

-- the codes of the letters: read, write, append, execute, create and remove, descend
abbrev pub letter_r : ℕ
letter_r = 114

abbrev pub letter_w : ℕ
letter_w = 119

abbrev pub letter_a : ℕ
letter_a = 97

abbrev pub letter_x : ℕ
letter_x = 120

abbrev pub letter_c : ℕ
letter_c = 99

abbrev pub letter_d : ℕ
letter_d = 100

-- the bit of each letter
abbrev pub bit : ℕ → Option ℕ
bit l =
    cond (l == letter_r) (Some 1)
    (cond (l == letter_w) (Some 2) (cond (l == letter_a) (Some 4) (cond (l == letter_x) (Some 8) (cond (l == letter_c) (Some 16) (cond (l == letter_d) (Some 32) None)))))

abbrev pub none : Rights
none = record { bits = 0 }

abbrev pub union : Rights → Rights → Rights
union s t = record { bits = bit_or s.bits t.bits }

abbrev pub meets : ℕ → Option ℕ → Bool
meets s None = false
meets s (Some b) = not (bit_and s b == 0)

-- the set has the letter
abbrev pub has : Rights → ℕ → Bool
has s l = meets s.bits (bit l)
