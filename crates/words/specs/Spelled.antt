-- Words that stand for one of a few things.
use Rattle.std.specs.Prelude.{◌≡◌, ℕ, ◌↔◌, List, Some, Option}
use Rattle.std.specs.List.{find}
use Rattle.std.specs.Str.{bytes_eq}

-- the first of the things whose spelling is the word
abbrev pub spelled_so : {K : Type 0} → (K → List ℕ) → List K → List ℕ → Option K
spelled_so spelling ks w = find (λ k. bytes_eq w (spelling k)) ks

-- each of them is the first with its spelling
abbrev pub EachReadBack : {K : Type 0} → (K → List ℕ) → List K → Type 0
EachReadBack {K} spelling ks = (k : K) → spelled_so spelling ks (spelling k) ≡ Some k

-- a word is read as a thing exactly where it is that thing's spelling, to the byte
abbrev pub ReadAsSpelled : {K : Type 0} → (K → List ℕ) → (List ℕ → Option K) → Type 0
ReadAsSpelled {K} spelling read = (w : List ℕ) (k : K) → (read w ≡ Some k) ↔ (w ≡ spelling k)
