-- What a path is, and what its ancestors are.
use Rattle.std.specs.Prelude.{◌≡◌, ℕ, ◌≤◌, Bool, true, ◌&&◌, ◌||◌, List, [], ◌∷◌, ◌++◌, length, take, codes, Decides, ◌==◌, nat_lt, slice_index}
use Rattle.std.specs.List.{flat_map, AllByRecursion}

-- a byte that a component may have: 0x21 to 0x7E, and none of / ( ) # \
pub record PathByte (b : ℕ) : Type 0 where
  pub low : 33 ≤ b
  pub high : b ≤ 126
  pub slash : b ≡ 47 → ⊥
  pub left : b ≡ 40 → ⊥
  pub right : b ≡ 41 → ⊥
  pub hash : b ≡ 35 → ⊥
  pub back : b ≡ 92 → ⊥

-- one or more such bytes, and neither . nor ..
pub record Component (c : List ℕ) : Type 0 where
  pub bytes : AllByRecursion PathByte c
  pub some : c ≡ [] → ⊥
  pub dot : c ≡ codes "." → ⊥
  pub dots : c ≡ codes ".." → ⊥

-- each component after a slash
abbrev pub slashed : List (List ℕ) → List ℕ
slashed cs = flat_map (λ c. 47 ∷ c) cs

-- the text of the path that has these components: a slash alone where there are none
abbrev pub written : List (List ℕ) → List ℕ
written [] = 47 ∷ []
written (c ∷ cs) = slashed (c ∷ cs)

-- a path: components, written out in at most 64 bytes
pub record IsPath (s : List ℕ) : Type 0 where
  pub parts : List (List ℕ)
  pub components : AllByRecursion Component parts
  pub whole : s ≡ written parts
  pub short : length s ≤ 64

-- one component or more, with a slash between them
pub record IsRest (s : List ℕ) : Type 0 where
  pub first : List ℕ
  pub others : List (List ℕ)
  pub components : AllByRecursion Component (first ∷ others)
  pub whole : 47 ∷ s ≡ written (first ∷ others)

-- n is the length of an ancestor of s: of its first components, fewer than all, perhaps none
pub record Ancestor (s : List ℕ) (n : ℕ) : Type 0 where
  pub front : List (List ℕ)
  pub next : List ℕ
  pub rest : List (List ℕ)
  pub components : AllByRecursion Component (front ++ next ∷ rest)
  pub whole : s ≡ written (front ++ next ∷ rest)
  pub long : n ≡ length (written front)

-- the same, as a test of the bytes
abbrev pub ancestor : List ℕ → ℕ → Bool
ancestor s n = nat_lt 0 n && nat_lt n (length s) && (n == 1 || slice_index s n == 47)

-- on a path the test is the relation, and what it cuts off is a path
pub record Ancestors : Type 0 where
  pub tests : (s : List ℕ) (n : ℕ) → IsPath s → Decides (ancestor s n) (Ancestor s n)
  pub paths : (s : List ℕ) (n : ℕ) → IsPath s → ancestor s n ≡ true → IsPath (take n s)
