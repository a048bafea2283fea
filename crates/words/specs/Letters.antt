-- Words that are letters of rights.
use Rattle.std.specs.Prelude.{◌≡◌, ℕ, ◌<◌, cond, ◌⊎◌, ◌↔◌, List, [], ◌∷◌, Some, None, codes, Decides, Option}
use Rattle.std.specs.Option.{option_map, option_flatten}
use Rattle.std.specs.List.{AllByRecursion}
use Rattle.label.specs.declared.rights.Rights.{Rights}
use Rattle.label.specs.Letters.{bit, has, none, union}

-- the set with one letter more; nothing where that is no letter, or one that the set has
unfoldable pub with_letter : Rights → ℕ → Option Rights
with_letter s l = cond (has s l) None (option_map (λ b. union s (record { bits = b })) (bit l))

-- the set with these letters more, one by one
unfoldable pub with_letters : Rights → List ℕ → Option Rights
with_letters s [] = Some s
with_letters s (l ∷ ls) = option_flatten (option_map (λ t. with_letters t ls) (with_letter s l))

-- the set of the letters that the bytes are, of which there has to be one
unfoldable pub letters_of : List ℕ → Option Rights
letters_of [] = None
letters_of (l ∷ ls) = with_letters none (l ∷ ls)

-- the byte is one of the bytes
abbrev pub Among : List ℕ → ℕ → Type 0
Among [] l = ⊥
Among (b ∷ bs) l = (b ≡ l) ⊎ Among bs l

-- no byte stands twice
abbrev pub Distinct : List ℕ → Type 0
Distinct [] = Unit {0}
Distinct (b ∷ bs) = (Among bs b → ⊥) × Distinct bs

-- one letter or more, each once
pub record OnceEach (bs : List ℕ) : Type 0 where
  pub some : bs ≡ [] → ⊥
  pub letters : AllByRecursion (Among (codes "rwaxcd")) bs
  pub once : Distinct bs

-- the set has the letters that the bytes are, and nothing else
pub record SetOf (bs : List ℕ) (s : Rights) : Type 0 where
  pub has_these : (l : ℕ) → Decides (has s l) (Among bs l)
  pub no_more : s.bits < 64

pub record LettersAsSets : Type 0 where
  -- bytes are read as a set exactly where they are letters, each once, and the set is that of these letters
  pub taken : (bs : List ℕ) (s : Rights) → (letters_of bs ≡ Some s) ↔ (OnceEach bs × SetOf bs s)
  pub refused : (bs : List ℕ) → (letters_of bs ≡ None) ↔ (OnceEach bs → ⊥)
  -- the order of the letters does not matter
  pub any_order : (bs cs : List ℕ) → OnceEach bs → OnceEach cs → ((l : ℕ) → Among bs l ↔ Among cs l) → letters_of bs ≡ letters_of cs
