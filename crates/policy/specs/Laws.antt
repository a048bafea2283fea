-- What grants and passages come to, for those who use them.
use Rattle.std.specs.Prelude.{◌≡◌, ℕ, ◌<◌, true, false, ◌⊎◌, ◌↔◌, List, length, take, is_some, is_ok, Some, Err, Option}
use Rattle.std.specs.Option.{option_map}
use Rattle.label.specs.Letters.{letter_r, letter_x, letter_d}
use Rattle.label.specs.Paths.{ancestor, IsPath}
use Rattle.label.specs.declared.numbers.Typ.{Typ}
use Rattle.tables.specs.Model.{Model}
use Rattle.policy.specs.declared.complete.Policy.{Policy}
use Rattle.policy.specs.Grants.{type_at, object_type, no_object, path_of, holds, grant, grant_on, read_on}
use Rattle.policy.specs.Holds.{model_of}
use Rattle.policy.specs.Passages.{pass, auto, leads}
use Rattle.policy.specs.Sheets.{type_number}

-- d is held on the type of every ancestor shorter than n
abbrev pub Reached : Model → ℕ → List ℕ → ℕ → Type 0
Reached m d p n = (k : ℕ) → k < n → ancestor p k ≡ true → holds m d (type_at m (take k p)) letter_d ≡ true

-- A denial names the first path, from / downward, that failed: an ancestor on whose type d is lacking,
-- or the path itself, on whose type t the letter l is lacking.
pub record Denied (m : Model) (d : ℕ) (p : List ℕ) (t : Option Typ) (l n k : ℕ) : Type 0 where
  pub reached : Reached m d p n
  pub lacks :
      ((ancestor p n ≡ true) × ((k ≡ letter_d) × (holds m d (type_at m (take n p)) letter_d ≡ false)))
      ⊎ ((n ≡ length p) × ((k ≡ l) × (holds m d t l ≡ false)))

-- no two auto passages of a domain lead by one path
abbrev pub Only : Model → ℕ → List ℕ → Type 0
Only m d p = (e f : ℕ) → leads m d p e ≡ true → leads m d p f ≡ true → e ≡ f

pub record Laws : Type 0 where
  pub path_typed : (p : Policy) (s : List ℕ) → ∥ IsPath s ∥₁ → is_some (type_at (model_of p) s) ≡ true
  pub object_typed : (p : Policy) (o : ℕ) → no_object (model_of p) o ≡ false → object_type (model_of p) o ≡ Some (record { 0 = type_number (model_of p) o })
  pub granted : (m : Model) (d : ℕ) (p : List ℕ) (t : Option Typ) (l : ℕ) → (is_ok (grant m d p t l) ≡ true) ↔ (Reached m d p (length p) × (holds m d t l ≡ true))
  pub denied : (m : Model) (d : ℕ) (p : List ℕ) (t : Option Typ) (l n k : ℕ) → grant m d p t l ≡ Err (n, k) → Denied m d p t l n k
  -- r or x grants reading, and nothing else does
  pub read : (m : Model) (d o : ℕ) → (is_ok (read_on m d o) ≡ true) ↔ ((is_ok (grant_on m d o letter_r) ≡ true) ⊎ (is_ok (grant_on m d o letter_x) ≡ true))
  -- reading that is denied is denied as r is
  pub unread : (m : Model) (d o n k : ℕ) → read_on m d o ≡ Err (n, k) → grant_on m d o letter_r ≡ Err (n, k)
  pub pass_runs : (m : Model) (d o e : ℕ) → pass m d o e ≡ true → is_ok (grant_on m d o letter_x) ≡ true
  pub pass_object : (m : Model) (d o e : ℕ) → pass m d o e ≡ true → o < length m.objects
  pub pass_from : (m : Model) (d o e : ℕ) → pass m d o e ≡ true → d < length m.domains
  pub pass_to : (m : Model) (d o e : ℕ) → pass m d o e ≡ true → e < length m.domains
  pub auto_passes : (m : Model) (d o e : ℕ) → option_map (λ x. x.0) (auto m d o) ≡ Some e → pass m d o e ≡ true
  -- where a domain has one auto passage by an object, a run without a wish takes that one
  pub auto_only : (m : Model) (d o e : ℕ) → Only m d (path_of m o) → pass m d o e ≡ true → leads m d (path_of m o) e ≡ true → option_map (λ x. x.0) (auto m d o) ≡ Some e
