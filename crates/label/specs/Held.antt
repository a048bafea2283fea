-- The name or path that bytes are, as it is held: with zeros behind its text.
use Rattle.std.specs.Prelude.{◌≡◌, ℕ, ◌≤◌, Bool, true, false, List, length, take, Some, None, Option, Decides, refl}
use Rattle.std.proofs.Common.{sym, ap, subst}
use mathlib.Core.HLevel.{is_prop→PathP}
use Rattle.std.proofs.Math.Logic.{∥∥₁_prop}
use Rattle.std.proofs.Math.Bridge.{le_prop}
use Rattle.std.proofs.lemmas.Bool.{both_ways}
use Rattle.label.specs.declared.name.Name.{Name}
use Rattle.label.specs.declared.path.Path.{Path}
use Rattle.label.specs.declared.short.Short.{Short}
use Rattle.label.specs.Shorts.{padded, held_text}
use Rattle.label.specs.Names.{IsName}
use Rattle.label.specs.Paths.{IsPath}
use Rattle.label.specs.Tests.{is_name, is_path}
use Rattle.label.specs.TestLaws.{name_test, path_test}

-- the short text that the bytes are
abbrev pub short : (n : ℕ) (s : List ℕ) → length s ≤ n → Short n
short n s l = record { bytes = padded n s; len = length s; fits = l }

unfoldable pub held_name : (s : List ℕ) → IsName s → Name
held_name s h = record { text = short 24 s h.short; ok = ∣ subst IsName (sym (held_text 24 s (padded 24 s) refl)) h ∣₁ }

unfoldable pub held_path : (s : List ℕ) → IsPath s → Path
held_path s h = record { text = short 64 s h.short; ok = ∣ subst IsPath (sym (held_text 64 s (padded 64 s) refl)) h ∣₁ }

-- what is held of the bytes, where a test says that they may be
unfoldable pub held_by : {X : Type 0} {P : List ℕ → Type 0} {test : List ℕ → Bool} (law : (s : List ℕ) → Decides (test s) (P s)) (hold : (s : List ℕ) → P s → X) (s : List ℕ) (b : Bool) → test s ≡ b → Option X
held_by law hold s true e = Some (hold s ((law s).0 e))
held_by law hold s false e = None

-- the name that the bytes are, if they are one
unfoldable pub named : List ℕ → Option Name
named s = held_by name_test held_name s (is_name s) refl

-- the path that the bytes are, if they are one
unfoldable pub pathed : List ℕ → Option Path
pathed s = held_by path_test held_path s (is_path s) refl

-- ── Laws ──

-- a short text is known by its array and its length
short_same : (n : ℕ) (s t : Short n) → s.bytes ≡ t.bytes → s.len ≡ t.len → s ≡ t
short_same n s t p q = λ i. record { bytes = p i; len = q i; fits = is_prop→PathP (λ j. q j ≤ n) (λ j. le_prop) s.fits t.fits i }

-- what is held is known by its array and its length
name_same : (m n : Name) → m.text.bytes ≡ n.text.bytes → m.text.len ≡ n.text.len → m ≡ n
name_same m n p q =
    let e : m.text ≡ n.text = short_same 24 m.text n.text p q in
    λ i. record { text = e i; ok = is_prop→PathP (λ j. ∥ IsName (take (e j).len (e j).bytes) ∥₁) (λ j. ∥∥₁_prop) m.ok n.ok i }

path_same : (m n : Path) → m.text.bytes ≡ n.text.bytes → m.text.len ≡ n.text.len → m ≡ n
path_same m n p q =
    let e : m.text ≡ n.text = short_same 64 m.text n.text p q in
    λ i. record { text = e i; ok = is_prop→PathP (λ j. ∥ IsPath (take (e j).len (e j).bytes) ∥₁) (λ j. ∥∥₁_prop) m.ok n.ok i }

module _ {X : Type 0} {P : List ℕ → Type 0} {test : List ℕ → Bool} (law : (s : List ℕ) → Decides (test s) (P s)) (hold : (s : List ℕ) → P s → X) (s : List ℕ) where
  held_some : (x : X) → ((h : P s) → hold s h ≡ x) → P s → (b : Bool) (e : test s ≡ b) → held_by law hold s b e ≡ Some x
  unfolding held_by
  held_some x same h true e = ap (λ y. Some y) (same ((law s).0 e))
  held_some x same h false e = absurd (both_ways (test s) e ((law s).1 h))

  held_none : (P s → ⊥) → (b : Bool) (e : test s ≡ b) → held_by law hold s b e ≡ None
  unfolding held_by
  held_none h true e = absurd (h ((law s).0 e))
  held_none h false e = refl

-- a name held with zeros behind its text is the one that the text is
pub named_held : (n : Name) (s : List ℕ) → IsName s → n.text.bytes ≡ padded 24 s → n.text.len ≡ length s → named s ≡ Some n
unfolding named held_name
named_held n s h p q = held_some name_test held_name s n (λ m. name_same (held_name s m) n (sym p) (sym q)) h _ refl

pub pathed_held : (n : Path) (s : List ℕ) → IsPath s → n.text.bytes ≡ padded 64 s → n.text.len ≡ length s → pathed s ≡ Some n
unfolding pathed held_path
pathed_held n s h p q = held_some path_test held_path s n (λ m. path_same (held_path s m) n (sym p) (sym q)) h _ refl

pub named_none : (s : List ℕ) → (IsName s → ⊥) → named s ≡ None
unfolding named
named_none s h = held_none name_test held_name s h _ refl

pub pathed-none : (s : List ℕ) → (IsPath s → ⊥) → pathed s ≡ None
unfolding pathed
pathed-none s h = held_none path_test held_path s h _ refl
