-- The text of a name or a path that is held, and what it is to read one.
use Rattle.std.specs.Prelude.{◌≡◌, ℕ, List, take, Result, MatchResult}
use Rattle.label.specs.declared.name.Name.{Name}
use Rattle.label.specs.declared.path.Path.{Path}
use Rattle.label.specs.declared.refusal.Refusal.{Refusal}
use Rattle.label.specs.declared.refusal.Refusal.TheVariants.{Misshapen}
use Rattle.label.specs.Names.{IsName}
use Rattle.label.specs.Paths.{IsPath}

abbrev pub name_text : Name → List ℕ
name_text n = take n.text.len n.text.bytes

abbrev pub text : Path → List ℕ
text p = take p.text.len p.text.bytes

-- the bytes are a name and it is held, or they are none and are refused
abbrev pub ReadsName : List ℕ → Result Name Refusal → Type 0
ReadsName s r = MatchResult r (λ n. IsName s × (name_text n ≡ s)) (λ e. (IsName s → ⊥) × (e ≡ Misshapen))

abbrev pub ReadsPath : List ℕ → Result Path Refusal → Type 0
ReadsPath s r = MatchResult r (λ p. IsPath s × (text p ≡ s)) (λ e. (IsPath s → ⊥) × (e ≡ Misshapen))
