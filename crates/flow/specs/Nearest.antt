-- Of the objects of a set, one that is nearest.
use Rattle.std.specs.Prelude.{◌≡◌, ℕ, ◌<◌, ◌≤◌, true, if◌then◌else◌, Some, None, Option, option_map}
use Rattle.machine.specs.Flow.{Objects as Set}
use Rattle.flow.specs.declared.spread.Near.{Near}

-- an object of the set at its distance; none where the object is not in the set, or no walk leads there
abbrev pub end_at : (ℕ → Option ℕ) → Set → ℕ → Option Near
end_at distance To o = if To o then option_map (λ n. record { obj = o; links = n }) (distance o) else None

-- an object of the set that a walk leads to; none is nearer
pub record Nearer (distance : ℕ → Option ℕ) (To : Set) (near : Near) : Type 0 where
  pub object : near.obj < 128
  pub in_set : To near.obj ≡ true
  pub far : distance near.obj ≡ Some near.links
  pub least : (o n : ℕ) → o < 128 → To o ≡ true → distance o ≡ Some n → near.links ≤ n

-- such an object, or none where no walk leads to any of them
abbrev pub Nearest : (ℕ → Option ℕ) → Set → Option Near → Type 0
Nearest distance To None = (o : ℕ) → o < 128 → To o ≡ true → distance o ≡ None
Nearest distance To (Some near) = Nearer distance To near
