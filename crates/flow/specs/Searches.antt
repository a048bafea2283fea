-- What a search for a shortest chain answers, and what it leaves in the buffer.
use Rattle.std.specs.Prelude.{◌≡◌, ℕ, suc, Bool, true, false, List, ◌++◌, map, length, drop, Some, None, Ok, Err, Option, Result, nat_lt}
use Rattle.label.specs.declared.refusal.Refusal.{Refusal}
use Rattle.label.specs.declared.refusal.Refusal.TheVariants.{SmallBuffer}
use Rattle.machine.specs.Flow.{number, trail, NoChain, Shortest, Objects as Set}
use Rattle.machine.specs.Policy.{Policy as Asked}

-- the least number of links of a chain, if there is one
abbrev pub Fewest : Asked → Set → Set → Option ℕ → Type 0
Fewest P From To None = NoChain P From To
Fewest P From To (Some n) = Shortest P From To n

-- a shortest chain, with the numbers of its nodes in the front of the buffer, and all behind them as it was
pub record Shown (P : Asked) (From To : Set) (n : ℕ) (before after : List ℕ) : Type 0 where
  pub shortest : Shortest P From To n
  pub nodes : after ≡ map number (trail shortest.chain.walk) ++ drop (suc n) before

-- the buffer is too small, and left as it was
abbrev pub Refused : List ℕ → Result (Option ℕ) Refusal → List ℕ → Type 0
Refused before r after = (r ≡ Err SmallBuffer) × (after ≡ before)

-- by whether the buffer is too small, and then by the answer
abbrev pub Answered : Bool → Asked → Set → Set → List ℕ → Result (Option ℕ) Refusal → List ℕ → Type 0
Answered true P From To before r after = Refused before r after
Answered false P From To before (Ok None) after = NoChain P From To × (after ≡ before)
Answered false P From To before (Ok (Some n)) after = Shown P From To n before after
Answered false P From To before (Err e) after = ⊥

-- A buffer under 160 bytes is refused, and left as it was. Else: none, if no chain leads from the one set to the other, and the buffer
-- is left as it was; or the number of links of a shortest chain, which the buffer then shows.
abbrev pub Searched : Asked → Set → Set → List ℕ → Result (Option ℕ) Refusal → List ℕ → Type 0
Searched P From To before r after = Answered (nat_lt (length before) 160) P From To before r after
