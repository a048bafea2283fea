-- What a chain over the numbers of the slots tells of each.
use Rattle.std.proofs.Common.{◌≡◌, ℕ, Bool, true, false, Some, None, Option, subst}
use Rattle.std.proofs.lemmas.Option.{none-some}
use Rattle.std.specs.Bool.{MatchBool}
use Rattle.std.specs.Option.{option_map, IfSome, IsSomeAnd}

pub by_answer : {A B C D : Type 0} (b : Bool) → MatchBool b A B → (A → C) → (B → D) → MatchBool b C D
by_answer true h f g = f h
by_answer false h f g = g h

pub at_number : (o : Option ℕ) (k : ℕ) (P Q : ℕ → Type 0) → option_map (λ y. y) o ≡ Some k → IfSome o (λ x. (x ≡ k) × Q x) → IfSome o P → P k
at_number None k P Q e r h = absurd (none-some k e)
at_number (Some x) k P Q e r h = subst P r.0 h

pub some_number : (o : Option ℕ) (P Q : ℕ → Type 0) → IsSomeAnd o P → IfSome o Q → (x : ℕ) × P x × Q x
some_number None P Q h r = absurd h
some_number (Some x) P Q h r = (x, h, r)
