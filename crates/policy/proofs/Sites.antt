-- Tests that agree find the same, so the domains that a path enters may be looked up in a list of marks.
use Rattle.std.proofs.Common.{◌≡◌, ℕ, zero, suc, ◌<◌, ◌≤◌, Bool, false, ◌&&◌, cond, List, length, Some, None, refl, ap, ◌∙◌, arith}
use Rattle.std.specs.Prelude.{slice_index_or}
use Rattle.std.specs.Option.{option_map, option_or}
use Rattle.tables.specs.Entries.{Entered}
use Rattle.tables.specs.Holdings.{listed}
use Rattle.tables.specs.Model.{Model, holding_of}
use Rattle.tables.specs.declared.holding.Passage.TheVariants.{Auto}
use Rattle.policy.specs.Lowest.{lowest}
use Rattle.policy.specs.Passages.{leads, target}

pub lowest_same : (f g : ℕ → Bool) (n : ℕ) → ((k : ℕ) → k < n → f k ≡ g k) → lowest f n ≡ lowest g n
unfolding lowest
lowest_same f g zero h = refl
lowest_same f g (suc n) h =
    ap (λ x. option_or x (cond (f n) (Some n) None)) (lowest_same f g n (λ k l. h k (omega arith)))
    ∙ ap (λ b. option_or (lowest g n) (cond b (Some n) None)) (h n (omega arith))

-- d lists an auto passage to e, and e is one of the domains that are entered
abbrev pub leads_among : Model → ℕ → List Bool → ℕ → Bool
leads_among m d entered e = listed (holding_of m d) Auto e && slice_index_or entered e false

pub target_among : (m : Model) (d : ℕ) (p : List ℕ) (entered : List Bool) → length m.domains ≤ 32 → Entered m.entries p entered → option_map (λ e. record { 0 = e }) (lowest (leads_among m d entered) (length m.domains)) ≡ target m d p
target_among m d p entered few h =
    ap (option_map (λ e. record { 0 = e }))
    (lowest_same (leads_among m d entered) (leads m d p) (length m.domains) (λ e l. ap (λ b. listed (holding_of m d) Auto e && b) (h e (omega arith))))
