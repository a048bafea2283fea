use Rattle.std.proofs.Common.{◌≡◌, ℕ, ◌<◌, false, ◌||◌, length, get_or, drop}
use Rattle.tables.specs.Entries.{enters}
use Rattle.tables.proofs.entry.Entries.entered_by.Given as goal

abbrev pub invariant-loop-entry : goal.invariant-loop-entry
invariant-loop-entry l = (length l.entered ≡ 32) × ((e : ℕ) → e < 32 → (get_or l.entered e false || enters (drop l.entry-index l.entry-items) e l.path) ≡ enters l.entry-items e l.path)
