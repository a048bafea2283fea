-- The numbers of a range.
use Rattle.std.proofs.Common.{◌≡◌, ℕ, ◌+◌, ◌<◌, ◌≤◌, zero, suc, Bool, true, Some, length, get_or, sym, ap, ◌∙◌, ⊎_elim, arith}
use Rattle.std.specs.declared.ops.Range.{Range}
use Rattle.std.specs.Iterator.Runs.{Run}
use Rattle.std.specs.List.{list_any, range_with_len}
use Rattle.std.proofs.iter.Yields.{nat_range_steps}
use Rattle.std.proofs.iter.runs.Sources.{range_runs}
use Rattle.std.proofs.lemmas.Bool.{cases_eq, or_cases, or_left, or_right}

pub some_in_range : (test : ℕ → Bool) (a n : ℕ) → list_any test (range_with_len a n) ≡ true → (o : ℕ) × (test o ≡ true)
some_in_range test a zero h = absurd (let z : ◌≡◌ {A = ℕ} 0 1 = cc in omega arith)
some_in_range test a (suc n) h = ⊎_elim (λ t. (a, t)) (λ t. some_in_range test (a + 1) n t) (or_cases (test a) (list_any test (range_with_len (a + 1) n)) h)

pub range_has : (test : ℕ → Bool) (a n o : ℕ) → a ≤ o → o < a + n → test o ≡ true → list_any test (range_with_len a n) ≡ true
range_has test a zero o l h t = absurd (omega arith)
range_has test a (suc n) o l h t =
    ⊎_elim
    (λ same. or_left (test a) _ (ap test same ∙ t))
    (λ other. or_right (test a) _ (range_has test (a + 1) n o (omega (arith, other)) (omega arith) t))
    (cases_eq a o)

-- a whole run of a range counts up from its start
pub counts_up : (p : Run nat_range_steps) (n : ℕ) → p.from ≡ record { start = 0; end = n } → p.whole ≡ true → (length p.items ≡ n) × ((k : ℕ) → k < n → get_or p.items k 0 ≡ k)
counts_up p n from whole =
    let r = range_runs p p.seen in
    let start : p.from.start ≡ 0 = ap (λ (q : Range ℕ). q.start) from in
    let end : p.from.end ≡ n = ap (λ (q : Range ℕ). q.end) from in
    let len : p.len ≡ n = omega (arith, r.1 whole) in (
      omega (arith, p.long),
      λ k l.
          let e : Some (get_or p.items k 0) ≡ Some (p.from.start + k) = sym (p.reads k 0 (omega arith)) ∙ r.3 k (omega arith) in
          let same : get_or p.items k 0 ≡ p.from.start + k = cc in
          omega arith,
    )
