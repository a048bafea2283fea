use Rattle.std.proofs.Common.{◌≡◌, ℕ, ◌-◌, ◌≤◌, min, List, length, take, sym, ap, ◌∙◌, ⊎_elim, arith}
use Rattle.std.proofs.lemmas.List.{take_all}
use Rattle.std.proofs.lemmas.Bool.{cases_lt}
use Rattle.scan.specs.Lines.{feeds_in}
use Rattle.scan.proofs.lines.line_of.Goals as goal

take_within : (s : List ℕ) (p n : ℕ) → n ≡ min p (length s) → take (n - 0) s ≡ take p s
take_within s p n e =
    ⊎_elim
    (λ below. let same : n - 0 ≡ p = omega arith in ap (λ k. take k s) same)
    (λ above. let all : length s ≤ n - 0 = omega arith in take_all (n - 0) s all ∙ sym (take_all p s above))
    (cases_lt p (length s))

pub returns : goal.returns
returns c =
    let exact = c.count_feeds.ensures.count ∙ ap feeds_in (take_within c.args.text.now c.args.place c.min.result c.min.ensures) in
    omega arith
