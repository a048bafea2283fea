-- The targets of a domain are marked object by object.
use Rattle.std.proofs.Common.{◌≡◌, ℕ, ◌+◌, ◌<◌, ◌≤◌, Bool, true, false, ◌||◌, ltb, List, get_or, replicate, sym, ap, ◌∙◌, ⊎_elim, arith}
use Rattle.std.proofs.lemmas.List.{get_or-replicate}
use Rattle.std.proofs.lemmas.Bool.{true≢false, cases_eq, and_from, lt-ltb, or_cases, or_left, or_right}
use Rattle.machine.specs.Flow.{obj, dom}
use Rattle.machine.specs.Policy.{running, Policy as Asked}
use Rattle.flow.specs.Allows.{allowed}
use Rattle.flow.specs.Passages.{Passage, TargetsOf}
use Rattle.flow.specs.Tables.{LeadsTo, RowOf}

module _ (P : Asked) (d : ℕ) where
  pub none_yet : TargetsOf P d 0 (replicate 32 false)
  none_yet e l = (λ h. absurd (true≢false (sym h ∙ get_or-replicate 32 e false false l)), λ w. absurd (omega (arith, w.1)))

  module _ (o : ℕ) (row : List Bool) (below : TargetsOf P d o row) where
    pub by_this_too : (after : List Bool) → ((e : ℕ) → e < 32 → get_or after e false ≡ (get_or row e false || P.pass d o e)) → TargetsOf P d (o + 1) after
    by_this_too after new e l = (
      λ h.
          ⊎_elim (λ old. let w = (below e l).0 old in (w.0, omega (arith, w.1), w.2)) (λ this. (o, omega arith, this))
          (or_cases (get_or row e false) (P.pass d o e) (sym (new e l) ∙ h)),
      λ w.
          new e l
          ∙ ⊎_elim (λ same. or_right (get_or row e false) _ (sym (ap (λ k. P.pass d k e) same) ∙ w.2))
          (λ other. or_left _ _ ((below e l).1 (w.0, omega (arith, w.1, other), w.2)))
          (cases_eq w.0 o),
    )

    -- by an object that it may not run a domain passes nowhere
    pub not_by_this : ((k e : ℕ) → P.pass d k e ≡ true → d < P.domains) → allowed P running d o ≡ false → TargetsOf P d (o + 1) row
    not_by_this from no_run e l = (
      λ h. let w = (below e l).0 h in (w.0, omega (arith, w.1), w.2),
      λ w.
          ⊎_elim
          (λ same.
          let h : P.pass d o e ≡ true = sym (ap (λ k. P.pass d k e) same) ∙ w.2 in
          absurd
          (true≢false
          (sym
          (and_from (ltb o P.objects) _ (lt-ltb o P.objects (P.pass_object d o e h))
          (and_from (ltb d P.domains) _ (lt-ltb d P.domains (from o e h)) (P.pass_runs d o e h)))
          ∙ no_run)))
          (λ other. (below e l).1 (w.0, omega (arith, w.1, other), w.2))
          (cases_eq w.0 o),
    )

-- the row of the targets is that of the passages
pub passages_row : (P : Asked) (d : ℕ) (marks row : List Bool) → P.objects ≤ 128 → TargetsOf P d 128 marks → LeadsTo marks row → RowOf (Passage P (dom d)) row
passages_row P d marks row few all led (obj o) l = (λ h. true≢false (sym h ∙ led.objects o l), λ q. absurd q)
passages_row P d marks row few all led (dom e) l = (
  λ h. let w = (all e l).0 (sym (led.domains e l) ∙ h) in (w.0, w.2),
  λ w. led.domains e l ∙ (all e l).1 (w.0, omega (arith, few, P.pass_object d w.0 e w.1), w.1),
)
