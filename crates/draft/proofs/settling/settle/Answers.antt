use Rattle.std.proofs.Common.{◌≡◌, true, None, sym, ap, ◌∙◌, rules}
use Rattle.tables.specs.Model.{model, Model}
use Rattle.policy.specs.Holds.{model_of, complete}
use Rattle.clash.specs.Clashes.{clash}
use Rattle.reader.specs.Composed.{Composed}
use Rattle.draft.proofs.Verdicts.{settled_policy, settled_tables, broken_tables}
use Rattle.draft.proofs.settling.settle.Goals as goal
use Rattle.draft.proofs.settling.settle.Goals.{In_default}

-- what is known once the tables are charted
record Known (c : In_default) : Type 0 where
  same_tables : model c.in_ok-policy.policy.tables ≡ model c.args.composition.tables
  whole : complete (model c.args.composition.tables) ≡ true
  single : clash (model c.args.composition.tables) ≡ None

known : (c : In_default) → Known c
known c =
    let parts : model c.into_parts-tables.result.0 ≡ model c.args.composition.tables = ap (λ (x : Composed). x.tables) c.into_parts-tables.ensures in
    let whole : complete (model c.into_parts-tables.result.0) ≡ true = search rules in
    let taken : c.in_ok-policy.policy.tables ≡ c.into_parts-tables.result.0 = search rules in
    let same : model c.in_ok-policy.policy.tables ≡ model c.args.composition.tables = ap model taken ∙ parts in
    record {
      same_tables = same;
      whole = sym (ap complete parts) ∙ whole;
      single = sym (ap clash (ap model c.tables.ensures ∙ same)) ∙ sym c.in_default.ensures;
    }

pub returns-in-Some-first_broken : goal.returns-in-Some-first_broken
returns-in-Some-first_broken c =
    let k = known (goal.at.returns-in-Some-first_broken c).In_default in
    broken_tables c.seal-decisions.result.policy _ (ap model_of c.seal-decisions.ensures ∙ k.same_tables) k.whole k.single c.in-Some-first_broken.pair c.in-Some-first_broken.ensures

pub invariant_of-result : goal.invariant_of-result
invariant_of-result c =
    let k = known (goal.at.invariant_of-result c).In_default in
    record {
      charted = ∣ c.of-chart.ensures ∣₁;
      settled = ∣ settled_policy c.seal-decisions.result.policy _ (ap model_of c.seal-decisions.ensures ∙ k.same_tables) k.whole k.single c.in_default-first_broken.ensures ∣₁;
    }

pub returns : goal.returns
returns c =
    let k = known (goal.at.returns c).In_default in
    let same : model_of c.seal-decisions.result.policy ≡ model c.args.composition.tables = ap model_of c.seal-decisions.ensures ∙ k.same_tables in (
      ap (λ (m : Model). record { tables = m; specified = c.into_parts-tables.result.1 }) same ∙ ap (λ s. record { tables = model c.args.composition.tables; specified = s }) (ap (λ (x : Composed). x.specified) c.into_parts-tables.ensures),
      settled_tables c.seal-decisions.result.policy _ same k.whole k.single c.in_default-first_broken.ensures,
    )
