use Rattle.std.proofs.Common.{rules}
use Rattle.std.proofs.lemmas.Bool.{MatchBool-at_true}
use Rattle.std.proofs.lemmas.Iterator.{cases_from_all}
use Rattle.std.proofs.lemmas.Iterator.Search.{true_from_All}
use Rattle.std.proofs.lemmas.Iterator.Splits.{YieldsList-from_slice_split}
use Rattle.std.proofs.lemmas.List.Elements.{All-from_recursion, recursion_from_All, All-from_all_within}
use Rattle.label.specs.Paths.{Component}
use Rattle.label.proofs.Parts.{is_slash, rest_from_parts, parts_from_rest}
use Rattle.label.proofs.paths.are_components.Goals as goal

pub returns : goal.returns
returns c =
    let r =
    cases_from_all _ _ _ Component (λ p. Component p → ⊥) c.all.ensures.ran
    (YieldsList-from_slice_split _ is_slash c.args.s.now c.split.ensures.rest c.split.ensures.done c.split.ensures.closure (λ x b q k. search rules))
    (λ x q k. search rules)
    (λ x q k. search rules) in (
      λ t. rest_from_parts _ (recursion_from_All Component _ (All-from_all_within Component _ (MatchBool-at_true _ _ t r))),
      λ m. true_from_All Component (λ p. Component p → ⊥) _ _ (λ p y n. n y) r (All-from_recursion Component _ (parts_from_rest _ m)),
    )
