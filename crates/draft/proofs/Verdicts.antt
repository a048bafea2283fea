-- The verdict on tables is the verdict on the policy that they are.
use Rattle.std.proofs.Common.{◌≡◌, true, None, ap, ◌∙◌, subst}
use Rattle.std.specs.List.{AllByRecursion}
use Rattle.label.specs.declared.numbers.Typ.{Typ}
use Rattle.tables.specs.Model.{Model}
use Rattle.policy.specs.Abstract.{asked, asked_of_tables, first_is}
use Rattle.policy.specs.Holds.{model_of, complete}
use Rattle.policy.specs.declared.complete.Policy.{Policy}
use Rattle.clash.specs.Clashes.{clash}
use Rattle.draft.specs.Endings.{KeptApart, FirstBroken, Settled, Broken}

module _ (p : Policy) (m : Model) (same : model_of p ≡ m) (whole : complete m ≡ true) (single : clash m ≡ None) where
  pub settled_policy : AllByRecursion (KeptApart (asked p)) (model_of p).aparts → Settled (model_of p)
  settled_policy a =
      record {
        complete_is = ap complete same ∙ whole;
        no_clash = ap clash same ∙ single;
        first_is = first_is p;
        apart = subst (λ P. AllByRecursion (KeptApart P) (model_of p).aparts) (asked_of_tables p (first_is p)) a;
      }

  pub settled_tables : AllByRecursion (KeptApart (asked p)) (model_of p).aparts → Settled m
  settled_tables a = subst Settled same (settled_policy a)

  pub broken_tables : (pair : Typ × Typ) → FirstBroken (asked p) (model_of p).aparts pair → Broken m pair
  broken_tables pair b =
      subst (λ x. Broken x pair) same
      (record {
        complete_is = ap complete same ∙ whole;
        no_clash = ap clash same ∙ single;
        first_is = first_is p;
        first_broken = subst (λ P. FirstBroken P (model_of p).aparts pair) (asked_of_tables p (first_is p)) b;
      })
