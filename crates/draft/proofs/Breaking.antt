-- Separations, one by one.
use Rattle.std.proofs.Common.{◌≡◌, ℕ, ◌+◌, ◌<◌, Bool, true, List, ◌++◌, length, get_or, take, drop, is_some, Some, None, Option, sym, refl, ap, ◌∙◌, subst}
use Rattle.std.specs.List.{AllByRecursion}
use Rattle.std.proofs.lemmas.List.{take-append-drop, drop_more}
use Rattle.machine.specs.Flow.{of_type}
use Rattle.machine.specs.Policy.{Policy as Asked}
use Rattle.tables.specs.declared.table.Apart.{Apart}
use Rattle.flow.specs.declared.objects.Objects.{Objects}
use Rattle.flow.specs.Searches.{Fewest}
use Rattle.flow.specs.Sets.{among, within}
use Rattle.flow.specs.SetLaws.{same_within, same_fewest}
use Rattle.draft.specs.Breaks.{Chained}
use Rattle.draft.specs.Endings.{KeptApart, FirstBroken}

module _ (P : Asked) (a : Apart) where
  by_links : (r : Option ℕ) → Fewest P (of_type P a.from.0) (of_type P a.to.0) r → Chained P a (is_some r)
  by_links None h = h
  by_links (Some n) h = (n, h.chain)

  pub chained_by_links : (from to : Objects) → ((o : ℕ) → among from o ≡ within P (of_type P a.from.0) o) → ((o : ℕ) → among to o ≡ within P (of_type P a.to.0) o) →
      (r : Option ℕ) → Fewest P (among from) (among to) r → (b : Bool) → b ≡ is_some r → Chained P a b
  chained_by_links from to hf ht r h b e =
      subst (Chained P a) (sym e)
      (by_links r (same_fewest P (among from) (among to) (of_type P a.from.0) (of_type P a.to.0) (same_within P (among from) _ hf) (same_within P (among to) _ ht) r h))

module _ (P : Asked) (aparts : List Apart) (d : Apart) where
  pub broken_here : (i : ℕ) → i < length aparts → AllByRecursion (KeptApart P) (take i aparts) → Chained P (get_or aparts i d) true → FirstBroken P aparts ((get_or aparts i d).from, (get_or aparts i d).to)
  broken_here i l kept c =
      record {
        earlier = take i aparts;
        broken = get_or aparts i d;
        later = drop (i + 1) aparts;
        all = sym (take-append-drop i aparts) ∙ ap (λ x. take i aparts ++ x) (drop_more aparts i d l);
        kept = kept;
        types = refl;
        links = c.0;
        chain = c.1;
      }
