-- A chain sees of a set only what of it are objects of the policy.
use Rattle.std.specs.Prelude.{◌≡◌, ℕ, ◌<◌, Bool, true, false, ◌&&◌, List, length, Some, None, Ok, Err, Option, Result, nat_lt}
use Rattle.std.proofs.Common.{sym, ap, ◌∙◌}
use Rattle.std.proofs.lemmas.Bool.{lt-ltb}
use Rattle.label.specs.declared.refusal.Refusal.{Refusal}
use Rattle.machine.specs.Flow.{Chain, NoChain, Shortest, of_type, Objects as Set}
use Rattle.machine.specs.Policy.{Policy as Asked}
use Rattle.flow.specs.declared.objects.Objects.{Objects}
use Rattle.flow.specs.Searches.{Fewest, Answered, Searched}
use Rattle.flow.specs.Sets.{among, within}

abbrev pub SameObjects : Asked → Set → Set → Type 0
SameObjects P A B = (o : ℕ) → o < P.objects → A o ≡ B o

pub same_within : (P : Asked) (A B : Set) → ((o : ℕ) → A o ≡ within P B o) → SameObjects P A B
same_within P A B h o l = h o ∙ ap (λ b. b && B o) (lt-ltb o P.objects l)

module _ (P : Asked) (From To From' To' : Set) (from : SameObjects P From From') (to : SameObjects P To To') where
  pub same_chain : (n : ℕ) → Chain P From To n → Chain P From' To' n
  same_chain n c =
      record {
        from = c.from;
        to = c.to;
        from_is = c.from_is;
        to_is = c.to_is;
        from_in = sym (from c.from c.from_is) ∙ c.from_in;
        to_in = sym (to c.to c.to_is) ∙ c.to_in;
        walk = c.walk;
      }

module _ (P : Asked) (From To From' To' : Set) (from : SameObjects P From From') (to : SameObjects P To To') where
  back : (n : ℕ) → Chain P From' To' n → Chain P From To n
  back = same_chain P From' To' From To (λ o l. sym (from o l)) (λ o l. sym (to o l))

  pub same_shortest : (n : ℕ) → Shortest P From To n → Shortest P From' To' n
  same_shortest n s = record { chain = same_chain P From To From' To' from to n s.chain; least = λ k c. s.least k (back k c) }

  pub same_no_chain : NoChain P From To → NoChain P From' To'
  same_no_chain none n c = none n (back n c)

  pub same_fewest : (r : Option ℕ) → Fewest P From To r → Fewest P From' To' r
  same_fewest None h = same_no_chain h
  same_fewest (Some n) h = same_shortest n h

  same_answered : (small : Bool) (before : List ℕ) (r : Result (Option ℕ) Refusal) (after : List ℕ) → Answered small P From To before r after → Answered small P From' To' before r after
  unfolding same_chain same_shortest
  same_answered true before r after h = h
  same_answered false before (Ok None) after h = (same_no_chain h.0, h.1)
  same_answered false before (Ok (Some n)) after h = record { shortest = same_shortest n h.shortest; nodes = h.nodes }
  same_answered false before (Err e) after h = h

  -- what is found from one set to another is found from and to sets with the same objects
  pub same_search : (before : List ℕ) (r : Result (Option ℕ) Refusal) (after : List ℕ) → Searched P From To before r after → Searched P From' To' before r after
  same_search before r after h = same_answered (nat_lt (length before) 160) before r after h

-- so a search between sets that were made by `of_type` is one between types
pub type_search : (P : Asked) (A B : ℕ) (from to : Objects) → ((o : ℕ) → among from o ≡ within P (of_type P A) o) → ((o : ℕ) → among to o ≡ within P (of_type P B) o) →
    (before : List ℕ) (r : Result (Option ℕ) Refusal) (after : List ℕ) → Searched P (among from) (among to) before r after → Searched P (of_type P A) (of_type P B) before r after
type_search P A B from to hf ht = same_search P (among from) (among to) (of_type P A) (of_type P B) (same_within P (among from) (of_type P A) hf) (same_within P (among to) (of_type P B) ht)
