-- The trail of a walk: as many nodes as links and one more, from the first to the last, each linked to the next.
use Rattle.std.proofs.Common.{◌≡◌, ℕ, zero, suc, List, [], ◌∷◌, ◌++◌, length, get_or, sym, refl, ap, ◌∙◌, subst, arith}
use Rattle.std.proofs.lemmas.List.{length_push, get_or_push, get_or_append_left, get_or_default}
use Rattle.machine.specs.Policy.{Policy}
use Rattle.machine.specs.Flow.{Node, obj, dom, number, Link, Walk, here, on, trail}
use Rattle.machine.specs.Trails.{NumberedApart, Linked, Way}

pub nodes_apart : (x y : Node) → NumberedApart x → NumberedApart y → number x ≡ number y → x ≡ y
nodes_apart (obj o) (obj i) h k e = ap obj e
nodes_apart (obj o) (dom d) h k e = absurd (omega arith)
nodes_apart (dom d) (obj o) h k e = absurd (omega arith)
nodes_apart (dom d) (dom i) h k e = let q : d ≡ i = omega arith in ap dom q

link_last : (P : Policy) (nodes : List Node) (n : ℕ) (b c d : Node) → length nodes ≡ suc n → get_or nodes n d ≡ b → Linked P nodes → Link P b c →
    Linked P (nodes ++ (c ∷ []))
link_last P [] n b c d len e h k = tt
link_last P (x ∷ []) zero b c d len e h k = (subst (λ (z : Node). Link P z c) (sym e) k, tt)
link_last P (x ∷ []) (suc n) b c d len e h k = absurd (omega arith)
link_last P (x ∷ y ∷ nodes) zero b c d len e h k = absurd (omega arith)
link_last P (x ∷ y ∷ nodes) (suc n) b c d len e h k = (h.0, link_last P (y ∷ nodes) n b c d (omega arith) e h.1 k)

pub trails_lead : (P : Policy) (a b : Node) (n : ℕ) (w : Walk P a n b) → Way P a b n (trail w)
trails_lead P a b n here = record { one_more = refl; begins = refl; ends = refl; linked = tt }
trails_lead P a c n (on {n = k} {b = b} w l) =
    let r = trails_lead P a b k w in
    let len : length (trail w) ≡ suc k = r.one_more in
    record {
      one_more = length_push (trail w) c ∙ omega arith;
      begins = get_or_append_left (trail w) (c ∷ []) c 0 (omega arith) ∙ get_or_default (trail w) 0 c b (omega arith) ∙ r.begins;
      ends = get_or_push (trail w) c a (suc k) len;
      linked = link_last P (trail w) k b c a len r.ends r.linked l;
    }
