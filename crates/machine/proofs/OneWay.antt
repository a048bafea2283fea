-- The valve: a chain leads from type 0 to type 1, and none back.
use Rattle.std.proofs.Common.{◌≡◌, ℕ, Bool, true, false, eqb, is_ok, sym, refl, subst, arith}
use Rattle.std.proofs.lemmas.Bool.{eqb-true, true≢false}
use Rattle.machine.specs.Flow.{Node, obj, Link, learns, passes, alters, Walk, here, on, NoChain, of_type}
use Rattle.machine.specs.Leak.{drive, carried}
use Rattle.machine.specs.Valve.{only_if, valve, through, OneWay}
use Rattle.machine.proofs.Sound.{no_chain_separates}
use Rattle.machine.proofs.Bearer.{separated_has_no_chain}

granted_only_if : (b : Bool) (letter : ℕ) → is_ok (only_if b letter) ≡ true → b ≡ true
granted_only_if true letter q = refl
granted_only_if false letter q = absurd (true≢false (sym q))

nobody_reads_one : {a b : Node} → Link valve a b → a ≡ obj 1 → ⊥
nobody_reads_one (learns {o = o} L lt q) e =
    let z : o ≡ 0 = eqb-true o 0 (granted_only_if (eqb o 0) 114 q) in
    let y : o ≡ 1 = cc in
    omega arith
nobody_reads_one (passes o L q) e = cc
nobody_reads_one (alters how L lt q) e = cc

one_leads_nowhere : {n : ℕ} {b : Node} → Walk valve (obj 1) n b → b ≡ obj 1
one_leads_nowhere here = refl
one_leads_nowhere (on w k) = absurd (nobody_reads_one k (one_leads_nowhere w))

not_back : NoChain valve (of_type valve 1) (of_type valve 0)
not_back n c =
    let f : c.from ≡ 1 = eqb-true c.from 1 c.from_in in
    let t : c.to ≡ 0 = eqb-true c.to 0 c.to_in in
    let e : obj c.to ≡ obj 1 = one_leads_nowhere (subst (λ (x : ℕ). Walk valve (obj x) n (obj c.to)) f c.walk) in
    cc

pub one_way : OneWay
unfolding drive carried
one_way =
    record {
      shut = λ m n pm pn q es pes. no_chain_separates valve (of_type valve 1) (of_type valve 0) not_back m n q es;
      leaks = λ s. separated_has_no_chain valve (of_type valve 0) (of_type valve 1) s 2 through;
      leak_is = refl;
    }
