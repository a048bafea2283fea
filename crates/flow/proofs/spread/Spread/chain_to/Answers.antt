use Rattle.std.proofs.Common.{Bool, length, None, Ok, sym, refl, subst, arith}
use Rattle.std.proofs.lemmas.Bool.{le-ltb}
use Rattle.flow.specs.Searches.{Answered}
use Rattle.flow.specs.Sets.{among}
use Rattle.flow.proofs.Nearest.{no_chain, answered}
use Rattle.flow.proofs.spread.Spread.chain_to.Goals as goal

pub returns-in-Some-clause-answer : goal.returns-in-Some-clause-answer
returns-in-Some-clause-answer c P From of =
    answered P From (among c.args.to.now) c.args.self.now of c.in-Some.near c.in-Some.ensures c.args.nodes.now c.trace.new.nodes c.trace.result
    (omega arith) c.trace.ensures.answer c.trace.ensures.nodes

pub returns-in-None-clause-answer : goal.returns-in-None-clause-answer
returns-in-None-clause-answer c P From of =
    let before = c.args.nodes.now in
    subst (λ (b : Bool). Answered b P From (among c.args.to.now) before (Ok None) before) (sym (le-ltb (length before) 160 (omega arith)))
    (no_chain P From (among c.args.to.now) c.args.self.now of c.in-None.ensures, refl)
