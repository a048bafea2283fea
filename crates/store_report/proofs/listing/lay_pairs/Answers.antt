use Rattle.std.proofs.Common.{◌≡◌, length, ap, ◌∙◌, arith, rules}
use Rattle.std.proofs.lemmas.List.{take_all}
use Rattle.store_report.specs.Listing.{pairs}
use Rattle.store_report.proofs.Texts.{pair_laid, pairs_are_ascii}
use Rattle.store_report.proofs.listing.lay_pairs.Goals as goal

pub loop-at-preserved : goal.loop-at-preserved
loop-at-preserved c = pair_laid c.loop-at.digits c.args.bytes.now c.loop-at.at _ _ _ _ (omega arith) (omega arith) c.loop-at.invariant (omega arith) (omega arith) c.hex_digit.ensures c.hex_digit-in-loop-at.ensures

pub returns-clause-pairs : goal.returns-clause-pairs
returns-clause-pairs c =
    let all : length c.args.bytes.now ≡ c.loop-at.at = omega arith in
    rw all (c.loop-at.invariant ∙ ap pairs (take_all c.loop-at.at c.args.bytes.now (omega arith)))

pub returns-clause-ascii : goal.returns-clause-ascii
returns-clause-ascii c = pairs_are_ascii c.args.bytes.now (search rules)
