use Rattle.std.proofs.Common.{◌≡◌, ◌<◌, length, ap, ◌∙◌, arith}
use Rattle.scan.specs.declared.token.Mark.TheVariants as mark
use Rattle.scan.specs.Tokens.{behind}
use Rattle.scan.specs.Tokens.Piece.{at}
use Rattle.scan.specs.Tokens.Said.{sign}
use Rattle.scan.proofs.Turns.{turned, begun, given, cut_at, cut_last, last_given}
use Rattle.scan.proofs.scanner.Scanner.first.Goals as goal
use Rattle.scan.proofs.scanner.Scanner.first.Goals.{in-Pass, in-Begin}

pub returns-in-Cut-clause-gives : goal.returns-in-Cut-clause-gives
returns-in-Cut-clause-gives c = cut_at c.args.self.now.text.now _ c.loop-place.start c.loop-place.place _ (omega arith) c.loop-place.mode _ c.class_at.ensures c.in-Cut.ensures c.loop-place.invariant.0 c.word.ensures

pub returns-in-Give-clause-gives : goal.returns-in-Give-clause-gives
returns-in-Give-clause-gives c = given c.args.self.now.text.now _ c.loop-place.start c.loop-place.place (omega arith) _ c.class_at.ensures c.loop-place.mode c.in-Give.mark _ c.in-Give.ensures c.loop-place.invariant.0 c.sign.ensures

pub loop-place-preserved : goal.loop-place-preserved
loop-place-preserved c =
    let s = c.args.self.now.text.now in
    let p = c.loop-place.place in
    let in' : p < length s = omega arith in
    elim c.match-decide.branch [
      | in-Pass w ↦ (rw (w.mode-is, w.start-is) (turned s _ c.loop-place.start p in' _ c.class_at.ensures c.loop-place.mode _ w.in-Pass.ensures c.loop-place.invariant.0), omega arith)
      | in-Begin w ↦ (rw (w.mode-is, w.start-is) (begun s _ c.loop-place.start p in' _ c.class_at.ensures c.loop-place.mode w.in-Begin.ensures c.loop-place.invariant.0), omega arith)
    ]

pub returns-in-Word-clause-gives : goal.returns-in-Word-clause-gives
returns-in-Word-clause-gives c = cut_last c.args.self.now.text.now _ c.loop-place.start c.loop-place.place _ (omega arith) (rw c.in-Word.is at c.loop-place.invariant.0) c.word-in-Word.ensures

pub returns-in_default : goal.returns-in_default
returns-in_default c =
    let end : c.max.result ≡ c.loop-place.place = omega (arith, c.max.ensures, c.loop-place.invariant.1) in
    let is = c.sign-in_default.ensures ∙ ap (λ n. at n (sign mark.Last)) end in
    record {
      gives = last_given c.args.self.now.text.now _ c.loop-place.start c.loop-place.place _ (omega arith) _ c.in_default.not-Word c.loop-place.invariant.0 is;
      fits = omega (arith, ap behind is);
    }
