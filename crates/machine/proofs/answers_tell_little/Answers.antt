use Rattle.std.proofs.Common.{refl}
use Rattle.machine.proofs.answers_tell_little.Goals as goal
use Rattle.machine.proofs.Numbers.{numbers_tell}
use Rattle.machine.proofs.Sight.{changing_tells_nothing, only_absence_looks, answer_depends, lists_play_no_part}

pub returns : goal.returns
returns c =
    record {
      changing = changing_tells_nothing;
      absence = only_absence_looks;
      depends = answer_depends;
      lists = lists_play_no_part;
      numbers = numbers_tell;
      answer = refl;
    }
