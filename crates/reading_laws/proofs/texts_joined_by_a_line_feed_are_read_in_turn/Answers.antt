use Rattle.reading_laws.proofs.Turns.{texts_joined_by_a_line_feed_are_read_in_turn}
use Rattle.reading_laws.proofs.texts_joined_by_a_line_feed_are_read_in_turn.Goals as goal

pub returns : goal.returns
returns c =
    record {
      turns = texts_joined_by_a_line_feed_are_read_in_turn c.tokens_are_in_order.ensures.order c.lines_are_read_one_by_one.ensures.joined;
      answer = c.lines_are_read_one_by_one.ensures.answer;
    }
