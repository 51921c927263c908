use Rattle.captures.proofs.CaptureCommands.RoundTrip.{Laws, pack_of_shown}
use Rattle.captures.proofs.capture_commands.laws.what_is_shown_is_packed_again.Goals as goal

pub returns : goal.returns
returns c =
    let laws : Laws = record {
      some = c.one_line.ensures.some;
      one = c.one_line.ensures.one;
      outcome = c.the_outcome_of_a_line.ensures.one;
      asked = c.packed_lines_are_asked.ensures;
      line = c.a_shown_line_is_one_line.ensures.one;
      long = c.a_shown_line_is_one_line.ensures.long;
      digits = c.digits_are_a_capture_line.ensures.one;
      read = c.digits_are_a_capture_line.ensures.read;
    } in
    pack_of_shown laws
