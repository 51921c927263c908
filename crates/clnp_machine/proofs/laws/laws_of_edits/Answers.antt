use Rattle.clnp_machine.proofs.laws.laws_of_edits.Goals as goal

pub returns : goal.returns
returns c = record {
  form = record {
    advanced = c.edits_keep_the_form.ensures.advanced;
    recorded = c.edits_keep_the_form.ensures.recorded;
    marked = c.edits_keep_the_form.ensures.marked;
    same = c.edits_keep_the_form.ensures.same;
    chained = c.edits_keep_the_form.ensures.chained;
    len = c.edits_keep_the_form.ensures.len;
    formed = c.edits_keep_options_formed.ensures.advanced;
  };
  pdus = record {
    advanced = c.edited_pdus_are_pdus.ensures.advanced;
    recorded = c.edited_pdus_are_pdus.ensures.recorded;
    marked = c.edited_pdus_are_pdus.ensures.marked;
  };
}
