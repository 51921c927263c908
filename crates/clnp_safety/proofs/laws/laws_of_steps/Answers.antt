use Rattle.clnp_machine.specs.EditLaws.{EditLaws}
use Rattle.clnp_machine.proofs.Behind.{header_kept}
use Rattle.clnp_safety.proofs.laws.laws_of_steps.Goals as goal

pub returns : goal.returns
returns c =
    let edits : EditLaws = record {
      form = record {
        advanced = c.edits_keep_the_form.ensures.advanced;
        recorded = c.edits_keep_the_form.ensures.recorded;
        marked = c.edits_keep_the_form.ensures.marked;
        same = c.edits_keep_the_form.ensures.same;
        chained = c.edits_keep_the_form.ensures.chained;
        len = c.edits_keep_the_form.ensures.len;
        formed = c.edits_keep_options_formed.ensures.advanced;
      };
      pdus = record {
        advanced = c.edited_pdus_are_pdus.ensures.advanced;
        recorded = c.edited_pdus_are_pdus.ensures.recorded;
        marked = c.edited_pdus_are_pdus.ensures.marked;
      };
    } in
    record {
      steps = record {
        itself = c.a_system_stays_itself.ensures.itself;
        moment = c.a_system_stays_itself.ensures.moment;
        attached = c.a_system_stays_itself.ensures.attached;
        ports = c.a_system_stays_itself.ensures.ports;
        soundly = c.a_system_stays_itself.ensures.soundly;
        fresh = c.new_units_are_fresh.ensures.fresh;
        made_for = c.new_units_are_fresh.ensures.asked;
        reports = c.reports_are_of_packets.ensures;
        pending = c.requests_are_kept.ensures.made;
        forgotten = c.requests_are_kept.ensures.forgotten;
        no_restart = c.only_restarts_are_noted_as_such.ensures;
        ranges = c.ranges_of_units_are_sent.ensures;
        hops = c.hops_count_routers.ensures;
        carriable = c.what_is_sent_is_carriable.ensures.sent;
        kept = c.what_is_sent_is_carriable.ensures.kept;
        esis_pdus = c.hellos_are_pdus.ensures.pdus;
        known = c.hellos_are_pdus.ensures.known;
        no_rule = c.rules_are_noted_of_octets_alone.ensures;
        own = c.only_owners_hand_up.ensures;
        budget = c.budgets_are_kept.ensures;
        kept_or_come = c.segments_were_kept_or_come.ensures;
      };
      deeds = record {
        allowed = c.units_are_made_where_allowed.ensures.allowed;
        refused = c.units_are_made_where_allowed.ensures.refused;
        told = c.what_is_noted_was_told.ensures.told;
        tick = c.what_is_noted_was_told.ensures.tick;
        ended = c.ended_buffers_are_taken_out.ensures;
      };
      hellos = record {
        comes = c.hellos_leave_the_rest.ensures.comes;
        answers = c.hellos_leave_the_rest.ensures.responds;
        forgotten = c.hellos_leave_the_rest.ensures.forgets;
        said = c.hellos_leave_the_rest.ensures.says_hello;
      };
      segments = record {
        buffers = c.a_segment_is_kept_in_its_buffer.ensures.buffers;
        others = c.a_segment_is_kept_in_its_buffer.ensures.others;
        within = c.a_segment_is_kept_in_its_buffer.ensures.within;
        apart = c.a_segment_is_kept_in_its_buffer.ensures.apart;
      };
      headers = record {
        header = header_kept edits;
        same = c.edits_keep_the_form.ensures.same;
        chained = c.edits_keep_the_form.ensures.chained;
      };
      declared = c.attachments_stay_sound.ensures.declared;
      outside = c.octets_have_a_content.ensures.carried;
      frames = c.carriable_packets_break_no_rule.ensures;
      answers = c.the_test_is_the_rule.ensures.reply;
      esis_frames = c.esis_pdus_break_no_rule.ensures;
    }
