use Rattle.std.proofs.Common.{◌≡◌, ◌-◌, ◌∙◌, length, drop, ap, arith, sym}
use Rattle.frame_links.specs.LinkBoard.Recording.{Playing, after_look, came_of, frames_in}
use Rattle.frame_links.proofs.LinkBoard.Playing.{came_more, looked, looks_more, no_empties, plays_on, rest_is}
use Rattle.frame_links.proofs.link_board.recorded.RecordedLinkLink.poll.Goals as goal

pub invariant_of-self : goal.invariant_of-self
invariant_of-self c =
    let text = c.self.inside.text.items in
    let at = c.self.inside.at in
    let left = c.split_at.result.1.now in
    let rest = c.in-Some.rest.now in
    let next = c.len.result - length rest in
    let there = c.split_at.ensures.back ∙ ap (λ xs. drop at xs) c.as_slice.ensures.value in
    let on : next ≡ length text - length rest = omega (arith, c.len.ensures, c.self.inside.text.ok.0) in
    let behind = rest_is text left rest at next c.self.invariant.within there c.in-Some.ensures.rest on in
    plays_on text left rest at next c.self.inside.empties _ c.self.invariant behind there c.in-Some.ensures.frame (omega (arith, on))

pub returns-in-Some-clause-polled : goal.returns-in-Some-clause-polled
returns-in-Some-clause-polled c =
    let text = c.self.inside.text.items in
    let at = c.self.inside.at in
    let left = c.split_at.result.1.now in
    let rest = c.in-Some.rest.now in
    let next = c.len.result - length rest in
    let there = c.split_at.ensures.back ∙ ap (λ xs. drop at xs) c.as_slice.ensures.value in
    let on : next ≡ length text - length rest = omega (arith, c.len.ensures, c.self.inside.text.ok.0) in
    let behind = rest_is text left rest at next c.self.invariant.within there c.in-Some.ensures.rest on in
    let comes = ap frames_in (sym there) ∙ c.in-Some.ensures.frame in
    let none = no_empties text left rest at c.self.inside.empties _ c.self.invariant there c.in-Some.ensures.frame in
    rw (c.origin.ensures, ← c.self.view_is, behind) (record {
      looks = looks_more (came_of (frames_in text) (frames_in (drop at text))) (came_of (frames_in text) (frames_in rest)) c.self.inside.empties _
          (came_more (frames_in text) (frames_in (drop at text)) (frames_in rest) _ c.self.invariant.whole comes) none;
      sent = tt;
      faults = omega arith;
      empties = omega arith;
      empty = λ e. absurd (cc);
    })

pub returns-in-Some-clause-after : goal.returns-in-Some-clause-after
returns-in-Some-clause-after c =
    let text = c.self.inside.text.items in
    let at = c.self.inside.at in
    let left = c.split_at.result.1.now in
    let rest = c.in-Some.rest.now in
    let next = c.len.result - length rest in
    let there = c.split_at.ensures.back ∙ ap (λ xs. drop at xs) c.as_slice.ensures.value in
    let on : next ≡ length text - length rest = omega (arith, c.len.ensures, c.self.inside.text.ok.0) in
    let behind = rest_is text left rest at next c.self.invariant.within there c.in-Some.ensures.rest on in
    looked (frames_in text) (frames_in (drop at text)) (frames_in rest) (frames_in (drop next text)) _ c.self.inside.empties
    c.self.invariant.whole (ap frames_in (sym there) ∙ c.in-Some.ensures.frame) (ap frames_in behind)
    ∙ ap (λ (now : Playing). after_look now now.left) c.self.view_is
