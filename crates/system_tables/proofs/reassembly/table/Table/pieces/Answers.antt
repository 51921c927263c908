use Rattle.std.proofs.Common.{◌≡◌, ℕ, Some, map, slice_get, sym, ap, subst, ◌∙◌, arith}
use Rattle.std.specs.List.{AllByRecursion, range_with_len}
use Rattle.std.proofs.lemmas.Option.{same_Some, slice_get_within}
use Rattle.system_tables.specs.declared.reassembly.openings.Opening.{Opening}
use Rattle.system_tables.specs.Reassembly.Entries.{present}
use Rattle.system_tables.specs.Reassembly.Index.{giver}
use Rattle.system_tables.specs.Reassembly.Runs.{AreJoined}
use Rattle.system_tables.specs.Reassembly.Arrival.{are_covered, arrival_of, data_len, earliest, octet_in}
use Rattle.system_tables.specs.Reassembly.Buffer.{octet_by}
use Rattle.system_tables.specs.Reassembly.Offered.{openings_of}
use Rattle.system_tables.specs.Reassembly.State.{KeepsSegments, TableState, opening_of, segments_of}
use Rattle.system_tables.proofs.ReassemblyFacts.Standing.{of_found}
use Rattle.system_tables.proofs.ReassemblyFacts.Whole.{named_there}
use Rattle.system_tables.proofs.reassembly.table.Table.pieces.Goals as goal

pub at-opening-requires : goal.at-opening-requires
at-opening-requires c =
    let is = c.place_at-place.ensures c.requires.buffer.key c.requires.named in
    slice_get_within c.self.inside.openings.list c.place_at-place.result is.opening
    (ap (λ (t : TableState). slice_get t.openings c.place_at-place.result) c.self.view_is ∙ is.stands_at)

pub new-requires-clause-covered : goal.new-requires-clause-covered
new-requires-clause-covered c =
    let distinct = subst (λ (t : TableState). AllByRecursion (λ opening. openings_of opening.key t.openings ≡ 1) t.openings) c.self.view_is c.self.invariant.0.distinct in
    let at = named_there c.args.self.now c.requires.buffers c.requires.buffer c.place_at-place.result c.requires.stands distinct c.requires.is_there
    (c.place_at-place.ensures c.requires.buffer.key c.requires.named) in
    let opening : c.at-opening.result.now ≡ opening_of c.requires.buffer = same_Some c.at-opening.result.now (opening_of c.requires.buffer)
    (sym c.at-opening.ensures.opening ∙ ap (λ (t : TableState). slice_get t.openings c.place_at-place.result) c.self.view_is ∙ at) in
    let segments : present c.entries.result.now ≡ c.args.self.now.segments = ap present c.entries.ensures ∙ ap (λ (t : TableState). t.segments) c.self.view_is in
    let keeps = of_found (KeepsSegments c.args.self.now) c.requires.buffer.key c.requires.buffers c.requires.buffer c.requires.stands.segments c.requires.is_there in
    (λ i. are_covered (map arrival_of (segments_of (opening i).key (segments i))) 0 ((c.from-end.ensures ∙ c.data_len.ensures) i))
    ∙ ((λ i. are_covered (sym keeps.0 i) 0 (data_len (opening i).shape)) ∙ c.requires.whole)

pub group-requires : goal.group-requires
group-requires c =
    let t = c.self.inside in
    let distinct = subst (λ (t : TableState). AllByRecursion (λ opening. openings_of opening.key t.openings ≡ 1) t.openings) c.self.view_is c.self.invariant.0.distinct in
    let at = ap (λ (v : TableState). slice_get v.openings c.place_at-place.result) c.self.view_is
    ∙ named_there c.args.self.now c.requires.buffers c.requires.buffer c.place_at-place.result c.requires.stands distinct c.requires.is_there
    (c.place_at-place.ensures c.requires.buffer.key c.requires.named) in
    omega (arith, slice_get_within t.openings.list c.place_at-place.result (opening_of c.requires.buffer) at, c.self.invariant.3.index_is.number)

pub new-requires-clause-joined : goal.new-requires-clause-joined
new-requires-clause-joined c =
    let t = c.self.inside in
    let distinct = subst (λ (t : TableState). AllByRecursion (λ opening. openings_of opening.key t.openings ≡ 1) t.openings) c.self.view_is c.self.invariant.0.distinct in
    let at = ap (λ (v : TableState). slice_get v.openings c.place_at-place.result) c.self.view_is
    ∙ named_there c.args.self.now c.requires.buffers c.requires.buffer c.place_at-place.result c.requires.stands distinct c.requires.is_there
    (c.place_at-place.ensures c.requires.buffer.key c.requires.named) in
    let opening : c.at-opening.result.now ≡ opening_of c.requires.buffer = same_Some c.at-opening.result.now (opening_of c.requires.buffer) (sym c.at-opening.ensures.opening ∙ at) in
    let are = c.self.invariant.3.index_is.each c.place_at-place.result c.at-opening.result.now c.group.result (at ∙ ap (λ (o : Opening). Some o) (sym opening)) c.group.ensures in
    subst (λ (n : ℕ). AreJoined 0 n c.group.result) (sym (c.from-end.ensures ∙ c.data_len.ensures)) are.joined

pub new-requires-clause-filled : goal.new-requires-clause-filled
new-requires-clause-filled c place within =
    let t = c.self.inside in
    let distinct = subst (λ (t : TableState). AllByRecursion (λ opening. openings_of opening.key t.openings ≡ 1) t.openings) c.self.view_is c.self.invariant.0.distinct in
    let at = ap (λ (v : TableState). slice_get v.openings c.place_at-place.result) c.self.view_is
    ∙ named_there c.args.self.now c.requires.buffers c.requires.buffer c.place_at-place.result c.requires.stands distinct c.requires.is_there
    (c.place_at-place.ensures c.requires.buffer.key c.requires.named) in
    let opening : c.at-opening.result.now ≡ opening_of c.requires.buffer = same_Some c.at-opening.result.now (opening_of c.requires.buffer) (sym c.at-opening.ensures.opening ∙ at) in
    let are = c.self.invariant.3.index_is.each c.place_at-place.result c.at-opening.result.now c.group.result (at ∙ ap (λ (o : Opening). Some o) (sym opening)) c.group.ensures in
    are.filled place (omega (arith, within, c.from-end.ensures, c.data_len.ensures))
    ∙ ap (giver c.at-opening.result.now.key place) (sym c.entries.ensures)

pub returns : goal.returns
returns c buffers whole stands found named =
    let distinct = subst (λ (t : TableState). AllByRecursion (λ opening. openings_of opening.key t.openings ≡ 1) t.openings) c.self.view_is c.self.invariant.0.distinct in
    let at = named_there c.args.self.now buffers whole c.place_at-place.result stands distinct found (c.place_at-place.ensures whole.key named) in
    let opening : c.at-opening.result.now ≡ opening_of whole = same_Some c.at-opening.result.now (opening_of whole)
    (sym c.at-opening.ensures.opening ∙ ap (λ (t : TableState). slice_get t.openings c.place_at-place.result) c.self.view_is ∙ at) in
    let segments : present c.entries.result.now ≡ c.args.self.now.segments = ap present c.entries.ensures ∙ ap (λ (t : TableState). t.segments) c.self.view_is in
    let keeps = of_found (KeepsSegments c.args.self.now) whole.key buffers whole stands.segments found in
    let arrivals : map arrival_of (segments_of c.at-opening.result.now.key (present c.entries.result.now)) ≡ whole.kept
    = (λ i. map arrival_of (segments_of (opening i).key (segments i))) ∙ sym keeps.0 in
    let len : c.from-end.result ≡ data_len whole.shape = c.from-end.ensures ∙ c.data_len.ensures ∙ (λ i. data_len (opening i).shape) in
    c.of.ensures ∙ c.new.ensures
    ∙ (λ i. map (λ place. octet_by octet_in place (earliest (arrivals i) place)) (range_with_len 0 (len i)))
