use Rattle.std.proofs.Common.{refl, subst, ◌∙◌}
use Rattle.tm_frame.specs.Layout.{IsInRange}
use Rattle.tm_reassembly.specs.Steps.{step_items}
use Rattle.tm_feed.specs.code.Sinking.{sink_state}
use Rattle.tm_feed.proofs.RoomLemmas.{never_refused}
use Rattle.tm_feed.proofs.TakeLemmas.{all_taken}
use Rattle.tm_feed.proofs.taking.add_record.Goals as goal

pub unreachable-requires : goal.unreachable-requires
unreachable-requires c =
    never_refused c.args.reassembly.now c.requires.going (subst IsInRange (c.parts-parts.ensures.value ∙ c.layout.ensures) c.parts-parts.ensures.in_range) (sink_state c.args.sink.now) c.requires.room c.args.octets.now sink_state _ c.args.sink.now _ c.in-Err.field-0 c.requires.few refl c.in-Err.ensures.refused

pub returns-clause-gave : goal.returns-clause-gave
returns-clause-gave c = all_taken (sink_state c.args.sink.now) (sink_state c.step_record.new.sink) (step_items c.args.reassembly.now c.args.octets.now) c.in-Ok.ensures.accepted
