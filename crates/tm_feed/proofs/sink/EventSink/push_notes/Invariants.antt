-- The events of the first notes follow what was there.
use Rattle.std.proofs.Common.{◌≡◌, [], take}
use Rattle.tm_feed.specs.code.Sinking.{note_events, sink_state, with_more}
use Rattle.tm_feed.proofs.sink.EventSink.push_notes.Given as goal

abbrev pub invariant-loop-i : goal.invariant-loop-i
invariant-loop-i l =
    sink_state l.self ≡ with_more (sink_state l.initial.self) l.initial.self.tracker.now (note_events l.seen l.channel l.application (take l.i l.notes)) []
