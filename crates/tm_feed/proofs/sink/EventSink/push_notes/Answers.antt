use Rattle.std.proofs.Common.{◌≡◌, ◌<◌, ℕ, List, None, arith, length, sym, ◌∙◌}
use Rattle.std.specs.Prelude.{slice_get}
use Rattle.std.proofs.lemmas.List.{map-append, take_more}
use Rattle.std.proofs.lemmas.Option.{get_or_from_slice_get, slice_get_cases}
use Rattle.tm_feed.specs.code.Sinking.{sink_state}
use Rattle.tm_feed.proofs.SinkLemmas.{one_note}
use Rattle.tm_feed.proofs.sink.EventSink.push_notes.Goals.{in-Some+in_ok-push, in_default}
use Rattle.tm_feed.proofs.sink.EventSink.push_notes.Goals as goal

none_past : {X : Type 0} (xs : List X) (i : ℕ) → i < length xs → slice_get xs i ≡ None → ⊥
none_past xs i within none = grind (arith, slice_get_cases)

pub loop-i-preserved : goal.loop-i-preserved
loop-i-preserved c =
    elim c.match-get.branch [
      | in-Some+in_ok-push w ↦
          let is = get_or_from_slice_get c.args.notes.now c.loop-i.i w.in-Some.note w.in-Some.note (sym c.get.ensures ∙ w.in-Some.is) in
          let more = take_more c.args.notes.now c.loop-i.i w.in-Some.note (omega arith) in
          rw (w.self-is, more, is, map-append) (one_note (sink_state c.args.self.now) (sink_state c.loop-i.self) _ c.args.self.now.tracker.now _ _ c.loop-i.invariant (rw w.note_event.ensures at w.in_ok-push.ensures.put))
      | in_default w ↦ absurd (none_past c.args.notes.now c.loop-i.i (omega arith) (sym c.get.ensures ∙ w.in_default.is))
    ]
