use Rattle.std.proofs.Common.{[], ◌∷◌, ap, ◌≡◌, ◌<◌, true, false, refl, ◌∙◌, arith, Ok}
use Rattle.tm_bits.specs.Bits.{AreOctets}
use Rattle.tm_frame.specs.Fault.{frame_reading_of}
use Rattle.tm_summary.proofs.Taken.{none_refused, took_tally}
use Rattle.tm_checkpoint.specs.Works.{Work, work_of}
use Rattle.tm_tool.proofs.RecordCounted.{a_fault, counted_bad, counted_good, no_fault, seen_bad}
use Rattle.tm_tool.proofs.Running.{records-counted, stepped_on}
use Rattle.tm_tool.proofs.summary.CountingRecordHandler.handle_record.Goals as goal

pub unreachable-requires-in-Err-Sink : goal.unreachable-requires-in-Err-Sink
unreachable-requires-in-Err-Sink c = none_refused _ _ _ _ (rw c.in-Err-Sink.field-0-is at c.in-Err-Sink.ensures.refused).3

pub read_good-frame-requires-clause-good : goal.read_good-frame-requires-clause-good
read_good-frame-requires-clause-good c =
    let all = took_tally _ _ _ c.in-Ok.ensures.accepted in
    rw c.layout-layout.ensures (no_fault _ (seen_bad (work_of c.args.progress.now c.args.self.now.tracker.now) c.args.octets.now _ false all.bad_is c.if-not-self.true))

pub returns-then-not-self : goal.returns-then-not-self
returns-then-not-self c =
    let octets : AreOctets c.args.octets.now = record { below = λ i. omega (arith, c.type_inv.octets i) } in
    let all = took_tally _ _ _ c.in-Ok.ensures.accepted in
    let on = stepped_on c.args.progress.now _ _ _ _ c.in-Ok.ensures.left all.noted_is c.requires.ready c.in-Ok.ensures.asked.1 octets in
    let reads : frame_reading_of c.args.progress.now.rules.layout c.args.octets.now ≡ Ok c.read_good-frame.result = rw c.layout-layout.ensures at c.read_good-frame.ensures in
    let w = work_of c.args.progress.now c.args.self.now.tracker.now in
    let below : c.read_good-frame.result.channel < 8 = omega (arith, c.channel.ensures.value, c.channel.ensures.below) in
    record {
      same = rw (all.same_tracker, all.same_counts, c.in-Ok.ensures.left) refl;
      ready = on.1;
      counted = ap (λ (v : Work). v.state.records) on.0 ∙ records-counted w (c.args.octets.now ∷ []);
      taken = (
        on.0,
        counted_good w c.args.octets.now _ _ all.fit c.read_good-frame.result reads below
            (c.add_frame.ensures ∙ rw (c.channel.ensures.value, c.kind.ensures.value, c.field.ensures.value, all.counted_is) refl),
      );
      refused = tt;
    }

pub returns-else-not-self : goal.returns-else-not-self
returns-else-not-self c =
    let octets : AreOctets c.args.octets.now = record { below = λ i. omega (arith, c.type_inv.octets i) } in
    let all = took_tally _ _ _ c.in-Ok.ensures.accepted in
    let on = stepped_on c.args.progress.now _ _ _ _ c.in-Ok.ensures.left all.noted_is c.requires.ready c.in-Ok.ensures.asked.1 octets in
    let w = work_of c.args.progress.now c.args.self.now.tracker.now in
    let (fault, reads) = a_fault _ (seen_bad w c.args.octets.now _ true all.bad_is c.if-not-self.false) in
    record {
      same = rw (all.same_tracker, all.same_counts, c.in-Ok.ensures.left) refl;
      ready = on.1;
      counted = ap (λ (v : Work). v.state.records) on.0 ∙ records-counted w (c.args.octets.now ∷ []);
      taken = (on.0, counted_bad w c.args.octets.now _ _ all.fit fault reads all.counted_is);
      refused = tt;
    }
