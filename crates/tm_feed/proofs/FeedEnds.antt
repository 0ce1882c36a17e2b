-- A call that takes nothing, and why a call that feeds an open recording stops.
use Rattle.std.proofs.Common.{◌≡◌, ◌≢◌, ◌<◌, ◌-◌, ℕ, List, inl, inr, [], ◌++◌, length, take, refl, sym, ap, subst, ◌∙◌, append-nil, arith}
use Rattle.std.proofs.lemmas.List.{length-take-le}
use Rattle.std.proofs.lemmas.Bool.{cases_lt}
use Rattle.tm_reassembly.specs.Recording.{items}
use Rattle.tm_reassembly.specs.Valid.{IsValidState}
use Rattle.tm_checkpoint.specs.Works.{Work}
use Rattle.tm_output.specs.Records.{records, rest_of}
use Rattle.tm_output.proofs.RecordLemmas.{records_short, rest_short}
use Rattle.tm_tool.specs.RecordingPieces.{items_of, worked}
use Rattle.tm_tool.proofs.Running.{worked-none}
use Rattle.tm_feed.specs.declared.event.Event.{Event}
use Rattle.tm_feed.specs.declared.job.EndProgress.TheVariants.{Open}
use Rattle.tm_feed.specs.declared.job.Fed.{Fed}
use Rattle.tm_feed.specs.declared.job.StopReason.{StopReason}
use Rattle.tm_feed.specs.declared.job.StopReason.TheVariants.{Done, Room, TooSmall, TooMany, Closed}
use Rattle.tm_feed.specs.Feeding.{events_of, packed_octets}
use Rattle.tm_feed.specs.Jobs.{AreSmall, IsFed, IsFull, IsStopped, MakesWhole, StoppedBy, fed, fed_events, nothing_fed, record_size, whole_records}
use Rattle.tm_feed.specs.States.{FeedState}
use Rattle.tm_feed.specs.code.Feeds.{LeavesRecord}

module _ (job : FeedState) (valid : IsValidState job.work.rules job.work.state) (short : length job.part < record_size job.work) where
  abbrev size : ℕ
  size = record_size job.work

  no_records : whole_records job [] ≡ []
  no_records = ap (records size) (append-nil job.part) ∙ records_short size job.part short

  no_items : items_of job.work [] ≡ []
  unfolding items
  no_items = refl

  none_given : items_of job.work (whole_records job []) ≡ []
  none_given = ap (items_of job.work) no_records ∙ no_items

  pub fed_none : fed job [] ≡ job
  fed_none =
      ap (λ (w : Work). record { work = w; part = rest_of size (job.part ++ []); chosen = job.chosen; end = job.end })
      (ap (worked job.work) no_records ∙ worked-none job.work valid)
      ∙ ap (λ (l : List ℕ). record { work = job.work; part = l; chosen = job.chosen; end = job.end })
      (ap (rest_of size) (append-nil job.part) ∙ rest_short size job.part short)

  -- a call that did nothing gave what no octets give
  pub none_fed : (stop : StopReason) (octets : List ℕ) (events : List Event) (packets : List ℕ)
      → IsFed job job (take 0 octets) (nothing_fed stop) events packets
  none_fed stop octets events packets = record {
    job = sym fed_none;
    gave = (omega arith, sym (ap (events_of job.chosen 0 job.work.entries) none_given));
    packed = (omega arith, sym (ap (packed_octets job.chosen) none_given));
  }

  module _ (new : FeedState) (octets : List ℕ) (did : Fed) (events : List Event) (packets : List ℕ)
      (gave : IsFed job new (take did.used octets) did events packets)
      (fits : MakesWhole job (length octets) → AreSmall job.work.rules.max_packet job.chosen.longest (length events) (length packets) → ⊥) where
    same : did.used ≡ 0 → new ≡ job
    same none = gave.job ∙ ap (λ (n : ℕ). fed job (take n octets)) none ∙ fed_none

    no_events : did.used ≡ 0 → did.events ≡ 0
    no_events none =
        let all : take did.events events ≡ [] =
        gave.gave.1 ∙ ap (λ (n : ℕ). fed_events 0 job (take n octets)) none ∙ ap (events_of job.chosen 0 job.work.entries) none_given in
        omega (arith, length-take-le did.events events gave.gave.0, ap length all)

    no_octets : did.used ≡ 0 → did.octets ≡ 0
    no_octets none =
        let all : take did.octets packets ≡ [] =
        gave.packed.1 ∙ ap (λ (n : ℕ). packed_octets job.chosen (items_of job.work (whole_records job (take n octets)))) none ∙ ap (packed_octets job.chosen) none_given in
        omega (arith, length-take-le did.octets packets gave.packed.0, ap length all)

    -- where what is left of a room is too small, a record was taken before
    not_none : LeavesRecord new (length octets) did (length events) (length packets) Room → did.used ≡ 0 → ⊥
    not_none (whole, full) none =
        let here = subst (λ (j : FeedState). MakesWhole j (length octets - did.used)) (same none) whole in
        let left : MakesWhole job (length octets) = omega (arith, here, none) in
        let small = subst (λ (j : FeedState). IsFull j.work.rules.max_packet j.chosen.longest (length events) did.events (length packets) did.octets) (same none) full in
        let first = subst (λ (n : ℕ). IsFull job.work.rules.max_packet job.chosen.longest (length events) n (length packets) did.octets) (no_events none) small in
        fits left (subst (λ (n : ℕ). IsFull job.work.rules.max_packet job.chosen.longest (length events) 0 (length packets) n) (no_octets none) first)

    pub some_used : LeavesRecord new (length octets) did (length events) (length packets) Room → 0 < did.used
    some_used leaves = elim (cases_lt 0 did.used) [
      | inl some ↦ some
      | inr few ↦ absurd (not_none leaves (omega (arith, few)))
    ]

    stopped_at : job.end ≡ Open → (stop : StopReason) → (stop ≡ Done → did.used ≡ length octets)
        → (stop ≢ Done → LeavesRecord new (length octets) did (length events) (length packets) stop)
        → StoppedBy job new (length octets) did (length events) (length packets) stop
    stopped_at going Done all leaves = (going, all refl)
    stopped_at going Room all leaves =
        let h = leaves (λ e. cc) in
        (going, some_used h, h.0, h.1)
    stopped_at going TooSmall all leaves = absurd (leaves (λ e. cc))
    stopped_at going TooMany all leaves =
        let h = leaves (λ e. cc) in
        (going, h.0, h.1)
    stopped_at going Closed all leaves = absurd (leaves (λ e. cc))

    pub stopped_open : job.end ≡ Open → (did.stop ≡ Done → did.used ≡ length octets)
        → (did.stop ≢ Done → LeavesRecord new (length octets) did (length events) (length packets) did.stop)
        → IsStopped job new (length octets) did (length events) (length packets)
    stopped_open going all leaves = stopped_at going did.stop all leaves
