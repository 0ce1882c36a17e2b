-- A closed end: its items need little room, and the groups that are open are put one by one.
use Rattle.std.proofs.Common.{◌≡◌, ℕ, Bool, true, false, ◌+◌, ◌-◌, ◌<◌, ◌≤◌, Option, Some, None, List, [], ◌∷◌, ◌++◌, length, drop, inl, inr, subst, refl, sym, ap, ◌∙◌, append_assoc, arith}
use Rattle.std.specs.Prelude.{nat_lt, slice_set, if◌then◌else◌}
use Rattle.std.proofs.Math.ListN.{length-set}
use Rattle.std.proofs.lemmas.List.{drop-drop, map-append, take_more_set}
use Rattle.std.proofs.lemmas.List.Sums.{sum_by-append}
use Rattle.tm_packet.specs.declared.tracker.Unclosed.{Unclosed}
use Rattle.tm_packet.specs.Merge.{Entries, next_unclosed_of, unclosed}
use Rattle.tm_items.specs.Item.{Item, Short}
use Rattle.tm_items.specs.Sinks.{RefusesOne}
use Rattle.tm_reassembly.specs.declared.fault.StepFault.{StepFault}
use Rattle.tm_reassembly.specs.declared.fault.StepFault.TheVariants.{Sink, Failed, TooMany}
use Rattle.tm_reassembly.specs.Bounds.{event_count, event_counts}
use Rattle.tm_reassembly.specs.Items.{close_channels, close_last, close_tail, closing}
use Rattle.tm_reassembly.specs.State.{Last, Tail}
use Rattle.tm_reassembly.specs.Steps.{CloseRefused, Progress}
use Rattle.tm_checkpoint.specs.Works.{IsGoing}
use Rattle.tm_output.proofs.OpenGroups.{next_open, no_first}
use Rattle.tm_feed.specs.declared.event.Event.{Event}
use Rattle.tm_feed.specs.Endings.{unclosed_event}
use Rattle.tm_feed.specs.Feeding.{events_of, packed_octets}
use Rattle.tm_feed.specs.Jobs.{events_most}
use Rattle.tm_feed.specs.code.Groups.{HasPut}
use Rattle.tm_feed.specs.code.Sinking.{Lacks, RefusesEvents, SinkState, TakesAsEvents}
use Rattle.tm_feed.proofs.RoomLemmas.{all_few, none_packed, packet_count, packet_counts}
use Rattle.tm_feed.proofs.TakeLemmas.{one_lacks}

-- ---- the items of a closed end

-- at most one event for each, and no packet
pub record AreFew (xs : List Item) (most : ℕ) : Type 0 where
  pub events : event_counts xs ≤ most
  pub packets : packet_counts xs ≡ 0

few_both : (xs ys : List Item) (m n : ℕ) → AreFew xs m → AreFew ys n → AreFew (xs ++ ys) (m + n)
few_both xs ys m n h k = record {
  events = omega (arith, sum_by-append event_count xs ys, h.events, k.events);
  packets = sum_by-append packet_count xs ys ∙ omega (arith, h.packets, k.packets);
}

tail_few : (number channel : ℕ) (t : Option Tail) → AreFew (close_tail number channel t) 1
tail_few number channel None = record { events = omega arith; packets = refl }
tail_few number channel (Some t) = record { events = omega arith; packets = refl }

last_few : (number channel : ℕ) (x : Option Last) → AreFew (close_last number channel x) 1
last_few number channel None = record { events = omega arith; packets = refl }
last_few number channel (Some last) = tail_few number channel last.tail

channels_few : (number channel : ℕ) (xs : List (Option Last)) → AreFew (close_channels number channel xs) (length xs)
channels_few number channel [] = record { events = omega arith; packets = refl }
channels_few number channel (x ∷ xs) =
    let both = few_both (close_last number channel x) (close_channels number (channel + 1) xs) 1 (length xs) (last_few number channel x) (channels_few number (channel + 1) xs) in
    record { events = omega (arith, both.events); packets = both.packets }

short_few : (b : Bool) (number rest : ℕ) → AreFew (if b then Short number rest ∷ [] else []) 1
short_few true number rest = record { events = omega arith; packets = refl }
short_few false number rest = record { events = omega arith; packets = refl }

module _ (p : Progress) (going : IsGoing p) (rest : ℕ) where
  closing_few : AreFew (closing p.state rest) 9
  closing_few =
      let both = few_both _ (close_channels p.state.records 0 p.state.channels) 1 (length p.state.channels) (short_few (nat_lt 0 rest) p.state.records rest)
      (channels_few p.state.records 0 p.state.channels) in
      record { events = omega (arith, both.events, going.1.shape.eight_channels); packets = both.packets }

  module _ (s : SinkState) (empty : s.events ≡ []) (none : s.octets ≡ []) (room : events_most ≤ s.fixture.event_room) where
    its_lacking : Lacks s (events_of s.fixture.chosen (length s.octets) s.entries (closing p.state rest)) (packed_octets s.fixture.chosen (closing p.state rest)) → ⊥
    its_lacking (inl h) =
        omega (arith, h, room, ap length empty, all_few s.fixture.chosen (length s.octets) s.entries (closing p.state rest), closing_few.events, closing_few.packets)
    its_lacking (inr h) =
        omega (arith, h, ap length none, none_packed s.fixture.chosen (closing p.state rest) closing_few.packets)

    pub closing_taken : {S F : Type 0} (known : S → SinkState) (old new : S) (fault : StepFault F) → s ≡ known old
        → CloseRefused known TakesAsEvents RefusesEvents p old new (closing p.state rest) fault → ⊥
    closing_taken known old new (Sink f) own refused =
        its_lacking (one_lacks s (known new) (closing p.state rest) f (subst (λ (k : SinkState). RefusesOne TakesAsEvents RefusesEvents k (closing p.state rest) f (known new)) (sym own) refused.1))
    closing_taken known old new Failed own refused = cc (going.0, refused.0)
    closing_taken known old new TooMany own refused = refused

-- ---- the groups that are open

module _ (entries : Entries) (seen from start : ℕ) (old new : List Event) (filled key : ℕ)
    (done : HasPut entries seen from start old new filled (unclosed key (drop key entries))) where
  -- the next one
  pub put_more : (u : Unclosed) (event : Event) → next_unclosed_of entries key ≡ Some u → event ≡ unclosed_event seen u → filled < length new
      → HasPut entries seen from start old (slice_set new filled event) (filled + 1) (unclosed (u.key + 1) (drop (u.key + 1) entries))
  put_more u event is own room =
      let next = next_open key (drop key entries) u is in
      let count : key + (u.key + 1 - key) ≡ u.key + 1 = omega (arith, next.from) in
      record {
        given = done.given ++ u ∷ [];
        parts = rw (done.parts, next.rest, drop-drop (u.key + 1 - key) key entries, count, append_assoc) refl;
        put =
            take_more_set new filled event room
            ∙ rw (done.put, own, map-append (unclosed_event seen) done.given (u ∷ []), append_assoc) refl;
        within = omega (arith, length-set new filled event, room);
      }

  -- there is none
  pub put_all : next_unclosed_of entries key ≡ None → HasPut entries seen from start old new filled []
  put_all is = record {
    given = done.given;
    parts = rw (done.parts, no_first (unclosed key (drop key entries)) is) refl;
    put = done.put;
    within = done.within;
  }
