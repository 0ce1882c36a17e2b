-- A record leaves a valid state valid.
use Rattle.std.proofs.lemmas.Option.{same_Some}
use Rattle.std.proofs.Common.{◌≡◌, ℕ, suc, zero, pred, ◌+◌, ◌^◌, ◌<◌, ◌≤◌, Ok, Err, Bool, true, false, Option, Some, None, List, [], ◌∷◌, ◌++◌, length, set, refl, sym, ap, subst, ◌∙◌, ⊎_elim, arith, leb}
use Rattle.std.specs.List.{slice_get}
use Rattle.std.proofs.lemmas.List.{length-set}
use Rattle.std.proofs.lemmas.Bool.{cases_Bool, cases_eq, cases_lt, cond_both, both_ways}
use Rattle.tm_bits.specs.Bits.{AreOctets}
use Rattle.tm_bits.proofs.PartLemmas.{octets_after}
use Rattle.tm_frame.specs.declared.layout.LayoutParts.{LayoutParts}
use Rattle.tm_frame.specs.declared.frame.Kind.TheVariants as got
use Rattle.tm_frame.specs.declared.frame.Kind.{Kind}
use Rattle.tm_frame.specs.Fault.{frame_reading_of}
use Rattle.tm_frame.specs.Frame.{GoodFrame, is_vca_kind}
use Rattle.tm_reassembly.specs.Readings.{FrameReading}
use Rattle.tm_reassembly.specs.State.{State, Last, Tail}
use Rattle.tm_reassembly.specs.Chain.{has_frame_gap, member, counted_field, start_place_of}
use Rattle.tm_items.specs.OnePacket.{packet_length}
use Rattle.tm_reassembly.specs.Parts.{agrees, begins_packet}
use Rattle.tm_reassembly.specs.code.Field.{chain_tail_at, step_tail, frame_tail, tail_left, tail_at, left_in, unfinished}
use Rattle.tm_reassembly.specs.Items.{empty}
use Rattle.tm_reassembly.specs.Items as read
use Rattle.tm_reassembly.specs.Recording.{after, readings}
use Rattle.tm_reassembly.specs.Valid as ok
use Rattle.tm_reassembly.specs.Valid.{IsCount, IsValidState, IsWithin, AllOctets}
use Rattle.tm_reassembly.proofs.Chained.{IsOpenTail, IsTail}
use Rattle.tm_reassembly.proofs.Seen.{chain_tail_at-open}
use Rattle.tm_reassembly.proofs.Joining.{before_of, tail_of}
use Rattle.tm_reassembly.proofs.Records.{after-append, at_eight, none_last}
use Rattle.tm_reassembly.proofs.OneStep.{last_moved, valid-from, after-nil, after-one, after-bad, after-other, get_set-same, get_set-other, open-at}
use Rattle.tm_reassembly.proofs.Long.{begins-short, within-limit}
use Rattle.tm_frame.specs.Rules.{Rules, IsLimit, chooses}
use Rattle.tm_reassembly.proofs.Fits.{IsGood, IsRead, reading-fit, reading-good, octets_append}

no_octets : AreOctets []
no_octets = record { below = λ i. omega arith }

octets_field : (kind : Kind) (field : List ℕ) → AreOctets field → AreOctets (counted_field kind field) × (length (counted_field kind field) ≤ length field)
octets_field got.Idle field h = (no_octets, omega arith)
octets_field kind field h = (h, omega arith)

abbrev Within : LayoutParts → ℕ → Option Tail → Type 0
Within layout records None = Unit {0}
Within layout records (Some t) = IsWithin layout records t

within-more : (layout : LayoutParts) (records : ℕ) (t : Option Tail) → Within layout records t → Within layout (records + 1) t
within-more layout records None h = tt
within-more layout records (Some t) h =
    record { first = (omega (arith, h.first)); place = h.place; octets = h.octets }

module _ (limit : ℕ) where
  -- the octets of an unfinished packet are octets of its field, and no more than those
  rest_unfinished : (skip : ℕ) (o : List ℕ) → AreOctets o → AreOctets (unfinished limit skip o) × (length (unfinished limit skip o) ≤ length o)
  rest_unfinished skip [] h = (h, omega arith)
  rest_unfinished zero (x ∷ xs) h =
      cond_both (begins_packet limit (x ∷ xs)) _ _ (λ (l : List ℕ). AreOctets l × (length l ≤ suc (length xs)))
      (λ p. cond_both (leb (packet_length (x ∷ xs)) (length (x ∷ xs))) _ _ (λ (l : List ℕ). AreOctets l × (length l ≤ suc (length xs)))
      (λ q. let rest = rest_unfinished (pred (packet_length (x ∷ xs))) xs (octets_after x xs h) in (rest.0, omega (arith, rest.1))) (λ q. (h, omega arith)))
      (λ p. (no_octets, omega arith))
  rest_unfinished (suc skip) (x ∷ xs) h = let rest = rest_unfinished skip xs (octets_after x xs h) in (rest.0, omega (arith, rest.1))

  rest_left : (place : Option ℕ) (field : List ℕ) → AreOctets field → AreOctets (left_in limit place field) × (length (left_in limit place field) ≤ length field)
  rest_left None field h = (no_octets, omega arith)
  rest_left (Some place) field h = rest_unfinished place field h

  module _ (layout : LayoutParts) (records : ℕ) (f : GoodFrame) (good : IsGood layout f) where
    within-at : (o : List ℕ) → AreOctets o → length o ≤ length (counted_field f.kind f.field) → Within layout (records + 1) (tail_at records (0 + length (counted_field f.kind f.field)) o)
    within-at [] h less = tt
    within-at (x ∷ xs) h less =
        let most = (octets_field f.kind f.field good.octets).1 in
        let room = good.most (omega arith) in
        record { first = omega arith; place = omega arith; octets = h }

    within-frame : Within layout (records + 1) (frame_tail limit (member records f))
    within-frame =
        let rest = rest_left (start_place_of f.kind) (counted_field f.kind f.field) (octets_field f.kind f.field good.octets).0 in
        within-at (left_in limit (start_place_of f.kind) (counted_field f.kind f.field)) rest.0 rest.1

    within-left : (t : Tail) (reach : ℕ) → IsWithin layout records t → Within layout (records + 1) (tail_left limit t (member records f) reach)
    within-left t reach h =
        cond_both (agrees limit reach (length t.octets) (member records f)) _ _ (Within layout (records + 1))
        (λ p.
        cond_both (leb reach (length (t.octets ++ counted_field f.kind f.field))) _ _ (Within layout (records + 1))
        (λ q. within-frame)
        (λ q. let w : IsWithin layout (records + 1) (record { first = t.first; place = t.place; octets = t.octets ++ counted_field f.kind f.field }) = record {
          first = (omega (arith, h.first));
          place = h.place;
          octets = octets_append t.octets (counted_field f.kind f.field) h.octets (octets_field f.kind f.field good.octets).0;
        } in w))
        (λ p. within-frame)

    within-step : (tail : Option Tail) → Within layout records tail → Within layout (records + 1) (step_tail limit tail (member records f))
    within-step None h = within-frame
    within-step (Some t) h = within-left t (packet_length (t.octets ++ counted_field f.kind f.field)) h

    within-chain : (gap vca : Bool) (tail : Option Tail) → Within layout records tail → Within layout (records + 1) (chain_tail_at limit gap vca tail (member records f))
    within-chain gap true tail h = tt
    within-chain true false tail h = within-frame
    within-chain false false tail h = within-step tail h

  -- what is kept of one channel
  pub record Keeps (layout : LayoutParts) (records : ℕ) (last : Last) : Type 0 where
    pub count : last.count < 256
    pub open_tail : IsOpenTail limit last.tail
    pub within : Within layout records last.tail

pub keeps-at : (rules : Rules) (s : State) → IsValidState rules s → (c : ℕ) (last : Last)
    → slice_get s.channels c ≡ Some (Some last) → Keeps rules.max_packet rules.layout s.records last
keeps-at rules s v c last e = record {
  count = v.counts c last e;
  open_tail = subst (IsOpenTail rules.max_packet) (ap tail_of e) (open-at rules.max_packet (chooses rules) s v.shape c);
  within = inside last.tail refl;
}
  where
    inside : (t : Option Tail) → last.tail ≡ t → Within rules.layout s.records t
    inside None f = tt
    inside (Some t) f = v.within c last t e f

-- a state in which each channel keeps what it may
pub state-from : (rules : Rules) (s : State) → IsLimit rules.max_packet → s.records < 2 ^ 32 → ok.IsCount s.master → length s.channels ≡ 8
    → ((c : ℕ) → chooses rules c ≡ false → c < 8 → slice_get s.channels c ≡ Some None)
    → ((c : ℕ) (last : Last) → slice_get s.channels c ≡ Some (Some last) → Keeps rules.max_packet rules.layout s.records last)
    → IsValidState rules s
state-from rules s range small octet eight only keeps = record {
  limit = range;
  records = small;
  master = octet;
  shape = record { eight_channels = eight; only_chosen = only; tails = λ c last t e f. subst (IsOpenTail rules.max_packet) f (keeps c last e).open_tail };
  counts = λ c last e. (keeps c last e).count;
  within = λ c last t e f. subst (Within rules.layout s.records) f (keeps c last e).within;
}

keeps-more : (limit : ℕ) (layout : LayoutParts) (records : ℕ) (last : Last) → Keeps limit layout records last → Keeps limit layout (records + 1) last
keeps-more limit layout records last k = record { count = k.count; open_tail = k.open_tail; within = within-more layout records last.tail k.within }

module _ (rules : Rules) (s : State) (v : IsValidState rules s) (more : s.records + 1 < 2 ^ 32) where
  -- where the channels stay, the state stays valid
  channels-valid : (master : Option ℕ) → ok.IsCount master → IsValidState rules (record { records = s.records + 1; master = master; channels = s.channels })
  channels-valid master octet =
      state-from rules (record { records = s.records + 1; master = master; channels = s.channels }) v.limit more octet v.shape.eight_channels v.shape.only_chosen
      (λ c last e. keeps-more rules.max_packet rules.layout s.records last (keeps-at rules s v c last e))

  -- where one chosen channel keeps something else that it may
  set-valid : (master : Option ℕ) → ok.IsCount master → (channel : ℕ) (newest : Last) → channel < 8 → chooses rules channel ≡ true → Keeps rules.max_packet rules.layout (s.records + 1) newest
      → IsValidState rules (record { records = s.records + 1; master = master; channels = set s.channels channel (Some newest) })
  set-valid master octet channel newest small e k =
      state-from rules (record { records = s.records + 1; master = master; channels = set s.channels channel (Some newest) }) v.limit more octet
      (length-set s.channels channel (Some newest) ∙ v.shape.eight_channels)
      (λ c n less.
      get_set-other s.channels channel c (Some newest) (λ z. both_ways (chooses rules c) n (ap (chooses rules) z ∙ e))
      ∙ v.shape.only_chosen c n less)
      (λ c last f. ⊎_elim (at_it c last f) (other c last f) (cases_eq c channel))
    where
      at_it : (c : ℕ) (last : Last) → slice_get (set s.channels channel (Some newest)) c ≡ Some (Some last) → c ≡ channel → Keeps rules.max_packet rules.layout (s.records + 1) last
      at_it c last f z =
          let there : slice_get (set s.channels channel (Some newest)) channel ≡ Some (Some newest) = get_set-same s.channels channel (Some newest) (rw v.shape.eight_channels small) in
          let same : newest ≡ last = same_Some newest last (same_Some (Some newest) (Some last) (sym there ∙ ap (λ (k : ℕ). slice_get (set s.channels channel (Some newest)) k) (sym z) ∙ f)) in
          subst (Keeps rules.max_packet rules.layout (s.records + 1)) same k

      other : (c : ℕ) (last : Last) → slice_get (set s.channels channel (Some newest)) c ≡ Some (Some last) → (c ≡ channel → ⊥) → Keeps rules.max_packet rules.layout (s.records + 1) last
      other c last f ne =
          keeps-more rules.max_packet rules.layout s.records last (keeps-at rules s v c last (sym (get_set-other s.channels channel c (Some newest) ne) ∙ f))

  -- what the entry of a channel says
  within_now : (c : ℕ) (x : Option (Option Last)) → slice_get s.channels c ≡ x → Within rules.layout s.records (tail_of x)
  within_now c None e = tt
  within_now c (Some None) e = tt
  within_now c (Some (Some last)) e = (keeps-at rules s v c last e).within

  read-valid : (r : FrameReading) → IsRead rules.layout r → IsValidState rules (read.state_after_readings rules.max_packet (chooses rules) s (r ∷ []))
  read-valid (Err fault) h = subst (IsValidState rules) (sym (after-bad rules.max_packet (chooses rules) s fault v.shape)) (channels-valid s.master v.master)
  read-valid (Ok g) h =
      ⊎_elim
      (λ e. subst (IsValidState rules) (sym (after-one rules.max_packet (chooses rules) s g v.shape h.fits e)) (set-valid (Some g.master_count) h.master g.channel _ h.fits.0 e next))
      (λ e. subst (IsValidState rules) (sym (after-other rules.max_packet (chooses rules) s g v.shape h.fits e)) (channels-valid (Some g.master_count) h.master))
      (cases_Bool (chooses rules g.channel))
    where
      next : Keeps rules.max_packet rules.layout (s.records + 1) (last_moved rules.max_packet s g)
      next =
          let gap = has_frame_gap (before_of (slice_get s.channels g.channel)) (member s.records g) in
          let tail = tail_of (slice_get s.channels g.channel) in
          record {
            count = h.count;
            open_tail = chain_tail_at-open rules.max_packet gap (is_vca_kind g.kind) tail (member s.records g) (open-at rules.max_packet (chooses rules) s v.shape g.channel);
            within = within-chain rules.max_packet rules.layout s.records g h gap (is_vca_kind g.kind) tail (within_now g.channel (slice_get s.channels g.channel) refl);
          }

-- the state of no records is valid
pub empty-valid : (rules : Rules) → IsLimit rules.max_packet → IsValidState rules empty
empty-valid rules range =
    state-from rules empty range (omega arith) tt refl (λ c n less. at_eight (λ d. None) c less) (λ c last e. absurd (none_last c last e))

-- and so is the state after one record, and after any
pub record-valid : (rules : Rules) (s : State) (octets : List ℕ) → IsValidState rules s → AreOctets octets
    → s.records + 1 < 2 ^ 32 → IsValidState rules (after rules s (octets ∷ []))
unfolding after
record-valid rules s octets v h more = read-valid rules s v more (frame_reading_of rules.layout octets) (reading-good rules.layout octets h)

pub records-valid : (rules : Rules) (s : State) (records : List (List ℕ)) → IsValidState rules s
    → AllOctets records → s.records + length records < 2 ^ 32 → IsValidState rules (after rules s records)
unfolding after
records-valid rules s [] v h most = subst (IsValidState rules) (sym (after-nil rules.max_packet (chooses rules) s v.shape)) v
records-valid rules s (octets ∷ rest) v h most =
    let one = record-valid rules s octets v h.0 (omega arith) in
    subst (IsValidState rules)
    (sym
    (after-append rules.max_packet (chooses rules) s (frame_reading_of rules.layout octets ∷ []) (readings rules.layout rest) (valid-from rules.max_packet (chooses rules) s v.shape) (after-nil rules.max_packet (chooses rules) s v.shape)
    (reading-fit rules.layout octets, tt)))
    (records-valid rules (after rules s (octets ∷ [])) rest one h.1 (omega arith))

-- a tail is shorter than the limit
pub tail-short : (limit : ℕ) (o : List ℕ) → 7 ≤ limit → ok.IsTail limit o → length o < limit
tail-short limit [] least h = absurd h
tail-short limit (x ∷ xs) least h =
    let less : length (x ∷ xs) < packet_length (x ∷ xs) = h.1 in
    ⊎_elim
    (λ short. omega arith)
    (λ enough. let most = within-limit limit (packet_length (x ∷ xs)) (length (x ∷ xs)) enough (begins-short limit (x ∷ xs) h.0) in omega arith)
    (cases_lt (length (x ∷ xs)) 6)

pub short-tails : (rules : Rules) (s : State) → IsValidState rules s → (c : ℕ) (last : Last) (t : Tail)
    → slice_get s.channels c ≡ Some (Some last) → last.tail ≡ Some t → length t.octets < rules.max_packet
short-tails rules s v c last t e f = tail-short rules.max_packet t.octets v.limit.least (v.shape.tails c last t e f)

-- likewise of what is held of a channel
pub short-held : (rules : Rules) (s : State) → IsValidState rules s → (c : ℕ) (t : Tail) → tail_of (slice_get s.channels c) ≡ Some t → length t.octets < rules.max_packet
short-held rules s v c t held = by (slice_get s.channels c) refl held
  where
    by : (x : Option (Option Last)) → slice_get s.channels c ≡ x → tail_of x ≡ Some t → length t.octets < rules.max_packet
    by (Some (Some last)) e f = short-tails rules s v c last t e f
    by x e f = absurd (cc)
