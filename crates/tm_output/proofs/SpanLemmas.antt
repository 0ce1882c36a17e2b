-- Packets at the front of a span: the first of them, and those that add nothing to the report.
use Rattle.std.proofs.Common.{◌≡◌, ◌≢◌, ℕ, Bool, false, true, ◌+◌, ◌-◌, ◌<◌, ◌≤◌, Some, List, [], ◌∷◌, ◌++◌, length, take, drop, refl, sym, ap, subst, ◌∙◌, append-nil, append_assoc, length-append, arith, inl, inr, ⊎_elim}
use Rattle.std.specs.Borrow.{Bor}
use Rattle.std.proofs.KnownBytes.{Appends-nil}
use Rattle.std.proofs.lemmas.Bool.{cases_lt, false≢true}
use Rattle.std.proofs.lemmas.List.{drop-append-le, drop-drop, drop_at, length-drop, length-take-le, take-append-drop, take-append-le, take_at}
use Rattle.std.proofs.Math.Seq.{take-add}
use Rattle.tm_packet.specs.Header.{Fields, packet_header_of}
use Rattle.tm_items.specs.declared.sink.Span.{Span}
use Rattle.tm_items.specs.Item.{Item, Packet}
use Rattle.tm_items.specs.OnePacket.{packet_length}
use Rattle.tm_items.specs.Sinks.{RefusesOne, TakesAll}
use Rattle.tm_items.specs.Fronts.{front_header, front_items, front_length, front_packets, octets_of, placed}
use Rattle.tm_items.proofs.Headers.{header-front}
use Rattle.tm_items.proofs.Leads.{Leads, RefusesOne-left, leads_all}
use Rattle.tm_items.proofs.Fronts.{front-some, header-some, whole-true}
use Rattle.tm_devices.specs.Devices.{raised}
use Rattle.tm_faults.specs.declared.run.RunFault.{RunFault}
use Rattle.tm_faults.specs.declared.run.RunFault.TheVariants.{Write}
use Rattle.tm_output.proofs.FrontLemmas.{front_taken}
use Rattle.tm_output.specs.Outputs.{PutsPart, SameCounts, Buffering, view}
use Rattle.tm_packet.specs.Merge.{Entries}
use Rattle.tm_output.specs.Pieces.{Texts, noted, noted_all, piece_of}
use Rattle.tm_output.specs.Seen.{OutputState}
use Rattle.tm_output.specs.Packets.{item_with}
use Rattle.tm_output.specs.code.Quiet.{AreFirst, AreJoined, AreQuiet, HasNoted, IsFirstPacket, IsQuiet, IsAccepted, outs_of, span_items}
use Rattle.tm_lines.specs.declared.packet.Packet as lent
use Rattle.tm_output.specs.code.Sinking.{Refuses, Takes}
use Rattle.tm_output.proofs.PacketLemmas.{none_both}
use Rattle.tm_output.specs.Totals.{totals_with_item, totals_with_items, totals_with_packet}
use Rattle.tm_output.specs.declared.totals.Totals.{Totals}
use Rattle.tm_output.proofs.PieceLemmas.{stopped_put, took_piece}
use Rattle.tm_output.proofs.TotalsLemmas.{items_counted, quiet_counted}

-- ---- the first

-- what reading the header at the front says of so many octets
pub record IsFront (limit n : ℕ) (octets : List ℕ) (h : Fields) : Type 0 where
  pub inside : n ≤ length octets
  pub own : h ≡ packet_header_of (take n octets)
  pub whole : n ≡ length (take n octets)
  pub some : 0 < length (take n octets)
  pub front : front_packets limit octets ≡ take n octets ∷ front_packets limit (drop (length (take n octets)) octets)

pub front_is : (limit n : ℕ) (octets : List ℕ) (h : Fields) → Some h ≡ front_header limit octets → n ≡ h.data_length + 7 → IsFront limit n octets h
front_is limit n octets h e far =
    let head = header-some limit octets h e in
    let w = whole-true limit octets head.there in
    let reached : n ≡ packet_length octets = far ∙ head.far in
    let inside : n ≤ length octets = omega (arith, w.inside) in
    let few : length (take n octets) ≡ n = length-take-le n octets inside in
    record {
      inside = inside;
      own = head.own ∙ sym (header-front n octets inside (omega arith));
      whole = sym few;
      some = omega (arith, few);
      front = front-some limit octets head.there ∙ rw (few, reached) refl;
    }

-- packets, and others after them
octets_of-append : (ps qs : List (List ℕ)) → octets_of (ps ++ qs) ≡ octets_of ps ++ octets_of qs
octets_of-append [] qs = refl
octets_of-append (p ∷ ps) qs = ap (λ (l : List ℕ). p ++ l) (octets_of-append ps qs) ∙ sym (append_assoc p (octets_of ps) (octets_of qs))

placed-append : (seen channel place : ℕ) (ps qs : List (List ℕ))
    → placed seen channel place (ps ++ qs) ≡ placed seen channel place ps ++ placed seen channel (place + length (octets_of ps)) qs
placed-append seen channel place [] qs = ap (λ (n : ℕ). placed seen channel n qs) (omega arith)
placed-append seen channel place (p ∷ ps) qs =
    ap (λ (xs : List Item). Packet seen channel seen place p ∷ xs)
    (placed-append seen channel (place + length p) ps qs
    ∙ ap (λ (n : ℕ). placed seen channel (place + length p) ps ++ placed seen channel n qs) (omega (arith, length-append p (octets_of ps))))

-- they have so many octets
first-length : (limit : ℕ) (span : Span) (packets : List (List ℕ)) (many : ℕ) → AreFirst limit span packets many → length (octets_of packets) ≡ many
first-length limit span packets many first = ap length first.octets ∙ length-take-le many span.octets.now first.inside

-- the front of those octets alone is these packets
pub first-alone : (limit : ℕ) (span : Span) (packets : List (List ℕ)) (many : ℕ) → AreFirst limit span packets many
    → front_packets limit (take many span.octets.now) ≡ packets
first-alone limit span packets many first = ap (front_packets limit) (sym first.octets) ∙ front_taken limit span.octets.now packets _ first.front

-- ---- that add nothing to the report

noted_more : (entries : Entries) (xs : List Item) (x : Item) → noted_all entries (xs ++ x ∷ []) ≡ noted (noted_all entries xs) x
noted_more entries [] x = refl
noted_more entries (y ∷ ys) x = noted_more (noted entries y) ys x

quiet_more : {A : Type 0} (text : Texts A) (entries : Entries) (xs : List Item) (x : Item) → AreQuiet text entries xs
    → IsQuiet text (noted_all entries xs) x → AreQuiet text entries (xs ++ x ∷ [])
quiet_more text entries [] x quiet none = (none, tt)
quiet_more text entries (y ∷ ys) x quiet none = (quiet.0, quiet_more text (noted entries y) ys x quiet.1 none)

joined_more : (joins : Item → Bool) (xs : List Item) (x : Item) → AreJoined joins xs → joins x ≡ true → AreJoined joins (xs ++ x ∷ [])
joined_more joins [] x joined one = (one, tt)
joined_more joins (y ∷ ys) x joined one = (joined.0, joined_more joins ys x joined.1 one)

-- where no packet may be put with others, there is none
pub none_joined : (xs : List Item) → AreJoined (λ _. false) xs → xs ≡ []
none_joined [] joined = refl
none_joined (x ∷ xs) joined = absurd (false≢true joined.0)

module _ {A : Type 0} (text : Texts A) (joins : Item → Bool) (limit : ℕ) (old : Entries) (totals : Totals) (span : Span) where
  pub noted_none : HasNoted text joins limit old old totals totals span 0
  noted_none = record {
    packets = [];
    first = record { inside = omega arith; octets = refl; front = refl };
    none = λ _. refl;
    noted_is = refl;
    totals_is = refl;
    quiet = tt;
    joined = tt;
  }

  -- and the next one
  pub noted_next : (now next : Entries) (sum : Totals) (given : Bool) (at : ℕ) (left : Bor (List ℕ)) (packet : lent.Packet)
      → left.now ≡ drop at span.octets.now
      → HasNoted text joins limit old now totals sum span at → IsFirstPacket limit (record span { place = span.place + at; octets = left }) packet
      → joins (item_with packet) ≡ true → IsQuiet text now (item_with packet) → next ≡ noted now (item_with packet) → given ≡ text.given (item_with packet)
      → HasNoted text joins limit old next totals (totals_with_packet sum given false false) span (at + length packet.octets.now)
  noted_next now next sum given at left packet all done head one silent after given_is =
      let octets = span.octets.now in
      let p = packet.octets.now in
      let n = length p in
      let far : length left.now ≡ length octets - at = ap length all ∙ length-drop at octets in
      let long = first-length limit span done.packets at done.first in
      let x = Packet span.seen span.channel span.seen (span.place + at) p in
      let before = span_items span done.packets in
      let items : span_items span (done.packets ++ p ∷ []) ≡ before ++ x ∷ [] =
      placed-append span.seen span.channel span.place done.packets (p ∷ []) ∙ rw long refl in
      record {
        packets = done.packets ++ p ∷ [];
        first = record {
          inside = omega (arith, head.first.inside, far, done.first.inside);
          octets =
              octets_of-append done.packets (p ∷ [])
              ∙ rw (done.first.octets, head.first.octets, all) refl
              ∙ sym (take-add at n octets);
          front =
              done.first.front
              ∙ ap (λ (ps : List (List ℕ)). done.packets ++ ps)
              (ap (front_packets limit) (sym all) ∙ head.first.front ∙ ap (λ (l : List ℕ). p ∷ front_packets limit l) (ap (drop n) all ∙ drop-drop n at octets))
              ∙ sym (append_assoc done.packets (p ∷ []) (front_packets limit (drop (at + n) octets)));
        };
        none = λ e. absurd (omega (arith, head.some, e));
        noted_is = rw (after, head.item, done.noted_is, items, noted_more) refl;
        totals_is =
            quiet_counted text now sum packet.seen packet.channel packet.first packet.place p given silent given_is
            ∙ rw (head.item, done.totals_is, done.noted_is, items, items_counted) refl;
        quiet = rw items (quiet_more text old before x done.quiet (rw (head.item, done.noted_is) at silent));
        joined = rw items (joined_more joins before x done.joined (rw head.item at one));
      }

-- ---- taken

-- the list is a front and what is after it, by where the front ends
front_by : {A : Type 0} (xs ys prefix rest : List A) → xs ++ ys ≡ prefix ++ rest → length xs ≤ length prefix
    → (more : List A) × (prefix ≡ xs ++ more) × (ys ≡ more ++ rest)
front_by {A} xs ys prefix rest e h =
    let n : ℕ = length xs in
    let same : take n prefix ≡ xs = sym (take-append-le n prefix rest h) ∙ ap (take n) (sym e) ∙ take_at xs ys n refl in (
      drop n prefix,
      sym (take-append-drop n prefix) ∙ ap (λ (l : List A). l ++ drop n prefix) same,
      sym (drop_at xs ys n refl) ∙ ap (drop n) e ∙ drop-append-le n prefix rest h,
    )

longer_some : {A : Type 0} (xs prefix more : List A) → xs ≡ prefix ++ more → length prefix < length xs → more ≢ []
longer_some xs prefix more e short none =
    let same : length xs ≡ length prefix = rw (e, none, append-nil) refl in
    omega arith

-- where there are octets there is a packet
some_first : (ps : List (List ℕ)) → 0 < length (octets_of ps) → (p : List ℕ) × (qs : List (List ℕ)) × (ps ≡ p ∷ qs)
some_first [] some = absurd (omega arith)
some_first (p ∷ qs) some = (p, qs, refl)

module _ {A K M : Type 0} (grows : K → K → List A → Type 0) (grows-nil : (k : K) → grows k k [])
    (grows-trans : (j k l : K) (xs ys : List A) → grows j k xs → grows k l ys → grows j l (xs ++ ys))
    (grows-split : (j l : K) (xs ys : List A) → grows j l (xs ++ ys) → (k : K) × grows j k xs × grows k l ys)
    (text : M → Texts A) (buffering : Buffering) where
  module _ (s t : OutputState K M) (limit : ℕ) {span : Span} {packet : lent.Packet} (head : IsFirstPacket limit span packet) where
    -- the first packet, alone
    pub one_taken : Takes grows text buffering s (item_with packet) t → IsAccepted (Takes grows text buffering) limit s t span (length packet.octets.now)
    one_taken accepted = record { packets = packet.octets.now ∷ []; first = head.first; accepted = (t, rw head.item at accepted, refl) }

    pub one_refused : {fault : RunFault} → Refuses grows text buffering s (item_with packet) fault t
        → RefusesOne (Takes grows text buffering) (Refuses grows text buffering) s (front_items limit span) fault t
    one_refused refused = rw head.first.front (inl (rw head.item at refused))

  module _ (s : OutputState K M) (x : Item) (quiet : IsQuiet (text s.fixture.texts) s.entries x) where
    -- it is taken where what belongs to `out` was added, and nothing else
    quiet_taken : (t : OutputState K M) → t.fixture ≡ s.fixture → t.entries ≡ noted s.entries x
        → t.totals ≡ totals_with_item (text s.fixture.texts) s.entries s.totals x → t.view.report ≡ s.view.report → SameCounts s.view t.view
        → grows s.view.out t.view.out ((text s.fixture.texts).out x) → Takes grows text buffering s x t
    quiet_taken t same noted_is totals_is report counts grown = record {
      same = same;
      noted_is = noted_is;
      totals_is = totals_is;
      took = took_piece grows s.view t.view (piece_of (text s.fixture.texts) s.entries x) grown
          (rw (report, quiet) (Appends-nil s.view.report)) counts;
    }

    -- the state between it and the next
    abbrev between : K → OutputState K M
    between k = record {
      fixture = s.fixture;
      entries = noted s.entries x;
      view = view k s.view.report s.view.out_failures s.view.report_failures;
      totals = totals_with_item (text s.fixture.texts) s.entries s.totals x;
    }

  -- packets that add nothing to the report, by one write
  pub all_taken : (s t : OutputState K M) (x : Item) (xs : List Item) → AreQuiet (text s.fixture.texts) s.entries (x ∷ xs)
      → t.fixture ≡ s.fixture → t.entries ≡ noted_all s.entries (x ∷ xs)
      → t.totals ≡ totals_with_items (text s.fixture.texts) s.entries s.totals (x ∷ xs) → t.view.report ≡ s.view.report → SameCounts s.view t.view
      → grows s.view.out t.view.out (outs_of (text s.fixture.texts) (x ∷ xs)) → TakesAll (Takes grows text buffering) s (x ∷ xs) t
  all_taken s t x [] quiet same noted_is totals_is report counts grown =
      (t, quiet_taken s x quiet.0 t same noted_is totals_is report counts (subst (grows s.view.out t.view.out) (append-nil ((text s.fixture.texts).out x)) grown), refl)
  all_taken s t x (y ∷ ys) quiet same noted_is totals_is report counts grown =
      let (k, before, behind) = grows-split s.view.out t.view.out ((text s.fixture.texts).out x) (outs_of (text s.fixture.texts) (y ∷ ys)) grown in
      let mid = between s x quiet.0 k in
      (mid, quiet_taken s x quiet.0 mid refl refl refl refl (refl, refl) before, all_taken mid t y ys quiet.1 same noted_is totals_is report counts behind)

  -- it is refused where a write stopped in what belongs to `out`
  stopped_here : (s t : OutputState K M) (x : Item) → t.fixture ≡ s.fixture → t.view.report ≡ s.view.report → t.view.out_failures ≡ raised s.view.out_failures
      → t.view.report_failures ≡ s.view.report_failures → PutsPart grows s.view.out t.view.out ((text s.fixture.texts).out x) → Refuses grows text buffering s x Write t
  stopped_here s t x same report out_failed report_failed part = record {
    same = same;
    stopped = stopped_put grows grows-nil grows-trans buffering s.view t.view (piece_of (text s.fixture.texts) s.entries x) Write (out_failed, part)
        (rw report (Appends-nil s.view.report)) report_failed;
  }

  -- and where one write of all of them stopped, one of them is refused
  pub one_stopped : (s t : OutputState K M) (x : Item) (xs : List Item) → AreQuiet (text s.fixture.texts) s.entries (x ∷ xs)
      → t.fixture ≡ s.fixture → t.view.report ≡ s.view.report → t.view.out_failures ≡ raised s.view.out_failures → t.view.report_failures ≡ s.view.report_failures
      → PutsPart grows s.view.out t.view.out (outs_of (text s.fixture.texts) (x ∷ xs))
      → RefusesOne (Takes grows text buffering) (Refuses grows text buffering) s (x ∷ xs) Write t
  one_stopped s t x [] quiet same report out_failed report_failed part =
      inl (stopped_here s t x same report out_failed report_failed (subst (PutsPart grows s.view.out t.view.out) (append-nil ((text s.fixture.texts).out x)) part))
  one_stopped s t x (y ∷ ys) quiet same report out_failed report_failed part =
      let own = (text s.fixture.texts).out x in
      let others = outs_of (text s.fixture.texts) (y ∷ ys) in
      let (prefix, rest, split, proper, grown) = part in
      ⊎_elim
      (λ short.
      let (more, fits, left) = front_by prefix rest own others (sym split) (omega arith) in
      inl (stopped_here s t x same report out_failed report_failed (prefix, more, fits, (λ some. longer_some own prefix more fits short), grown)))
      (λ long.
      let (more, fits, left) = front_by own others prefix rest split long in
      let (k, before, behind) = grows-split s.view.out t.view.out own more (subst (grows s.view.out t.view.out) fits grown) in
      let mid = between s x quiet.0 k in
      inr (
        mid,
        quiet_taken s x quiet.0 mid refl refl refl refl (refl, refl) before,
        one_stopped mid t y ys quiet.1 same report out_failed report_failed
            (more, rest, left, (λ some. proper (λ none. some (none_both own others none).1)), behind),
      ))
      (cases_lt (length prefix) (length own))

  module _ (s t : OutputState K M) {joins : Item → Bool} {limit : ℕ} {span : Span} {many : ℕ} (some : 0 < many) (done : HasNoted (text s.fixture.texts) joins limit s.entries t.entries s.totals t.totals span many)
      (same : t.fixture ≡ s.fixture) (report : t.view.report ≡ s.view.report) where
    long : length (octets_of done.packets) ≡ many
    long = first-length limit span done.packets many done.first

    parts : (p : List ℕ) × (qs : List (List ℕ)) × (done.packets ≡ p ∷ qs)
    parts = some_first done.packets (omega (arith, some, long))

    -- the packets in front that are noted
    pub span_taken : SameCounts s.view t.view → grows s.view.out t.view.out (outs_of (text s.fixture.texts) (span_items span done.packets))
        → IsAccepted (Takes grows text buffering) limit s t span many
    span_taken counts grown = record {
      packets = done.packets;
      first = done.first;
      accepted = rw parts.2 (all_taken s t _ _ (rw parts.2 at done.quiet) same (rw parts.2 at done.noted_is) (rw parts.2 at done.totals_is) report counts (rw parts.2 at grown));
    }

    pub span_stopped : t.view.out_failures ≡ raised s.view.out_failures → t.view.report_failures ≡ s.view.report_failures
        → PutsPart grows s.view.out t.view.out (outs_of (text s.fixture.texts) (span_items span done.packets))
        → RefusesOne (Takes grows text buffering) (Refuses grows text buffering) s (front_items limit span) Write t
    span_stopped out_failed report_failed part =
        rw (done.first.front, placed-append span.seen span.channel span.place done.packets (front_packets limit (drop many span.octets.now)))
        (RefusesOne-left (Takes grows text buffering) (Refuses grows text buffering) s t (span_items span done.packets)
        (placed span.seen span.channel (span.place + length (octets_of done.packets)) (front_packets limit (drop many span.octets.now))) Write
        (rw parts.2 (one_stopped s t _ _ (rw parts.2 at done.quiet) same report out_failed report_failed (rw parts.2 at part))))

-- ---- taken one after the other

-- the items of a span's front before this octet were taken, and so the rest of them is left
pub record IsAt {S F : Type 0} (takes : S → Item → S → Type 0) (refuses : S → Item → F → S → Type 0) (limit : ℕ) (span : Span) (old now : S) (at : ℕ) : Type 0 where
  pub leads : Leads takes refuses old now (front_items limit span)
      (placed span.seen span.channel (span.place + at) (front_packets limit (drop at span.octets.now)))
  pub longer : front_length limit span.octets.now ≡ at + front_length limit (drop at span.octets.now)
  pub inside : at ≤ length span.octets.now

module _ {S F : Type 0} (takes : S → Item → S → Type 0) (refuses : S → Item → F → S → Type 0) (limit : ℕ) (span : Span) (old : S) where
  module _ {now : S} {at : ℕ} (done : IsAt takes refuses limit span old now at) (rest : Span)
      (is : rest ≡ record span { place = span.place + at; octets = rest.octets }) (all : rest.octets.now ≡ drop at span.octets.now) where
    -- the first packets of the rest, too
    pub goes_on : (next : S) (many : ℕ) → IsAccepted takes limit now next rest many → IsAt takes refuses limit span old next (at + many)
    goes_on next many taken =
        let octets = span.octets.now in
        let first = taken.first in
        let long = first-length limit rest taken.packets many first in
        let behind : drop many rest.octets.now ≡ drop (at + many) octets = ap (drop many) all ∙ drop-drop many at octets in
        let front : front_packets limit (drop at octets) ≡ taken.packets ++ front_packets limit (drop (at + many) octets) =
        ap (front_packets limit) (sym all) ∙ first.front ∙ rw behind refl in
        let split : front_length limit (drop at octets) ≡ many + front_length limit (drop (at + many) octets) =
        ap (λ (ps : List (List ℕ)). length (octets_of ps)) front
        ∙ ap length (octets_of-append taken.packets (front_packets limit (drop (at + many) octets)))
        ∙ length-append (octets_of taken.packets) (octets_of (front_packets limit (drop (at + many) octets)))
        ∙ rw long refl in
        let next_place : (span.place + at) + many ≡ span.place + (at + many) = omega arith in
        record {
          leads =
              leads_all done.leads next (span_items rest taken.packets)
              (placed span.seen span.channel (span.place + (at + many)) (front_packets limit (drop (at + many) octets)))
              (ap (placed span.seen span.channel (span.place + at)) front
              ∙ placed-append span.seen span.channel (span.place + at) taken.packets (front_packets limit (drop (at + many) octets))
              ∙ rw (is, long, next_place) refl)
              taken.accepted;
          longer = omega (arith, done.longer, split);
          inside = omega (arith, first.inside, done.inside, ap length all, length-drop at octets);
        }

    -- one of them is refused
    pub refuses_one : (fault : F) (next : S) → RefusesOne takes refuses now (front_items limit rest) fault next
        → RefusesOne takes refuses old (front_items limit span) fault next
    refuses_one fault next refused = done.leads.refused fault next (rw (is, all) at refused)

    -- there are none
    pub ends : (next : S) (many : ℕ) → IsAccepted takes limit now next rest many → many ≡ 0 → front_packets limit rest.octets.now ≡ []
        → TakesAll takes old (front_items limit span) next × (at ≡ front_length limit span.octets.now)
    ends next many taken zero none =
        let on = goes_on next many taken in
        let left : front_packets limit (drop (at + many) span.octets.now) ≡ [] =
        ap (λ (n : ℕ). front_packets limit (drop n span.octets.now)) (omega (arith, zero)) ∙ ap (front_packets limit) (sym all) ∙ none in (
          on.leads.accepted next (rw left refl),
          omega (arith, on.longer, zero, ap (λ (ps : List (List ℕ)). length (octets_of ps)) left),
        )
