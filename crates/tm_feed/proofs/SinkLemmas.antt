-- What stands in the rooms, and where a room is too small.
use Rattle.std.proofs.Common.{◌≡◌, ℕ, ◌+◌, ◌≤◌, List, [], ◌∷◌, ◌++◌, length, inl, inr, subst, refl, sym, ap, ◌∙◌, append_assoc, append-nil, length-append, arith}
use Rattle.tm_packet.specs.Header.{packet_header_of}
use Rattle.tm_packet.specs.declared.notes.Note.{Note}
use Rattle.tm_packet.specs.Merge as sequence
use Rattle.tm_packet.specs.Merge.{Entries}
use Rattle.tm_items.specs.Item.{Item, Packet}
use Rattle.tm_lines.specs.declared.packet.Packet as lent
use Rattle.tm_output.specs.Packets.{HasHeader, item_with}
use Rattle.tm_output.specs.Pieces.{HasLine, noted, notes_of, sent}
use Rattle.tm_output.proofs.PacketLemmas.{notes_one}
use Rattle.tm_items.specs.OnePacket.{IsOnePacket}
use Rattle.tm_items.proofs.Headers.{header-front}
use Rattle.tm_items.proofs.Reaching.{packet_length-long, packet_length_least}
use Rattle.tm_feed.specs.declared.event.Event.{Event}
use Rattle.tm_feed.specs.Events.{item_event}
use Rattle.tm_feed.specs.Feeding.{item_events, item_octets, noted_events, packet_events, own_octets, row_events, row_given}
use Rattle.tm_feed.specs.States.{Chosen}
use Rattle.tm_feed.specs.code.Sinking.{Lacks, AddsEvents, RefusesEvents, SinkState, TakesAsEvents, note_events, with_more}

-- a whole packet has the octets that its header tells
pub whole_length : (octets : List ℕ) → IsOnePacket octets → length octets ≡ (packet_header_of octets).data_length + 7
whole_length octets one =
    let long : 6 ≤ length octets = omega (arith, one.whole, packet_length_least octets) in
    one.whole ∙ packet_length-long octets long ∙ ap (λ h. h.data_length + 7) (header-front 6 octets long (omega arith))

-- more after more
pub more_more : (s : SinkState) (e f : Entries) (xs ys : List Event) (os ps : List ℕ)
    → with_more (with_more s e xs os) f ys ps ≡ with_more s f (xs ++ ys) (os ++ ps)
more_more s e f xs ys os ps = rw (append_assoc s.events xs ys, append_assoc s.octets os ps) refl

-- nothing more
pub more_none : (s : SinkState) → with_more s s.entries [] [] ≡ s
more_none s = rw (append-nil s.events, append-nil s.octets) refl

-- where more is lacking after some, all is lacking
pub lacks_more : (s : SinkState) (e : Entries) (xs ys : List Event) (os ps : List ℕ) → Lacks (with_more s e xs os) ys ps → Lacks s (xs ++ ys) (os ++ ps)
lacks_more s e xs ys os ps (inl h) = inl (omega (arith, length-append s.events xs, length-append xs ys))
lacks_more s e xs ys os ps (inr h) = inr (omega (arith, length-append s.octets os, length-append os ps))

-- and so where some is lacking
pub lacks_longer : (s : SinkState) (xs ys : List Event) (os ps : List ℕ) → Lacks s xs os → Lacks s (xs ++ ys) (os ++ ps)
lacks_longer s xs ys os ps (inl h) = inl (omega (arith, length-append xs ys))
lacks_longer s xs ys os ps (inr h) = inr (omega (arith, length-append os ps))

-- ---- one item

module _ (s : SinkState) (x : Item) where
  abbrev own : List Event
  own = packet_events s.fixture.chosen (length s.octets) x

  abbrev its_octets : List ℕ
  its_octets = own_octets s.fixture.chosen x

  abbrev notes : List Event
  notes = noted_events s.entries x

  abbrev rows : List Event
  rows = row_events s.fixture.chosen (length s.octets + length its_octets) x

  abbrev row : List ℕ
  row = row_given s.fixture.chosen x

  -- after its event and those of its notes
  both : (t u : SinkState) → AddsEvents s t s.entries own its_octets → AddsEvents t u (noted t.entries x) (noted_events t.entries x) []
      → u ≡ with_more s (noted s.entries x) (own ++ notes) its_octets
  both t u first second =
      second
      ∙ rw first (more_more s s.entries (noted s.entries x) own notes its_octets [])
      ∙ ap (λ (l : List ℕ). with_more s (noted s.entries x) (own ++ notes) l) (append-nil its_octets)

  -- its event or none, those of its notes, and then that of its row
  pub taken : (t u v : SinkState) → AddsEvents s t s.entries own its_octets → AddsEvents t u (noted t.entries x) (noted_events t.entries x) []
      → AddsEvents u v u.entries (row_events u.fixture.chosen (length u.octets) x) (row_given u.fixture.chosen x) → TakesAsEvents s x v
  taken t u v first second third =
      let w : SinkState = with_more s (noted s.entries x) (own ++ notes) its_octets in
      let far : length (s.octets ++ its_octets) ≡ length s.octets + length its_octets = length-append s.octets its_octets in
      let after : v ≡ with_more w w.entries (row_events s.fixture.chosen (length w.octets) x) row =
      subst (λ (z : SinkState). v ≡ with_more z z.entries (row_events z.fixture.chosen (length z.octets) x) (row_given z.fixture.chosen x)) (both t u first second) third in
      let all : v ≡ with_more w (noted s.entries x) rows row =
      subst (λ (n : ℕ). v ≡ with_more w (noted s.entries x) (row_events s.fixture.chosen n x) row) far after in
      all
      ∙ more_more s (noted s.entries x) (noted s.entries x) (own ++ notes) rows its_octets row
      ∙ ap (λ (l : List Event). with_more s (noted s.entries x) l (its_octets ++ row)) (append_assoc own notes rows ∙ sym (append-nil (own ++ (notes ++ rows))))
      ∙ ap (λ (l : List ℕ). with_more s (noted s.entries x) ((own ++ (notes ++ rows)) ++ []) l) (sym (append-nil (its_octets ++ row)))

  pub refused_first : {F : Type 0} (fault : F) (t : SinkState) → Lacks s own its_octets → RefusesEvents s x fault t
  refused_first fault t h = lacks_longer s own (notes ++ rows) its_octets row h

  pub refused_notes : {F : Type 0} (fault : F) (t u : SinkState) → AddsEvents s t s.entries own its_octets → Lacks t (noted_events t.entries x) []
      → RefusesEvents s x fault u
  refused_notes fault t u first h =
      let there = lacks_more s s.entries own notes its_octets [] (subst (λ (v : SinkState). Lacks v (noted_events v.entries x) []) first h) in
      let all = lacks_longer s (own ++ notes) rows (its_octets ++ []) row there in
      rw (append-nil its_octets, append_assoc own notes rows) at all

  pub refused_row : {F : Type 0} (fault : F) (t u v : SinkState) → AddsEvents s t s.entries own its_octets
      → AddsEvents t u (noted t.entries x) (noted_events t.entries x) []
      → Lacks u (row_events u.fixture.chosen (length u.octets) x) (row_given u.fixture.chosen x) → RefusesEvents s x fault v
  refused_row fault t u v first second h =
      let w : SinkState = with_more s (noted s.entries x) (own ++ notes) its_octets in
      let far : length (s.octets ++ its_octets) ≡ length s.octets + length its_octets = length-append s.octets its_octets in
      let after : Lacks w (row_events s.fixture.chosen (length w.octets) x) row =
      subst (λ (z : SinkState). Lacks z (row_events z.fixture.chosen (length z.octets) x) (row_given z.fixture.chosen x)) (both t u first second) h in
      let there : Lacks w rows row = subst (λ (n : ℕ). Lacks w (row_events s.fixture.chosen n x) row) far after in
      let all = lacks_more s (noted s.entries x) (own ++ notes) rows its_octets row there in
      rw (append_assoc own notes rows) at all

-- an item that is no packet has its event alone
other_events : (chosen : Chosen) (at : ℕ) (entries : Entries) (x : Item) → HasLine x
    → (item_events chosen at entries x ≡ item_event 0 x ∷ []) × (item_octets chosen x ≡ []) × (noted entries x ≡ entries)
unfolding noted
other_events chosen at entries (Packet seen channel first place octets) has = absurd has
other_events chosen at entries _ has = (refl, refl, refl)

pub other_taken : (s t : SinkState) (x : Item) → HasLine x → AddsEvents s t s.entries (item_event 0 x ∷ []) [] → TakesAsEvents s x t
other_taken s t x has put =
    let is = other_events s.fixture.chosen (length s.octets) s.entries x has in
    put ∙ rw (is.0, is.1, is.2) refl

pub other_refused : {F : Type 0} (s t : SinkState) (x : Item) (fault : F) → HasLine x → Lacks s (item_event 0 x ∷ []) [] → RefusesEvents s x fault t
other_refused s t x fault has lacks =
    let is = other_events s.fixture.chosen (length s.octets) s.entries x has in
    rw (is.0, is.1) lacks

-- ---- its notes

module _ (entries : Entries) (p : lent.Packet) (header : HasHeader p) where
  pub noted_is : sequence.entries_after entries (record { channel = p.channel; header = p.header } ∷ []) ≡ noted entries (item_with p)
  unfolding noted
  noted_is = rw header refl

  pub notes_are : (notes : List Note) → sequence.notes entries (record { channel = p.channel; header = p.header } ∷ []) ≡ notes ∷ []
      → note_events p.seen p.channel p.header.application notes ≡ noted_events entries (item_with p)
  notes_are notes is =
      let same : notes ≡ notes_of entries (sent p.channel p.octets.now) = notes_one entries (sent p.channel p.octets.now) notes (rw header at is) in
      rw (header, same) refl

-- one note after others
pub one_note : (s t u : SinkState) (e : Entries) (xs : List Event) (event : Event) → t ≡ with_more s e xs [] → AddsEvents t u t.entries (event ∷ []) []
    → u ≡ with_more s e (xs ++ event ∷ []) []
one_note s t u e xs event so put = put ∙ rw so (more_more s e e xs (event ∷ []) [] [])

-- a packet without notes
pub no_notes : (s t : SinkState) (p : lent.Packet) → HasHeader p → sequence.notes s.entries (record { channel = p.channel; header = p.header } ∷ []) ≡ [] ∷ []
    → t ≡ record s { entries = sequence.entries_after s.entries (record { channel = p.channel; header = p.header } ∷ []) }
    → AddsEvents s t (noted s.entries (item_with p)) (noted_events s.entries (item_with p)) []
no_notes s t p header none is =
    let more : with_more s (noted s.entries (item_with p)) [] [] ≡ record s { entries = noted s.entries (item_with p) } =
    rw (append-nil s.events, append-nil s.octets) refl in
    is
    ∙ ap (λ (e : Entries). record s { entries = e }) (noted_is s.entries p header)
    ∙ sym more
    ∙ ap (λ (l : List Event). with_more s (noted s.entries (item_with p)) l []) (notes_are s.entries p header [] none)

pub ruleset one_packet = (taken, refused_first, refused_notes, refused_row)
