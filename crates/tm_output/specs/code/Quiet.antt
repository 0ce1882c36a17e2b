-- Packets at the front of a span, and those that add nothing to the report.
use Rattle.std.specs.Prelude.{◌≡◌, ◌<◌, ◌≤◌, ℕ, Bool, true, List, [], ◌∷◌, ◌++◌, length, take, drop}
use Rattle.std.specs.List.{flat_map}
use Rattle.tm_items.specs.declared.sink.Span.{Span}
use Rattle.tm_items.specs.Item.{Item, Packet}
use Rattle.tm_items.specs.Sinks.{TakesAll}
use Rattle.tm_items.specs.Fronts.{front_packets, octets_of, placed}
use Rattle.tm_lines.specs.declared.packet.Packet as lent
use Rattle.tm_output.specs.Packets.{HasHeader, item_with}
use Rattle.tm_packet.specs.Merge.{Entries}
use Rattle.tm_output.specs.declared.totals.Totals.{Totals}
use Rattle.tm_output.specs.Pieces.{Texts, noted, noted_all, report_of}
use Rattle.tm_output.specs.Totals.{totals_with_items}

-- what of items belongs to `out`
abbrev pub outs_of : {A : Type 0} → Texts A → List Item → List A
outs_of text xs = flat_map text.out xs

-- the report says nothing of an item
abbrev pub IsQuiet : {A : Type 0} → Texts A → Entries → Item → Type 0
IsQuiet text entries x = report_of entries x ++ text.remark x ≡ []

-- nor of any of these
abbrev pub AreQuiet : {A : Type 0} → Texts A → Entries → List Item → Type 0
AreQuiet text entries [] = Unit {0}
AreQuiet text entries (x ∷ xs) = IsQuiet text entries x × AreQuiet text (noted entries x) xs

-- each of these may be put at once with those beside it
abbrev pub AreJoined : (Item → Bool) → List Item → Type 0
AreJoined joins [] = Unit {0}
AreJoined joins (x ∷ xs) = (joins x ≡ true) × AreJoined joins xs

-- packets of a span, as items
abbrev pub span_items : Span → List (List ℕ) → List Item
span_items s packets = placed s.seen s.channel s.place packets

-- these packets are the first of a span's front, and have so many octets
pub record AreFirst (limit : ℕ) (s : Span) (packets : List (List ℕ)) (many : ℕ) : Type 0 where
  pub inside : many ≤ length s.octets.now
  pub octets : octets_of packets ≡ take many s.octets.now
  pub front : front_packets limit s.octets.now ≡ packets ++ front_packets limit (drop many s.octets.now)

-- so many octets of a span were noted and counted: first packets that are joined and add nothing to the report
pub record HasNoted {A : Type 0} (text : Texts A) (joins : Item → Bool) (limit : ℕ) (old new : Entries) (totals_old totals_new : Totals) (s : Span) (many : ℕ) : Type 0 where
  pub packets : List (List ℕ)
  pub first : AreFirst limit s packets many
  pub none : many ≡ 0 → packets ≡ []
  pub noted_is : new ≡ noted_all old (span_items s packets)
  pub totals_is : totals_new ≡ totals_with_items text old totals_old (span_items s packets)
  pub quiet : AreQuiet text old (span_items s packets)
  pub joined : AreJoined joins (span_items s packets)

-- the packet is the first of a span
pub record IsFirstPacket (limit : ℕ) (s : Span) (packet : lent.Packet) : Type 0 where
  pub item : item_with packet ≡ Packet s.seen s.channel s.seen s.place packet.octets.now
  pub channel_is : packet.channel ≡ s.channel
  pub header : HasHeader packet
  pub some : 0 < length packet.octets.now
  pub first : AreFirst limit s (packet.octets.now ∷ []) (length packet.octets.now)

-- first packets of a span, which have so many octets, were accepted
pub record IsAccepted {S : Type 0} (takes : S → Item → S → Type 0) (limit : ℕ) (old new : S) (s : Span) (many : ℕ) : Type 0 where
  pub packets : List (List ℕ)
  pub first : AreFirst limit s packets many
  pub accepted : TakesAll takes old (span_items s packets) new
