-- A text that goes to a drain in parts, and by way of a room.
use Rattle.std.proofs.Common.{◌≡◌, ◌≢◌, ℕ, ◌+◌, List, [], ◌∷◌, ◌++◌, Option, length, take, drop, refl, sym, ap, ◌∙◌, append-nil, append_assoc, arith}
use Rattle.std.specs.List.{flat_map}
use Rattle.std.specs.Io.KnownBytes.{Appends}
use Rattle.std.proofs.KnownBytes.{Appends-nil, Appends-trans}
use Rattle.std.proofs.lemmas.List.{drop-drop}
use Rattle.tm_items.specs.declared.sink.Span.{Span}
use Rattle.tm_items.specs.Item.{Item}
use Rattle.tm_items.specs.Fronts.{front_items, front_packets, placed}
use Rattle.tm_devices.specs.Devices.{AppendsPrefix}
use Rattle.tm_lines.specs.declared.packet.Packet as lent
use Rattle.tm_output.specs.Packets.{item_with}
use Rattle.tm_output.specs.code.Quiet.{IsFirstPacket}
use Rattle.tm_output.proofs.PacketLemmas.{none_both}

-- a text was written up to this part, and then a prefix of the part
pub stopped_in : (old mid new : Option (List ℕ)) (done part more text : List ℕ) → text ≡ done ++ (part ++ more) → part ≢ [] → Appends old mid done
    → AppendsPrefix mid new part → AppendsPrefix old new text
stopped_in old mid new done part more text is some first (prefix, rest, split, proper, grown) = (
  done ++ prefix,
  rest ++ more,
  is ∙ ap (λ (l : List ℕ). done ++ (l ++ more)) split ∙ ap (λ (l : List ℕ). done ++ l) (append_assoc prefix rest more) ∙ sym (append_assoc done prefix (rest ++ more)),
  λ _ none. proper some (none_both rest more none).0,
  Appends-trans old mid new done prefix first grown,
)

-- the text of the packets of a span's front behind this octet
abbrev pub text_behind : (Item → List ℕ) → ℕ → Span → ℕ → List ℕ
text_behind text limit s at = flat_map text (placed s.seen s.channel (s.place + at) (front_packets limit (drop at s.octets.now)))

pub text_all : (text : Item → List ℕ) (limit : ℕ) (span : Span) → flat_map text (front_items limit span) ≡ text_behind text limit span 0
text_all text limit span = ap (λ (n : ℕ). flat_map text (placed span.seen span.channel n (front_packets limit span.octets.now))) (omega arith)

-- it begins with the text of the next packet
pub text_next : (text : Item → List ℕ) (limit : ℕ) (span rest : Span) (at : ℕ) (packet : lent.Packet)
    → rest ≡ record span { place = span.place + at; octets = rest.octets } → rest.octets.now ≡ drop at span.octets.now → IsFirstPacket limit rest packet
    → text_behind text limit span at ≡ text (item_with packet) ++ text_behind text limit span (at + length packet.octets.now)
text_next text limit span rest at packet is all head =
    let octets = span.octets.now in
    let p = packet.octets.now in
    let n = length p in
    let front : front_packets limit (drop at octets) ≡ p ∷ front_packets limit (drop (at + n) octets) =
    ap (front_packets limit) (sym all) ∙ head.first.front ∙ ap (λ (l : List ℕ). p ∷ front_packets limit l) (ap (drop n) all ∙ drop-drop n at octets) in
    let place : (span.place + at) + n ≡ span.place + (at + n) = omega arith in
    rw (front, head.item, is, place) refl

-- it is nothing where no packet is left
pub text_last : (text : Item → List ℕ) (limit : ℕ) (span : Span) (at : ℕ) → front_packets limit (drop at span.octets.now) ≡ [] → text_behind text limit span at ≡ []
text_last text limit span at none = rw none refl

-- a part of a text was written, more of it stands in a room, and the rest is left
pub record IsPartly (old now : Option (List ℕ)) (room : List ℕ) (filled : ℕ) (text rest : List ℕ) : Type 0 where
  pub done : List ℕ
  pub written : Appends old now done
  pub split : text ≡ done ++ (take filled room ++ rest)

pub nothing_partly : (old : Option (List ℕ)) (room text rest : List ℕ) → text ≡ rest → IsPartly old old room 0 text rest
nothing_partly old room text rest is = record { done = []; written = Appends-nil old; split = is }

module _ {old now : Option (List ℕ)} {room : List ℕ} {filled : ℕ} {text rest : List ℕ} (partly : IsPartly old now room filled text rest) where
  -- what stands in the room is written too
  pub room_written : (next : Option (List ℕ)) → Appends now next (take filled room) → IsPartly old next room 0 text rest
  room_written next grown = record {
    done = partly.done ++ take filled room;
    written = Appends-trans old now next partly.done (take filled room) partly.written grown;
    split = partly.split ∙ sym (append_assoc partly.done (take filled room) rest);
  }

  -- or a prefix of it
  pub room_stopped : (next : Option (List ℕ)) → take filled room ≢ [] → AppendsPrefix now next (take filled room) → AppendsPrefix old next text
  room_stopped next some stopped = stopped_in old now next partly.done (take filled room) rest text partly.split some partly.written stopped

  -- a part of the rest is put into the room
  pub part_put : (part more next : List ℕ) (many : ℕ) → rest ≡ part ++ more → take many next ≡ take filled room ++ part → IsPartly old now next many text more
  part_put part more next many is put = record {
    done = partly.done;
    written = partly.written;
    split = partly.split ∙ ap (λ (l : List ℕ). partly.done ++ l)
        (ap (λ (l : List ℕ). take filled room ++ l) is ∙ sym (append_assoc (take filled room) part more) ∙ ap (λ (l : List ℕ). l ++ more) (sym put));
  }

  -- nothing is left
  pub all_written : (next : Option (List ℕ)) → rest ≡ [] → Appends now next (take filled room) → Appends old next text
  all_written next none grown =
      rw (partly.split ∙ ap (λ (l : List ℕ). partly.done ++ (take filled room ++ l)) none ∙ ap (λ (l : List ℕ). partly.done ++ l) (append-nil (take filled room)))
      (Appends-trans old now next partly.done (take filled room) partly.written grown)

module _ {old now : Option (List ℕ)} {room text rest : List ℕ} (partly : IsPartly old now room 0 text rest) (part more : List ℕ) (is : rest ≡ part ++ more) where
  -- a part of the rest is written, where nothing stands in the room
  pub part_written : (next : Option (List ℕ)) → Appends now next part → IsPartly old next room 0 text more
  part_written next grown = record {
    done = partly.done ++ part;
    written = Appends-trans old now next partly.done part partly.written grown;
    split = partly.split ∙ ap (λ (l : List ℕ). partly.done ++ l) is ∙ sym (append_assoc partly.done part more);
  }

  -- or a prefix of it
  pub part_stopped : (next : Option (List ℕ)) → part ≢ [] → AppendsPrefix now next part → AppendsPrefix old next text
  part_stopped next some stopped =
      stopped_in old now next partly.done part more text (partly.split ∙ ap (λ (l : List ℕ). partly.done ++ l) is) some partly.written stopped
