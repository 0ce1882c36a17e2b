-- The two parts in which the line of a packet is made.
use Rattle.std.specs.Prelude.{ℕ, List, [], ◌∷◌, codes}
use Rattle.std.specs.Fmt.{decimal}
use Rattle.std.specs.List.{concat}
use Rattle.tm_packet.specs.Header.{Fields}
use Rattle.tm_lines.specs.Lines.{flags_word, type_word, yes_or_no}

-- the line of a packet, before the place
unfoldable pub packet_beginning : (seen channel first : ℕ) → List ℕ
packet_beginning seen channel first =
    concat (codes "packet record=" ∷ decimal seen
    ∷ codes " channel=" ∷ decimal channel
    ∷ codes " from=" ∷ decimal first
    ∷ codes " at=" ∷ [])

-- the line of a packet, from the place on
unfoldable pub packet_end : (place : ℕ) → Fields → ℕ → List ℕ
packet_end place h octets =
    concat (decimal place
    ∷ codes " type=" ∷ type_word h.telecommand
    ∷ codes " secondary=" ∷ yes_or_no h.secondary
    ∷ codes " apid=" ∷ decimal h.application
    ∷ codes " flags=" ∷ flags_word h.flags
    ∷ codes " count=" ∷ decimal h.count
    ∷ codes " octets=" ∷ decimal octets
    ∷ codes "\n" ∷ [])
