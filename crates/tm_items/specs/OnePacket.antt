-- Octets that are one whole packet.
use Rattle.std.specs.Prelude.{◌≡◌, ℕ, ◌+◌, ◌==◌, nat_lt, Bool, true, List, length, take, if◌then◌else◌}
use Rattle.tm_packet.specs.Header.{packet_version_of, packet_header_of}

-- whether octets begin with version 0, the first three bits of a packet header (CCSDS 133.0-B-2, 4.1.3.2)
abbrev pub is_packet : List ℕ → Bool
is_packet octets = packet_version_of (take 1 octets) == 0

-- how many octets the first packet of a text has, by its header (4.1.3.5.3); 7, the fewest, where the text has fewer than six
-- octets
abbrev pub packet_length : List ℕ → ℕ
packet_length t = if nat_lt (length t) 6 then 7 else (packet_header_of (take 6 t)).data_length + 7

-- octets are one whole packet of version 0
pub record IsOnePacket (octets : List ℕ) : Type 0 where
  pub version : is_packet octets ≡ true
  pub whole : length octets ≡ packet_length octets
