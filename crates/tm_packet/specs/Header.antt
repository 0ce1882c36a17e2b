-- The header of a space packet, each part a slice of its 48 bits (CCSDS 133.0-B-2, section 4.1.3).
use Rattle.std.specs.Prelude.{ℕ, zero, suc, Bool, ◌==◌, ◌<◌, ◌||◌, if◌then◌else◌, nat_lt, List, ◌∷◌, ◌++◌, length, Option, Some, None, Result, Ok, Err}
use Rattle.tm_bits.specs.Bits.{low_bits, part, flag}
use Rattle.tm_packet.specs.declared.header.Flags.{Flags}
use Rattle.tm_packet.specs.declared.header.Flags.TheVariants.{Continuation, First, Last, Unsegmented}
use Rattle.tm_packet.specs.declared.header.PacketFault.{PacketFault}
use Rattle.tm_packet.specs.declared.header.PacketFault.TheVariants.{Short, Version}

-- what a header says, its version, which is 0, left out
pub record Fields : Type 0 where
  pub telecommand : Bool
  pub secondary : Bool
  pub application : ℕ
  pub flags : Flags
  pub count : ℕ
  pub data_length : ℕ

-- the numbers fit their bits
pub record AreInRange (h : Fields) : Type 0 where
  pub application : h.application < 2048
  pub count : h.count < 16384
  pub data_length : h.data_length < 65536

-- the sequence flags, as their two bits
abbrev pub flags_of : ℕ → Flags
flags_of zero = Continuation
flags_of (suc zero) = First
flags_of (suc (suc zero)) = Last
flags_of (suc (suc (suc n))) = Unsegmented

-- the two bits of the flags, as a number
abbrev pub flags_number : Flags → ℕ
flags_number Continuation = 0
flags_number First = 1
flags_number Last = 2
flags_number Unsegmented = 3

-- the packet version number, the first three bits
abbrev pub packet_version_of : List ℕ → ℕ
packet_version_of octets = part octets 0 3

-- the header in the first six octets
abbrev pub packet_header_of : List ℕ → Fields
packet_header_of octets = record {
  telecommand = flag octets 3;
  secondary = flag octets 4;
  application = part octets 5 16;
  flags = flags_of (part octets 16 18);
  count = part octets 18 32;
  data_length = part octets 32 48;
}

-- the 48 bits of a header
abbrev pub header_bits : Fields → List Bool
header_bits h =
    low_bits 3 0 ++ h.telecommand ∷ h.secondary ∷ low_bits 11 h.application ++ low_bits 2 (flags_number h.flags) ++ low_bits 14 h.count ++ low_bits 16 h.data_length

-- reading a header: what is wrong first, or the header
abbrev pub header_reading_of : List ℕ → Result Fields PacketFault
header_reading_of octets =
    if nat_lt (length octets) 6 then Err Short else if packet_version_of octets == 0 then Ok (packet_header_of octets) else Err Version

-- a header of these parts, if they are in range
abbrev pub made_of : Fields → Option Fields
made_of h = if nat_lt 2047 h.application || nat_lt 16383 h.count then None else Some h
