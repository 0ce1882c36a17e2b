-- What the three words of a `Header` say.
use Rattle.std.specs.Prelude.{◌≡◌, ◌<◌, ◌+◌, ◌*◌, ◌/◌, ◌%◌, ◌==◌}
use Rattle.tm_bits.specs.Bits.{digit}
use Rattle.tm_packet.specs.declared.header.Header.TheInside.{Inside}
use Rattle.tm_packet.specs.Header.{Fields, flags_of, flags_number}

-- the fields that the words say
abbrev pub header_fields : Inside → Fields
header_fields h = record {
  telecommand = h.identification / 4096 == 1;
  secondary = h.identification / 2048 % 2 == 1;
  application = h.identification % 2048;
  flags = flags_of (h.sequence / 16384);
  count = h.sequence % 16384;
  data_length = h.data_length;
}

-- the words of these fields
abbrev pub header_words : Fields → Inside
header_words v = record {
  identification = (digit v.telecommand * 2 + digit v.secondary) * 2048 + v.application;
  sequence = flags_number v.flags * 16384 + v.count;
  data_length = v.data_length;
}

-- words of a header of version 0: its fields give them back
pub record AreWords (h : Inside) : Type 0 where
  pub version : h.identification < 8192
  pub length : h.data_length < 65536
  pub back : header_words (header_fields h) ≡ h
