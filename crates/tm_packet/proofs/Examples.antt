-- Worked examples: what the definitions say of known headers and octets.
use Rattle.std.specs.Prelude.{◌≡◌, refl, ℕ, false, Some, Ok, Err, [], ◌∷◌}
use Rattle.tm_packet.specs.declared.header.Flags.{Flags}
use Rattle.tm_packet.specs.declared.header.Flags.TheVariants as flag
use Rattle.tm_packet.specs.declared.notes.Note.TheVariants.{Gap, Broken, Whole, Stray}
use Rattle.tm_packet.specs.declared.notes.Why.TheVariants as why
use Rattle.tm_packet.specs.declared.tracker.TrackerFault.TheVariants.{Short, Order, Value}
use Rattle.tm_packet.specs.Spelling.{entries_spelling, entries_decoding_of}
use Rattle.tm_bits.specs.Bits.{low_bits, bits_of, number, part}
use Rattle.tm_packet.specs.declared.header.PacketFault.TheVariants as packet_fault
use Rattle.tm_packet.specs.Header.{Fields, header_reading_of, header_bits}
use Rattle.tm_packet.specs.Merge.{Sent, notes, entries_after, no_entries, next_unclosed_of}

abbrev on : ℕ → ℕ → Flags → ℕ → Sent
on channel application flags count =
    record {
      channel = channel;
      header = record { telecommand = false; secondary = false; application = application; flags = flags; count = count; data_length = 0 };
    }

-- ---- headers

hundred : Fields
hundred = record { telecommand = false; secondary = false; application = 100; flags = flag.Unsegmented; count = 0; data_length = 0 }

headers : (header_reading_of (0x00 ∷ 0x64 ∷ 0xC0 ∷ 0x00 ∷ 0x00 ∷ []) ≡ Err packet_fault.Short)
    × (header_reading_of (0xE0 ∷ 0 ∷ 0 ∷ 0 ∷ 0 ∷ 0 ∷ []) ≡ Err packet_fault.Version)
    × (header_reading_of (0x00 ∷ 0x64 ∷ 0xC0 ∷ 0x00 ∷ 0x00 ∷ 0x00 ∷ []) ≡ Ok hundred)
    × (header_bits hundred ≡ bits_of (0x00 ∷ 0x64 ∷ 0xC0 ∷ 0x00 ∷ 0x00 ∷ 0x00 ∷ []))
unfolding hundred part number bits_of low_bits
headers = (refl, refl, refl, refl)

-- ---- sequence counts and groups

group_ended_by_gap : notes no_entries (on 0 100 flag.First 16383 ∷ on 0 100 flag.Continuation 0 ∷ on 0 100 flag.Last 2 ∷ [])
    ≡ [] ∷ [] ∷ (Gap 1 2 1 ∷ Broken 16383 0 why.Gap ∷ Stray 2 flag.Last ∷ []) ∷ []
unfolding no_entries
group_ended_by_gap = refl

groups : notes no_entries (on 0 100 flag.First 5 ∷ on 0 100 flag.Continuation 6 ∷ on 0 100 flag.Last 7 ∷ on 0 100 flag.First 8 ∷ on 0 100 flag.Unsegmented 9 ∷ on 0 100 flag.First 10 ∷ on 0 2047 flag.Unsegmented 0 ∷ [])
    ≡ [] ∷ [] ∷ (Whole 5 7 ∷ []) ∷ [] ∷ (Broken 8 8 why.Unsegmented ∷ []) ∷ [] ∷ [] ∷ []
unfolding no_entries
groups = refl

-- the group that is still open where the packets of `groups` end
open_at_end : next_unclosed_of (entries_after no_entries (on 0 100 flag.First 8 ∷ on 0 100 flag.Unsegmented 9 ∷ on 0 100 flag.First 10 ∷ [])) 0
    ≡ Some (record { key = 100; note = Broken 10 10 why.Close })
unfolding no_entries
open_at_end = refl

-- ---- spelling

-- octets are missing, keys are out of order, and a key is that of idle packets
spelling_faults : (entries_decoding_of (0 ∷ []) ≡ Err Short)
    × (entries_decoding_of (0 ∷ 2 ∷ 0x08 ∷ 0x64 ∷ 0 ∷ 1 ∷ 0xFF ∷ 0xFF ∷ 0 ∷ 0x64 ∷ 0 ∷ 1 ∷ 0xFF ∷ 0xFF ∷ []) ≡ Err Order)
    × (entries_decoding_of (0 ∷ 1 ∷ 0x07 ∷ 0xFF ∷ 0 ∷ 0 ∷ 0xFF ∷ 0xFF ∷ []) ≡ Err Value)
spelling_faults = (refl, refl, refl)

spelling_of_two : entries_spelling (entries_after no_entries (on 1 100 flag.Unsegmented 0 ∷ on 1 100 flag.Unsegmented 1 ∷ [])) ≡ 0 ∷ 1 ∷ 0x08 ∷ 0x64 ∷ 0 ∷ 1 ∷ 0xFF ∷ 0xFF ∷ []
unfolding no_entries
spelling_of_two = refl
