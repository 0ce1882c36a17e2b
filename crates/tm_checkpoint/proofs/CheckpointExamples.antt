-- Worked examples: the checkpoint of a known job in each version, and octets that are refused.
use Rattle.std.proofs.Common.{◌≡◌, ℕ, false, Some, None, Ok, Err, List, [], ◌∷◌, ◌++◌, refl, take, drop}
use Rattle.std.specs.Prelude.{replicate, slice_set}
use Rattle.tm_bits.specs.Bits.{bits_of, low_bits, number, part}
use Rattle.tm_frame.specs.declared.layout.Presence.TheVariants.{Flag}
use Rattle.tm_frame.specs.ErrorControl.{error_control_of, long_division, subtract}
use Rattle.tm_packet.specs.Merge.{no_entries}
use Rattle.tm_packet.specs.Spelling.{state_of}
use Rattle.tm_frame.specs.Channels.{all_channels}
use Rattle.tm_reassembly.specs.Checkpoint.{block_read, blocks_read, state_decoding_of, master_read, old_decoding_of}
use Rattle.tm_frame.specs.Rules.{Rules}
use Rattle.tm_faults.specs.declared.run.CheckpointFault.TheVariants as fault
use Rattle.tm_checkpoint.specs.declared.version.Version.TheVariants.{One, Two}
use Rattle.tm_checkpoint.specs.Checkpoints.{checkpoint_of, version_in, resumed, spelled_in, with_check, work_without_master}
use Rattle.tm_checkpoint.specs.Works.{Work}

-- frames of so many octets of spacecraft 42, all channels, and packets of at most so many octets
abbrev rules : ℕ → ℕ → Rules
rules n limit = record {
  layout = record { frame_length = n; skip_before = 0; skip_after = 0; spacecraft = 42; secondary = Flag; ocf = Flag; error_control = false };
  channels = all_channels;
  max_packet = limit;
}

-- the first eighteen octets of a packet of 26
abbrev begun : List ℕ
begun = 0x00 ∷ 0x64 ∷ 0xC0 ∷ 0x00 ∷ 0x00 ∷ 0x13 ∷ replicate 12 0x55

-- Three records are done, the last of master channel count 2. Channel 0 holds these octets. Channel 1 had a frame of count 1 and
-- a packet of application 100 with count 1.
abbrev after_three : Work
after_three = record {
  rules = rules 24 65542;
  state = record {
    records = 3;
    master = Some 2;
    channels =
        Some (record { count = 0; tail = Some (record { first = 0; place = 0; octets = begun }) })
        ∷ Some (record { count = 1; tail = None }) ∷ replicate 6 None;
  };
  entries = slice_set no_entries 2148 (Some (record { count = 1; first = None }));
}

-- The parts of its checkpoint: the letters, a version and twelve octets of the settings; the limit on packets; the records; the
-- last master channel count. Then come the channels, the first with this flag, and the sequence counts.
abbrev start : ℕ → List ℕ
start version = 0x54 ∷ 0x4D ∷ 0x58 ∷ 0x43 ∷ version ∷ 0x00 ∷ 0x2A ∷ 0x00 ∷ 0x18 ∷ 0x00 ∷ 0x00 ∷ 0x00 ∷ 0x00 ∷ 0x00 ∷ 0x00 ∷ 0x00 ∷ 0xFF ∷ []

abbrev limit : List ℕ
limit = 0x01 ∷ 0x00 ∷ 0x06 ∷ []

abbrev records : List ℕ
records = 0x00 ∷ 0x00 ∷ 0x00 ∷ 0x03 ∷ []

abbrev master : List ℕ
master = 0x01 ∷ 0x02 ∷ []

abbrev counts : ℕ → List ℕ
counts flag =
    flag ∷ 0x00 ∷ 0x00 ∷ 0x00 ∷ 0x00 ∷ 0x00 ∷ 0x00 ∷ 0x00 ∷ 0x00 ∷ 0x00 ∷ 0x00 ∷ 0x12 ∷ (begun
    ++ 0x01 ∷ 0x01 ∷ 0x00 ∷ 0x00 ∷ 0x00 ∷ 0x00 ∷ 0x00 ∷ 0x00 ∷ 0x00 ∷ 0x01 ∷ 0x08 ∷ 0x64 ∷ 0x00 ∷ 0x01 ∷ 0xFF ∷ 0xFF ∷ [])

-- its 67, 70 and 72 octets before the check, in each version
abbrev first : List ℕ
first = start 1 ++ (records ++ counts 2)

abbrev second : List ℕ
second = start 2 ++ (limit ++ (records ++ counts 2))

abbrev third : List ℕ
third = start 3 ++ (limit ++ (records ++ (master ++ counts 2)))

-- ---- written

written : (checkpoint_of after_three ≡ third ++ 0x07 ∷ 0x4F ∷ [])
    × (spelled_in Two after_three ≡ second ++ 0x74 ∷ 0xE5 ∷ [])
    × (spelled_in One after_three ≡ first ++ 0x7D ∷ 0xE1 ∷ [])
unfolding spelled_in no_entries error_control_of long_division subtract bits_of low_bits number
written = (refl, refl, refl)

-- ---- read

read : resumed (rules 24 65542) (third ++ 0x07 ∷ 0x4F ∷ []) ≡ Ok (record { work = after_three; fresh = false })
unfolding resumed version_in no_entries state_of block_read blocks_read master_read state_decoding_of error_control_of long_division subtract bits_of low_bits number part
read = refl

-- an older version has no last master channel count
older_read : (resumed (rules 24 65542) (second ++ 0x74 ∷ 0xE5 ∷ []) ≡ Ok (record { work = work_without_master after_three; fresh = false }))
    × (resumed (rules 24 65542) (first ++ 0x7D ∷ 0xE1 ∷ []) ≡ Ok (record { work = work_without_master after_three; fresh = false }))
unfolding resumed version_in no_entries state_of block_read blocks_read old_decoding_of error_control_of long_division subtract bits_of low_bits number part
older_read = (refl, refl)

-- ---- refused

-- one octet too few for any checkpoint, and for one of version 2 and of version 3
short : (resumed (rules 24 65542) (take 32 third) ≡ Err fault.Short)
    × (resumed (rules 24 65542) (take 35 second) ≡ Err fault.Short)
    × (resumed (rules 24 65542) (take 36 third) ≡ Err fault.Short)
unfolding resumed version_in
short = (refl, refl, refl)

-- other letters, and a version that there is not
front : (resumed (rules 24 65542) (0x55 ∷ drop 1 third ++ 0x07 ∷ 0x4F ∷ []) ≡ Err fault.Magic)
    × (resumed (rules 24 65542) (start 7 ++ (drop 17 third ++ 0x07 ∷ 0x4F ∷ [])) ≡ Err fault.Version)
unfolding resumed version_in
front = (refl, refl)

-- a version that is another, and another last octet
check : (resumed (rules 24 65542) (start 1 ++ (drop 17 third ++ 0x07 ∷ 0x4F ∷ [])) ≡ Err fault.Check)
    × (resumed (rules 24 65542) (start 2 ++ (drop 17 third ++ 0x07 ∷ 0x4F ∷ [])) ≡ Err fault.Check)
    × (resumed (rules 24 65542) (third ++ 0x07 ∷ 0x4E ∷ []) ≡ Err fault.Check)
unfolding resumed version_in error_control_of long_division subtract bits_of low_bits number
check = (refl, refl, refl)

-- other settings: another frame length, and another limit on packets, which version 1 does not tell
settings : (resumed (rules 25 65542) (third ++ 0x07 ∷ 0x4F ∷ []) ≡ Err fault.Settings)
    × (resumed (rules 24 12) (third ++ 0x07 ∷ 0x4F ∷ []) ≡ Err fault.Settings)
    × (resumed (rules 24 12) (first ++ 0x7D ∷ 0xE1 ∷ []) ≡ Err fault.Settings)
unfolding resumed version_in error_control_of long_division subtract bits_of low_bits number
settings = (refl, refl, refl)

-- a flag of channel 0 that there is not, before a right check
flag : resumed (rules 24 65542) (with_check (start 3 ++ (limit ++ (records ++ (master ++ counts 3))))) ≡ Err fault.State
unfolding resumed version_in block_read blocks_read master_read state_decoding_of error_control_of long_division subtract bits_of low_bits number
flag = refl

-- an octet before a right check
trailing : resumed (rules 24 65542) (with_check (third ++ 0x00 ∷ [])) ≡ Err fault.Trailing
unfolding resumed version_in no_entries state_of block_read blocks_read master_read state_decoding_of error_control_of long_division subtract bits_of low_bits number part
trailing = refl
