-- The parts of a frame's headers, each a slice of the frame's bits (CCSDS 132.0-B-3, 4.1.2 and 4.1.3).
use Rattle.std.specs.Prelude.{ℕ, ◌+◌, Bool, if◌then◌else◌, List}
use Rattle.tm_bits.specs.Bits.{part, flag}

-- the transfer frame version number (4.1.2.2)
abbrev pub frame_version_of : List ℕ → ℕ
frame_version_of frame = part frame 0 2

-- the spacecraft identifier (4.1.2.2)
abbrev pub spacecraft_of : List ℕ → ℕ
spacecraft_of frame = part frame 2 12

-- the virtual channel identifier (4.1.2.3)
abbrev pub channel_of : List ℕ → ℕ
channel_of frame = part frame 12 15

-- the operational control field flag (4.1.2.4)
abbrev pub ocf_flag : List ℕ → Bool
ocf_flag frame = flag frame 15

-- the master channel frame count (4.1.2.5)
abbrev pub master_count_of : List ℕ → ℕ
master_count_of frame = part frame 16 24

-- the virtual channel frame count (4.1.2.6)
abbrev pub channel_count_of : List ℕ → ℕ
channel_count_of frame = part frame 24 32

-- the transfer frame data field status (4.1.2.7): the secondary header flag, ..
abbrev pub secondary_flag : List ℕ → Bool
secondary_flag frame = flag frame 32

-- .. the synchronization flag, ..
abbrev pub synchronization_flag : List ℕ → Bool
synchronization_flag frame = flag frame 33

-- .. the packet order flag, ..
abbrev pub order_flag_of : List ℕ → Bool
order_flag_of frame = flag frame 34

-- .. the segment length identifier, ..
abbrev pub segment_of : List ℕ → ℕ
segment_of frame = part frame 35 37

-- .. and the first header pointer
abbrev pub pointer_of : List ℕ → ℕ
pointer_of frame = part frame 37 48

-- the version of the secondary header, in the octet after the primary header (4.1.3)
abbrev pub secondary_version_of : List ℕ → ℕ
secondary_version_of frame = part frame 48 50

-- the total length of the secondary header: its field says the length less one; 0 where there is none
abbrev pub secondary_length_of : List ℕ → ℕ
secondary_length_of frame = if secondary_flag frame then part frame 50 56 + 1 else 0
