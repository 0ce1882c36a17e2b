-- How the work of a job is written in octets, and which job octets say. Numbers have the most significant octet first.
use Rattle.std.specs.Prelude.{◌≡◌, ℕ, ◌+◌, ◌-◌, ◌/◌, ◌%◌, Bool, true, false, not, ◌==◌, ◌&&◌, nat_lt, if◌then◌else◌, List, [], ◌∷◌, ◌++◌, length, take, drop, slice_index, slice_range, Option, Some, None, Result, Ok, Err, IsOk}
use Rattle.std.specs.Str.{bytes_eq}
use Rattle.tm_frame.specs.declared.layout.Presence.{Presence}
use Rattle.tm_frame.specs.declared.layout.Presence.TheVariants.{Flag, Always, Never}
use Rattle.tm_frame.specs.ErrorControl.{error_control_of}
use Rattle.tm_packet.specs.declared.tracker.TrackerFault.{TrackerFault}
use Rattle.tm_packet.specs.Spelling as sequence
use Rattle.tm_reassembly.specs.declared.fault.StateFault.{StateFault}
use Rattle.tm_frame.specs.Channels.{mask_of}
use Rattle.tm_reassembly.specs.Checkpoint as reassembly
use Rattle.tm_bits.specs.Bits.{two_octets, two_at}
use Rattle.tm_reassembly.specs.OlderForms as forgotten
use Rattle.tm_frame.specs.Rules.{Rules}
use Rattle.tm_reassembly.specs.State.{State}
use Rattle.tm_faults.specs.declared.run.CheckpointFault.{CheckpointFault}
use Rattle.tm_faults.specs.declared.run.CheckpointFault.TheVariants as fault
use Rattle.tm_checkpoint.specs.declared.version.VersionForm.{VersionForm}
use Rattle.tm_checkpoint.specs.declared.version.Version.{Version}
use Rattle.tm_checkpoint.specs.declared.version.Version.TheVariants.{One, Two, Three}
use Rattle.tm_checkpoint.specs.Works.{JobState, Work}
use Rattle.tm_packet.specs.Merge.{Entries}

-- ---- versions

-- What each version has: its own octet, how many octets its settings have, the fewest octets of a checkpoint, and whether its
-- state has the last master channel count.
abbrev pub form_of : Version → VersionForm
form_of One = record { octet = 1; settings = 12; least = 33; with_master = false }
form_of Two = record { octet = 2; settings = 15; least = 36; with_master = false }
form_of Three = record { octet = 3; settings = 15; least = 37; with_master = true }

-- the version that an octet names
abbrev pub version_named : ℕ → Option Version
version_named octet = if octet == 1 then Some One else if octet == 2 then Some Two else if octet == 3 then Some Three else None

-- The settings can be told in a version: in version 1, which has no limit on packets, only with the greatest.
abbrev pub tells : Version → Rules → Bool
tells One s = s.max_packet == 65542
tells Two s = true
tells Three s = true

-- a work, the last master channel count of its state being forgotten
abbrev pub work_without_master : Work → Work
work_without_master w = record { rules = w.rules; state = forgotten.without_master w.state; entries = w.entries }

-- what a version keeps of a state, and of a work: all, or all but the last master channel count
abbrev pub kept_state : Version → State → State
kept_state v s = if (form_of v).with_master then s else forgotten.without_master s

abbrev pub kept_in : Version → Work → Work
kept_in v w = record { rules = w.rules; state = kept_state v w.state; entries = w.entries }

-- ---- writing

-- the letters TMXC
abbrev pub magic : List ℕ
magic = 0x54 ∷ 0x4D ∷ 0x58 ∷ 0x43 ∷ []

abbrev pub presence_octet : Presence → ℕ
presence_octet Flag = 0
presence_octet Always = 1
presence_octet Never = 2

-- a number in three octets
abbrev pub three_octets : ℕ → List ℕ
three_octets n = n / 65536 ∷ two_octets (n % 65536)

-- the settings in fifteen octets
abbrev pub settings_octets : Rules → List ℕ
settings_octets s =
    two_octets s.layout.spacecraft ++ two_octets s.layout.frame_length ++ two_octets s.layout.skip_before ++ two_octets s.layout.skip_after
    ++ presence_octet s.layout.secondary ∷ presence_octet s.layout.ocf ∷ (if s.layout.error_control then 1 else 0) ∷ mask_of s.channels
    ∷ three_octets s.max_packet

-- those that a version has of them, the first
abbrev pub settings_in : Version → Rules → List ℕ
settings_in v s = take (form_of v).settings (settings_octets s)

-- the octets before the state
abbrev pub head_octets : Version → Rules → List ℕ
head_octets v s = magic ++ (form_of v).octet ∷ settings_in v s

-- the state
abbrev pub state_octets : Version → State → List ℕ
state_octets v s = if (form_of v).with_master then reassembly.state_spelling s else reassembly.old_spelling s

-- octets, and after them their error control
abbrev pub with_check : List ℕ → List ℕ
with_check octets = octets ++ two_octets (error_control_of octets)

-- a work as it stands in a checkpoint of a version
unfoldable pub spelled_in : Version → Work → List ℕ
spelled_in v w = with_check (head_octets v w.rules ++ state_octets v w.state ++ sequence.entries_spelling w.entries)

-- the checkpoint of a work: version 3 is written
abbrev pub checkpoint_of : Work → List ℕ
checkpoint_of w = spelled_in Three w

-- ---- reading

-- the last two octets are the error control of those before
abbrev pub check_holds : List ℕ → Bool
check_holds octets = two_at octets (length octets - 2) == error_control_of (take (length octets - 2) octets)

-- the settings are those that the octets of a checkpoint of a version tell
abbrev pub says_settings : Version → Rules → List ℕ → Bool
says_settings v s octets = tells v s && bytes_eq (slice_range octets 5 (5 + (form_of v).settings)) (settings_in v s)

-- the version, where nothing is wrong with the octets around the state and the entries; else what is wrong first after the fifth octet
abbrev pub version_of_form : Rules → List ℕ → Option Version → Result Version CheckpointFault
version_of_form s octets None = Err fault.Version
version_of_form s octets (Some v) =
    if nat_lt (length octets) (form_of v).least then Err fault.Short
    else if not (check_holds octets) then Err fault.Check
    else if not (says_settings v s octets) then Err fault.Settings
    else Ok v

-- what is wrong first with the octets around the state and the entries, or the version
unfoldable pub version_in : Rules → List ℕ → Result Version CheckpointFault
version_in s octets =
    if nat_lt (length octets) 33 then Err fault.Short
    else if not (bytes_eq (take 4 octets) magic) then Err fault.Magic
    else version_of_form s octets (version_named (slice_index octets 4))

-- the octets between the settings and the check
abbrev pub inner : Version → List ℕ → List ℕ
inner v octets = slice_range octets (5 + (form_of v).settings) (length octets - 2)

-- a job that was written: it is not fresh
abbrev pub job_of : Rules → State → Entries → JobState
job_of s state entries = record { work = record { rules = s; state = state; entries = entries }; fresh = false }

-- with the entries that are read of some octets, where none of these are left over
abbrev pub with_entries : Rules → State → ℕ → Result sequence.DecodedEntries TrackerFault → Result JobState CheckpointFault
with_entries s state octets (Ok read) = if nat_lt read.octets octets then Err fault.Trailing else Ok (job_of s state read.entries)
with_entries s state octets (Err found) = Err fault.State

-- with the state that is read of the octets, and the entries that are read after it
abbrev pub with_state : Rules → List ℕ → Result reassembly.DecodedState StateFault → Result JobState CheckpointFault
with_state s octets (Ok read) =
    with_entries s read.state (length (drop read.octets octets)) (sequence.entries_decoding_of (drop read.octets octets))
with_state s octets (Err found) = Err fault.State

-- the state at the front of octets, in the form of a version
abbrev pub state_in : Version → Rules → List ℕ → Result reassembly.DecodedState StateFault
state_in v s octets = if (form_of v).with_master then reassembly.state_decoding_of s octets else reassembly.old_decoding_of s octets

-- the job in the octets of a checkpoint of a version
abbrev pub resumed_as : Rules → List ℕ → Result Version CheckpointFault → Result JobState CheckpointFault
resumed_as s octets (Ok v) = with_state s (inner v octets) (state_in v s (inner v octets))
resumed_as s octets (Err found) = Err found

-- the job that octets say under these settings, or what is wrong first
unfoldable pub resumed : Rules → List ℕ → Result JobState CheckpointFault
resumed s octets = resumed_as s octets (version_in s octets)

-- Memory is first asked for where nothing is wrong around the state, and the state can be read.
pub record AsksMemory (s : Rules) (octets : List ℕ) : Type 0 where
  pub version : Version
  pub around : version_in s octets ≡ Ok version
  pub state : IsOk (state_in version s (inner version octets))
