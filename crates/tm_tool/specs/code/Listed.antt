-- What a listing does with records: for private contracts.
use Rattle.std.specs.Prelude.{◌≡◌, ◌⊎◌, ℕ, List, [], ◌∷◌, ◌+◌, length, Option, Result, Err}
use Rattle.std.specs.Io.KnownBytes.{Appends}
use Rattle.std.specs.List.{count_by}
use Rattle.tm_frame.specs.declared.layout.LayoutParts.{LayoutParts}
use Rattle.tm_devices.specs.declared.device.BufferedSource as source
use Rattle.tm_devices.specs.declared.device.Drain as drain
use Rattle.tm_faults.specs.declared.run.RunFault.{RunFault}
use Rattle.tm_faults.specs.declared.run.RunFault.TheVariants.{NoMemory}
use Rattle.tm_output.specs.declared.command.Ending.TheVariants.{Close}
use Rattle.tm_tool.specs.declared.listing.Listed.{Listed}
use Rattle.tm_tool.specs.declared.listing.Listing.{Listing}
use Rattle.tm_tool.specs.Courses.{Devices, HasEnded, devices_at}
use Rattle.tm_tool.specs.Listing.{is_good_record, listing_course, record_line, record_lines}
use Rattle.tm_output.specs.Outputs.{FixedDrain, Took, View, line_piece, line_pieces, octets_buffering}
use Rattle.tm_output.specs.Seen.{out_alone}
use Rattle.tm_tool.specs.code.RecordLoop.{Refusing, StepStopped, Taking}

-- what is known of a listing: its numbers, and where it writes
pub record ListingState : Type 0 where
  pub listed : Listed
  pub view : View (Option (List ℕ))

-- the numbers after more records
abbrev pub listed_behind : LayoutParts → Listed → List (List ℕ) → Listed
listed_behind layout listed rs = record { records = listed.records + length rs; good = listed.good + count_by (is_good_record layout) rs }

-- it lists records: their lines are written
abbrev pub ListsRecords : LayoutParts → Taking ListingState
ListsRecords layout old rs new =
    (new.listed ≡ listed_behind layout old.listed rs) × Took Appends old.view new.view (line_pieces (record_lines layout old.listed.records rs))

-- and it refuses one
abbrev pub RefusesLine : LayoutParts → Refusing ListingState
RefusesLine layout old one new fault =
    StepStopped Appends octets_buffering old.listed.records old.view new.view (line_piece (record_line layout old.listed.records one) ∷ []) fault

-- what no call of a listing changes
pub record ListingNames : Type 0 where
  pub layout : LayoutParts
  pub drain : FixedDrain

abbrev pub listing_names : {W : Type 0} → drain.Ghosts W → Listing W → ListingNames
listing_names w listing = record { layout = listing.layout; drain = record { name = listing.out.ghost_name; number = w.fixed listing.out.now } }

-- what is known of its devices
abbrev pub drain_devices : {R W : Type 0} → source.Ghosts R → drain.Ghosts W → R → W → Devices (Option (List ℕ))
drain_devices r w recording out = devices_at (r.left recording) (r.failures recording) (out_alone w out)

-- these are the numbers of all records, and of the good frames among those that were listed
abbrev pub counts_good : LayoutParts → Listed → ℕ → List (List ℕ) → ℕ → Type 0
counts_good layout listed count rs rest = (listed.records ≡ count) × (listed.good ≡ count_by (is_good_record layout) rs)

-- how a listing of all records ended: without memory for a record nothing was done
abbrev pub Lists : LayoutParts → Devices (Option (List ℕ)) → Devices (Option (List ℕ)) → Result Listed RunFault → Type 0
Lists layout old new r =
    HasEnded Appends octets_buffering (listing_course layout 0 Close) old new (counts_good layout) r ⊎ ((r ≡ Err NoMemory) × (new ≡ old))
