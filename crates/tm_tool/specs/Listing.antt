-- The listing of a recording: a line for each record, and one for a rest.
use Rattle.std.specs.Prelude.{◌≡◌, ◌==◌, if◌then◌else◌, ℕ, ◌+◌, ◌<◌, Bool, List, [], ◌∷◌, ◌++◌, length, Option, Result, Ok, Err, IfSome, is_ok}
use Rattle.std.specs.List.{concat, count_by}
use Rattle.std.specs.Io.KnownBytes.{Appends, Consumes, IsAtEnd}
use Rattle.tm_frame.specs.declared.fault.FrameFault.{FrameFault}
use Rattle.tm_frame.specs.declared.layout.LayoutParts.{LayoutParts}
use Rattle.tm_frame.specs.Fault.{frame_reading_of}
use Rattle.tm_frame.specs.Frame.{GoodFrame}
use Rattle.tm_frame.specs.Layout.{most_records, record_length_of}
use Rattle.tm_faults.specs.declared.run.RunFault.{RunFault}
use Rattle.tm_faults.specs.declared.run.RunFault.TheVariants.{Read, Write, Report, ShortRecording, TooMany, NoMemory}
use Rattle.tm_lines.specs.Lines.{bad_line, frame_line, short_line}
use Rattle.tm_output.specs.declared.command.Ending.{Ending}
use Rattle.tm_output.specs.declared.command.Ending.TheVariants.{Close, Keep, StopAfter}
use Rattle.tm_tool.specs.declared.listing.Listed.{Listed}
use Rattle.tm_tool.specs.Courses.{RecordCourse, StopsAtRead, StopsAtTooMany, StopsWriting}
use Rattle.tm_output.specs.Outputs.{AppendsCut, View, line_piece, line_pieces, octets_buffering}
use Rattle.tm_output.specs.Records.{record_count, records, rest_of}

-- the line of a record, by what it reads as
abbrev pub reading_line : ℕ → Result GoodFrame FrameFault → List ℕ
reading_line seen (Ok frame) = frame_line seen frame
reading_line seen (Err fault) = bad_line seen fault

unfoldable pub record_line : LayoutParts → ℕ → List ℕ → List ℕ
record_line layout seen octets = reading_line seen (frame_reading_of layout octets)

-- whether a record is a good frame, of any channel
unfoldable pub is_good_record : LayoutParts → List ℕ → Bool
is_good_record layout octets = is_ok (frame_reading_of layout octets)

-- the lines of records, the first being record `seen`
abbrev pub record_lines : LayoutParts → ℕ → List (List ℕ) → List (List ℕ)
record_lines layout seen [] = []
record_lines layout seen (octets ∷ more) = record_line layout seen octets ∷ record_lines layout (seen + 1) more

-- the line of a rest, none for a rest of no octets
abbrev pub rest_lines : ℕ → ℕ → List (List ℕ)
rest_lines seen octets = if octets == 0 then [] else short_line seen octets ∷ []

-- the lines of records and a rest of this many octets
abbrev pub lines_of : LayoutParts → List (List ℕ) → ℕ → List (List ℕ)
lines_of layout all rest = record_lines layout 0 all ++ rest_lines (length all) rest

-- the lines of a recording
unfoldable pub listing : LayoutParts → List ℕ → List (List ℕ)
listing layout recording =
    lines_of layout (records (record_length_of layout) recording) (length (rest_of (record_length_of layout) recording))

-- ---- what was read and written when a listing ended; of devices that don't tell their octets nothing is said

module _ (layout : LayoutParts) (left_old left_new : Option (List ℕ)) where
  -- all was read, these octets; just their lines were written; and this is the number of their records
  pub record IsListed (out_old out_new : Option (List ℕ)) (count : ℕ) : Type 0 where
    pub read : List ℕ
    pub octets : Consumes left_old left_new read
    pub ended : IsAtEnd left_new
    pub written : Appends out_old out_new (concat (listing layout read))
    pub count_is : count ≡ record_count (record_length_of layout) read

  -- the lines were written, and these are the numbers of the records and of the good frames among them
  pub record IsListing (out_old out_new : Option (List ℕ)) (listed : Listed) : Type 0 where
    pub lines : IsListed out_old out_new listed.records
    pub good_is : listed.good ≡ count_by (is_good_record layout) (records (record_length_of layout) lines.read)

-- the lines of an ending after records: that of the rest where it closes the recording
abbrev pub end_lines : Ending → ℕ → ℕ → List (List ℕ)
end_lines Close seen rest = rest_lines seen rest
end_lines Keep seen rest = []
end_lines (StopAfter n) seen rest = []

-- what a listing writes after the records that are done
abbrev pub listing_course : LayoutParts → ℕ → Ending → RecordCourse ℕ
listing_course layout done ending = record {
  ending = ending;
  size = record_length_of layout;
  done = done;
  pieces = λ rs. line_pieces (record_lines layout done rs);
  next = λ rs one. line_piece (record_line layout (done + length rs) one) ∷ [];
  at_end = λ rs rest. line_pieces (end_lines ending (done + length rs) rest);
}

-- where a fault leaves the devices: without memory for the first record nothing is read, and no line takes memory
abbrev pub IsListingStop : LayoutParts → Option (List ℕ) → Option (List ℕ) → View (Option (List ℕ)) → View (Option (List ℕ)) → RunFault → Type 0
IsListingStop layout left_old left_new old new Read = StopsAtRead Appends octets_buffering (listing_course layout 0 Close) left_old left_new old new
IsListingStop layout left_old left_new old new Write = StopsWriting Appends octets_buffering (listing_course layout 0 Close) left_old left_new old new Write
IsListingStop layout left_old left_new old new Report = ⊥
IsListingStop layout left_old left_new old new ShortRecording = ⊥
IsListingStop layout left_old left_new old new TooMany = StopsAtTooMany Appends octets_buffering (listing_course layout 0 Close) left_old left_new old new
IsListingStop layout left_old left_new old new NoMemory = (left_new ≡ left_old) × (new ≡ old)

-- What a fault says of a recording that tells its octets. There is one place up to which its lines were written; without memory
-- nothing was; and it has more records than can be counted.
pub record ListingStopped (layout : LayoutParts) (old new : View (Option (List ℕ))) (fault : RunFault) (octets : List ℕ) : Type 0 where
  pub cut : AppendsCut Appends old new (line_pieces (listing layout octets))
  pub memory : fault ≡ NoMemory → new ≡ old
  pub too_many : fault ≡ TooMany → most_records < record_count (record_length_of layout) octets

-- ---- what is said of the octets that were read holds for the whole recording

abbrev pub ListsAll : LayoutParts → Type 0
ListsAll layout = (left_old left_new out_old out_new : Option (List ℕ)) (count : ℕ) → 0 < record_length_of layout →
    IsListed layout left_old left_new out_old out_new count →
    IfSome left_old (λ octets. Appends out_old out_new (concat (listing layout octets)) × (count ≡ record_count (record_length_of layout) octets))

abbrev pub ListsToOnePlace : LayoutParts → Type 0
ListsToOnePlace layout = (left_old left_new : Option (List ℕ)) (old new : View (Option (List ℕ))) (fault : RunFault) → 0 < record_length_of layout →
    IsListingStop layout left_old left_new old new fault → IfSome left_old (ListingStopped layout old new fault)
