-- Calls that follow one another give what one run gives.
use Rattle.std.proofs.Common.{◌≡◌, ◌<◌, ◌^◌, ◌+◌, ℕ, Bool, true, false, List, [], ◌∷◌, ◌++◌, length, length-append, refl, sym, ap, ◌∙◌, Ok, append_assoc, append-nil, arith}
use Rattle.std.proofs.Math.Nat.{zero-add, zero-mul}
use Rattle.std.proofs.lemmas.List.{map-append}
use Rattle.std.specs.List.{concat}
use Rattle.tm_frame.specs.Layout.{record_length_of}
use Rattle.tm_frame.specs.Rules.{IsLimit, Rules}
use Rattle.tm_reassembly.specs.Valid.{AllOctets}
use Rattle.tm_checkpoint.specs.Works.{IsWork, JobState, new_job}
use Rattle.tm_checkpoint.specs.Checkpoints.{spelled_in}
use Rattle.tm_checkpoint.proofs.CheckpointLemmas.{read_again}
use Rattle.tm_output.specs.declared.command.Command.{Command}
use Rattle.tm_output.specs.declared.command.Command.TheVariants.{Extract}
use Rattle.tm_tool.specs.Listing.{listing}
use Rattle.tm_output.specs.Outputs.{line_piece, line_pieces}
use Rattle.tm_output.specs.Pieces.{text_of}
use Rattle.tm_output.specs.Records.{records, rest_of}
use Rattle.tm_tool.proofs.ListingLemmas.{record_lines-append}
use Rattle.tm_output.proofs.RecordLemmas.{records_front, records_sized, records_whole, rest_front}
use Rattle.tm_tool.specs.HeadPieces.{head_pieces}
use Rattle.tm_tool.specs.Resuming.{run_pieces}
use Rattle.tm_tool.specs.Runs.{IsSoundWork}
use Rattle.tm_tool.proofs.Running.{records-append, records-counted, worked-append}
use Rattle.tm_tool.proofs.WorkValid.{begun-work, worked-work}
use Rattle.tm_library.specs.Calls.{left_behind, pieces_of_calls}
use Rattle.tm_library.specs.declared.request.Wanted.{Wanted}
use Rattle.tm_library.specs.declared.request.Wanted.TheVariants as wants
use Rattle.tm_library.specs.Chunks.{checkpoint_behind, chunk_pieces, chunk_ending, frame_lines, given_pieces, job_behind, job_in, size_of}
use Rattle.tm_library.proofs.ChunkLemmas.{pieces_are}

-- a job that was kept has no head
no_head : (command : Command) → head_pieces command false ≡ []
no_head Extract = refl
no_head _ = refl

-- what is left is the rest after the whole records
rest_left : (job : JobState) (octets : List ℕ) → left_behind job octets ≡ rest_of (size_of job.work) octets
unfolding rest_of
rest_left job octets = refl

-- octets of records in front, and after them
octets_cut : (ones others : List (List ℕ)) → AllOctets (ones ++ others) → AllOctets ones × AllOctets others
octets_cut [] others h = (tt, h)
octets_cut (one ∷ ones) others h = let (front, behind) = octets_cut ones others h.1 in ((h.0, front), behind)

-- ---- two calls

module _ (job : JobState) (first second : List ℕ) (sound : IsSoundWork job.work) where
  abbrev size : ℕ
  size = size_of job.work

  abbrev ones : List (List ℕ)
  ones = records size first

  abbrev rest : List ℕ
  rest = rest_of size first ++ second

  abbrev others : List (List ℕ)
  others = records size rest

  all : concat ones ++ rest ≡ first ++ second
  all = sym (append_assoc (concat ones) (rest_of size first) second) ∙ ap (λ (l : List ℕ). l ++ second) (records_whole size sound.1 first)

  its_records : records size (first ++ second) ≡ ones ++ others
  its_records = ap (records size) (sym all) ∙ records_front size sound.1 ones rest (records_sized size sound.1 first)

  its_rest : rest_of size (first ++ second) ≡ rest_of size rest
  its_rest = ap (rest_of size) (sym all) ∙ rest_front size sound.1 ones rest (records_sized size sound.1 first)

  two : (command : Command) (last : Bool) → chunk_pieces command false job first ++ chunk_pieces command last (job_behind job first) rest
      ≡ chunk_pieces command last job (first ++ second)
  two command last =
      let pieces = records-append job.work sound.0 (text_of command) ones others in
      rw (its_records, its_rest, pieces, worked-append job.work sound.0 ones others, no_head command) (simp (append-nil, append_assoc))

  two_lists : (last : Bool) → frame_lines false job first ++ frame_lines last (job_behind job first) rest ≡ frame_lines last job (first ++ second)
  two_lists last =
      let n : ℕ = job.work.state.records in
      let place : n + length (ones ++ others) ≡ n + length ones + length others = omega (arith, length-append ones others) in
      rw (its_records, its_rest, place, records-counted job.work ones, record_lines-append job.work.rules.layout n ones others)
      (simp (append-nil, append_assoc))

  two_given : (wanted : Wanted) (last : Bool) → given_pieces wanted false job first ++ given_pieces wanted last (job_behind job first) rest
      ≡ given_pieces wanted last job (first ++ second)
  two_given (wants.Packets command) last = two command last
  two_given wants.Frames last =
      sym (map-append line_piece (frame_lines false job first) (frame_lines last (job_behind job first) rest)) ∙ ap line_pieces (two_lists last)

-- ---- any number

-- a checkpoint says the job that was kept
again : (job : JobState) (octets : List ℕ) → IsWork (job_behind job octets).work → job_in job.work.rules (checkpoint_behind false job octets) ≡ Ok (job_behind job octets)
unfolding spelled_in
again job octets valid = read_again (job_behind job octets).work valid

module _ (wanted : Wanted) (last : Bool) (rules : Rules) where
  joined : (chunks : List (List ℕ)) (job : JobState) (checkpoint octets : List ℕ) → job_in rules checkpoint ≡ Ok job → job.work.rules ≡ rules → IsWork job.work
      → 0 < size_of job.work → AllOctets (records (size_of job.work) (octets ++ concat chunks))
      → job.work.state.records + length (records (size_of job.work) (octets ++ concat chunks)) < 2 ^ 32
      → pieces_of_calls wanted last rules checkpoint octets chunks ≡ given_pieces wanted last job (octets ++ concat chunks)
  joined [] job checkpoint octets begins own valid some are few = rw (begins, append-nil octets) refl
  joined (chunk ∷ chunks) job checkpoint octets begins own valid some are few =
      let second : List ℕ = chunk ++ concat chunks in
      let ones : List (List ℕ) = records (size_of job.work) octets in
      let left : List ℕ = rest_of (size_of job.work) octets in
      let others : List (List ℕ) = records (size_of job.work) (left ++ second) in
      let cut : records (size_of job.work) (octets ++ second) ≡ ones ++ others = its_records job octets second (valid.state, some) in
      let next : JobState = job_behind job octets in
      let (front, behind) = octets_cut ones others (rw cut at are) in
      let most : job.work.state.records + length (ones ++ others) < 2 ^ 32 = rw cut at few in
      let works : IsWork next.work = worked-work job.work ones valid front (omega (arith, most, length-append ones others)) in
      let written : job_in rules (checkpoint_behind false job octets) ≡ Ok next = rw (← own) (again job octets works) in
      let seam : (left ++ chunk) ++ concat chunks ≡ left ++ second = append_assoc left chunk (concat chunks) in
      let fewer : next.work.state.records + length others < 2 ^ 32 = omega (arith, most, length-append ones others, records-counted job.work ones) in
      let rest = joined chunks next (checkpoint_behind false job octets) (left ++ chunk) written own works some (rw seam behind) (rw seam fewer) in
      rw (begins, rest_left job octets, rest, seam) (two_given job octets second (valid.state, some) wanted last)

-- from a new job
module _ (rules : Rules) (first : List ℕ) (chunks : List (List ℕ)) (eight : length rules.channels ≡ 8) (limit : IsLimit rules.max_packet)
    (some : 0 < record_length_of rules.layout) (are : AllOctets (records (record_length_of rules.layout) (first ++ concat chunks)))
    (few : length (records (record_length_of rules.layout) (first ++ concat chunks)) < 2 ^ 32) where
  from_new : (wanted : Wanted) (last : Bool)
      → pieces_of_calls wanted last rules [] first chunks ≡ given_pieces wanted last (new_job rules) (first ++ concat chunks)
  from_new wanted last =
      joined wanted last rules chunks (new_job rules) [] first refl refl (begun-work rules eight limit) some are (omega (arith, few))

  pub in_one_run : (command : Command) (last : Bool) → pieces_of_calls (wants.Packets command) last rules [] first chunks
      ≡ run_pieces (head_pieces command) (text_of command) (chunk_ending last) (new_job rules) (first ++ concat chunks)
  in_one_run command last =
      from_new (wants.Packets command) last
      ∙ sym (pieces_are command last (new_job rules) (first ++ concat chunks) 0 (sym (zero-mul (record_length_of rules.layout))) some)

  listing_is : (octets : List ℕ) → frame_lines true (new_job rules) octets ≡ listing rules.layout octets
  unfolding listing
  listing_is octets = rw (zero-add (length (records (record_length_of rules.layout) octets))) refl

  pub in_one_list : pieces_of_calls wants.Frames true rules [] first chunks ≡ line_pieces (listing rules.layout (first ++ concat chunks))
  in_one_list = from_new wants.Frames true ∙ ap line_pieces (listing_is (first ++ concat chunks))
