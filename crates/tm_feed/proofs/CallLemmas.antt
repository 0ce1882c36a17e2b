-- Octets that are fed by several calls give what they give by one.
use Rattle.std.proofs.Common.{◌≡◌, ℕ, ◌+◌, List, [], ◌∷◌, ◌++◌, length, refl, sym, ap, ◌∙◌, append_assoc, append-nil, length-append, arith}
use Rattle.std.specs.List.{concat}
use Rattle.tm_items.specs.Item.{Item}
use Rattle.tm_reassembly.proofs.Raw.{items-join}
use Rattle.tm_output.specs.Records.{records, rest_of}
use Rattle.tm_tool.specs.RecordingPieces.{items_of}
use Rattle.tm_tool.proofs.Running.{worked-append}
use Rattle.tm_feed.specs.Calls.{IsSound, after_calls, events_of_calls, octets_of_calls}
use Rattle.tm_feed.specs.Feeding.{events_of, packed_octets}
use Rattle.tm_feed.specs.Jobs.{fed, fed_events, fed_octets, record_size, whole_records}
use Rattle.tm_feed.specs.States.{FeedState}
use Rattle.tm_feed.proofs.FeedLemmas.{records_more, rest_more}
use Rattle.tm_feed.proofs.TakeLemmas.{events-append, octets-append}

-- ---- two calls

module _ (job : FeedState) (sound : IsSound job) (first second : List ℕ) where
  abbrev size : ℕ
  size = record_size job.work

  abbrev seam : (job.part ++ first) ++ second ≡ job.part ++ (first ++ second)
  seam = append_assoc job.part first second

  its_records : whole_records job (first ++ second) ≡ whole_records job first ++ whole_records (fed job first) second
  its_records = ap (records size) (sym seam) ∙ records_more size sound.some (job.part ++ first) second

  its_rest : rest_of size (job.part ++ (first ++ second)) ≡ rest_of size (rest_of size (job.part ++ first) ++ second)
  its_rest = ap (rest_of size) (sym seam) ∙ rest_more size sound.some (job.part ++ first) second

  abbrev ones : List Item
  ones = items_of job.work (whole_records job first)

  abbrev others : List Item
  others = items_of (fed job first).work (whole_records (fed job first) second)

  its_items : items_of job.work (whole_records job (first ++ second)) ≡ ones ++ others
  its_items =
      ap (items_of job.work) its_records
      ∙ items-join job.work.rules job.work.state (whole_records job first) (whole_records (fed job first) second) sound.state

  pub two_jobs : fed (fed job first) second ≡ fed job (first ++ second)
  two_jobs =
      rw (its_records, its_rest, worked-append job.work sound.state (whole_records job first) (whole_records (fed job first) second)) refl

  pub two_octets : fed_octets job (first ++ second) ≡ fed_octets job first ++ fed_octets (fed job first) second
  two_octets = ap (packed_octets job.chosen) its_items ∙ octets-append job.chosen ones others

  pub two_events : (at : ℕ) → fed_events at job (first ++ second)
      ≡ fed_events at job first ++ fed_events (at + length (fed_octets job first)) (fed job first) second
  two_events at = ap (events_of job.chosen at job.work.entries) its_items ∙ events-append job.chosen at job.work.entries ones others

-- ---- any number

module _ (job : FeedState) (sound : IsSound job) where
  jobs_from : (first : List ℕ) (calls : List (List ℕ)) → after_calls (fed job first) calls ≡ fed job (first ++ concat calls)
  jobs_from first [] = ap (fed job) (sym (append-nil first))
  jobs_from first (octets ∷ more) =
      ap (λ (j : FeedState). after_calls j more) (two_jobs job sound first octets)
      ∙ jobs_from (first ++ octets) more ∙ ap (fed job) (append_assoc first octets (concat more))

  octets_from : (first : List ℕ) (calls : List (List ℕ))
      → fed_octets job first ++ octets_of_calls (fed job first) calls ≡ fed_octets job (first ++ concat calls)
  octets_from first [] = append-nil (fed_octets job first) ∙ ap (fed_octets job) (sym (append-nil first))
  octets_from first (octets ∷ more) =
      sym (append_assoc (fed_octets job first) (fed_octets (fed job first) octets) (octets_of_calls (fed (fed job first) octets) more))
      ∙ rw (← two_octets job sound first octets, two_jobs job sound first octets) (octets_from (first ++ octets) more)
      ∙ ap (fed_octets job) (append_assoc first octets (concat more))

  events_from : (at : ℕ) (first : List ℕ) (calls : List (List ℕ))
      → fed_events at job first ++ events_of_calls (at + length (fed_octets job first)) (fed job first) calls ≡ fed_events at job (first ++ concat calls)
  events_from at first [] = append-nil (fed_events at job first) ∙ ap (fed_events at job) (sym (append-nil first))
  events_from at first (octets ∷ more) =
      let n : ℕ = at + length (fed_octets job first) in
      let far : n + length (fed_octets (fed job first) octets) ≡ at + length (fed_octets job (first ++ octets)) =
      omega (arith, ap length (two_octets job sound first octets), length-append (fed_octets job first) (fed_octets (fed job first) octets)) in
      sym (append_assoc (fed_events at job first) (fed_events n (fed job first) octets) _)
      ∙ rw (far, ← two_events job sound first octets at, two_jobs job sound first octets) (events_from at (first ++ octets) more)
      ∙ ap (fed_events at job) (append_assoc first octets (concat more))

pub jobs_in_one : (job : FeedState) (first : List ℕ) (calls : List (List ℕ)) → IsSound job
    → after_calls job (first ∷ calls) ≡ fed job (first ++ concat calls)
jobs_in_one job first calls sound = jobs_from job sound first calls

pub events_in_one : (job : FeedState) (first : List ℕ) (calls : List (List ℕ)) → IsSound job → (at : ℕ)
    → events_of_calls at job (first ∷ calls) ≡ fed_events at job (first ++ concat calls)
events_in_one job first calls sound at = events_from job sound at first calls

pub octets_in_one : (job : FeedState) (first : List ℕ) (calls : List (List ℕ)) → IsSound job
    → octets_of_calls job (first ∷ calls) ≡ fed_octets job (first ++ concat calls)
octets_in_one job first calls sound = octets_from job sound first calls

pub ruleset in_one_call = (jobs_in_one, events_in_one, octets_in_one)
