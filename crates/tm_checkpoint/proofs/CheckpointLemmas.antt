-- What is written is read again, and what is read is what was written.
use Rattle.std.proofs.Common.{◌≡◌, ℕ, suc, ◌+◌, ◌-◌, ◌*◌, ◌/◌, ◌%◌, ◌≤◌, Bool, true, false, not, Ok, Err, Result, Option, Some, None, List, [], ◌∷◌, ◌++◌, length, take, drop, refl, sym, ap, subst, ◌∙◌, arith, add-zero, length-append, length-drop, ltb}
use Rattle.std.specs.Prelude.{slice_index, slice_range, if◌then◌else◌}
use Rattle.std.specs.Str.{bytes_eq}
use Rattle.std.proofs.lemmas.Bool.{and_parts, not-false, le-ltb, ltb-false, eqb-true, eq-eqb}
use Rattle.std.proofs.lemmas.List.{append-nil, get_or-append-add, get_or-drop, take_all, take-append-drop}
use Rattle.std.proofs.lemmas.Slice.Eq.{bytes_eq-Decides}
use Rattle.std.proofs.Math.Seq.{get_or-append_seam, take-add, drop-cons, take-append_seam, drop-append_seam}
use Rattle.tm_bits.specs.Bits.{AreOctets, two_octets, two_at}
use Rattle.tm_bits.proofs.PartLemmas.{octets_behind}
use Rattle.tm_frame.specs.ErrorControl.{error_control_of}
use Rattle.tm_packet.specs.declared.tracker.TrackerFault.{TrackerFault}
use Rattle.tm_packet.specs.Spelling as sequence
use Rattle.tm_packet.specs.Valid as valid
use Rattle.tm_packet.proofs.ReadValid as entries_valid
use Rattle.tm_packet.proofs.Spelled as sequence_read
use Rattle.tm_packet.proofs.SpellingLemmas as sequence_written
use Rattle.tm_reassembly.specs.declared.fault.StateFault.{StateFault}
use Rattle.tm_reassembly.specs.Checkpoint as reassembly
use Rattle.tm_frame.specs.Rules.{Rules, IsLimit}
use Rattle.tm_reassembly.specs.State.{State}
use Rattle.tm_reassembly.specs.Valid.{IsValidState}
use Rattle.tm_reassembly.proofs.Fits.{octets_take}
use Rattle.tm_faults.specs.declared.run.CheckpointFault.{CheckpointFault}
use Rattle.tm_faults.specs.declared.run.CheckpointFault.TheVariants as fault
use Rattle.tm_checkpoint.specs.declared.version.Version.{Version}
use Rattle.tm_checkpoint.specs.declared.version.Version.TheVariants.{One, Three}
use Rattle.tm_checkpoint.specs.Works.{IsWork, JobState, Work}
use Rattle.tm_checkpoint.specs.Checkpoints.{form_of, version_named, tells, kept_state, kept_in, magic, settings_in, head_octets, state_octets, with_check, spelled_in, checkpoint_of, check_holds, says_settings, version_of_form, version_in, inner, job_of, with_entries, with_state, state_in, resumed_as, resumed}
use Rattle.tm_packet.specs.Merge.{Entries}
use Rattle.tm_checkpoint.proofs.CheckpointLength.{state_most, state_least, sequence_most, sequence_least}
use Rattle.tm_checkpoint.proofs.ReadValid.{state_valid}
use Rattle.tm_checkpoint.proofs.VersionLemmas.{named, own_octet, around_fits, length-head, state_again, state_spelled}

-- ---- the octets around

-- nothing is wrong around the state, in a version
pub record IsInVersion (v : Version) (s : Rules) (octets : List ℕ) : Type 0 where
  pub long : (form_of v).least ≤ length octets
  pub magic_is : take 4 octets ≡ magic
  pub version_is : slice_index octets 4 ≡ (form_of v).octet
  pub check_is : check_holds octets ≡ true
  pub told : tells v s ≡ true
  pub settings_are : slice_range octets 5 (5 + (form_of v).settings) ≡ settings_in v s

passed : (b : Bool) (found : CheckpointFault) (rest : Result Version CheckpointFault) (v : Version) → (if b then Err found else rest) ≡ Ok v → (b ≡ false) × (rest ≡ Ok v)
passed true found rest v e = cc
passed false found rest v e = (refl, e)

version_in_form : (s : Rules) (octets : List ℕ) (x : Option Version) (v : Version) → take 4 octets ≡ magic → version_named (slice_index octets 4) ≡ x → version_of_form s octets x ≡ Ok v
    → IsInVersion v s octets
version_in_form s octets None v first is e = cc
version_in_form s octets (Some u) v first is e =
    let (long, checks) = passed (ltb (length octets) (form_of u).least) fault.Short _ v e in
    let (check, says) = passed (not (check_holds octets)) fault.Check _ v checks in
    let (said, same) = passed (not (says_settings u s octets)) fault.Settings _ v says in
    let (told, settings) = and_parts (tells u s) (bytes_eq (slice_range octets 5 (5 + (form_of u).settings)) (settings_in u s)) (not-false _ said) in
    let one : u ≡ v = cc in
    subst (λ (w : Version). IsInVersion w s octets) one
    (record {
      long = ltb-false (length octets) (form_of u).least long;
      magic_is = first;
      version_is = own_octet (slice_index octets 4) u is;
      check_is = not-false _ check;
      told = told;
      settings_are = (bytes_eq-Decides _ _).0 settings;
    })

pub is_in_version : (s : Rules) (octets : List ℕ) (v : Version) → version_in s octets ≡ Ok v → IsInVersion v s octets
unfolding version_in
is_in_version s octets v e =
    let (long, begins) = passed (ltb (length octets) 33) fault.Short _ v e in
    let (first, form) = passed (not (bytes_eq (take 4 octets) magic)) fault.Magic _ v begins in
    version_in_form s octets (version_named (slice_index octets 4)) v ((bytes_eq-Decides (take 4 octets) magic).0 (not-false _ first)) refl form

pub version_again : (s : Rules) (octets : List ℕ) (v : Version) → IsInVersion v s octets → version_in s octets ≡ Ok v
unfolding version_in
version_again s octets v h =
    let magic_there : bytes_eq (take 4 octets) magic ≡ true = (bytes_eq-Decides (take 4 octets) magic).1 h.magic_is in
    let settings_there : bytes_eq (slice_range octets 5 (5 + (form_of v).settings)) (settings_in v s) ≡ true =
    (bytes_eq-Decides (slice_range octets 5 (5 + (form_of v).settings)) (settings_in v s)).1 h.settings_are in
    let version_there : version_named (slice_index octets 4) ≡ Some v = ap version_named h.version_is ∙ named v in
    let fits = (around_fits v).1 in
    rw (le-ltb (length octets) 33 (omega arith), magic_there, version_there, le-ltb (length octets) (form_of v).least h.long, h.check_is, h.told, settings_there) refl

-- ---- written

abbrev pub body : Version → Work → List ℕ
body v w = state_octets v w.state ++ sequence.entries_spelling w.entries

abbrev pub checked : Version → Work → List ℕ
checked v w = head_octets v w.rules ++ body v w

-- so many octets before, and two after
checked_length : (head inside : List ℕ) (k : ℕ) → length head ≡ 5 + k → length (with_check (head ++ inside)) ≡ length inside + (7 + k)
checked_length head inside k e = simp length-append (omega arith)

spelled_is : (v : Version) (w : Work) → spelled_in v w ≡ with_check (checked v w)
unfolding spelled_in
spelled_is One w = refl
spelled_is _ w = refl

length-spelled : (v : Version) (w : Work) → length (spelled_in v w) ≡ length (body v w) + (7 + (form_of v).settings)
length-spelled v w = rw (spelled_is v w) (checked_length (head_octets v w.rules) (body v w) (form_of v).settings (length-head v w.rules))

pub bound : (w : Work) → IsWork w → length (checkpoint_of w) ≤ 98374 + 8 * w.rules.max_packet
bound w h =
    let sum = length-append (reassembly.state_spelling w.state) (sequence.entries_spelling w.entries) in
    omega (arith, length-spelled Three w, state_most w.rules w.state h.state, sequence_most w.entries h.entries, sum)

pub most : (w : Work) → IsWork w → length (checkpoint_of w) ≤ 622710
most w h = omega (arith, bound w h, h.state.limit.most)

-- the number that is written after octets
number_behind : (xs : List ℕ) (n : ℕ) → two_at (xs ++ two_octets n) (length xs) ≡ n
number_behind xs n = rw (get_or-append_seam xs (n / 256) (n % 256 ∷ []) 0, get_or-append-add xs (two_octets n) 1 0) (omega arith)

check_behind : (xs : List ℕ) → check_holds (with_check xs) ≡ true
check_behind xs =
    let len : length (with_check xs) - 2 ≡ length xs = omega (arith, length-append xs (two_octets (error_control_of xs))) in
    rw (len, take-append_seam xs (two_octets (error_control_of xs))) (eq-eqb (two_at (with_check xs) (length xs)) (error_control_of xs) (number_behind xs (error_control_of xs)))

settings_there : (v : Version) (w : Work) → slice_range (spelled_in v w) 5 (5 + (form_of v).settings) ≡ settings_in v w.rules
unfolding spelled_in
settings_there One w = refl
settings_there _ w = refl

version_spelled : (v : Version) (w : Work) → IsWork w → tells v w.rules ≡ true → IsInVersion v w.rules (spelled_in v w)
unfolding spelled_in
version_spelled v w h told = record {
  long =
      let sum = length-append (state_octets v w.state) (sequence.entries_spelling w.entries) in
      omega (arith, length-spelled v w, state_least v w.rules w.state h.state, sequence_least w.entries, sum);
  magic_is = refl;
  version_is = refl;
  check_is = ap check_holds (spelled_is v w) ∙ check_behind (checked v w);
  told = told;
  settings_are = settings_there v w;
}

abbrev pub check : Version → Work → List ℕ
check v w = two_octets (error_control_of (checked v w))

-- the octets after the settings, whatever follows
pub behind_head : (v : Version) (w : Work) (rest : List ℕ) → drop (5 + (form_of v).settings) (spelled_in v w ++ rest) ≡ (body v w ++ check v w) ++ rest
unfolding spelled_in
behind_head One w rest = refl
behind_head _ w rest = refl

inner_spelled : (v : Version) (w : Work) → inner v (spelled_in v w) ≡ body v w
inner_spelled v w =
    let k : ℕ = 5 + (form_of v).settings in
    let len : length (spelled_in v w) - 2 - k ≡ length (body v w) = omega (arith, length-spelled v w) in
    let rest : drop k (spelled_in v w) ≡ body v w ++ check v w =
    ap (drop k) (sym (append-nil (spelled_in v w))) ∙ behind_head v w [] ∙ append-nil (body v w ++ check v w) in
    rw (rest, len) (take-append_seam (body v w) (check v w))

entries_again : (s : Rules) (state : State) (entries : Entries) → valid.AreValidEntries entries
    → with_entries s state (length (sequence.entries_spelling entries)) (sequence.entries_decoding_of (sequence.entries_spelling entries)) ≡ Ok (job_of s state entries)
entries_again s state entries h =
    let spelled : List ℕ = sequence.entries_spelling entries in
    let read : sequence.entries_decoding_of spelled ≡ Ok (record { entries = entries; octets = length spelled }) =
    ap sequence.entries_decoding_of (sym (append-nil spelled)) ∙ sequence_written.decoding-spelling entries [] h in
    rw (read, le-ltb (length spelled) (length spelled) (omega arith)) refl

body_again : (v : Version) (w : Work) → IsWork w
    → with_state w.rules (body v w) (state_in v w.rules (body v w)) ≡ Ok (job_of w.rules (kept_state v w.state) w.entries)
body_again v w h =
    rw (state_again v w.rules w.state (sequence.entries_spelling w.entries) h.state, drop-append_seam (state_octets v w.state) (sequence.entries_spelling w.entries))
    (entries_again w.rules (kept_state v w.state) w.entries h.entries)

pub older_again : (v : Version) (w : Work) → IsWork w → tells v w.rules ≡ true → resumed w.rules (spelled_in v w) ≡ Ok (record { work = kept_in v w; fresh = false })
unfolding resumed
older_again v w h told =
    rw (version_again w.rules (spelled_in v w) v (version_spelled v w h told), inner_spelled v w) (body_again v w h)

pub read_again : (w : Work) → IsWork w → resumed w.rules (checkpoint_of w) ≡ Ok (record { work = w; fresh = false })
read_again w h = older_again Three w h refl

-- the parts of a checkpoint, one after the other
pub joined : (w : Work) (a b c d : List ℕ) → a ≡ head_octets Three w.rules → b ≡ a ++ reassembly.state_spelling w.state
    → c ≡ b ++ sequence.entries_spelling w.entries → d ≡ with_check c → d ≡ checkpoint_of w
unfolding spelled_in
joined w a b c d first second third last = rw (last, third, second, first) refl

-- ---- read

none_left : (b : Bool) (found : CheckpointFault) (made job : JobState) → (if b then Err found else Ok made) ≡ Ok job → (b ≡ false) × (made ≡ job)
none_left true found made job e = cc
none_left false found made job e = (refl, cc)

-- these octets are the entries of the job, which has these settings and this state
record AreEntries (s : Rules) (state : State) (octets : List ℕ) (job : JobState) : Type 0 where
  spelled : octets ≡ sequence.entries_spelling job.work.entries
  same : job_of s state job.work.entries ≡ job
  fit : valid.AreValidEntries job.work.entries

entries_read : (s : Rules) (state : State) (octets : List ℕ) (job : JobState) (r : Result sequence.DecodedEntries TrackerFault) → AreOctets octets
    → sequence.entries_decoding_of octets ≡ r → with_entries s state (length octets) r ≡ Ok job → AreEntries s state octets job
entries_read s state octets job (Err found) h read e = cc
entries_read s state octets job (Ok d) h read e =
    let (left, made) = none_left (ltb d.octets (length octets)) fault.Trailing (job_of s state d.entries) job e in
    let all = take_all d.octets octets (ltb-false d.octets (length octets) left) in
    let entries : d.entries ≡ job.work.entries = ap (λ (j : JobState). j.work.entries) made in
    record {
      spelled = sym all ∙ (sequence_read.spelled-again octets d h read).1 ∙ ap sequence.entries_spelling entries;
      same = ap (λ (l : Entries). job_of s state l) (sym entries) ∙ made;
      fit = subst valid.AreValidEntries entries (entries_valid.entries_read octets d read);
    }

-- these octets are the body of the job, which has these settings and what the version keeps
record IsBody (v : Version) (s : Rules) (octets : List ℕ) (job : JobState) : Type 0 where
  spelled : octets ≡ body v job.work
  settings : job.work.rules ≡ s
  stale : job.fresh ≡ false
  kept : kept_in v job.work ≡ job.work
  state : IsLimit s.max_packet → IsValidState job.work.rules job.work.state
  entries : valid.AreValidEntries job.work.entries

body_read : (v : Version) (s : Rules) (octets : List ℕ) (job : JobState) (r : Result reassembly.DecodedState StateFault) → AreOctets octets
    → state_in v s octets ≡ r → with_state s octets r ≡ Ok job → IsBody v s octets job
body_read v s octets job (Err found) h read e = cc
body_read v s octets job (Ok d) h read e =
    let rest : List ℕ = drop d.octets octets in
    let entries = entries_read s d.state rest job (sequence.entries_decoding_of rest) (octets_behind d.octets octets h) refl e in
    let spelled = state_spelled v s octets d h read in
    let state : d.state ≡ job.work.state = ap (λ (j : JobState). j.work.state) entries.same in
    record {
      spelled =
          sym (take-append-drop d.octets octets)
          ∙ ap (λ (l : List ℕ). l ++ rest) (spelled.same ∙ ap (state_octets v) state)
          ∙ ap (λ (l : List ℕ). state_octets v job.work.state ++ l) entries.spelled;
      settings = ap (λ (j : JobState). j.work.rules) (sym entries.same);
      stale = ap (λ (j : JobState). j.fresh) (sym entries.same);
      kept =
          ap (λ (t : State). record { rules = job.work.rules; state = t; entries = job.work.entries })
          (ap (kept_state v) (sym state) ∙ spelled.kept ∙ state);
      state = λ range. subst (λ (j : JobState). IsValidState j.work.rules j.work.state) entries.same (state_valid s range v octets d h read);
      entries = entries.fit;
    }

last_two : (ys : List ℕ) → AreOctets ys → length ys ≡ 2 → two_octets (256 * slice_index ys 0 + slice_index ys 1) ≡ ys
last_two (a ∷ b ∷ []) h e =
    let high : (256 * a + b) / 256 ≡ a = omega (arith, h.below 1) in
    let low : (256 * a + b) % 256 ≡ b = omega (arith, h.below 1) in
    rw (high, low) refl
last_two _ h e = absurd (omega arith)

-- octets whose check holds
check_again : (octets : List ℕ) → AreOctets octets → 2 ≤ length octets → check_holds octets ≡ true → octets ≡ with_check (take (length octets - 2) octets)
check_again octets h long e =
    let n : ℕ = length octets - 2 in
    let ys : List ℕ = drop n octets in
    let high : slice_index ys 0 ≡ slice_index octets n = rw add-zero at (get_or-drop n octets 0 0) in
    let number : 256 * slice_index ys 0 + slice_index ys 1 ≡ error_control_of (take n octets) =
    rw (high, get_or-drop n octets 1 0) (eqb-true (two_at octets n) (error_control_of (take n octets)) e) in
    let len : length ys ≡ 2 = length-drop n octets ∙ omega arith in
    rw (← number, last_two ys (octets_behind n octets h) len) (sym (take-append-drop n octets))

-- octets after a prefix of four and one more
front_again : (k : ℕ) (octets first written : List ℕ) (v : ℕ) → 5 ≤ length octets → take 4 octets ≡ first → slice_index octets 4 ≡ v
    → slice_range octets 5 (5 + k) ≡ written → take (5 + k) octets ≡ first ++ v ∷ written
front_again k octets first written v long fore named behind =
    let n : 5 + k ≡ 4 + suc k = omega arith in
    let m : 5 + k - 5 ≡ k = omega arith in
    rw (n, take-add 4 (suc k) octets, fore, drop-cons octets 4 0 (omega arith), named, rw m at behind) refl

-- what is before the check: the octets in front, and those between
before_check : (v : Version) (s : Rules) (octets : List ℕ) → IsInVersion v s octets → take (length octets - 2) octets ≡ head_octets v s ++ inner v octets
before_check v s octets h =
    let long = h.long in
    let fits = (around_fits v).0 in
    let k : ℕ = 5 + (form_of v).settings in
    let n : length octets - 2 ≡ k + (length octets - 2 - k) = omega arith in
    ap (λ (i : ℕ). take i octets) n
    ∙ take-add k (length octets - 2 - k) octets
    ∙ ap (λ (l : List ℕ). l ++ inner v octets)
    (front_again (form_of v).settings octets magic (settings_in v s) (form_of v).octet (omega arith) h.magic_is h.version_is h.settings_are)

-- octets that are accepted
record IsAccepted (s : Rules) (octets : List ℕ) (job : JobState) : Type 0 where
  version : Version
  around : IsInVersion version s octets
  read : IsBody version s (inner version octets) job

accepted : (s : Rules) (octets : List ℕ) (job : JobState) → AreOctets octets → resumed s octets ≡ Ok job → IsAccepted s octets job
unfolding resumed
accepted s octets job h = by_version (version_in s octets) refl
  where
    by_version : (x : Result Version CheckpointFault) → version_in s octets ≡ x → resumed_as s octets x ≡ Ok job → IsAccepted s octets job
    by_version (Err found) is e = cc
    by_version (Ok v) is e =
        let k : ℕ = 5 + (form_of v).settings in
        let within : AreOctets (inner v octets) = octets_take (length octets - 2 - k) (drop k octets) (octets_behind k octets h) in
        record { version = v; around = is_in_version s octets v is; read = body_read v s (inner v octets) job (state_in v s (inner v octets)) within refl e }

pub written_again : (s : Rules) (octets : List ℕ) (job : JobState) → AreOctets octets → resumed s octets ≡ Ok job
    → (v : Version) × (octets ≡ spelled_in v job.work) × (tells v s ≡ true) × (kept_in v job.work ≡ job.work) × (job.work.rules ≡ s) × (job.fresh ≡ false)
written_again s octets job h e =
    let all = accepted s octets job h e in
    let v : Version = all.version in
    let read = all.read in
    let long : 2 ≤ length octets = omega (arith, (around_fits v).1, all.around.long) in
    let front : take (length octets - 2) octets ≡ checked v job.work = before_check v s octets all.around
    ∙ ap (λ (t : Rules). head_octets v t ++ inner v octets) (sym read.settings)
    ∙ ap (λ (l : List ℕ). head_octets v job.work.rules ++ l) read.spelled in
    let spelled = check_again octets h long all.around.check_is ∙ ap with_check front ∙ sym (spelled_is v job.work) in
    (v, spelled, all.around.told, read.kept, read.settings, read.stale)

pub valid_again : (s : Rules) (octets : List ℕ) (job : JobState) → length s.channels ≡ 8 → IsLimit s.max_packet → AreOctets octets → resumed s octets ≡ Ok job → IsWork job.work
valid_again s octets job eight range h e =
    let read = (accepted s octets job h e).read in
    record { eight = ap (λ (t : Rules). length t.channels) read.settings ∙ eight; state = read.state range; entries = read.entries }
