-- What the export answers.
use Rattle.std.specs.Prelude.{◌≡◌, ◌≢◌, ◌⊎◌, ◌==◌, ◌≤◌, ◌<◌, ◌&&◌, nat_le, not, ℕ, Bool, if◌then◌else◌, List, [], length}
use Rattle.std.specs.Borrow.{Bor}
use Rattle.tm_frame.specs.Rules.{Rules}
use Rattle.tm_fields.specs.declared.definition.Definition.{Definition}
use Rattle.tm_fields.specs.declared.rows.RowForm.{RowForm}
use Rattle.tm_fields.specs.declared.rows.RowForm.TheVariants.{Text, Binary}
use Rattle.tm_checkpoint.specs.Works.{JobState}
use Rattle.tm_output.specs.declared.command.Command.{Command}
use Rattle.tm_output.specs.declared.command.Command.TheVariants.{Fields, BinaryFields}
use Rattle.tm_library.specs.declared.request.Answer.{Answer}
use Rattle.tm_library.specs.declared.request.Request.{Request}
use Rattle.tm_library.specs.declared.request.Wanted.{Wanted}
use Rattle.tm_library.specs.declared.request.Wanted.TheVariants.{Packets}
use Rattle.tm_library.specs.declared.refusal.Refusal.{Refusal}
use Rattle.tm_library.specs.Chunks.{AreFields, AreSettings, Begins, IsAnswer, IsSummary}
use Rattle.tm_library.specs.Refusals.{IsChunkRefused, IsDefinitionRefused, IsSettingsRefused}
use Rattle.tm_c.specs.declared.structs.Numbers.{Numbers}
use Rattle.tm_c.specs.declared.structs.TmxRequest.{TmxRequest}
use Rattle.tm_c.specs.declared.structs.TmxAnswer.{TmxAnswer}
use Rattle.tm_c.specs.Numbers.{refusal_numbers, with_status}

-- of a call that was refused there is nothing but the reason
abbrev pub refused_with : Numbers → TmxAnswer
refused_with n = record {
  status = n.status;
  fault = n.fault;
  key = n.key;
  column = n.column;
  row = n.row;
  records = 0;
  out_length = 0;
  report_length = 0;
  checkpoint_length = 0;
  used = 0;
  strict = 0;
  row_length = 0;
}

-- what `tmx --strict` ends with: 5 without a good frame of a chosen channel, else 4 where something is lost, else 0
abbrev pub strict_status : Answer → ℕ
strict_status answer = if answer.has_good_frame then (if answer.has_losses then 4 else 0) else 5

-- what a call gave; the status is 1 where a room is too small
abbrev pub done_with : Answer → Bool → TmxAnswer
done_with answer fits = record {
  status = if fits then 0 else 1;
  fault = 0;
  key = 0;
  column = 0;
  row = 0;
  records = answer.records;
  out_length = answer.out;
  report_length = answer.report;
  checkpoint_length = answer.checkpoint;
  used = answer.used;
  strict = strict_status answer;
  row_length = answer.row_length;
}

-- each room is large enough
abbrev pub fit : Answer → List ℕ → List ℕ → List ℕ → Bool
fit answer out report checkpoint =
    nat_le answer.out (length out) && nat_le answer.report (length report) && nat_le answer.checkpoint (length checkpoint)

-- what a call reads of the recording and of the checkpoint
abbrev pub chunk_of : TmxRequest → Wanted → Request
chunk_of request wanted = record {
  checkpoint = request.checkpoint;
  octets = request.octets;
  wanted = wanted;
  last = not (request.last == 0);
}

-- it was refused, and this is why
abbrev pub WasRefused : (Refusal → Type 0) → TmxAnswer → Type 0
WasRefused why result = (refusal : Refusal) × (result ≡ refused_with (refusal_numbers refusal)) × why refusal

-- the call was done: the rooms that are large enough have in front just what belongs there
abbrev pub WasDone : Rules → Request → List ℕ → List ℕ → List ℕ → TmxAnswer → Type 0
WasDone rules chunk out report checkpoint result =
    (answer : Answer) × (result ≡ done_with answer (fit answer out report checkpoint)) × (answer.used ≤ length chunk.octets.now)
    × (job : JobState) × Begins rules chunk.checkpoint.now job
    × IsAnswer chunk.wanted chunk.last job chunk.octets.now answer out report checkpoint

-- by these settings, what is wanted was given, or refused
abbrev pub IsGivenBy : Rules → Request → List ℕ → List ℕ → List ℕ → TmxAnswer → Type 0
IsGivenBy rules chunk out report checkpoint result =
    WasDone rules chunk out report checkpoint result ⊎ WasRefused (IsChunkRefused rules chunk.checkpoint.now chunk.octets.now) result

-- the settings are refused, or they are read, and this is answered by them
abbrev pub IsAnsweredBy : List ℕ → (Rules → Type 0) → TmxAnswer → Type 0
IsAnsweredBy settings answered result =
    WasRefused (IsSettingsRefused settings) result ⊎ ((rules : Rules) × AreSettings settings rules × answered rules)

-- what is wanted was given, or refused
abbrev pub IsGiven : Wanted → TmxRequest → List ℕ → List ℕ → List ℕ → TmxAnswer → Type 0
IsGiven wanted request out report checkpoint result =
    IsAnsweredBy request.settings.now (λ rules. IsGivenBy rules (chunk_of request wanted) out report checkpoint result) result

-- the form of the rows that a command of this number gives
abbrev pub form_by_number : ℕ → RowForm
form_by_number command = if command == 6 then Binary else Text

-- what gives the rows of an application in a form
abbrev pub rows_in : RowForm → Bor Definition → ℕ → Command
rows_in Text definition application = Fields definition application
rows_in Binary definition application = BinaryFields definition application

-- by these settings, the rows of the application were given in a form, or the definition is refused
abbrev pub AreRowsGiven : RowForm → Rules → TmxRequest → List ℕ → List ℕ → List ℕ → TmxAnswer → Type 0
AreRowsGiven form rules request out report checkpoint result =
    WasRefused (IsDefinitionRefused request.definition.now) result
    ⊎ ((definition : Bor Definition) × AreFields request.definition.now definition.now
    × IsGivenBy rules (chunk_of request (Packets (rows_in form definition request.application))) out report checkpoint result)

-- applications have numbers up to 2047
abbrev pub IsFieldsAnswer : RowForm → TmxRequest → List ℕ → List ℕ → List ℕ → TmxAnswer → Type 0
IsFieldsAnswer form request out report checkpoint result =
    (2047 < request.application → result ≡ refused_with (with_status 8 0))
    × (request.application ≤ 2047
    → IsAnsweredBy request.settings.now (λ rules. AreRowsGiven form rules request out report checkpoint result) result)

-- by these settings, the summary was written, where the room is large enough
abbrev pub WasSummarized : Rules → TmxRequest → List ℕ → TmxAnswer → Type 0
WasSummarized rules request out result =
    (answer : Answer) × (result ≡ done_with answer (nat_le answer.out (length out))) × IsSummary rules request.octets.now answer out

-- by these settings, the summary was given, or refused
abbrev pub IsSummarizedBy : Rules → TmxRequest → List ℕ → TmxAnswer → Type 0
IsSummarizedBy rules request out result =
    WasSummarized rules request out result ⊎ WasRefused (IsChunkRefused rules [] request.octets.now) result

-- a summary takes the whole recording in one call
abbrev pub IsSummaryAnswer : TmxRequest → List ℕ → TmxAnswer → Type 0
IsSummaryAnswer request out result =
    ((request.last ≡ 0) ⊎ (request.checkpoint.now ≢ []) → result ≡ refused_with (with_status 9 0))
    × (request.last ≢ 0 → request.checkpoint.now ≡ []
    → IsAnsweredBy request.settings.now (λ rules. IsSummarizedBy rules request out result) result)
