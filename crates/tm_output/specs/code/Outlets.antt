-- Where packets go: what is known of it, and how it grows.
use Rattle.std.specs.Prelude.{◌≡◌, ◌≢◌, refl, ℕ, true, false, List, [], ◌++◌, Option, None, Some}
use Rattle.std.specs.Io.KnownBytes.{Appends}
use Rattle.std.proofs.Common.{sym, ◌∙◌, append_assoc}
use Rattle.tm_fields.specs.declared.field.Field.{Field}
use Rattle.tm_fields.specs.declared.rows.RowForm.{RowForm}
use Rattle.tm_fields.specs.declared.rows.RowForm.TheVariants.{Text, Binary}
use Rattle.tm_items.specs.Item.{Item, Bad, MasterGap, Gap, Vca, Dropped, Packet, Short}
use Rattle.tm_devices.specs.Devices.{raised}
use Rattle.tm_output.specs.declared.command.Command.{Command}
use Rattle.tm_output.specs.declared.command.Command.TheVariants.{Extract, Packets, Fields, BinaryPackets, BinaryFields}
use Rattle.tm_items.specs.Among.{is_packet_item}
use Rattle.tm_output.specs.FieldRows.{has_row, tabled, too_short}
use Rattle.tm_output.specs.Outputs.{PutsPart, Buffering}
use Rattle.tm_output.specs.Pieces.{HasLine, Texts, binary_packet, listed, packet_octets, rows_text, text_of}
use Rattle.tm_faults.specs.declared.run.RunFault.{RunFault}
use Rattle.tm_faults.specs.declared.run.RunFault.TheVariants.{Read, Write, Report, ShortRecording, TooMany, NoMemory}

-- writing stopped in what belongs there: a call of it failed after a part of that, or there was no memory to make it, where there is any
abbrev pub PutStopped : {A K : Type 0} → (K → K → List A → Type 0) → Buffering → K → K → ℕ → ℕ → List A → RunFault → Type 0
PutStopped grows buffering old new failures_old failures_new text Read = ⊥
PutStopped grows buffering old new failures_old failures_new text Write = (failures_new ≡ raised failures_old) × PutsPart grows old new text
PutStopped grows buffering old new failures_old failures_new text Report = ⊥
PutStopped grows buffering old new failures_old failures_new text ShortRecording = ⊥
PutStopped grows buffering old new failures_old failures_new text TooMany = ⊥
PutStopped grows buffering old new failures_old failures_new text NoMemory =
    (buffering.memory ≡ true) × (text ≢ []) × (failures_new ≡ failures_old) × grows old new []

-- an item that has a line gives nothing to a drain, and nothing more to the report, and counts as no packet
abbrev pub GivesNone : {A : Type 0} → Texts A → Item → Type 0
GivesNone text x = (text.out x ≡ []) × (text.remark x ≡ []) × (text.given x ≡ false)

pub packet_none : (x : Item) → HasLine x → is_packet_item x ≡ false
packet_none (Packet seen channel first place octets) has = absurd has
packet_none _ has = refl

pub octets_none : (x : Item) → HasLine x → packet_octets x ≡ []
unfolding packet_octets
octets_none (Bad seen fault) has = refl
octets_none (MasterGap seen expected found missing) has = refl
octets_none (Gap seen channel expected found missing) has = refl
octets_none (Vca seen channel) has = refl
octets_none (Dropped seen channel first place octets reason) has = refl
octets_none (Packet seen channel first place octets) has = absurd has
octets_none (Short seen octets) has = refl

pub listed_none : (x : Item) → HasLine x → listed x ≡ []
unfolding listed
listed_none (Bad seen fault) has = refl
listed_none (MasterGap seen expected found missing) has = refl
listed_none (Gap seen channel expected found missing) has = refl
listed_none (Vca seen channel) has = refl
listed_none (Dropped seen channel first place octets reason) has = refl
listed_none (Packet seen channel first place octets) has = absurd has
listed_none (Short seen octets) has = refl

pub binary_none : (x : Item) → HasLine x → binary_packet x ≡ []
unfolding binary_packet
binary_none (Bad seen fault) has = refl
binary_none (MasterGap seen expected found missing) has = refl
binary_none (Gap seen channel expected found missing) has = refl
binary_none (Vca seen channel) has = refl
binary_none (Dropped seen channel first place octets reason) has = refl
binary_none (Packet seen channel first place octets) has = absurd has
binary_none (Short seen octets) has = refl

tabled_none : (form : RowForm) (fields : List Field) (application : ℕ) (x : Item) → HasLine x → tabled form fields application x ≡ []
unfolding tabled
tabled_none form fields application (Bad seen fault) has = refl
tabled_none form fields application (MasterGap seen expected found missing) has = refl
tabled_none form fields application (Gap seen channel expected found missing) has = refl
tabled_none form fields application (Vca seen channel) has = refl
tabled_none form fields application (Dropped seen channel first place octets reason) has = refl
tabled_none form fields application (Packet seen channel first place octets) has = absurd has
tabled_none form fields application (Short seen octets) has = refl

too_short_none : (fields : List Field) (application : ℕ) (x : Item) → HasLine x → too_short fields application x ≡ []
unfolding too_short
too_short_none fields application (Bad seen fault) has = refl
too_short_none fields application (MasterGap seen expected found missing) has = refl
too_short_none fields application (Gap seen channel expected found missing) has = refl
too_short_none fields application (Vca seen channel) has = refl
too_short_none fields application (Dropped seen channel first place octets reason) has = refl
too_short_none fields application (Packet seen channel first place octets) has = absurd has
too_short_none fields application (Short seen octets) has = refl

row_none : (fields : List Field) (application : ℕ) (x : Item) → HasLine x → has_row fields application x ≡ false
unfolding has_row
row_none fields application (Packet seen channel first place octets) has = absurd has
row_none fields application _ has = refl

pub no_row : (form : RowForm) (fields : List Field) (application : ℕ) (x : Item) → HasLine x → GivesNone (rows_text form fields application) x
no_row form fields application x has = (tabled_none form fields application x has, too_short_none fields application x has, row_none fields application x has)

pub no_text : (command : Command) (x : Item) → HasLine x → GivesNone (text_of command) x
no_text Extract x has = (octets_none x has, refl, packet_none x has)
no_text Packets x has = (listed_none x has, refl, packet_none x has)
no_text (Fields definition application) x has = no_row Text definition.now application x has
no_text BinaryPackets x has = (binary_none x has, refl, packet_none x has)
no_text (BinaryFields definition application) x has = no_row Binary definition.now application x has

-- octets that are added at once may be added in two steps
pub appends_split : (j l : Option (List ℕ)) (xs ys : List ℕ) → Appends j l (xs ++ ys) → (k : Option (List ℕ)) × Appends j k xs × Appends k l ys
appends_split None l xs ys h = (None, tt, tt)
appends_split (Some held) None xs ys h = absurd h
appends_split (Some held) (Some more) xs ys h = (Some (held ++ xs), refl, h ∙ sym (append_assoc held xs ys))
