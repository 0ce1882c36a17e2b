-- The row of a packet, and the line of one that is too short.
use Rattle.std.proofs.Common.{◌≡◌, ◌≢◌, ◌<◌, ℕ, Bool, true, false, List, [], ◌∷◌, ◌++◌, refl, ap, Ok, Err}
use Rattle.std.specs.Prelude.{◌==◌, if◌then◌else◌, nat_lt}
use Rattle.std.specs.List.{flat_map}
use Rattle.std.proofs.lemmas.Bool.{false≢true, ltb-true, not-true}
use Rattle.tm_fields.specs.declared.faults.RowFault.TheVariants.{ShortPacket}
use Rattle.tm_fields.specs.declared.field.Field.{Field}
use Rattle.tm_fields.specs.declared.lead.Lead.{Lead}
use Rattle.tm_fields.specs.declared.rows.RowForm.{RowForm}
use Rattle.tm_fields.specs.declared.rows.RowForm.TheVariants.{Text, Binary}
use Rattle.tm_fields.specs.Numbers.{bits_in}
use Rattle.tm_fields.specs.Rows.{bits_needed, lead_texts, printed, row_from, row_in}
use Rattle.tm_fields.proofs.LineLemmas.{some_text}
use Rattle.tm_packet.specs.Header.{Fields, packet_header_of}
use Rattle.tm_items.specs.Item.{Item, Packet}
use Rattle.tm_lines.specs.Lines.{short_packet_line}
use Rattle.tm_output.specs.FieldRows.{is_of_other, lead_of, row_or_none, tabled}
use Rattle.tm_output.specs.code.Quiet.{AreJoined}

-- packets of other applications have no rows
other_none : (form : RowForm) (fields : List Field) (wanted : ℕ) (x : Item) → is_of_other wanted x ≡ true → tabled form fields wanted x ≡ []
unfolding is_of_other tabled
other_none form fields wanted (Packet seen channel first place octets) e = rw (not-true _ e) refl
other_none form fields wanted _ e = absurd (false≢true e)

pub others_none : (form : RowForm) (fields : List Field) (wanted : ℕ) (xs : List Item) → AreJoined (is_of_other wanted) xs
    → flat_map (tabled form fields wanted) xs ≡ []
others_none form fields wanted [] joined = refl
others_none form fields wanted (x ∷ xs) joined = rw (other_none form fields wanted x joined.0, others_none form fields wanted xs joined.1) refl

-- what is made under the numbers of a packet's header is its row
pub tabled_is : (form : RowForm) (fields : List Field) (wanted seen channel first place application count : ℕ) (octets row : List ℕ) (h : Fields) → h ≡ packet_header_of octets
    → (h.application == wanted) ≡ true → application ≡ h.application → count ≡ h.count
    → row_from form fields (record { seen = seen; channel = channel; application = application; count = count }) octets ≡ Ok row
    → tabled form fields wanted (Packet seen channel first place octets) ≡ row
unfolding tabled
tabled_is form fields wanted seen channel first place application count octets row h is test same_application same_count made =
    let application_is : h.application ≡ (packet_header_of octets).application = ap (λ (k : Fields). k.application) is in
    let count_is : h.count ≡ (packet_header_of octets).count = ap (λ (k : Fields). k.count) is in
    rw (← application_is, ← count_is, test, ← same_application, ← same_count, made) refl

-- a packet that isn't too short has a row
some_row : (form : RowForm) (fields : List Field) (lead : Lead) (octets : List ℕ) → row_in form fields lead octets ≢ []
some_row Text fields lead octets none = some_text (lead_texts lead ++ flat_map (printed octets) fields) none
some_row Binary fields lead octets none = cc none

some_made : (form : RowForm) (fields : List Field) (lead : Lead) (octets : List ℕ) (short : Bool) → nat_lt (bits_in octets) (bits_needed fields) ≡ short
    → (bits_in octets < bits_needed fields → ⊥)
    → row_or_none (if short then Err (ShortPacket (bits_needed fields) (bits_in octets)) else Ok (row_in form fields lead octets)) ≢ []
some_made form fields lead octets true e long none = long (ltb-true (bits_in octets) (bits_needed fields) e)
some_made form fields lead octets false e long none = some_row form fields lead octets none

-- and one of the application has one here
pub some_tabled : (form : RowForm) (fields : List Field) (wanted seen channel first place : ℕ) (octets : List ℕ) (h : Fields) → h ≡ packet_header_of octets
    → (h.application == wanted) ≡ true → (bits_in octets < bits_needed fields → ⊥) → tabled form fields wanted (Packet seen channel first place octets) ≢ []
unfolding tabled
some_tabled form fields wanted seen channel first place octets h is test long none =
    let here : ((packet_header_of octets).application == wanted) ≡ true = rw is at test in
    some_made form fields (lead_of seen channel octets) octets _ refl long (rw here at none)

pub some_short_packet : (seen channel first place needed found : ℕ) → short_packet_line seen channel first place needed found ≢ []
unfolding short_packet_line
some_short_packet seen channel first place needed found e = cc
