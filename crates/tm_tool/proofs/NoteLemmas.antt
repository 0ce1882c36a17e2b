-- The notes of packets that are taken one by one are those of the whole list of their headers.
use Rattle.std.proofs.Common.{◌≡◌, ◌<◌, ◌+◌, ℕ, true, Option, None, Some, List, [], ◌∷◌, ◌++◌, length, refl, sym, ap, ◌∙◌, append-nil, inl, inr, nat_lt, if◌then◌else◌, eq-eqb}
use Rattle.tm_packet.specs.declared.notes.Note.{Note}
use Rattle.tm_packet.specs.Merge as sequence
use Rattle.tm_packet.specs.Valid.{AllHeadersFit, AreValidEntries}
use Rattle.tm_packet.proofs.AfterValid.{header-fits}
use Rattle.tm_packet.proofs.Merging.{after-append, after_from-none, notes-append}
use Rattle.tm_items.specs.Among.{Among, is_of}
use Rattle.tm_reassembly.specs.Items.{close_channels, close_tail, closing}
use Rattle.tm_reassembly.specs.State.{Last, State, Tail}
use Rattle.tm_items.specs.Item.{Item, Dropped, Packet, Short}
use Rattle.tm_items.specs.declared.items.Reason.{Reason}
use Rattle.tm_items.specs.declared.items.Reason.TheVariants.{Close}
use Rattle.tm_bits.proofs.Each.{Each, Each-append, Each-cond}
use Rattle.tm_output.specs.Outputs.{Piece}
use Rattle.tm_output.specs.Pieces.{Texts, noted, noted_all, notes_of, piece_of, pieces_of, report_of, sent}
use Rattle.tm_tool.specs.NotesInAll.{pieces_with, report_with, sent_among, sent_in}
use Rattle.tm_tool.proofs.WorkValid.{noted-valid}

-- an item leaves the entries that its packet leaves, if it is one
noted_is : (entries : sequence.Entries) (x : Item) → noted entries x ≡ sequence.entries_after entries (sent_in x)
unfolding noted sent_in
noted_is entries (Packet seen channel first place octets) = refl
noted_is entries _ = sym (after_from-none 0 entries)

-- and items those of all their packets
pub noted_all_is : (entries : sequence.Entries) (xs : List Item) → noted_all entries xs ≡ sequence.entries_after entries (sent_among xs)
noted_all_is entries [] = sym (after_from-none 0 entries)
noted_all_is entries (x ∷ xs) =
    noted_all_is (noted entries x) xs ∙ ap (λ (e : sequence.Entries). sequence.entries_after e (sent_among xs)) (noted_is entries x)
    ∙ sym (after-append entries (sent_in x) (sent_among xs))

-- the packets among items have channels of the eight
abbrev pub HasChannels : List Item → Type 0
HasChannels xs = (c : ℕ) (x : Item) → is_of c x ≡ true → Among x xs → c < 8

item_fits : (x : Item) (more : List sequence.Sent) → ((c : ℕ) → is_of c x ≡ true → c < 8) → AllHeadersFit more → AllHeadersFit (sent_in x ++ more)
unfolding sent_in
item_fits (Packet seen channel first place octets) others h fit = (header-fits channel octets (h channel (eq-eqb channel channel refl)), fit)
item_fits _ others h fit = fit

all_fit : (xs : List Item) → HasChannels xs → AllHeadersFit (sent_among xs)
all_fit [] h = tt
all_fit (x ∷ xs) h = item_fits x (sent_among xs) (λ c own. h c x own (inl refl)) (all_fit xs (λ c y own a. h c y own (inr a)))

-- the item has the first of the notes that follow, if it is a packet
module _ {A : Type 0} (text : Texts A) (entries : sequence.Entries) (more : List Item) where
  one_is : (x : Item) (others : List (List Note))
      → piece_of text entries x ∷ pieces_with text others more
      ≡ pieces_with text (sequence.notes entries (sent_in x) ++ others) (x ∷ more)
  unfolding sent_in report_of report_with notes_of
  one_is (Packet seen channel first place octets) others =
      ap (λ (notes : List Note). record {
        out = text.out (Packet seen channel first place octets);
        report = report_with notes (Packet seen channel first place octets) ++ text.remark (Packet seen channel first place octets);
      }
      ∷ pieces_with text others more)
      (append-nil (sequence.notes_at entries [] (sent channel octets) []))
  one_is _ others = refl

-- the pieces of items have the notes of all their packets
pub pieces_noted : {A : Type 0} (text : Texts A) (entries : sequence.Entries) (xs : List Item) → AreValidEntries entries → HasChannels xs
    → pieces_of text entries xs ≡ pieces_with text (sequence.notes entries (sent_among xs)) xs
pieces_noted text entries [] valid h = refl
pieces_noted {A} text entries (x ∷ xs) valid h =
    let own : (c : ℕ) → is_of c x ≡ true → c < 8 = λ c here. h c x here (inl refl) in
    let others : HasChannels xs = λ c y here a. h c y here (inr a) in
    let joined : sequence.notes entries (sent_among (x ∷ xs)) ≡ sequence.notes entries (sent_in x) ++ sequence.notes (noted entries x) (sent_among xs) =
    notes-append entries (sent_in x) (sent_among xs) valid (all_fit xs others)
    ∙ ap (λ (e : sequence.Entries). sequence.notes entries (sent_in x) ++ sequence.notes e (sent_among xs)) (sym (noted_is entries x)) in
    ap (λ (ps : List (Piece A)). piece_of text entries x ∷ ps) (pieces_noted text (noted entries x) xs (noted-valid entries x valid own) others)
    ∙ one_is text entries xs x (sequence.notes (noted entries x) (sent_among xs))
    ∙ ap (λ (ns : List (List Note)). pieces_with text ns (x ∷ xs)) (sym joined)

-- what holds of each item of a closed end
module _ (P : Item → Type 0) (short : (seen octets : ℕ) → P (Short seen octets))
    (dropped : (seen channel first place octets : ℕ) (reason : Reason) → P (Dropped seen channel first place octets reason)) where
  tail-each : (number channel : ℕ) (tail : Option Tail) → Each P (close_tail number channel tail)
  tail-each number channel None = tt
  tail-each number channel (Some t) = (dropped number channel t.first t.place (length t.octets) Close, tt)

  channels-each : (number channel : ℕ) (lasts : List (Option Last)) → Each P (close_channels number channel lasts)
  channels-each number channel [] = tt
  channels-each number channel (None ∷ lasts) = channels-each number (channel + 1) lasts
  channels-each number channel (Some last ∷ lasts) =
      Each-append P (close_tail number channel last.tail) (close_channels number (channel + 1) lasts) (tail-each number channel last.tail)
      (channels-each number (channel + 1) lasts)

  pub closing-each : (s : State) (rest : ℕ) → Each P (closing s rest)
  closing-each s rest =
      Each-append P (if nat_lt 0 rest then Short s.records rest ∷ [] else []) (close_channels s.records 0 s.channels)
      (Each-cond P (nat_lt 0 rest) (Short s.records rest ∷ []) (λ e. (short s.records rest, tt))) (channels-each s.records 0 s.channels)

-- no packet is given there
none_sent : (xs : List Item) → Each (λ x. sent_in x ≡ []) xs → sent_among xs ≡ []
none_sent [] h = refl
none_sent (x ∷ xs) h = rw h.0 (none_sent xs h.1)

none_closing : (s : State) (rest : ℕ) → sent_among (closing s rest) ≡ []
unfolding sent_in
none_closing s rest =
    none_sent (closing s rest) (closing-each (λ x. sent_in x ≡ []) (λ seen octets. refl) (λ seen channel first place octets reason. refl) s rest)

-- so the groups that are open there are those of all packets
pub open_is : (entries : sequence.Entries) (s : State) (rest : ℕ) → noted_all entries (closing s rest) ≡ entries
open_is entries s rest =
    noted_all_is entries (closing s rest) ∙ ap (sequence.entries_after entries) (none_closing s rest) ∙ after_from-none 0 entries
