-- The work of a job is always one that a job may have: when it begins, and after more records.
use Rattle.std.proofs.Common.{◌≡◌, inl, inr, ℕ, ◌+◌, ◌^◌, ◌<◌, true, List, [], ◌∷◌, length, refl, subst, eq-eqb}
use Rattle.tm_packet.specs.Valid as valid
use Rattle.tm_packet.proofs.AfterValid.{header-range, header-fits, after-valid}
use Rattle.tm_packet.proofs.States.{valid-none}
use Rattle.tm_items.specs.Among.{Among, is_of}
use Rattle.tm_items.specs.Item.{Item, Packet}
use Rattle.tm_frame.specs.Rules.{Rules, IsLimit}
use Rattle.tm_reassembly.specs.Valid.{AllOctets}
use Rattle.tm_reassembly.proofs.ItemChannels.{item-channel}
use Rattle.tm_reassembly.proofs.States.{empty-valid, records-valid}
use Rattle.tm_checkpoint.specs.Works.{IsWork, new_job, Work}
use Rattle.tm_packet.specs.Merge.{Entries}
use Rattle.tm_output.specs.Pieces.{sent, noted, noted_all}
use Rattle.tm_tool.specs.RecordingPieces.{items_of, worked}

-- an item whose channel is one of eight leaves the entries valid
pub noted-valid : (entries : Entries) (x : Item) → valid.AreValidEntries entries → ((c : ℕ) → is_of c x ≡ true → c < 8) → valid.AreValidEntries (noted entries x)
unfolding noted
noted-valid entries (Packet seen channel first place octets) v h =
    after-valid entries (sent channel octets) v (header-fits channel octets (h channel (eq-eqb channel channel refl))) (header-range octets).count
noted-valid entries _ v h = v

-- and so do items
pub noted_all-valid : (entries : Entries) (xs : List Item) → valid.AreValidEntries entries
    → ((c : ℕ) (x : Item) → is_of c x ≡ true → Among x xs → c < 8) → valid.AreValidEntries (noted_all entries xs)
noted_all-valid entries [] v h = v
noted_all-valid entries (x ∷ xs) v h =
    noted_all-valid (noted entries x) xs (noted-valid entries x v (λ c own. h c x own (inl refl))) (λ c y own a. h c y own (inr a))

-- the work after more records
pub worked-work : (w : Work) (rs : List (List ℕ)) → IsWork w → AllOctets rs → w.state.records + length rs < 2 ^ 32 → IsWork (worked w rs)
worked-work w rs v octets most = record {
  eight = v.eight;
  state = records-valid w.rules w.state rs v.state octets most;
  entries = noted_all-valid w.entries (items_of w rs) v.entries
      (λ c x own a. subst (λ (n : ℕ). c < n) v.eight (item-channel w.rules w.state rs c x own a));
}

-- the work of a new job
pub begun-work : (rules : Rules) → length rules.channels ≡ 8 → IsLimit rules.max_packet → IsWork (new_job rules).work
begun-work rules h range = record { eight = h; state = empty-valid rules range; entries = valid-none }
