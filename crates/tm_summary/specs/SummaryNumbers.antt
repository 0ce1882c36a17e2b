-- The numbers of a summary, each of whole lists: how many are of a kind, or the sum of a part of them.
use Rattle.std.specs.Prelude.{ℕ, zero, suc, ◌+◌, ◌==◌, Bool, List, [], ◌∷◌, ◌++◌, length, map, filter, fold, sum_by, if◌then◌else◌}
use Rattle.tm_frame.specs.Frame.{GoodFrame, is_vca_kind}
use Rattle.tm_items.specs.Item.{Item, seen_of}
use Rattle.tm_packet.specs.declared.notes.Note.{Note}
pub use Rattle.tm_output.specs.Totals.{capped}
use Rattle.tm_summary.specs.declared.application.ApplicationCounts.{ApplicationCounts}
use Rattle.tm_summary.specs.declared.channel.ChannelCounts.{ChannelCounts}
use Rattle.tm_summary.specs.declared.channel.Loss.{Loss}
use Rattle.tm_summary.specs.Kinds.{Noted, is_idle_kind, is_joined_kind, is_bad, has_fault, master_missing, rest_octets, is_gap, gap_missing, packet_item_length, is_drop, drop_octets, has_reason, has_key, is_sequence_gap, sequence_missing, is_whole_group, is_broken, is_stray}
use Rattle.tm_items.specs.Among.{is_packet_item, is_master_gap, is_of}

-- the sum of a part of each
unfoldable pub in_all : {A : Type 0} → (A → ℕ) → List A → ℕ
in_all part xs = capped (sum_by part xs)

-- how many there are
abbrev pub count_capped : {A : Type 0} → List A → ℕ
count_capped xs = in_all (λ x. 1) xs

-- how many pass a test
abbrev pub how_many : {A : Type 0} → (A → Bool) → List A → ℕ
how_many test xs = in_all (λ x. if test x then 1 else 0) xs

-- the numbers below this one
abbrev pub below : ℕ → List ℕ
below zero = []
below (suc n) = below n ++ n ∷ []

-- a value for each of so many numbers
unfoldable pub for_numbers : {A : Type 0} → ℕ → (ℕ → A) → List A
for_numbers n value = map value (below n)

-- what is lost for the reason of a number
abbrev pub loss_of : List Item → ℕ → Loss
loss_of items n = record {
  parts = how_many (has_reason n) items;
  octets = in_all drop_octets (filter (has_reason n) items);
}

-- the good frames whose data fields are joined
abbrev pub joined_frames : List GoodFrame → List GoodFrame
joined_frames frames = filter (λ f. is_joined_kind f.kind) frames

-- a channel that had these good frames and these items
abbrev pub channel_counts : List GoodFrame → List Item → ChannelCounts
channel_counts frames items = record {
  frames = count_capped frames;
  idle = how_many (λ f. is_idle_kind f.kind) frames;
  vca = how_many (λ f. is_vca_kind f.kind) frames;
  gaps = how_many is_gap items;
  missing = in_all gap_missing items;
  packets = how_many is_packet_item items;
  octets = in_all packet_item_length items;
  dropped = how_many is_drop items;
  lost = in_all drop_octets items;
  data_octets = in_all (λ f. length f.field) (joined_frames frames);
  losses = for_numbers 7 (loss_of items);
}

-- the record that completed the first packet, and the last one; 0 where there is none
abbrev pub first_seen : List Item → ℕ
first_seen [] = 0
first_seen (x ∷ xs) = seen_of x

abbrev pub last_seen : List Item → ℕ
last_seen packets = fold (λ before x. seen_of x) 0 packets

-- a channel and application that had these packets and these notes
abbrev pub application_of : List Item → List Note → ApplicationCounts
application_of packets notes = record {
  packets = count_capped packets;
  octets = in_all packet_item_length packets;
  first = first_seen packets;
  last = last_seen packets;
  gaps = how_many is_sequence_gap notes;
  missing = in_all sequence_missing notes;
  groups = how_many is_whole_group notes;
  broken = how_many is_broken notes;
  strays = how_many is_stray notes;
}

-- what a summary is made of: the good frames of all channels, the items, and the notes
pub record Tally : Type 0 where
  pub frames : List GoodFrame
  pub items : List Item
  pub notes : List Noted

abbrev pub nothing : Tally
nothing = record { frames = []; items = []; notes = [] }

-- with one thing more
abbrev pub and_frame : Tally → GoodFrame → Tally
and_frame t f = record { frames = t.frames ++ f ∷ []; items = t.items; notes = t.notes }

abbrev pub and_item : Tally → Item → Tally
and_item t x = record { frames = t.frames; items = t.items ++ x ∷ []; notes = t.notes }

abbrev pub and_note : Tally → Noted → Tally
and_note t n = record { frames = t.frames; items = t.items; notes = t.notes ++ n ∷ [] }

-- those of one channel, and of one channel and application
abbrev pub frames_of : ℕ → List GoodFrame → List GoodFrame
frames_of channel frames = filter (λ f. f.channel == channel) frames

abbrev pub items_on : ℕ → List Item → List Item
items_on channel items = filter (is_of channel) items

abbrev pub packets_of : ℕ → List Item → List Item
packets_of key items = filter (has_key key) items

abbrev pub notes_at_key : ℕ → List Noted → List Note
notes_at_key key notes = map (λ n. n.note) (filter (λ n. n.key == key) notes)

-- the numbers of the good frames, of the bad ones and each of their faults, of the octets that are left, of the master channel,
-- and of each channel. Those of each channel and application stand at 2048 times the channel plus the application
pub record SummaryNumbers : Type 0 where
  pub good : ℕ
  pub bad : ℕ
  pub rest : ℕ
  pub faults : List ℕ
  pub master_gaps : ℕ
  pub master_missing : ℕ
  pub channels : List ChannelCounts
  pub applications : List ApplicationCounts

abbrev pub numbers_of : Tally → SummaryNumbers
numbers_of t = record {
  good = count_capped t.frames;
  bad = how_many is_bad t.items;
  rest = in_all rest_octets t.items;
  faults = for_numbers 8 (λ n. how_many (has_fault (n + 1)) t.items);
  master_gaps = how_many is_master_gap t.items;
  master_missing = in_all master_missing t.items;
  channels = for_numbers 8 (λ c. channel_counts (frames_of c t.frames) (items_on c t.items));
  applications = for_numbers 16384 (λ key. application_of (packets_of key t.items) (notes_at_key key t.notes));
}
