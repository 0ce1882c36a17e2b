-- The numbers of lists with one more in them.
use Rattle.std.proofs.Common.{◌≡◌, ◌≢◌, ℕ, ◌+◌, ◌<◌, Bool, true, false, List, [], ◌∷◌, ◌++◌, length, refl, sym, ap, ◌∙◌, arith, append-nil, ne_eqb, eq-eqb}
use Rattle.std.specs.Prelude.{◌==◌, filter, if◌then◌else◌}
use Rattle.std.proofs.lemmas.List.Elements.{filter-append}
use Rattle.std.proofs.lemmas.List.Sums.{sum_by_push, sum_by-cons, fold_push}
use Rattle.tm_frame.specs.Frame.{GoodFrame, is_vca_kind}
use Rattle.tm_packet.specs.declared.notes.Note.{Note}
use Rattle.tm_packet.specs.declared.notes.Note.TheVariants as note
use Rattle.tm_items.specs.declared.items.Reason.{Reason}
use Rattle.tm_items.specs.declared.items.Reason.TheVariants as why
use Rattle.tm_items.specs.Item.{Item, Gap, Vca, Dropped, Packet, seen_of}
use Rattle.tm_summary.specs.declared.channel.Loss.{Loss}
use Rattle.tm_summary.specs.Adding.{drop_more, frame_more, gap_more, loss_more, more_at, no_loss, note_more, packet_more, whole_more}
use Rattle.tm_items.specs.Reasons.{reason_place}
use Rattle.tm_summary.specs.Kinds.{is_idle_kind, is_joined_kind, drop_octets, has_reason}
use Rattle.tm_summary.specs.SummaryNumbers.{application_of, capped, channel_counts, count_capped, first_seen, how_many, in_all, joined_frames, loss_of, for_numbers}
use Rattle.tm_summary.proofs.Tables.{table-more, table-same}

-- ---- sums and filters

module _ {A : Type 0} where
  pub in_all_more : (part : A → ℕ) (xs : List A) (x : A) → in_all part (xs ++ x ∷ []) ≡ capped (in_all part xs + part x)
  unfolding in_all
  in_all_more part xs x = rw (sum_by_push part xs x) (omega arith)

  pub in_all_same : (part : A → ℕ) (xs : List A) (x : A) → part x ≡ 0 → in_all part (xs ++ x ∷ []) ≡ in_all part xs
  unfolding in_all
  in_all_same part xs x none = rw (sum_by_push part xs x, none) (omega arith)

  pub filter_yes : (test : A → Bool) (xs : List A) (x : A) → test x ≡ true → filter test (xs ++ x ∷ []) ≡ filter test xs ++ x ∷ []
  filter_yes test xs x passes = filter-append test xs (x ∷ []) ∙ rw passes refl

  pub filter_no : (test : A → Bool) (xs : List A) (x : A) → test x ≡ false → filter test (xs ++ x ∷ []) ≡ filter test xs
  filter_no test xs x fails = filter-append test xs (x ∷ []) ∙ rw fails (append-nil (filter test xs))

  how_many_by : (test : A → Bool) (xs : List A) (x : A) (b : Bool) → test x ≡ b
      → how_many test (xs ++ x ∷ []) ≡ (if b then capped (how_many test xs + 1) else how_many test xs)
  how_many_by test xs x true is = in_all_more (λ y. if test y then 1 else 0) xs x ∙ rw is refl
  how_many_by test xs x false is = in_all_same (λ y. if test y then 1 else 0) xs x (rw is refl)

  pub how_many_more : (test : A → Bool) (xs : List A) (x : A)
      → how_many test (xs ++ x ∷ []) ≡ (if test x then capped (how_many test xs + 1) else how_many test xs)
  how_many_more test xs x = how_many_by test xs x (test x) refl

  -- a table of what passes a test for each number, where one thing more passes one of the tests
  pub table_filtered : {B : Type 0} (n : ℕ) (test : ℕ → A → Bool) (value : ℕ → List A → B) (xs : List A) (x : A) (place : ℕ) (none : B) (more : B → B)
      → ((c : ℕ) → test c x ≡ (place == c)) → place < n → ((ys : List A) → value place (ys ++ x ∷ []) ≡ more (value place ys))
      → for_numbers n (λ c. value c (filter (test c) (xs ++ x ∷ []))) ≡ more_at (for_numbers n (λ c. value c (filter (test c) xs))) place none more
  table_filtered n test value xs x place none more own below gives =
      table-more n place (λ c. value c (filter (test c) (xs ++ x ∷ []))) (λ c. value c (filter (test c) xs)) none more
      (λ c other. ap (value c) (filter_no (test c) xs x (own c ∙ ne_eqb place c (λ e. other (sym e)))))
      below
      (ap (value place) (filter_yes (test place) xs x (own place ∙ eq-eqb place place refl)) ∙ gives (filter (test place) xs))

  pub counted_more : (xs : List A) (x : A) → count_capped (xs ++ x ∷ []) ≡ capped (count_capped xs + 1)
  counted_more xs x = in_all_more (λ y. 1) xs x

  -- something is counted
  some_counted : (x : A) (xs : List A) → 0 < count_capped (x ∷ xs)
  unfolding in_all
  some_counted x xs = rw (sum_by-cons (λ y. 1) x xs) (omega arith)

-- an item or a note more, whose tests compute
pub ruleset with_one = (in_all_same, filter_no, in_all_more)

-- ---- records of numbers, part by part

abbrev loss : ℕ → ℕ → Loss
loss parts octets = record { parts = parts; octets = octets }

loss_is : {parts parts' octets octets' : ℕ} → parts ≡ parts' → octets ≡ octets' → loss parts octets ≡ loss parts' octets'
loss_is a b = rw (a, b) refl

place_below : (reason : Reason) → reason_place reason < 7
place_below why.Pointer = omega arith
place_below _ = omega arith

-- ---- a channel with one frame or item more

module _ (frames : List GoodFrame) (items : List Item) where
  abbrev field_octets : List GoodFrame → ℕ
  field_octets fs = in_all (λ (g : GoodFrame). length g.field) fs

  joined_known : (f : GoodFrame) (b : Bool) → is_joined_kind f.kind ≡ b
      → field_octets (joined_frames (frames ++ f ∷ [])) ≡ (if b then capped (field_octets (joined_frames frames) + length f.field) else field_octets (joined_frames frames))
  joined_known f true is =
      ap field_octets (filter_yes (λ (g : GoodFrame). is_joined_kind g.kind) frames f is) ∙ in_all_more (λ (g : GoodFrame). length g.field) (joined_frames frames) f
  joined_known f false is = ap field_octets (filter_no (λ (g : GoodFrame). is_joined_kind g.kind) frames f is)

  pub channel_frame : (f : GoodFrame) → channel_counts (frames ++ f ∷ []) items ≡ frame_more (channel_counts frames items) f.kind (length f.field)
  channel_frame f =
      rw (
        counted_more frames f,
        how_many_more (λ (g : GoodFrame). is_idle_kind g.kind) frames f,
        how_many_more (λ (g : GoodFrame). is_vca_kind g.kind) frames f,
        joined_known f (is_joined_kind f.kind) refl,
      ) refl

  -- where no part is lost, none is lost for any reason
  losses-same : (x : Item) → ((n : ℕ) → has_reason n x ≡ false) → for_numbers 7 (loss_of (items ++ x ∷ [])) ≡ for_numbers 7 (loss_of items)
  losses-same x none =
      table-same 7 (loss_of (items ++ x ∷ [])) (loss_of items)
      (λ n. loss_is (in_all_same (λ y. if has_reason n y then 1 else 0) items x (rw (none n) refl)) (ap (in_all drop_octets) (filter_no (has_reason n) items x (none n))))

  pub channel_gap : (seen channel expected found missing : ℕ)
      → channel_counts frames (items ++ Gap seen channel expected found missing ∷ []) ≡ gap_more (channel_counts frames items) missing
  channel_gap seen channel expected found missing = rw (losses-same (Gap seen channel expected found missing) (λ n. refl)) (simp with_one)

  pub channel_vca : (seen channel : ℕ) → channel_counts frames (items ++ Vca seen channel ∷ []) ≡ channel_counts frames items
  channel_vca seen channel = rw (losses-same (Vca seen channel) (λ n. refl)) (simp with_one)

  pub channel_packet : (seen channel first place : ℕ) (octets : List ℕ)
      → channel_counts frames (items ++ Packet seen channel first place octets ∷ []) ≡ packet_more (channel_counts frames items) (length octets)
  channel_packet seen channel first place octets = rw (losses-same (Packet seen channel first place octets) (λ n. refl)) (simp with_one)

  module _ (seen channel first place octets : ℕ) (reason : Reason) where
    abbrev dropped : Item
    dropped = Dropped seen channel first place octets reason

    other_loss : (j : ℕ) → j ≢ reason_place reason → loss_of (items ++ dropped ∷ []) j ≡ loss_of items j
    other_loss j other =
        let differs : (reason_place reason == j) ≡ false = ne_eqb (reason_place reason) j (λ e. other (sym e)) in
        loss_is (in_all_same (λ y. if has_reason j y then 1 else 0) items dropped (rw differs refl)) (ap (in_all drop_octets) (filter_no (has_reason j) items dropped differs))

    own_loss : loss_of (items ++ dropped ∷ []) (reason_place reason) ≡ loss_more (loss_of items (reason_place reason)) octets
    own_loss =
        let same : (reason_place reason == reason_place reason) ≡ true = eq-eqb (reason_place reason) (reason_place reason) refl in
        loss_is
        (in_all_more (λ y. if has_reason (reason_place reason) y then 1 else 0) items dropped ∙ rw same refl)
        (ap (in_all drop_octets) (filter_yes (has_reason (reason_place reason)) items dropped same) ∙ in_all_more drop_octets (filter (has_reason (reason_place reason)) items) dropped)

    pub channel_drop : channel_counts frames (items ++ dropped ∷ []) ≡ drop_more (channel_counts frames items) octets reason
    channel_drop =
        rw (table-more 7 (reason_place reason) (loss_of (items ++ dropped ∷ [])) (loss_of items) no_loss (λ l. loss_more l octets)
        other_loss (place_below reason) own_loss) (simp with_one)

-- ---- a channel and application with one packet or note more

first_more : (packets : List Item) (x : Item) → first_seen (packets ++ x ∷ []) ≡ (if count_capped packets == 0 then seen_of x else first_seen packets)
unfolding in_all
first_more [] x = refl
first_more (p ∷ ps) x =
    let some : (count_capped (p ∷ ps) == 0) ≡ false = ne_eqb (count_capped (p ∷ ps)) 0 (λ e. omega (arith, some_counted p ps, e)) in rw some refl

pub application_packet : (packets : List Item) (notes : List Note) (seen channel first place : ℕ) (octets : List ℕ)
    → application_of (packets ++ Packet seen channel first place octets ∷ []) notes ≡ whole_more (application_of packets notes) seen (length octets)
application_packet packets notes seen channel first place octets =
    rw (
      first_more packets (Packet seen channel first place octets),
      fold_push (λ (before : ℕ) (x : Item). seen_of x) 0 packets (Packet seen channel first place octets),
    ) (simp with_one)

pub notes_more : (packets : List Item) (notes : List Note) (n : Note)
    → application_of packets (notes ++ n ∷ []) ≡ note_more (application_of packets notes) n
notes_more packets notes (note.Gap expected found missing) = simp with_one
notes_more packets notes (note.Broken first last why) = simp with_one
notes_more packets notes (note.Whole first last) = simp with_one
notes_more packets notes (note.Stray count flags) = simp with_one
