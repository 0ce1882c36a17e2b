-- The numbers of a table add up to the number of all.
use Rattle.std.proofs.Common.{◌≡◌, ◌≢◌, ◌<◌, ◌≤◌, ◌+◌, ◌-◌, ◌^◌, ℕ, zero, suc, ◌/◌, Bool, true, false, List, [], ◌∷◌, length, map, get_or, refl, sym, ap, subst, ◌∙◌, arith, ⊎_elim, ne_eqb, eq-eqb, lt-ltb}
use Rattle.std.specs.Prelude.{◌==◌, nat_lt, filter, sum, sum_by, if◌then◌else◌}
use Rattle.std.proofs.lemmas.Bool.{cases_eq, cases_lt}
use Rattle.std.proofs.lemmas.List.Sums.{sum-map, sum_by-cons, sum_by_push}
use Rattle.tm_frame.specs.declared.fault.FrameFault.TheVariants as fault
use Rattle.tm_packet.specs.Header.{packet_header_of}
use Rattle.tm_packet.specs.Merge.{pair_key}
use Rattle.tm_packet.proofs.AfterValid.{header-range}
use Rattle.tm_items.specs.declared.items.Reason.{Reason}
use Rattle.tm_items.specs.declared.items.Reason.TheVariants as why
use Rattle.tm_items.specs.Item.{Item, Bad, Dropped, Packet}
use Rattle.tm_items.specs.Among.{is_packet_item, is_of}
use Rattle.tm_summary.specs.declared.application.ApplicationCounts.{ApplicationCounts}
use Rattle.tm_summary.specs.declared.channel.ChannelCounts.{ChannelCounts}
use Rattle.tm_summary.specs.declared.channel.Loss.{Loss}
use Rattle.tm_summary.specs.Adding.{no_application, no_channel, no_loss}
use Rattle.tm_items.specs.Reasons.{reason_place}
use Rattle.tm_summary.specs.Kinds.{drop_octets, has_fault, has_key, has_reason, is_bad, is_drop, packet_item_length}
use Rattle.tm_summary.specs.Lines.{application_keys, fault_places, loss_places, places_counted}
use Rattle.tm_summary.specs.SummaryNumbers.{Tally, application_of, below, capped, channel_counts, count_capped, for_numbers, frames_of, how_many, in_all, items_on, loss_of, notes_at_key, numbers_of, packets_of}
use Rattle.tm_summary.specs.Sums.{IsBelowGreatest, application_counts, counts_on, fault_counts, loss_counts}
use Rattle.tm_summary.proofs.Tables.{table-get, table-same}

-- ---- sums over the numbers below one

values_sum : {A : Type 0} (part : A → ℕ) (f : ℕ → A) (ks : List ℕ) → sum_by part (map f ks) ≡ sum_by (λ k. part (f k)) ks
values_sum part f [] = refl
values_sum part f (k ∷ ks) =
    sum_by-cons part (f k) (map f ks) ∙ ap (λ (n : ℕ). part (f k) + n) (values_sum part f ks) ∙ sym (sum_by-cons (λ (j : ℕ). part (f j)) k ks)

total_same : (f g : ℕ → ℕ) (n : ℕ) → ((k : ℕ) → k < n → f k ≡ g k) → sum_by f (below n) ≡ sum_by g (below n)
total_same f g zero same = refl
total_same f g (suc n) same =
    rw (sum_by_push f (below n) n, sum_by_push g (below n) n)
    (omega (arith, total_same f g n (λ k h. same k (omega arith)), same n (omega arith)))

total_none : (f : ℕ → ℕ) (n : ℕ) → ((k : ℕ) → k < n → f k ≡ 0) → sum_by f (below n) ≡ 0
total_none f zero none = refl
total_none f (suc n) none = sum_by_push f (below n) n ∙ omega (arith, total_none f n (λ k h. none k (omega arith)), none n (omega arith))

-- one of them has all
total_only : (f : ℕ → ℕ) (place part n : ℕ) → ((k : ℕ) → k < n → k ≢ place → f k ≡ 0) → place < n → f place ≡ part → sum_by f (below n) ≡ part
total_only f place part zero others h here = absurd (omega arith)
total_only f place part (suc n) others h here =
    sum_by_push f (below n) n
    ∙ ⊎_elim
    (λ (less : place < n).
    let last : f n ≡ 0 = others n (omega arith) (λ (e : n ≡ place). omega arith) in
    omega (arith, total_only f place part n (λ k inside other. others k (omega arith) other) less here, last))
    (λ (more : n ≤ place).
    let same : n ≡ place = omega (arith, h, more) in
    omega (arith, total_none f n (λ k inside. others k (omega arith) (λ (e : k ≡ place). omega arith)), ap f same ∙ here))
    (cases_lt place n)

total_both : (f g : ℕ → ℕ) (n : ℕ) → sum_by (λ k. f k + g k) (below n) ≡ sum_by f (below n) + sum_by g (below n)
total_both f g zero = refl
total_both f g (suc n) =
    rw (sum_by_push (λ k. f k + g k) (below n) n, sum_by_push f (below n) n, sum_by_push g (below n) n) (omega (arith, total_both f g n))

-- where the sum is below the greatest, so is each
total_capped : (f : ℕ → ℕ) (n : ℕ) → sum_by f (below n) < 2 ^ 64 - 1 → sum_by (λ k. capped (f k)) (below n) ≡ sum_by f (below n)
total_capped f zero few = refl
total_capped f (suc n) few =
    let all : sum_by f (below n) + f n < 2 ^ 64 - 1 = rw (sum_by_push f (below n) n) at few in
    let before : sum_by (λ k. capped (f k)) (below n) ≡ sum_by f (below n) = total_capped f n (omega (arith, all)) in
    rw (sum_by_push (λ k. capped (f k)) (below n) n, sum_by_push f (below n) n) (omega (arith, before, all))

-- over numbers and things, or over things and numbers
exchanged : {A : Type 0} (table : ℕ → A → ℕ) (whole : A → ℕ) (n : ℕ) → ((x : A) → sum_by (λ k. table k x) (below n) ≡ whole x) → (xs : List A)
    → sum_by (λ k. sum_by (table k) xs) (below n) ≡ sum_by whole xs
exchanged table whole n each [] = total_none (λ k. 0) n (λ k h. refl)
exchanged table whole n each (x ∷ xs) =
    total_same (λ k. sum_by (table k) (x ∷ xs)) (λ k. table k x + sum_by (table k) xs) n (λ k h. sum_by-cons (table k) x xs)
    ∙ total_both (λ k. table k x) (λ k. sum_by (table k) xs) n
    ∙ omega (arith, each x, exchanged table whole n each xs, sum_by-cons whole x xs)

-- ---- tables

-- each number is of a part of what is there, and each thing is of one of the parts
table_added : {A : Type 0} (f : ℕ → ℕ) (table : ℕ → A → ℕ) (whole : A → ℕ) (n : ℕ) (xs : List A)
    → ((k : ℕ) → k < n → f k ≡ in_all (table k) xs) → ((x : A) → sum (for_numbers n (λ k. table k x)) ≡ whole x)
    → IsBelowGreatest (in_all whole xs) → sum_by f (below n) ≡ in_all whole xs
unfolding for_numbers in_all
table_added {A} f table whole n xs are each count =
    let one : (x : A) → sum_by (λ k. table k x) (below n) ≡ whole x = λ x. sym (sum-map (λ (k : ℕ). table k x) (below n)) ∙ each x in
    let all : sum_by (λ k. sum_by (table k) xs) (below n) ≡ sum_by whole xs = exchanged table whole n one xs in
    total_same f (λ k. capped (sum_by (table k) xs)) n are
    ∙ total_capped (λ k. sum_by (table k) xs) n (omega (arith, all, count))
    ∙ all
    ∙ omega (arith, count)

module _ {A : Type 0} (test : A → Bool) (part : A → ℕ) where
  -- one thing in front, whether it passes or not
  filter_step : (x : A) (xs : List A) (b : Bool) → sum_by part (if b then x ∷ xs else xs) ≡ (if b then part x else 0) + sum_by part xs
  filter_step x xs true = sum_by-cons part x xs
  filter_step x xs false = omega arith

  filter_sum : (xs : List A) → sum_by part (filter test xs) ≡ sum_by (λ x. if test x then part x else 0) xs
  filter_sum [] = refl
  filter_sum (x ∷ xs) =
      filter_step x (filter test xs) (test x)
      ∙ ap (λ (m : ℕ). (if test x then part x else 0) + m) (filter_sum xs)
      ∙ sym (sum_by-cons (λ (y : A). if test y then part y else 0) x xs)

  -- the sum over those that pass
  pub filter_all : (xs : List A) → in_all part (filter test xs) ≡ in_all (λ x. if test x then part x else 0) xs
  unfolding in_all
  filter_all xs = ap capped (filter_sum xs)

-- where nothing is counted, nothing adds up
none_counted : {A : Type 0} (part : A → ℕ) (xs : List A) → count_capped xs ≡ 0 → in_all part xs ≡ 0
unfolding in_all
none_counted part [] none = refl
none_counted part (x ∷ xs) none = absurd (omega (arith, sum_by-cons (λ y. 1) x xs, none))

none_added : {A : Type 0} (xs : List A) → in_all (λ x. 0) xs ≡ 0
unfolding in_all
none_added [] = refl
none_added (x ∷ xs) = omega (arith, sum_by-cons (λ y. 0) x xs, none_added xs)

-- what is left out where there is nothing of it
shown : (n m : ℕ) → (n ≡ 0 → m ≡ 0) → (if nat_lt 0 n then m else 0) ≡ m
shown zero m none = sym (none refl)
shown (suc n) m none =
    let some : 0 < suc n = omega arith in
    rw (lt-ltb 0 (suc n) some) refl

-- the same, over the places that have a line, where the others have nothing
lines_added : {A : Type 0} (counted f : ℕ → ℕ) (table : ℕ → A → ℕ) (whole : A → ℕ) (n : ℕ) (xs : List A)
    → ((k : ℕ) → k < n → f k ≡ in_all (table k) xs) → ((k : ℕ) → k < n → counted k ≡ 0 → f k ≡ 0)
    → ((x : A) → sum (for_numbers n (λ k. table k x)) ≡ whole x)
    → IsBelowGreatest (in_all whole xs) → sum_by f (places_counted n counted) ≡ in_all whole xs
unfolding places_counted
lines_added {A} counted f table whole n xs are none each count =
    filter_sum (λ k. nat_lt 0 (counted k)) f (below n)
    ∙ table_added (λ k. if nat_lt 0 (counted k) then f k else 0) table whole n xs (λ k h. shown (counted k) (f k) (none k h) ∙ are k h) each count

-- ---- each item is of one fault, of one reason, or of one application of its channel

fault_each : (x : Item) → sum (for_numbers 8 (λ k. if has_fault (k + 1) x then 1 else 0)) ≡ (if is_bad x then 1 else 0)
unfolding for_numbers
fault_each (Bad seen fault.Crc) = refl
fault_each (Bad seen _) = refl
fault_each _ = refl

-- so much for a part of any reason
reason_part : (n : ℕ) (reason : Reason) → sum (for_numbers 7 (λ k. if reason_place reason == k then n else 0)) ≡ n
unfolding for_numbers
reason_part n why.Pointer = omega arith
reason_part n _ = omega arith

none_each : (n : ℕ) → sum (for_numbers n (λ k. 0)) ≡ 0
unfolding for_numbers
none_each n = sum-map (λ (k : ℕ). 0) (below n) ∙ total_none (λ k. 0) n (λ k h. refl)

parts_each : (x : Item) → sum (for_numbers 7 (λ k. if has_reason k x then 1 else 0)) ≡ (if is_drop x then 1 else 0)
parts_each (Dropped seen channel first place octets reason) = reason_part 1 reason
parts_each _ = none_each 7

same_if : (b : Bool) (n : ℕ) → (if b then n else n) ≡ n
same_if true n = refl
same_if false n = refl

octets_each : (x : Item) → sum (for_numbers 7 (λ k. if has_reason k x then drop_octets x else 0)) ≡ drop_octets x
octets_each (Dropped seen channel first place octets reason) = reason_part octets reason
octets_each _ = none_each 7

-- so much for a packet of any application of a channel
module _ (channel own application part : ℕ) (inside : application < 2048) where
  abbrev key : ℕ
  key = pair_key own application

  abbrev keyed_part : ℕ → ℕ
  keyed_part k = if k / 2048 == channel then (if key == k then part else 0) else 0

  own_key : key / 2048 ≡ own
  own_key = omega (arith, inside)

  part_elsewhere : (k : ℕ) → k ≢ key → keyed_part k ≡ 0
  part_elsewhere k other = rw (ne_eqb key k (λ e. other (sym e))) (same_if (k / 2048 == channel) 0)

  part_there : own ≡ channel → keyed_part key ≡ part
  part_there same = rw (eq-eqb (key / 2048) channel (own_key ∙ same), eq-eqb key key refl) refl

  no_part : own ≢ channel → (k : ℕ) → keyed_part k ≡ 0
  no_part differs k =
      ⊎_elim
      (λ (here : k ≡ key).
      let another : k / 2048 ≢ channel = λ e. differs (sym own_key ∙ ap (λ (n : ℕ). n / 2048) (sym here) ∙ e) in
      rw (ne_eqb (k / 2048) channel another) refl)
      (part_elsewhere k)
      (cases_eq k key)

  application_part : (n : ℕ) → 16384 ≤ n → channel < 8 → sum (for_numbers n keyed_part) ≡ (if own == channel then part else 0)
  unfolding for_numbers
  application_part n room few =
      sum-map keyed_part (below n)
      ∙ ⊎_elim
      (λ (same : own ≡ channel).
      rw (eq-eqb own channel same) (total_only keyed_part key part n (λ k h other. part_elsewhere k other) (omega (arith, same, room, few, inside)) (part_there same)))
      (λ (differs : own ≢ channel). rw (ne_eqb own channel differs) (total_none keyed_part n (λ k h. no_part differs k)))
      (cases_eq own channel)

module _ (channel : ℕ) where
  abbrev number_on : (Item → ℕ) → Item → ℕ
  number_on part x = if is_of channel x then part x else 0

  abbrev number_at : (Item → ℕ) → ℕ → Item → ℕ
  number_at part k x = if k / 2048 == channel then (if has_key k x then part x else 0) else 0

  none_at : (n : ℕ) → sum (for_numbers n (λ k. if k / 2048 == channel then 0 else 0)) ≡ 0
  none_at n = rw (table-same n (λ k. if k / 2048 == channel then 0 else 0) (λ k. 0) (λ k. same_if (k / 2048 == channel) 0)) (none_each n)

  packets_each : channel < 8 → (x : Item) → sum (for_numbers 16384 (λ k. number_at (λ y. 1) k x)) ≡ number_on (λ y. if is_packet_item y then 1 else 0) x
  packets_each few (Packet seen own first place octets) =
      application_part channel own (packet_header_of octets).application 1 ((header-range octets).application) 16384 (omega arith) few
  packets_each few _ = none_at 16384 ∙ simp same_if

  lengths_each : channel < 8 → (x : Item) → sum (for_numbers 16384 (λ k. number_at packet_item_length k x)) ≡ number_on packet_item_length x
  lengths_each few (Packet seen own first place octets) =
      application_part channel own (packet_header_of octets).application (length octets) ((header-range octets).application) 16384 (omega arith) few
  lengths_each few _ = none_at 16384 ∙ simp same_if

-- ---- what adds up

pub faults_added : (t : Tally) → IsBelowGreatest (numbers_of t).bad → sum (fault_counts (numbers_of t)) ≡ (numbers_of t).bad
faults_added t count =
    let faults : List ℕ = (numbers_of t).faults in
    sum-map (λ (place : ℕ). get_or faults place 0) (fault_places faults)
    ∙ lines_added (λ place. get_or faults place 0) (λ place. get_or faults place 0)
    (λ k x. if has_fault (k + 1) x then 1 else 0) (λ x. if is_bad x then 1 else 0) 8 t.items
    (λ k h. table-get 8 k (λ n. how_many (has_fault (n + 1)) t.items) 0 h) (λ k h none. none) fault_each count

module _ (t : Tally) (channel : ℕ) (below_eight : channel < 8) where
  abbrev own_items : List Item
  own_items = items_on channel t.items

  abbrev here : ChannelCounts
  here = channel_counts (frames_of channel t.frames) own_items

  -- the numbers of the channel
  pub counts_are : counts_on channel (numbers_of t) ≡ here
  counts_are = table-get 8 channel (λ c. channel_counts (frames_of c t.frames) (items_on c t.items)) no_channel below_eight

  abbrev lost_for : List Loss → ℕ → Loss
  lost_for losses place = get_or losses place no_loss

  -- a number of what is lost for each reason adds up to a number of the channel
  losses_added : (part : Loss → ℕ) (table : ℕ → Item → ℕ) (whole : Item → ℕ) (total : ChannelCounts → ℕ) → total here ≡ in_all whole own_items
      → ((k : ℕ) → part (loss_of own_items k) ≡ in_all (table k) own_items)
      → ((k : ℕ) → (loss_of own_items k).parts ≡ 0 → part (loss_of own_items k) ≡ 0)
      → ((x : Item) → sum (for_numbers 7 (λ k. table k x)) ≡ whole x)
      → IsBelowGreatest (total (counts_on channel (numbers_of t)))
      → sum_by part (loss_counts channel (numbers_of t)) ≡ total (counts_on channel (numbers_of t))
  losses_added part table whole total is are none each =
      let P : ChannelCounts → Type 0 = λ c. IsBelowGreatest (total c) → sum_by part (map (lost_for c.losses) (loss_places c.losses)) ≡ total c in
      let given : (k : ℕ) → k < 7 → lost_for here.losses k ≡ loss_of own_items k = λ k h. table-get 7 k (loss_of own_items) no_loss h in
      subst P (sym counts_are)
      (λ count.
      values_sum part (lost_for here.losses) (loss_places here.losses)
      ∙ lines_added (λ k. (lost_for here.losses k).parts) (λ k. part (lost_for here.losses k)) table whole 7 own_items
      (λ k h. ap part (given k h) ∙ are k)
      (λ k h no. ap part (given k h) ∙ none k (ap (λ (l : Loss). l.parts) (sym (given k h)) ∙ no))
      each (rw (sym is) count)
      ∙ sym is)

  pub parts_added : IsBelowGreatest (counts_on channel (numbers_of t)).dropped
      → sum_by (λ l. l.parts) (loss_counts channel (numbers_of t)) ≡ (counts_on channel (numbers_of t)).dropped
  parts_added =
      losses_added (λ (l : Loss). l.parts) (λ k x. if has_reason k x then 1 else 0) (λ x. if is_drop x then 1 else 0) (λ (c : ChannelCounts). c.dropped) refl
      (λ k. refl) (λ k none. none) parts_each

  pub lost_added : IsBelowGreatest (counts_on channel (numbers_of t)).lost
      → sum_by (λ l. l.octets) (loss_counts channel (numbers_of t)) ≡ (counts_on channel (numbers_of t)).lost
  lost_added =
      losses_added (λ (l : Loss). l.octets) (λ k x. if has_reason k x then drop_octets x else 0) drop_octets (λ (c : ChannelCounts). c.lost) refl
      (λ k. filter_all (has_reason k) drop_octets own_items)
      (λ k none. none_counted drop_octets (filter (has_reason k) own_items) (filter_all (has_reason k) (λ y. 1) own_items ∙ none))
      octets_each

  -- those of a channel and application
  abbrev application_at : ℕ → ApplicationCounts
  application_at k = application_of (packets_of k t.items) (notes_at_key k t.notes)

  abbrev given : ℕ → ApplicationCounts
  given k = get_or (numbers_of t).applications k no_application

  given_is : (k : ℕ) → k < 16384 → given k ≡ application_at k
  given_is k h = table-get 16384 k application_at no_application h

  -- a number of them, each of a part of the packets, adds up to a number of the channel
  module _ (part : ApplicationCounts → ℕ) (one : Item → ℕ) (are : (k : ℕ) → part (application_at k) ≡ in_all one (packets_of k t.items)) where
    part_is : (k : ℕ) → k < 16384 → (b : Bool)
        → (if b then part (given k) else 0) ≡ in_all (λ x. if b then (if has_key k x then one x else 0) else 0) t.items
    part_is k h true = ap part (given_is k h) ∙ are k ∙ filter_all (has_key k) one t.items
    part_is k h false = sym (none_added t.items)

    part_none : (k : ℕ) → k < 16384 → (given k).packets ≡ 0 → part (given k) ≡ 0
    part_none k h none =
        ap part (given_is k h) ∙ are k
        ∙ none_counted one (packets_of k t.items) (ap (λ (c : ApplicationCounts). c.packets) (sym (given_is k h)) ∙ none)

    keyed_added : (whole : Item → ℕ) (n : ℕ) → in_all whole own_items ≡ n
        → ((x : Item) → sum (for_numbers 16384 (λ k. number_at channel one k x)) ≡ number_on channel whole x)
        → IsBelowGreatest n → sum_by part (application_counts channel (numbers_of t)) ≡ n
    keyed_added whole n total each =
        let P : ℕ → Type 0 = λ m. IsBelowGreatest m → sum_by part (application_counts channel (numbers_of t)) ≡ m in
        let keys : List ℕ = application_keys (numbers_of t).applications in
        subst P (sym (filter_all (is_of channel) whole t.items) ∙ total)
        (λ count.
        values_sum part given (filter (λ k. k / 2048 == channel) keys)
        ∙ filter_sum (λ k. k / 2048 == channel) (λ k. part (given k)) keys
        ∙ lines_added (λ k. (given k).packets) (λ k. if k / 2048 == channel then part (given k) else 0)
        (number_at channel one) (number_on channel whole) 16384 t.items
        (λ k h. part_is k h (k / 2048 == channel))
        (λ k h none. rw (part_none k h none) (same_if (k / 2048 == channel) 0))
        each count)

  pub packets_added : IsBelowGreatest (counts_on channel (numbers_of t)).packets
      → sum_by (λ a. a.packets) (application_counts channel (numbers_of t)) ≡ (counts_on channel (numbers_of t)).packets
  packets_added =
      keyed_added (λ (a : ApplicationCounts). a.packets) (λ y. 1) (λ k. refl) (λ y. if is_packet_item y then 1 else 0) (counts_on channel (numbers_of t)).packets
      (ap (λ (c : ChannelCounts). c.packets) (sym counts_are)) (packets_each channel below_eight)

  pub octets_added : IsBelowGreatest (counts_on channel (numbers_of t)).octets
      → sum_by (λ a. a.octets) (application_counts channel (numbers_of t)) ≡ (counts_on channel (numbers_of t)).octets
  octets_added =
      keyed_added (λ (a : ApplicationCounts). a.octets) packet_item_length (λ k. refl) packet_item_length (counts_on channel (numbers_of t)).octets
      (ap (λ (c : ChannelCounts). c.octets) (sym counts_are)) (lengths_each channel below_eight)
