-- What a sink that counts has counted of the items that it took.
use Rattle.std.proofs.Common.{◌≡◌, ◌||◌, Bool, true, false, List, [], ◌∷◌, refl, ap, ◌∙◌, inl, inr}
use Rattle.tm_items.specs.Item.{Item}
use Rattle.tm_items.specs.Sinks.{RefusesOne, TakesAll}
use Rattle.tm_faults.specs.declared.run.RunFault.{RunFault}
use Rattle.tm_packet.specs.Merge.{Entries}
use Rattle.tm_output.specs.Pieces.{noted_all}
use Rattle.tm_summary.specs.declared.counting.Counting.{Counting}
use Rattle.tm_summary.specs.Kinds.{is_bad}
use Rattle.tm_summary.specs.Tallies.{AllFit, RefusesTally, TakesTally, with_all}

-- one of the items is a bad frame
abbrev pub any_bad : List Item → Bool
any_bad [] = false
any_bad (x ∷ xs) = is_bad x || any_bad xs

pub record TookTally (s : Counting) (xs : List Item) (t : Counting) : Type 0 where
  pub same_tracker : t.tracker.ghost_name ≡ s.tracker.ghost_name
  pub same_counts : t.counts.ghost_name ≡ s.counts.ghost_name
  pub noted_is : t.tracker.now ≡ noted_all s.tracker.now xs
  pub counted_is : t.counts.now ≡ with_all s.tracker.now s.counts.now xs
  pub bad_is : t.bad ≡ any_bad xs || s.bad
  pub fit : AllFit xs

or_first : (a b c : Bool) → b || (a || c) ≡ (a || b) || c
or_first true true c = refl
or_first true false c = refl
or_first false b c = refl

pub took_tally : (s : Counting) (xs : List Item) (t : Counting) → TakesAll TakesTally s xs t → TookTally s xs t
took_tally s [] t h = rw h (record { same_tracker = refl; same_counts = refl; noted_is = refl; counted_is = refl; bad_is = refl; fit = tt })
took_tally s (x ∷ xs) t h =
    let one = h.1 in
    let more = took_tally h.0 xs t h.2 in record {
      same_tracker = more.same_tracker ∙ one.same_tracker;
      same_counts = more.same_counts ∙ one.same_counts;
      noted_is = more.noted_is ∙ ap (λ (e : Entries). noted_all e xs) one.noted_is;
      counted_is = more.counted_is ∙ rw (one.noted_is, one.counted_is) refl;
      bad_is = more.bad_is ∙ ap (λ (b : Bool). any_bad xs || b) one.bad_is ∙ or_first (is_bad x) (any_bad xs) s.bad;
      fit = (one.fits, more.fit);
    }

-- it refuses none
pub none_refused : (s : Counting) (xs : List Item) (fault : RunFault) (t : Counting) → RefusesOne TakesTally RefusesTally s xs fault t → ⊥
none_refused s [] fault t h = h
none_refused s (x ∷ xs) fault t (inl h) = h
none_refused s (x ∷ xs) fault t (inr h) = none_refused h.0 xs fault t h.2
