-- A shelf that doesn't tell what its files have, and what is seen of its buffers.
use Rattle.std.proofs.Common.{◌≡◌, ◌≢◌, ◌+◌, ℕ, List, [], Option, None, Ok, Err, Result, Vec, refl, ap, inl, inr}
use Rattle.std.specs.Prelude.{◌⊎◌, IfErr, OnErr, OnOk, length, option_map, slice_get, true}
use Rattle.std.proofs.lemmas.Option.{slice_get-map}
use Rattle.tm_devices.specs.Devices.{PutsPrefix}
use Rattle.tm_split_files.specs.code.Buffers.{AreEmpty, AreKept, AreKeptOrEmpty, AreLeft, IsDrained, IsExtended, octets_held_for}
use Rattle.tm_split_files.specs.ShelfFaults.{is_out_of_memory}
use Rattle.tm_split_files.specs.Shelves.{HoldsNone, HoldsSame, IsAdded, IsEmptied, IsKeptOrEmptied, IsRefused, buffer_octets}
use Rattle.tm_split_files.specs.declared.files.ShelfFault.{ShelfFault}

pub none_put : (new : Option (ℕ → List ℕ)) (application : ℕ) (octets : List ℕ) → PutsPrefix None new application octets
none_put new application octets = ([], octets, refl, λ some. some, tt)

module _ {Z : Type 0} where
  pub none_seen : (buffers : List (Vec ℕ Z)) → AreEmpty buffers → HoldsNone (buffer_octets buffers)
  none_seen buffers empty = simp slice_get-map empty

  pub kept_seen : (old new : List (Vec ℕ Z)) → AreKeptOrEmpty old new → (n : ℕ) → IsKeptOrEmptied (buffer_octets old) (buffer_octets new) n
  kept_seen old new left n = simp slice_get-map (left n)

  others_seen : (old new : List (Vec ℕ Z)) (n : ℕ) → ((other : ℕ) → other ≢ n → slice_get new other ≡ slice_get old other)
      → (other : ℕ) → other ≢ n → octets_held_for new other ≡ octets_held_for old other
  others_seen old new n others other is_other = ap (option_map (λ octets. octets.items)) (others other is_other)

  one_seen : (old new : List (Vec ℕ Z)) (application : ℕ) (added : List ℕ) → IsExtended old new application added ⊎ IsDrained old new application
      → IsAdded (buffer_octets old) (buffer_octets new) application added ⊎ IsEmptied (buffer_octets old) (buffer_octets new) application
  one_seen old new application added (inl longer) = inl (simp slice_get-map (longer.0, others_seen old new application longer.1))
  one_seen old new application added (inr drained) = inr (simp slice_get-map (drained.0, others_seen old new application drained.1))

  -- likewise, where a call may fail
  pub none_of_call : {X Y : Type 0} (r : Result X Y) (buffers : List (Vec ℕ Z)) → OnOk r (AreEmpty buffers) → OnOk r (HoldsNone (buffer_octets buffers))
  none_of_call r buffers empty = simp slice_get-map empty

  pub put_seen : {X Y : Type 0} (r : Result X Y) (old new : List (Vec ℕ Z)) (application : ℕ) (added : List ℕ) (before after : ℕ)
      → OnOk r (((IsExtended old new application added ⊎ IsDrained old new application) × (after ≡ before + length added)) ⊎ AreEmpty new)
      → OnOk r (((IsAdded (buffer_octets old) (buffer_octets new) application added ⊎ IsEmptied (buffer_octets old) (buffer_octets new) application)
      × (after ≡ before + length added)) ⊎ HoldsNone (buffer_octets new))
  put_seen (Ok value) old new application added before after (inl put) = inl (one_seen old new application added put.0, put.1)
  put_seen (Ok value) old new application added before after (inr empty) = inr (none_seen new empty)
  put_seen (Err fault) old new application added before after h = tt

  pub refused_seen : {X Y : Type 0} (r : Result X Y) (old new : List (Vec ℕ Z)) (application : ℕ) (added : List ℕ)
      → OnErr r (AreLeft old new application added) → OnErr r (IsRefused (buffer_octets old) (buffer_octets new) application added)
  refused_seen r old new application added left = simp slice_get-map left

  pub no_memory_seen : {X : Type 0} (r : Result X ShelfFault) (old new : List (Vec ℕ Z)) (octets : ℕ)
      → IfErr r (λ fault. is_out_of_memory fault ≡ true → AreKept old new ⊎ (octets ≡ 0))
      → IfErr r (λ fault. is_out_of_memory fault ≡ true → HoldsSame (buffer_octets old) (buffer_octets new) ⊎ (octets ≡ 0))
  no_memory_seen r old new octets h = simp slice_get-map h

-- what is seen after a put
pub ruleset after_a_put = (none_put, put_seen, refused_seen, no_memory_seen)
