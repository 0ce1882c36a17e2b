-- What a record reads as: a good frame's numbers are in range.
use Rattle.std.proofs.Common.{◌≡◌, ℕ, suc, zero, ◌+◌, ◌-◌, ◌^◌, ◌<◌, ◌≤◌, min, Ok, Err, Option, Some, None, List, [], ◌∷◌, ◌++◌, length, take, drop, get_or, refl, sym, subst, arith, length-drop}
use Rattle.std.specs.Prelude.{slice_range}
use Rattle.std.proofs.Math.Pow.{pow_mono}
use Rattle.std.proofs.lemmas.List.{length-take, length-take-le, map-append}
use Rattle.tm_bits.specs.Bits.{AreOctets, part, bits_of}
use Rattle.tm_bits.proofs.BitLemmas.{number-lt}
use Rattle.tm_bits.proofs.PartLemmas.{octets_after, octets_behind}
use Rattle.tm_frame.specs.declared.layout.LayoutParts.{LayoutParts}
use Rattle.tm_frame.specs.declared.frame.Kind.TheVariants as got
use Rattle.tm_frame.specs.declared.frame.Kind.{Kind}
use Rattle.tm_frame.specs.declared.fault.FrameFault.{FrameFault}
use Rattle.tm_frame.specs.Fault.{fault_of, frame_reading_of, good_unless}
use Rattle.tm_frame.specs.Frame.{GoodFrame, IsPlaceBelow, good_frame, frame_of}
use Rattle.tm_frame.specs.Frame as frame
use Rattle.tm_frame.proofs.FaultLemmas.{place_inside}
use Rattle.tm_reassembly.specs.Readings.{FrameReading}
use Rattle.tm_reassembly.specs.Chain.{start_place_of, counted_field}
use Rattle.tm_reassembly.specs.Recording.{readings}
use Rattle.tm_reassembly.specs.code.Fits.{PlaceFits, IsFit, AllReadingsFit}

-- parts of octets are octets
octets_cons : (x : ℕ) (xs : List ℕ) → x < 256 → AreOctets xs → AreOctets (x ∷ xs)
octets_cons x xs h k = record { below = λ i. either i }
  where
    either : (i : ℕ) → get_or (x ∷ xs) i 0 < 256
    either zero = h
    either (suc i) = k.below i

pub octets_take : (n : ℕ) (xs : List ℕ) → AreOctets xs → AreOctets (take n xs)
octets_take zero xs h = record { below = λ i. omega arith }
octets_take (suc n) [] h = record { below = λ i. omega arith }
octets_take (suc n) (x ∷ xs) h = octets_cons x (take n xs) (h.below 0) (octets_take n xs (octets_after x xs h))

pub octets_append : (xs ys : List ℕ) → AreOctets xs → AreOctets ys → AreOctets (xs ++ ys)
octets_append [] ys h k = k
octets_append (x ∷ xs) ys h k = octets_cons x (xs ++ ys) (h.below 0) (octets_append xs ys (octets_after x xs h) k)

-- a part of n bits is below 2 ^ n, also where bits are missing
part-below : (octets : List ℕ) (from to : ℕ) → part octets from to < 2 ^ (to - from)
unfolding part
part-below octets from to =
    let small = number-lt (slice_range (bits_of octets) from to) in
    let l : length (slice_range (bits_of octets) from to) ≡ min (to - from) (length (drop from (bits_of octets))) = length-take (to - from) (drop from (bits_of octets)) in
    let less : 2 ^ length (slice_range (bits_of octets) from to) ≤ 2 ^ (to - from) = pow_mono (omega (arith, l)) in
    omega arith

-- a frame's data field
field-length : (layout : LayoutParts) (octets : List ℕ) → length (frame.data_field_of layout octets) ≡ frame.field_length layout octets
field-length layout octets =
    length-take-le (frame.field_length layout octets) (drop (frame.field_start octets) octets) (omega (arith, length-drop (frame.field_start octets) octets))

place_fits : (kind : Kind) (field : List ℕ) → IsPlaceBelow (length field) kind → PlaceFits (start_place_of kind) (length (counted_field kind field))
place_fits (got.Packets place) field h = omega arith
place_fits kind field h = tt

-- a good frame fits, whatever its octets
good-fit : (layout : LayoutParts) (octets : List ℕ) → fault_of layout octets ≡ None → IsFit (Ok (good_frame layout octets))
good-fit layout octets none = (
  part-below octets 12 15,
  place_fits (frame.kind_of octets) (frame.data_field_of layout octets)
      (subst (λ (n : ℕ). IsPlaceBelow n (frame.kind_of octets)) (sym (field-length layout octets)) (place_inside layout octets none)),
)

-- what holds of each fault and of the good frame holds of what is read
reading-by : (P : FrameReading → Type 0) (layout : LayoutParts) (octets : List ℕ) → ((fault : FrameFault) → P (Err fault))
    → (fault_of layout (frame_of layout octets) ≡ None → P (Ok (good_frame layout (frame_of layout octets)))) → P (frame_reading_of layout octets)
reading-by P layout octets bad good = by_fault (fault_of layout (frame_of layout octets)) refl
  where
    by_fault : (found : Option FrameFault) → fault_of layout (frame_of layout octets) ≡ found → P (good_unless found (good_frame layout (frame_of layout octets)))
    by_fault None e = good e
    by_fault (Some fault) e = bad fault

pub reading-fit : (layout : LayoutParts) (octets : List ℕ) → IsFit (frame_reading_of layout octets)
reading-fit layout octets = reading-by IsFit layout octets (λ fault. tt) (good-fit layout (frame_of layout octets))

pub readings-fit : (layout : LayoutParts) (records : List (List ℕ)) → AllReadingsFit (readings layout records)
readings-fit layout [] = tt
readings-fit layout (octets ∷ more) = (reading-fit layout octets, readings-fit layout more)

pub readings-append : (layout : LayoutParts) (a b : List (List ℕ)) → readings layout (a ++ b) ≡ readings layout a ++ readings layout b
readings-append layout a b = map-append (frame_reading_of layout) a b

-- a good frame of octets
pub record IsGood (layout : LayoutParts) (f : GoodFrame) : Type 0 where
  pub fits : IsFit (Ok f)
  pub count : f.count < 256
  pub master : f.master_count < 256
  pub octets : AreOctets f.field
  pub most : 0 < length f.field → length f.field + 6 ≤ layout.frame_length

abbrev pub IsRead : LayoutParts → FrameReading → Type 0
IsRead layout (Err fault) = Unit {0}
IsRead layout (Ok f) = IsGood layout f

good : (layout : LayoutParts) (octets : List ℕ) → AreOctets octets → length octets ≤ layout.frame_length → fault_of layout octets ≡ None
    → IsGood layout (good_frame layout octets)
good layout octets h long none = record {
  fits = good-fit layout octets none;
  count = part-below octets 24 32;
  master = part-below octets 16 24;
  octets = octets_take (frame.field_length layout octets) (drop (frame.field_start octets) octets) (octets_behind (frame.field_start octets) octets h);
  most = λ some. let l = field-length layout octets in omega arith;
}

-- no frame is longer than the layout says, whatever the record
frame-long : (layout : LayoutParts) (octets : List ℕ) → length (frame_of layout octets) ≤ layout.frame_length
frame-long layout octets =
    omega (arith, length-take ((layout.skip_before + layout.frame_length) - layout.skip_before) (drop layout.skip_before octets))

pub reading-good : (layout : LayoutParts) (octets : List ℕ) → AreOctets octets → IsRead layout (frame_reading_of layout octets)
reading-good layout octets h =
    let inside : AreOctets (frame_of layout octets) =
    octets_take ((layout.skip_before + layout.frame_length) - layout.skip_before) (drop layout.skip_before octets) (octets_behind layout.skip_before octets h) in
    reading-by (IsRead layout) layout octets (λ fault. tt) (good layout (frame_of layout octets) inside (frame-long layout octets))

-- the data field of a good frame has at most this many octets
abbrev pub FieldWithin : ℕ → FrameReading → Type 0
FieldWithin most (Err fault) = Unit {0}
FieldWithin most (Ok f) = length f.field ≤ most

pub field-within : (layout : LayoutParts) (octets : List ℕ) → layout.frame_length ≤ 2048 → FieldWithin 2042 (frame_reading_of layout octets)
field-within layout octets short =
    let long = frame-long layout octets in
    let l = field-length layout (frame_of layout octets) in
    reading-by (FieldWithin 2042) layout octets (λ fault. tt) (λ none. omega arith)
