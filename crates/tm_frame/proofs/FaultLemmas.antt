-- What a frame without a fault has.
use Rattle.std.proofs.Common.{length-drop, sym, subst, ◌≡◌, ℕ, ◌<◌, ◌==◌, Bool, true, false, cond, refl, List, [], ◌∷◌, ◌++◌, arith}
use Rattle.std.specs.Prelude.{Option, Some, None, IsOk, ◌&&◌, not, nat_lt, drop, ◌≤◌, length}
use Rattle.std.specs.List.{find}
use Rattle.std.proofs.lemmas.Bool.Decides.{nat_tests}
use Rattle.tm_frame.specs.declared.layout.LayoutParts.{LayoutParts}
use Rattle.tm_frame.specs.declared.fault.FrameFault.{FrameFault}
use Rattle.tm_frame.specs.declared.fault.FrameFault.TheVariants.{Crc, Version, Spacecraft, SecondaryFlag, OcfFlag, SecondaryVersion, Layout, Pointer}
use Rattle.tm_frame.specs.Frame.{field_length, field_start, field_end, data_field_of, kind_of, good_frame, GoodFrame, frame_of, IsPlaceBelow, IsSoundFrame}
use Rattle.tm_bits.proofs.PartLemmas.{part-lt}
use Rattle.std.proofs.lemmas.List.{length-take-le}
use Rattle.tm_frame.specs.Header.{synchronization_flag, pointer_of}
use Rattle.tm_frame.specs.declared.frame.Kind.TheVariants.{Packets, NoStart, Idle, Vca}
use Rattle.tm_frame.specs.Fault.{applies, fault_of, frame_reading_of, good_unless, is_misplaced}
use Rattle.tm_frame.specs.code.Headers.{starts_beyond}

-- where nothing is found, none passes
none_passes : {X : Type 0} (test : X → Bool) (before : List X) (x : X) (after : List X) → find test (before ++ x ∷ after) ≡ None → test x ≡ false
none_passes test [] x after h = elim (test x) as (λ b. cond b (Some x) (find test after) ≡ None → b ≡ false) [ true ↦ λ e. cc | false ↦ λ e. refl ] h
none_passes test (y ∷ before) x after h =
    none_passes test before x after
    (elim (test y) as (λ b. cond b (Some y) (find test (before ++ x ∷ after)) ≡ None → find test (before ++ x ∷ after) ≡ None) [ true ↦ λ e. cc | false ↦ λ e. e ] h)

above_zero : (n : ℕ) → (n == 0) ≡ false → 0 < n
above_zero n h = grind (arith, nat_tests)

-- a frame without a fault has a data field
pub room : (layout : LayoutParts) (frame : List ℕ) → fault_of layout frame ≡ None → 0 < field_length layout frame
unfolding fault_of
room layout frame h =
    above_zero (field_length layout frame)
    (none_passes (applies layout frame) (Crc ∷ Version ∷ Spacecraft ∷ SecondaryFlag ∷ OcfFlag ∷ SecondaryVersion ∷ []) Layout (Pointer ∷ []) h)

-- no pointer is misplaced, so a packet starts inside the field
place_below : (vca none idle : Bool) (place n : ℕ) → (not vca && not idle && not none && not (nat_lt place n)) ≡ false
    → IsPlaceBelow n (cond vca Vca (cond none NoStart (cond idle Idle (Packets place))))
place_below true none idle place n h = tt
place_below false true idle place n h = tt
place_below false false true place n h = tt
place_below false false false place n h = grind (arith, nat_tests)

-- so says the search for a pointer that is misplaced
beyond : (vca none idle : Bool) (place n : ℕ)
    → (not vca && not idle && not none && not (nat_lt place n))
    ≡ starts_beyond n (cond vca Vca (cond none NoStart (cond idle Idle (Packets place))))
beyond true none idle place n = refl
beyond false true true place n = refl
beyond false true false place n = refl
beyond false false true place n = refl
beyond false false false place n = refl

pub misplaced : (layout : LayoutParts) (frame : List ℕ) → is_misplaced layout frame ≡ starts_beyond (field_length layout frame) (kind_of frame)
misplaced layout frame =
    beyond (synchronization_flag frame) (pointer_of frame == 2047) (pointer_of frame == 2046) (pointer_of frame) (field_length layout frame)

pub place_inside : (layout : LayoutParts) (frame : List ℕ) → fault_of layout frame ≡ None → IsPlaceBelow (field_length layout frame) (kind_of frame)
unfolding fault_of
place_inside layout frame h =
    place_below (synchronization_flag frame) (pointer_of frame == 2047) (pointer_of frame == 2046) (pointer_of frame) (field_length layout frame)
    (none_passes (applies layout frame) (Crc ∷ Version ∷ Spacecraft ∷ SecondaryFlag ∷ OcfFlag ∷ SecondaryVersion ∷ Layout ∷ []) Pointer [] h)

-- no fault is found in a frame that reads as a good one
unless_none : (fault : Option FrameFault) (good : GoodFrame) → IsOk (good_unless fault good) → fault ≡ None
unless_none None good h = refl
unless_none (Some fault) good h = cc

pub fault_free : (layout : LayoutParts) (octets : List ℕ) → IsOk (frame_reading_of layout octets) → fault_of layout (frame_of layout octets) ≡ None
fault_free layout octets h = unless_none (fault_of layout (frame_of layout octets)) (good_frame layout (frame_of layout octets)) h

-- so it begins before it ends
pub begins_before_end : (layout : LayoutParts) (frame : List ℕ) → fault_of layout frame ≡ None → field_start frame < field_end layout frame
begins_before_end layout frame h = let some = room layout frame h in omega arith

pub sound : (layout : LayoutParts) (frame : List ℕ) → 9 ≤ length frame → length frame ≤ 2048 → fault_of layout frame ≡ None → IsSoundFrame (good_frame layout frame)
sound layout frame long most h =
    let some = room layout frame h in
    let l : length (data_field_of layout frame) ≡ field_length layout frame =
    length-take-le (field_length layout frame) (drop (field_start frame) frame) (omega (arith, length-drop (field_start frame) frame)) in
    record {
      channel = part-lt frame 12 15;
      segment = part-lt frame 35 37;
      some = omega (arith, some, l);
      most = omega arith;
      place = let P : ℕ → Type 0 = λ n. IsPlaceBelow n (kind_of frame) in subst P (sym l) (place_inside layout frame h);
    }
