-- Worked examples: what the definitions say of known octets.
use Rattle.std.proofs.Common.{◌≡◌, ℕ, Bool, true, false, List, [], ◌∷◌, ◌++◌, refl, codes, Ok, Err}
use Rattle.std.specs.Prelude.{replicate}
use Rattle.tm_bits.specs.Bits.{bits_of, low_bits, number, part}
use Rattle.tm_frame.specs.declared.layout.LayoutParts.{LayoutParts}
use Rattle.tm_frame.specs.declared.layout.Presence.TheVariants.{Flag, Always, Never}
use Rattle.tm_frame.specs.declared.fault.FrameFault.TheVariants.{Crc, Version, Spacecraft, SecondaryFlag, OcfFlag, SecondaryVersion, Layout, Pointer}
use Rattle.tm_frame.specs.declared.frame.Kind.{Kind}
use Rattle.tm_frame.specs.declared.frame.Kind.TheVariants.{Packets, Idle}
use Rattle.tm_frame.specs.ErrorControl.{error_control_of, table_entry_of, long_division, subtract}
use Rattle.tm_frame.specs.Frame.{GoodFrame}
use Rattle.tm_frame.specs.Fault.{fault_of, frame_reading_of}

-- ---- error control

controls : (error_control_of (codes "123456789") ≡ 0x29B1) × (error_control_of [] ≡ 0xFFFF) × (error_control_of (0 ∷ []) ≡ 0xE1F0) × (table_entry_of 1 ≡ 0x1021)
unfolding error_control_of table_entry_of long_division subtract bits_of low_bits number
controls = (refl, refl, refl, refl)

-- ---- frames of 24 octets of spacecraft 42, 18 octets 55 after the six of the primary header

base : LayoutParts
base = record { frame_length = 24; skip_before = 0; skip_after = 0; spacecraft = 42; secondary = Flag; ocf = Flag; error_control = false }

fifty_fives : ℕ → List ℕ
fifty_fives n = replicate n 0x55

-- One fault each. The version is 1; the spacecraft is 43. A secondary header is missing; an operational control field is not
-- wanted. The version of a secondary header is 1; it leaves no octet for the data field. The pointer is 18.
faults : (frame_reading_of base ((0x42 ∷ 0xA0 ∷ 0 ∷ 0 ∷ 0x18 ∷ 0 ∷ []) ++ fifty_fives 18) ≡ Err Version)
    × (frame_reading_of base ((0x02 ∷ 0xB0 ∷ 0 ∷ 0 ∷ 0x18 ∷ 0 ∷ []) ++ fifty_fives 18) ≡ Err Spacecraft)
    × (frame_reading_of (record base { secondary = Always }) ((0x02 ∷ 0xA0 ∷ 0 ∷ 0 ∷ 0x18 ∷ 0 ∷ []) ++ fifty_fives 18) ≡ Err SecondaryFlag)
    × (frame_reading_of (record base { ocf = Never }) ((0x02 ∷ 0xA1 ∷ 0 ∷ 0 ∷ 0x18 ∷ 0 ∷ []) ++ fifty_fives 18) ≡ Err OcfFlag)
    × (frame_reading_of base ((0x02 ∷ 0xA0 ∷ 0 ∷ 0 ∷ 0x98 ∷ 0 ∷ 0x40 ∷ []) ++ fifty_fives 17) ≡ Err SecondaryVersion)
    × (frame_reading_of base ((0x02 ∷ 0xA0 ∷ 0 ∷ 0 ∷ 0x98 ∷ 0 ∷ 0x11 ∷ []) ++ fifty_fives 17) ≡ Err Layout)
    × (frame_reading_of base ((0x02 ∷ 0xA0 ∷ 0 ∷ 0 ∷ 0x18 ∷ 0x12 ∷ []) ++ fifty_fives 18) ≡ Err Pointer)
unfolding base fifty_fives fault_of part number bits_of low_bits
faults = (refl, refl, refl, refl, refl, refl, refl)

damaged : frame_reading_of (record base { frame_length = 9; error_control = true }) (0x02 ∷ 0xA0 ∷ 0 ∷ 0 ∷ 0x1F ∷ 0xFE ∷ 0x54 ∷ 0x25 ∷ 0xC9 ∷ []) ≡ Err Crc
unfolding base fault_of error_control_of long_division subtract part number bits_of low_bits
damaged = refl

-- a good frame of channel 0, its counts 0
good : List ℕ → Kind → ℕ → Bool → GoodFrame
good field kind secondary_length has_ocf =
    record { field = field; channel = 0; master_count = 0; count = 0; kind = kind; secondary_length = secondary_length; has_ocf = has_ocf; order_flag = false; segment = 3 }

-- A secondary header of 17 octets leaves one for the data field, and the pointer 0 is in it. With an operational control field of four
-- octets the data field has 14.
good_frames : (frame_reading_of base ((0x02 ∷ 0xA0 ∷ 0 ∷ 0 ∷ 0x98 ∷ 0 ∷ 0x10 ∷ []) ++ fifty_fives 17) ≡ Ok (good (0x55 ∷ []) (Packets 0) 17 false))
    × (frame_reading_of base ((0x02 ∷ 0xA1 ∷ 0 ∷ 0 ∷ 0x18 ∷ 0 ∷ []) ++ fifty_fives 18) ≡ Ok (good (fifty_fives 14) (Packets 0) 0 true))
unfolding base fifty_fives good fault_of part number bits_of low_bits
good_frames = (refl, refl)

-- skipped octets are not read, and idle data is told by the pointer 2046
idle_between_skips : frame_reading_of (record base { frame_length = 9; skip_before = 2; skip_after = 1; error_control = true })
    (0x1A ∷ 0xCF ∷ 0x02 ∷ 0xA0 ∷ 0 ∷ 0 ∷ 0x1F ∷ 0xFE ∷ 0x55 ∷ 0x25 ∷ 0xC9 ∷ 0x77 ∷ [])
    ≡ Ok (good (0x55 ∷ []) Idle 0 false)
unfolding base good fault_of error_control_of long_division subtract part number bits_of low_bits
idle_between_skips = refl
