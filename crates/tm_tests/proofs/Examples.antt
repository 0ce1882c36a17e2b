-- A worked example: the lines of a recording of one good record, one bad one, and three octets more.
use Rattle.std.proofs.Common.{◌≡◌, List, ℕ, false, [], ◌∷◌, ◌++◌, refl, codes}
use Rattle.std.specs.Prelude.{replicate}
use Rattle.std.specs.Fmt.{digits}
use Rattle.tm_bits.specs.Bits.{bits_of, low_bits, number, part}
use Rattle.tm_frame.specs.declared.layout.LayoutParts.{LayoutParts}
use Rattle.tm_frame.specs.declared.layout.Presence.TheVariants.{Flag}
use Rattle.tm_frame.specs.Fault.{fault_of}
use Rattle.tm_lines.specs.Lines.{bad_line, frame_line, short_line}
use Rattle.tm_tool.specs.Listing.{listing, record_line}
use Rattle.tm_output.specs.Records.{records, rest_of}

base : LayoutParts
base = record { frame_length = 24; skip_before = 0; skip_after = 0; spacecraft = 42; secondary = Flag; ocf = Flag; error_control = false }

recording : List ℕ
recording =
    (0x02 ∷ 0xA0 ∷ 0x00 ∷ 0x00 ∷ 0x18 ∷ 0x00 ∷ []) ++ replicate 18 0x55
    ++ (0x42 ∷ 0xA0 ∷ 0x00 ∷ 0x00 ∷ 0x18 ∷ 0x00 ∷ []) ++ replicate 18 0x55
    ++ replicate 3 0x55

three_lines : listing base recording
    ≡ codes "frame record=0 channel=0 master=0 count=0 kind=packets place=0 secondary=0 ocf=no order=0 segment=3 octets=18\n"
    ∷ codes "bad record=1 fault=version\n"
    ∷ codes "short record=2 octets=3\n" ∷ []
unfolding digits base recording listing records rest_of record_line frame_line bad_line short_line fault_of part number bits_of low_bits
three_lines = refl
