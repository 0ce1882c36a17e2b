use Rattle.std.proofs.Common.{◌≡◌, ◌≤◌, ℕ, List, ◌+◌, ◌-◌, ◌++◌, ◌∙◌, ap, arith, length, length-drop, take, drop}
use borrow.Rule.Slice.PartMut.{put_mid}
use Rattle.std.proofs.lemmas.List.{length-take-le, take-take}
use Rattle.tm_devices.proofs.Parts.{take_filled}
use Rattle.tm_output.proofs.outlet.copy_first.Goals as goal

-- the part of a room has as many octets as are put there
as_long : (at many : ℕ) (room octets : List ℕ) → many ≤ length room - at → many ≤ length octets
    → length (take (at + many - at) (drop at room)) ≡ length (take many octets)
as_long at many room octets fits inside =
    let part : length (drop at room) ≡ length room - at = length-drop at room in
    omega (arith, length-take-le (at + many - at) (drop at room) (omega (arith, part)), length-take-le many octets inside)

pub copy_from_slice-requires : goal.copy_from_slice-requires
copy_from_slice-requires c = as_long c.args.at 64 c.args.room.now c.args.octets.now c.if-room-at-ge-SHORT.true c.if-octets-ge-SHORT.true

-- more octets were put than are asked for
put_more : (at k many short : ℕ) (room part octets : List ℕ) → at ≤ length room → many ≤ short → short ≤ length octets → part ≡ take short octets
    → take (at + many) (put_mid at k room part) ≡ take at room ++ take many octets
put_more at k many short room part octets inside fewer enough is =
    take_filled at k many room part inside (omega (arith, ap length is, length-take-le short octets enough))
    ∙ ap (λ l. take at room ++ l) (ap (take many) is ∙ take-take many short octets fewer)

pub returns-then-room-at-ge-SHORT : goal.returns-then-room-at-ge-SHORT
returns-then-room-at-ge-SHORT c = record {
  put = put_more c.args.at _ c.args.many 64 _ _ _ (omega (arith, c.requires.room)) c.if-many-le-SHORT.true c.if-octets-ge-SHORT.true c.copy_from_slice.ensures.after;
}
