-- Headers leave a valid state valid.
use Rattle.std.proofs.Common.{◌≡◌, ℕ, ◌+◌, ◌*◌, ◌<◌, false, Option, Some, None, List, [], ◌∷◌, length, set, sym, subst, ◌∙◌, ⊎_elim, arith}
use Rattle.std.proofs.lemmas.Bool.{cases_Bool, cases_eq, cond_both, eqb-false}
use Rattle.std.proofs.lemmas.List.{length-set, get_or-set_other}
use Rattle.std.proofs.lemmas.Grind.{get_or-set_at}
use Rattle.tm_bits.proofs.PartLemmas.{part-lt}
use Rattle.tm_packet.specs.declared.header.Flags.{Flags}
use Rattle.tm_packet.specs.declared.header.Flags.TheVariants as flag
use Rattle.tm_packet.specs.declared.tracker.PairEntry.{PairEntry}
use Rattle.tm_packet.specs.Header.{Fields, AreInRange, packet_header_of}
use Rattle.tm_packet.specs.Sequence.{begun_group, opened, first_in, goes_on}
use Rattle.tm_packet.specs.code.Single.{member_after, single_after}
use Rattle.tm_packet.specs.Merge.{Entries, entries_after, entry_at, is_idle, key_of, Sent}
use Rattle.tm_packet.specs.Valid.{Fits, FirstFits, IsEntry, EntryFits, AreValidEntries}
use Rattle.tm_packet.proofs.Merging.{after-idle, after-one}

-- ---- the numbers of a header

-- the header in any octets, also in too few, is in range
pub header-range : (octets : List ℕ) → AreInRange (packet_header_of octets)
header-range octets = record {
  application = part-lt octets 5 16;
  count = part-lt octets 18 32;
  data_length = part-lt octets 32 48;
}

-- and so it fits on each of the eight channels
pub header-fits : (channel : ℕ) (octets : List ℕ) → channel < 8 → Fits (record { channel = channel; header = packet_header_of octets })
header-fits channel octets h = record { channel = h; application = (header-range octets).application }

-- ---- the entry of a key

begun-fits : (flags : Flags) (count : ℕ) → count < 16384 → FirstFits (begun_group flags count)
begun-fits flag.First count h = h
begun-fits _ count h = tt

first_in-fits : (e : Option PairEntry) → EntryFits e → FirstFits (first_in e)
first_in-fits None h = tt
first_in-fits (Some e) h = h.first

-- a header leaves counts
pub entry-valid : (e : Option PairEntry) (h : Fields) → EntryFits e → h.count < 16384 → IsEntry (single_after e h)
entry-valid e h fits small = record {
  count = small;
  first = cond_both (goes_on (member_after e h)) (first_in e) (opened (member_after e h)) FirstFits (λ p. first_in-fits e fits) (λ p. begun-fits h.flags h.count small);
}

-- ---- the entries of all keys

-- a packet that isn't idle has no key of an idle one
not_idle : (channel : ℕ) (p : Sent) → Fits p → is_idle p.header ≡ false → 2048 * channel + 2047 ≡ key_of p → ⊥
not_idle channel p fits h e =
    let small = fits.application in
    let idle : p.header.application ≡ 2047 = omega arith in
    eqb-false p.header.application 2047 h idle

-- an entry with counts may be put at the key of a packet that isn't idle
set-valid : (s : Entries) (p : Sent) (kept : PairEntry) → AreValidEntries s → Fits p → is_idle p.header ≡ false → IsEntry kept
    → AreValidEntries (set s (key_of p) (Some kept))
set-valid s p kept valid fits h k =
    let all = valid.places in
    let c = fits.channel in
    let a = fits.application in
    let inside : key_of p < length s = omega arith in
    record {
      places = length-set s (key_of p) (Some kept) ∙ valid.places;
      fit = λ key.
          ⊎_elim (λ e. subst EntryFits (sym (get_or-set_at s (key_of p) key (Some kept) None e inside)) k)
          (λ ne. subst EntryFits (sym (get_or-set_other s (key_of p) key (Some kept) None ne)) (valid.fit key)) (cases_eq key (key_of p));
      idle = λ channel. get_or-set_other s (key_of p) (2048 * channel + 2047) (Some kept) None (not_idle channel p fits h) ∙ valid.idle channel;
    }

-- a header leaves a valid state valid
pub after-valid : (s : Entries) (p : Sent) → AreValidEntries s → Fits p → p.header.count < 16384 → AreValidEntries (entries_after s (p ∷ []))
after-valid s p valid fits small =
    ⊎_elim (λ h. subst AreValidEntries (sym (after-idle s p h)) valid)
    (λ h.
    let all = valid.places in
    let c = fits.channel in
    let a = fits.application in
    let inside : key_of p < length s = omega arith in
    subst AreValidEntries (sym (after-one s p h inside))
    (set-valid s p (single_after (entry_at s (key_of p)) p.header) valid fits h
    (entry-valid (entry_at s (key_of p)) p.header (valid.fit (key_of p)) small)))
    (cases_Bool (is_idle p.header))
