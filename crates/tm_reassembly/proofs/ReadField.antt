-- How a field is read: whole packets that lie end to end, and what stands after them.
use Rattle.std.proofs.Common.{◌++◌, ◌≡◌, ℕ, suc, pred, ◌+◌, ◌-◌, ◌<◌, ◌≤◌, true, List, [], ◌∷◌, length, take, drop, refl, sym, ap, ◌∙◌, length-append, arith}
use Rattle.std.proofs.lemmas.List.{length-drop, length-take-le, drop-drop, take_rest}
use Rattle.tm_items.proofs.Reaching.{packet_length_least}
use Rattle.std.specs.Prelude.{nat_le, Bool, false, zero}
use Rattle.std.proofs.Math.Bool.{and-false}
use Rattle.std.proofs.lemmas.Bool.{le-leb, le-ltb}
use Rattle.std.proofs.lemmas.Bool.Decides.{nat_tests}
use Rattle.tm_reassembly.proofs.Split.{drop-pred, whole_part}
use Rattle.tm_items.specs.Item.{Item, Packet}
use Rattle.tm_reassembly.specs.Parts.{begins_packet}
use Rattle.tm_items.specs.OnePacket.{packet_length}
use Rattle.tm_items.specs.Fronts.{has_packet, front_packets, front_length, octets_of, placed}
use Rattle.tm_items.proofs.Fronts.{IsWhole, whole-true, front-none, front-some}
use Rattle.tm_reassembly.specs.code.Field.{HasNoWholePacket, field_parts, unfinished, items_from, part_items}

module _ (limit : ℕ) where
  -- octets that hold no start may be dropped
  pub field_parts-skip : (number stop skip : ℕ) (octets : List ℕ) → field_parts limit number stop skip octets ≡ field_parts limit number stop 0 (drop skip octets)
  field_parts-skip number stop (suc skip) (x ∷ xs) = field_parts-skip number stop skip xs
  field_parts-skip number stop skip octets = refl

  pub unfinished-skip : (skip : ℕ) (octets : List ℕ) → unfinished limit skip octets ≡ unfinished limit 0 (drop skip octets)
  unfinished-skip (suc skip) (x ∷ xs) = unfinished-skip skip xs
  unfinished-skip skip octets = refl

  -- one packet, and the rest of the field
  field_parts-packet : (number stop : ℕ) (o : List ℕ) → 0 < length o → begins_packet limit o ≡ true → packet_length o ≤ length o
      → field_parts limit number stop 0 o ≡ whole_part limit number (stop - length o) o ∷ field_parts limit number stop 0 (drop (packet_length o) o)
  field_parts-packet number stop [] h p fits = absurd (omega arith)
  field_parts-packet number stop (x ∷ xs) h p fits =
      let least : 0 < packet_length (x ∷ xs) = omega (arith, packet_length_least (x ∷ xs)) in
      rw (p, le-leb (packet_length (x ∷ xs)) (suc (length xs)) fits, drop-pred (packet_length (x ∷ xs)) x xs least, field_parts-skip number stop (pred (packet_length (x ∷ xs))) xs)

  unfinished-packet : (o : List ℕ) → 0 < length o → begins_packet limit o ≡ true → packet_length o ≤ length o → unfinished limit 0 o ≡ unfinished limit 0 (drop (packet_length o) o)
  unfinished-packet [] h p fits = absurd (omega arith)
  unfinished-packet (x ∷ xs) h p fits =
      let least : 0 < packet_length (x ∷ xs) = omega (arith, packet_length_least (x ∷ xs)) in
      rw (p, le-leb (packet_length (x ∷ xs)) (suc (length xs)) fits, drop-pred (packet_length (x ∷ xs)) x xs least, unfinished-skip (pred (packet_length (x ∷ xs))) xs)

  -- what the code tests, and what follows
  pub read_packet : (seen channel : ℕ) (field : List ℕ) (at n : ℕ) (t : List ℕ) → t ≡ take (length field - at) (drop at field)
      → at < length field → begins_packet limit t ≡ true → n ≡ packet_length t → n ≤ length t
      → (items_from limit seen channel field at ≡ Packet seen channel seen at (take n t) ∷ items_from limit seen channel field (at + n))
      × (unfinished limit 0 (drop at field) ≡ unfinished limit 0 (drop (at + n) field))
  read_packet seen channel field at n t e h p r fits =
      let all : t ≡ drop at field = e ∙ take_rest field at in
      let some : 0 < length t = omega (arith, ap length all ∙ length-drop at field) in
      let whole : packet_length t ≤ length t = omega (arith, ap length all ∙ length-drop at field) in
      let place : length field - length t ≡ at = omega (arith, ap length all ∙ length-drop at field) in
      rw (← drop-drop n at field, ← all, r) (rw (field_parts-packet seen (length field) t some p whole, place), unfinished-packet t some p whole)

  whole-begins : (t : List ℕ) → IsWhole limit t → begins_packet limit t ≡ true
  whole-begins t w = rw (w.version, le-ltb limit (packet_length t) w.short, and-false (nat_le 6 (length t))) refl

  none_whole : (t : List ℕ) → has_packet limit t ≡ false → HasNoWholePacket limit t
  none_whole t e = λ begins. grind (arith, nat_tests, packet_length_least)

  -- A field from a place on: whole packets lie end to end in front, and none lies whole after them.
  pub record IsRead (seen channel : ℕ) (field : List ℕ) (at : ℕ) : Type 0 where
    pub inside : at + front_length limit (drop at field) ≤ length field
    pub items : items_from limit seen channel field at
        ≡ placed seen channel at (front_packets limit (drop at field)) ++ items_from limit seen channel field (at + front_length limit (drop at field))
    pub left : unfinished limit 0 (drop (at + front_length limit (drop at field)) field) ≡ unfinished limit 0 (drop at field)
    pub none : HasNoWholePacket limit (drop (at + front_length limit (drop at field)) field)

  read_none : (seen channel : ℕ) (field : List ℕ) (at : ℕ) → at ≤ length field → has_packet limit (drop at field) ≡ false → IsRead seen channel field at
  read_none seen channel field at within is =
      let none : front_packets limit (drop at field) ≡ [] = front-none limit (drop at field) is in
      let here : at + 0 ≡ at = omega arith in
      record {
        inside = rw (none, here) within;
        items = rw (none, here) refl;
        left = rw (none, here) refl;
        none = rw (none, here) (none_whole (drop at field) is);
      }

  read_one : (seen channel : ℕ) (field : List ℕ) (at : ℕ) → IsWhole limit (drop at field) → has_packet limit (drop at field) ≡ true
      → IsRead seen channel field (at + packet_length (drop at field)) → IsRead seen channel field at
  read_one seen channel field at w is more =
      let t : List ℕ = drop at field in
      let n : ℕ = packet_length t in
      let first = read_packet seen channel field at n t (sym (take_rest field at)) (omega (arith, packet_length_least t, w.inside, length-drop at field)) (whole-begins t w) refl w.inside in
      let few : length (take n t) ≡ n = length-take-le n t w.inside in
      let rest : List ℕ = drop (at + n) field in
      let packets : front_packets limit t ≡ take n t ∷ front_packets limit rest = front-some limit t is ∙ rw (drop-drop n at field) refl in
      let long : front_length limit t ≡ n + front_length limit rest =
      ap (λ (ps : List (List ℕ)). length (octets_of ps)) packets ∙ length-append (take n t) (octets_of (front_packets limit rest)) ∙ ap (λ (m : ℕ). m + front_length limit rest) few in
      let there : at + front_length limit t ≡ (at + n) + front_length limit rest = omega (arith, long) in
      record {
        inside = rw there more.inside;
        items = first.0 ∙ rw (there, packets, few) (ap (λ (xs : List Item). Packet seen channel seen at (take n t) ∷ xs) more.items);
        left = ap (λ (m : ℕ). unfinished limit 0 (drop m field)) there ∙ more.left ∙ sym first.1;
        none = rw there more.none;
      }

  read_rest : (fuel seen channel : ℕ) (field : List ℕ) (at : ℕ) → at ≤ length field → length field ≤ at + fuel → IsRead seen channel field at
  read_rest zero seen channel field at within enough = by (has_packet limit (drop at field)) refl
    where
      by : (b : Bool) → has_packet limit (drop at field) ≡ b → IsRead seen channel field at
      by false is = read_none seen channel field at within is
      by true is =
          let w = whole-true limit (drop at field) is in
          absurd (omega (arith, w.inside, length-drop at field, packet_length_least (drop at field)))
  read_rest (suc k) seen channel field at within enough = by (read_rest k seen channel field) (has_packet limit (drop at field)) refl
    where
      by : ((further : ℕ) → further ≤ length field → length field ≤ further + k → IsRead seen channel field further)
          → (b : Bool) → has_packet limit (drop at field) ≡ b → IsRead seen channel field at
      by rest false is = read_none seen channel field at within is
      by rest true is =
          let t : List ℕ = drop at field in
          let w = whole-true limit t is in
          read_one seen channel field at w is
          (rest (at + packet_length t) (omega (arith, w.inside, length-drop at field)) (omega (arith, packet_length_least t)))

  -- from a place on a field has whole packets, with so many octets
  pub record IsReadTo (seen channel : ℕ) (field : List ℕ) (place many : ℕ) (octets : List ℕ) : Type 0 where
    pub inside : place + many ≤ length field
    pub items : part_items channel (field_parts limit seen (length field) place field)
        ≡ placed seen channel place (front_packets limit octets) ++ items_from limit seen channel field (place + many)
    pub left : unfinished limit 0 (drop (place + many) field) ≡ unfinished limit place field
    pub none : HasNoWholePacket limit (drop (place + many) field)

  pub read_front : (seen channel : ℕ) (field : List ℕ) (place many : ℕ) (octets : List ℕ) → place ≤ length field
      → octets ≡ take (length field - place) (drop place field) → many ≡ front_length limit octets → IsReadTo seen channel field place many octets
  read_front seen channel field place many octets within is far =
      let all : octets ≡ drop place field = is ∙ take_rest field place in
      let read = read_rest (length field) seen channel field place within (omega arith) in
      rw (far, all) record {
        inside = read.inside;
        items = ap (part_items channel) (field_parts-skip seen (length field) place field) ∙ read.items;
        left = read.left ∙ sym (unfinished-skip place field);
        none = read.none;
      }
