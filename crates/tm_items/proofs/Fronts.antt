-- The packets at the front of octets: the first of them and the others.
use Rattle.std.proofs.Common.{◌≡◌, ◌==◌, ℕ, suc, zero, pred, ◌+◌, ◌-◌, ◌<◌, ◌≤◌, Bool, true, false, Option, Some, None, Ok, Err, List, [], ◌∷◌, length, take, drop, refl, sym, ap, ◌∙◌, arith, length-append}
use Rattle.std.specs.Prelude.{nat_le}
use Rattle.std.proofs.Math.Bool.{and-false}
use Rattle.std.proofs.lemmas.Bool.{eqb-true, eq-eqb, le-leb, lt-leb}
use Rattle.std.proofs.lemmas.Bool.Decides.{nat_tests}
use Rattle.tm_bits.proofs.PartLemmas.{part-front}
use Rattle.std.proofs.lemmas.List.{length-drop, length-take-le, take_rest, take-append-drop, drop-drop}
use Rattle.tm_packet.specs.declared.header.PacketFault.{PacketFault}
use Rattle.tm_packet.specs.Header.{Fields, packet_version_of, packet_header_of, header_reading_of}
use Rattle.tm_items.specs.Item.{Packet}
use Rattle.tm_items.specs.OnePacket.{IsOnePacket, is_packet, packet_length}
use Rattle.tm_items.specs.Fronts.{has_packet, front_header, packets_behind, front_packets, front_length, octets_of, placed}
use Rattle.tm_items.proofs.Headers.{packet_length_read, reading-ok, reading-err}
use Rattle.tm_items.proofs.Reaching.{packet_length_least, packet_length-append, packet_length-long}

-- what it says that a packet lies whole at the front
pub record IsWhole (limit : ℕ) (t : List ℕ) : Type 0 where
  pub version : is_packet t ≡ true
  pub short : packet_length t ≤ limit
  pub inside : packet_length t ≤ length t

pub whole-true : (limit : ℕ) (t : List ℕ) → has_packet limit t ≡ true → IsWhole limit t
whole-true limit t e = record {
  version = grind (arith, nat_tests);
  short = grind (arith, nat_tests);
  inside = grind (arith, nat_tests);
}

packets-skip : (limit skip : ℕ) (t : List ℕ) → packets_behind limit skip t ≡ front_packets limit (drop skip t)
packets-skip limit zero t = refl
packets-skip limit (suc skip) [] = refl
packets-skip limit (suc skip) (x ∷ xs) = packets-skip limit skip xs

drop-pred : (n x : ℕ) (xs : List ℕ) → 0 < n → drop n (x ∷ xs) ≡ drop (pred n) xs
drop-pred zero x xs h = absurd (omega arith)
drop-pred (suc n) x xs h = refl

-- the first packet, and those after it
pub front-some : (limit : ℕ) (t : List ℕ) → has_packet limit t ≡ true
    → front_packets limit t ≡ take (packet_length t) t ∷ front_packets limit (drop (packet_length t) t)
front-some limit [] e = let w = whole-true limit [] e in absurd (omega (arith, packet_length_least [], w.inside))
front-some limit (x ∷ xs) e =
    let least : 0 < packet_length (x ∷ xs) = omega (arith, packet_length_least (x ∷ xs)) in
    rw (e, drop-pred (packet_length (x ∷ xs)) x xs least, packets-skip limit (pred (packet_length (x ∷ xs))) xs) refl

-- there is none
pub front-none : (limit : ℕ) (t : List ℕ) → has_packet limit t ≡ false → front_packets limit t ≡ []
front-none limit [] e = refl
front-none limit (x ∷ xs) e = rw e refl

-- what is the front of octets has the version that they have
pub version-front : (n : ℕ) (t : List ℕ) → 1 ≤ n → take 1 (take n t) ≡ take 1 t
version-front zero t h = absurd (omega arith)
version-front (suc n) [] h = refl
version-front (suc n) (x ∷ xs) h = refl

-- what a packet's header reaches over is one whole packet
pub one-front : (t : List ℕ) (r : ℕ) → r ≡ packet_length t → r ≤ length t → is_packet t ≡ true → IsOnePacket (take r t)
one-front t r far inside version =
    let least : 7 ≤ r = omega (arith, packet_length_least t) in
    let len : length (take r t) ≡ r = length-take-le r t inside in
    record {
      version = ap (λ (o : List ℕ). packet_version_of o == 0) (version-front r t (omega arith)) ∙ version;
      whole =
          len ∙ far
          ∙ ap packet_length (sym (take-append-drop r t))
          ∙ packet_length-append (take r t) (drop r t) (omega arith);
    }

-- the header that is read, and its length, say whether a packet lies whole at the front
module _ (limit : ℕ) (t : List ℕ) where
  read_version : (h : Fields) → header_reading_of t ≡ Ok h → is_packet t ≡ true
  read_version h e =
      let long = (reading-ok t h e).0 in
      let front : packet_version_of t ≡ packet_version_of (take 1 t) = part-front 1 t 0 3 (omega arith) (omega arith) (omega arith) in
      let zero : packet_version_of t ≡ 0 = grind (arith, nat_tests) in
      eq-eqb (packet_version_of (take 1 t)) 0 (sym front ∙ zero)

  pub whole_read : (h : Fields) → header_reading_of t ≡ Ok h → h.data_length + 7 ≤ limit → h.data_length + 7 ≤ length t → Some h ≡ front_header limit t
  whole_read h e short inside =
      let far = packet_length_read t h e in
      rw (read_version h e, le-leb (packet_length t) limit (omega (arith, far)), le-leb (packet_length t) (length t) (omega (arith, far))) (ap Some (reading-ok t h e).1)

  pub long_read : (h : Fields) → header_reading_of t ≡ Ok h → limit < h.data_length + 7 → None ≡ front_header limit t
  long_read h e long =
      let far = packet_length_read t h e in
      rw (read_version h e, lt-leb (packet_length t) limit (omega (arith, far))) refl

  pub unfinished_read : (h : Fields) → header_reading_of t ≡ Ok h → length t < h.data_length + 7 → None ≡ front_header limit t
  unfinished_read h e less =
      let far = packet_length_read t h e in
      rw (read_version h e, lt-leb (packet_length t) (length t) (omega (arith, far)), and-false (nat_le (packet_length t) limit)) refl

  pub none_read : (fault : PacketFault) → header_reading_of t ≡ Err fault → None ≡ front_header limit t
  none_read fault e = by (has_packet limit t) refl
    where
      by : (b : Bool) → has_packet limit t ≡ b → None ≡ front_header limit t
      by true is =
          let w = whole-true limit t is in
          let zero : packet_version_of t ≡ 0 =
          part-front 1 t 0 3 (omega (arith, packet_length_least t, w.inside)) (omega arith) (omega arith) ∙ eqb-true (packet_version_of (take 1 t)) 0 w.version in
          let short = reading-err t fault zero e in
          absurd (omega (arith, packet_length_least t, w.inside))
      by false isnt = rw isnt refl

-- what a header at the front says
pub record IsHeader (limit : ℕ) (t : List ℕ) (h : Fields) : Type 0 where
  pub there : has_packet limit t ≡ true
  pub own : h ≡ packet_header_of t
  pub far : h.data_length + 7 ≡ packet_length t

pub header-some : (limit : ℕ) (t : List ℕ) (h : Fields) → Some h ≡ front_header limit t → IsHeader limit t h
header-some limit t h e = by (has_packet limit t) refl
  where
    same : {g : Fields} → Some h ≡ Some g → h ≡ g
    same q = cc

    some_none : ◌≡◌ {A = Option Fields} (Some h) None → ⊥
    some_none q = cc

    by : (b : Bool) → has_packet limit t ≡ b → IsHeader limit t h
    by true is =
        let own : h ≡ packet_header_of t = same (e ∙ rw is refl) in
        let w = whole-true limit t is in
        let long : 6 ≤ length t = omega (arith, packet_length_least t, w.inside) in
        record {
          there = is;
          own = own;
          far = ap (λ (g : Fields). g.data_length + 7) own
              ∙ ap (λ (n : ℕ). n + 7) (part-front 6 t 32 48 long (omega arith) (omega arith))
              ∙ sym (packet_length-long t long);
        }
    by false is = absurd (some_none (e ∙ rw is refl))

-- What is left of octets from a place on has a packet at its front: what is left after that.
pub record IsNext (limit seen channel place at n : ℕ) (o left : List ℕ) : Type 0 where
  pub inside : at + n ≤ length o
  pub whole : n ≡ length (take n left)
  pub one : IsOnePacket (take n left)
  pub items : placed seen channel (place + at) (front_packets limit (drop at o))
      ≡ Packet seen channel seen (place + at) (take n left) ∷ placed seen channel (place + (at + n)) (front_packets limit (drop (at + n) o))
  pub longer : front_length limit (drop at o) ≡ n + front_length limit (drop (at + n) o)

pub front-next : (limit seen channel place at n : ℕ) (o left : List ℕ) (h : Fields) → left ≡ take (length o - at) (drop at o) → at ≤ length o
    → Some h ≡ front_header limit left → n ≡ h.data_length + 7 → IsNext limit seen channel place at n o left
front-next limit seen channel place at n o left h is within e far =
    let all : left ≡ drop at o = is ∙ take_rest o at in
    let head = header-some limit left h e in
    let w = whole-true limit left head.there in
    let reached : n ≡ packet_length left = far ∙ head.far in
    let len : length left ≡ length o - at = ap length all ∙ length-drop at o in
    let few : length (take n left) ≡ n = length-take-le n left (omega (arith, w.inside)) in
    let behind : drop n left ≡ drop (at + n) o = ap (drop n) all ∙ drop-drop n at o in
    let first : front_packets limit (drop at o) ≡ take n left ∷ front_packets limit (drop (at + n) o) =
    ap (front_packets limit) (sym all) ∙ front-some limit left head.there ∙ rw (← reached, behind) refl in
    let next : (place + at) + n ≡ place + (at + n) = omega arith in
    record {
      inside = omega (arith, w.inside);
      whole = sym few;
      one = one-front left n reached (omega (arith, w.inside)) w.version;
      items = rw (first, few, next) refl;
      longer = ap (λ (ps : List (List ℕ)). length (octets_of ps)) first ∙ length-append (take n left) (octets_of (front_packets limit (drop (at + n) o))) ∙ omega (arith, few);
    }
