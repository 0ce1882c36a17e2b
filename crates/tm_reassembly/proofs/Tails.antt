-- A tail and the field that comes after it.
use Rattle.std.proofs.Common.{◌≡◌, ℕ, ◌+◌, true, false, ◌-◌, ◌<◌, ◌≤◌, Option, Some, None, List, [], ◌∷◌, ◌++◌, length, take, refl, sym, ap, subst, ◌∙◌, arith, length-append}
use Rattle.std.proofs.Math.Seq.{take-append-add}
use Rattle.std.proofs.lemmas.Bool.{le-leb, eq-eqb, eqb-true}
use Rattle.tm_reassembly.specs.State.{Tail, octets_in}
use Rattle.tm_reassembly.specs.Parts.{agrees_at, is_long}
use Rattle.tm_items.specs.OnePacket.{IsOnePacket, is_packet, packet_length}
use Rattle.tm_items.proofs.Fronts.{one-front}
use Rattle.tm_reassembly.specs.code.Field.{step_parts, frame_parts}
use Rattle.tm_reassembly.specs.code.Slots.{tail_of_octets, grown, completed, member_at}

-- the first six octets of a tail and a field
pub join_six : (tail field : List ℕ) → length tail ≤ 6 → tail ++ take (6 - length tail) field ≡ take 6 (tail ++ field)
join_six tail field h =
    let six : length tail + (6 - length tail) ≡ 6 = omega arith in
    sym (take-append-add tail field (6 - length tail)) ∙ ap (λ (n : ℕ). take n (tail ++ field)) six

-- more octets after a tail
pub grown_octets : (first place : ℕ) (octets more : List ℕ) → 0 < length octets
    → tail_of_octets first place (octets ++ more) ≡ grown (tail_of_octets first place octets) more
grown_octets first place [] more h = absurd (omega arith)
grown_octets first place (x ∷ xs) more h = refl

pub octets_again : (first place : ℕ) (octets : List ℕ) → octets_in (tail_of_octets first place octets) ≡ octets
octets_again first place [] = refl
octets_again first place (x ∷ xs) = refl

-- a tail and a prefix of the field are the packet whose end was reckoned from both
pub whole_with : (octets field : List ℕ) (reach start : ℕ) → is_packet octets ≡ true → 0 < length octets → start ≤ length field
    → reach ≡ packet_length (octets ++ field) → reach ≡ length octets + start → IsOnePacket (octets ++ take start field)
whole_with [] field reach start version some inside e stop = absurd (omega arith)
whole_with (x ∷ xs) field reach start version some inside e stop =
    let reaches : reach ≤ length ((x ∷ xs) ++ field) = omega (arith, length-append (x ∷ xs) field) in
    subst (λ (o : List ℕ). IsOnePacket o) (ap (λ (n : ℕ). take n ((x ∷ xs) ++ field)) stop ∙ take-append-add (x ∷ xs) field start)
    (one-front ((x ∷ xs) ++ field) reach e reaches version)

-- a packet that ends at the frame's place
pub step_completed : (limit : ℕ) (tail : Option Tail) (seen start : ℕ) (field : List ℕ) → 0 < length (octets_in tail) → start ≤ length field
    → length (octets_in tail) + start ≡ packet_length (octets_in tail ++ field)
    → is_long limit (packet_length (octets_in tail ++ field)) (length (octets_in tail) + length field) ≡ false
    → completed tail (take start field) seen ++ frame_parts limit (member_at seen (Some start) field) ≡ step_parts limit tail (member_at seen (Some start) field)
step_completed limit None seen start field some inside h short = absurd (omega arith)
step_completed limit (Some t) seen start field some inside h short =
    let reach : ℕ = packet_length (t.octets ++ field) in
    let l : length (t.octets ++ field) ≡ length t.octets + length field = length-append t.octets field in
    rw (eq-eqb reach (length t.octets + start) (sym h), short, le-leb reach (length (t.octets ++ field)) (omega arith), ← h, take-append-add t.octets field start)

-- the same, by what the code tests
pub step_completed_at : (limit : ℕ) (tail : Option Tail) (seen start : ℕ) (field : List ℕ) (reach held : ℕ) (place : Option ℕ) → place ≡ Some start
    → reach ≡ packet_length (octets_in tail ++ field) → held ≡ length (octets_in tail) → 0 < held → start ≤ length field
    → agrees_at reach held (length field) place ≡ true → is_long limit reach (held + length field) ≡ false
    → completed tail (take start field) seen ++ frame_parts limit (member_at seen (Some start) field) ≡ step_parts limit tail (member_at seen place field)
step_completed_at limit tail seen start field reach held place at e same some inside agree short =
    let there : agrees_at reach held (length field) (Some start) ≡ true = subst (λ (p : Option ℕ). agrees_at reach held (length field) p ≡ true) at agree in
    let stop : reach ≡ held + start = eqb-true reach (held + start) there in
    let s : is_long limit (packet_length (octets_in tail ++ field)) (length (octets_in tail) + length field) ≡ false = rw (← e, ← same) short in
    step_completed limit tail seen start field (omega (arith, same)) inside (omega (arith, e, same, stop)) s
    ∙ ap (λ (p : Option ℕ). step_parts limit tail (member_at seen p field)) (sym at)
