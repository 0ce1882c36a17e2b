-- Packets over the limit: where their header isn't there yet they aren't long, and a frame that agrees has none.
use Rattle.std.proofs.Common.{◌≡◌, ℕ, ◌+◌, ◌<◌, ◌≤◌, Bool, true, false, not, ◌&&◌, List, ◌∷◌, ◌++◌, length, refl, ap, ◌∙◌, ⊎_elim, arith, length-append, leb, ltb}
use Rattle.std.proofs.lemmas.Bool.{lt-leb, leb-false, ltb-false, and_parts, and_cases, not-true}
use Rattle.tm_reassembly.specs.Chain.{ChainMember}
use Rattle.tm_items.specs.OnePacket.{is_packet, packet_length}
use Rattle.tm_reassembly.specs.Parts.{is_long, begins_packet, agrees, agrees_at}

pub and_not : (a b : Bool) → a ≡ true → b ≡ false → (a && not b) ≡ true
and_not a b e f = rw (e, f) refl

-- without a whole header nothing is long
pub not-long : (limit d stop : ℕ) → stop < 6 → is_long limit d stop ≡ false
not-long limit d stop h = let e : leb 6 stop ≡ false = lt-leb 6 stop h in rw e refl

-- what isn't long where its header is there is within the limit
pub within-limit : (limit reach stop : ℕ) → 6 ≤ stop → is_long limit reach stop ≡ false → reach ≤ limit
within-limit limit reach stop there h =
    ⊎_elim (λ e. absurd (omega (arith, leb-false 6 stop e))) (λ e. ltb-false limit reach e) (and_cases (leb 6 stop) (ltb limit reach) h)

module _ (limit reach at : ℕ) (m : ChainMember) (agree : agrees limit reach at m ≡ true) where
  -- a frame that agrees does so by its place
  pub agrees-place : agrees_at reach at (length m.field) m.place ≡ true
  agrees-place = (and_parts (agrees_at reach at (length m.field) m.place) (not (is_long limit reach (at + length m.field))) agree).0

  -- and the packet isn't long there
  pub agrees-short : is_long limit reach (at + length m.field) ≡ false
  agrees-short =
      not-true (is_long limit reach (at + length m.field))
      (and_parts (agrees_at reach at (length m.field) m.place) (not (is_long limit reach (at + length m.field))) agree).1

pub begins-zero : (limit : ℕ) (start : List ℕ) → begins_packet limit start ≡ true → is_packet start ≡ true
begins-zero limit start h = (and_parts (is_packet start) (not (is_long limit (packet_length start) (length start))) h).0

pub begins-short : (limit : ℕ) (start : List ℕ) → begins_packet limit start ≡ true → is_long limit (packet_length start) (length start) ≡ false
begins-short limit start h = not-true (is_long limit (packet_length start) (length start)) (and_parts (is_packet start) (not (is_long limit (packet_length start) (length start))) h).1

-- a start and a frame that agrees with it are one longer start
pub begins-longer : (limit x : ℕ) (xs : List ℕ) (f : ChainMember) → begins_packet limit (x ∷ xs) ≡ true
    → agrees limit (packet_length ((x ∷ xs) ++ f.field)) (length (x ∷ xs)) f ≡ true → begins_packet limit ((x ∷ xs) ++ f.field) ≡ true
begins-longer limit x xs f h agree =
    let len : length ((x ∷ xs) ++ f.field) ≡ length (x ∷ xs) + length f.field = length-append (x ∷ xs) f.field in
    let short : is_long limit (packet_length ((x ∷ xs) ++ f.field)) (length ((x ∷ xs) ++ f.field)) ≡ false =
    ap (λ (n : ℕ). is_long limit (packet_length ((x ∷ xs) ++ f.field)) n) len ∙ agrees-short limit (packet_length ((x ∷ xs) ++ f.field)) (length (x ∷ xs)) f agree in
    and_not (is_packet (x ∷ xs)) (is_long limit (packet_length ((x ∷ xs) ++ f.field)) (length ((x ∷ xs) ++ f.field))) (begins-zero limit (x ∷ xs) h) short
