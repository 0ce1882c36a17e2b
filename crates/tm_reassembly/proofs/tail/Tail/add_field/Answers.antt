use Rattle.std.proofs.Common.{◌≡◌, ◌<◌, ◌≤◌, ◌+◌, ◌++◌, true, false, ℕ, List, length, take, sym, ap, subst, ◌∙◌, arith, rules}
use Rattle.std.proofs.lemmas.List.{length-take-le, take_all}
use Rattle.tm_reassembly.specs.code.Slots.{Buffer}
use Rattle.tm_reassembly.specs.State.{octets_in}
use Rattle.tm_reassembly.specs.Parts.{agrees_at, is_long}
use Rattle.tm_items.specs.OnePacket.{IsOnePacket, is_packet, packet_length}
use Rattle.tm_reassembly.proofs.Tails.{octets_again, step_completed_at, whole_with}
use Rattle.tm_reassembly.proofs.tail.Tail.add_field.Goals as goal

pub complete_in-requires-clause-whole : goal.complete_in-requires-clause-whole
complete_in-requires-clause-whole g c =
    let same : octets_in c.args.self.now.tail ≡ c.self.inside.octets.items = ap (λ (b : Buffer). octets_in b.tail) (sym c.self.view_is) ∙ octets_again _ _ _ in
    let items : c.len-held.result ≡ length c.self.inside.octets.items = search rules in
    let some : 0 < length c.self.inside.octets.items = search rules in
    let version : is_packet c.self.inside.octets.items ≡ true = search rules in
    let inside : c.in-Some.start ≤ length c.args.field.octets.now = search rules in
    let stop : c.packet_length_over-length.result ≡ c.len-held.result + c.in-Some.start = search rules in
    let reach : c.packet_length_over-length.result ≡ packet_length (c.self.inside.octets.items ++ c.args.field.octets.now) = c.packet_length_over-length.ensures.value ∙ ap (λ (o : List ℕ). packet_length (o ++ c.args.field.octets.now)) c.as_slice.ensures.value in
    let most : c.len-held.result + c.in-Some.start ≤ c.self.inside.limit = search rules in
    let taken = length-take-le c.in-Some.start c.args.field.octets.now inside in
    ((rw same some, omega (arith, taken, ap length same, items, most, ap (λ (b : Buffer). b.limit) c.self.view_is)), subst (λ (o : List ℕ). IsOnePacket (o ++ take c.in-Some.start c.args.field.octets.now)) (sym same) (whole_with _ _ _ _ version some inside reach (stop ∙ ap (λ (n : ℕ). n + c.in-Some.start) items)))

pub complete-requires-clause-whole : goal.complete-requires-clause-whole
complete-requires-clause-whole g c =
    let same : octets_in c.args.self.now.tail ≡ c.self.inside.octets.items = ap (λ (b : Buffer). octets_in b.tail) (sym c.self.view_is) ∙ octets_again _ _ _ in
    let items : c.len-held.result ≡ length c.self.inside.octets.items = search rules in
    let some : 0 < length c.self.inside.octets.items = search rules in
    let version : is_packet c.self.inside.octets.items ≡ true = search rules in
    let stop : c.packet_length_over-length.result ≡ c.len-held.result + length c.args.field.octets.now = search rules in
    let reach : c.packet_length_over-length.result ≡ packet_length (c.self.inside.octets.items ++ c.args.field.octets.now) = c.packet_length_over-length.ensures.value ∙ ap (λ (o : List ℕ). packet_length (o ++ c.args.field.octets.now)) c.as_slice.ensures.value in
    let whole = whole_with _ _ _ _ version some (omega arith) reach (stop ∙ ap (λ (n : ℕ). n + length c.args.field.octets.now) items) in
    let most : c.len-held.result + length c.args.field.octets.now ≤ c.self.inside.limit = search rules in
    ((rw same some, omega (arith, ap length same, items, most, ap (λ (b : Buffer). b.limit) c.self.view_is)), rw (same, ← take_all (length c.args.field.octets.now) c.args.field.octets.now (omega arith)) whole)

pub returns-in-Some-clause-given : goal.returns-in-Some-clause-given
returns-in-Some-clause-given g c =
    let same : octets_in c.args.self.now.tail ≡ c.self.inside.octets.items = ap (λ (b : Buffer). octets_in b.tail) (sym c.self.view_is) ∙ octets_again _ _ _ in
    let limit : c.self.inside.limit ≡ c.args.self.now.limit = ap (λ (b : Buffer). b.limit) c.self.view_is in
    let some : 0 < c.len-held.result = search rules in
    let inside : c.in-Some.start ≤ length c.args.field.octets.now = search rules in
    let agree : agrees_at c.packet_length_over-length.result c.len-held.result (length c.args.field.octets.now) c.args.field.place ≡ true = search rules in
    let short : is_long c.self.inside.limit c.packet_length_over-length.result (c.len-held.result + length c.args.field.octets.now) ≡ false = search rules in
    let reach : c.packet_length_over-length.result ≡ packet_length (octets_in c.args.self.now.tail ++ c.args.field.octets.now) = c.packet_length_over-length.ensures.value ∙ ap (λ (o : List ℕ). packet_length (o ++ c.args.field.octets.now)) (c.as_slice.ensures.value ∙ sym same) in
    let items : c.len-held.result ≡ length c.self.inside.octets.items = search rules in
    let held : c.len-held.result ≡ length (octets_in c.args.self.now.tail) = items ∙ ap length (sym same) in
    let e = step_completed_at c.args.self.now.limit c.args.self.now.tail c.args.site.seen c.in-Some.start c.args.field.octets.now c.packet_length_over-length.result c.len-held.result c.args.field.place c.in-Some.is reach held some inside agree (rw (← limit) short) in
    rw (← e) c.complete_in.ensures.given
