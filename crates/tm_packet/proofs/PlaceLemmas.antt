-- An entry is read again from its counts.
use Rattle.std.proofs.Common.{◌≡◌, ℕ, ◌+◌, ◌*◌, ◌/◌, ◌%◌, ◌<◌, Option, Some, None, refl, sym, ap, ◌∙◌, arith}
use Rattle.std.proofs.lemmas.Bool.{ne_eqb}
use Rattle.tm_packet.specs.declared.tracker.PairEntry.{PairEntry}
use Rattle.tm_packet.specs.Spelling.{first_number, first_count_of}
use Rattle.tm_packet.specs.Valid.{IsEntry, FirstFits}
use Rattle.tm_packet.specs.code.Places.{entry_in, counts_of, ArePlaced}
use Rattle.tm_packet.proofs.SpellingLemmas.{first_back}

at_most : (first : Option ℕ) → FirstFits first → first_number first < 65536
at_most None h = omega arith
at_most (Some n) h = omega arith

-- the last count is told from none
kept : (n : ℕ) (first : ℕ) (e : PairEntry) → e.count < 16384 → first_count_of first ≡ e.first → n % 65536 ≡ e.count → n / 65536 ≡ first → entry_in n ≡ Some e
kept n first e small back low high =
    rw (low, high, ne_eqb e.count 65535 (λ (same : e.count ≡ 65535). omega arith), back) refl

-- what the counts of an entry say
pub read_back : (n : ℕ) (e : PairEntry) → IsEntry e → n ≡ first_number e.first * 65536 + e.count → entry_in n ≡ Some e
read_back n e fits same =
    let small : e.count < 16384 = fits.count in
    let few : first_number e.first < 65536 = at_most e.first fits.first in
    kept n (first_number e.first) e small (first_back e.first fits.first) (omega arith) (omega arith)

-- they are those of an entry
pub are_placed : (n : ℕ) (e : PairEntry) → IsEntry e → n ≡ first_number e.first * 65536 + e.count → ArePlaced n
are_placed n e fits same = rw (read_back n e fits same) (sym same)

-- counts that are those of an entry are no others
pub counted : (n : ℕ) (e : PairEntry) → ArePlaced n → entry_in n ≡ Some e → n ≡ first_number e.first * 65536 + e.count
counted n e placed same = sym placed ∙ ap counts_of same

pub ruleset told = (read_back, counted)

pub ruleset placed = (read_back, are_placed)
