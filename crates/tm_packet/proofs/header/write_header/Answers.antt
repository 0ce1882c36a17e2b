use Rattle.std.proofs.Common.{ap, sym, ◌∙◌, subst, arith}
use Rattle.tm_packet.specs.Header.{AreInRange}
use Rattle.tm_packet.specs.code.Headers.{header_words}
use Rattle.tm_packet.proofs.WordLemmas.{in_range}
use Rattle.tm_packet.proofs.HeaderLemmas.{written, reading_back}
use Rattle.tm_packet.proofs.header.write_header.Goals as goal

pub returns-clause-bits : goal.returns-clause-bits
returns-clause-bits c =
    written c.args.header c.header.inside c.to_be_bytes.result c.to_be_bytes-2.result c.to_be_bytes-3.result
    (subst AreInRange c.header.view_is (in_range c.header.inside c.header.invariant))
    (sym c.header.invariant.back ∙ ap header_words c.header.view_is)
    c.to_be_bytes.ensures c.to_be_bytes-2.ensures c.to_be_bytes-3.ensures

pub returns-clause-read_back : goal.returns-clause-read_back
returns-clause-read_back c =
    reading_back _ c.args.header (subst AreInRange c.header.view_is (in_range c.header.inside c.header.invariant)) (omega arith) (returns-clause-bits c)
