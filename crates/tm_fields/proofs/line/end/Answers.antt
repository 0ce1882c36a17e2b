use Rattle.std.proofs.Common.{◌≡◌, ◌∙◌, false, rules}
use Rattle.std.specs.Result.{is_err}
use Rattle.csv.proofs.ReadFacts.{on-ok}
use Rattle.csv.specs.Writing.{fields_written, has_written, text_written}
use Rattle.tm_fields.proofs.LineLemmas.{line_end}
use Rattle.tm_fields.proofs.line.end.Goals as goal

pub returns : goal.returns
returns g c = λ lines values long h.
    let wrote : is_err c.end_record.result ≡ false = search rules in
    let ended = rw h.setup at (on-ok c.end_record.result wrote c.end_record.ensures.bytes) in
    let writer = c.args.writer.now in
    record {
      setup = on-ok c.end_record.result wrote c.end_record.ensures.same ∙ h.setup;
      count = on-ok c.end_record.result wrote c.end_record.ensures.fields;
      text = line_end (text_written g.W.Write.contents writer) (text_written g.W.Write.contents c.end_record.new.self) lines values (has_written writer) (fields_written writer) long h.text h.count ended;
    }
