-- What a job has from record to record: for private contracts, and for the model of a job.
use Rattle.std.specs.Prelude.{◌≡◌, ◌<◌, length}
use Rattle.tm_frame.specs.Layout.{record_length_of}
use Rattle.tm_checkpoint.specs.Works.{IsGoing, Work, work_of}
use Rattle.tm_tool.specs.declared.extractor.Extractor.{Extractor}

-- how far it has got
abbrev pub work_in : Extractor → Work
work_in e = work_of e.reassembly e.tracker

-- no step was refused, and the buffer holds one record
pub record IsReady (e : Extractor) : Type 0 where
  pub going : IsGoing e.reassembly
  pub exact : length e.buffer.items ≡ record_length_of e.reassembly.rules.layout
  pub some : 0 < length e.buffer.items
