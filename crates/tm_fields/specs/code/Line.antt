-- For private contracts: lines of comma-separated values that are being written.
use Rattle.std.specs.Prelude.{◌≡◌, ℕ, ◌-◌, ◌^◌, ◌++◌, [], min, List, length, Option, Some}
use Rattle.csv.specs.Writing.{default_writer, fields_written, row_body, text_written, writer_setup, writer_under}
use Rattle.csv.specs.declared.writer.Writer.{Writer}

-- a writer has written this text of whole lines, and then these values of a line that it has not ended
pub record HasValues {W : Type 0} (contents : W → Option (List ℕ)) (writer : Writer W) (lines : List ℕ) (values : List (List ℕ)) : Type 0 where
  pub setup : writer_setup writer ≡ default_writer
  pub count : fields_written writer ≡ min (length values) (2 ^ 64 - 1)
  pub text : text_written contents writer ≡ Some (lines ++ row_body default_writer values)

-- a writer has written this text of whole lines, and passed it on
pub record HasPassedOn {W : Type 0} (contents : W → Option (List ℕ)) (writer : Writer W) (lines : List ℕ) : Type 0 where
  pub whole : HasValues contents writer lines []
  pub passed : contents (writer_under writer) ≡ Some lines
