use Rattle.tm_lines.specs.Lines.{note_line}
use Rattle.tm_lines.proofs.lines.format_note.Goals as goal

pub returns-in-Gap : goal.returns-in-Gap
unfolding note_line
returns-in-Gap c = rw c.in-Gap.is (cc)

pub returns-in-Broken : goal.returns-in-Broken
unfolding note_line
returns-in-Broken c = rw c.in-Broken.is (cc)

pub returns-in-Whole : goal.returns-in-Whole
unfolding note_line
returns-in-Whole c = rw c.in-Whole.is (cc)

pub returns-in-Stray : goal.returns-in-Stray
unfolding note_line
returns-in-Stray c = rw c.in-Stray.is (cc)
