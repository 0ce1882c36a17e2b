use Rattle.tm_lines.proofs.lines.format_type_and_secondary.Goals as goal

pub returns-then-secondary-clause-text : goal.returns-then-secondary-clause-text
returns-then-secondary-clause-text c = rw (c.if-telecommand.true, c.if-secondary.true) c.prepend_text.ensures.text

pub returns-else-secondary-clause-text : goal.returns-else-secondary-clause-text
returns-else-secondary-clause-text c = rw (c.if-telecommand.true, c.if-secondary.false) c.prepend_text-else-secondary.ensures.text

pub returns-then-secondary-2-clause-text : goal.returns-then-secondary-2-clause-text
returns-then-secondary-2-clause-text c = rw (c.if-telecommand.false, c.if-secondary-2.true) c.prepend_text-then-secondary-2.ensures.text

pub returns-else-secondary-2-clause-text : goal.returns-else-secondary-2-clause-text
returns-else-secondary-2-clause-text c = rw (c.if-telecommand.false, c.if-secondary-2.false) c.prepend_text-else-secondary-2.ensures.text
