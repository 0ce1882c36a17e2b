use Rattle.tm_c.proofs.export.answer_request.Goals as goal

pub returns-in-2-clause-fields : goal.returns-in-2-clause-fields
returns-in-2-clause-fields c = λ is. rw is at c.answer_fields.ensures

pub returns-in-2-clause-binary_fields : goal.returns-in-2-clause-binary_fields
returns-in-2-clause-binary_fields c = λ is. rw is at c.answer_fields.ensures
