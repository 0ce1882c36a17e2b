use Rattle.tm_fields.proofs.lead.write_lead_names.Goals as goal

pub returns : goal.returns
returns g c = λ lines h. c.in_ok-write_value-4.ensures lines _ (c.in_ok-write_value-3.ensures lines _ (c.in_ok-write_value-2.ensures lines _ (c.in_ok-write_value.ensures lines _ h)))
