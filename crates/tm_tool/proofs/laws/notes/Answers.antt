use Rattle.std.proofs.Common.{◌<◌, ◌∙◌, ℕ, subst}
use Rattle.tm_reassembly.proofs.ItemChannels.{item-channel}
use Rattle.tm_tool.specs.RecordingPieces.{items_of, worked}
use Rattle.tm_tool.proofs.NoteLemmas.{noted_all_is, open_is, pieces_noted}
use Rattle.tm_tool.proofs.laws.notes.Goals as goal

pub returns-clause-pieces : goal.returns-clause-pieces
returns-clause-pieces c text w rs valid =
    pieces_noted text w.entries (items_of w rs) valid.entries
    (λ n x own among. subst (λ (most : ℕ). n < most) valid.eight (item-channel w.rules w.state rs n x own among))

pub returns-clause-shelved : goal.returns-clause-shelved
returns-clause-shelved c text w rs valid =
    pieces_noted text w.entries (items_of w rs) valid.entries
    (λ n x own among. subst (λ (most : ℕ). n < most) valid.eight (item-channel w.rules w.state rs n x own among))

pub returns-clause-entries : goal.returns-clause-entries
returns-clause-entries c w rs = noted_all_is w.entries (items_of w rs)

pub returns-clause-open : goal.returns-clause-open
returns-clause-open c w rs rest = open_is (worked w rs).entries (worked w rs).state rest ∙ noted_all_is w.entries (items_of w rs)
