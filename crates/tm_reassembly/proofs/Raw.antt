-- The laws over raw records.
use Rattle.std.proofs.Common.{◌≡◌, ℕ, List, ◌++◌, ap, ◌∙◌}
use Rattle.tm_frame.specs.Rules.{Rules, chooses}
use Rattle.tm_reassembly.specs.State.{State}
use Rattle.tm_reassembly.specs.Items as read
use Rattle.tm_reassembly.specs.Recording.{readings, items, after}
use Rattle.tm_reassembly.specs.Valid.{IsValidState}
use Rattle.tm_reassembly.proofs.Fits.{readings-fit, readings-append}
use Rattle.tm_reassembly.proofs.OneStep.{valid-from, after-nil}
use Rattle.tm_reassembly.proofs.Records.{items-append, after-append}
pub use Rattle.tm_reassembly.proofs.Tiled.{tiled as raw-tiled}

pub items-join : (rules : Rules) (s : State) (a b : List (List ℕ)) → IsValidState rules s
    → items rules s (a ++ b) ≡ items rules s a ++ items rules (after rules s a) b
unfolding items after
items-join rules s a b v =
    ap (read.items_of_readings rules.max_packet (chooses rules) s) (readings-append rules.layout a b)
    ∙ items-append rules.max_packet (chooses rules) s (readings rules.layout a) (readings rules.layout b) (valid-from rules.max_packet (chooses rules) s v.shape)
    (after-nil rules.max_packet (chooses rules) s v.shape) (readings-fit rules.layout a) (readings-fit rules.layout b)

pub states-join : (rules : Rules) (s : State) (a b : List (List ℕ)) → IsValidState rules s → after rules s (a ++ b) ≡ after rules (after rules s a) b
unfolding after
states-join rules s a b v =
    ap (read.state_after_readings rules.max_packet (chooses rules) s) (readings-append rules.layout a b)
    ∙ after-append rules.max_packet (chooses rules) s (readings rules.layout a) (readings rules.layout b) (valid-from rules.max_packet (chooses rules) s v.shape)
    (after-nil rules.max_packet (chooses rules) s v.shape) (readings-fit rules.layout a)
