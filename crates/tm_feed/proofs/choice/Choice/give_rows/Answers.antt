use Rattle.std.proofs.Common.{rules, ◌≡◌, ◌<◌, ◌+◌, ◌-◌, ◌++◌, ℕ, Option, None, Some, List, length, replicate, slice_set, ap, ◌∙◌, arith, length-append}
use Rattle.std.specs.Prelude.{max}
use Rattle.std.proofs.lemmas.List.{length-replicate}
use Rattle.tm_fields.specs.Binary.{row_length}
use Rattle.tm_fields.specs.declared.field.Field.{Field}
use Rattle.tm_feed.specs.States.{Chosen}
use Rattle.tm_feed.proofs.ChoiceLemmas.{fits_more, placed}
use Rattle.tm_feed.proofs.choice.Choice.give_rows.Goals as goal

pub invariant_of-self-2 : goal.invariant_of-self-2
invariant_of-self-2 c =
    let own = c.self.inside in
    let old : Chosen = record { only = own.only; rows = own.rows.items; longest = own.longest } in
    let rows : List (Option (List Field)) = c.add_places.new.rows.items in
    let more : ℕ = c.from-place.result + 1 - length own.rows.items in
    let is : rows ≡ own.rows.items ++ replicate more None = search rules in
    let within : c.from-place.result < length rows =
    omega (arith, ap length is, length-append own.rows.items (replicate more None), length-replicate {A = Option (List Field)} more None) in
    let few : c.from-place.result < 2048 = omega (arith, c.if-place-gt2047.false) in
    let longest : c.max-self-inside.result ≡ max own.longest (row_length c.args.definition) =
    c.max-self-inside.ensures ∙ ap (max own.longest) c.row_length-length.ensures in
    let new : Chosen = record { only = own.only; rows = slice_set rows c.from-place.result (Some c.args.definition); longest = max own.longest (row_length c.args.definition) } in
    let fits = fits_more old new c.from-place.result c.args.definition c.self.invariant.0 (placed old rows more c.from-place.result c.args.definition few is within) in
    rw longest (fits, search rules)
