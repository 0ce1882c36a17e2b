use Rattle.std.proofs.Common.{◌≡◌, ◌++◌, map, drop, option_map}
use Rattle.toml.specs.View.{items_view}
use Rattle.tm_settings.specs.Settings.{integers, channel_number}
use Rattle.tm_settings.proofs.values.channel_numbers.Given as goal

abbrev pub invariant-loop-value : goal.invariant-loop-value
invariant-loop-value l = option_map (map channel_number) (integers (items_view l.array))
    ≡ option_map (λ ns. l.numbers.items ++ ns) (option_map (map channel_number) (integers (items_view (drop l.value-index l.array))))
