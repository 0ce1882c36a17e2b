-- A file doesn't tell its octets: of what was passed over any octets may be told.
use Rattle.std.proofs.Common.{ℕ, Bool, true, false, None, refl}
use Rattle.std.specs.Prelude.{Ok}
use Rattle.std.proofs.Math.ListN.{replicate}
use Rattle.std.proofs.lemmas.List.{length-replicate}
use Rattle.tm_devices.specs.declared.device.DeviceFailed.{DeviceFailed}
use Rattle.tm_devices.specs.Devices.{PassesOver}

pub passes_untold : (did : Bool) (n : ℕ) → PassesOver {E = DeviceFailed} None None n (Ok did)
passes_untold true n = (replicate n 0, length-replicate n 0, tt)
passes_untold false n = refl
