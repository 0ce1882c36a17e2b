-- What a record reads as: a good frame, of any channel, or the fault of a bad one.
use Rattle.std.specs.Prelude.{Result}
use Rattle.tm_frame.specs.Frame.{GoodFrame}
use Rattle.tm_frame.specs.declared.fault.FrameFault.{FrameFault}

abbrev pub FrameReading : Type 0
FrameReading = Result GoodFrame FrameFault
