-- What a handle owns.
use base.Fml.{Fml, feq}
use denote.RawPtr.{Ptr, null_ptr}
use Rattle.std.specs.declared.option.Option.{Option}
use Rattle.std.specs.declared.option.Option.TheVariants.{None, Some}
use Rattle.std.specs.declared.alloc.Global.{Global}
use Rattle.std.specs.contracts.impls.GlobalAllocator.TheImpl.{ghosts}
use Rattle.std.specs.Box.Ownership.{box_owns}
use Rattle.tm_feed.specs.contracts.job.FedJob.{the_row}
use Rattle.tm_feed.specs.States.{FeedState}

-- a job lies at the pointer, and its block may be freed; with no job the pointer is null
abbrev pub owned : Global → Ptr → Option FeedState → Fml
owned alloc at None = feq Ptr at null_ptr
owned alloc at (Some job) = box_owns (ghosts.dealloc_token alloc) the_row at job
