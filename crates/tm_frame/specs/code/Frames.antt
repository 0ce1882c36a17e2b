-- What the fields of a `Frame` say.
use Rattle.tm_frame.specs.declared.frame.Frame.TheInside.{Inside}
use Rattle.tm_frame.specs.Frame.{GoodFrame}

-- the good frame in these fields
abbrev pub good_frame_in : Inside → GoodFrame
good_frame_in a = record {
  field = a.field.now;
  channel = a.channel;
  master_count = a.master_count;
  count = a.count;
  kind = a.kind;
  secondary_length = a.secondary_length;
  has_ocf = a.has_ocf;
  order_flag = a.order_flag;
  segment = a.segment;
}
