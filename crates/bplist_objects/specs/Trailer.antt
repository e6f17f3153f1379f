-- The numbers of a trailer as a frame. Source: the format comment of CFBinaryPList.c.
use Rattle.bplist_objects.specs.declared.frame.Trailer.{Trailer}
use Rattle.bplist_objects.specs.declared.frame.Frame.{Frame}

-- the frame of these five numbers
abbrev pub frame_of_trailer : Trailer → Frame
frame_of_trailer t = record {
  offset_size = t.offset_size;
  ref_size = t.ref_size;
  objects = t.objects;
  top = record { 0 = t.top };
  table = t.table;
}
