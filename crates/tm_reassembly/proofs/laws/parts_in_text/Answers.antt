use Rattle.tm_reassembly.proofs.LeadsInText.{lead-no_start, lead-pointer, lead-long, lead-joined}
use Rattle.tm_reassembly.proofs.PartsInText.{unread-at, unread_long-at, packet-at, broken-at, broken_long-at, unended-at}
use Rattle.tm_reassembly.proofs.laws.parts_in_text.Goals as goal

pub returns : goal.returns
returns c = record {
  no_start = lead-no_start;
  pointer = lead-pointer;
  long_lead = lead-long;
  joined = lead-joined;
  unread = λ limit p end some. unread-at limit p some end;
  long_unread = λ limit p end some. unread_long-at limit p some end;
  packet = λ limit p end some. packet-at limit p some end;
  broken = λ limit p end some. broken-at limit p some end;
  long_broken = λ limit p end some. broken_long-at limit p some end;
  unended = λ limit p end some. unended-at limit p some end;
}
