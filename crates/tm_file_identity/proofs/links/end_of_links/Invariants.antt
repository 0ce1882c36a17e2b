-- So many links led to the path.
use Rattle.std.specs.Path.{path_buf_bytes}
use Rattle.tm_file_identity.specs.Links.{IsReached}
use Rattle.tm_file_identity.proofs.links.end_of_links.Given as goal

abbrev pub invariant-loop-followed : goal.invariant-loop-followed
invariant-loop-followed g l = IsReached (g.L.Links.leads l.links) l.name (path_buf_bytes l.path) l.followed
