use Rattle.tm_file_identity.proofs.LinkLemmas.{reached_here, reached_next}
use Rattle.std.specs.Path.{path_buf_bytes}
use Rattle.tm_file_identity.proofs.links.end_of_links.Goals as goal

pub loop-followed-init : goal.loop-followed-init
loop-followed-init g c = reached_here (g.L.Links.leads c.args.links.now) c.args.name.now (path_buf_bytes c.in_ok-path.path) c.in_ok-path.ensures

pub loop-followed-preserved : goal.loop-followed-preserved
loop-followed-preserved g c =
    reached_next (g.L.Links.leads c.args.links.now) (g.L.Links.ends c.args.links.now) c.args.name.now c.loop-followed.followed c.loop-followed.path
    c.in_ok-target.field-0 c.in-Some.target c.in_ok-next.field-0 c.in-Some-2.next
    c.loop-followed.invariant c.in_ok-target.ensures c.in-Some.is c.in_ok-next.ensures c.in-Some-2.is
