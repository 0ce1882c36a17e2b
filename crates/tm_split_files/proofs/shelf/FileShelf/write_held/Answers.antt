use Rattle.std.proofs.Common.{◌≡◌}
use Rattle.tm_split_files.proofs.ShelfLemmas.{kept_seen, none_of_call}
use Rattle.tm_split_files.specs.Shelves.{buffer_octets}
use Rattle.tm_split_files.proofs.shelf.FileShelf.write_held.Goals as goal

pub returns-clause-held : goal.returns-clause-held
returns-clause-held g c = none_of_call c.write_held.result c.write_held.new.self.held.items c.write_held.ensures.held

pub returns-clause-left : goal.returns-clause-left
returns-clause-left g c = λ application.
    let old = c.self.inside.files.held.items in
    let same : c.args.self.now.held ≡ buffer_octets old = cc in
    rw same (kept_seen old c.write_held.new.self.held.items c.write_held.ensures.left application)
