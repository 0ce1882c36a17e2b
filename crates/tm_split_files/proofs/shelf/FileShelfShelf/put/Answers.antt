use Rattle.std.proofs.Common.{◌≡◌}
use Rattle.tm_split_files.proofs.ShelfLemmas.{no_memory_seen}
use Rattle.tm_split_files.specs.Shelves.{buffer_octets}
use Rattle.tm_split_files.proofs.shelf.FileShelfShelf.put.Goals as goal

pub returns-clause-kept : goal.returns-clause-kept
returns-clause-kept g c =
    let old = c.self.inside.files.held.items in
    let same : c.args.self.now.held ≡ buffer_octets old = cc in
    rw same (no_memory_seen c.hold-put.result old c.hold-put.new.self.held.items c.hold-put.new.self.octets c.hold-put.ensures.kept)
