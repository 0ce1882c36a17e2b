use Rattle.std.proofs.Common.{◌++◌, sym}
use Rattle.tm_split_files.proofs.OpenFileLemmas.{appended_there}
use Rattle.tm_split_files.proofs.files.Folder.write_one.Goals as goal

pub returns-in-Some-clause-appended : goal.returns-in-Some-clause-appended
returns-in-Some-clause-appended g c =
    appended_there g.R.File.Write.contents c.write_behind_held.result c.args.opened.now.items c.args.application c.in-Some.place
    c.index_mut.result.now c.write_behind_held.new.file (c.args.held.now.items ++ c.args.octets.now)
    (sym (rw c.as_slice.ensures.value at c.in-Some.ensures)) c.index_mut.ensures.value c.write_behind_held.ensures.whole
