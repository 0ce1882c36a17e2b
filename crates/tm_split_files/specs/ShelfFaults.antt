-- Why octets don't come to their file.
use Rattle.std.specs.Prelude.{Bool, true, false}
use Rattle.tm_split_files.specs.declared.files.ShelfFault.{ShelfFault}
use Rattle.tm_split_files.specs.declared.files.ShelfFault.TheVariants.{NoMemory, NotWritten, Clashes}

-- memory ran out
abbrev pub is_out_of_memory : ShelfFault → Bool
is_out_of_memory NoMemory = true
is_out_of_memory NotWritten = false
is_out_of_memory Clashes = false
