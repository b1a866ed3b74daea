use Rattle.std.proofs.Common.{◌≡◌, drop}
use Rattle.shelf_io.specs.Files.{file_under}
use Rattle.shelf_io.specs.Named.{named}
use Rattle.shelf_io.proofs.memory_shelf.file_under.Given as goal

-- what was passed has other names
abbrev pub invariant-loop-found : goal.invariant-loop-found
invariant-loop-found l = file_under (named (drop l.found-index l.files)) l.name ≡ file_under (named l.files) l.name
