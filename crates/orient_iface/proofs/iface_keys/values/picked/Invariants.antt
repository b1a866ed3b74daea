use Rattle.std.proofs.Common.{◌≡◌, take}
use Rattle.plain_lists.specs.Lists.{picked}
use Rattle.orient_iface.proofs.iface_keys.values.picked.Given as goal

abbrev pub invariant-loop-place : goal.invariant-loop-place
invariant-loop-place l = l.values.items ≡ picked l.own (take l.place-index l.places)
