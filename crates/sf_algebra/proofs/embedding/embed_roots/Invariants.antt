use Rattle.std.proofs.Common.{◌≡◌, take}
use Rattle.plain_lists.specs.Vectors.{lists_of}
use Rattle.sf_defs.specs.Forest.{embed_roots}
use Rattle.sf_algebra.proofs.embedding.embed_roots.Given as goal

abbrev pub invariant-loop-rank : goal.invariant-loop-rank
invariant-loop-rank l = lists_of l.leaves.items ≡ take l.rank (embed_roots l.a (lists_of l.keep)).leaves
