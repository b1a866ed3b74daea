use Rattle.std.proofs.Common.{◌≡◌, ℕ, ◌<◌, ◌≤◌, [], length, map, get_or, drop}
use Rattle.sf_fabric.specs.script.Walks.{ending, start}
use Rattle.sf_fabric.proofs.script.walk.Walk.through.Given as goal

abbrev pub invariant-loop-pick : goal.invariant-loop-pick
invariant-loop-pick l = record {
  ranks : length l.walk.at.got ≡ length l.asks;
  rooms : l.walk.rooms ≡ map length l.asks;
  words : length l.walk.at.words ≡ length l.words;
  ending : ending l.asks l.walk.at (drop l.pick-index l.picks) ≡ ending l.asks (start l.asks l.words) l.picks;
}

abbrev pub invariant-loop-rank : goal.invariant-loop-rank
invariant-loop-rank l = record {
  ranks : length l.walk.at.got ≡ length l.asks;
  rooms : l.walk.rooms ≡ map length l.asks;
  words : length l.walk.at.words ≡ length l.words;
  before : (k : ℕ) → k < l.rank → length (get_or l.asks k []) ≤ length (get_or l.walk.at.got k []);
  ending : ending l.asks l.walk.at [] ≡ ending l.asks (start l.asks l.words) l.picks;
}
