use Rattle.std.proofs.Common.{◌≡◌, ℕ, ◌-◌, ◌<◌, ◌≤◌, [], length, get_or}
use Rattle.sf_fabric.specs.script.Walks.{ending}
use Rattle.sf_fabric.proofs.script.walk.Walk.finish.Given as goal

abbrev pub invariant-loop-self : goal.invariant-loop-self
invariant-loop-self l = record {
  ranks : length l.self.at.got ≡ length l.asks;
  rooms : l.self.rooms ≡ l.initial.self.rooms;
  words : length l.self.at.words ≡ length l.initial.self.at.words;
  before : (k : ℕ) → k < l.rank → length (get_or l.asks k []) ≤ length (get_or l.self.at.got k []);
  ending : ending l.asks l.self.at [] ≡ ending l.asks l.initial.self.at [];
}

abbrev pub decreases-loop-self : goal.decreases-loop-self
decreases-loop-self l = length (get_or l.asks l.rank []) - length (get_or l.self.at.got l.rank [])
