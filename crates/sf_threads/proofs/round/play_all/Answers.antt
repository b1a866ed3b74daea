use Rattle.std.proofs.Common.{rules, ◌<◌, ℕ, length, map, sym, ◌∙◌}
use Rattle.std.specs.declared.vec.Vec.{Vec}
use Rattle.std.specs.declared.alloc.Global.{Global}
use Rattle.std.proofs.lemmas.List.{length-map}
use Rattle.plain_lists.specs.Vectors.{lists_of}
use Rattle.sf_defs.specs.declared.Ask.{Ask}
use Rattle.sf_defs.specs.declared.Tag.TheVariants.{Free}
use Rattle.sf_fabric.specs.Cut.{shared}
use Rattle.sf_threads.specs.Played.{HasPlayed, HaveOrders}
use Rattle.sf_threads.proofs.Legal.{playable, played-orders, if-ok}
use Rattle.sf_threads.proofs.round.play_all.Goals as goal

pub play-requires-clause-playable : goal.play-requires-clause-playable
play-requires-clause-playable g c κs within =
    let some : 0 < length c.args.key.now.words.items = search rules in
    playable c.args.key.now (lists_of c.args.asks.now) some (c.requires.ranks ∙ sym (length-map c.args.asks.now (λ (v : Vec Ask Global). v.items))) c.requires.asks

pub returns-clause-orders : goal.returns-clause-orders
returns-clause-orders g c =
    if-ok (λ (after : Vec ℕ Global). HasPlayed c.args.key.now (lists_of c.args.asks.now) (shared (map length (lists_of c.args.asks.now)) c.play.new.got) after.items)
    (λ (after : Vec ℕ Global). HaveOrders c.args.key.now.words.items (lists_of c.args.asks.now) (shared (map length (lists_of c.args.asks.now)) c.play.new.got) after.items)
    c.play.result (λ after. played-orders Free c.args.key.now (lists_of c.args.asks.now) (shared (map length (lists_of c.args.asks.now)) c.play.new.got) after.items) c.play.ensures.played
