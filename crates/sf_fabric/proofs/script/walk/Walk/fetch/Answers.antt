use Rattle.std.proofs.Common.{◌≡◌, ℕ, ◌+◌, ◌^◌, ◌<◌, [], ◌∷◌, ◌++◌, List, map, length, get_or, set, arith, sym, ap, subst, ◌∙◌}
use Rattle.std.proofs.lemmas.Grind.{get_or_default_zero}
use Rattle.sf_defs.specs.Asks.{step}
use Rattle.sf_fabric.specs.script.Walks.{Course, AreThere, taken, done}
use Rattle.sf_fabric.proofs.script.Taken.{length-there, room-there, taken-more, there-more, rooms-more}
use Rattle.sf_fabric.proofs.script.walk.Walk.fetch.Goals as goal

pub put-requires-clause-place : goal.put-requires-clause-place
put-requires-clause-place c =
    let ns : List ℕ = c.self.inside.done.items in
    let ls : List (List ℕ) = c.self.inside.got in
    let listed : c.args.rank < length (taken ns ls) = subst (λ (w : Course). c.args.rank < length w.at.got) (sym c.self.view_is) c.requires.rank in
    let free : length (get_or (taken ns ls) c.args.rank []) < get_or (map length ls) c.args.rank 0 = subst (λ (w : Course). length (get_or w.at.got c.args.rank []) < get_or w.rooms c.args.rank 0) (sym c.self.view_is) c.requires.room in
    let room = room-there ns ls c.args.rank c.self.invariant listed free in
    let next : c.index-next.result.now ≡ get_or ns c.args.rank 0 = c.index-next.ensures ∙ get_or_default_zero ns c.args.rank c.index-next.result.now room.0 in
    subst (λ (n : ℕ). n < length (get_or ls c.args.rank [])) (sym next) room.2

pub overflow_add-next : goal.overflow_add-next
overflow_add-next c =
    let ns : List ℕ = c.self.inside.done.items in
    let ls : List (List ℕ) = c.self.inside.got in
    let listed : c.args.rank < length (taken ns ls) = subst (λ (w : Course). c.args.rank < length w.at.got) (sym c.self.view_is) c.requires.rank in
    let free : length (get_or (taken ns ls) c.args.rank []) < get_or (map length ls) c.args.rank 0 = subst (λ (w : Course). length (get_or w.at.got c.args.rank []) < get_or w.rooms c.args.rank 0) (sym c.self.view_is) c.requires.room in
    let room = room-there ns ls c.args.rank c.self.invariant listed free in
    let next : c.index-next.result.now ≡ get_or ns c.args.rank 0 = c.index-next.ensures ∙ get_or_default_zero ns c.args.rank c.index-next.result.now room.0 in
    let small : length (get_or (taken ns ls) c.args.rank []) + 1 < 2 ^ 64 = subst (λ (w : Course). length (get_or w.at.got c.args.rank []) + 1 < 2 ^ 64) (sym c.self.view_is) c.requires.small in
    omega (arith, next, small, length-there ns ls c.self.invariant c.args.rank)

pub invariant_of-self : goal.invariant_of-self
invariant_of-self c =
    let ns : List ℕ = c.self.inside.done.items in
    let ls : List (List ℕ) = c.self.inside.got in
    let listed : c.args.rank < length (taken ns ls) = subst (λ (w : Course). c.args.rank < length w.at.got) (sym c.self.view_is) c.requires.rank in
    let free : length (get_or (taken ns ls) c.args.rank []) < get_or (map length ls) c.args.rank 0 = subst (λ (w : Course). length (get_or w.at.got c.args.rank []) < get_or w.rooms c.args.rank 0) (sym c.self.view_is) c.requires.room in
    let room = room-there ns ls c.args.rank c.self.invariant listed free in
    let next : c.index-next.result.now ≡ get_or ns c.args.rank 0 = c.index-next.ensures ∙ get_or_default_zero ns c.args.rank c.index-next.result.now room.0 in
    subst (λ (lists : List (List ℕ)). AreThere (set ns c.args.rank (c.index-next.result.now + 1)) lists) (sym c.put.ensures)
    (subst (λ (n : ℕ). AreThere (set ns c.args.rank (n + 1)) (set ls c.args.rank (set (get_or ls c.args.rank []) n c.index-word.result.now))) (sym next)
    (there-more ns ls c.self.invariant c.args.rank c.index-word.result.now room.1 room.2))

pub returns-clause-at : goal.returns-clause-at
returns-clause-at c =
    let words : List ℕ = c.self.inside.words.items in
    let ns : List ℕ = c.self.inside.done.items in
    let ls : List (List ℕ) = c.self.inside.got in
    let rank : ℕ = c.args.rank in
    let listed : rank < length (taken ns ls) = subst (λ (w : Course). c.args.rank < length w.at.got) (sym c.self.view_is) c.requires.rank in
    let free : length (get_or (taken ns ls) rank []) < get_or (map length ls) rank 0 = subst (λ (w : Course). length (get_or w.at.got c.args.rank []) < get_or w.rooms c.args.rank 0) (sym c.self.view_is) c.requires.room in
    let room = room-there ns ls rank c.self.invariant listed free in
    let next : c.index-next.result.now ≡ get_or ns rank 0 = c.index-next.ensures ∙ get_or_default_zero ns rank c.index-next.result.now room.0 in
    let within : c.args.ask.word < length words = subst (λ (w : Course). c.args.ask.word < length w.at.words) (sym c.self.view_is) c.requires.word in
    let word : c.index-word.result.now ≡ get_or words c.args.ask.word 0 = c.index-word.ensures ∙ get_or_default_zero words c.args.ask.word c.index-word.result.now within in
    let value : c.apply.result ≡ step c.args.ask.op c.args.ask.value (get_or words c.args.ask.word 0) = c.apply.ensures ∙ ap (step c.args.ask.op c.args.ask.value) word in
    let got : taken (set ns rank (c.index-next.result.now + 1)) c.put.new.self ≡ set (taken ns ls) rank (get_or (taken ns ls) rank [] ++ get_or words c.args.ask.word 0 ∷ []) =
    ap (taken (set ns rank (c.index-next.result.now + 1))) c.put.ensures
    ∙ (λ i. taken (set ns rank (next i + 1)) (set ls rank (set (get_or ls rank []) (next i) (word i))))
    ∙ taken-more ns ls c.self.invariant rank (get_or words c.args.ask.word 0) room.1 room.2 in
    (λ i. record { words = set words c.args.ask.word (value i); got = got i }) ∙ ap (λ (w : Course). done w.at c.args.rank c.args.ask) c.self.view_is

pub returns-clause-rooms : goal.returns-clause-rooms
returns-clause-rooms c =
    let ns : List ℕ = c.self.inside.done.items in
    let ls : List (List ℕ) = c.self.inside.got in
    let listed : c.args.rank < length (taken ns ls) = subst (λ (w : Course). c.args.rank < length w.at.got) (sym c.self.view_is) c.requires.rank in
    let free : length (get_or (taken ns ls) c.args.rank []) < get_or (map length ls) c.args.rank 0 = subst (λ (w : Course). length (get_or w.at.got c.args.rank []) < get_or w.rooms c.args.rank 0) (sym c.self.view_is) c.requires.room in
    let room = room-there ns ls c.args.rank c.self.invariant listed free in
    let next : c.index-next.result.now ≡ get_or ns c.args.rank 0 = c.index-next.ensures ∙ get_or_default_zero ns c.args.rank c.index-next.result.now room.0 in
    ap (map length) c.put.ensures
    ∙ ap (λ (n : ℕ). map length (set ls c.args.rank (set (get_or ls c.args.rank []) n c.index-word.result.now))) next
    ∙ rooms-more ns ls c.self.invariant c.args.rank c.index-word.result.now room.1 room.2
    ∙ ap (λ (w : Course). w.rooms) c.self.view_is
