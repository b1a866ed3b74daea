use Rattle.std.proofs.Common.{◌≡◌, ◌<◌, ◌+◌, [], ◌∷◌, ◌++◌, cond, Some, length, take, sym, ap, ap₂, ◌∙◌, subst, arith}
use Rattle.std.specs.List.{position_or_len}
use Rattle.std.specs.HashMap as hash
use Rattle.input_defs.specs.Content.{Element}
use Rattle.input_defs.specs.Meshes.{same_place}
use Rattle.plain_lists.proofs.Each.{all_at}
use Rattle.input_laws.specs.place_laws.Places.{IsPlace, element_at, key_of, filled, same_key}
use Rattle.input_laws.proofs.place_laws.Keys.{right-places}
use Rattle.input_laws.proofs.place_laws.Firsts.{Finds}
use Rattle.mesh_check.proofs.element_places.Steps.{element-is, map-next, table-old, table-new, found-places, take-whole}
use Rattle.mesh_check.proofs.element_places.table.first_at_places.Goals as goal
use Rattle.mesh_check.proofs.element_places.table.first_at_places.Goals.{in-Some, in-None+in_ok-insert-in-None}

pub key_on-key-requires : goal.key_on-key-requires
key_on-key-requires c =
    let es = c.args.text.now.elements in
    let low : c.loop-i.i < length es = omega arith in
    let place = all_at (λ (e : Element). IsPlace e.nodes) es c.loop-i.i (element_at [] 0) (right-places c.args.text.now c.nodes-nodes.ensures.right) low in
    (subst (λ (e : Element). IsPlace e.nodes) (element-is es c.loop-i.i _ c.element-element.ensures) place).few

pub loop-i-preserved : goal.loop-i-preserved
loop-i-preserved c =
    let es = c.args.text.now.elements in
    let low : c.loop-i.i < length es = omega arith in
    let all = right-places c.args.text.now c.nodes-nodes.ensures.right in
    let e = element-is es c.loop-i.i _ c.element-element.ensures in
    let key : c.key_on-key.result ≡ key_of (element_at es c.loop-i.i) = c.key_on-key.ensures ∙ ap (λ d. (d, filled c.element-element.result.nodes.now)) c.dim_of_type.ensures ∙ ap key_of (sym e) in
    let next = λ (g : c.match-get.first ≡ position_or_len (same_place (element_at es c.loop-i.i)) es). c.in_ok-push.ensures.items ∙ ap₂ (λ xs n. xs ++ n ∷ []) c.loop-i.invariant.1 g ∙ sym (map-next (λ f. position_or_len (same_place f) es) es c.loop-i.i low) in
    elim c.match-get.branch [
      | in-Some w ↦ let s = table-old es c.loop-i.i w.in-Some.first.now (hash.get same_key c.loop-i.by_key) all low c.loop-i.invariant.0 (w.in-Some.ensures.value ∙ ap (hash.get same_key c.loop-i.by_key) key) in
          (subst (λ m. Finds (take (c.loop-i.i + 1) es) (hash.get same_key m)) (sym w.by_key-is) s.0, next (w.first-is ∙ s.1))
      | in-None+in_ok-insert-in-None w ↦ let s = table-new es c.loop-i.i (hash.get same_key c.loop-i.by_key) (hash.get same_key w.insert.new.self) all low c.loop-i.invariant.0 (w.in-None.ensures.value ∙ ap (hash.get same_key c.loop-i.by_key) key)
          (λ q. w.in_ok-insert-in-None.ensures.updates.0 q ∙ ap (λ k. cond (same_key k q) (Some c.loop-i.i) (hash.get same_key c.loop-i.by_key q)) key) in
          (subst (λ m. Finds (take (c.loop-i.i + 1) es) (hash.get same_key m)) (sym w.by_key-is) s.0, next (w.first-is ∙ s.1))
    ]

pub returns-clause-found : goal.returns-clause-found
returns-clause-found c =
    let es = c.args.text.now.elements in
    found-places es (hash.get same_key c.loop-i.by_key) (right-places c.args.text.now c.nodes-nodes.ensures.right) (subst (λ xs. Finds xs (hash.get same_key c.loop-i.by_key)) (take-whole es c.loop-i.i (omega arith) (omega arith)) c.loop-i.invariant.0)
