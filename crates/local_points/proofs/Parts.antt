-- What cells see, made for each place of a list of cells and put one after another.
use Rattle.std.proofs.Common.{◌≡◌, ℕ, ◌-◌, List, [], ◌∷◌, ◌++◌, map, length, sym, ap, ◌∙◌, refl, arith}
use Rattle.std.specs.Prelude.{flat_map}
use Rattle.std.specs.List.{AllZip, AllByRecursion, range_with_len}
use Rattle.std.specs.Iterator.{Drains, YieldsFirst}
use Rattle.std.specs.Iterator.Runs.{YieldsInOrder}
use Rattle.std.proofs.lemmas.List.{map-append}
use Rattle.std.proofs.lemmas.List.FromFn.{fill_by_all}
use Rattle.rayon.specs.Numbers.{nat_range}
use Rattle.indexmap.proofs.CallerLemmas.{Drains-YieldsInOrder}
use Rattle.plain_lists.proofs.Each.{all_append}
use Rattle.mesh_defs.specs.Mesh.{Cell}
use Rattle.mesh_defs.specs.Points.{Sight}
use Rattle.local_points.specs.Cells.{cell_at}

-- what came out of an iterator over some items is these items
pub drained : {X : Type 0} (rest items part : List X) → rest ≡ items → YieldsInOrder (YieldsFirst {A = X} (λ l. l)) (λ l. l) → Drains (YieldsFirst {A = X} (λ l. l)) rest part → part ≡ items
drained rest items part start runs all = Drains-YieldsInOrder (YieldsFirst (λ l. l)) (λ l. l) rest part runs all ∙ start

-- what holds of every item of each part holds of all items
pub parts-all : {X Y : Type 0} (P : X → Type 0) (places : List Y) (parts : List (List X)) → AllZip (λ _ part. AllByRecursion P part) places parts → AllByRecursion P (flat_map (λ l. l) parts)
parts-all P [] [] h = tt
parts-all P [] (part ∷ parts) h = absurd h
parts-all P (i ∷ places) [] h = absurd h
parts-all P (i ∷ places) (part ∷ parts) h = all_append P part (flat_map (λ l. l) parts) h.0 (parts-all P places parts h.1)

-- items that are sights, and cells that have sights
module _ {X : Type 0} (sight : X → Sight) (has : ℕ × Cell → List Sight) (cells : List (ℕ × Cell)) where
  -- part k is what the cell at the kth place has
  abbrev pub AreParts : List ℕ → List (List X) → Type 0
  AreParts places parts = AllZip (λ i part. map sight part ≡ has (cell_at cells i)) places parts

  -- parts one after another are what the cells at these places have
  parts-joined : (places : List ℕ) (parts : List (List X)) → AreParts places parts → map sight (flat_map (λ l. l) parts) ≡ flat_map has (map (cell_at cells) places)
  parts-joined [] [] h = refl
  parts-joined [] (part ∷ parts) h = absurd h
  parts-joined (i ∷ places) [] h = absurd h
  parts-joined (i ∷ places) (part ∷ parts) h = map-append sight part (flat_map (λ l. l) parts) ∙ (λ j. h.0 j ++ parts-joined places parts h.1 j)

  -- the cells at all places are all cells
  at-all_places : map (cell_at cells) (nat_range 0 (length cells)) ≡ cells
  at-all_places =
      let whole : length cells - 0 ≡ length cells = omega arith in
      ap (λ n. map (cell_at cells) (range_with_len 0 n)) whole ∙ sym (fill_by_all (cell_at cells) cells (length cells) (cell_at [] 0) refl (λ k within. refl))

  -- the parts of all places, one after another, are what all cells have
  pub parts-of_all : (parts : List (List X)) → AreParts (nat_range 0 (length cells)) parts → map sight (flat_map (λ l. l) parts) ≡ flat_map has cells
  parts-of_all parts h = parts-joined (nat_range 0 (length cells)) parts h ∙ ap (flat_map has) at-all_places
