-- What was read of a file is right at each header line, and so its content is.
use Rattle.std.proofs.Common.{◌≡◌, ◌≤◌, ◌⊎◌, inl, inr, ℕ, Bool, true, false, cond, List, [], ◌∷◌, ◌++◌, map, length, length-append, Option, Some, None, Ok, Err, refl, sym, ap, ◌∙◌, subst, arith}
use Rattle.std.specs.Prelude.{Result, is_some, unwrap_or}
use Rattle.std.specs.List.{AllByRecursion, IsDistinct}
use Rattle.std.proofs.lemmas.Bool.{leb-false}
use Rattle.plain_lists.specs.Lists.{differ_as_sets}
use Rattle.plain_lists.proofs.Each.{all_weaker, all_append}
use Rattle.mesh_defs.specs.declared.Place.{Place}
use Rattle.mesh_defs.specs.declared.Place.TheVariants as place
use Rattle.mesh_defs.specs.Mesh.{Mesh, Cell, Name, Row, Section}
use Rattle.input_defs.specs.scan_defs.Lines.{line_number}
use Rattle.input_defs.specs.scan_defs.Items.{items}
use Rattle.input_defs.specs.Content.{Node, Element, Content}
use Rattle.input_defs.specs.declared.DataFault.{DataFault}
use Rattle.input_defs.specs.declared.DataFault.TheVariants as data_fault
use Rattle.input_defs.specs.declared.MshFault.{MshFault}
use Rattle.input_defs.specs.declared.MshFault.TheVariants.{BadCount, Unclosed, Header}
use Rattle.input_defs.specs.Causes.{map_ok, unless}
use Rattle.input_defs.specs.Bodies.{Lexeme}
use Rattle.input_defs.specs.Sections.{has_number, faults_of, names, nodes, elements}
use Rattle.input_defs.specs.DataSections.{faults_at, section, section_of}
use Rattle.input_defs.specs.Files.{Block, blocks_of, Known, Format, Names, Nodes, Elements, Data, known, Parts, nothing, causes, misplaced, unfinished, file_numbers, of_data, with_section, ending_line, cut_short, closes, Expected, Opening, Closing, Skipping, is_wrong_header, begun, with_block, content_of, finished, said, content}
use Rattle.input_defs.specs.RightContent.{node_numbers, numbers_on, IsKnown, IsRightElement, IsRightName, IsRightDataRow, IsRightField, IsRight}
use Rattle.input_defs.specs.Meshes.{accepted}
use Rattle.input_laws.proofs.Causes.{unless-ok, first_cause-none, bind-ok, bind}
use Rattle.input_laws.proofs.Labels.{cells-made}
use Rattle.input_laws.proofs.Sets.{AreKnown, numbers_of, cells-sets}
use Rattle.input_laws.proofs.Yields.{ok, ok-same, whole-yields}
use Rattle.input_laws.proofs.RightSections.{FewOf, AreRightNodes, IsDataOn, names-yield, nodes-yield, elements-yield, section-yields}

-- ---- right contents with one part more

-- what stands in no list of numbers stands in every other one
known-more : (numbers : List ℕ) (n : ℕ) → IsKnown [] n → IsKnown numbers n
known-more numbers n h = absurd (cc h)

row-more : (numbers : List ℕ) (comps : ℕ) (r : Row) → IsRightDataRow [] comps r → IsRightDataRow numbers comps r
row-more numbers comps r h = record { number = known-more numbers r.number h.number; values = h.values; in_range = h.in_range }

element-more : (numbers : List ℕ) (e : Element) → IsRightElement [] e → IsRightElement numbers e
element-more numbers e h = record { number = h.number; kind = h.kind; physical = h.physical; corners = h.corners; nodes_known = all_weaker (IsKnown []) (IsKnown numbers) (known-more numbers) e.nodes h.nodes_known; nodes_differ = h.nodes_differ }

-- data stays right where the numbers do, or where there were none
field-more : (before after : Content) (f : Section) → ((on : Place) → (numbers_on before on ≡ []) ⊎ (numbers_on before on ≡ numbers_on after on)) → IsRightField before f → IsRightField after f
field-more before after f more h = record { comps = h.comps; rows = go (more f.on) }
  where
    go : (numbers_on before f.on ≡ []) ⊎ (numbers_on before f.on ≡ numbers_on after f.on) → AllByRecursion (IsRightDataRow (numbers_on after f.on) f.comps) f.rows
    go (inl none) = all_weaker (IsRightDataRow [] f.comps) (IsRightDataRow (numbers_on after f.on) f.comps) (row-more (numbers_on after f.on) f.comps) f.rows (subst (λ numbers. AllByRecursion (IsRightDataRow numbers f.comps) f.rows) none h.rows)
    go (inr same) = subst (λ numbers. AllByRecursion (IsRightDataRow numbers f.comps) f.rows) same h.rows

with-names : (c : Content) (ns : List Name) → FewOf 1024 IsRightName ns → IsRight c → IsRight (record c { names = ns })
with-names c ns good right = record {
  nodes = right.nodes;
  numbers_differ = right.numbers_differ;
  elements = right.elements;
  names = good.1;
  fields = all_weaker (IsRightField c) (IsRightField (record c { names = ns })) (λ f. field-more c (record c { names = ns }) f same) c.fields right.fields;
  limits = record { nodes = right.limits.nodes; elements = right.limits.elements; names = good.0; fields = right.limits.fields };
}
  where
    same : (on : Place) → (numbers_on c on ≡ []) ⊎ (numbers_on c on ≡ numbers_on (record c { names = ns }) on)
    same place.Node = inr refl
    same place.Element = inr refl

with-nodes : (c : Content) (ns : List Node) → c.nodes ≡ [] → AreRightNodes ns → IsRight c → IsRight (record c { nodes = ns })
with-nodes c ns fresh good right = record {
  nodes = good.right;
  numbers_differ = good.differ;
  elements = all_weaker (IsRightElement (node_numbers c)) (IsRightElement (numbers_of ns)) (λ e h. element-more (numbers_of ns) e (subst (λ numbers. IsRightElement numbers e) none h)) c.elements right.elements;
  names = right.names;
  fields = all_weaker (IsRightField c) (IsRightField (record c { nodes = ns })) (λ f. field-more c (record c { nodes = ns }) f same) c.fields right.fields;
  limits = record { nodes = good.few; elements = right.limits.elements; names = right.limits.names; fields = right.limits.fields };
}
  where
    none : node_numbers c ≡ []
    none = ap (map (λ (node : Node). node.number)) fresh

    same : (on : Place) → (numbers_on c on ≡ []) ⊎ (numbers_on c on ≡ numbers_on (record c { nodes = ns }) on)
    same place.Node = inl none
    same place.Element = inr refl

with-elements : (c : Content) (es : List Element) → c.elements ≡ [] → FewOf 1000000 (IsRightElement (node_numbers c)) es → IsRight c → IsRight (record c { elements = es })
with-elements c es fresh good right = record {
  nodes = right.nodes;
  numbers_differ = right.numbers_differ;
  elements = good.1;
  names = right.names;
  fields = all_weaker (IsRightField c) (IsRightField (record c { elements = es })) (λ f. field-more c (record c { elements = es }) f same) c.fields right.fields;
  limits = record { nodes = right.limits.nodes; elements = good.0; names = right.limits.names; fields = right.limits.fields };
}
  where
    same : (on : Place) → (numbers_on c on ≡ []) ⊎ (numbers_on c on ≡ numbers_on (record c { elements = es }) on)
    same place.Node = inr refl
    same place.Element = inl (ap (map (λ (element : Element). element.number)) fresh)

with-field : (c : Content) (f : Section) → length c.fields ≤ 15 → IsRightField c f → IsRight c → IsRight (record c { fields = c.fields ++ f ∷ [] })
with-field c f few good right = record {
  nodes = right.nodes;
  numbers_differ = right.numbers_differ;
  elements = right.elements;
  names = right.names;
  fields = all_weaker (IsRightField c) (IsRightField next) (λ g. field-more c next g same) (c.fields ++ f ∷ []) (all_append (IsRightField c) c.fields (f ∷ []) right.fields (good, tt));
  limits = record { nodes = right.limits.nodes; elements = right.limits.elements; names = right.limits.names; fields = omega (arith, few, length-append c.fields (f ∷ [])) };
}
  where
    next : Content
    next = record c { fields = c.fields ++ f ∷ [] }

    same : (on : Place) → (numbers_on c on ≡ []) ⊎ (numbers_on c on ≡ numbers_on next on)
    same place.Node = inr refl
    same place.Element = inr refl

-- data of this place is right over the numbers there
data-field : (parts : Parts) (on : Place) (f : Section) → IsDataOn on (file_numbers parts on) f → IsRightField (content_of parts) f
data-field parts on f h = record { comps = h.comps; rows = subst (λ numbers. AllByRecursion (IsRightDataRow numbers f.comps) f.rows) (same on ∙ ap (numbers_on (content_of parts)) (sym h.on_place)) h.rows }
  where
    same : (on : Place) → file_numbers parts on ≡ numbers_on (content_of parts) on
    same place.Node = refl
    same place.Element = refl

-- ---- what was read

map_ok-ok : {A B E : Type 0} (f : A → B) (o : Result A E) (y : B) → map_ok f o ≡ Ok y → (x : A) × (o ≡ Ok x) × (f x ≡ y)
map_ok-ok f (Ok x) y h = (x, refl, cc h)
map_ok-ok f (Err e) y h = absurd (cc h)

of_data-ok : {A : Type 0} (ended : MshFault) (o : Result A DataFault) (x : A) → of_data ended o ≡ Ok x → o ≡ Ok x
of_data-ok ended (Ok y) x h = ap Ok (ok-same h)
of_data-ok ended (Err (data_fault.BadNumber line)) x h = absurd (cc h)
of_data-ok ended (Err (data_fault.BadCount line)) x h = absurd (cc h)
of_data-ok ended (Err (data_fault.BadName line)) x h = absurd (cc h)
of_data-ok ended (Err (data_fault.Components line got)) x h = absurd (cc h)
of_data-ok ended (Err (data_fault.UnknownNumber line number)) x h = absurd (cc h)
of_data-ok ended (Err (data_fault.OutOfRange line)) x h = absurd (cc h)
of_data-ok ended (Err (data_fault.Ended line)) x h = absurd (cc h)
of_data-ok ended (Err data_fault.NoMemory) x h = absurd (cc h)

none-of : {A : Type 0} (o : Option (List A)) → is_some o ≡ false → unwrap_or o [] ≡ []
none-of None h = refl
none-of (Some x) h = absurd (cc h)

-- what was read up to here is right
AreRight : Parts → Type 0
AreRight parts = IsRight (content_of parts)

no_causes : (parts : Parts) (line : ℕ) (k : Known) → misplaced parts line k ≡ None → AllByRecursion (λ (c : Bool × MshFault). c.0 ≡ false) (causes parts line k)
unfolding misplaced
no_causes parts line k h = first_cause-none (causes parts line k) h

few-fields : (parts : Parts) (line : ℕ) (on : Place) → misplaced parts line (Data on) ≡ None → length parts.fields ≤ 15
few-fields parts line place.Node h = let most = leb-false _ _ (no_causes parts line (Data place.Node) h).1.1.0 in omega arith
few-fields parts line place.Element h = let most = leb-false _ _ (no_causes parts line (Data place.Element) h).1.1.0 in omega arith

with_section-right : (end line : ℕ) (ended : MshFault) (parts with : Parts) (k : Known) (body : List Lexeme) → misplaced parts line k ≡ None → AreRight parts → with_section end ended parts k body ≡ Ok with → AreRight with
unfolding with_section section_of AreRight
with_section-right end line ended parts with Format body fits right h = let r = map_ok-ok _ _ with h in subst (λ (p : Parts). IsRight (content_of p)) r.2 right
with_section-right end line ended parts with Names body fits right h = let r = map_ok-ok _ _ with h in
    subst (λ (p : Parts). IsRight (content_of p)) r.2 (with-names (content_of parts) r.0 (whole-yields (FewOf 1024 IsRightName) BadCount names (faults_of ended) body r.0 names-yield r.1) right)
with_section-right end line ended parts with Nodes body fits right h = let r = map_ok-ok _ _ with h in
    subst (λ (p : Parts). IsRight (content_of p)) r.2 (with-nodes (content_of parts) r.0 (none-of parts.nodes (no_causes parts line Nodes fits).1.0) (whole-yields AreRightNodes BadCount nodes (faults_of ended) body r.0 nodes-yield r.1) right)
with_section-right end line ended parts with Elements body fits right h = let r = map_ok-ok _ _ with h in
    subst (λ (p : Parts). IsRight (content_of p)) r.2 (with-elements (content_of parts) r.0 (none-of parts.elements (no_causes parts line Elements fits).1.1.0)
    (whole-yields (FewOf 1000000 (IsRightElement (file_numbers parts place.Node))) BadCount (elements (file_numbers parts place.Node)) (faults_of ended) body r.0 (elements-yield (file_numbers parts place.Node)) r.1) right)
with_section-right end line ended parts with (Data on) body fits right h = let r = map_ok-ok _ _ with h in
    subst (λ (p : Parts). IsRight (content_of p)) r.2 (with-field (content_of parts) r.0 (few-fields parts line on fits)
    (data-field parts on r.0 (whole-yields (IsDataOn on (file_numbers parts on)) data_fault.BadCount (section on (file_numbers parts on)) (faults_at end) body r.0 (section-yields on (file_numbers parts on)) (of_data-ok ended _ r.0 r.1))) right)

begun-right : (end : ℕ) (parts : Parts) (b : Block) (bs : List Block) (k : Option Known) (next : Expected × Parts) → AreRight parts → begun end parts b bs k ≡ Ok next → AreRight next.1
begun-right end parts b bs (Some k) next right h =
    let first = bind-ok (unless (misplaced parts b.line k) parts) (λ before. bind (with_section (ending_line end bs) (cut_short end b.name bs) before k b.body) (λ with. ok (Closing b.name, with))) next h in
    let fits = unless-ok (misplaced parts b.line k) parts first.0 first.1 in
    let second = bind-ok (with_section (ending_line end bs) (cut_short end b.name bs) first.0 k b.body) (λ with. ok (Closing b.name, with)) next first.2 in
    subst (λ (n : Expected × Parts). AreRight n.1) (ok-same second.2)
    (with_section-right (ending_line end bs) b.line (cut_short end b.name bs) parts second.0 k b.body fits.0 right (ap (λ p. with_section (ending_line end bs) (cut_short end b.name bs) p k b.body) fits.1 ∙ second.1))
begun-right end parts b bs None next right h = go (is_wrong_header b.name) h
  where
    go : (t : Bool) → cond t (Err (Header b.line)) (Ok (Skipping b.name, parts)) ≡ ok {E = MshFault} next → AreRight next.1
    go true t = absurd (cc t)
    go false t = subst (λ (n : Expected × Parts). AreRight n.1) (ok-same t) right

step-right : (end : ℕ) (due : Expected) (parts : Parts) (b : Block) (bs : List Block) (next : Expected × Parts) → AreRight parts → with_block end due parts b bs ≡ Ok next → AreRight next.1
unfolding with_block
step-right end Opening parts b bs next right h = begun-right end parts b bs (known b.name) next right h
step-right end (Closing name) parts b bs next right h = go (closes name b) h
  where
    go : (t : Bool) → cond t (Ok (Opening, parts)) (Err (Unclosed b.line)) ≡ ok {E = MshFault} next → AreRight next.1
    go true t = subst (λ (n : Expected × Parts). AreRight n.1) (ok-same t) right
    go false t = absurd (cc t)
step-right end (Skipping name) parts b bs next right h = subst (λ (n : Expected × Parts). AreRight n.1) (ok-same h) right

finished-right : (end : ℕ) (due : Expected) (parts : Parts) (c : Content) → AreRight parts → finished end due parts ≡ Ok c → IsRight c
unfolding AreRight
finished-right end Opening parts c right h = subst IsRight (unless-ok (unfinished parts end) (content_of parts) c h).1 right
finished-right end (Closing name) parts c right h = absurd (cc h)
finished-right end (Skipping name) parts c right h = absurd (cc h)

said-right : (end : ℕ) (due : Expected) (parts : Parts) (bs : List Block) (c : Content) → AreRight parts → said end due parts bs ≡ Ok c → IsRight c
unfolding said
said-right end due parts [] c right h = finished-right end due parts c right h
said-right end due parts (b ∷ bs) c right h =
    let first = bind-ok (with_block end due parts b bs) (λ next. said end next.0 next.1 bs) c h in
    said-right end first.0.0 first.0.1 bs c (step-right end due parts b bs first.0 right first.1) first.2

nothing-right : AreRight nothing
unfolding AreRight IsDistinct
nothing-right = record { nodes = tt; numbers_differ = tt; elements = tt; names = tt; fields = tt; limits = record { nodes = omega arith; elements = omega arith; names = omega arith; fields = omega arith } }

-- the content of a right file is right
pub content-right : (bytes : List ℕ) (c : Content) → content bytes ≡ Ok c → IsRight c
unfolding content
content-right bytes c h = said-right (line_number bytes (length bytes)) Opening nothing (blocks_of bytes (items bytes)) c nothing-right h

-- every corner of an element of it is the number of one of its nodes
pub content-known : (bytes : List ℕ) (c : Content) → content bytes ≡ Ok c → AreKnown (numbers_of c.nodes) c.elements
content-known bytes c h = all_weaker (IsRightElement (numbers_of c.nodes)) (λ (e : Element). AllByRecursion (λ v. has_number (numbers_of c.nodes) v ≡ true) e.nodes) (λ e right. right.nodes_known) c.elements (content-right bytes c h).elements

-- so the cells of its mesh have different sets of vertices
pub sets-apart : (bytes : List ℕ) (c : Content) (m : Mesh) → content bytes ≡ Ok c → accepted c ≡ Ok m → differ_as_sets (map (λ (cell : Cell). cell.vertices) m.cells) ≡ true
sets-apart bytes c m h g = ap (λ (cells : List Cell). differ_as_sets (map (λ (cell : Cell). cell.vertices) cells)) (cells-made c m g) ∙ cells-sets c (content-known bytes c h)
