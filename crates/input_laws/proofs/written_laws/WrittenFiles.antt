-- A written file is read back, section by section.
use Rattle.std.proofs.Common.{◌≡◌, ℕ, ◌+◌, ◌<◌, ◌≤◌, true, false, cond, List, [], ◌∷◌, ◌++◌, map, length, ℤ, Some, None, Ok, Err, refl, sym, ap, ◌∙◌, subst, arith, append_assoc, append-nil, length-append}
use Rattle.std.specs.Prelude.{Result, decimal, codes, flat_map}
use Rattle.std.specs.Fmt.{signed_decimal}
use Rattle.std.specs.List.{AllByRecursion, list_any}
use Rattle.std.proofs.lemmas.Bool.{lt-leb}
use Rattle.plain_lists.specs.Lists.{same_list}
use Rattle.plain_lists.proofs.Each.{all_weaker, all_both, all_append, all_map, all_flat_map}
use Rattle.input_defs.specs.line_defs.Rows.{is_newline}
use Rattle.input_defs.specs.line_defs.Numbers.{fixed_text}
use Rattle.mesh_defs.specs.declared.Place.{Place}
use Rattle.mesh_defs.specs.declared.Place.TheVariants as place
use Rattle.mesh_defs.specs.Mesh.{Name, Row, Section}
use Rattle.input_defs.specs.scan_defs.Lines.{line_number}
use Rattle.input_defs.specs.scan_defs.Items.{is_header}
use Rattle.input_defs.specs.Content.{Node, Element, Content}
use Rattle.input_defs.specs.declared.MshFault.{MshFault}
use Rattle.input_defs.specs.declared.MshFault.TheVariants.{Unclosed, TooMany}
use Rattle.input_defs.specs.declared.What.TheVariants as what
use Rattle.input_defs.specs.Causes.{◌>>=◌, map_ok, first_cause, unless}
use Rattle.input_defs.specs.Bodies.{Lexeme}
use Rattle.input_defs.specs.Sections.{faults_of}
use Rattle.input_defs.specs.DataSections.{section_of}
use Rattle.input_defs.specs.Files.{Block, Known, Format, Names, Nodes, Elements, Data, known, closing, Parts, nothing, misplaced, unfinished, file_numbers, of_data, with_section, ending_line, cut_short, Expected, Opening, Closing, begun, with_block, said, content}
use Rattle.input_defs.specs.RightContent.{IsUnsigned, IsFixed, IsRightNode, IsRightElement, IsRightName, IsRightDataRow, IsRightField, IsRight, node_numbers, numbers_on, IsKnown}
use Rattle.input_laws.specs.written_laws.Written.{as_text, section_lines, counted, quote, name_line, node_line, element_line, row_line, field_lines, data_name, field_section, file_lines, file_of, IsOneLine, IsWritable}
use Rattle.input_laws.proofs.written_laws.PlainLines.{IsLine, name_in, body_in, blocks_in, blocks-of-lines}
use Rattle.input_laws.proofs.written_laws.WrittenLines.{lines-back, IsWord, word-line, decimal-word, signed-word, fixed-word, spaced-line, IsBodyLine, number-first, words-body, count-body, one-line, quote-line, quote-body, body_lines, body-up_to, blocks-past}
use Rattle.input_laws.proofs.written_laws.WrittenBodies.{format-reads, names-read, nodes-read, elements-read, known-low, kind-low}
use Rattle.input_laws.proofs.written_laws.WrittenFields.{section-reads, components-low}

-- ---- a section in a file

-- the name on its header line and on its closing line
record IsNamed (name : List ℕ) (k : Known) : Type 0 where
  opens : name_in (36 ∷ name) ≡ name
  shuts : name_in (36 ∷ codes "End" ++ name) ≡ closing name
  knows : known name ≡ Some k
  same : same_list (closing name) (closing name) ≡ true
  line : list_any is_newline (36 ∷ name) ≡ false
  end_line : list_any is_newline (36 ∷ codes "End" ++ name) ≡ false

abbrev block : List ℕ → ℕ → List Lexeme → Block
block name n ws = record { name = name; line = n; body = ws }

section-blocks : (n : ℕ) (name : List ℕ) (k : Known) (body more : List (List ℕ)) → IsNamed name k → AllByRecursion IsBodyLine body
    → blocks_in n (section_lines name body ++ more) ≡ block name n (body_lines (n + 1) body) ∷ block (closing name) (n + 1 + length body) (body_in (n + 1 + length body + 1) more) ∷ blocks_in (n + 1 + length body + 1) more
section-blocks n name k body more named lines =
    ap (λ ls. block (name_in (36 ∷ name)) n (body_in (n + 1) ls) ∷ blocks_in (n + 1) ls) (append_assoc body ((36 ∷ codes "End" ++ name) ∷ []) more)
    ∙ (λ i. block (named.opens i) n (body-up_to (n + 1) body (codes "End" ++ name) more lines i) ∷ blocks-past (n + 1) body ((36 ∷ codes "End" ++ name) ∷ more) lines i)
    ∙ ap (λ (t : List ℕ). block name n (body_lines (n + 1) body) ∷ block t (n + 1 + length body) (body_in (n + 1 + length body + 1) more) ∷ blocks_in (n + 1 + length body + 1) more) named.shuts

-- a section that is read
section-said : (end n : ℕ) (parts with : Parts) (name : List ℕ) (k : Known) (body more : List (List ℕ)) → IsNamed name k → misplaced parts n k ≡ None → AllByRecursion IsBodyLine body
    → ((last : ℕ) (ended : MshFault) → with_section last ended parts k (body_lines (n + 1) body) ≡ Ok with)
    → said end Opening parts (blocks_in n (section_lines name body ++ more)) ≡ said end Opening with (blocks_in (n + 1 + length body + 1) more)
unfolding said with_block
section-said end n parts with name k body more named fits lines reads =
    ap (said end Opening parts) (section-blocks n name k body more named lines)
    ∙ ap (λ o. begun end parts first (second ∷ others) o >>= next) named.knows
    ∙ ap (λ o. (unless o parts >>= (λ before. with_section (ending_line end (second ∷ others)) (cut_short end name (second ∷ others)) before k first.body >>= (λ after. Ok (Closing name, after)))) >>= next) fits
    ∙ ap (λ o. (o >>= (λ after. Ok (Closing name, after))) >>= next) (reads (ending_line end (second ∷ others)) (cut_short end name (second ∷ others)))
    ∙ ap (λ b. cond b (Ok (Opening, with)) (Err (Unclosed second.line)) >>= (λ (after : Expected × Parts). said end after.0 after.1 others)) named.same
  where
    first : Block
    first = block name n (body_lines (n + 1) body)

    second : Block
    second = block (closing name) (n + 1 + length body) (body_in (n + 1 + length body + 1) more)

    others : List Block
    others = blocks_in (n + 1 + length body + 1) more

    next : Expected × Parts → Result Content MshFault
    next after = said end after.0 after.1 (second ∷ others)

format-named : IsNamed (codes "MeshFormat") Format
format-named = record { opens = refl; shuts = refl; knows = refl; same = refl; line = refl; end_line = refl }

names-named : IsNamed (codes "PhysicalNames") Names
names-named = record { opens = refl; shuts = refl; knows = refl; same = refl; line = refl; end_line = refl }

nodes-named : IsNamed (codes "Nodes") Nodes
nodes-named = record { opens = refl; shuts = refl; knows = refl; same = refl; line = refl; end_line = refl }

elements-named : IsNamed (codes "Elements") Elements
elements-named = record { opens = refl; shuts = refl; knows = refl; same = refl; line = refl; end_line = refl }

data-named : (on : Place) → IsNamed (data_name on) (Data on)
data-named place.Node = record { opens = refl; shuts = refl; knows = refl; same = refl; line = refl; end_line = refl }
data-named place.Element = record { opens = refl; shuts = refl; knows = refl; same = refl; line = refl; end_line = refl }

-- ---- lines

numbers-low : (c : Content) → IsRight c → (on : Place) → AllByRecursion IsUnsigned (numbers_on c on)
numbers-low c right place.Node = all_map IsUnsigned (λ (node : Node). node.number) c.nodes (all_weaker IsRightNode (λ (node : Node). IsUnsigned node.number) (λ node h. h.number) c.nodes right.nodes)
numbers-low c right place.Element = all_map IsUnsigned (λ (element : Element). element.number) c.elements (all_weaker (IsRightElement (node_numbers c)) (λ (element : Element). IsUnsigned element.number) (λ element h. h.number) c.elements right.elements)

literal-body : (text : List ℕ) → list_any is_newline text ≡ false → is_header text ≡ false → IsBodyLine text
literal-body text plain other = record { one_line = one-line text plain; no_header = other }

counted-body : {A : Type 0} (line : A → List ℕ) (xs : List A) → IsUnsigned (length xs) → AllByRecursion (λ x. IsBodyLine (line x)) xs → AllByRecursion IsBodyLine (counted line xs)
counted-body line xs low h = (count-body (length xs) low, all_map IsBodyLine line xs h)

name-body : (x : Name) → IsRightName x → IsOneLine x.text → IsBodyLine (name_line x)
name-body x right plain = record {
  one_line = spaced-line (decimal x.dim ∷ signed_decimal x.number ∷ quote x.text ∷ []) (word-line _ (decimal-word x.dim right.dim), (word-line _ (signed-word x.number right.number), (quote-line x.text plain, tt)));
  no_header = number-first x.dim _ right.dim;
}

fixed-words : (vs : List ℤ) → AllByRecursion IsFixed vs → AllByRecursion IsWord (map fixed_text vs)
fixed-words vs h = all_map IsWord fixed_text vs (all_weaker IsFixed (λ v. IsWord (fixed_text v)) fixed-word vs h)

node-body : (x : Node) → IsRightNode x → IsBodyLine (node_line x)
node-body x right = words-body x.number (map fixed_text x.at) right.number (fixed-words x.at right.in_range)

element-body : (numbers : List ℕ) (x : Element) → AllByRecursion IsUnsigned numbers → IsRightElement numbers x → IsBodyLine (element_line x)
element-body numbers x low right = words-body x.number (decimal x.kind ∷ decimal 1 ∷ signed_decimal x.physical ∷ map decimal x.nodes) right.number (
  decimal-word x.kind (kind-low x.kind right.kind),
  (
    decimal-word 1 (omega arith),
    (
      signed-word x.physical right.physical,
      all_map IsWord decimal x.nodes (all_weaker (IsKnown numbers) (λ v. IsWord (decimal v)) (λ v h. decimal-word v (known-low numbers v low h)) x.nodes right.nodes_known),
    ),
  ),
)

row-body : (numbers : List ℕ) (comps : ℕ) (x : Row) → AllByRecursion IsUnsigned numbers → IsRightDataRow numbers comps x → IsBodyLine (row_line x)
row-body numbers comps x low right = words-body x.number (map fixed_text x.values) (known-low numbers x.number low right.number) (fixed-words x.values right.in_range)

field-body : (c : Content) (x : Section) → IsRight c → IsRightField c x → IsOneLine x.name → length x.rows < 2147483648 → AllByRecursion IsBodyLine (field_lines x)
field-body c x all right plain few = (
  literal-body (codes "1") refl refl,
  (
    quote-body x.name plain,
    (
      literal-body (codes "0") refl refl,
      (
        literal-body (codes "3") refl refl,
        (
          literal-body (codes "0") refl refl,
          (
            count-body x.comps (let most = components-low x.comps right.comps in omega arith),
            counted-body row_line x.rows (omega (arith, few)) (all_weaker (IsRightDataRow (numbers_on c x.on) x.comps) (λ r. IsBodyLine (row_line r)) (λ r. row-body (numbers_on c x.on) x.comps r (numbers-low c all x.on)) x.rows right.rows),
          ),
        ),
      ),
    ),
  ),
)

section-plain : (name : List ℕ) (k : Known) (body : List (List ℕ)) → IsNamed name k → AllByRecursion IsBodyLine body → AllByRecursion IsLine (section_lines name body)
section-plain name k body named lines = (one-line (36 ∷ name) named.line, all_append IsLine body ((36 ∷ codes "End" ++ name) ∷ []) (all_weaker IsBodyLine IsLine (λ line h. h.one_line) body lines) (one-line (36 ∷ codes "End" ++ name) named.end_line, tt))

-- ---- data sections

-- what is read of a file up to some of its data sections
abbrev parts_with : Content → List Section → Parts
parts_with c done = record { format = true; names = Some c.names; nodes = Some c.nodes; elements = Some c.elements; fields = done }

room-for : (c : Content) (done : List Section) (n : ℕ) (on : Place) → length done ≤ 15 → misplaced (parts_with c done) n (Data on) ≡ None
unfolding misplaced
room-for c done n place.Node few = ap (λ t. first_cause ((t, TooMany n what.Fields) ∷ [])) (lt-leb 16 (length done) (omega (arith, few)))
room-for c done n place.Element few = ap (λ t. first_cause ((t, TooMany n what.Fields) ∷ [])) (lt-leb 16 (length done) (omega (arith, few)))

-- a data section that can be written
record IsFine (c : Content) (x : Section) : Type 0 where
  right : IsRightField c x
  name : IsOneLine x.name
  few : length x.rows < 2147483648

field-with : (c : Content) (done : List Section) (n : ℕ) (x : Section) → IsRight c → IsFine c x → (last : ℕ) (ended : MshFault)
    → with_section last ended (parts_with c done) (Data x.on) (body_lines n (field_lines x)) ≡ Ok (parts_with c (done ++ x ∷ []))
unfolding with_section
field-with c done n x right fine last ended =
    ap (λ o. map_ok (λ field. parts_with c (done ++ field ∷ [])) (of_data ended o))
    (ap (λ numbers. section_of x.on numbers last (body_lines n (field_lines x))) (same x.on) ∙ section-reads (numbers_on c x.on) last n x (numbers-low c right x.on) fine.right.comps fine.right.rows fine.few)
  where
    same : (on : Place) → file_numbers (parts_with c done) on ≡ numbers_on c on
    same place.Node = refl
    same place.Element = refl

fields-said : (c : Content) (end n : ℕ) (done xs : List Section) → IsRight c → AllByRecursion (IsFine c) xs → length done + length xs ≤ 16
    → said end Opening (parts_with c done) (blocks_in n (flat_map field_section xs ++ [] ∷ [])) ≡ Ok (record c { fields = done ++ xs })
unfolding said unfinished
fields-said c end n done [] right fine few = ap (λ fs. Ok (record c { fields = fs })) (sym (append-nil done))
fields-said c end n done (x ∷ xs) right fine few =
    ap (λ ls. said end Opening (parts_with c done) (blocks_in n ls)) (append_assoc (field_section x) (flat_map field_section xs) ([] ∷ []))
    ∙ section-said end n (parts_with c done) (parts_with c (done ++ x ∷ [])) (data_name x.on) (Data x.on) (field_lines x) (flat_map field_section xs ++ [] ∷ []) (data-named x.on) (room-for c done n x.on (omega (arith, few)))
    (field-body c x right fine.0.right fine.0.name fine.0.few) (field-with c done (n + 1) x right fine.0)
    ∙ fields-said c end (n + 1 + length (field_lines x) + 1) (done ++ x ∷ []) xs right fine.1 (omega (arith, few, length-append done (x ∷ [])))
    ∙ ap (λ fs. Ok (record c { fields = fs })) (append_assoc done (x ∷ []) xs)

-- ---- the file

module _ (c : Content) (right : IsRight c) (writable : IsWritable c) where
  fine : AllByRecursion (IsFine c) c.fields
  fine = all_both (IsRightField c) (λ (x : Section). IsOneLine x.name × (length x.rows < 2147483648)) (IsFine c) (λ x a b. record { right = a; name = b.0; few = b.1 }) c.fields right.fields
      (all_both (λ (x : Section). IsOneLine x.name) (λ (x : Section). length x.rows < 2147483648) (λ (x : Section). IsOneLine x.name × (length x.rows < 2147483648)) (λ x a b. (a, b)) c.fields writable.field_names writable.row_counts)

  names_body : AllByRecursion IsBodyLine (counted name_line c.names)
  names_body = counted-body name_line c.names (omega (arith, right.limits.names)) (all_both IsRightName (λ (x : Name). IsOneLine x.text) (λ x. IsBodyLine (name_line x)) name-body c.names right.names writable.names)

  nodes_body : AllByRecursion IsBodyLine (counted node_line c.nodes)
  nodes_body = counted-body node_line c.nodes (omega (arith, right.limits.nodes)) (all_weaker IsRightNode (λ x. IsBodyLine (node_line x)) node-body c.nodes right.nodes)

  elements_body : AllByRecursion IsBodyLine (counted element_line c.elements)
  elements_body = counted-body element_line c.elements (omega (arith, right.limits.elements))
      (all_weaker (IsRightElement (node_numbers c)) (λ x. IsBodyLine (element_line x)) (λ x. element-body (node_numbers c) x (numbers-low c right place.Node)) c.elements right.elements)

  format_body : AllByRecursion IsBodyLine (codes "2.2 0 8" ∷ [])
  format_body = (literal-body (codes "2.2 0 8") refl refl, tt)

  data_plain : AllByRecursion IsLine (flat_map field_section c.fields)
  data_plain = all_flat_map IsLine field_section c.fields (all_weaker (IsFine c) (λ x. AllByRecursion IsLine (field_section x)) (λ x h. section-plain (data_name x.on) (Data x.on) (field_lines x) (data-named x.on) (field-body c x right h.right h.name h.few)) c.fields fine)

  -- the sections, one after the other
  abbrev data_lines : List (List ℕ)
  data_lines = flat_map field_section c.fields

  abbrev element_lines : List (List ℕ)
  element_lines = section_lines (codes "Elements") (counted element_line c.elements)

  abbrev node_lines : List (List ℕ)
  node_lines = section_lines (codes "Nodes") (counted node_line c.nodes)

  abbrev name_lines : List (List ℕ)
  name_lines = section_lines (codes "PhysicalNames") (counted name_line c.names)

  abbrev format_lines : List (List ℕ)
  format_lines = section_lines (codes "MeshFormat") (codes "2.2 0 8" ∷ [])

  all_plain : AllByRecursion IsLine (file_lines c)
  unfolding file_lines
  all_plain = all_append IsLine format_lines (name_lines ++ (node_lines ++ (element_lines ++ data_lines))) (section-plain (codes "MeshFormat") Format (codes "2.2 0 8" ∷ []) format-named format_body)
      (all_append IsLine name_lines (node_lines ++ (element_lines ++ data_lines)) (section-plain (codes "PhysicalNames") Names (counted name_line c.names) names-named names_body)
      (all_append IsLine node_lines (element_lines ++ data_lines) (section-plain (codes "Nodes") Nodes (counted node_line c.nodes) nodes-named nodes_body)
      (all_append IsLine element_lines data_lines (section-plain (codes "Elements") Elements (counted element_line c.elements) elements-named elements_body) data_plain)))

  -- what stands after a section, with the empty line at the end
  abbrev after_elements : List (List ℕ)
  after_elements = data_lines ++ [] ∷ []

  abbrev after_nodes : List (List ℕ)
  after_nodes = element_lines ++ after_elements

  abbrev after_names : List (List ℕ)
  after_names = node_lines ++ after_nodes

  abbrev after_format : List (List ℕ)
  after_format = name_lines ++ after_names

  apart : file_lines c ++ [] ∷ [] ≡ format_lines ++ after_format
  unfolding file_lines
  apart = append_assoc format_lines (name_lines ++ (node_lines ++ (element_lines ++ data_lines))) ([] ∷ [])
      ∙ ap (λ ls. format_lines ++ ls) (append_assoc name_lines (node_lines ++ (element_lines ++ data_lines)) ([] ∷ [])
      ∙ ap (λ ls. name_lines ++ ls) (append_assoc node_lines (element_lines ++ data_lines) ([] ∷ [])
      ∙ ap (λ ls. node_lines ++ ls) (append_assoc element_lines data_lines ([] ∷ []))))

  -- what is read, after each section
  abbrev parts_format : Parts
  parts_format = record nothing { format = true }

  abbrev parts_names : Parts
  parts_names = record parts_format { names = Some c.names }

  abbrev parts_nodes : Parts
  parts_nodes = record parts_names { nodes = Some c.nodes }

  -- from the line of a header on
  read-elements : (end n : ℕ) → said end Opening parts_nodes (blocks_in n after_nodes) ≡ Ok c
  unfolding misplaced with_section
  read-elements end n =
      section-said end n parts_nodes (parts_with c []) (codes "Elements") Elements (counted element_line c.elements) after_elements elements-named refl elements_body
      (λ last ended. ap (map_ok (λ es. record parts_nodes { elements = Some es })) (elements-read (faults_of ended) (node_numbers c) (n + 1) c.elements (numbers-low c right place.Node) right.limits.elements right.elements))
      ∙ fields-said c end (n + 1 + length (counted element_line c.elements) + 1) [] c.fields right fine (omega (arith, right.limits.fields))

  read-nodes : (end n : ℕ) → said end Opening parts_names (blocks_in n after_names) ≡ Ok c
  unfolding misplaced with_section
  read-nodes end n =
      section-said end n parts_names parts_nodes (codes "Nodes") Nodes (counted node_line c.nodes) after_nodes nodes-named refl nodes_body
      (λ last ended. ap (map_ok (λ ns. record parts_names { nodes = Some ns })) (nodes-read (faults_of ended) (n + 1) c.nodes right.limits.nodes right.nodes right.numbers_differ))
      ∙ read-elements end (n + 1 + length (counted node_line c.nodes) + 1)

  read-names : (end n : ℕ) → said end Opening parts_format (blocks_in n after_format) ≡ Ok c
  unfolding misplaced with_section
  read-names end n =
      section-said end n parts_format parts_names (codes "PhysicalNames") Names (counted name_line c.names) after_names names-named refl names_body
      (λ last ended. ap (map_ok (λ ns. record parts_format { names = Some ns })) (names-read (faults_of ended) (n + 1) c.names right.limits.names right.names writable.names))
      ∙ read-nodes end (n + 1 + length (counted name_line c.names) + 1)

  read-format : (end n : ℕ) → said end Opening nothing (blocks_in n (format_lines ++ after_format)) ≡ Ok c
  unfolding misplaced with_section
  read-format end n =
      section-said end n nothing parts_format (codes "MeshFormat") Format (codes "2.2 0 8" ∷ []) after_format format-named refl format_body (λ last ended. ap (map_ok (λ size. parts_format)) (format-reads (n + 1) (faults_of ended)))
      ∙ read-names end (n + 1 + length (codes "2.2 0 8" ∷ []) + 1)

  -- the content of the file that is written
  pub written-back : content (file_of c) ≡ Ok c
  unfolding content file_of
  written-back =
      let lines = lines-back (file_lines c) all_plain in
      let plain = subst (AllByRecursion IsLine) (sym lines) (all_append IsLine (file_lines c) ([] ∷ []) all_plain (tt, tt)) in
      let bytes = as_text (file_lines c) in
      ap (said (line_number bytes (length bytes)) Opening nothing) (blocks-of-lines bytes plain ∙ ap (blocks_in 1) (lines ∙ apart)) ∙ read-format (line_number bytes (length bytes)) 1
