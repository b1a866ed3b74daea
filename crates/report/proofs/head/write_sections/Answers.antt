use Rattle.std.proofs.Common.{◌≡◌, ◌<◌, length, get_or, sym, ap, arith}
use Rattle.std.specs.List.{enumerate_from}
use Rattle.std.proofs.lemmas.List.FromFn.{length-enumerate_from}
use Rattle.input_defs.specs.Further.{section_line}
use Rattle.report.specs.Heads.{no_field, field_at}
use Rattle.report.proofs.Looping.{texts-next, texts-stop, texts-all, enumerated-at}
use Rattle.report.proofs.head.write_sections.Goals as goal

pub returns-in_err-write_section : goal.returns-in_err-write_section
returns-in_err-write_section g c =
    let fields = c.args.mesh.now.fields in
    let low : c.loop-i.i < length fields = omega arith in
    let within : c.loop-i.i < length (enumerate_from 0 fields) = omega (arith, length-enumerate_from 0 fields) in
    let same : section_line (c.loop-i.i, field_at fields c.loop-i.i) ≡ section_line (get_or (enumerate_from 0 fields) c.loop-i.i (0, no_field)) = ap section_line (sym (enumerated-at fields c.loop-i.i no_field low)) in
    texts-stop section_line (enumerate_from 0 fields) c.loop-i.i (0, no_field) c.from_residual.result c.from_residual.ensures.1 within c.loop-i.invariant
    (rw same at c.in_err-write_section.ensures)

pub loop-i-preserved : goal.loop-i-preserved
loop-i-preserved g c =
    let fields = c.args.mesh.now.fields in
    let low : c.loop-i.i < length fields = omega arith in
    let within : c.loop-i.i < length (enumerate_from 0 fields) = omega (arith, length-enumerate_from 0 fields) in
    let same : section_line (c.loop-i.i, field_at fields c.loop-i.i) ≡ section_line (get_or (enumerate_from 0 fields) c.loop-i.i (0, no_field)) = ap section_line (sym (enumerated-at fields c.loop-i.i no_field low)) in
    texts-next section_line (enumerate_from 0 fields) c.loop-i.i (0, no_field) within c.loop-i.invariant (rw same at c.in_ok-write_section.ensures)

pub returns : goal.returns
returns g c =
    let fields = c.args.mesh.now.fields in
    texts-all section_line (enumerate_from 0 fields) c.loop-i.i (0, no_field) (omega (arith, length-enumerate_from 0 fields)) c.loop-i.invariant
