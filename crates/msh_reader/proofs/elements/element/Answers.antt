use Rattle.std.proofs.Common.{[], sym, ap, ◌∙◌, rules}
use Rattle.std.proofs.lemmas.Result.{err_from_is_err_and}
use Rattle.std.proofs.lemmas.Int.{to_z-of_z}
use Rattle.std.specs.Int.{w32}
use mir.Val.{SFits}
use Rattle.input_defs.specs.scan_defs.Numbers.{uint_of}
use Rattle.input_defs.specs.Sections.{corner}
use Rattle.input_laws.specs.reading_laws.Going.{onto}
use Rattle.msh_reader.specs.NumberSets.{numbers_of}
use Rattle.msh_reader.proofs.ElementRows.{element-read, corners-count, after-count}
use Rattle.msh_reader.proofs.Going.{goes-then, goes-fault, goes-give, goes-same, goes-number, goes-no_number}
use Rattle.msh_reader.proofs.elements.element.Goals as goal

pub returns-in_err-number-clause-goes : goal.returns-in_err-number-clause-goes
returns-in_err-number-clause-goes c =
    let p = err_from_is_err_and c.from_residual.result c.from_residual.ensures.1 in
    rw (p.1, p.2) (goes-same (element-read (numbers_of c.args.known.now)) (goes-fault _ (goes-no_number uint_of c.in_err-number.ensures)))

pub returns-in_err-kind-clause-goes : goal.returns-in_err-kind-clause-goes
returns-in_err-kind-clause-goes c =
    let p = err_from_is_err_and c.from_residual-in_err-kind.result c.from_residual-in_err-kind.ensures.1 in
    rw (p.1, p.2) (goes-same (element-read (numbers_of c.args.known.now)) (goes-then _ (goes-number uint_of c.in_ok-number.ensures) (goes-fault _ c.in_err-kind.ensures)))

pub returns-in_err-physical-clause-goes : goal.returns-in_err-physical-clause-goes
returns-in_err-physical-clause-goes c =
    let p = err_from_is_err_and c.from_residual-in_err-physical.result c.from_residual-in_err-physical.ensures.1 in
    rw (p.1, p.2) (goes-same (element-read (numbers_of c.args.known.now)) (goes-then _ (goes-number uint_of c.in_ok-number.ensures) (goes-then _ c.in_ok-kind.ensures (goes-fault _ c.in_err-physical.ensures))))

pub returns-in_err-append_corners-clause-goes : goal.returns-in_err-append_corners-clause-goes
returns-in_err-append_corners-clause-goes c =
    let p = err_from_is_err_and c.from_residual-in_err-append_corners.result c.from_residual-in_err-append_corners.ensures.1 in
    rw (p.1, p.2) (goes-same (element-read (numbers_of c.args.known.now)) (goes-then _ (goes-number uint_of c.in_ok-number.ensures) (goes-then _ c.in_ok-kind.ensures (goes-then _ c.in_ok-physical.ensures (goes-fault _ (goes-same (ap (onto (corner (numbers_of c.args.known.now)) []) (sym c.corner_count.ensures.count)) c.in_err-append_corners.ensures.goes))))))

pub returns-clause-goes : goal.returns-clause-goes
returns-clause-goes c =
    let fits : SFits w32 c.in_ok-physical.physical = search rules in
    rw (to_z-of_z w32 c.in_ok-physical.physical fits) (goes-same (element-read (numbers_of c.args.known.now)) (goes-then _ (goes-number uint_of c.in_ok-number.ensures) (goes-then _ c.in_ok-kind.ensures (goes-then _ c.in_ok-physical.ensures (goes-then _ (goes-same (ap (onto (corner (numbers_of c.args.known.now)) []) (sym c.corner_count.ensures.count)) c.in_ok-append_corners.ensures.goes) (goes-give _ _))))))

pub returns-clause-lies : goal.returns-clause-lies
returns-clause-lies c =
    let read = corners-count (numbers_of c.args.known.now) _ _ _ _ c.in_ok-append_corners.ensures.goes in
    record {
      start = c.len-start.ensures ∙ c.args.corners.now.ok.0;
      count = after-count c.args.corners.now.items c.append_corners.new.corners.items _ c.append_corners.ensures.front (read ∙ c.corner_count.ensures.count);
    }
