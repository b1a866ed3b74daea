use Rattle.std.proofs.lemmas.Result.{err_from_is_err_and}
use Rattle.input_laws.proofs.reading_laws.Going.{goes-then, goes-fault, goes-give}
use Rattle.msh_data.proofs.WholeSections.{section-read, section-fault}
use Rattle.msh_data.proofs.section.read_section.Goals as goal

pub returns-in_err-name-clause-err : goal.returns-in_err-name-clause-err
returns-in_err-name-clause-err g c =
    let p = err_from_is_err_and c.from_residual.result c.from_residual.ensures.1 in
    rw (p.1, p.2) (section-fault c.args.on (g.K.Numbers.known c.args.known.now) (goes-fault _ c.in_err-name.ensures))

pub returns-in_err-real_tags-clause-err : goal.returns-in_err-real_tags-clause-err
returns-in_err-real_tags-clause-err g c =
    let p = err_from_is_err_and c.from_residual-in_err-real_tags.result c.from_residual-in_err-real_tags.ensures.1 in
    rw (p.1, p.2) (section-fault c.args.on (g.K.Numbers.known c.args.known.now) (goes-then _ c.in_ok-name.ensures (goes-fault _ c.in_err-real_tags.ensures)))

pub returns-in_err-shape-clause-err : goal.returns-in_err-shape-clause-err
returns-in_err-shape-clause-err g c =
    let p = err_from_is_err_and c.from_residual-in_err-shape.result c.from_residual-in_err-shape.ensures.1 in
    rw (p.1, p.2) (section-fault c.args.on (g.K.Numbers.known c.args.known.now) (goes-then _ c.in_ok-name.ensures (goes-then _ c.in_ok-real_tags.ensures (goes-fault _ c.in_err-shape.ensures.goes))))

pub returns-in_err-rows-clause-err : goal.returns-in_err-rows-clause-err
returns-in_err-rows-clause-err g c =
    let p = err_from_is_err_and c.from_residual-in_err-rows.result c.from_residual-in_err-rows.ensures.1 in
    rw (p.1, p.2) (section-fault c.args.on (g.K.Numbers.known c.args.known.now) (goes-then _ c.in_ok-name.ensures (goes-then _ c.in_ok-real_tags.ensures (goes-then _ c.in_ok-shape.ensures.goes (goes-fault _ c.in_err-rows.ensures.goes)))))

pub returns-in_err-end_of_body-clause-err : goal.returns-in_err-end_of_body-clause-err
returns-in_err-end_of_body-clause-err g c =
    let p = err_from_is_err_and c.from_residual-in_err-end_of_body.result c.from_residual-in_err-end_of_body.ensures.1 in
    rw (p.1, p.2) (section-fault c.args.on (g.K.Numbers.known c.args.known.now) (goes-then _ c.in_ok-name.ensures (goes-then _ c.in_ok-real_tags.ensures (goes-then _ c.in_ok-shape.ensures.goes (goes-then _ c.in_ok-rows.ensures.goes (goes-fault _ c.in_err-end_of_body.ensures.goes))))))

pub returns-clause-ok : goal.returns-clause-ok
returns-clause-ok g c = rw c.new.ensures (section-read c.args.on (g.K.Numbers.known c.args.known.now) _ (goes-then _ c.in_ok-name.ensures (goes-then _ c.in_ok-real_tags.ensures (goes-then _ c.in_ok-shape.ensures.goes (goes-then _ c.in_ok-rows.ensures.goes (goes-then _ c.in_ok-end_of_body.ensures.goes (goes-give _ _)))))))
