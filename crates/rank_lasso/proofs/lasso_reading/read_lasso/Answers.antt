use Rattle.std.proofs.Common.{[], ◌∷◌, codes, refl}
use Rattle.std.proofs.lemmas.Result.{err_from_is_err_and}
use Rattle.rank_lasso.specs.LassoRanks.Lassos.{plain_lasso}
use Rattle.rank_lasso.specs.Lines.{end_kind, way_kinds, GoesOn}
use Rattle.rank_lasso.proofs.KindLaws.{fault_in_front, fault_here, fault_behind, fault_at_end, fault_behind_way, lasso_fault_is}
use Rattle.rank_lasso.proofs.OneText.{lasso_fault_is_memory, lasso_read, lasso_is_read}
use Rattle.rank_lasso.proofs.lasso_reading.read_lasso.Goals as goal

pub returns-in_err-lasso-clause-whole : goal.returns-in_err-lasso-clause-whole
returns-in_err-lasso-clause-whole c =
    let p = err_from_is_err_and c.from_residual.result c.from_residual.ensures.1 in
    let e = c.in_err-lasso.field-0.0 in
    let fault = fault_in_front GoesOn 1 (way_kinds (codes "lasso 1")) (end_kind ∷ []) c.args.text.now e c.in_err-lasso.ensures.fault in
    rw (p.1, p.2) (lasso_fault_is_memory c.args.text.now e (lasso_fault_is c.args.text.now e fault))

pub returns-in_err-lasso-clause-fault : goal.returns-in_err-lasso-clause-fault
returns-in_err-lasso-clause-fault c =
    let p = err_from_is_err_and c.from_residual.result c.from_residual.ensures.1 in
    let e = c.in_err-lasso.field-0.0 in
    rw (p.1, p.2) (lasso_fault_is c.args.text.now e (fault_in_front GoesOn 1 (way_kinds (codes "lasso 1")) (end_kind ∷ []) c.args.text.now e c.in_err-lasso.ensures.fault))

pub returns-in_err-rest-clause-whole : goal.returns-in_err-rest-clause-whole
returns-in_err-rest-clause-whole c =
    let p = err_from_is_err_and c.from_residual-in_err-rest.result c.from_residual-in_err-rest.ensures.1 in
    let e = c.in_err-rest.field-0.0 in
    let way = c.in_ok-lasso.ensures.read in
    let fault = fault_behind_way GoesOn (codes "lasso 1") (plain_lasso c.in_ok-lasso.lasso) (end_kind ∷ []) c.args.text.now c.in_ok-lasso.rest.now e way.0 way.1
    (fault_here GoesOn 4 end_kind [] c.in_ok-lasso.rest.now e c.in_err-rest.ensures.fault) in
    rw (p.1, p.2) (lasso_fault_is_memory c.args.text.now e (lasso_fault_is c.args.text.now e fault))

pub returns-in_err-rest-clause-fault : goal.returns-in_err-rest-clause-fault
returns-in_err-rest-clause-fault c =
    let p = err_from_is_err_and c.from_residual-in_err-rest.result c.from_residual-in_err-rest.ensures.1 in
    let e = c.in_err-rest.field-0.0 in
    let way = c.in_ok-lasso.ensures.read in
    rw (p.1, p.2) (lasso_fault_is c.args.text.now e (fault_behind_way GoesOn (codes "lasso 1") (plain_lasso c.in_ok-lasso.lasso) (end_kind ∷ []) c.args.text.now c.in_ok-lasso.rest.now e way.0 way.1
    (fault_here GoesOn 4 end_kind [] c.in_ok-lasso.rest.now e c.in_err-rest.ensures.fault)))

pub returns-in_err-text_ends-clause-whole : goal.returns-in_err-text_ends-clause-whole
returns-in_err-text_ends-clause-whole c =
    let p = err_from_is_err_and c.from_residual-in_err-text_ends.result c.from_residual-in_err-text_ends.ensures.1 in
    let e = c.in_err-text_ends.field-0.0 in
    let way = c.in_ok-lasso.ensures.read in
    let fault = fault_behind_way GoesOn (codes "lasso 1") (plain_lasso c.in_ok-lasso.lasso) (end_kind ∷ []) c.args.text.now c.in_ok-lasso.rest.now e way.0 way.1
    (fault_behind GoesOn 4 end_kind [] c.in_ok-lasso.rest.now [] c.in_ok-rest.rest.now e refl c.in_ok-rest.ensures.read
    (fault_at_end 5 c.in_ok-rest.rest.now e c.in_err-text_ends.ensures.fault)) in
    rw (p.1, p.2) (lasso_fault_is_memory c.args.text.now e (lasso_fault_is c.args.text.now e fault))

pub returns-in_err-text_ends-clause-fault : goal.returns-in_err-text_ends-clause-fault
returns-in_err-text_ends-clause-fault c =
    let p = err_from_is_err_and c.from_residual-in_err-text_ends.result c.from_residual-in_err-text_ends.ensures.1 in
    let e = c.in_err-text_ends.field-0.0 in
    let way = c.in_ok-lasso.ensures.read in
    rw (p.1, p.2) (lasso_fault_is c.args.text.now e
    (fault_behind_way GoesOn (codes "lasso 1") (plain_lasso c.in_ok-lasso.lasso) (end_kind ∷ []) c.args.text.now c.in_ok-lasso.rest.now e way.0 way.1
    (fault_behind GoesOn 4 end_kind [] c.in_ok-lasso.rest.now [] c.in_ok-rest.rest.now e refl c.in_ok-rest.ensures.read
    (fault_at_end 5 c.in_ok-rest.rest.now e c.in_err-text_ends.ensures.fault))))

pub returns-clause-found : goal.returns-clause-found
returns-clause-found c =
    let way = c.in_ok-lasso.ensures.read in
    (way.0, lasso_read (plain_lasso c.in_ok-lasso.lasso) c.args.text.now c.in_ok-lasso.rest.now c.in_ok-rest.rest.now way.1 c.in_ok-rest.ensures.read c.in_ok-text_ends.ensures.read)

pub returns-clause-whole : goal.returns-clause-whole
returns-clause-whole c =
    let way = c.in_ok-lasso.ensures.read in
    let lasso = plain_lasso c.in_ok-lasso.lasso in
    lasso_is_read c.args.text.now lasso way.0 (lasso_read lasso c.args.text.now c.in_ok-lasso.rest.now c.in_ok-rest.rest.now way.1 c.in_ok-rest.ensures.read c.in_ok-text_ends.ensures.read)
