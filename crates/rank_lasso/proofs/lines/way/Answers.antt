use Rattle.std.proofs.Common.{[], ◌∷◌, refl}
use Rattle.std.proofs.lemmas.Result.{err_from_is_err_and}
use Rattle.rank_lasso.specs.LassoText.{letters_text}
use Rattle.rank_lasso.specs.Lines.{kind, nothing, stem_kind, loop_kind, Never}
use Rattle.rank_lasso.proofs.KindLaws.{fault_here, fault_behind}
use Rattle.rank_lasso.proofs.lines.way.Goals as goal

pub returns-in_err-turn-clause-fault : goal.returns-in_err-turn-clause-fault
returns-in_err-turn-clause-fault c =
    let p = err_from_is_err_and c.from_residual-in_err-turn.result c.from_residual-in_err-turn.ensures.1 in
    let e = c.in_err-turn.field-0.0 in
    let first = kind c.args.first.now nothing in
    let stem = c.in_ok-stem.ensures.read in
    rw (p.1, p.2) (fault_behind Never 1 first (stem_kind ∷ loop_kind ∷ []) c.args.text.now [] c.in_ok-rest.rest.now e refl c.in_ok-rest.ensures.read
    (fault_behind Never 2 stem_kind (loop_kind ∷ []) c.in_ok-rest.rest.now (letters_text c.in_ok-stem.stem.items) c.in_ok-stem.rest.now e
    (c.in_ok-stem.stem.items, stem.0, refl) stem.1 (fault_here Never 3 loop_kind [] c.in_ok-stem.rest.now e c.in_err-turn.ensures.fault)))
