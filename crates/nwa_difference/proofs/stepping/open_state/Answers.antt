use Rattle.nwa_difference.specs.Ties.Seen.{seen, found, stage}
use Rattle.nwa_difference.proofs.StageLemmas.{opened_goes, was_opened}
use Rattle.nwa_difference.proofs.stepping.open_state.Goals as goal

pub returns-in_ok-make_forward : goal.returns-in_ok-make_forward
returns-in_ok-make_forward c =
    let n = c.in_ok-note_opened.ensures in
    let g = c.in_ok-make_forward.ensures in
    opened_goes (stage c.args.product.now c.args.pairs.now) (seen c.make_forward.new.product) (found c.note_opened.new.self) c.args.state c.requires.stage
    c.requires.within (n.tells.fresh c.if-branch.true) n.adds n.rest g.0 g.1 g.2

pub returns-else-branch : goal.returns-else-branch
returns-else-branch c =
    let n = c.in_ok-note_opened.ensures in
    was_opened (stage c.args.product.now c.args.pairs.now) (found c.note_opened.new.self) c.args.state c.requires.stage (n.tells.known c.if-branch.false) n.adds n.rest
