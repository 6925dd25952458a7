use Rattle.nwa_difference.specs.Ties.Seen.{seen, found, stage}
use Rattle.nwa_difference.proofs.StageLemmas.{joined_goes, was_joined}
use Rattle.nwa_difference.proofs.stepping.open_return.Goals as goal

pub returns-in_ok-make_backs : goal.returns-in_ok-make_backs
returns-in_ok-make_backs c =
    let n = c.in_ok-note_joined.ensures in
    let g = c.in_ok-make_backs.ensures in
    joined_goes (stage c.args.product.now c.args.pairs.now) (seen c.make_backs.new.product) (found c.note_joined.new.self) c.args.exit
    c.args.before c.requires.stage c.requires.exit c.requires.before (n.tells.fresh c.if-branch.true) n.adds n.rest g.0 g.1

pub returns-else-branch : goal.returns-else-branch
returns-else-branch c =
    let n = c.in_ok-note_joined.ensures in
    was_joined (stage c.args.product.now c.args.pairs.now) (found c.note_joined.new.self) (c.args.exit, c.args.before) c.requires.stage (n.tells.known c.if-branch.false) n.adds n.rest
