use Rattle.std.proofs.Common.{◌∙◌, List, length, sym, ap, subst}
use Rattle.nwa_base.specs.Automata.{IsAutomaton}
use Rattle.lin_rows.specs.Rows.{LinearRow, RowsBelow}
use Rattle.lin_rows.specs.Systems.{members_of, rows_of}
use Rattle.path_rows.specs.Paths.{PlainPath, IsPathOf}
use Rattle.path_rows.proofs.MakingLemmas.{made_path, path_exact}
use Rattle.path_rows.proofs.making.finished.Goals as goal

pub new-path-requires : goal.new-path-requires
new-path-requires c = record {
  path = (
    c.args.icfg.now,
    made_path c.args.icfg.now c.args.word.now c.in_ok-letters.letters c.args.draft (rows_of c.system-rows.result) c.push.new.self.items c.requires.accepted c.requires.done
        c.in_ok-letters.ensures c.system-rows.ensures.rows c.in_ok-push.ensures.items,
  );
  no_groups = c.system-rows.ensures.groups ∙ ap members_of c.new-groups.ensures.items;
  within = subst (λ (rows : List LinearRow). RowsBelow (length c.args.draft.column_at.items) rows) (sym c.system-rows.ensures.rows) c.requires.within;
}

pub returns-clause-value : goal.returns-clause-value
returns-clause-value c =
    subst (IsPathOf c.args.icfg.now) (sym c.new-path.ensures)
    (made_path c.args.icfg.now c.args.word.now c.in_ok-letters.letters c.args.draft (rows_of c.system-rows.result) c.push.new.self.items c.requires.accepted c.requires.done
    c.in_ok-letters.ensures c.system-rows.ensures.rows c.in_ok-push.ensures.items)

pub returns-clause-exact : goal.returns-clause-exact
returns-clause-exact c =
    path_exact c.args.icfg.now c.args.word.now c.new-path.result c.nwa-nwa.ensures.valid (subst IsAutomaton c.nwa-nwa.ensures.value c.states-states.ensures.valid)
    (ap (λ (p : PlainPath). p.word) c.new-path.ensures ∙ c.in_ok-letters.ensures)
    (subst (IsPathOf c.args.icfg.now) (sym c.new-path.ensures)
    (made_path c.args.icfg.now c.args.word.now c.in_ok-letters.letters c.args.draft (rows_of c.system-rows.result) c.push.new.self.items c.requires.accepted c.requires.done
    c.in_ok-letters.ensures c.system-rows.ensures.rows c.in_ok-push.ensures.items))
