use Rattle.std.proofs.Common.{◌≡◌, ◌∙◌, length, ap, arith}
use Rattle.lin_rows.specs.Systems.{rows_of}
use Rattle.path_decide.proofs.FindingLaws.{system_of, path_is_below, rows_are_all, answered_by, answered_plainly, own_answer}
use Rattle.path_decide.proofs.deciding.decided.Goals as goal

pub plain-requires-clause-below : goal.plain-requires-clause-below
plain-requires-clause-below c =
    path_is_below c.args.path.now c.in-Some.columns c.system-system.result.now c.system-system.ensures.rows c.system-system.ensures.groups
    (c.in-Some.ensures.1 ∙ ap length c.column_at.ensures) c.system-system.ensures.within

pub plain-requires-clause-numbered : goal.plain-requires-clause-numbered
plain-requires-clause-numbered c =
    let e = rows_are_all c.system-system.result.now c.system-system.ensures.groups in
    let l = c.in-Some.ensures.0.1 in
    let k : length c.as_slice.result.now ≡ length (rows_of c.system-system.result.now) = ap length c.as_slice.ensures.value in
    omega (arith, e, l, k)

pub decide-requires-clause-below : goal.decide-requires-clause-below
decide-requires-clause-below c =
    path_is_below c.args.path.now c.in-Some.columns c.system-system.result.now c.system-system.ensures.rows c.system-system.ensures.groups
    (c.in-Some.ensures.1 ∙ ap length c.column_at.ensures) c.system-system.ensures.within

pub decide-requires-clause-numbered : goal.decide-requires-clause-numbered
decide-requires-clause-numbered c =
    let e = rows_are_all c.system-system.result.now c.system-system.ensures.groups in
    let l = c.in-Some.ensures.0.1 in
    let k : length c.as_slice.result.now ≡ length (rows_of c.system-system.result.now) = ap length c.as_slice.ensures.value in
    omega (arith, e, l, k)

pub returns-then-is_own : goal.returns-then-is_own
returns-then-is_own c =
    let columns = c.in-Some.ensures.1 ∙ ap length c.column_at.ensures in
    let below = path_is_below c.args.path.now c.in-Some.columns c.system-system.result.now c.system-system.ensures.rows c.system-system.ensures.groups columns c.system-system.ensures.within in
    record {
      answer = λ g h.
          answered_plainly c.differences_are_decided.ensures g c.args.path.now.word c.in-Some.columns c.args.depth c.system-system.result.now c.plain.result
          (system_of g c.args.path.now c.in-Some.columns c.system-system.result.now h c.system-system.ensures.rows c.system-system.ensures.groups columns)
          (record { rows = c.know_rows.ensures; below = below }) c.plain.ensures.value c.plain.ensures.worth (λ e. (c.plain.ensures.gap e).0) (λ e. c.plain.ensures.past e);
      own = λ o g h.
          own_answer g c.args.path.now.word c.in-Some.columns c.args.depth c.system-system.result.now c.plain.result
          (system_of g c.args.path.now c.in-Some.columns c.system-system.result.now h c.system-system.ensures.rows c.system-system.ensures.groups columns) c.plain.ensures.value;
    }

pub returns-else-is_own-clause-answer : goal.returns-else-is_own-clause-answer
returns-else-is_own-clause-answer c = λ g h.
    let columns = c.in-Some.ensures.1 ∙ ap length c.column_at.ensures in
    let below = path_is_below c.args.path.now c.in-Some.columns c.system-system.result.now c.system-system.ensures.rows c.system-system.ensures.groups columns c.system-system.ensures.within in
    answered_by c.differences_are_decided.ensures g c.args.path.now.word c.in-Some.columns c.args.depth c.system-system.result.now c.decide.result
    (system_of g c.args.path.now c.in-Some.columns c.system-system.result.now h c.system-system.ensures.rows c.system-system.ensures.groups columns)
    (record { rows = c.know_rows.ensures; below = below }) c.decide.ensures.refuted c.decide.ensures.whole (λ e. c.decide.ensures.gap e) (λ e. c.decide.ensures.past e)
