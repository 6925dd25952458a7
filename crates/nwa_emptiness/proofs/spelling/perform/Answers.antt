use Rattle.std.proofs.Common.{◌<◌, List, [], ◌∷◌, ◌++◌, sym, subst}
use Rattle.std.proofs.lemmas.Result.{on_ok_weaker}
use Rattle.nwa_base.specs.declared.letters.Letter.{Letter}
use Rattle.nwa_emptiness.specs.Ties.Seen.{seen}
use Rattle.nwa_emptiness.specs.declared.spelling.Task.TheVariants as tasks
use Rattle.nwa_emptiness.specs.Ties.Tasks.{AreFillings, IsRest}
use Rattle.nwa_emptiness.proofs.TaskLemmas.{letter_written, task_is}
use Rattle.nwa_emptiness.specs.declared.spelling.Task.{Task}
use Rattle.nwa_emptiness.specs.Ties.Loads.{load}
use Rattle.nwa_emptiness.proofs.LoadLemmas.{letter_dropped}
use Rattle.nwa_emptiness.proofs.spelling.perform.Goals as goal

pub returns-in_ok-push-in-Letter-clause-rest : goal.returns-in_ok-push-in-Letter-clause-rest
returns-in_ok-push-in-Letter-clause-rest c w h =
    task_is (seen c.args.search.now) c.args.tasks.now.items _ _ c.args.letters.now.items w c.in-Letter.is
    (letter_written (seen c.args.search.now) c.args.tasks.now.items c.in-Letter.letter _ _ w c.in_ok-push-in-Letter.ensures.items h)

pub returns-in-Segment-clause-rest : goal.returns-in-Segment-clause-rest
returns-in-Segment-clause-rest c =
    let s = seen c.args.search.now in
    on_ok_weaker c.split.result
    (λ (f : (w : List Letter) → AreFillings s c.split.new.tasks.items w → AreFillings s (c.args.tasks.now.items ++ tasks.Segment c.in-Segment.place ∷ []) w)
    w (h : IsRest s c.split.new.tasks.items c.args.letters.now.items w).
    task_is s c.args.tasks.now.items _ _ c.args.letters.now.items w c.in-Segment.is (h.0, f h.0 h.1, h.2))
    c.split.ensures.fillings

pub returns-in-Whole-clause-rest : goal.returns-in-Whole-clause-rest
returns-in-Whole-clause-rest c =
    let s = seen c.args.search.now in
    on_ok_weaker c.enter.result
    (λ (f : (w : List Letter) → AreFillings s c.enter.new.tasks.items w → AreFillings s (c.args.tasks.now.items ++ tasks.Whole c.in-Whole.place ∷ []) w)
    w (h : IsRest s c.enter.new.tasks.items c.args.letters.now.items w).
    task_is s c.args.tasks.now.items _ _ c.args.letters.now.items w c.in-Whole.is (h.0, f h.0 h.1, h.2))
    c.enter.ensures.fillings

pub returns-in_ok-push-in-Letter-clause-less : goal.returns-in_ok-push-in-Letter-clause-less
returns-in_ok-push-in-Letter-clause-less c =
    let ts : List Task = c.args.tasks.now.items in
    subst (λ (t : Task). load ts < load (ts ++ t ∷ [])) (sym c.in-Letter.is) (letter_dropped ts c.in-Letter.letter)

pub returns-in-Segment-clause-less : goal.returns-in-Segment-clause-less
returns-in-Segment-clause-less c =
    let ts : List Task = c.args.tasks.now.items in
    on_ok_weaker c.split.result
    (λ (l : load c.split.new.tasks.items < load (ts ++ tasks.Segment c.in-Segment.place ∷ [])).
    subst (λ (t : Task). load c.split.new.tasks.items < load (ts ++ t ∷ [])) (sym c.in-Segment.is) l) c.split.ensures.less

pub returns-in-Whole-clause-less : goal.returns-in-Whole-clause-less
returns-in-Whole-clause-less c =
    let ts : List Task = c.args.tasks.now.items in
    on_ok_weaker c.enter.result
    (λ (l : load c.enter.new.tasks.items < load (ts ++ tasks.Whole c.in-Whole.place ∷ [])).
    subst (λ (t : Task). load c.enter.new.tasks.items < load (ts ++ t ∷ [])) (sym c.in-Whole.is) l) c.enter.ensures.less
