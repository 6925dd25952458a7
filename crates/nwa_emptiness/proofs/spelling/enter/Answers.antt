use Rattle.std.proofs.Common.{sym, subst, List, Some}
use Rattle.nwa_emptiness.specs.Ties.Seen.{seen}
use Rattle.nwa_emptiness.specs.declared.spelling.Task.{Task}
use Rattle.nwa_emptiness.specs.declared.spelling.Task.TheVariants as tasks
use Rattle.nwa_emptiness.specs.Ties.Tasks.{AreFillings}
use Rattle.nwa_emptiness.proofs.TaskLemmas.{replaced, dropped, whole_nowhere, whole_none, whole_some}
use Rattle.nwa_emptiness.specs.Ties.Search.{CallerLeadsBack}
use Rattle.nwa_emptiness.proofs.LoadLemmas.{whole_dropped, called_less, uncalled_less}
use Rattle.nwa_emptiness.proofs.spelling.enter.Goals as goal

pub returns-in_default-clause-fillings : goal.returns-in_default-clause-fillings
returns-in_default-clause-fillings c =
    dropped (seen c.args.search.now) _ (tasks.Whole c.args.place) (whole_nowhere (seen c.args.search.now) c.args.place c.requires (sym c.in_default.ensures))

pub returns-in_ok-extend_from_slice-in-Some-caller-clause-fillings : goal.returns-in_ok-extend_from_slice-in-Some-caller-clause-fillings
returns-in_ok-extend_from_slice-in-Some-caller-clause-fillings c w h =
    replaced (seen c.args.search.now) c.args.tasks.now.items _ (tasks.Whole c.args.place)
    (whole_some (seen c.args.search.now) c.args.place c.in-Some.way c.in-Some-caller.before c.in-Some-caller.call c.requires (sym c.in-Some.ensures) c.in-Some-caller.is)
    w (subst (λ (l : List Task). AreFillings (seen c.args.search.now) l w) c.in_ok-extend_from_slice-in-Some-caller.ensures.items h)

pub returns-in_ok-push-in-None-clause-fillings : goal.returns-in_ok-push-in-None-clause-fillings
returns-in_ok-push-in-None-clause-fillings c w h =
    replaced (seen c.args.search.now) c.args.tasks.now.items _ (tasks.Whole c.args.place)
    (whole_none (seen c.args.search.now) c.args.place c.in-Some.way c.requires (sym c.in-Some.ensures) c.in-None.is)
    w (subst (λ (l : List Task). AreFillings (seen c.args.search.now) l w) c.in_ok-push-in-None.ensures.items h)

pub returns-in_default-clause-less : goal.returns-in_default-clause-less
returns-in_default-clause-less c = whole_dropped c.args.tasks.now.items c.args.place

pub returns-in_ok-extend_from_slice-in-Some-caller-clause-less : goal.returns-in_ok-extend_from_slice-in-Some-caller-clause-less
returns-in_ok-extend_from_slice-in-Some-caller-clause-less c =
    let l : CallerLeadsBack c.args.place (Some (c.in-Some-caller.before, c.in-Some-caller.call)) =
    subst (CallerLeadsBack c.args.place) c.in-Some-caller.is (c.requires.back c.args.place c.in-Some.way (sym c.in-Some.ensures)).caller in
    called_less c.args.tasks.now.items _ c.args.place c.in-Some-caller.before c.in-Some-caller.call l c.in_ok-extend_from_slice-in-Some-caller.ensures.items

pub returns-in_ok-push-in-None-clause-less : goal.returns-in_ok-push-in-None-clause-less
returns-in_ok-push-in-None-clause-less c = uncalled_less c.args.tasks.now.items _ c.args.place c.in_ok-push-in-None.ensures.items
