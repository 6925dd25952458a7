use Rattle.std.proofs.Common.{sym}
use Rattle.nwa_emptiness.specs.Ties.Seen.{seen}
use Rattle.nwa_emptiness.specs.declared.spelling.Task.TheVariants as tasks
use Rattle.nwa_emptiness.specs.Ties.Tasks.{AreFillings}
use Rattle.std.proofs.Common.{subst, List}
use Rattle.nwa_emptiness.specs.declared.spelling.Task.{Task}
use Rattle.nwa_emptiness.proofs.TaskLemmas.{replaced, dropped, segment_nowhere, segment_begin, segment_call, segment_inside, segment_back}
use Rattle.nwa_emptiness.specs.declared.search.Link.TheVariants as links
use Rattle.nwa_emptiness.specs.Ties.Search.{LinkLeadsBack}
use Rattle.nwa_emptiness.proofs.LoadLemmas.{segment_dropped, inside_less, back_less}
use Rattle.nwa_emptiness.proofs.spelling.split.Goals as goal

pub returns-in_default-clause-fillings : goal.returns-in_default-clause-fillings
returns-in_default-clause-fillings c =
    dropped (seen c.args.search.now) _ (tasks.Segment c.args.place) (segment_nowhere (seen c.args.search.now) c.args.place c.requires (sym c.in_default.ensures))

pub returns-in-Begin-clause-fillings : goal.returns-in-Begin-clause-fillings
returns-in-Begin-clause-fillings c =
    dropped (seen c.args.search.now) _ (tasks.Segment c.args.place) (segment_begin (seen c.args.search.now) c.args.place c.in-Some.way c.requires (sym c.in-Some.ensures) c.in-Begin.is)

pub returns-in-Call-clause-fillings : goal.returns-in-Call-clause-fillings
returns-in-Call-clause-fillings c =
    dropped (seen c.args.search.now) _ (tasks.Segment c.args.place) (segment_call (seen c.args.search.now) c.args.place c.in-Some.way c.requires (sym c.in-Some.ensures) c.in-Call.is)

pub returns-in_ok-extend_from_slice-in-Inside-clause-fillings : goal.returns-in_ok-extend_from_slice-in-Inside-clause-fillings
returns-in_ok-extend_from_slice-in-Inside-clause-fillings c w h =
    replaced (seen c.args.search.now) c.args.tasks.now.items _ (tasks.Segment c.args.place)
    (segment_inside (seen c.args.search.now) c.args.place c.in-Some.way c.in-Inside.before c.in-Inside.letter c.requires (sym c.in-Some.ensures) c.in-Inside.is)
    w (subst (λ (l : List Task). AreFillings (seen c.args.search.now) l w) c.in_ok-extend_from_slice-in-Inside.ensures.items h)

pub returns-in_ok-extend_from_slice-in-Back-clause-fillings : goal.returns-in_ok-extend_from_slice-in-Back-clause-fillings
returns-in_ok-extend_from_slice-in-Back-clause-fillings c w h =
    replaced (seen c.args.search.now) c.args.tasks.now.items _ (tasks.Segment c.args.place)
    (segment_back (seen c.args.search.now) c.args.place c.in-Some.way c.in-Back.before c.in-Back.call c.in-Back.exit c.in-Back.letter c.requires (sym c.in-Some.ensures) c.in-Back.is)
    w (subst (λ (l : List Task). AreFillings (seen c.args.search.now) l w) c.in_ok-extend_from_slice-in-Back.ensures.items h)

pub returns-in_default-clause-less : goal.returns-in_default-clause-less
returns-in_default-clause-less c = segment_dropped c.args.tasks.now.items c.args.place

pub returns-in-Begin-clause-less : goal.returns-in-Begin-clause-less
returns-in-Begin-clause-less c = segment_dropped c.args.tasks.now.items c.args.place

pub returns-in-Call-clause-less : goal.returns-in-Call-clause-less
returns-in-Call-clause-less c = segment_dropped c.args.tasks.now.items c.args.place

pub returns-in_ok-extend_from_slice-in-Inside-clause-less : goal.returns-in_ok-extend_from_slice-in-Inside-clause-less
returns-in_ok-extend_from_slice-in-Inside-clause-less c =
    let l : LinkLeadsBack c.args.place (links.Inside c.in-Inside.before c.in-Inside.letter) =
    subst (LinkLeadsBack c.args.place) c.in-Inside.is (c.requires.back c.args.place c.in-Some.way (sym c.in-Some.ensures)).link in
    inside_less c.args.tasks.now.items _ c.args.place c.in-Inside.before c.in-Inside.letter l c.in_ok-extend_from_slice-in-Inside.ensures.items

pub returns-in_ok-extend_from_slice-in-Back-clause-less : goal.returns-in_ok-extend_from_slice-in-Back-clause-less
returns-in_ok-extend_from_slice-in-Back-clause-less c =
    let l : LinkLeadsBack c.args.place (links.Back c.in-Back.before c.in-Back.call c.in-Back.exit c.in-Back.letter) =
    subst (LinkLeadsBack c.args.place) c.in-Back.is (c.requires.back c.args.place c.in-Some.way (sym c.in-Some.ensures)).link in
    back_less c.args.tasks.now.items _ c.args.place c.in-Back.before c.in-Back.exit c.in-Back.call c.in-Back.letter l.0 l.1
    c.in_ok-extend_from_slice-in-Back.ensures.items
