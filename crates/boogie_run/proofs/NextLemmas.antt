-- What the next step needs, reads and makes, by what is chosen.
use Rattle.std.proofs.Common.{◌≡◌, ◌<◌, ◌≤◌, ℕ, ℤ, true, false, nat_lt, length, slice_get, Result, Ok, Err, arith}
use Rattle.std.proofs.lemmas.Bool.Decides.{nat_tests}
use Rattle.typed_tree.specs.TypedTree.{TypedProgram}
use Rattle.boogie_run.specs.BoogiePoints.Actions.{action_at}
use Rattle.boogie_run.specs.BoogiePoints.Told.{told, ways_of}
use Rattle.boogie_run.specs.declared.types.Moved.{Moved}
use Rattle.boogie_run.specs.declared.types.RunFault.{RunFault}
use Rattle.boogie_run.specs.Configurations.{Config}
use Rattle.boogie_run.specs.Needs.{need, need_of, locals_at}
use Rattle.boogie_run.specs.Fitting.{NextFits}
use Rattle.boogie_run.specs.Steps.{next, Went, with_global, with_local}
use Rattle.boogie_run.specs.ToldActs.{told_need, told_act, ToldFits}
use Rattle.boogie_run.specs.StepView.{StepsTo, Answers}
use Rattle.boogie_run.proofs.ToldLemmas.{act_told, need_told, fits_told}

below : (a b : ℕ) → a < b → nat_lt a b ≡ true
below a b h = grind (arith, nat_tests)

not_below : (a b : ℕ) → b ≤ a → nat_lt a b ≡ false
not_below a b h = grind (arith, nat_tests)

-- a constant or a global is to be chosen
pub need_global : (t : TypedProgram) (c : Config) → length c.globals < length t.globals → need t c ≡ need_of (slice_get t.globals (length c.globals))
need_global t c h = rw (below (length c.globals) (length t.globals) h)

pub next_global : (t : TypedProgram) (c : Config) (v : ℤ) → length c.globals < length t.globals → next t c v ≡ Went (with_global c v)
next_global t c v h = rw (below (length c.globals) (length t.globals) h)

pub fits_global : (t : TypedProgram) (c : Config) → length c.globals < length t.globals → NextFits t c
fits_global t c h = rw (below (length c.globals) (length t.globals) h) tt

-- a local is to be chosen
pub need_local : (t : TypedProgram) (c : Config) → length t.globals ≤ length c.globals → length c.top.locals < length (locals_at t c.top.proc) →
    need t c ≡ need_of (slice_get (locals_at t c.top.proc) (length c.top.locals))
need_local t c g h = rw (not_below (length c.globals) (length t.globals) g, below (length c.top.locals) (length (locals_at t c.top.proc)) h)

pub next_local : (t : TypedProgram) (c : Config) (v : ℤ) → length t.globals ≤ length c.globals → length c.top.locals < length (locals_at t c.top.proc) →
    next t c v ≡ Went (with_local c v)
next_local t c v g h = rw (not_below (length c.globals) (length t.globals) g, below (length c.top.locals) (length (locals_at t c.top.proc)) h)

pub fits_local : (t : TypedProgram) (c : Config) → length t.globals ≤ length c.globals → length c.top.locals < length (locals_at t c.top.proc) → NextFits t c
fits_local t c g h = rw (not_below (length c.globals) (length t.globals) g, below (length c.top.locals) (length (locals_at t c.top.proc)) h) tt

-- nothing is to be chosen before the action
pub need_action : (t : TypedProgram) (c : Config) → length t.globals ≤ length c.globals → length (locals_at t c.top.proc) ≤ length c.top.locals →
    need t c ≡ told_need t c.top.proc (told (action_at t c.top.proc c.top.point))
need_action t c g h =
    rw (not_below (length c.globals) (length t.globals) g, not_below (length c.top.locals) (length (locals_at t c.top.proc)) h)
    (need_told t c.top.proc (action_at t c.top.proc c.top.point))

next_action : (t : TypedProgram) (c : Config) (v : ℤ) → length t.globals ≤ length c.globals → length (locals_at t c.top.proc) ≤ length c.top.locals →
    next t c v ≡ told_act t c v (told (action_at t c.top.proc c.top.point)) (ways_of (action_at t c.top.proc c.top.point))
next_action t c v g h =
    rw (not_below (length c.globals) (length t.globals) g, not_below (length c.top.locals) (length (locals_at t c.top.proc)) h)
    (act_told t c v (action_at t c.top.proc c.top.point))

fits_action : (t : TypedProgram) (c : Config) → length t.globals ≤ length c.globals → length (locals_at t c.top.proc) ≤ length c.top.locals →
    NextFits t c ≡ ToldFits t c (told (action_at t c.top.proc c.top.point))
fits_action t c g h =
    rw (not_below (length c.globals) (length t.globals) g, not_below (length c.top.locals) (length (locals_at t c.top.proc)) h)
    (fits_told t c (action_at t c.top.proc c.top.point))

-- the answer of the action is that of the step
pub steps_by_action : (t : TypedProgram) (c d : Config) (v : ℤ) (r : Result Moved RunFault) → length t.globals ≤ length c.globals →
    length (locals_at t c.top.proc) ≤ length c.top.locals →
    Answers t c v (told (action_at t c.top.proc c.top.point)) (ways_of (action_at t c.top.proc c.top.point)) r d → StepsTo t c v r d
steps_by_action t c d v (Ok m) g h answer = (rw (fits_action t c g h) answer.0, rw (next_action t c v g h) answer.1)
steps_by_action t c d v (Err e) g h answer = (rw (fits_action t c g h) answer.0, answer.1)
