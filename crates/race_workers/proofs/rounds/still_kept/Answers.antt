use Rattle.std.proofs.Common.{sym, subst, Option}
use Rattle.std.specs.Prelude.{IfSome}
use Rattle.nwa_base.specs.Acceptance.{Accepts}
use Rattle.race_core.specs.declared.events.Entry.{Entry}
use Rattle.itp_automaton.specs.Certified.{Certificate}
use Rattle.race_workers.proofs.rounds.still_kept.Goals as goal

pub returns-then-is_kept : goal.returns-then-is_kept
returns-then-is_kept c = (c.in-Some.is, c.in-Ok.ensures.accepts.0 c.if-is_kept.true)

pub returns-else-is_kept : goal.returns-else-is_kept
returns-else-is_kept c =
    subst (λ (x : Option (Entry Certificate)). IfSome x (λ e. Accepts c.args.kept.now e.word → ⊥)) (sym c.in-Some.is)
    (λ a. let t = c.in-Ok.ensures.accepts.1 a in let f = c.if-is_kept.false in let no : ⊥ = cc in no)
