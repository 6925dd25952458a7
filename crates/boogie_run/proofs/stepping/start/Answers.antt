use Rattle.std.proofs.Common.{subst, sym, ◌∙◌, refl}
use Rattle.typed_tree.specs.TypingRules.TypedParts.{typed_program}
use Rattle.boogie_run.specs.RunView.{HaveRoom}
use Rattle.boogie_run.proofs.FrameLemmas.{first_of, some_frame}
use Rattle.boogie_run.proofs.stepping.start.Goals as goal

pub returns-clause-start : goal.returns-clause-start
returns-clause-start c =
    first_of c.new-4.result.items c.push.new.self.items c.new-frames.result.items _ c.new-frames.ensures.items c.in_ok-push.ensures.items
    ∙ cc (c.new-4.ensures.items, c.entry.ensures, c.new.ensures.items, c.new-2.ensures.items, c.new-3.ensures.items, c.in_ok-point.ensures.point)

pub returns-clause-fits : goal.returns-clause-fits
returns-clause-fits c =
    record {
      program = refl;
      numbers = c.in_ok-numbers.ensures;
      runs = some_frame c.push.new.self.items c.new-frames.result.items _ c.in_ok-push.ensures.items;
      room =
          subst (HaveRoom (typed_program c.args.program.now))
          (sym (first_of c.new-4.result.items c.push.new.self.items c.new-frames.result.items _ c.new-frames.ensures.items c.in_ok-push.ensures.items))
          (c.in_ok-point.ensures.room, tt);
    }
