use Rattle.std.proofs.Common.{rules, Ok, ap}
use Rattle.automizer_top.specs.Report.{IsSafeText}
use Rattle.automizer_top.proofs.EarlierLaws.{first_entry}
use Rattle.automizer_top.proofs.earlier.entry_of.Goals as goal

pub returns : goal.returns
returns g c =
    let text : IsSafeText c.args.text.now c.in-Ok._coarse.items c.in-Ok.old =
    record { rounds = c.in-Ok._rounds; small = search rules; short = c.in-Ok.ensures.short; lines = c.in-Ok.ensures.valid; spelled = c.in-Ok.ensures.found } in
    record {
      coarse = c.in-Ok._coarse.items;
      old = c.in-Ok.old;
      spelled = text;
      automaton = c.in-Ok-reuse.reused;
      reused = record {
        certified = c.in-Ok-reuse.ensures.certified;
        states = c.in-Ok-reuse.ensures.states;
        candidates = c.in-Ok-reuse.ensures.candidates;
        all = c.in-Ok-reuse.ensures.all;
      };
      first_is = first_entry c.args.icfg.now c.in-Ok-reuse.reused c.in_ok-first.field-0 c.in_ok-first.ensures.entry (λ e. c.in_ok-first.ensures.none (ap Ok e));
    }
