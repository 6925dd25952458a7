use Rattle.std.proofs.Common.{◌≡◌, [], map, ◌∙◌}
use Rattle.fm_elim.specs.Answers.{aside_of}
use Rattle.fm_elim.specs.Values.{ValueFits}
use Rattle.fm_elim.specs.Elimination.{point}
use Rattle.fm_elim.specs.Ties.Climb.{climb, ClimbFits}
use Rattle.fm_elim.proofs.Exits.{exit_part, exit_memory}
use Rattle.fm_elim.proofs.WayBack.{loop_sets, loop_fits, loop_more, values_more, length_more, up_start}
use Rattle.std.proofs.lemmas.List.{length-map}
use Rattle.fm_elim.proofs.ascent.go_up.Goals as goal

pub value_of-requires-clause-set : goal.value_of-requires-clause-set
value_of-requires-clause-set c =
    loop_sets c.args.columns c.loop-aside.column (map aside_of c.args.asides.items) c.loop-aside.asides.items c.pop.new.self.items c.in-Some.aside c.loop-aside.values.items
    c.deref.result.now c.loop-aside.invariant.up c.loop-aside.invariant.column c.in-Some.ensures.items c.deref.ensures.value

pub returns-in_err-value : goal.returns-in_err-value
returns-in_err-value c =
    let given = map aside_of c.args.asides.items in
    exit_part c.from_residual-in_err-value.result (λ values. climb c.args.columns given (point []) ≡ point values.items) (ClimbFits c.args.columns given (point []))
    (ValueFits c.loop-aside.column c.deref.result.now (aside_of c.in-Some.aside)) c.in_err-value.field-0.0
    (loop_fits c.args.columns c.loop-aside.column (map aside_of c.args.asides.items) c.loop-aside.asides.items c.pop.new.self.items c.in-Some.aside c.loop-aside.values.items
    c.deref.result.now c.loop-aside.invariant.up c.loop-aside.invariant.column c.in-Some.ensures.items c.deref.ensures.value)
    c.in_err-value.ensures c.from_residual-in_err-value.ensures.1

pub loop-aside-preserved-in_ok-push : goal.loop-aside-preserved-in_ok-push
loop-aside-preserved-in_ok-push c =
    record {
      up = loop_more c.args.columns c.loop-aside.column (map aside_of c.args.asides.items) c.loop-aside.asides.items c.pop.new.self.items c.in-Some.aside c.loop-aside.values.items
          c.deref.result.now c.loop-aside.invariant.up c.loop-aside.invariant.column c.in-Some.ensures.items c.deref.ensures.value
          c.in_ok-value.value c.push.new.self.items c.in_ok-value.ensures c.in_ok-push.ensures.items;
      values = values_more c.loop-aside.values.items c.push.new.self.items c.in_ok-value.value c.loop-aside.invariant.values c.in_ok-value.ensures.1.0 c.in_ok-push.ensures.items;
      column = length_more c.loop-aside.column c.loop-aside.values.items c.push.new.self.items c.in_ok-value.value c.loop-aside.invariant.column c.in_ok-push.ensures.items;
    }

pub loop-aside-preserved : goal.loop-aside-preserved
loop-aside-preserved c =
    record {
      up = loop_more c.args.columns c.loop-aside.column (map aside_of c.args.asides.items) c.loop-aside.asides.items c.pop.new.self.items c.in-Some.aside c.loop-aside.values.items
          c.deref.result.now c.loop-aside.invariant.up c.loop-aside.invariant.column c.in-Some.ensures.items c.deref.ensures.value
          c.in_ok-value.value c.push.new.self.items c.in_ok-value.ensures c.in_ok-push.ensures.items;
      values = values_more c.loop-aside.values.items c.push.new.self.items c.in_ok-value.value c.loop-aside.invariant.values c.in_ok-value.ensures.1.0 c.in_ok-push.ensures.items;
      column = length_more c.loop-aside.column c.loop-aside.values.items c.push.new.self.items c.in_ok-value.value c.loop-aside.invariant.column c.in_ok-push.ensures.items;
    }

pub returns-in_err-values : goal.returns-in_err-values
returns-in_err-values c =
    let given = map aside_of c.args.asides.items in
    exit_memory c.from_residual.result (λ values. climb c.args.columns given (point []) ≡ point values.items) (ClimbFits c.args.columns given (point [])) c.from_residual.ensures.1

pub loop-aside-init : goal.loop-aside-init
loop-aside-init c =
    rw c.in_ok-values.ensures.items
    (record {
      up = up_start c.args.columns (map aside_of c.args.asides.items) (length-map c.args.asides.items aside_of ∙ c.requires.height) c.requires.set;
      values = tt;
      column = λ i. 0;
    })

pub returns-in_err-push : goal.returns-in_err-push
returns-in_err-push c =
    let given = map aside_of c.args.asides.items in
    exit_memory c.from_residual-in_err-push.result (λ values. climb c.args.columns given (point []) ≡ point values.items) (ClimbFits c.args.columns given (point [])) c.from_residual-in_err-push.ensures.1
