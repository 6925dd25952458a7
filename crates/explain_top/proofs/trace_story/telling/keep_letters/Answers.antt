use Rattle.std.proofs.Common.{refl, arith}
use Rattle.std.specs.Option.{option_map, option_to_list}
use Rattle.explain_top.proofs.TraceStory.TellingLaws.{none_told, one_told, all_told, behind_most, lines_most}
use Rattle.explain_top.proofs.trace_story.telling.keep_letters.Goals as goal

pub loop-i-init : goal.loop-i-init
loop-i-init c = record {
  told = λ t ds placed table. none_told t ds c.args.lines.now.all c.args.places.now c.args.letters.now c.args.lines.now c.requires.none refl;
  opened = omega arith;
  many = omega arith;
}

pub loop-i-preserved : goal.loop-i-preserved
loop-i-preserved c =
    let line = option_to_list (option_map (λ v. v.items) c.in_ok-line.line) in
    record {
      told = λ t ds placed table.
          one_told t ds c.args.lines.now.all c.args.places.now c.args.letters.now c.loop-i.i c.loop-i.calls c.loop-i.count c.open_behind-calls.result c.loop-i.lines c.keep_line.new.lines c.place_in.result c.letter_in-letter.result line
          (c.loop-i.invariant.told t ds placed table) c.loop-i-test.true c.place_in.ensures c.letter_in-letter.ensures (c.in_ok-line.ensures t ds placed table) c.open_behind-calls.ensures c.in_ok-count.ensures.kept c.in_ok-count.ensures.all
          c.in_ok-count.count c.in_ok-count.ensures.count;
      opened = behind_most c.letter_in-letter.result.kind c.loop-i.calls c.open_behind-calls.result c.loop-i.i c.open_behind-calls.ensures c.loop-i.invariant.opened;
      many = lines_most (λ v. v.items) c.in_ok-line.line c.loop-i.count c.in_ok-count.count c.loop-i.i c.in_ok-count.ensures.count c.loop-i.invariant.many;
    }

pub returns : goal.returns
returns c = λ t ds placed table text finished.
    all_told t ds c.args.lines.now.all c.args.places.now c.args.letters.now c.loop-i.i c.loop-i.calls c.loop-i.count c.loop-i.lines text (c.loop-i.invariant.told t ds placed table)
    (omega (arith, c.loop-i-test.false)) finished
