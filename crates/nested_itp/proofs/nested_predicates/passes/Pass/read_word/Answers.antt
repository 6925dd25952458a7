use Rattle.std.proofs.Common.{◌≡◌, ◌∙◌, ◌+◌, ◌*◌, ◌<◌, ◌≤◌, List, Bool, false, length, get_or, refl, sym, ap, subst, arith, rules}
use Rattle.std.specs.Prelude.{IsSome}
use Rattle.std.specs.List.{AllByRecursion}
use Rattle.nwa_base.specs.declared.letters.Letter.{Letter}
use Rattle.nwa_base.specs.declared.letters.Kind.TheVariants.{Inside}
use Rattle.letter_acts.specs.Acts.{act_of}
use Rattle.letter_acts.specs.Invariant.{alphabet_of}
use Rattle.path_rows.specs.Paths.{path_of}
use Rattle.nested_itp.specs.NestedPredicates.Bases.{CanRead}
use Rattle.nested_itp.specs.NestedPredicates.Walking.{AreLetters}
use Rattle.nested_itp.specs.NestedPredicates.Sums.{Branch}
use Rattle.nested_itp.proofs.NestedPredicates.StampCounts.{letter_at}
use Rattle.nested_itp.proofs.NestedPredicates.WordLaws.{test_at, tests_counted}
use Rattle.nested_itp.proofs.NestedPredicates.PassLaws.{parts_fit}
use Rattle.nested_itp.proofs.NestedPredicates.LeafLaws.{parts_named, made_wider, made_at, sums_done, letter_is, within_word, position_within, first_within, versions_are}
use Rattle.nested_itp.proofs.NestedPredicates.PassSteps.{IsFresh, StepsBy, sums_begun, sums_gone_on, past_begun, past_gone_on}
use Rattle.nested_itp.proofs.nested_predicates.passes.Pass.read_word.Goals as goal

pub parts_by_stamp-requires : goal.parts_by_stamp-requires
parts_by_stamp-requires c = parts_named (record { rows = c.args.rows.now; stamps = c.args.stamps.now }) c.args.parts.now c.requires.stamped c.requires.leaf.each

pub versions_at-requires : goal.versions_at-requires
versions_at-requires c = first_within c.args.icfg.now c.args.path.now.word c.states-states.result.now (c.states-states.ensures ∙ c.requires.path.states)

pub add_sum-requires-clause-frames : goal.add_sum-requires-clause-frames
add_sum-requires-clause-frames c = subst (AllByRecursion CanRead) (sym c.requires.frames.2) (c.requires.frames.1.room, tt)

pub add_sum-requires-clause-here : goal.add_sum-requires-clause-here
add_sum-requires-clause-here c =
    made_at c.args.self.now.running.columns.items (path_of c.args.icfg.now c.args.path.now.word).states 0 c.versions_at.result.now
    (versions_are c.args.icfg.now c.args.path.now.word c.states-states.result.now 0 c.versions_at.result.now (c.states-states.ensures ∙ c.requires.path.states) c.versions_at.ensures)
    c.requires.made

pub loop-i-init : goal.loop-i-init
loop-i-init c =
    let g = c.args.icfg.now in
    let w = c.args.path.now.word in
    let fresh : IsFresh g w c.args.self.now = record {
      made = c.requires.made;
      columns = c.requires.columns;
      bound = c.requires.bound;
      counted = c.requires.counted;
      frames = c.requires.frames;
      sums = c.requires.sums;
    } in
    sums_begun g w (record { rows = c.args.rows.now; stamps = c.args.stamps.now }) c.args.parts.now c.args.self.now c.add_sum.new.self c.versions_at.result.now c.requires.stamped
    c.requires.leaf.each fresh
    (versions_are g w c.states-states.result.now 0 c.versions_at.result.now (c.states-states.ensures ∙ c.requires.path.states) c.versions_at.ensures)
    c.add_sum.ensures.running c.add_sum.ensures.frames c.in_ok-add_sum.ensures.value

pub versions_at-before-requires : goal.versions_at-before-requires
versions_at-before-requires c =
    position_within c.args.icfg.now c.letters-letters.result.now c.args.path.now.word c.states-states.result.now c.loop-i.i c.loop-i.i (c.letters-letters.ensures.value ∙ c.word.ensures)
    c.loop-i-test.true (omega arith) (c.states-states.ensures ∙ c.requires.path.states)

pub versions_at-entry-requires : goal.versions_at-entry-requires
versions_at-entry-requires c =
    position_within c.args.icfg.now c.letters-letters.result.now c.args.path.now.word c.states-states.result.now c.loop-i.i (c.loop-i.i + 1) (c.letters-letters.ensures.value ∙ c.word.ensures)
    c.loop-i-test.true (omega arith) (c.states-states.ensures ∙ c.requires.path.states)

pub bounds-returned-i : goal.bounds-returned-i
bounds-returned-i c =
    let e : length c.as_slice-returned.result.now ≡ length c.args.path.now.word =
    ap (λ (l : List Bool). length l) (c.as_slice-returned.ensures.value ∙ c.requires.layout.returned) ∙ tests_counted c.args.path.now.word in
    let l = within_word c.letters-letters.result.now c.args.path.now.word c.loop-i.i (c.letters-letters.ensures.value ∙ c.word.ensures) c.loop-i-test.true in
    omega (arith, e, l)

pub enter-requires-clause-fit : goal.enter-requires-clause-fit
enter-requires-clause-fit c =
    parts_fit c.args.rows.now c.args.stamps.now c.args.parts.now c.of-at_call.result.now (2 * (c.loop-i.i + 1)) c.requires.rows c.requires.leaf
    (c.of-at_call.ensures ∙ c.in_ok-by_stamp.ensures (2 * (c.loop-i.i + 1)))

pub enter-requires-clause-letter : goal.enter-requires-clause-letter
enter-requires-clause-letter c =
    let d : Letter = record { id = 0; kind = Inside; call = 0 } in
    letter_at (λ a. IsSome (act_of (alphabet_of c.args.icfg.now) a)) c.letters-letters.result.now c.loop-i.i d c.loop-i-test.true
    (subst (λ (w : List Letter). AreLetters (alphabet_of c.args.icfg.now) w) (sym (c.letters-letters.ensures.value ∙ c.word.ensures)) c.requires.layout.letters)

pub enter-requires-clause-counted : goal.enter-requires-clause-counted
enter-requires-clause-counted c = c.loop-i.invariant.summed.counted

pub enter-requires-clause-entry : goal.enter-requires-clause-entry
enter-requires-clause-entry c =
    made_at c.loop-i.self.running.columns.items (path_of c.args.icfg.now c.args.path.now.word).states (c.loop-i.i + 1) c.versions_at-entry.result.now
    (versions_are c.args.icfg.now c.args.path.now.word c.states-states.result.now (c.loop-i.i + 1) c.versions_at-entry.result.now (c.states-states.ensures ∙ c.requires.path.states)
    c.versions_at-entry.ensures)
    c.loop-i.invariant.made

pub enter-requires-clause-before : goal.enter-requires-clause-before
enter-requires-clause-before c =
    made_at c.loop-i.self.running.columns.items (path_of c.args.icfg.now c.args.path.now.word).states c.loop-i.i c.versions_at-before.result.now
    (versions_are c.args.icfg.now c.args.path.now.word c.states-states.result.now c.loop-i.i c.versions_at-before.result.now (c.states-states.ensures ∙ c.requires.path.states)
    c.versions_at-before.ensures)
    c.loop-i.invariant.made

pub enter-requires-clause-frames : goal.enter-requires-clause-frames
enter-requires-clause-frames c = c.loop-i.invariant.rooms

pub come_to-requires-clause-fit : goal.come_to-requires-clause-fit
come_to-requires-clause-fit c =
    parts_fit c.args.rows.now c.args.stamps.now c.args.parts.now c.of.result.now (2 * (c.loop-i.i + 1) + 1) c.requires.rows c.requires.leaf
    (c.of.ensures ∙ c.in_ok-by_stamp.ensures (2 * (c.loop-i.i + 1) + 1))

pub come_to-requires-clause-counted : goal.come_to-requires-clause-counted
come_to-requires-clause-counted c = c.in_ok-enter.ensures.adds.counted

pub come_to-requires-clause-frames : goal.come_to-requires-clause-frames
come_to-requires-clause-frames c = c.in_ok-enter.ensures.frames

pub come_to-requires-clause-here : goal.come_to-requires-clause-here
come_to-requires-clause-here c =
    made_wider c.loop-i.self.running.columns.items c.enter.new.self.running.columns.items c.versions_at-entry.result.now c.in_ok-enter.ensures.adds.width
    (made_at c.loop-i.self.running.columns.items (path_of c.args.icfg.now c.args.path.now.word).states (c.loop-i.i + 1) c.versions_at-entry.result.now
    (versions_are c.args.icfg.now c.args.path.now.word c.states-states.result.now (c.loop-i.i + 1) c.versions_at-entry.result.now (c.states-states.ensures ∙ c.requires.path.states)
    c.versions_at-entry.ensures)
    c.loop-i.invariant.made)

pub loop-i-preserved : goal.loop-i-preserved
loop-i-preserved c =
    let g = c.args.icfg.now in
    let w = c.args.path.now.word in
    let i = c.loop-i.i in
    let b : Branch = record { rows = c.args.rows.now; stamps = c.args.stamps.now } in
    let d : Letter = record { id = 0; kind = Inside; call = 0 } in
    let a : Letter = get_or c.letters-letters.result.now i d in
    let returns : Bool = get_or c.as_slice-returned.result.now i false in
    let k = c.letters-letters.ensures.value ∙ c.word.ensures in
    let e = c.states-states.ensures ∙ c.requires.path.states in
    let l : i < length w = within_word c.letters-letters.result.now w i k c.loop-i-test.true in
    let step : StepsBy g w i a b c.args.parts.now c.of-at_call.result.now c.of.result.now c.loop-i.self c.enter.new.self c.come_to.new.self returns c.versions_at-before.result.now
    c.versions_at-entry.result.now = record {
      within = l;
      at_before = versions_are g w c.states-states.result.now i c.versions_at-before.result.now e c.versions_at-before.ensures;
      at_entry = versions_are g w c.states-states.result.now (i + 1) c.versions_at-entry.result.now e c.versions_at-entry.ensures;
      returning = ap (λ (l : List Bool). get_or l i false) (c.as_slice-returned.ensures.value ∙ c.requires.layout.returned) ∙ test_at w i l;
      at_call = c.of-at_call.ensures ∙ c.in_ok-by_stamp.ensures (2 * (i + 1));
      adds = c.in_ok-enter.ensures.adds;
      behind = c.of.ensures ∙ c.in_ok-by_stamp.ensures (2 * (i + 1) + 1);
      adds_more = c.in_ok-come_to.ensures.adds;
      enters = c.in_ok-enter.ensures.value;
    } in
    sums_gone_on g w i a d b c.args.parts.now c.of-at_call.result.now c.of.result.now c.loop-i.self c.enter.new.self c.come_to.new.self returns c.versions_at-before.result.now
    c.versions_at-entry.result.now c.requires.stamped c.requires.leaf.each (letter_is c.letters-letters.result.now w i a d k refl) c.loop-i.invariant step c.in_ok-enter.ensures.frames
    c.enter.ensures.sums c.come_to.ensures.frames c.in_ok-come_to.ensures.value

pub returns-clause-value : goal.returns-clause-value
returns-clause-value c =
    sums_done c.args.icfg.now c.args.path.now.word c.loop-i.i (record { rows = c.args.rows.now; stamps = c.args.stamps.now }) c.args.parts.now c.loop-i.self.running c.loop-i.self.frames.items
    c.loop-i.self.sums.items (let l = c.loop-i-test.false in subst (λ (x : List Letter). length x ≤ c.loop-i.i) (c.letters-letters.ensures.value ∙ c.word.ensures) l) c.loop-i.invariant

pub returns-in_err-add_sum-clause-past : goal.returns-in_err-add_sum-clause-past
returns-in_err-add_sum-clause-past c was =
    let g = c.args.icfg.now in
    let w = c.args.path.now.word in
    let fresh : IsFresh g w c.args.self.now = record {
      made = c.requires.made;
      columns = c.requires.columns;
      bound = c.requires.bound;
      counted = c.requires.counted;
      frames = c.requires.frames;
      sums = c.requires.sums;
    } in
    past_begun g w (record { rows = c.args.rows.now; stamps = c.args.stamps.now }) c.args.parts.now c.args.self.now c.versions_at.result.now c.requires.stamped c.requires.leaf.each fresh
    (versions_are g w c.states-states.result.now 0 c.versions_at.result.now (c.states-states.ensures ∙ c.requires.path.states) c.versions_at.ensures)
    (c.in_err-add_sum.ensures.past (search rules))

pub returns-in_err-come_to-clause-past : goal.returns-in_err-come_to-clause-past
returns-in_err-come_to-clause-past c was =
    let g = c.args.icfg.now in
    let w = c.args.path.now.word in
    let i = c.loop-i.i in
    let b : Branch = record { rows = c.args.rows.now; stamps = c.args.stamps.now } in
    let d : Letter = record { id = 0; kind = Inside; call = 0 } in
    let a : Letter = get_or c.letters-letters.result.now i d in
    let returns : Bool = get_or c.as_slice-returned.result.now i false in
    let k = c.letters-letters.ensures.value ∙ c.word.ensures in
    let e = c.states-states.ensures ∙ c.requires.path.states in
    let l : i < length w = within_word c.letters-letters.result.now w i k c.loop-i-test.true in
    let step : StepsBy g w i a b c.args.parts.now c.of-at_call.result.now c.of.result.now c.loop-i.self c.enter.new.self c.come_to.new.self returns c.versions_at-before.result.now
    c.versions_at-entry.result.now = record {
      within = l;
      at_before = versions_are g w c.states-states.result.now i c.versions_at-before.result.now e c.versions_at-before.ensures;
      at_entry = versions_are g w c.states-states.result.now (i + 1) c.versions_at-entry.result.now e c.versions_at-entry.ensures;
      returning = ap (λ (l : List Bool). get_or l i false) (c.as_slice-returned.ensures.value ∙ c.requires.layout.returned) ∙ test_at w i l;
      at_call = c.of-at_call.ensures ∙ c.in_ok-by_stamp.ensures (2 * (i + 1));
      adds = c.in_ok-enter.ensures.adds;
      behind = c.of.ensures ∙ c.in_ok-by_stamp.ensures (2 * (i + 1) + 1);
      adds_more = c.in_err-come_to.ensures.reached (search rules);
      enters = c.in_ok-enter.ensures.value;
    } in
    past_gone_on g w i a d b c.args.parts.now c.of-at_call.result.now c.of.result.now c.loop-i.self c.enter.new.self c.come_to.new.self returns c.versions_at-before.result.now
    c.versions_at-entry.result.now c.requires.stamped c.requires.leaf.each (letter_is c.letters-letters.result.now w i a d k refl) c.loop-i.invariant step
    (c.in_err-come_to.ensures.past (search rules))
