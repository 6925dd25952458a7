use Rattle.std.proofs.Common.{◌≡◌, ◌∙◌, ℕ, ◌+◌, ◌^◌, ◌<◌, ◌≤◌, List, [], ◌∷◌, ◌++◌, map, length, get_or, Option, Some, refl, sym, ap, subst, arith}
use Rattle.std.specs.Prelude.{slice_get}
use Rattle.std.specs.Option.{option_map}
use Rattle.std.specs.List.{AllByRecursion}
use Rattle.std.proofs.lemmas.List.{map-append}
use Rattle.std.proofs.lemmas.Option.{slice_get-map, slice_get-get_or, slice_get_read}
use Rattle.lin_rows.specs.Points.{point_of}
use Rattle.nwa_base.specs.declared.letters.Letter.{Letter}
use Rattle.nwa_base.specs.declared.letters.Kind.TheVariants.{Inside}
use Rattle.letter_acts.specs.Acts.{PlainAct, Alphabet, plain_act, act_of}
use Rattle.letter_acts.specs.Invariant.{alphabet_of}
use Rattle.path_rows.specs.Solutions.{read}
use Rattle.lowered_graph.specs.LoweredChoices.Traces as traces
use Rattle.trace_replay.specs.PathTraces.Solved.{helper_columns, next_positions}
use Rattle.trace_replay.specs.ToldChoices.Ties.Made.{columns_made}
use Rattle.trace_replay.specs.ToldChoices.Telling.{PositionFits}
use Rattle.trace_replay.specs.ToldChoices.Ties.Views.{plain_position, plain_positions}
use Rattle.trace_replay.proofs.ToldChoices.Steps.{all_snoc}
use Rattle.trace_replay.proofs.ToldChoices.ReadLetters.{IsRead, versions_many, helpers_within, more_columns, read_more, none_read, all_read}
use Rattle.trace_replay.proofs.told_choices.positions.read_positions.Goals as goal

pub bounds-versions-0 : goal.bounds-versions-0
bounds-versions-0 c =
    let many : length c.args.versions.now ≡ length c.args.letters.now + 1 = versions_many (λ v. v.items) c.args.icfg.now c.args.letters.now c.args.versions.now c.requires.versions in
    omega arith

pub bounds-versions-i : goal.bounds-versions-i
bounds-versions-i c =
    let many : length c.args.versions.now ≡ length c.args.letters.now + 1 = versions_many (λ v. v.items) c.args.icfg.now c.args.letters.now c.args.versions.now c.requires.versions in
    omega arith

pub loop-i-init : goal.loop-i-init
loop-i-init c =
    let many : length c.args.versions.now ≡ length c.args.letters.now + 1 = versions_many (λ v. v.items) c.args.icfg.now c.args.letters.now c.args.versions.now c.requires.versions in
    let less : 0 < length c.args.versions.now = omega arith in
    let got : slice_get (map (λ v. v.items) c.args.versions.now) 0 ≡ Some c.index-versions-0.result.items =
    slice_get-map (λ v. v.items) c.args.versions.now 0 ∙ ap (option_map (λ v. v.items)) (slice_get_read c.args.versions.now (length c.args.versions.now) 0 c.index-versions-0.result refl less c.index-versions-0.is) in
    let none : plain_positions c.in_ok-found.found.items ≡ [] = ap plain_positions c.in_ok-found.ensures.items in
    let point = point_of c.args.point.now in
    let whole : List traces.TracePosition = next_positions point c.args.icfg.now c.args.letters.now c.args.run.now in
    let read = none_read (point_of c.args.point.now) c.args.icfg.now c.args.letters.now (map (λ v. v.items) c.args.versions.now) c.args.run.now c.index-versions-0.result.items c.requires.versions c.requires.columns c.requires.run got in
    record {
      read =
          subst (λ (m : ℕ). IsRead point (alphabet_of c.args.icfg.now) c.args.letters.now (map (λ v. v.items) c.args.versions.now) c.args.run.now 0 m (plain_positions c.in_ok-found.found.items) whole) (sym (ap length c.as_slice-made.ensures.value))
          (subst (λ (done : List traces.TracePosition). IsRead point (alphabet_of c.args.icfg.now) c.args.letters.now (map (λ v. v.items) c.args.versions.now) c.args.run.now 0 (length c.index-versions-0.result.items) done whole) (sym none) read);
      fits = λ h. subst (AllByRecursion PositionFits) (sym none) tt;
    }

pub behind_letter-requires : goal.behind_letter-requires
behind_letter-requires c =
    let d : Letter = record { id = 0; kind = Inside; call = 0 } in
    let a : Letter = get_or c.args.letters.now c.loop-i.i d in
    let al : Alphabet = alphabet_of c.args.icfg.now in
    let o : Option PlainAct = option_map (λ a. plain_act a.now) c.act_of-act.result in
    let is : o ≡ act_of al a = c.act_of-act.ensures in
    let within = helpers_within al o c.loop-i.made in
    let more = more_columns (point_of c.args.point.now) al c.args.letters.now (map (λ v. v.items) c.args.versions.now) c.args.run.now c.loop-i.i c.loop-i.made (plain_positions c.loop-i.found.items)
    (next_positions (point_of c.args.point.now) c.args.icfg.now c.args.letters.now c.args.run.now) a (slice_get-get_or c.args.letters.now c.loop-i.i d c.loop-i-test.true) c.loop-i.invariant.read in
    let fits : c.loop-i.made + columns_made al o ≤ 2 ^ 32 = subst (λ (x : Option PlainAct). c.loop-i.made + columns_made al x ≤ 2 ^ 32) (sym is) more in
    omega (arith, within, fits)

pub columns_made-made-requires : goal.columns_made-made-requires
columns_made-made-requires c =
    let d : Letter = record { id = 0; kind = Inside; call = 0 } in
    let a : Letter = get_or c.args.letters.now c.loop-i.i d in
    let al : Alphabet = alphabet_of c.args.icfg.now in
    let o : Option PlainAct = option_map (λ a. plain_act a.now) c.act_of-act.result in
    let is : o ≡ act_of al a = c.act_of-act.ensures in
    let more = more_columns (point_of c.args.point.now) al c.args.letters.now (map (λ v. v.items) c.args.versions.now) c.args.run.now c.loop-i.i c.loop-i.made (plain_positions c.loop-i.found.items)
    (next_positions (point_of c.args.point.now) c.args.icfg.now c.args.letters.now c.args.run.now) a (slice_get-get_or c.args.letters.now c.loop-i.i d c.loop-i-test.true) c.loop-i.invariant.read in
    let fits : c.loop-i.made + columns_made al o ≤ 2 ^ 32 = subst (λ (x : Option PlainAct). c.loop-i.made + columns_made al x ≤ 2 ^ 32) (sym is) more in
    omega (arith, fits)

pub overflow_add-made : goal.overflow_add-made
overflow_add-made c =
    let d : Letter = record { id = 0; kind = Inside; call = 0 } in
    let a : Letter = get_or c.args.letters.now c.loop-i.i d in
    let al : Alphabet = alphabet_of c.args.icfg.now in
    let o : Option PlainAct = option_map (λ a. plain_act a.now) c.act_of-act.result in
    let is : o ≡ act_of al a = c.act_of-act.ensures in
    let more = more_columns (point_of c.args.point.now) al c.args.letters.now (map (λ v. v.items) c.args.versions.now) c.args.run.now c.loop-i.i c.loop-i.made (plain_positions c.loop-i.found.items)
    (next_positions (point_of c.args.point.now) c.args.icfg.now c.args.letters.now c.args.run.now) a (slice_get-get_or c.args.letters.now c.loop-i.i d c.loop-i-test.true) c.loop-i.invariant.read in
    let fits : c.loop-i.made + columns_made al o ≤ 2 ^ 32 = subst (λ (x : Option PlainAct). c.loop-i.made + columns_made al x ≤ 2 ^ 32) (sym is) more in
    let value : c.columns_made-made.result ≡ columns_made al o = c.columns_made-made.ensures in
    omega (arith, fits, value)

pub loop-i-preserved : goal.loop-i-preserved
loop-i-preserved c =
    let d : Letter = record { id = 0; kind = Inside; call = 0 } in
    let a : Letter = get_or c.args.letters.now c.loop-i.i d in
    let al : Alphabet = alphabet_of c.args.icfg.now in
    let point = point_of c.args.point.now in
    let whole : List traces.TracePosition = next_positions point c.args.icfg.now c.args.letters.now c.args.run.now in
    let versions : List (List ℕ) = map (λ v. v.items) c.args.versions.now in
    let o : Option PlainAct = option_map (λ a. plain_act a.now) c.act_of-act.result in
    let is : o ≡ act_of al a = c.act_of-act.ensures in
    let many : length c.args.versions.now ≡ length c.args.letters.now + 1 = versions_many (λ v. v.items) c.args.icfg.now c.args.letters.now c.args.versions.now c.requires.versions in
    let less : c.loop-i.i + 1 < length c.args.versions.now = omega arith in
    let runs : c.loop-i.i + 1 < length c.args.run.now = omega (arith, c.requires.run) in
    let got : slice_get versions (c.loop-i.i + 1) ≡ Some c.index-versions-i.result.items =
    slice_get-map (λ v. v.items) c.args.versions.now (c.loop-i.i + 1) ∙ ap (option_map (λ v. v.items)) (slice_get_read c.args.versions.now (length c.args.versions.now) (c.loop-i.i + 1) c.index-versions-i.result refl less c.index-versions-i.is) in
    let x : traces.TracePosition = plain_position c.in_ok-next.next in
    let x_is : x ≡ record { place = get_or c.args.run.now (c.loop-i.i + 1) 0; values = read point c.index-versions-i.result.items; helpers = read point (helper_columns (act_of al a) c.loop-i.made) } =
    c.in_ok-next.ensures.value ∙ (λ k. record { place = get_or c.args.run.now (c.loop-i.i + 1) 0; values = read point (c.deref.ensures.value k); helpers = read point (helper_columns (is k) c.loop-i.made) }) in
    let items : plain_positions c.push.new.self.items ≡ plain_positions c.loop-i.found.items ++ x ∷ [] = ap plain_positions c.in_ok-push.ensures.items ∙ map-append plain_position c.loop-i.found.items (c.in_ok-next.next ∷ []) in
    record {
      read =
          subst (λ (done : List traces.TracePosition). IsRead point al c.args.letters.now versions c.args.run.now (c.loop-i.i + 1) (c.loop-i.made + c.columns_made-made.result) done whole) (sym items)
          (read_more point al c.args.letters.now versions c.args.run.now c.loop-i.i c.loop-i.made (plain_positions c.loop-i.found.items) whole a (get_or c.args.run.now (c.loop-i.i + 1) 0) c.index-versions-i.result.items c.columns_made-made.result x
          (slice_get-get_or c.args.letters.now c.loop-i.i d c.loop-i-test.true) (slice_get-get_or c.args.run.now (c.loop-i.i + 1) 0 runs) got (c.columns_made-made.ensures ∙ ap (columns_made al) is) x_is c.loop-i.invariant.read);
      fits = λ h. subst (AllByRecursion PositionFits) (sym items) (all_snoc PositionFits (plain_positions c.loop-i.found.items) x (c.loop-i.invariant.fits h) (c.in_ok-next.ensures.fits h));
    }

pub returns-clause-value : goal.returns-clause-value
returns-clause-value c =
    all_read (point_of c.args.point.now) (alphabet_of c.args.icfg.now) c.args.letters.now (map (λ v. v.items) c.args.versions.now) c.args.run.now c.loop-i.i c.loop-i.made (plain_positions c.loop-i.found.items)
    (next_positions (point_of c.args.point.now) c.args.icfg.now c.args.letters.now c.args.run.now) c.loop-i-test.false c.loop-i.invariant.read
