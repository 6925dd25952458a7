-- The failure that a race ended with.
use Rattle.std.proofs.Common.{◌≡◌, ℕ, ℤ, List, Option, Some, length, refl, sym, subst, ◌∙◌}
use Rattle.std.specs.Prelude.{IfSome}
use Rattle.std.specs.declared.vec.Vec.{Vec}
use Rattle.std.specs.declared.alloc.Global.{Global}
use Rattle.std.specs.List.{AllByRecursion}
use Rattle.math_facts.specs.Fits.{Fits}
use Rattle.nwa_base.specs.declared.letters.Letter.{Letter}
use Rattle.typed_tree.specs.TypedTree.{TypedProgram}
use Rattle.trace_replay.specs.declared.failure.Failure.{Failure}
use Rattle.trace_replay.specs.Replays.{Replays, IsReplayed}
use Rattle.trace_replay.specs.Tried.{TriedFails}
use Rattle.race_core.specs.declared.ends.End.{End}
use Rattle.race_core.specs.declared.ends.End.TheVariants.{Unsafe}
use Rattle.race_core.specs.declared.events.Entry.{Entry}
use Rattle.race_core.specs.Races.{Race}
use Rattle.itp_automaton.specs.Certified.{Certificate}
use Rattle.race_rounds.specs.declared.limits.Limits.{Limits}
use Rattle.race_rounds.specs.Ends.{FailsAfter, EndMeets, no_word, one_word}
use Rattle.race_rounds.specs.Rounds.{automaton_in, IsRaceOf}
use Rattle.race_verdicts.specs.Verdicts.{IsFailureBy, IsFailureOf}

said : (t : TypedProgram) (limits : Limits) (h : List (Entry Certificate)) (w : List Letter) (steps : ℕ) (choices : Vec ℤ Global) →
    EndMeets automaton_in t limits h (Unsafe w steps choices) → (v : List Letter) × FailsAfter t v steps choices.items
said t limits h w steps choices (no_word e n) = absurd (cc)
said t limits h w steps choices (one_word v k s) = (v, s.2)

fails : (t : TypedProgram) (given : Option (Entry Certificate)) (limits : Limits) (r : Race Certificate) (w : List Letter) (steps : ℕ) (choices : Vec ℤ Global) → IsRaceOf t given limits r →
    r.end ≡ Some (Unsafe w steps choices) → (v : List Letter) × FailsAfter t v steps choices.items
fails t given limits r w steps choices race e =
    said t limits r.history w steps choices (subst (λ (x : Option End). IfSome x (EndMeets automaton_in t limits r.history)) e race.end)

pub replays : (t : TypedProgram) (given : Option (Entry Certificate)) (limits : Limits) (r : Race Certificate) (w : List Letter) (steps : ℕ) (choices : Vec ℤ Global) →
    ((s : TypedProgram) (n : ℕ) (cs : List ℤ) (made : ℕ) (used : List ℤ) (i : ℕ) → TriedFails s n cs made used i → Replays s made used i) → IsRaceOf t given limits r →
    r.end ≡ Some (Unsafe w steps choices) → (i : ℕ) × Replays t steps choices.items i
replays t given limits r w steps choices replay race e =
    let f = fails t given limits r w steps choices race e in (f.1.assertion, replay t steps choices.items steps choices.items f.1.assertion f.1.fails)

pub values_fit : (t : TypedProgram) (given : Option (Entry Certificate)) (limits : Limits) (r : Race Certificate) (w : List Letter) (steps : ℕ) (choices : Vec ℤ Global) → IsRaceOf t given limits r →
    r.end ≡ Some (Unsafe w steps choices) → AllByRecursion Fits choices.items
values_fit t given limits r w steps choices race e = (fails t given limits r w steps choices race e).1.fit

pub failure : (t : TypedProgram) (given : Option (Entry Certificate)) (limits : Limits) (r : Race Certificate) (w : List Letter) (rounds steps : ℕ) (choices : Vec ℤ Global) (f : Failure) → IsRaceOf t given limits r →
    r.end ≡ Some (Unsafe w steps choices) → rounds ≡ length r.history → IsFailureBy t rounds steps choices.items f → IsFailureOf t r f
failure t given limits r w rounds steps choices f race e n b = record {
  word = w;
  choices = choices;
  end = e ∙ subst (λ (s : ℕ). Some (Unsafe w steps choices) ≡ Some (Unsafe w s choices)) (sym b.steps_are) refl;
  failure = record {
    rounds_are = b.rounds_are ∙ n;
    steps_are = refl;
    values_are = b.values_are;
    replays = subst (λ (s : ℕ). IsReplayed t s choices.items f.id) (sym b.steps_are) b.replays;
    bounds = b.bounds;
  };
}
