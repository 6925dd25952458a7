-- Runs that make their choices as they go: the choices made so far are all that the run takes.
use Rattle.std.proofs.Common.{◌≡◌, ℕ, ◌+◌, ℤ, true, List, [], ◌++◌, length, nat_eq, refl, sym, ap, ◌∙◌, subst, arith, append-nil}
use Rattle.std.proofs.lemmas.Bool.{eqb-true}
use Rattle.std.proofs.lemmas.List.{nil_from_length}
use Rattle.typed_tree.specs.TypedTree.{TypedProgram}
use Rattle.boogie_run.specs.declared.types.Choice.{Choice}
use Rattle.boogie_run.specs.Configurations.{Config}
use Rattle.boogie_run.specs.Steps.{Went, Failed}
use Rattle.trace_replay.specs.FailureText.{numbers}
use Rattle.trace_replay.specs.Replays.{choices_among}
use Rattle.trace_replay.specs.ReplayCauses.{HasMade, StepEnds}
use Rattle.trace_replay.specs.Guesses.{IsGuessed}
use Rattle.trace_replay.proofs.ReplaySteps.{one_more_made}

-- the same steps, where more choices are left
more_left : (t : TypedProgram) (before after more : List ℤ) (made : ℕ) (c : Config) → after ≡ before ++ more → HasMade t before made c [] → HasMade t after made c more
more_left t before after more made c longer h = record {
  taken = h.taken;
  many = h.many;
  used = ap (λ (zs : List ℤ). zs ++ more) (sym (append-nil (choices_among h.taken)) ∙ h.used) ∙ sym longer;
  leads = h.leads;
  fit = h.fit;
}

-- by what `is_empty` says of the choices behind
none_behind : (rest : List Choice) → true ≡ nat_eq (length rest) 0 → numbers rest ≡ []
none_behind rest h = ap numbers (nil_from_length rest (eqb-true (length rest) 0 (sym h)))

module _ (t : TypedProgram) (before after more : List ℤ) (made : ℕ) (c : Config) (longer : after ≡ before ++ more) (comes : HasMade t before made c []) where
  -- one more step, which takes all choices that were added for it
  pub one_more_guessed : (d : Config) (rest : List Choice) → StepEnds t c more (Went d) (numbers rest) → true ≡ nat_eq (length rest) 0 → HasMade t after (made + 1) d []
  one_more_guessed d rest s none =
      subst (HasMade t after (made + 1) d) (none_behind rest none)
      (one_more_made t after made c d more (numbers rest) (more_left t before after more made c longer comes) s)

  -- the step that fails
  pub guess_fails : (i : ℕ) → StepEnds t c more (Failed i) [] → IsGuessed t (made + 1) after
  guess_fails i s = (
    i,
    record {
      made = made;
      number = refl;
      in_time = omega arith;
      here = c;
      left = more;
      rest = [];
      comes = more_left t before after more made c longer comes;
      fails = s;
      used_is = sym (append-nil after);
    },
  )
