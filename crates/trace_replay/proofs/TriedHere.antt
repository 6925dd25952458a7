-- How Tried ends, by what the code finds at a step.
use Rattle.std.proofs.Common.{◌≡◌, ◌≢◌, ℕ, zero, suc, ◌+◌, ◌-◌, ◌<◌, ◌≤◌, ℤ, inl, inr, List, [], ◌∷◌, ◌++◌, length, take, refl, sym, ap, ◌∙◌, subst, arith, append_assoc, length-append}
use Rattle.std.specs.Option.{option_to_list}
use Rattle.std.specs.List.{AllByRecursion}
use Rattle.std.proofs.Math.Seq.{take-append_seam}
use Rattle.std.proofs.lemmas.List.{length-map}
use Rattle.math_facts.specs.Fits.{Fits}
use Rattle.typed_tree.specs.TypedTree.{TypedProgram}
use Rattle.boogie_run.specs.declared.types.Choice.{Choice}
use Rattle.boogie_run.specs.Configurations.{Config}
use Rattle.boogie_run.specs.Steps.{Outcome, Failed}
use Rattle.trace_replay.specs.declared.causes.ReplayCause.{ReplayCause}
use Rattle.trace_replay.specs.declared.causes.ReplayCause.TheVariants.{Blocked, Ended, Short, Number, BadChoice, Product}
use Rattle.trace_replay.specs.declared.causes.ReplayFault.TheVariants.{At}
use Rattle.trace_replay.specs.FailureText.{numbers}
use Rattle.trace_replay.specs.Replays.{choices_among}
use Rattle.trace_replay.specs.ReplayCauses.{HasMade, StepEnds}
use Rattle.trace_replay.specs.ReplayAnswers.{Halts, FailsBy, IsTriedFault, told_cause}
use Rattle.trace_replay.specs.Tried.{EndsOtherwise, blocks, returns, needs, refuses, TriedStops}

-- the choices that are used behind a step, and those that are left
module _ (t : TypedProgram) (choices : List ℤ) (made : ℕ) (c : Config) (left rest : List ℤ) (o : Outcome) (comes : HasMade t choices made c left) (ends : StepEnds t c left o rest) where
  front : List ℤ
  front = choices_among comes.taken ++ option_to_list ends.choice

  parts : choices ≡ front ++ rest
  unfolding front
  parts = sym comes.used ∙ ap (λ (zs : List ℤ). choices_among comes.taken ++ zs) ends.first ∙ sym (append_assoc (choices_among comes.taken) (option_to_list ends.choice) rest)

  parts_long : length choices ≡ length front + length rest
  parts_long = ap length parts ∙ length-append front rest

  front_taken : (used : ℕ) → used + length rest ≡ length choices → choices ≡ take used choices ++ rest
  front_taken used long =
      let many : used ≡ length front = omega (arith, long, parts_long) in
      let is : take used choices ≡ front = (λ k. take (many k) (parts k)) ∙ take-append_seam front rest in
      parts ∙ ap (λ (zs : List ℤ). zs ++ rest) (sym is)

  rest_within : length rest ≤ length choices
  rest_within = omega (arith, parts_long)

fails_by : (t : TypedProgram) (n : ℕ) (choices : List ℤ) (made : ℕ) (c : Config) (left rest : List ℤ) (i used : ℕ) → made < n → HasMade t choices made c left → StepEnds t c left (Failed i) rest →
    used + length rest ≡ length choices → FailsBy t n choices (made + 1) used
fails_by t n choices made c left rest i used in_time comes fails long = (
  i,
  record {
    made = made;
    number = refl;
    in_time = in_time;
    here = c;
    left = left;
    rest = rest;
    comes = comes;
    fails = fails;
    used_is = front_taken t choices made c left rest (Failed i) comes fails used long;
  },
)

-- an assertion fails, and no choice is left
pub fails_last : (t : TypedProgram) (n : ℕ) (choices : List Choice) (made : ℕ) (c : Config) (left : List ℤ) (i : ℕ) → made < n → HasMade t (numbers choices) made c left → StepEnds t c left (Failed i) [] →
    FailsBy t n (numbers choices) (made + 1) (length choices)
fails_last t n choices made c left i in_time comes fails = fails_by t n (numbers choices) made c left [] i (length choices) in_time comes fails (omega (arith, length-map choices (λ (x : Choice). x.0)))

-- these are left
module _ (t : TypedProgram) (n : ℕ) (choices : List Choice) (made : ℕ) (c : Config) (left : List ℤ) (rest : List Choice) (in_time : made < n) (comes : HasMade t (numbers choices) made c left)
    (h : (i : ℕ) × (numbers rest ≢ []) × StepEnds t c left (Failed i) (numbers rest)) where
  pub left_within : length rest ≤ length choices
  left_within =
      omega (arith, rest_within t (numbers choices) made c left (numbers rest) (Failed h.0) comes h.2, length-map choices (λ (x : Choice). x.0), length-map rest (λ (x : Choice). x.0))

  pub fails_early : FailsBy t n (numbers choices) (made + 1) (length choices - length rest)
  fails_early =
      fails_by t n (numbers choices) made c left (numbers rest) h.0 (length choices - length rest) in_time comes h.2
      (omega (arith, left_within, length-map choices (λ (x : Choice). x.0), length-map rest (λ (x : Choice). x.0)))

-- it ends otherwise
ends_here : (t : TypedProgram) (n : ℕ) (choices : List ℤ) (made : ℕ) (c : Config) (left : List ℤ) → made < n → HasMade t choices made c left → EndsOtherwise t c left → TriedStops t n choices (made + 1)
ends_here t n choices made c left in_time comes ends = inl (record { made = made; number = refl; in_time = in_time; here = c; left = left; comes = comes; ends = ends })

pub halts_tried : (t : TypedProgram) (n : ℕ) (choices : List ℤ) (made : ℕ) (c : Config) (left : List ℤ) (cause : ReplayCause) → made < n → HasMade t choices made c left → Halts t c left cause →
    IsTriedFault t n choices (At (made + 1) (told_cause cause))
halts_tried t n choices made c left Blocked in_time comes h = ends_here t n choices made c left in_time comes (blocks h)
halts_tried t n choices made c left Ended in_time comes h = ends_here t n choices made c left in_time comes (returns h)
halts_tried t n choices made c left Short in_time comes h = ends_here t n choices made c left in_time comes (needs h.0 h.1)
halts_tried t n choices made c left Number in_time comes h = record { made = made; number = refl; in_time = in_time; here = c; left = left; comes = comes; stops = h }
halts_tried t n choices made c left BadChoice in_time comes h = ends_here t n choices made c left in_time comes (refuses h)
halts_tried t n choices made c left Product in_time comes h = absurd h

-- it has made all steps
pub all_made : (t : TypedProgram) (n : ℕ) (choices : List ℤ) (made : ℕ) (c : Config) (left : List ℤ) → made ≡ n → HasMade t choices made c left → IsTriedFault t n choices (At n Product)
all_made t n choices made c left all comes = inr (refl, record { here = c; left = left; comes = subst (λ (m : ℕ). HasMade t choices m c left) all comes })

pub all_taken : (n : ℕ) (zs : List ℤ) → AllByRecursion Fits zs → AllByRecursion Fits (take n zs)
all_taken zero zs h = tt
all_taken (suc n) [] h = tt
all_taken (suc n) (z ∷ zs) h = (h.0, all_taken n zs h.1)
