-- What boogie_run's calls say of one step, as turns of a replay.
use Rattle.std.proofs.Common.{◌≡◌, ◌≢◌, ℕ, ℤ, true, false, List, [], ◌++◌, length, nat_eq, Option, None, Some, refl, sym, ap, ◌∙◌, subst}
use Rattle.std.specs.Option.{option_to_list}
use Rattle.std.proofs.lemmas.Bool.{false≢true, not-true, eqb-true, eqb-false}
use Rattle.std.proofs.lemmas.List.{nil_from_length, length-map}
use Rattle.typed_tree.specs.TypedTree.{TypedProgram}
use Rattle.boogie_run.specs.declared.types.Choice.{Choice}
use Rattle.boogie_run.specs.declared.types.AssertId.{AssertId}
use Rattle.boogie_run.specs.declared.types.Moved.TheVariants as moves
use Rattle.boogie_run.specs.Configurations.{Config}
use Rattle.boogie_run.specs.Needs.{Need, Nothing, Whole, Truth, Below, need, is_taken, is_missing, is_refused}
use Rattle.boogie_run.specs.Steps.{Outcome, Went, Blocked, Failed, Ended, Refused, step}
use Rattle.boogie_run.specs.Fitting.{NextFits}
use Rattle.boogie_run.specs.StepView.{IsMoved}
use Rattle.trace_replay.specs.FailureText.{numbers}
use Rattle.trace_replay.specs.NextChoices.{next_choice}
use Rattle.trace_replay.specs.ReplayCauses.{StepEnds, NeedsChoice, HasBadChoice, ReadsPast, IsBlocked, HasEnded}
use Rattle.trace_replay.proofs.ReplaySteps.{next_first, none_left, some_needed}

-- the choice of the next step, and those behind it
pub record IsNext (n : Need) (left : List ℤ) (choice : Option ℤ) (rest : List ℤ) : Type 0 where
  pub choice_is : choice ≡ (next_choice n left).0
  pub rest_is : rest ≡ (next_choice n left).1

pub is_next : (m n : Need) (left : List ℤ) (choice : Option ℤ) (rest : List ℤ) → m ≡ n → choice ≡ (next_choice m left).0 → rest ≡ (next_choice m left).1 → IsNext n left choice rest
is_next m n left choice rest same one two = subst (λ k. IsNext k left choice rest) same (record { choice_is = one; rest_is = two })

first_is : (n : Need) (left : List ℤ) (choice : Option ℤ) (rest : List ℤ) → IsNext n left choice rest → left ≡ option_to_list choice ++ rest
first_is n left choice rest h = next_first n left ∙ (λ i. option_to_list (sym h.choice_is i) ++ sym h.rest_is i)

-- How the step ended

moved_went : (line : ℕ) (c d : Config) (o : Outcome) → IsMoved line c o moves.Went d → o ≡ Went d
moved_went line c d (Went e) h = ap Went (sym h)
moved_went line c d Blocked h = absurd h
moved_went line c d (Failed i) h = absurd h
moved_went line c d Ended h = absurd h
moved_went line c d Refused h = absurd h

moved_blocked : (line : ℕ) (c d : Config) (o : Outcome) → IsMoved line c o moves.Blocked d → o ≡ Blocked
moved_blocked line c d (Went e) h = absurd h
moved_blocked line c d Blocked h = refl
moved_blocked line c d (Failed i) h = absurd h
moved_blocked line c d Ended h = absurd h
moved_blocked line c d Refused h = absurd h

moved_ended : (line : ℕ) (c d : Config) (o : Outcome) → IsMoved line c o moves.Ended d → o ≡ Ended
moved_ended line c d (Went e) h = absurd h
moved_ended line c d Blocked h = absurd h
moved_ended line c d (Failed i) h = absurd h
moved_ended line c d Ended h = refl
moved_ended line c d Refused h = absurd h

moved_failed : (line : ℕ) (c d : Config) (id : AssertId) (o : Outcome) → IsMoved line c o (moves.Failed id) d → (o ≡ Failed id.number) × (id.line ≡ line)
moved_failed line c d id (Went e) h = absurd h
moved_failed line c d id Blocked h = absurd h
moved_failed line c d id (Failed i) h = (ap Failed (sym h.0), h.1)
moved_failed line c d id Ended h = absurd h
moved_failed line c d id Refused h = absurd h

ends : (t : TypedProgram) (c : Config) (left : List ℤ) (choice : Option ℤ) (rest : List ℤ) (o : Outcome) → IsNext (need t c) left choice rest → NextFits t c → step t c choice ≡ o → StepEnds t c left o rest
ends t c left choice rest o next fit e = record { choice = choice; first = first_is (need t c) left choice rest next; fit = fit; ends = e }

pub step_went : (t : TypedProgram) (c d : Config) (left : List ℤ) (choice : Option ℤ) (rest : List ℤ) (line : ℕ) → IsNext (need t c) left choice rest → NextFits t c → IsMoved line c (step t c choice) moves.Went d → StepEnds t c left (Went d) rest
step_went t c d left choice rest line next fit h = ends t c left choice rest (Went d) next fit (moved_went line c d (step t c choice) h)

pub step_blocked : (t : TypedProgram) (c d : Config) (left : List ℤ) (choice : Option ℤ) (rest : List ℤ) (line : ℕ) → IsNext (need t c) left choice rest → NextFits t c → IsMoved line c (step t c choice) moves.Blocked d → IsBlocked t c left
step_blocked t c d left choice rest line next fit h = record { rest = rest; blocks = ends t c left choice rest Blocked next fit (moved_blocked line c d (step t c choice) h) }

pub step_ended : (t : TypedProgram) (c d : Config) (left : List ℤ) (choice : Option ℤ) (rest : List ℤ) (line : ℕ) → IsNext (need t c) left choice rest → NextFits t c → IsMoved line c (step t c choice) moves.Ended d → HasEnded t c left
step_ended t c d left choice rest line next fit h = record { rest = rest; ends = ends t c left choice rest Ended next fit (moved_ended line c d (step t c choice) h) }

-- by what `is_empty` says of the choices behind
no_numbers : (choices : List Choice) → true ≡ nat_eq (length choices) 0 → numbers choices ≡ []
no_numbers choices h = ap numbers (nil_from_length choices (eqb-true (length choices) 0 (sym h)))

some_numbers : (choices : List Choice) → false ≡ nat_eq (length choices) 0 → numbers choices ≢ []
some_numbers choices h e = eqb-false (length choices) 0 (sym h) (sym (length-map choices (λ (x : Choice). x.0)) ∙ ap length e)

pub step_failed : (t : TypedProgram) (c d : Config) (left : List ℤ) (choice : Option ℤ) (rest : List Choice) (line : ℕ) (id : AssertId) → IsNext (need t c) left choice (numbers rest) → NextFits t c → IsMoved line c (step t c choice) (moves.Failed id) d → true ≡ nat_eq (length rest) 0 → StepEnds t c left (Failed id.number) [] × (id.line ≡ line)
step_failed t c d left choice rest line id next fit h none =
    let failed = moved_failed line c d id (step t c choice) h in
    (subst (λ zs. StepEnds t c left (Failed id.number) zs) (no_numbers rest none) (ends t c left choice (numbers rest) (Failed id.number) next fit failed.0), failed.1)

pub step_failed_early : (t : TypedProgram) (c d : Config) (left : List ℤ) (choice : Option ℤ) (rest : List Choice) (line : ℕ) (id : AssertId) → IsNext (need t c) left choice (numbers rest) → NextFits t c → IsMoved line c (step t c choice) (moves.Failed id) d → false ≡ nat_eq (length rest) 0 → (i : ℕ) × (numbers rest ≢ []) × StepEnds t c left (Failed i) (numbers rest)
step_failed_early t c d left choice rest line id next fit h some =
    let failed = moved_failed line c d id (step t c choice) h in
    (id.number, some_numbers rest some, ends t c left choice (numbers rest) (Failed id.number) next fit failed.0)

-- Why none was made

missing : (n : Need) (choice : Option ℤ) → is_missing n choice ≡ true → (is_taken n None ≡ false) × (choice ≡ None)
missing Nothing None h = absurd (false≢true h)
missing Nothing (Some z) h = absurd (false≢true h)
missing Whole None h = (refl, refl)
missing Whole (Some z) h = absurd (false≢true h)
missing Truth None h = (refl, refl)
missing Truth (Some z) h = absurd (false≢true h)
missing (Below m) None h = (refl, refl)
missing (Below m) (Some z) h = absurd (false≢true h)

pub choice_missing : (t : TypedProgram) (c : Config) (left : List ℤ) (choice : Option ℤ) (rest : List ℤ) → IsNext (need t c) left choice rest → is_missing (need t c) choice ≡ true → NeedsChoice t c × (left ≡ [])
choice_missing t c left choice rest next h =
    let facts = missing (need t c) choice h in
    (facts.0, none_left (need t c) left facts.0 (sym next.choice_is ∙ facts.1))

refused : (n : Need) (choice : Option ℤ) → is_refused n choice ≡ true → (z : ℤ) × (choice ≡ Some z) × (is_taken n (Some z) ≡ false)
refused n None h = absurd (false≢true h)
refused n (Some z) h = (z, refl, not-true (is_taken n (Some z)) h)

pub choice_refused : (t : TypedProgram) (c : Config) (left : List ℤ) (choice : Option ℤ) (rest : List ℤ) → IsNext (need t c) left choice rest → is_refused (need t c) choice ≡ true → HasBadChoice t c left
choice_refused t c left choice rest next h =
    let facts = refused (need t c) choice h in
    record {
      choice = facts.0;
      rest = rest;
      first = first_is (need t c) left choice rest next ∙ ap (λ x. option_to_list x ++ rest) facts.1;
      needed = some_needed (need t c) left facts.0 (sym next.choice_is ∙ facts.1);
      bad = facts.2;
    }

pub value_past : (t : TypedProgram) (c : Config) (left : List ℤ) (choice : Option ℤ) (rest : List ℤ) → IsNext (need t c) left choice rest → is_taken (need t c) choice ≡ true → (NextFits t c → ⊥) → ReadsPast t c left
value_past t c left choice rest next taken past = record { choice = choice; rest = rest; first = first_is (need t c) left choice rest next; taken = taken; past = past }
