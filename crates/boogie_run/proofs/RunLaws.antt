-- Runs cut at a position.
use Rattle.std.proofs.Common.{◌≡◌, ◌∙◌, ap, ℕ, ℤ, List, [], ◌∷◌, ◌++◌, Option, refl}
use Rattle.typed_tree.specs.TypedTree.{TypedProgram}
use Rattle.boogie_run.specs.Configurations.{Config}
use Rattle.boogie_run.specs.Steps.{Outcome, Went, Blocked, Failed, Ended, Refused, step}
use Rattle.boogie_run.specs.Runs.{then_goes_on, run}

-- what goes on in two pieces
in_pieces : (o : Outcome) (whole front rest : Config → Outcome) → ((c : Config) → whole c ≡ then_goes_on (front c) rest) →
    then_goes_on o whole ≡ then_goes_on (then_goes_on o front) rest
in_pieces (Went c) whole front rest h = h c
in_pieces Blocked whole front rest h = refl
in_pieces (Failed i) whole front rest h = refl
in_pieces Ended whole front rest h = refl
in_pieces Refused whole front rest h = refl

-- a run of choices, and then of others
pub run_cut : (t : TypedProgram) (c : Config) (xs ys : List (Option ℤ)) → run t c (xs ++ ys) ≡ then_goes_on (run t c xs) (λ d. run t d ys)
run_cut t c [] ys = refl
run_cut t c (x ∷ xs) ys = in_pieces (step t c x) (λ d. run t d (xs ++ ys)) (λ d. run t d xs) (λ d. run t d ys) (λ d. run_cut t d xs ys)

-- a failed run goes on nowhere
pub still_failed : (t : TypedProgram) (c : Config) (xs ys : List (Option ℤ)) (i : ℕ) → run t c xs ≡ Failed i → run t c (xs ++ ys) ≡ Failed i
still_failed t c xs ys i h = run_cut t c xs ys ∙ ap (λ (o : Outcome). then_goes_on o (λ d. run t d ys)) h
