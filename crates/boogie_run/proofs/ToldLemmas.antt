-- What an action makes is what it tells that it makes.
use Rattle.std.proofs.Common.{◌≡◌, ℕ, ℤ, true, false, [], ◌∷◌, length, slice_get, refl, if◌then◌else◌}
use Rattle.typed_tree.specs.TypedTree.{TypedProgram}
use Rattle.typed_tree.specs.Values.{value}
use Rattle.boogie_run.specs.BoogiePoints.Actions.{Action, Check, Suppose, Demand, Write, Guess, Test, Pick, Jump, Enter, Keep, Grant, Finish, Leave}
use Rattle.boogie_run.specs.BoogiePoints.Told.{told, ways_of}
use Rattle.boogie_run.specs.Configurations.{Config, state_of}
use Rattle.boogie_run.specs.Needs.{need_of_action}
use Rattle.boogie_run.specs.Steps.{Outcome, Went, moved_to, act, is_true, went_if}
use Rattle.boogie_run.specs.Fitting.{ActionFits}
use Rattle.boogie_run.specs.ToldActs.{told_need, told_act, told_ways, ToldFits}

pub act_told : (t : TypedProgram) (c : Config) (v : ℤ) (a : Action) → act t c v a ≡ told_act t c v (told a) (ways_of a)
act_told t c v (Check id at e next) = refl
act_told t c v (Suppose e next) = refl
act_told t c v (Demand id at e args next) = refl
act_told t c v (Write cs es next) = refl
act_told t c v (Guess x next) = refl
act_told t c v (Test e hit miss) = elim (is_true (value (state_of c) e)) as (λ b. ◌≡◌ {A = Outcome} (Went (moved_to c (if b then hit else miss))) (went_if (slice_get (hit ∷ miss ∷ []) (if b then 0 else 1)) c)) [ true ↦ refl | false ↦ refl ]
act_told t c v (Pick ways) = refl
act_told t c v (Jump next) = refl
act_told t c v (Enter f args) = refl
act_told t c v (Keep f args x next) = refl
act_told t c v (Grant f args e next) = refl
act_told t c v (Finish f args targets next) = refl
act_told t c v Leave = refl

pub need_told : (t : TypedProgram) (n : ℕ) (a : Action) → need_of_action t n a ≡ told_need t n (told a)
need_told t n (Check id at e next) = refl
need_told t n (Suppose e next) = refl
need_told t n (Demand id at e args next) = refl
need_told t n (Write cs es next) = refl
need_told t n (Guess x next) = refl
need_told t n (Test e hit miss) = refl
need_told t n (Pick ways) = refl
need_told t n (Jump next) = refl
need_told t n (Enter f args) = refl
need_told t n (Keep f args x next) = refl
need_told t n (Grant f args e next) = refl
need_told t n (Finish f args targets next) = refl
need_told t n Leave = refl

pub ways_told : (a : Action) → length (ways_of a) ≡ told_ways (told a)
ways_told (Check id at e next) = refl
ways_told (Suppose e next) = refl
ways_told (Demand id at e args next) = refl
ways_told (Write cs es next) = refl
ways_told (Guess x next) = refl
ways_told (Test e hit miss) = refl
ways_told (Pick ways) = refl
ways_told (Jump next) = refl
ways_told (Enter f args) = refl
ways_told (Keep f args x next) = refl
ways_told (Grant f args e next) = refl
ways_told (Finish f args targets next) = refl
ways_told Leave = refl

pub fits_told : (t : TypedProgram) (c : Config) (a : Action) → ActionFits t c a ≡ ToldFits t c (told a)
fits_told t c (Check id at e next) = refl
fits_told t c (Suppose e next) = refl
fits_told t c (Demand id at e args next) = refl
fits_told t c (Write cs es next) = refl
fits_told t c (Guess x next) = refl
fits_told t c (Test e hit miss) = refl
fits_told t c (Pick ways) = refl
fits_told t c (Jump next) = refl
fits_told t c (Enter f args) = refl
fits_told t c (Keep f args x next) = refl
fits_told t c (Grant f args e next) = refl
fits_told t c (Finish f args targets next) = refl
fits_told t c Leave = refl
