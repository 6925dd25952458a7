-- Changes of the frame that runs, and the ways on from it.
use Rattle.std.proofs.Common.{◌≡◌, ◌<◌, ℕ, zero, suc, ◌+◌, ℤ, pos, negsuc, true, false, to_z, of_z, FitsSigned, refl, subst, List, [], ◌∷◌, ◌++◌, length, slice_get, slice_index_or, slice_set, ap, sym, ◌∙◌, arith}
use Rattle.std.specs.Int.{w128}
use Rattle.std.proofs.lemmas.Int.{to_z-of_z}
use Rattle.std.proofs.lemmas.Bool.Decides.{nat_tests}
use Rattle.boogie_run.specs.declared.configurations.RunFrame.{RunFrame}
use Rattle.typed_tree.specs.TypedTree.{TypedProgram}
use Rattle.boogie_run.specs.BoogiePoints.Actions.{Action}
use Rattle.boogie_run.specs.BoogiePoints.Starts.{point_of_call}
use Rattle.boogie_run.specs.BoogiePoints.Told.{Told, told, ways_of}
use Rattle.boogie_run.specs.Configurations.{Frame, Config}
use Rattle.boogie_run.specs.Steps.{entered, is_true}
use Rattle.boogie_run.specs.RunView.{frame_of, frames_of, config_with}
use Rattle.boogie_run.specs.ToldActs.{told_ways}
use Rattle.boogie_run.proofs.FrameLemmas.{globals_are, top_is, with_top, pushed}
use Rattle.boogie_run.proofs.ToldLemmas.{ways_told}

-- the frame that runs is changed so
pub changed_top : (gs : List ℤ) (fs : List RunFrame) (n : ℕ) (f g : RunFrame) (change : Frame → Frame) → length fs ≡ n + 1 → f ≡ slice_index_or fs n f →
    frame_of g ≡ change (frame_of f) →
    config_with gs (frames_of (slice_set fs n g)) ≡ record (config_with gs (frames_of fs)) { top = change (config_with gs (frames_of fs)).top }
changed_top gs fs n f g change h at e =
    with_top gs fs n g h ∙ ap (λ (x : Frame). record (config_with gs (frames_of fs)) { top = x }) (e ∙ ap change (sym (top_is gs fs n f h at)))

-- an action that tells this has a way
pub has_way : (a : Action) (b : Told) → told a ≡ b → 0 < told_ways b → 0 < length (ways_of a)
has_way a b e h = omega (arith, h, ways_told a, ap told_ways e)

-- with the frame of a called procedure
pub entered_on : (t : TypedProgram) (gs : List ℤ) (fs new : List RunFrame) (f : RunFrame) (callee : ℕ) (args : List ℤ) → 0 < length fs → new ≡ fs ++ f ∷ [] →
    frame_of f ≡ record { proc = callee; locals = args; entry = gs; point = point_of_call t callee (slice_get t.procs callee); kept = [] } →
    config_with gs (frames_of new) ≡ entered t (config_with gs (frames_of fs)) callee args
entered_on t gs fs new f callee args h e g =
    let c : Config = config_with gs (frames_of fs) in
    ap (λ (xs : List RunFrame). config_with gs (frames_of xs)) e ∙ pushed gs fs f h
    ∙ ap (λ (x : Frame). let d : Config = record { globals = gs; top = x; below = c.top ∷ c.below } in d) g
    ∙ ap (λ (zs : List ℤ). let d : Config = record { globals = zs; top = record { proc = callee; locals = args; entry = zs; point = point_of_call t callee (slice_get t.procs callee); kept = [] }; below = c.top ∷ c.below } in d)
    (sym (globals_are gs (frames_of fs)))

-- whether a condition's value, as the code has it, is true
true_of : (v : ℤ) → (of_z w128 v ≡ 0 → ⊥) → is_true v ≡ true
true_of (pos zero) h = absurd (h refl)
true_of (pos (suc n)) h = grind (arith, nat_tests)
true_of (negsuc n) h = grind (arith, nat_tests)

pub now_true : (z v : ℤ) → v ≡ z → (of_z w128 v ≡ 0 → ⊥) → is_true z ≡ true
now_true z v e h = subst (λ (x : ℤ). is_true x ≡ true) e (true_of v h)

pub not_true : (z v : ℤ) → v ≡ z → of_z w128 v ≡ 0 → FitsSigned w128 v → is_true z ≡ false
not_true z v e h f = let zero_is : z ≡ pos 0 = sym e ∙ sym (to_z-of_z w128 v f) ∙ ap (to_z w128) h in rw zero_is refl
