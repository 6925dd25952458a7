-- A run that fails, and another that takes its choices: it fails so, too, or stops where a value does not fit.
use Rattle.std.proofs.Common.{◌≡◌, ◌≢◌, ℕ, ◌+◌, ℤ, false, true, ◌⊎◌, inl, inr, List, [], ◌∷◌, ◌++◌, length, Option, None, Some, refl, sym, ap, ◌∙◌, subst, arith, append-nil, length-append}
use Rattle.std.specs.Option.{option_to_list}
use Rattle.std.proofs.lemmas.Bool.{both_ways}
use Rattle.typed_tree.specs.TypedTree.{TypedProgram}
use Rattle.boogie_run.specs.Configurations.{Config}
use Rattle.boogie_run.specs.Needs.{need, is_taken}
use Rattle.boogie_run.specs.Steps.{Outcome, Went, Failed, Refused, start, step}
use Rattle.boogie_run.specs.Steps as outcomes
use Rattle.boogie_run.specs.Fitting.{NextFits}
use Rattle.boogie_run.specs.Runs.{run}
use Rattle.lowered_graph.specs.LoweredChoices.Choices.{FailsAtLast}
use Rattle.trace_replay.specs.declared.causes.ReplayCause.{ReplayCause}
use Rattle.trace_replay.specs.declared.causes.ReplayCause.TheVariants.{Blocked, Ended, Short, Number, BadChoice, Product}
use Rattle.trace_replay.specs.Replays.{choices_among, StepsFit, Replays}
use Rattle.trace_replay.specs.ReplayCauses.{StepEnds, NeedsChoice, HasBadChoice, Stops, StopsAt}
use Rattle.trace_replay.specs.Tried.{TriedFails, TriedPasses, TriedStops}
use Rattle.trace_replay.specs.ToldRuns.{PassesAt, IsTrailOf}
use Rattle.trace_replay.proofs.ReplayRuns.{same_choice, step_takes, refused_no_went, run_first, choices_among-cons}
use Rattle.trace_replay.proofs.ReplayLaws.{choices_among-append, choices_among-one}
use Rattle.trace_replay.proofs.TriedLaws.{tried_fails_replays, otherwise_stops}

-- ---- on the way of the run that fails

among_cons : (x : Option ℤ) (xs : List (Option ℤ)) → choices_among (x ∷ xs) ≡ option_to_list x ++ choices_among xs
among_cons None xs = refl
among_cons (Some z) xs = refl

-- Another run that takes the same choices has come to d, by these steps: the next one is that of the run that fails, where it fails or goes on.
record IsOnWay (t : TypedProgram) (i : ℕ) (all : List (Option ℤ)) (xs : List (Option ℤ)) (d : Config) (left : List ℤ) : Type 0 where
  next : Option ℤ
  rest : List (Option ℤ)
  are : all ≡ xs ++ next ∷ rest
  left_is : left ≡ choices_among (next ∷ rest)
  goes : ((rest ≡ []) × (step t d next ≡ Failed i)) ⊎ ((e : Config) × (step t d next ≡ Went e))

refused_no_failed : (i : ℕ) → Refused ≢ Failed i
refused_no_failed i e = let no : ⊥ = cc in no

same_config : (c d : Config) → Went c ≡ Went d → c ≡ d
same_config c d e = cc

went_no_failed : (c : Config) (i : ℕ) (o : Outcome) → o ≡ Went c → o ≡ Failed i → ⊥
went_no_failed c i o p q = let e : Went c ≡ Failed i = sym p ∙ q in cc

on_way : (t : TypedProgram) (i : ℕ) (c d e : Config) (xs ys : List (Option ℤ)) (y : Option ℤ) (left : List ℤ) → run t c xs ≡ Went d → run t c ys ≡ Went e → step t e y ≡ Failed i →
    choices_among xs ++ left ≡ choices_among (ys ++ y ∷ []) → IsOnWay t i (ys ++ y ∷ []) xs d left
on_way t i c d e [] [] y left p q f u =
    let here : d ≡ e = sym (same_config c d p) ∙ same_config c e q in
    record { next = y; rest = []; are = refl; left_is = u; goes = inl (refl, ap (λ (k : Config). step t k y) here ∙ f) }
on_way t i c d e [] (z ∷ ys) y left p q f u =
    let here : d ≡ c = sym (same_config c d p) in
    let one = run_first t c e z ys q in
    record { next = z; rest = ys ++ y ∷ []; are = refl; left_is = u; goes = inr (one.0, ap (λ (k : Config). step t k z) here ∙ one.1) }
on_way t i c d e (x ∷ xs) [] y left p q f u =
    let here : c ≡ e = same_config c e q in
    let one = run_first t c d x xs p in
    let fails : step t c y ≡ Failed i = ap (λ (k : Config). step t k y) here ∙ f in
    let same = same_choice (need t c) x y (choices_among xs ++ left) [] (step_takes t c x (Went one.0) one.1 (refused_no_went one.0)) (step_takes t c y (Failed i) fails (refused_no_failed i))
    (sym (choices_among-cons x xs left) ∙ u ∙ among_cons y []) in
    absurd (went_no_failed one.0 i (step t c x) one.1 (ap (step t c) same.0 ∙ fails))
on_way t i c d e (x ∷ xs) (z ∷ ys) y left p q f u =
    let one = run_first t c d x xs p in
    let two = run_first t c e z ys q in
    let same = same_choice (need t c) x z (choices_among xs ++ left) (choices_among (ys ++ y ∷ [])) (step_takes t c x (Went one.0) one.1 (refused_no_went one.0))
    (step_takes t c z (Went two.0) two.1 (refused_no_went two.0)) (sym (choices_among-cons x xs left) ∙ u ∙ among_cons z (ys ++ y ∷ [])) in
    let at : two.0 ≡ one.0 = same_config two.0 one.0 (sym two.1 ∙ ap (step t c) (sym same.0) ∙ one.1) in
    let more : IsOnWay t i (ys ++ y ∷ []) xs d left = on_way t i one.0 d e xs ys y left one.2 (ap (λ (k : Config). run t k ys) (sym at) ∙ two.2) f same.1 in
    record { next = more.next; rest = more.rest; are = (λ j. sym same.0 j ∷ more.are j); left_is = more.left_is; goes = more.goes }

next_taken : (t : TypedProgram) (i : ℕ) (all xs : List (Option ℤ)) (d : Config) (left : List ℤ) → (w : IsOnWay t i all xs d left) → is_taken (need t d) w.next ≡ true
next_taken t i all xs d left w = elim w.goes [
  | inl h ↦ step_takes t d w.next (Failed i) h.1 (refused_no_failed i)
  | inr h ↦ step_takes t d w.next (Went h.0) h.1 (refused_no_went h.0)
]

-- a step that takes the next choice is the next one
next_same : (t : TypedProgram) (i : ℕ) (all xs : List (Option ℤ)) (d : Config) (left rest : List ℤ) (x : Option ℤ) → (w : IsOnWay t i all xs d left) → is_taken (need t d) x ≡ true → left ≡ option_to_list x ++ rest →
    (x ≡ w.next) × (rest ≡ choices_among w.rest)
next_same t i all xs d left rest x w taken first =
    same_choice (need t d) x w.next rest (choices_among w.rest) taken (next_taken t i all xs d left w) (sym first ∙ w.left_is ∙ among_cons w.next w.rest)

-- so a step ends as that of the run that fails
next_ends : (t : TypedProgram) (i : ℕ) (all xs : List (Option ℤ)) (d : Config) (left rest : List ℤ) (o : Outcome) → IsOnWay t i all xs d left → StepEnds t d left o rest → (Refused ≢ o) →
    ((rest ≡ []) × (o ≡ Failed i)) ⊎ ((e : Config) × (o ≡ Went e))
next_ends t i all xs d left rest o w h allowed =
    let same = next_same t i all xs d left rest h.choice w (step_takes t d h.choice o h.ends allowed) h.first in
    let so : o ≡ step t d w.next = sym h.ends ∙ ap (step t d) same.0 in
    elim w.goes [
      | inl g ↦ inl (same.1 ∙ ap choices_among g.0, so ∙ g.1)
      | inr g ↦ inr (g.0, so ∙ g.1)
    ]

-- ---- where it stops

none_needed : (t : TypedProgram) (d : Config) (x : Option ℤ) (xs : List (Option ℤ)) → NeedsChoice t d → is_taken (need t d) x ≡ true → [] ≡ choices_among (x ∷ xs) → ⊥
none_needed t d None xs needed taken e = both_ways (is_taken (need t d) None) needed taken
none_needed t d (Some z) xs needed taken e = let no : ⊥ = cc in no

no_bad : (t : TypedProgram) (d : Config) (x : Option ℤ) (xs : List (Option ℤ)) (left : List ℤ) → HasBadChoice t d left → is_taken (need t d) x ≡ true → left ≡ choices_among (x ∷ xs) → ⊥
no_bad t d None xs left h taken e = both_ways (is_taken (need t d) None) h.needed taken
no_bad t d (Some z) xs left h taken e =
    let all : h.choice ∷ h.rest ≡ z ∷ choices_among xs = sym h.first ∙ e in
    let same : h.choice ≡ z = cc in
    both_ways (is_taken (need t d) (Some z)) (subst (λ (y : ℤ). is_taken (need t d) (Some y) ≡ false) same h.bad) taken

blocked_not : (i : ℕ) (o : Outcome) → ((o ≡ Failed i) → ⊥) → ((e : Config) → o ≡ Went e → ⊥) → (rest : List ℤ) → ((rest ≡ []) × (o ≡ Failed i)) ⊎ ((e : Config) × (o ≡ Went e)) → ⊥
blocked_not i o no_fail no_went rest (inl h) = no_fail h.1
blocked_not i o no_fail no_went rest (inr h) = no_went h.0 h.1

only_number : (t : TypedProgram) (i : ℕ) (all xs : List (Option ℤ)) (d : Config) (left : List ℤ) (cause : ReplayCause) → IsOnWay t i all xs d left → Stops t d left cause → (cause ≡ Number) × (NextFits t d → ⊥)
only_number t i all xs d left Blocked w s =
    absurd (blocked_not i outcomes.Blocked (λ e. cc) (λ d e. cc) s.rest (next_ends t i all xs d left s.rest outcomes.Blocked w s.blocks (λ e. cc)))
only_number t i all xs d left Ended w s =
    absurd (blocked_not i outcomes.Ended (λ e. cc) (λ d e. cc) s.rest (next_ends t i all xs d left s.rest outcomes.Ended w s.ends (λ e. cc)))
only_number t i all xs d left Short w s = absurd (none_needed t d w.next w.rest s.0 (next_taken t i all xs d left w) (sym s.1 ∙ w.left_is))
only_number t i all xs d left Number w s = (refl, s.past)
only_number t i all xs d left Product w s = absurd s
only_number t i all xs d left BadChoice w s = absurd (elim s [
  | inl h ↦ no_bad t d w.next w.rest left h (next_taken t i all xs d left w) w.left_is
  | inr h ↦ elim (next_ends t i all xs d left h.rest (Failed h.assertion) w h.fails (refused_no_failed h.assertion)) [
    | inl g ↦ h.some g.0
    | inr g ↦ went_no_failed g.0 h.assertion (Failed h.assertion) g.1 refl
  ]
])

-- The replay of the choices of a run that fails with its last step stops only where a value does not fit.
pub told_stop : (t : TypedProgram) (i : ℕ) (all : List (Option ℤ)) (k : ℕ) (cause : ReplayCause) → FailsAtLast t all i → StopsAt t (length all) (choices_among all) k cause → (cause ≡ Number) × PassesAt t all k
told_stop t i all k cause f (inl s) =
    let w : IsOnWay t i (f.before ++ f.last ∷ []) s.comes.taken s.here s.left =
    on_way t i (start t) s.here f.here s.comes.taken f.before f.last s.left s.comes.leads f.leads f.fails (s.comes.used ∙ ap choices_among f.are) in
    let only = only_number t i (f.before ++ f.last ∷ []) s.comes.taken s.here s.left cause w s.stops in (
      only.0,
      record {
        before = s.comes.taken;
        next = w.next;
        rest = w.rest;
        are = f.are ∙ w.are;
        number = s.number ∙ ap (λ (m : ℕ). m + 1) (sym s.comes.many);
        here = s.here;
        leads = s.comes.leads;
        fit = s.comes.fit;
        past = only.1;
      },
    )
told_stop t i all k cause f (inr s) =
    let o = s.2 in
    let w : IsOnWay t i (f.before ++ f.last ∷ []) o.comes.taken o.here o.left =
    on_way t i (start t) o.here f.here o.comes.taken f.before f.last o.left o.comes.leads f.leads f.fails (o.comes.used ∙ ap choices_among f.are) in
    let long : length all ≡ length o.comes.taken + length (w.next ∷ w.rest) = ap length (f.are ∙ w.are) ∙ length-append o.comes.taken (w.next ∷ w.rest) in
    absurd (omega (arith, long, o.comes.many))

-- ---- where it replays

failed_is : (i j : ℕ) → Failed j ≡ Failed i → j ≡ i
failed_is i j e = cc

-- And where it replays, it does so for the assertion that the run fails, and each value of the run fits.
pub told_replay : (t : TypedProgram) (i j n : ℕ) (all : List (Option ℤ)) → FailsAtLast t all i → Replays t n (choices_among all) j → (j ≡ i) × StepsFit t (start t) all
told_replay t i j n all f r =
    let left : List ℤ = option_to_list r.last in
    let used : choices_among r.taken ++ left ≡ choices_among (f.before ++ f.last ∷ []) =
    ap (λ (zs : List ℤ). choices_among r.taken ++ zs) (sym (choices_among-one r.last)) ∙ sym (choices_among-append r.taken (r.last ∷ [])) ∙ r.all_used ∙ ap choices_among f.are in
    let w : IsOnWay t i (f.before ++ f.last ∷ []) r.taken r.before left = on_way t i (start t) r.before f.here r.taken f.before f.last left r.leads f.leads f.fails used in
    let same = next_same t i (f.before ++ f.last ∷ []) r.taken r.before left [] r.last w (step_takes t r.before r.last (Failed j) r.fails (refused_no_failed j)) (sym (append-nil left)) in
    let so : Failed j ≡ step t r.before w.next = sym r.fails ∙ ap (step t r.before) same.0 in
    elim w.goes [
      | inl g ↦ (
          let whole : r.taken ++ r.last ∷ [] ≡ all = (λ k. r.taken ++ same.0 k ∷ sym g.0 k) ∙ sym w.are ∙ sym f.are in
          (failed_is i j (so ∙ g.1), subst (StepsFit t (start t)) whole r.fit)
          )
      | inr g ↦ absurd (went_no_failed g.0 j (Failed j) (so ∙ g.1) refl)
    ]

-- ---- how Tried ends with these choices

-- Where it fails an assertion, it is the run: it has made all steps of it and used all choices.
pub told_trail : (t : TypedProgram) (i j steps : ℕ) (all : List (Option ℤ)) (used : List ℤ) → FailsAtLast t all i → TriedFails t (length all) (choices_among all) steps used j → IsTrailOf t all steps used i
told_trail t i j steps all used f s =
    let w : IsOnWay t i (f.before ++ f.last ∷ []) s.comes.taken s.here s.left =
    on_way t i (start t) s.here f.here s.comes.taken f.before f.last s.left s.comes.leads f.leads f.fails (s.comes.used ∙ ap choices_among f.are) in
    let same = next_same t i (f.before ++ f.last ∷ []) s.comes.taken s.here s.left s.rest s.fails.choice w
    (step_takes t s.here s.fails.choice (Failed j) s.fails.ends (refused_no_failed j)) s.fails.first in
    let so : Failed j ≡ step t s.here w.next = sym s.fails.ends ∙ ap (step t s.here) same.0 in
    elim w.goes [
      | inl g ↦
          let none : s.rest ≡ [] = same.1 ∙ ap choices_among g.0 in
          let all_used : used ≡ choices_among all = sym (append-nil used) ∙ ap (λ (zs : List ℤ). used ++ zs) (sym none) ∙ sym s.used_is in
          let many : length all ≡ length s.comes.taken + length (w.next ∷ w.rest) = ap length (f.are ∙ w.are) ∙ length-append s.comes.taken (w.next ∷ w.rest) in
          let last : length w.rest ≡ 0 = ap length g.0 in
          let replays : Replays t steps used j = tried_fails_replays t (length all) (choices_among all) steps used j s in
          let told = told_replay t i j steps all f (subst (λ (zs : List ℤ). Replays t steps zs j) all_used replays) in
          record {
            many = omega (arith, many, last, s.comes.many, s.number);
            used = all_used;
            fails = f;
            fit = told.1;
            replays = subst (Replays t steps used) told.0 replays;
          }
      | inr g ↦ absurd (went_no_failed g.0 j (Failed j) (so ∙ g.1) refl)
    ]

-- Where it meets a value that does not fit, the run does, in that step.
pub told_passes : (t : TypedProgram) (i k : ℕ) (all : List (Option ℤ)) → FailsAtLast t all i → TriedPasses t (length all) (choices_among all) k → PassesAt t all k
told_passes t i k all f s = (told_stop t i all k Number f (inl s)).1

-- It does not end otherwise.
pub told_stops : (t : TypedProgram) (i k : ℕ) (all : List (Option ℤ)) → FailsAtLast t all i → TriedStops t (length all) (choices_among all) k → ⊥
told_stops t i k all f (inl s) =
    let o = otherwise_stops t s.here s.left s.ends in
    o.1 (told_stop t i all k o.0 f (inl (record { made = s.made; number = s.number; in_time = s.in_time; here = s.here; left = s.left; comes = s.comes; stops = o.2 }))).0
told_stops t i k all f (inr s) = let e = (told_stop t i all k Short f (inr (refl, s.0, s.1))).0 in let no : ⊥ = cc in no
