-- A failure has one story: its choices determine the steps of its run.
use Rattle.std.proofs.Common.{◌≡◌, ◌≢◌, ℕ, ℤ, Bool, true, List, [], ◌∷◌, ◌++◌, Option, None, Some, refl, ap, sym, ◌∙◌}
use Rattle.std.specs.Prelude.{codes}
use Rattle.std.specs.List.{concat}
use Rattle.std.specs.Fmt.{decimal}
use Rattle.std.specs.Option.{option_to_list}
use Rattle.boogie_tree.specs.Tree.{Declaration}
use Rattle.typed_tree.specs.TypedTree.{TypedProgram}
use Rattle.boogie_run.specs.declared.types.AssertId.{AssertId}
use Rattle.boogie_run.specs.Configurations.{Config}
use Rattle.boogie_run.specs.Needs.{need, is_taken}
use Rattle.boogie_run.specs.Steps.{Went, Failed, Refused, start, step}
use Rattle.boogie_run.specs.StepView.{line_at}
use Rattle.boogie_run.specs.Runs.{run}
use Rattle.trace_replay.specs.Replays.{choices_among}
use Rattle.trace_replay.proofs.ReplayRuns.{same_choice, step_takes, run_first, refused_no_went}
use Rattle.trace_replay.proofs.ReplayLaws.{one_assertion_replays}
use Rattle.explain_top.specs.RunStory.Texts.{shortened}
use Rattle.explain_top.specs.RunStory.Story.{step_lines, IsStory}

same_went : (c d : Config) → Went c ≡ Went d → c ≡ d
same_went c d e = cc

refused_no_failed : (i : ℕ) → Refused ≢ Failed i
refused_no_failed i e = let no : ⊥ = cc in no

went_no_failed : (c : Config) (i : ℕ) → Went c ≡ Failed i → ⊥
went_no_failed c i e = let no : ⊥ = cc in no

takes_first : (x : Option ℤ) (xs : List (Option ℤ)) → choices_among (x ∷ xs) ≡ option_to_list x ++ choices_among xs
takes_first None xs = refl
takes_first (Some z) xs = refl

module _ (t : TypedProgram) where
  -- of one list of choices two steps from one configuration take the same
  one_choice : (b : Config) (x y : Option ℤ) (xs ys : List (Option ℤ)) → is_taken (need t b) x ≡ true → is_taken (need t b) y ≡ true →
      choices_among (x ∷ xs) ≡ choices_among (y ∷ ys) → (x ≡ y) × (choices_among xs ≡ choices_among ys)
  one_choice b x y xs ys h k e = same_choice (need t b) x y (choices_among xs) (choices_among ys) h k (sym (takes_first x xs) ∙ e ∙ takes_first y ys)

  fails_here : (b c : Config) (x : Option ℤ) (i : ℕ) → b ≡ c → step t c x ≡ Failed i → step t b x ≡ Failed i
  fails_here b c x i same fails = ap (λ k. step t k x) same ∙ fails

  fails_takes : (b : Config) (x : Option ℤ) (i : ℕ) → step t b x ≡ Failed i → is_taken (need t b) x ≡ true
  fails_takes b x i fails = step_takes t b x (Failed i) fails (refused_no_failed i)

  goes_takes : (b d : Config) (x : Option ℤ) → step t b x ≡ Went d → is_taken (need t b) x ≡ true
  goes_takes b d x goes = step_takes t b x (Went d) goes (refused_no_went d)

  -- two runs that fail with one list of choices take the same steps, and come to one place
  pub same_steps : (b c d : Config) (xs ys : List (Option ℤ)) (x y : Option ℤ) (i j : ℕ) → run t b xs ≡ Went c → step t c x ≡ Failed i → run t b ys ≡ Went d → step t d y ≡ Failed j →
      choices_among (xs ++ x ∷ []) ≡ choices_among (ys ++ y ∷ []) → (xs ++ x ∷ [] ≡ ys ++ y ∷ []) × (c ≡ d)
  same_steps b c d [] [] x y i j p f q g e =
      let here = same_went b c p in
      let there = same_went b d q in
      let first = one_choice b x y [] [] (fails_takes b x i (fails_here b c x i here f)) (fails_takes b y j (fails_here b d y j there g)) e in
      (ap (λ (z : Option ℤ). z ∷ []) first.0, sym here ∙ there)
  same_steps b c d [] (v ∷ ys) x y i j p f q g e =
      let fails = fails_here b c x i (same_went b c p) f in
      let two = run_first t b d v ys q in
      let first = one_choice b x v [] (ys ++ y ∷ []) (fails_takes b x i fails) (goes_takes b two.0 v two.1) e in
      absurd (went_no_failed two.0 i (sym two.1 ∙ ap (step t b) (sym first.0) ∙ fails))
  same_steps b c d (u ∷ xs) [] x y i j p f q g e =
      let fails = fails_here b d y j (same_went b d q) g in
      let one = run_first t b c u xs p in
      let first = one_choice b u y (xs ++ x ∷ []) [] (goes_takes b one.0 u one.1) (fails_takes b y j fails) e in
      absurd (went_no_failed one.0 j (sym one.1 ∙ ap (step t b) first.0 ∙ fails))
  same_steps b c d (u ∷ xs) (v ∷ ys) x y i j p f q g e =
      let one = run_first t b c u xs p in
      let two = run_first t b d v ys q in
      let first = one_choice b u v (xs ++ x ∷ []) (ys ++ y ∷ []) (goes_takes b one.0 u one.1) (goes_takes b two.0 v two.1) e in
      let same : one.0 ≡ two.0 = same_went one.0 two.0 (sym one.1 ∙ ap (step t b) first.0 ∙ two.1) in
      let rest = same_steps one.0 c d xs ys x y i j one.2 f (ap (λ k. run t k ys) same ∙ two.2) g first.1 in
      ((λ k. first.0 k ∷ rest.0 k), rest.1)

  pub one_story : (ds : List Declaration) (all : Bool) (n : ℕ) (choices : List ℤ) (a b : AssertId) (v w : List ℕ) → IsStory t ds all n choices a v → IsStory t ds all n choices b w → v ≡ w
  one_story ds all n choices a b v w p q =
      let same = same_steps (start t) p.run.before q.run.before p.run.taken q.run.taken p.run.last q.run.last a.number b.number
      p.run.leads p.run.fails q.run.leads q.run.fails (p.run.all_used ∙ sym q.run.all_used) in
      let numbers : a.number ≡ b.number = one_assertion_replays t n choices a.number b.number p.run q.run in
      let lines : a.line ≡ b.line = p.line ∙ ap (line_at t) same.1 ∙ sym q.line in
      p.is
      ∙ (λ i. concat (shortened all (step_lines t ds (start t) (same.0 i))) ++ (codes "assertion " ++ (decimal (numbers i) ++ (codes " line " ++ (decimal (lines i) ++ codes " fails\n")))))
      ∙ sym q.is
