-- The explanation of a failure: there is one, it follows a replay, and with status 0 the program fails.
use Rattle.std.proofs.Common.{◌≡◌, ℕ, ◌≤◌, Bool, List, length, Some, inl, inr, ◌⊎◌, ap, refl, sym, ◌∙◌, subst, arith}
use Rattle.std.proofs.lemmas.Option.{same_Some}
use Rattle.boogie_tree.specs.Tree.{Declaration}
use Rattle.boogie_parse.proofs.Rules.WholeText.{one_program}
use Rattle.typed_tree.specs.TypedTree.{TypedProgram}
use Rattle.boogie_run.specs.declared.types.AssertId.{AssertId}
use Rattle.boogie_run.specs.RunRules.Runs.{Fails}
use Rattle.boogie_run.proofs.RunRules.Safety.{machine_follows_rules}
use Rattle.lowered_graph.specs.Lowered.{lowered}
use Rattle.trace_replay.specs.FailureText.{PlainFailure}
use Rattle.trace_replay.proofs.FailureLaws.{failure_text_injective}
use Rattle.trace_replay.proofs.ReplayFailures.{replays_fails}
use Rattle.explain_top.specs.RunStory.Story.{IsStory}
use Rattle.text_reports.specs.ReportTexts.{Answer, answer, replayed_answer}
use Rattle.text_reports.specs.ReportCases as checks
use Rattle.text_reports.specs.ReportCases.{second_limit, IsTypedText, IsFailureText, ReportsFailure, ReportsReplay, ReportsLowered, unlowered, of_lowered, ReportsSecond}
use Rattle.text_reports.proofs.RefusalLaws.{typed_is_not_zero, lowering_is_not_zero, too_long_is_not_zero}
use Rattle.text_reports.proofs.ReplayedOnce.{failure_once}
use Rattle.text_reports.proofs.TextsOnce.{typed_once, second_or, AreIllTyped}
use Rattle.explain_top.specs.Report.{ExplainsFailure, no_failure, stopped, of_failure, Kind, OfFailure, kind_of, Explains, ReportsExplain}
use Rattle.explain_top.specs.Claims.{TellsReplay, IsUnlowered}
use Rattle.explain_top.proofs.ExplainLaws.{one_is_not_zero}
use Rattle.explain_top.proofs.Statuses.{zero_or_not}
use Rattle.explain_top.proofs.StoryOnce.{one_story}

module _ (program : List ℕ) (all : Bool) (t : TypedProgram) (x : List ℕ) where
  -- what is told replays
  replays : (ds : List Declaration) (f : PlainFailure) (id : AssertId) (story : List ℕ) → IsFailureText x f → IsStory t ds all f.steps f.choices id story →
      ReportsFailure t x (replayed_answer id)
  replays ds f id story h told = checks.replayed f id h (record { replays = told.run; line = told.line }) refl

  -- what is rejected does not
  not_both : (a : Answer) (id : AssertId) → ReportsFailure t x a → a.status ≡ 1 → ReportsFailure t x (replayed_answer id) → ⊥
  not_both a id r one s = one_is_not_zero a one (ap (λ (b : Answer). b.status) (failure_once t x a (replayed_answer id) r s))

  pub failure_explained_once : (a b : Answer) → ExplainsFailure program all t x a → ExplainsFailure program all t x b → a ≡ b
  failure_explained_once a b (no_failure line wrong is) (no_failure other wrong' is') =
      failure_once t x a b (checks.no_failure line wrong is) (checks.no_failure other wrong' is')
  failure_explained_once a b (no_failure line wrong is) (stopped g step cause k s is') =
      failure_once t x a b (checks.no_failure line wrong is) (checks.stopped g step cause k s is')
  failure_explained_once a b (no_failure line wrong is) (of_failure g id ds story k spelled told is') =
      absurd (not_both a id (checks.no_failure line wrong is) (ap (λ (c : Answer). c.status) is) (replays ds g id story k told))
  failure_explained_once a b (stopped f step cause h s is) (no_failure line wrong is') =
      failure_once t x a b (checks.stopped f step cause h s is) (checks.no_failure line wrong is')
  failure_explained_once a b (stopped f step cause h s is) (stopped g other cause' k s' is') =
      failure_once t x a b (checks.stopped f step cause h s is) (checks.stopped g other cause' k s' is')
  failure_explained_once a b (stopped f step cause h s is) (of_failure g id ds story k spelled told is') =
      absurd (not_both a id (checks.stopped f step cause h s is) (ap (λ (c : Answer). c.status) is) (replays ds g id story k told))
  failure_explained_once a b (of_failure f id ds story h spelled told is) (no_failure line wrong is') =
      absurd (not_both b id (checks.no_failure line wrong is') (ap (λ (c : Answer). c.status) is') (replays ds f id story h told))
  failure_explained_once a b (of_failure f id ds story h spelled told is) (stopped g step cause k s is') =
      absurd (not_both b id (checks.stopped g step cause k s is') (ap (λ (c : Answer). c.status) is') (replays ds f id story h told))
  failure_explained_once a b (of_failure f id ds story h spelled told is) (of_failure g jd es other k spelled' told' is') =
      let same : f ≡ g = failure_text_injective f g h.bounds k.bounds (sym h.spelled ∙ k.spelled) in
      let trees : ds ≡ es = one_program program ds es spelled spelled' in
      let of_tree : IsStory t es all f.steps f.choices id story = subst (λ (us : List Declaration). IsStory t us all f.steps f.choices id story) trees told in
      let mine : IsStory t es all g.steps g.choices id story = subst (λ (u : PlainFailure). IsStory t es all u.steps u.choices id story) same of_tree in
      is ∙ ap (λ (bytes : List ℕ). answer bytes 0) (one_story t es all g.steps g.choices id jd story other mine told') ∙ sym is'

  -- with status 0 a run is told, and the program fails
  pub told_fails : (a : Answer) → ExplainsFailure program all t x a → a.status ≡ 0 → (i : ℕ) × Fails t i
  told_fails a (no_failure line wrong is) zero = absurd (one_is_not_zero a (ap (λ (b : Answer). b.status) is) zero)
  told_fails a (stopped f step cause h s is) zero = absurd (one_is_not_zero a (ap (λ (b : Answer). b.status) is) zero)
  told_fails a (of_failure f id ds story h spelled told is) zero = (id.number, (machine_follows_rules t id.number).0 (replays_fails t f.steps f.choices id.number told.run))

  -- a replay of the same failure
  pub follows_failure : (entry : List ℕ) (a b : Answer) → IsTypedText entry program t → ReportsFailure t x a → ExplainsFailure program all t x b →
      TellsReplay entry program x all a b ⊎ (a ≡ b)
  follows_failure entry a b w r (no_failure line wrong is) = inr (failure_once t x a b r (checks.no_failure line wrong is))
  follows_failure entry a b w r (stopped f step cause h s is) = inr (failure_once t x a b r (checks.stopped f step cause h s is))
  follows_failure entry a b w r (of_failure f id ds story h spelled told is) =
      inl (record {
        meant = t;
        tree = ds;
        failure = f;
        assertion = id;
        story = story;
        typed = w;
        spelled = spelled;
        read = h;
        of_run = told;
        is_replayed = failure_once t x a (replayed_answer id) r (replays ds f id story h told);
        is_told = is;
      })

-- ---- a replay of the same texts

module _ (entry program second : List ℕ) (all : Bool) (a b : Answer) (kind : kind_of second ≡ OfFailure) where
  abbrev Tells : Type 0
  Tells = TellsReplay entry program second all a b

  -- what the second name stands for is this text
  of_text : (t : TypedProgram) → IsTypedText entry program t → (x : List ℕ) → Some second ≡ Some x → length x ≤ second_limit → ReportsFailure t x a →
      Explains (kind_of x) program all t (lowered t) x b → Tells ⊎ (a ≡ b)
  of_text t w x e l r k =
      let same : x ≡ second = same_Some x second (sym e) in
      let told : Explains (kind_of second) program all t (lowered t) second b = subst (λ (z : List ℕ). Explains (kind_of z) program all t (lowered t) z b) same k in
      follows_failure program all t second entry a b w (subst (λ (z : List ℕ). ReportsFailure t z a) same r)
      (subst (λ (o : Kind). Explains o program all t (lowered t) second b) kind told)

  second_in_order : (a ≡ b) ⊎ (Tells ⊎ (a ≡ b)) → Tells ⊎ ((a ≡ b) ⊎ IsUnlowered entry program b)
  second_in_order (inl e) = inr (inl e)
  second_in_order (inr (inl told)) = inl told
  second_in_order (inr (inr e)) = inr (inl e)

  lowered_follows : (t : TypedProgram) → IsTypedText entry program t → ReportsSecond (Some second) (ReportsFailure t) a →
      ReportsLowered t (λ g. ReportsSecond (Some second) (λ text. Explains (kind_of text) program all t g text)) b → Tells ⊎ ((a ≡ b) ⊎ IsUnlowered entry program b)
  lowered_follows t w r (unlowered refusal) = inr (inr (t, w, refusal))
  lowered_follows t w r (of_lowered none s) =
      second_in_order (second_or (Some second) (ReportsFailure t) (λ text. Explains (kind_of text) program all t (lowered t) text) (Tells ⊎ (a ≡ b)) a b (of_text t w) r s)

  in_order : (Tells ⊎ ((a ≡ b) ⊎ IsUnlowered entry program b)) ⊎ ((a ≡ b) ⊎ AreIllTyped a b) → Tells ⊎ ((a ≡ b) ⊎ (AreIllTyped a b ⊎ IsUnlowered entry program b))
  in_order (inl (inl told)) = inl told
  in_order (inl (inr (inl e))) = inr (inl e)
  in_order (inl (inr (inr refusal))) = inr (inr (inr refusal))
  in_order (inr (inl e)) = inr (inl e)
  in_order (inr (inr broken)) = inr (inr (inl broken))

  replayed_alike : ReportsReplay entry program (Some second) a → ReportsExplain entry all program (Some second) b →
      Tells ⊎ ((a ≡ b) ⊎ (AreIllTyped a b ⊎ IsUnlowered entry program b))
  replayed_alike r s =
      in_order (typed_once entry program (λ t. ReportsSecond (Some second) (ReportsFailure t))
      (λ t. ReportsLowered t (λ g. ReportsSecond (Some second) (λ text. Explains (kind_of text) program all t g text)))
      (Tells ⊎ ((a ≡ b) ⊎ IsUnlowered entry program b)) a b lowered_follows r s)

  -- ---- answers to a replay and to an explanation that are equal have another status than 0

  one_of : (c : Answer) → (a ≡ c) ⊎ (a ≡ c) → a ≡ c
  one_of c (inl e) = e
  one_of c (inr e) = e

  same_replay : (id : AssertId) → ReportsReplay entry program (Some second) a → ReportsReplay entry program (Some second) (replayed_answer id) → a ≡ replayed_answer id
  same_replay id r k =
      by_case (typed_once entry program (λ t. ReportsSecond (Some second) (ReportsFailure t)) (λ t. ReportsSecond (Some second) (ReportsFailure t)) (a ≡ replayed_answer id)
      a (replayed_answer id) (λ t w h j. one_of (replayed_answer id)
      (second_or (Some second) (ReportsFailure t) (ReportsFailure t) (a ≡ replayed_answer id) a (replayed_answer id) (λ x e l. failure_once t x a (replayed_answer id)) h j)) r k)
    where
      by_case : (a ≡ replayed_answer id) ⊎ ((a ≡ replayed_answer id) ⊎ AreIllTyped a (replayed_answer id)) → a ≡ replayed_answer id
      by_case (inl e) = e
      by_case (inr (inl e)) = e
      by_case (inr (inr h)) = absurd (let d : 0 ≡ 3 = ap (λ (c : Answer). c.status) h.1.1 in omega arith)

  failure_zero : ReportsReplay entry program (Some second) a → (t : TypedProgram) → IsTypedText entry program t → length second ≤ second_limit →
      ExplainsFailure program all t second b → b.status ≡ 0 → Tells
  failure_zero r t w l (no_failure line wrong is) z = absurd (one_is_not_zero b (ap (λ (c : Answer). c.status) is) z)
  failure_zero r t w l (stopped f step cause h s is) z = absurd (one_is_not_zero b (ap (λ (c : Answer). c.status) is) z)
  failure_zero r t w l (of_failure f id ds story h spelled told is) z =
      record {
        meant = t;
        tree = ds;
        failure = f;
        assertion = id;
        story = story;
        typed = w;
        spelled = spelled;
        read = h;
        of_run = told;
        is_replayed = same_replay id r (checks.of_typed t w (checks.of_second second refl l (replays program all t second ds f id story h told)));
        is_told = is;
      }

  tells_zero : ReportsReplay entry program (Some second) a → ReportsExplain entry all program (Some second) b → b.status ≡ 0 → Tells
  tells_zero r (checks.refused k) z = absurd (typed_is_not_zero entry program b k z)
  tells_zero r (checks.of_typed t w (unlowered k)) z = absurd (lowering_is_not_zero t b k z)
  tells_zero r (checks.of_typed t w (of_lowered none (checks.second_too_long x e past is))) z = absurd (too_long_is_not_zero b is z)
  tells_zero r (checks.of_typed t w (of_lowered none (checks.of_second x e l k))) z =
      let same : x ≡ second = same_Some x second (sym e) in
      let told : Explains (kind_of second) program all t (lowered t) second b = subst (λ (y : List ℕ). Explains (kind_of y) program all t (lowered t) y b) same k in
      failure_zero r t w (subst (λ (y : List ℕ). length y ≤ second_limit) same l) (subst (λ (o : Kind). Explains o program all t (lowered t) second b) kind told) z

  pub follows_replay : ReportsReplay entry program (Some second) a → ReportsExplain entry all program (Some second) b →
      Tells ⊎ (((a ≡ b) × (b.status ≡ 0 → ⊥)) ⊎ (AreIllTyped a b ⊎ IsUnlowered entry program b))
  follows_replay r s = told_apart (replayed_alike r s) (zero_or_not b.status)
    where
      told_apart : Tells ⊎ ((a ≡ b) ⊎ (AreIllTyped a b ⊎ IsUnlowered entry program b)) → (b.status ≡ 0) ⊎ (b.status ≡ 0 → ⊥) →
          Tells ⊎ (((a ≡ b) × (b.status ≡ 0 → ⊥)) ⊎ (AreIllTyped a b ⊎ IsUnlowered entry program b))
      told_apart (inl x) d = inl x
      told_apart (inr (inl e)) (inl z) = inl (tells_zero r s z)
      told_apart (inr (inl e)) (inr other) = inr (inl (e, other))
      told_apart (inr (inr y)) d = inr (inr y)
