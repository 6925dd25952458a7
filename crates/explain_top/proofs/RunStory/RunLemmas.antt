-- The lines of a run.
use Rattle.std.proofs.Common.{◌≡◌, ℕ, suc, ◌+◌, ◌<◌, ℤ, Bool, List, [], ◌∷◌, ◌++◌, length, Option, refl, ap, sym, ◌∙◌, subst, arith, append_assoc, length-append}
use Rattle.std.specs.List.{concat}
use Rattle.std.specs.Option.{option_to_list}
use Rattle.boogie_tree.specs.Tree.{Declaration}
use Rattle.typed_tree.specs.TypedTree.{TypedProgram}
use Rattle.boogie_run.specs.declared.types.AssertId.{AssertId}
use Rattle.boogie_run.specs.Configurations.{Config}
use Rattle.boogie_run.specs.Steps.{Went, Failed, start, step}
use Rattle.boogie_run.specs.Runs.{then_goes_on, run}
use Rattle.boogie_run.specs.StepView.{line_at}
use Rattle.trace_replay.specs.Replays.{choices_among}
use Rattle.trace_replay.specs.ReplayCauses.{HasMade, StepEnds}
use Rattle.trace_replay.proofs.ReplayRuns.{run_first}
use Rattle.trace_replay.proofs.ReplaySteps.{run_more}
use Rattle.trace_replay.proofs.ReplayLaws.{choices_among-append, choices_among-one, both_fit, fails_at_replays}
use Rattle.explain_top.specs.declared.run_story.keeping.Lines.{Lines}
use Rattle.explain_top.specs.RunStory.Lines.{Keeps}
use Rattle.explain_top.specs.RunStory.Texts.{shortened}
use Rattle.explain_top.specs.RunStory.Story.{after, step_line, step_lines, fails_line, IsStory}

-- one step more
pub lines_more : (t : TypedProgram) (ds : List Declaration) (b c : Config) (xs : List (Option ℤ)) (x : Option ℤ) → run t b xs ≡ Went c →
    step_lines t ds b (xs ++ x ∷ []) ≡ step_lines t ds b xs ++ step_line t ds c x ∷ []
lines_more t ds b c [] x h =
    let here : Went b ≡ Went c = h in
    let same : b ≡ c = cc in
    ap (λ (k : Config). step_line t ds k x ∷ []) same
lines_more t ds b c (y ∷ ys) x h =
    let first = run_first t b c y ys h in
    let there : after b (step t b y) ≡ first.0 = ap (after b) first.1 in
    ap (λ (k : Config). step_line t ds b y ∷ step_lines t ds k (ys ++ x ∷ [])) there
    ∙ ap (λ (ls : List (List ℕ)). step_line t ds b y ∷ ls) (lines_more t ds first.0 c ys x first.2)
    ∙ ap (λ (k : Config). (step_line t ds b y ∷ step_lines t ds k ys) ++ step_line t ds c x ∷ []) (sym there)

-- a line for each step
pub lines_counted : (t : TypedProgram) (ds : List Declaration) (c : Config) (xs : List (Option ℤ)) → length (step_lines t ds c xs) ≡ length xs
lines_counted t ds c [] = refl
lines_counted t ds c (x ∷ xs) = ap suc (lines_counted t ds (after c (step t c x)) xs)

-- So many steps are made, and their lines are kept.
pub record HasTold (t : TypedProgram) (ds : List Declaration) (all : Bool) (choices : List ℤ) (count : ℕ) (c : Config) (left : List ℤ) (lines : Lines) : Type 0 where
  pub made : HasMade t choices count c left
  pub kept : Keeps (step_lines t ds (start t) made.taken) lines
  pub all_is : lines.all ≡ all

pub none_told : (t : TypedProgram) (ds : List Declaration) (all : Bool) (choices : List ℤ) (c : Config) (lines : Lines) → c ≡ start t → Keeps [] lines → lines.all ≡ all → HasTold t ds all choices 0 c choices lines
none_told t ds all choices c lines at kept same =
    subst (λ (k : Config). HasTold t ds all choices 0 k choices lines) (sym at)
    (record { made = record { taken = []; many = refl; used = refl; leads = refl; fit = tt }; kept = kept; all_is = same })

-- what keeping one line more says
abbrev pub KeepsMore : ℕ → List ℕ → Lines → Lines → Type 0
KeepsMore made text old new = (ls : List (List ℕ)) → length ls ≡ made → Keeps ls old → Keeps (ls ++ text ∷ []) new

-- a step that goes on
pub one_more_told : (t : TypedProgram) (ds : List Declaration) (all : Bool) (choices : List ℤ) (made : ℕ) (c d : Config) (left rest : List ℤ) (old new : Lines) (text : List ℕ) →
    HasTold t ds all choices made c left old → (s : StepEnds t c left (Went d) rest) → text ≡ step_line t ds c s.choice → KeepsMore made text old new → new.all ≡ old.all →
    HasTold t ds all choices (made + 1) d rest new
one_more_told t ds all choices made c d left rest old new text h s is keeps same =
    let x = s.choice in
    let taken = h.made.taken in
    let lines = step_lines t ds (start t) taken in
    record {
      made = record {
        taken = taken ++ x ∷ [];
        many = omega (arith, length-append taken (x ∷ []), h.made.many);
        used =
            ap (λ zs. zs ++ rest) (choices_among-append taken (x ∷ []) ∙ ap (λ zs. choices_among taken ++ zs) (choices_among-one x))
            ∙ append_assoc (choices_among taken) (option_to_list x) rest
            ∙ ap (λ zs. choices_among taken ++ zs) (sym s.first)
            ∙ h.made.used;
        leads = run_more t (start t) c taken x h.made.leads ∙ ap (λ o. then_goes_on o (λ e. Went e)) s.ends;
        fit = both_fit t (start t) c taken (x ∷ []) h.made.leads h.made.fit (s.fit, λ d e. tt);
      };
      kept =
          subst (λ (ls : List (List ℕ)). Keeps ls new)
          (ap (λ (l : List ℕ). lines ++ l ∷ []) is ∙ sym (lines_more t ds (start t) c taken x h.made.leads))
          (keeps lines (lines_counted t ds (start t) taken ∙ h.made.many) h.kept);
      all_is = same ∙ h.all_is;
    }

-- what ending a story says
abbrev pub Ends : ℕ → AssertId → Lines → List ℕ → Type 0
Ends count id lines text = (ls : List (List ℕ)) → length ls ≡ count → Keeps ls lines → text ≡ concat (shortened lines.all ls) ++ fails_line id

-- the step that fails
pub told_fails : (t : TypedProgram) (ds : List Declaration) (all : Bool) (n : ℕ) (choices : List ℤ) (made : ℕ) (c : Config) (left : List ℤ) (id : AssertId) (old new : Lines) (text whole : List ℕ) →
    made < n → HasTold t ds all choices made c left old → (s : StepEnds t c left (Failed id.number) []) → id.line ≡ line_at t c → text ≡ step_line t ds c s.choice →
    KeepsMore made text old new → new.all ≡ old.all → Ends (made + 1) id new whole → IsStory t ds all n choices id whole
told_fails t ds all n choices made c left id old new text whole in_time h s at is keeps same ends =
    let x = s.choice in
    let taken = h.made.taken in
    let lines = step_lines t ds (start t) taken in
    let more : lines ++ text ∷ [] ≡ step_lines t ds (start t) (taken ++ x ∷ []) =
    ap (λ (l : List ℕ). lines ++ l ∷ []) is ∙ sym (lines_more t ds (start t) c taken x h.made.leads) in
    let count : length (step_lines t ds (start t) (taken ++ x ∷ [])) ≡ made + 1 =
    lines_counted t ds (start t) (taken ++ x ∷ []) ∙ omega (arith, length-append taken (x ∷ []), h.made.many) in
    let kept : Keeps (step_lines t ds (start t) (taken ++ x ∷ [])) new =
    subst (λ (ls : List (List ℕ)). Keeps ls new) more (keeps lines (lines_counted t ds (start t) taken ∙ h.made.many) h.kept) in
    record {
      run = fails_at_replays t n choices id.number (record { made = made; in_time = in_time; here = c; left = left; comes = h.made; fails = s });
      line = at;
      is =
          ends (step_lines t ds (start t) (taken ++ x ∷ [])) count kept
          ∙ ap (λ (b : Bool). concat (shortened b (step_lines t ds (start t) (taken ++ x ∷ []))) ++ fails_line id) (same ∙ h.all_is);
    }
