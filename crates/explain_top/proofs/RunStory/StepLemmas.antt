-- The line of one step.
use Rattle.std.proofs.Common.{◌≡◌, ℕ, ℤ, Bool, true, false, cond, ◌||◌, nat_lt, List, [], ◌∷◌, ◌++◌, length, Option, None, Some, refl, ap, sym, ◌∙◌, append_assoc}
use Rattle.std.specs.Prelude.{codes}
use Rattle.std.specs.Option.{option_to_list}
use Rattle.std.proofs.lemmas.Bool.{false≢true}
use Rattle.math_facts.specs.Optional.{or_zero}
use Rattle.boogie_tree.specs.Tree.{Declaration}
use Rattle.boogie_tree.specs.declared.tree.Column.{Column}
use Rattle.typed_tree.specs.TypedTree.{TypedProgram}
use Rattle.typed_tree.specs.Values.{column_value}
use Rattle.boogie_run.specs.BoogiePoints.Actions.{Action, Check, Suppose, Demand, Write, Guess, Test, Pick, Jump, Enter, Keep, Grant, Finish, Leave, action_at}
use Rattle.boogie_run.specs.BoogiePoints.Told.{told}
use Rattle.boogie_run.specs.Configurations.{Frame, Config, state_of}
use Rattle.boogie_run.specs.Needs.{Need, Nothing, Whole, Truth, Below, need, is_taken, locals_at}
use Rattle.boogie_run.specs.Fitting.{NextFits}
use Rattle.boogie_run.specs.Steps.{Outcome, Went, Failed, Refused, step, next, act, left, with_global, with_local}
use Rattle.trace_replay.specs.declared.replaying.Turn.{Turn}
use Rattle.trace_replay.specs.declared.replaying.Turn.TheVariants.{GoesOn, Fails, FailsEarly, Stops}
use Rattle.trace_replay.specs.FailureText.{numbers}
use Rattle.trace_replay.specs.NextChoices.{next_choice}
use Rattle.trace_replay.proofs.ReplayRuns.{step_takes, refused_no_went}
use Rattle.explain_top.specs.declared.run_story.lines.Line.{Line}
use Rattle.explain_top.specs.RunStory.Lines.{remarked, has_notes, IsNoted, Adds}
use Rattle.explain_top.specs.RunStory.Items.{Item}
use Rattle.explain_top.specs.RunStory.Sites.{site}
use Rattle.explain_top.specs.RunStory.Notes.{note, held, notes_before, changed_by, changes}
use Rattle.explain_top.specs.RunStory.Texts.{remark, place_text, told_line}
use Rattle.explain_top.specs.RunStory.Story.{after, step_line}
use Rattle.explain_top.specs.RunStory.Ties.Steps.{next_number, IsBegun, told_behind, TellsStep}
use Rattle.explain_top.proofs.RunStory.LineLemmas.{adds_both}

-- ---- the choice

-- what a step takes is the next of the choices that are left
pub chosen_is : (n : Need) (left rest : List ℤ) (choice : Option ℤ) → is_taken n choice ≡ true → left ≡ option_to_list choice ++ rest → or_zero (next_choice n left).0 ≡ or_zero choice
chosen_is Nothing left rest None h e = refl
chosen_is Nothing left rest (Some z) h e = absurd (false≢true h)
chosen_is Whole left rest None h e = absurd (false≢true h)
chosen_is Whole [] rest (Some z) h e = absurd (let no : ⊥ = cc in no)
chosen_is Whole (y ∷ ys) rest (Some z) h e = let same : y ≡ z = cc in same
chosen_is Truth left rest None h e = absurd (false≢true h)
chosen_is Truth [] rest (Some z) h e = absurd (let no : ⊥ = cc in no)
chosen_is Truth (y ∷ ys) rest (Some z) h e = let same : y ≡ z = cc in same
chosen_is (Below n) left rest None h e = absurd (false≢true h)
chosen_is (Below n) [] rest (Some z) h e = absurd (let no : ⊥ = cc in no)
chosen_is (Below n) (y ∷ ys) rest (Some z) h e = let same : y ≡ z = cc in same

refused_no_failed : (i : ℕ) → Refused ≡ Failed i → ⊥
refused_no_failed i e = let no : ⊥ = cc in no

-- ---- of a step that fails nothing changes

went_no_failed : {P : Type 0} (c : Config) (i : ℕ) → Went c ≡ Failed i → P
went_no_failed c i e = absurd (let no : ⊥ = cc in no)

left_no_failed : {P : Type 0} (t : TypedProgram) (c : Config) (fs : List Frame) (i : ℕ) → left t c fs ≡ Failed i → P
left_no_failed t c [] i e = absurd (let no : ⊥ = cc in no)
left_no_failed t c (f ∷ fs) i e = absurd (let no : ⊥ = cc in no)

act_fails : (t : TypedProgram) (c : Config) (v : ℤ) (a : Action) (i : ℕ) → act t c v a ≡ Failed i → changed_by t c (told a) ≡ []
act_fails t c v (Check id at e next) i h = refl
act_fails t c v (Suppose e next) i h = refl
act_fails t c v (Demand id at e args next) i h = refl
act_fails t c v (Write cs es next) i h = absurd (let no : ⊥ = cc in no)
act_fails t c v (Guess x next) i h = absurd (let no : ⊥ = cc in no)
act_fails t c v (Test e hit miss) i h = refl
act_fails t c v (Pick ways) i h = refl
act_fails t c v (Jump next) i h = refl
act_fails t c v (Enter f args) i h = absurd (let no : ⊥ = cc in no)
act_fails t c v (Keep f args x next) i h = refl
act_fails t c v (Grant f args e next) i h = refl
act_fails t c v (Finish f args targets next) i h = absurd (let no : ⊥ = cc in no)
act_fails t c v Leave i h = left_no_failed t c c.below i h

next_fails : (a b : Bool) (g l : Config) (o : Outcome) (xs : List Column) (i : ℕ) → cond a (Went g) (cond b (Went l) o) ≡ Failed i → (o ≡ Failed i → xs ≡ []) → cond (a || b) [] xs ≡ []
next_fails true b g l o xs i e h = went_no_failed g i e
next_fails false true g l o xs i e h = went_no_failed l i e
next_fails false false g l o xs i e h = h e

step_fails : (b : Bool) (o : Outcome) (i : ℕ) → cond b o Refused ≡ Failed i → o ≡ Failed i
step_fails true o i e = e
step_fails false o i e = absurd (refused_no_failed i e)

pub nothing_changes : (t : TypedProgram) (c : Config) (x : Option ℤ) (i : ℕ) → step t c x ≡ Failed i → changes t c ≡ []
nothing_changes t c x i h =
    next_fails (nat_lt (length c.globals) (length t.globals)) (nat_lt (length c.top.locals) (length (locals_at t c.top.proc)))
    (with_global c (or_zero x)) (with_local c (or_zero x)) (act t c (or_zero x) (action_at t c.top.proc c.top.point)) (changed_by t c (told (action_at t c.top.proc c.top.point))) i
    (step_fails (is_taken (need t c) x) (next t c (or_zero x)) i h)
    (act_fails t c (or_zero x) (action_at t c.top.proc c.top.point) i)

-- ---- the line

-- where the line of a step that takes this choice and leads to d was begun, and what is told behind it was added
whole : (t : TypedProgram) (ds : List Declaration) (c d : Config) (choice : Option ℤ) (v : ℤ) (line : Line) (text : List ℕ) (xs : List (List ℕ)) →
    IsNoted (place_text (site t ds c) (length c.below)) false (notes_before t ds (site t ds c) c v ++ xs) line → text ≡ line.text.items ++ codes "\n" →
    v ≡ or_zero choice → after c (step t c choice) ≡ d → xs ≡ held t d (changes t c) → text ≡ step_line t ds c choice
whole t ds c d choice v line text xs noted ends number leads behind =
    ends
    ∙ ap (λ (l : List ℕ). l ++ codes "\n") noted.text
    ∙ append_assoc (place_text (site t ds c) (length c.below)) (remark (notes_before t ds (site t ds c) c v ++ xs)) (codes "\n")
    ∙ (λ i. told_line (site t ds c) (length c.below) (notes_before t ds (site t ds c) c (number i) ++ behind i))
    ∙ ap (λ (k : Config). told_line (site t ds c) (length c.below) (notes_before t ds (site t ds c) c (or_zero choice) ++ held t k (changes t c))) (sym leads)

pub tells : (t : TypedProgram) (ds : List Declaration) (c d : Config) (left : List ℤ) (turn : Turn) (a b : Line) (text : List ℕ) (xs : List Column) →
    (NextFits t c → IsBegun t ds c left a) → xs ≡ changes t c → Adds a (told_behind t d turn xs) b → text ≡ b.text.items ++ codes "\n" → TellsStep t ds c left d turn text
tells t ds c d left (GoesOn rest) a b text xs begun changed more ends = λ s.
    whole t ds c d s.choice (next_number t c left) b text (held t d xs)
    (adds_both (place_text (site t ds c) (length c.below)) false a b (notes_before t ds (site t ds c) c (next_number t c left)) (held t d xs) (begun s.fit) more)
    ends
    (chosen_is (need t c) left (numbers rest.now) s.choice (step_takes t c s.choice (Went d) s.ends (refused_no_went d)) s.first)
    (ap (after c) s.ends)
    (ap (held t d) changed)
tells t ds c d left (Fails id) a b text xs begun changed more ends = λ s.
    whole t ds c c s.choice (next_number t c left) b text []
    (adds_both (place_text (site t ds c) (length c.below)) false a b (notes_before t ds (site t ds c) c (next_number t c left)) [] (begun s.fit) more)
    ends
    (chosen_is (need t c) left [] s.choice (step_takes t c s.choice (Failed id.number) s.ends (refused_no_failed id.number)) s.first)
    (ap (after c) s.ends)
    (ap (held t c) (sym (nothing_changes t c s.choice id.number s.ends)))
tells t ds c d left (FailsEarly rest) a b text xs begun changed more ends = tt
tells t ds c d left (Stops cause) a b text xs begun changed more ends = tt

-- the line of an item, with what is told before the step that stands there
pub begun_is : (t : TypedProgram) (ds : List Declaration) (c : Config) (left : List ℤ) (i : Item) (calls : ℕ) (v : ℤ) (a b : Line) → i ≡ site t ds c → a.text.items ≡ place_text i calls →
    a.noted ≡ false → calls ≡ length c.below → v ≡ next_number t c left → Adds a (notes_before t ds i c v) b → IsBegun t ds c left b
begun_is t ds c left i calls v a b is text noted calls_are number h = record {
  text =
      h.text ∙ (λ k. text k ++ remarked (noted k) (notes_before t ds i c v))
      ∙ (λ k. place_text (is k) (calls_are k) ++ remarked false (notes_before t ds (is k) c (number k)));
  noted = h.noted ∙ (λ k. has_notes (noted k) (notes_before t ds (is k) c (number k)));
}

pub held_both : (t : TypedProgram) (c : Config) (xs ys : List Column) → held t c (xs ++ ys) ≡ held t c xs ++ held t c ys
held_both t c [] ys = refl
held_both t c (x ∷ xs) ys = ap (λ (ns : List (List ℕ)). note t c.top.proc x (column_value (state_of c) x) ∷ ns) (held_both t c xs ys)
