-- Two runs that take one list of choices.
use Rattle.std.proofs.Common.{◌≡◌, ◌≢◌, ℕ, ◌+◌, ◌≤◌, ℤ, Bool, true, false, cond, List, [], ◌∷◌, ◌++◌, length, Option, None, Some, refl, sym, ap, ◌∙◌, subst, arith}
use Rattle.std.specs.Option.{option_to_list}
use Rattle.std.proofs.lemmas.Bool.{false≢true}
use Rattle.math_facts.specs.Optional.{or_zero}
use Rattle.typed_tree.specs.TypedTree.{TypedProgram}
use Rattle.boogie_run.specs.Configurations.{Config}
use Rattle.boogie_run.specs.Needs.{Need, Nothing, Whole, Truth, Below, need, is_taken}
use Rattle.boogie_run.specs.Steps.{Outcome, Went, Blocked, Failed, Ended, Refused, start, step, next}
use Rattle.boogie_run.specs.Runs.{then_goes_on, run}
use Rattle.trace_replay.specs.Replays.{choices_among, StepsFit}
use Rattle.trace_replay.specs.ReplayCauses.{HasMade}

-- What a step takes

-- what needs no choice takes none
none_or_some : (n : Need) (z : ℤ) → is_taken n None ≡ true → is_taken n (Some z) ≡ true → ⊥
none_or_some Nothing z h k = false≢true k
none_or_some Whole z h k = false≢true h
none_or_some Truth z h k = false≢true h
none_or_some (Below m) z h k = false≢true h

-- of one list of choices each need takes the same
pub same_choice : (n : Need) (x y : Option ℤ) (xs ys : List ℤ) → is_taken n x ≡ true → is_taken n y ≡ true → option_to_list x ++ xs ≡ option_to_list y ++ ys → (x ≡ y) × (xs ≡ ys)
same_choice n None None xs ys h k e = (refl, e)
same_choice n None (Some z) xs ys h k e = absurd (none_or_some n z h k)
same_choice n (Some z) None xs ys h k e = absurd (none_or_some n z k h)
same_choice n (Some y) (Some z) xs ys h k e = let head : y ≡ z = cc in let tail : xs ≡ ys = cc in (ap Some head, tail)

unless_refused : (b : Bool) (o p : Outcome) → cond b o Refused ≡ p → (Refused ≢ p) → b ≡ true
unless_refused true o p e h = refl
unless_refused false o p e h = absurd (h e)

-- a step that is not refused takes its choice
pub step_takes : (t : TypedProgram) (c : Config) (x : Option ℤ) (o : Outcome) → step t c x ≡ o → (Refused ≢ o) → is_taken (need t c) x ≡ true
step_takes t c x o e h = unless_refused (is_taken (need t c) x) (next t c (or_zero x)) o e h

pub refused_no_went : (d : Config) → Refused ≢ Went d
refused_no_went d e = let no : ⊥ = cc in no

-- The first step of a run

goes_on : (o : Outcome) (f : Config → Outcome) (e : Config) → then_goes_on o f ≡ Went e → (d : Config) × (o ≡ Went d) × (f d ≡ Went e)
goes_on (Went d) f e h = (d, refl, h)
goes_on Blocked f e h = absurd (let no : ⊥ = cc in no)
goes_on (Failed i) f e h = absurd (let no : ⊥ = cc in no)
goes_on Ended f e h = absurd (let no : ⊥ = cc in no)
goes_on Refused f e h = absurd (let no : ⊥ = cc in no)

pub run_first : (t : TypedProgram) (c e : Config) (x : Option ℤ) (xs : List (Option ℤ)) → run t c (x ∷ xs) ≡ Went e → (d : Config) × (step t c x ≡ Went d) × (run t d xs ≡ Went e)
run_first t c e x xs h = goes_on (step t c x) (λ d. run t d xs) e h

pub choices_among-cons : (x : Option ℤ) (xs : List (Option ℤ)) (left : List ℤ) → choices_among (x ∷ xs) ++ left ≡ option_to_list x ++ (choices_among xs ++ left)
choices_among-cons None xs left = refl
choices_among-cons (Some z) xs left = refl

same_went : (c d : Config) → Went c ≡ Went d → c ≡ d
same_went c d e = cc

-- One run goes on where the other has come to.
pub record GoesBy (t : TypedProgram) (c : Config) (left : List ℤ) (d : Config) (rest : List ℤ) (more : List (Option ℤ)) : Type 0 where
  pub used : left ≡ choices_among more ++ rest
  pub leads : run t c more ≡ Went d
  pub fit : StepsFit t c more

pub goes_by : (t : TypedProgram) (b : Config) (xs ys : List (Option ℤ)) (c d : Config) (left rest : List ℤ) → run t b xs ≡ Went c → run t b ys ≡ Went d → choices_among xs ++ left ≡ choices_among ys ++ rest → length xs ≤ length ys → StepsFit t b ys → (more : List (Option ℤ)) × (length ys ≡ length xs + length more) × GoesBy t c left d rest more
goes_by t b [] ys c d left rest p q e less fit =
    let here : b ≡ c = same_went b c p in
    (ys, omega arith, subst (λ k. GoesBy t k left d rest ys) here (record { used = e; leads = q; fit = fit }))
goes_by t b (x ∷ xs) [] c d left rest p q e less fit = absurd (omega arith)
goes_by t b (x ∷ xs) (y ∷ ys) c d left rest p q e less fit =
    let one = run_first t b c x xs p in
    let two = run_first t b d y ys q in
    let first = same_choice (need t b) x y (choices_among xs ++ left) (choices_among ys ++ rest)
    (step_takes t b x (Went one.0) one.1 (refused_no_went one.0)) (step_takes t b y (Went two.0) two.1 (refused_no_went two.0))
    (sym (choices_among-cons x xs left) ∙ e ∙ choices_among-cons y ys rest) in
    let same : one.0 ≡ two.0 = same_went one.0 two.0 (sym one.1 ∙ ap (step t b) first.0 ∙ two.1) in
    let from = goes_by t one.0 xs ys c d left rest one.2 (ap (λ k. run t k ys) same ∙ two.2) first.1 (omega arith) (subst (λ k. StepsFit t k ys) (sym same) (fit.1 two.0 two.1)) in
    (from.0, omega (arith, from.1), from.2)

pub made_by : (t : TypedProgram) (choices : List ℤ) (m n : ℕ) (c d : Config) (left rest : List ℤ) → HasMade t choices m c left → HasMade t choices n d rest → m ≤ n → (more : List (Option ℤ)) × (n ≡ m + length more) × GoesBy t c left d rest more
made_by t choices m n c d left rest p q less =
    let from = goes_by t (start t) p.taken q.taken c d left rest p.leads q.leads (p.used ∙ sym q.used) (omega (arith, p.many, q.many)) q.fit in
    (from.0, omega (arith, from.1, p.many, q.many), from.2)
