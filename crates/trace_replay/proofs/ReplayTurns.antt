-- A replay has one end.
use Rattle.std.proofs.Common.{◌≡◌, ◌≢◌, ℕ, ◌<◌, ℤ, true, false, ◌⊎◌, inl, inr, List, [], ◌∷◌, ◌++◌, length, Option, None, Some, refl, sym, ap, ◌∙◌, subst, arith}
use Rattle.std.specs.Option.{option_to_list}
use Rattle.std.proofs.lemmas.Bool.{both_ways, cases_order}
use Rattle.typed_tree.specs.TypedTree.{TypedProgram}
use Rattle.boogie_run.specs.Configurations.{Config}
use Rattle.boogie_run.specs.Needs.{need, is_taken}
use Rattle.boogie_run.specs.Steps.{Outcome, Went, Failed, Refused, start, step}
use Rattle.boogie_run.specs.Steps as outcomes
use Rattle.boogie_run.specs.Fitting.{NextFits}
use Rattle.trace_replay.specs.declared.causes.ReplayCause.{ReplayCause}
use Rattle.trace_replay.specs.declared.causes.ReplayCause.TheVariants.{Blocked, Ended, Short, Number, BadChoice, Product}
use Rattle.trace_replay.specs.Replays.{choices_among}
use Rattle.trace_replay.specs.ReplayCauses.{HasMade, StepEnds, NeedsChoice, HasBadChoice, Stops}
use Rattle.trace_replay.proofs.ReplayRuns.{same_choice, step_takes, refused_no_went, run_first, made_by, GoesBy, choices_among-cons}

-- what the next step makes of the replay
pub data Turn : Type 0 where
  GoesOn : Turn
  Replayed : ℕ → Turn
  StopsBy : ReplayCause → Turn

-- by how it ends, and the choices that are left then
abbrev pub turn_by : Outcome → List ℤ → Option Turn
turn_by (Went d) rest = Some GoesOn
turn_by outcomes.Blocked rest = Some (StopsBy Blocked)
turn_by (Failed i) [] = Some (Replayed i)
turn_by (Failed i) (z ∷ rest) = Some (StopsBy BadChoice)
turn_by outcomes.Ended rest = Some (StopsBy Ended)
turn_by Refused rest = None

-- The step is made with this choice: a value does not fit, or it ends so.
pub record IsMade (t : TypedProgram) (c : Config) (left : List ℤ) (turn : Turn) : Type 0 where
  pub choice : Option ℤ
  pub rest : List ℤ
  pub first : left ≡ option_to_list choice ++ rest
  pub taken : is_taken (need t c) choice ≡ true
  pub ends : ((NextFits t c → ⊥) × (turn ≡ StopsBy Number)) ⊎ (NextFits t c × (turn_by (step t c choice) rest ≡ Some turn))

abbrev pub IsTurn : TypedProgram → Config → List ℤ → Turn → Type 0
IsTurn t c left turn = (NeedsChoice t c × (left ≡ []) × (turn ≡ StopsBy Short)) ⊎ ((HasBadChoice t c left × (turn ≡ StopsBy BadChoice)) ⊎ IsMade t c left turn)

-- no step is made where a choice is needed and none is left, or a bad one
pub nothing_left : (t : TypedProgram) (c : Config) (choice : Option ℤ) (rest : List ℤ) → NeedsChoice t c → is_taken (need t c) choice ≡ true → option_to_list choice ++ rest ≡ [] → ⊥
nothing_left t c None rest needed taken e = both_ways (is_taken (need t c) None) needed taken
nothing_left t c (Some z) rest needed taken e = let no : ⊥ = cc in no

pub not_bad : (t : TypedProgram) (c : Config) (choice : Option ℤ) (left rest : List ℤ) → HasBadChoice t c left → is_taken (need t c) choice ≡ true → left ≡ option_to_list choice ++ rest → ⊥
not_bad t c None left rest h taken e = both_ways (is_taken (need t c) None) h.needed taken
not_bad t c (Some z) left rest h taken e =
    let all : h.choice ∷ h.rest ≡ z ∷ rest = sym h.first ∙ e in
    let same : h.choice ≡ z = cc in
    both_ways (is_taken (need t c) (Some z)) (subst (λ y. is_taken (need t c) (Some y) ≡ false) same h.bad) taken

bad_is_some : (t : TypedProgram) (c : Config) (left : List ℤ) → HasBadChoice t c left → left ≡ [] → ⊥
bad_is_some t c left h e = let all : h.choice ∷ h.rest ≡ [] = sym h.first ∙ e in let no : ⊥ = cc in no

made_once : (t : TypedProgram) (c : Config) (left : List ℤ) (a b : Turn) → IsMade t c left a → IsMade t c left b → a ≡ b
made_once t c left a b p q =
    let same = same_choice (need t c) p.choice q.choice p.rest q.rest p.taken q.taken (sym p.first ∙ q.first) in
    elim p.ends [
      | inl x ↦ elim q.ends [ inl y ↦ x.1 ∙ sym y.1 | inr y ↦ absurd (x.0 y.0) ]
      | inr x ↦ elim q.ends [
        | inl y ↦ absurd (y.0 x.0)
        | inr y ↦
            let one : turn_by (step t c p.choice) p.rest ≡ turn_by (step t c q.choice) q.rest = λ i. turn_by (step t c (same.0 i)) (same.1 i) in
            let both : Some a ≡ Some b = sym x.1 ∙ one ∙ y.1 in
            cc
      ]
    ]

-- a step has one turn
pub one_turn : (t : TypedProgram) (c : Config) (left : List ℤ) (a b : Turn) → IsTurn t c left a → IsTurn t c left b → a ≡ b
one_turn t c left a b p q = elim p [
  | inl x ↦ elim q [
    | inl y ↦ x.2 ∙ sym y.2
    | inr w ↦ elim w [ inl y ↦ absurd (bad_is_some t c left y.0 x.1) | inr y ↦ absurd (nothing_left t c y.choice y.rest x.0 y.taken (sym y.first ∙ x.1)) ]
  ]
  | inr v ↦ elim v [
    | inl x ↦ elim q [
      | inl y ↦ absurd (bad_is_some t c left x.0 y.1)
      | inr w ↦ elim w [ inl y ↦ x.1 ∙ sym y.1 | inr y ↦ absurd (not_bad t c y.choice left y.rest x.0 y.taken y.first) ]
    ]
    | inr x ↦ elim q [
      | inl y ↦ absurd (nothing_left t c x.choice x.rest y.0 x.taken (sym x.first ∙ y.1))
      | inr w ↦ elim w [ inl y ↦ absurd (not_bad t c x.choice left x.rest y.0 x.taken x.first) | inr y ↦ made_once t c left a b x y ]
    ]
  ]
]

-- ---- the turns of the definitions

ends : (t : TypedProgram) (c : Config) (left rest : List ℤ) (o : Outcome) (turn : Turn) → StepEnds t c left o rest → (Refused ≢ o) → turn_by o rest ≡ Some turn → IsTurn t c left turn
ends t c left rest o turn h allowed e = inr (inr (record {
  choice = h.choice;
  rest = rest;
  first = h.first;
  taken = step_takes t c h.choice o h.ends allowed;
  ends = inr (h.fit, ap (λ p. turn_by p rest) h.ends ∙ e);
}))

early : (i : ℕ) (rest : List ℤ) → rest ≢ [] → turn_by (Failed i) rest ≡ Some (StopsBy BadChoice)
early i [] h = absurd (h refl)
early i (z ∷ rest) h = refl

pub stops_turn : (t : TypedProgram) (c : Config) (left : List ℤ) (cause : ReplayCause) → Stops t c left cause → IsTurn t c left (StopsBy cause)
stops_turn t c left Blocked h = ends t c left h.rest outcomes.Blocked (StopsBy Blocked) h.blocks (λ e. let no : ⊥ = cc in no) refl
stops_turn t c left Ended h = ends t c left h.rest outcomes.Ended (StopsBy Ended) h.ends (λ e. let no : ⊥ = cc in no) refl
stops_turn t c left Short h = inl (h.0, h.1, refl)
stops_turn t c left Number h = inr (inr (record { choice = h.choice; rest = h.rest; first = h.first; taken = h.taken; ends = inl (h.past, refl) }))
stops_turn t c left Product h = absurd h
stops_turn t c left BadChoice h = elim h [
  | inl x ↦ inr (inl (x, refl))
  | inr x ↦ ends t c left x.rest (Failed x.assertion) (StopsBy BadChoice) x.fails (λ e. let no : ⊥ = cc in no) (early x.assertion x.rest x.some)
]

pub fails_turn : (t : TypedProgram) (c : Config) (left : List ℤ) (i : ℕ) → StepEnds t c left (Failed i) [] → IsTurn t c left (Replayed i)
fails_turn t c left i h = ends t c left [] (Failed i) (Replayed i) h (λ e. let no : ⊥ = cc in no) refl

-- where more steps are made the next one goes on
goes_turn : (t : TypedProgram) (c d : Config) (left rest : List ℤ) (more : List (Option ℤ)) → GoesBy t c left d rest more → 0 < length more → IsTurn t c left GoesOn
goes_turn t c d left rest [] h some = absurd (omega arith)
goes_turn t c d left rest (x ∷ xs) h some =
    let first = run_first t c d x xs h.leads in
    ends t c left (choices_among xs ++ rest) (Went first.0) GoesOn
    (record { choice = x; first = h.used ∙ choices_among-cons x xs rest; fit = h.fit.0; ends = first.1 })
    (refused_no_went first.0) refl

-- ---- one end

at_same : (t : TypedProgram) (c d : Config) (left rest : List ℤ) (more : List (Option ℤ)) (turn : Turn) → GoesBy t c left d rest more → length more ≡ 0 → IsTurn t d rest turn → IsTurn t c left turn
at_same t c d left rest [] turn h none is =
    let here : Went c ≡ Went d = h.leads in
    let same : c ≡ d = cc in
    subst (λ ls. IsTurn t c ls turn) (sym h.used) (subst (λ k. IsTurn t k rest turn) (sym same) is)
at_same t c d left rest (x ∷ xs) turn h none is = absurd (omega arith)

abbrev pub IsEnd : Turn → Type 0
IsEnd turn = GoesOn ≢ turn

-- A replay that ends at a step makes no further one.
pub no_further : (t : TypedProgram) (choices : List ℤ) (m n : ℕ) (c d : Config) (left rest : List ℤ) (turn : Turn) → HasMade t choices m c left → HasMade t choices n d rest → m < n → IsTurn t c left turn → IsEnd turn → ⊥
no_further t choices m n c d left rest turn p q less is end =
    let by = made_by t choices m n c d left rest p q (omega arith) in
    end (one_turn t c left GoesOn turn (goes_turn t c d left rest by.0 by.2 (omega (arith, by.1))) is)

one_end_from : (t : TypedProgram) (choices : List ℤ) (m n : ℕ) (c d : Config) (left rest : List ℤ) (a b : Turn) → HasMade t choices m c left → HasMade t choices n d rest → IsTurn t c left a → IsTurn t d rest b → m ≡ n → a ≡ b
one_end_from t choices m n c d left rest a b p q x y same =
    let by = made_by t choices m n c d left rest p q (omega arith) in
    one_turn t c left a b x (at_same t c d left rest by.0 b by.2 (omega (arith, by.1)) y)

pub one_end : (t : TypedProgram) (choices : List ℤ) (m n : ℕ) (c d : Config) (left rest : List ℤ) (a b : Turn) → HasMade t choices m c left → HasMade t choices n d rest → IsTurn t c left a → IsTurn t d rest b → IsEnd a → IsEnd b → (m ≡ n) × (a ≡ b)
one_end t choices m n c d left rest a b p q x y e f = elim (cases_order m n) [
  | inl same ↦ (same, one_end_from t choices m n c d left rest a b p q x y same)
  | inr w ↦ elim w [
    | inl less ↦ absurd (no_further t choices m n c d left rest a p q less x e)
    | inr more ↦ absurd (no_further t choices n m d c rest left b q p more y f)
  ]
]
