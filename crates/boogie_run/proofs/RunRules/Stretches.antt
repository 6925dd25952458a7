-- Stretches of steps of the machine: how runs follow one another and begin, conditions one after another, and values chosen one after another.
use Rattle.std.proofs.Common.{◌≡◌, ◌⊎◌, inl, inr, ⊎_elim, ℕ, zero, suc, ◌+◌, ◌<◌, ◌≤◌, ℤ, pos, negsuc, Bool, true, false, not, List, [], ◌∷◌, ◌++◌, take, length, Option, None, Some, slice_get, refl, ap, ap₂, sym, ◌∙◌, subst, arith, ltb-true, lt-ltb, add-zero, if◌then◌else◌}
use Rattle.std.proofs.lemmas.Bool.{true≢false, false≢true}
use Rattle.math_facts.specs.Optional.{or_zero}
use Rattle.boogie_tree.specs.declared.tree.Ty.{Ty}
use Rattle.boogie_tree.specs.declared.tree.Ty.TheVariants as types
use Rattle.typed_tree.specs.TypedTree.{TypedInvariant, TypedProgram}
use Rattle.typed_tree.specs.Values.{State, value, value_is_zero}
use Rattle.typed_tree.specs.TypingRules.Counts.{plain_invariants, one_if_plain}
use Rattle.boogie_run.specs.Configurations.{Config}
use Rattle.boogie_run.specs.Needs.{Need, Nothing, Truth, Below, need, is_taken, need_of_type}
use Rattle.boogie_run.specs.Steps.{Outcome, Went, Blocked, Failed, Ended, Refused, step, next}
use Rattle.boogie_run.specs.Runs.{run, then_goes_on}
use Rattle.boogie_run.specs.RunRules.Conditions.{AreMet, Breaks, IsOfType, AreOfTypes}
use Rattle.boogie_run.specs.RunRules.Ties.Stretches.{outcome_of, ConditionsFollow, ChoicesFollow, FailsFrom, Reaches, ReachesFailure}

-- ---- outcomes

goes_append : (t : TypedProgram) (d : Config) (o : Outcome) (xs ys : List (Option ℤ)) → ((e : Config) → run t e xs ≡ Went d → run t e (xs ++ ys) ≡ run t d ys) →
    then_goes_on o (λ e. run t e xs) ≡ Went d → then_goes_on o (λ e. run t e (xs ++ ys)) ≡ run t d ys
goes_append t d (Went e) xs ys more h = more e h
goes_append t d Blocked xs ys more h = absurd (cc)
goes_append t d (Failed m) xs ys more h = absurd (cc)
goes_append t d Ended xs ys more h = absurd (cc)
goes_append t d Refused xs ys more h = absurd (cc)

goes_fails : (t : TypedProgram) (n : ℕ) (o : Outcome) (rest : List (Option ℤ)) → then_goes_on o (λ e. run t e rest) ≡ Failed n →
    (o ≡ Failed n) ⊎ ((d : Config) × (o ≡ Went d) × (run t d rest ≡ Failed n))
goes_fails t n (Went e) rest h = inr (e, refl, h)
goes_fails t n Blocked rest h = absurd (cc)
goes_fails t n (Failed m) rest h = inl h
goes_fails t n Ended rest h = absurd (cc)
goes_fails t n Refused rest h = absurd (cc)

not_refused : (b : Bool) (o p : Outcome) → (if b then o else Refused) ≡ p → (Refused ≡ p → ⊥) → b ≡ true
not_refused true o p h k = refl
not_refused false o p h k = absurd (k h)

met_goes : (b free : Bool) (m : ℕ) (c : Config) → b ≡ false → (if not b then Went c else (if free then Blocked else Failed m)) ≡ Went c
met_goes true free m c h = absurd (true≢false h)
met_goes false free m c h = refl

broken_fails : (b free : Bool) (m n : ℕ) (c : Config) → b ≡ true → free ≡ false → m ≡ n → (if not b then Went c else (if free then Blocked else Failed m)) ≡ Failed n
broken_fails true true m n c h f e = absurd (true≢false f)
broken_fails true false m n c h f e = ap Failed e
broken_fails false free m n c h f e = absurd (false≢true h)

failed_broken : (b free : Bool) (m n : ℕ) (c : Config) → (if not b then Went c else (if free then Blocked else Failed m)) ≡ Failed n → (b ≡ true) × (free ≡ false) × (m ≡ n)
failed_broken true true m n c h = absurd (cc)
failed_broken true false m n c h = (refl, refl, cc)
failed_broken false free m n c h = absurd (cc)

went_met : (b free : Bool) (m : ℕ) (c d : Config) → (if not b then Went c else (if free then Blocked else Failed m)) ≡ Went d → (b ≡ false) × (c ≡ d)
went_met true true m c d h = absurd (cc)
went_met true false m c d h = absurd (cc)
went_met false free m c d h = (refl, cc)

-- ---- how runs follow one another

-- taking some choices and then others
pub run_append : (t : TypedProgram) (c d : Config) (xs ys : List (Option ℤ)) → run t c xs ≡ Went d → run t c (xs ++ ys) ≡ run t d ys
run_append t c d [] ys h = let e : c ≡ d = cc in ap (λ (x : Config). run t x ys) e
run_append t c d (x ∷ xs) ys h = goes_append t d (step t c x) xs ys (λ (e : Config) (k : run t e xs ≡ Went d). run_append t e d xs ys k) h

pub reaches_same : (t : TypedProgram) (c d : Config) → c ≡ d → Reaches t c d
reaches_same t c d h = ([], ap Went h)

pub reaches_more : (t : TypedProgram) (c d e : Config) → Reaches t c d → Reaches t d e → Reaches t c e
reaches_more t c d e h k = (h.0 ++ k.0, run_append t c d h.0 k.0 h.1 ∙ k.1)

pub one_step : (t : TypedProgram) (c d : Config) (choice : Option ℤ) → step t c choice ≡ Went d → Reaches t c d
one_step t c d choice h = (choice ∷ [], ap (λ (o : Outcome). then_goes_on o (λ e. run t e [])) h)

pub step_then : (t : TypedProgram) (c d e : Config) (choice : Option ℤ) → step t c choice ≡ Went d → Reaches t d e → Reaches t c e
step_then t c d e choice h k = reaches_more t c d e (one_step t c d choice h) k

pub reaches_fails : (t : TypedProgram) (c d : Config) (n : ℕ) → Reaches t c d → ReachesFailure t d n → ReachesFailure t c n
reaches_fails t c d n h k = (h.0 ++ k.0, run_append t c d h.0 k.0 h.1 ∙ k.1)

pub one_failure : (t : TypedProgram) (c : Config) (n : ℕ) (choice : Option ℤ) → step t c choice ≡ Failed n → ReachesFailure t c n
one_failure t c n choice h = (choice ∷ [], ap (λ (o : Outcome). then_goes_on o (λ e. run t e [])) h)

-- ---- what is taken

none_taken : (choice : Option ℤ) → is_taken Nothing choice ≡ true → choice ≡ None
none_taken None h = refl
none_taken (Some z) h = absurd (false≢true h)

pub nothing_taken : (n : Need) (choice : Option ℤ) → n ≡ Nothing → is_taken n choice ≡ true → choice ≡ None
nothing_taken n choice e h = none_taken choice (ap (λ (m : Need). is_taken m choice) (sym e) ∙ h)

pub takes_nothing : (n : Need) → n ≡ Nothing → is_taken n None ≡ true
takes_nothing n e = ap (λ (m : Need). is_taken m None) e

pub below_taken : (m : ℕ) (choice : Option ℤ) → is_taken (Below m) choice ≡ true → (k : ℕ) × (choice ≡ Some (pos k)) × (k < m)
below_taken m None h = absurd (false≢true h)
below_taken m (Some (pos k)) h = (k, refl, ltb-true k m h)
below_taken m (Some (negsuc k)) h = absurd (false≢true h)

pub takes_below : (m k : ℕ) → k < m → is_taken (Below m) (Some (pos k)) ≡ true
takes_below m k h = lt-ltb k m h

pub taken_type : (ty : Ty) (choice : Option ℤ) → is_taken (need_of_type ty) choice ≡ true → (v : ℤ) × (choice ≡ Some v) × IsOfType ty v
taken_type types.Int None h = absurd (false≢true h)
taken_type types.Int (Some v) h = (v, refl, tt)
taken_type types.Bool None h = absurd (false≢true h)
taken_type types.Bool (Some (pos zero)) h = (pos 0, refl, inl refl)
taken_type types.Bool (Some (pos (suc zero))) h = (pos 1, refl, inr refl)
taken_type types.Bool (Some (pos (suc (suc k)))) h = let less : suc (suc k) < 2 = ltb-true (suc (suc k)) 2 h in absurd (omega arith)
taken_type types.Bool (Some (negsuc k)) h = absurd (false≢true h)

pub takes_type : (ty : Ty) (v : ℤ) → IsOfType ty v → is_taken (need_of_type ty) (Some v) ≡ true
takes_type types.Int v h = refl
takes_type types.Bool v h = ⊎_elim (λ e. ap (λ (z : ℤ). is_taken Truth (Some z)) e) (λ e. ap (λ (z : ℤ). is_taken Truth (Some z)) e) h

-- ---- how a run begins that fails

-- A run that fails takes a choice first, and that step fails or goes on.
pub fails_step : (t : TypedProgram) (c : Config) (choices : List (Option ℤ)) (n : ℕ) → run t c choices ≡ Failed n →
    (choice : Option ℤ) × (rest : List (Option ℤ)) × (choices ≡ choice ∷ rest)
    × ((step t c choice ≡ Failed n) ⊎ ((d : Config) × (step t c choice ≡ Went d) × (run t d rest ≡ Failed n)))
fails_step t c [] n h = absurd (cc)
fails_step t c (x ∷ xs) n h = (x, xs, refl, goes_fails t n (step t c x) xs h)

-- a step that goes on, or fails, took its choice
pub taken_if_went : (t : TypedProgram) (c d : Config) (choice : Option ℤ) → step t c choice ≡ Went d → is_taken (need t c) choice ≡ true
taken_if_went t c d choice h = not_refused (is_taken (need t c) choice) (next t c (or_zero choice)) (Went d) h (λ (e : Refused ≡ Went d). cc)

pub taken_if_failed : (t : TypedProgram) (c : Config) (n : ℕ) (choice : Option ℤ) → step t c choice ≡ Failed n → is_taken (need t c) choice ≡ true
taken_if_failed t c n choice h = not_refused (is_taken (need t c) choice) (next t c (or_zero choice)) (Failed n) h (λ (e : Refused ≡ Failed n). cc)

-- The first step of a run that fails by at most one step more than the bound: the choice is one that is taken, and the step fails or goes on.
pub record FirstStep (t : TypedProgram) (c : Config) (n bound : ℕ) : Type 0 where
  pub choice : Option ℤ
  pub taken : is_taken (need t c) choice ≡ true
  pub goes : (step t c choice ≡ Failed n) ⊎ ((d : Config) × (step t c choice ≡ Went d) × FailsFrom t d n bound)

pub first_step : (t : TypedProgram) (c : Config) (choices : List (Option ℤ)) (n bound : ℕ) → length choices ≤ suc bound → run t c choices ≡ Failed n →
    FirstStep t c n bound
first_step t c [] n bound most h = absurd (cc)
first_step t c (x ∷ xs) n bound most h =
    let s = goes_fails t n (step t c x) xs h in
    record {
      choice = x;
      taken = ⊎_elim (λ e. taken_if_failed t c n x e) (λ p. taken_if_went t c p.0 x p.1) s;
      goes = ⊎_elim (λ e. inl e) (λ p. inr (p.0, p.1, record { choices = xs; most = omega arith; fails = p.2 })) s;
    }

failed_went : (n : ℕ) (d : Config) → Failed n ≡ Went d → ⊥
failed_went n d h = cc

same_went : (c d : Config) → Went c ≡ Went d → c ≡ d
same_went c d h = cc

-- a step that goes on to one configuration, whatever is taken
pub step_sound_by : (t : TypedProgram) (c d : Config) (choices : List (Option ℤ)) (n bound : ℕ) → ((choice : Option ℤ) → is_taken (need t c) choice ≡ true → step t c choice ≡ Went d) →
    length choices ≤ suc bound → run t c choices ≡ Failed n → FailsFrom t d n bound
step_sound_by t c d choices n bound goes most h =
    let f = first_step t c choices n bound most h in
    let w : step t c f.choice ≡ Went d = goes f.choice f.taken in
    ⊎_elim (λ e. absurd (failed_went n d (sym e ∙ w))) (λ p. subst (λ (x : Config). FailsFrom t x n bound) (same_went p.0 d (sym p.1 ∙ w)) p.2) f.goes

-- a step that takes nothing and goes on
pub step_sound : (t : TypedProgram) (c d : Config) (choices : List (Option ℤ)) (n bound : ℕ) → need t c ≡ Nothing → step t c None ≡ Went d →
    length choices ≤ suc bound → run t c choices ≡ Failed n → FailsFrom t d n bound
step_sound t c d choices n bound nothing goes most h =
    step_sound_by t c d choices n bound (λ choice taken. ap (step t c) (nothing_taken (need t c) choice nothing taken) ∙ goes) most h

-- a step that takes nothing, whatever its outcome
pub outcome_sound : (t : TypedProgram) (c : Config) (o : Outcome) (choices : List (Option ℤ)) (n bound : ℕ) → need t c ≡ Nothing → step t c None ≡ o →
    length choices ≤ suc bound → run t c choices ≡ Failed n → (o ≡ Failed n) ⊎ ((d : Config) × (o ≡ Went d) × FailsFrom t d n bound)
outcome_sound t c o choices n bound nothing goes most h =
    let f = first_step t c choices n bound most h in
    let w : step t c f.choice ≡ o = ap (step t c) (nothing_taken (need t c) f.choice nothing f.taken) ∙ goes in
    ⊎_elim (λ e. inl (sym w ∙ e)) (λ p. inr (p.0, sym w ∙ p.1, p.2)) f.goes

pub more_bound : (t : TypedProgram) (c : Config) (n a b : ℕ) → a ≤ b → FailsFrom t c n a → FailsFrom t c n b
more_bound t c n a b h f = record { choices = f.choices; most = omega arith; fails = f.fails }

-- ---- conditions one after another

-- behind the first condition the others follow
tail_follows : (t : TypedProgram) (at : ℕ → Config) (s : State) (i : TypedInvariant) (is : List TypedInvariant) (id : ℕ) → ConditionsFollow t at s (i ∷ is) id →
    ConditionsFollow t (λ k. at (suc k)) s is (id + one_if_plain i)
tail_follows t at s i is id follow =
    λ (k : ℕ) (j : TypedInvariant) (e : slice_get is k ≡ Some j).
    let f = follow (suc k) j e in
    let same_id : id + (one_if_plain i + plain_invariants (take k is)) ≡ (id + one_if_plain i) + plain_invariants (take k is) = omega arith in
    let same_next : suc k + 1 ≡ suc (k + 1) = omega arith in
    (f.0 ∙ ap₂ (λ (m : ℕ) (c : Config). outcome_of s j m c) same_id (ap at same_next), f.1)

-- the step at the first condition
first_outcome : (t : TypedProgram) (at : ℕ → Config) (s : State) (i : TypedInvariant) (is : List TypedInvariant) (id : ℕ) → ConditionsFollow t at s (i ∷ is) id →
    step t (at 0) None ≡ outcome_of s i id (at 1)
first_outcome t at s i is id follow = (follow 0 i refl).0 ∙ ap (λ (m : ℕ). outcome_of s i m (at 1)) (add-zero id)

pub conditions_met : (t : TypedProgram) (at : ℕ → Config) (s : State) (is : List TypedInvariant) (id : ℕ) → ConditionsFollow t at s is id → AreMet s is →
    Reaches t (at 0) (at (length is))
conditions_met t at s [] id follow met = reaches_same t (at 0) (at 0) refl
conditions_met t at s (i ∷ is) id follow met =
    step_then t (at 0) (at 1) (at (suc (length is))) None
    (first_outcome t at s i is id follow ∙ met_goes (value_is_zero (value s i.cond)) i.free id (at 1) met.0)
    (conditions_met t (λ k. at (suc k)) s is (id + one_if_plain i) (tail_follows t at s i is id follow) met.1)

pub conditions_break : (t : TypedProgram) (at : ℕ → Config) (s : State) (is : List TypedInvariant) (id n : ℕ) → ConditionsFollow t at s is id → Breaks s is id n →
    ReachesFailure t (at 0) n
conditions_break t at s [] id n follow breaks = absurd breaks
conditions_break t at s (i ∷ is) id n follow breaks =
    ⊎_elim
    (λ b. one_failure t (at 0) n None (first_outcome t at s i is id follow ∙ broken_fails (value_is_zero (value s i.cond)) i.free id n (at 1) b.0 b.1 b.2))
    (λ b. reaches_fails t (at 0) (at 1) n
    (one_step t (at 0) (at 1) None (first_outcome t at s i is id follow ∙ met_goes (value_is_zero (value s i.cond)) i.free id (at 1) b.0))
    (conditions_break t (λ k. at (suc k)) s is (id + one_if_plain i) n (tail_follows t at s i is id follow) b.1))
    breaks

-- by a run that has at most so many steps more than there are conditions
pub conditions_sound_by : (t : TypedProgram) (at : ℕ → Config) (s : State) (is : List TypedInvariant) (id : ℕ) (choices : List (Option ℤ)) (n bound : ℕ) →
    ConditionsFollow t at s is id → length choices ≤ length is + bound → run t (at 0) choices ≡ Failed n →
    Breaks s is id n ⊎ (AreMet s is × FailsFrom t (at (length is)) n bound)
conditions_sound_by t at s [] id choices n bound follow most h = inr (tt, record { choices = choices; most = omega arith; fails = h })
conditions_sound_by t at s (i ∷ is) id choices n bound follow most h =
    let f = first_step t (at 0) choices n (length is + bound) (omega arith) h in
    let out : step t (at 0) f.choice ≡ outcome_of s i id (at 1) = ap (step t (at 0)) ((follow 0 i refl).1 f.choice f.taken) ∙ first_outcome t at s i is id follow in
    ⊎_elim
    (λ e. inl (inl (failed_broken (value_is_zero (value s i.cond)) i.free id n (at 1) (sym out ∙ e))))
    (λ p.
    let w = went_met (value_is_zero (value s i.cond)) i.free id (at 1) p.0 (sym out ∙ p.1) in
    let rest = conditions_sound_by t (λ k. at (suc k)) s is (id + one_if_plain i) p.2.choices n bound (tail_follows t at s i is id follow) p.2.most
    (ap (λ (c : Config). run t c p.2.choices) w.1 ∙ p.2.fails) in
    ⊎_elim (λ b. inl (inr (w.0, b))) (λ m. inr ((w.0, m.0), m.1)) rest)
    f.goes

pub conditions_sound_most : (t : TypedProgram) (at : ℕ → Config) (s : State) (is : List TypedInvariant) (id : ℕ) (choices : List (Option ℤ)) (n bound : ℕ) →
    ConditionsFollow t at s is id → length choices ≤ bound → run t (at 0) choices ≡ Failed n →
    Breaks s is id n ⊎ (AreMet s is × FailsFrom t (at (length is)) n bound)
conditions_sound_most t at s is id choices n bound follow most h = conditions_sound_by t at s is id choices n bound follow (omega arith) h

pub conditions_sound : (t : TypedProgram) (at : ℕ → Config) (s : State) (is : List TypedInvariant) (id : ℕ) (choices : List (Option ℤ)) (n : ℕ) →
    ConditionsFollow t at s is id → run t (at 0) choices ≡ Failed n →
    Breaks s is id n ⊎ (AreMet s is × FailsFrom t (at (length is)) n (length choices))
conditions_sound t at s is id choices n follow h = conditions_sound_by t at s is id choices n (length choices) follow (omega arith) h

-- ---- values chosen one after another

-- behind the first value the others follow
tail_choices : (t : TypedProgram) (at : List ℤ → Config) (ty : Ty) (tys : List Ty) (v : ℤ) → ChoicesFollow t at (ty ∷ tys) → ChoicesFollow t (λ ws. at (v ∷ ws)) tys
tail_choices t at ty tys v follow = λ ws ty' e. follow (v ∷ ws) ty' e

-- as many values as types
pub of_types_length : (tys : List Ty) (vs : List ℤ) → AreOfTypes tys vs → length tys ≡ length vs
of_types_length [] [] of = refl
of_types_length [] (v ∷ vs) of = absurd of
of_types_length (ty ∷ tys) [] of = absurd of
of_types_length (ty ∷ tys) (v ∷ vs) of = ap suc (of_types_length tys vs of.1)

pub choices_made : (t : TypedProgram) (at : List ℤ → Config) (tys : List Ty) (vs : List ℤ) → ChoicesFollow t at tys → AreOfTypes tys vs → Reaches t (at []) (at vs)
choices_made t at [] [] follow of = reaches_same t (at []) (at []) refl
choices_made t at [] (v ∷ vs) follow of = absurd of
choices_made t at (ty ∷ tys) [] follow of = absurd of
choices_made t at (ty ∷ tys) (v ∷ vs) follow of =
    step_then t (at []) (at (v ∷ [])) (at (v ∷ vs)) (Some v) ((follow [] ty refl).1 v (takes_type ty v of.0))
    (choices_made t (λ ws. at (v ∷ ws)) tys vs (tail_choices t at ty tys v follow) of.1)

-- by a run that has at most so many steps more than there are choices
pub choices_sound_by : (t : TypedProgram) (at : List ℤ → Config) (tys : List Ty) (choices : List (Option ℤ)) (n bound : ℕ) → ChoicesFollow t at tys →
    length choices ≤ length tys + bound → run t (at []) choices ≡ Failed n → (vs : List ℤ) × AreOfTypes tys vs × FailsFrom t (at vs) n bound
choices_sound_by t at [] choices n bound follow most h = ([], tt, record { choices = choices; most = omega arith; fails = h })
choices_sound_by t at (ty ∷ tys) choices n bound follow most h =
    let f = first_step t (at []) choices n (length tys + bound) (omega arith) h in
    let of = taken_type ty f.choice (ap (λ (m : Need). is_taken m f.choice) (sym (follow [] ty refl).0) ∙ f.taken) in
    let goes : step t (at []) f.choice ≡ Went (at (of.0 ∷ [])) = ap (step t (at [])) of.1 ∙ (follow [] ty refl).1 of.0 (takes_type ty of.0 of.2) in
    ⊎_elim
    (λ e. absurd (failed_went n (at (of.0 ∷ [])) (sym e ∙ goes)))
    (λ p.
    let rest = choices_sound_by t (λ ws. at (of.0 ∷ ws)) tys p.2.choices n bound (tail_choices t at ty tys of.0 follow) p.2.most
    (ap (λ (c : Config). run t c p.2.choices) (same_went (at (of.0 ∷ [])) p.0 (sym goes ∙ p.1)) ∙ p.2.fails) in
    (of.0 ∷ rest.0, (of.2, rest.1), rest.2))
    f.goes

pub choices_sound_most : (t : TypedProgram) (at : List ℤ → Config) (tys : List Ty) (choices : List (Option ℤ)) (n bound : ℕ) → ChoicesFollow t at tys →
    length choices ≤ bound → run t (at []) choices ≡ Failed n → (vs : List ℤ) × AreOfTypes tys vs × FailsFrom t (at vs) n bound
choices_sound_most t at tys choices n bound follow most h = choices_sound_by t at tys choices n bound follow (omega arith) h

pub choices_sound : (t : TypedProgram) (at : List ℤ → Config) (tys : List Ty) (choices : List (Option ℤ)) (n : ℕ) → ChoicesFollow t at tys →
    run t (at []) choices ≡ Failed n → (vs : List ℤ) × AreOfTypes tys vs × FailsFrom t (at vs) n (length choices)
choices_sound t at tys choices n follow h = choices_sound_by t at tys choices n (length choices) follow (omega arith) h
