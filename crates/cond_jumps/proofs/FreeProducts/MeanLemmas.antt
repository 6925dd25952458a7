-- The letters of conditions and assignments mean what they say.
use Rattle.std.proofs.Common.{◌≡◌, inl, inr, ℕ, suc, ◌+◌, ◌-◌, ◌≤◌, Bool, true, false, ℤ, List, [], ◌∷◌, ◌++◌, map, length, append-nil, Some, refl, ap, sym, ◌∙◌, subst, arith}
use Rattle.std.specs.List.{AllByRecursion}
use Rattle.boogie_tree.specs.declared.tree.Column.{Column}
use Rattle.boogie_tree.specs.declared.tree.Column.TheVariants as columns
use Rattle.boogie_tree.specs.declared.tree.Ty.{Ty}
use Rattle.boogie_tree.specs.declared.tree.Ty.TheVariants as types
use Rattle.typed_tree.specs.TypedTree.{TypedExpression}
use Rattle.typed_tree.specs.Values.{State, column_value, value, truth}
use Rattle.typed_tree.specs.AffineForm.{is_linear}
use Rattle.letter_acts.proofs.PointLemmas.{state_length}
use Rattle.cond_jumps.specs.Conjunctions.{Conjunction}
use Rattle.cond_jumps.specs.Environments.{Environment, type_in}
use Rattle.cond_jumps.specs.Frames.{frame_environment, fixed_in}
use Rattle.cond_jumps.specs.Lists.{SomeIsMet, Decide, AreValues, path_list, assign_list}
use Rattle.cond_jumps.specs.Worth.{IsSound}
use Rattle.cond_jumps.proofs.ListLemmas.{paths_decide, assigns_decide}
use Rattle.cond_jumps.specs.FreeProducts.FreeProducts.{free_products, freed, all_free_products, all_freed}
use Rattle.cond_jumps.specs.FreeProducts.Letters.{MarkedConjunction, marked_letter}
use Rattle.cond_jumps.specs.FreeProducts.FrameLetters.{widened, product_count, all_product_count, path_letters}
use Rattle.cond_jumps.specs.FreeProducts.LetterLaws.{SomeLetterIsMet, SomeExactLetterIsMet}
use Rattle.cond_jumps.specs.FreeProducts.FrameLaws.{IsDividedValue, Marks, ConditionsMean, AssignmentsMean}
use Rattle.cond_jumps.proofs.FreeProducts.LetterLemmas.{letters_follow, exact_letters_lead}
use Rattle.cond_jumps.proofs.FreeProducts.FreedLemmas.{freed_linear, freed_type, freed_value, AreNumbers, LocalsAre, locals_split, map_append, map_length, length_append}
use Rattle.cond_jumps.proofs.FreeProducts.WidenedLemmas.{same_fixed, same_type_in, are_numbers, grown, same_column_value, locals_grown, shown_widened}

-- ---- lists

some_follows : (values products news : List ℤ) (cs : List Conjunction) → SomeIsMet ((values ++ products) ++ news) cs →
    SomeLetterIsMet (values ++ news) (map (marked_letter (length values) (length products) (length news)) cs)
some_follows values products news [] h = absurd h
some_follows values products news (c ∷ cs) (inl h) = inl (letters_follow values products news c h)
some_follows values products news (c ∷ cs) (inr h) = inr (some_follows values products news cs h)

some_leads : (values products news : List ℤ) (cs : List Conjunction) → SomeExactLetterIsMet (values ++ news) (map (marked_letter (length values) (length products) (length news)) cs) →
    SomeIsMet ((values ++ products) ++ news) cs
some_leads values products news [] h = absurd h
some_leads values products news (c ∷ cs) (inl h) = inl (exact_letters_lead values products news c h.0 h.1)
some_leads values products news (c ∷ cs) (inr h) = inr (some_leads values products news cs h)

-- what decides a fact over the products marks it by the letters
pub marks_of : (values products news : List ℤ) (cs : List Conjunction) (P : Type 0) (low count more : ℕ) → length values ≡ low → length products ≡ count → length news ≡ more →
    Decide ((values ++ products) ++ news) cs P → Marks (values ++ news) (map (marked_letter low count more) cs) P
marks_of values products news cs P low count more e f g h =
    subst (λ (ls : List MarkedConjunction). Marks (values ++ news) ls P) (λ i. map (marked_letter (e i) (f i) (g i)) cs)
    (record {
      follow = λ p. some_follows values products news cs (h.exactly.1 p);
      lead = λ m. h.exactly.0 (some_leads values products news cs m);
    })

pub decide_as : (values : List ℤ) (cs : List Conjunction) (P Q : Type 0) → (P → Q) → (Q → P) → Decide values cs P → Decide values cs Q
decide_as values cs P Q f g h = record { exactly = ((λ m. f (h.exactly.0 m)), (λ q. h.exactly.1 (g q))); once = h.once; unique = h.unique }

-- ---- conditions

pub conditions_mean : ConditionsMean
conditions_mean frame s values e want h c =
    let m : ℕ = length s.locals in
    let g : Column → Bool = fixed_in frame in
    let ps : List TypedExpression = free_products g false e in
    let k : ℕ = product_count frame e in
    let products : List ℤ = map (value s) ps in
    let many : length products ≡ k = map_length (value s) ps in
    let u : State = grown s products in
    let type_is : type_in (frame_environment (widened frame m k)) false (freed g m false e) ≡ Some types.Bool =
    freed_type g (frame_environment frame) (frame_environment (widened frame m k)) (same_type_in frame m k) m false e types.Bool c.typed (are_numbers frame m k h.locals) in
    let linear_is : is_linear (fixed_in (widened frame m k)) false (freed g m false e) ≡ true =
    ap (λ (f : Column → Bool). is_linear f false (freed g m false e)) (same_fixed frame m k) ∙ freed_linear g m false e c.divided in
    let same : value u (freed g m false e) ≡ value s e =
    freed_value g (frame_environment frame) s u (same_column_value frame s products h.locals) m false e types.Bool c.typed (locals_grown s.locals products m refl) in
    let d : Decide (values ++ products) (path_list (widened frame m k) (freed g m false e) want) (value u (freed g m false e) ≡ truth want) =
    paths_decide (widened frame m k) u (values ++ products) (freed g m false e) want (shown_widened frame s values products k many h) (record { typed = type_is; linear = linear_is }) in
    let d2 : Decide (values ++ products) (path_list (widened frame m k) (freed g m false e) want) (value s e ≡ truth want) =
    decide_as (values ++ products) (path_list (widened frame m k) (freed g m false e) want) (value u (freed g m false e) ≡ truth want) (value s e ≡ truth want)
    (λ p. sym same ∙ p) (λ p. same ∙ p) d in
    let d3 : Decide ((values ++ products) ++ []) (path_list (widened frame m k) (freed g m false e) want) (value s e ≡ truth want) =
    subst (λ (vs : List ℤ). Decide vs (path_list (widened frame m k) (freed g m false e) want) (value s e ≡ truth want)) (sym (append-nil (values ++ products))) d2 in
    subst (λ (vs : List ℤ). Marks vs (path_letters frame m e want) (value s e ≡ truth want)) (append-nil values)
    (marks_of values products [] (path_list (widened frame m k) (freed g m false e) want) (value s e ≡ truth want) (length frame) k 0 (state_length frame values h.shown.state) many refl d3)

-- ---- assignments

pub numbers_part : (v : Environment) (n m k j : ℕ) → m + j ≡ n + k → n ≤ m → AreNumbers v n k → AreNumbers v m j
numbers_part v n m k j e l h = λ i q.
    let d : ℕ = m - n in
    let z : n + (d + i) ≡ m + i = omega (arith, l) in
    ap (λ (c : ℕ). v.type (columns.Local c)) (sym z) ∙ h (d + i) (omega (arith, e, l))

-- the values of an assignment are typed and linear over the frame and the products
pub all_sound : (g : Column → Bool) (v u : Environment) → u.fixed ≡ g → ((c : Column) (t : Ty) → v.type c ≡ Some t → u.type c ≡ Some t) → (n : ℕ) (es : List TypedExpression) →
    AllByRecursion (IsDividedValue v) es → AreNumbers u n (length (all_free_products g es)) → AllByRecursion (IsSound u) (all_freed g n es)
all_sound g v u f t n [] h k = tt
all_sound g v u f t n (e ∷ es) h k =
    let a : ℕ = length (free_products g false e) in
    let l : length (all_free_products g (e ∷ es)) ≡ a + length (all_free_products g es) = length_append (free_products g false e) (all_free_products g es) in (
      record {
        type = h.0.type;
        typed = freed_type g v u t n false e h.0.type h.0.typed (λ i q. k i (omega (arith, l, q)));
        linear = ap (λ (z : Column → Bool). is_linear z false (freed g n false e)) f ∙ freed_linear g n false e h.0.divided;
      },
      all_sound g v u f t (n + a) es h.1 (numbers_part u n (n + a) (length (all_free_products g (e ∷ es))) (length (all_free_products g es)) (omega (arith, l)) (omega arith) k),
    )

-- and their values are those of the given ones
pub all_values : (g : Column → Bool) (v : Environment) (s u : State) → ((c : Column) (t : Ty) → v.type c ≡ Some t → column_value u c ≡ column_value s c) → (n : ℕ) (es : List TypedExpression) →
    AllByRecursion (IsDividedValue v) es → LocalsAre u.locals n (map (value s) (all_free_products g es)) → map (value u) (all_freed g n es) ≡ map (value s) es
all_values g v s u f n [] h k = refl
all_values g v s u f n (e ∷ es) h k =
    let a : ℕ = length (free_products g false e) in
    let l : length (map (value s) (free_products g false e)) ≡ a = map_length (value s) (free_products g false e) in
    let p = locals_split u.locals n (n + a) (map (value s) (free_products g false e)) (map (value s) (all_free_products g es)) (omega (arith, l))
    (subst (LocalsAre u.locals n) (map_append (value s) (free_products g false e) (all_free_products g es)) k) in
    let x : value u (freed g n false e) ≡ value s e = freed_value g v s u f n false e h.0.type h.0.typed p.0 in
    let y : map (value u) (all_freed g (n + a) es) ≡ map (value s) es = all_values g v s u f (n + a) es h.1 p.1 in
    λ i. x i ∷ y i

pub all_freed_length : (g : Column → Bool) (n : ℕ) (es : List TypedExpression) → length (all_freed g n es) ≡ length es
all_freed_length g n [] = refl
all_freed_length g n (e ∷ es) = ap suc (all_freed_length g (n + length (free_products g false e)) es)

pub assignments_mean : AssignmentsMean
assignments_mean frame s values news es h c l =
    let m : ℕ = length s.locals in
    let g : Column → Bool = fixed_in frame in
    let ps : List TypedExpression = all_free_products g es in
    let k : ℕ = all_product_count frame es in
    let products : List ℤ = map (value s) ps in
    let many : length products ≡ k = map_length (value s) ps in
    let u : State = grown s products in
    let fs : List TypedExpression = all_freed g m es in
    let sound : AreValues (widened frame m k) fs =
    all_sound g (frame_environment frame) (frame_environment (widened frame m k)) (same_fixed frame m k) (same_type_in frame m k) m es c (are_numbers frame m k h.locals) in
    let same : map (value u) fs ≡ map (value s) es =
    all_values g (frame_environment frame) s u (same_column_value frame s products h.locals) m es c (locals_grown s.locals products m refl) in
    let d : Decide ((values ++ products) ++ news) (assign_list (widened frame m k) (length fs) fs) (news ≡ map (value u) fs) =
    assigns_decide (widened frame m k) u (values ++ products) news fs (shown_widened frame s values products k many h) sound (l ∙ sym (all_freed_length g m es)) in
    let d2 : Decide ((values ++ products) ++ news) (assign_list (widened frame m k) (length fs) fs) (news ≡ map (value s) es) =
    subst (λ (zs : List ℤ). Decide ((values ++ products) ++ news) (assign_list (widened frame m k) (length fs) fs) (news ≡ zs)) same d in
    let d3 : Decide ((values ++ products) ++ news) (assign_list (widened frame m k) (length es) fs) (news ≡ map (value s) es) =
    subst (λ (n : ℕ). Decide ((values ++ products) ++ news) (assign_list (widened frame m k) n fs) (news ≡ map (value s) es)) (all_freed_length g m es) d2 in
    marks_of values products news (assign_list (widened frame m k) (length es) fs) (news ≡ map (value s) es) (length frame) k (length es) (state_length frame values h.shown.state) many l d3
