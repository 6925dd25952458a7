-- The rows of the rest of a word name versions of the frame, of frames that are returned to, and new ones alone.
use Rattle.std.proofs.Common.{◌≡◌, ◌⊎◌, inl, inr, ℕ, zero, suc, ◌+◌, ◌-◌, ◌<◌, ◌≤◌, List, [], ◌∷◌, ◌++◌, length, map, take, drop, refl, sym, ap, subst, arith, Option, None, Some}
use Rattle.std.specs.Prelude.{slice_get, slice_index}
use Rattle.std.specs.List.{AllByRecursion}
use Rattle.math_facts.specs.Terms.{IsBelow}
use Rattle.nwa_base.specs.declared.letters.Kind.{Kind}
use Rattle.nwa_base.specs.declared.letters.Kind.TheVariants as kinds
use Rattle.nwa_base.specs.declared.letters.Letter.{Letter}
use Rattle.nwa_base.specs.Members.{Member}
use Rattle.lin_rows.specs.Rows.{LinearRow}
use Rattle.letter_acts.specs.Frames.{Columns, globals_of, variables_of, result_columns}
use Rattle.letter_acts.specs.Acts.{PlainAct, inside_act, call_act, back_act, Alphabet, frame_of, act_of}
use Rattle.letter_acts.specs.FrameRows.Rows.{bounds, types_of, types_at, columns_from}
use Rattle.path_rows.specs.Versions.{PathStage, Part, part_rows, inside_part, local_columns, old_part, entered_versions, call_part, returned, back_part, return_part, act_part, part_of}
use Rattle.path_rows.specs.Paths.{path_along}
use Rattle.nested_itp.specs.NestedPredicates.Walking.{unmatched_before, unmatched}
use Rattle.nested_itp.proofs.NestedRefutations.NamesLaws.{NamesOnly, names_weaker, all_joined, index_member, renamed_named, bounds_named, entries_named, columns_bounds, member_joined, member_taken, member_dropped, member_written}

-- what a letter's rows may name
abbrev pub Known : PathStage → ℕ → ℕ → Type 0
Known p made x = ((p.made ≤ x) × (x < made)) ⊎ Member p.here x

-- what is asked of a letter where the path has come to: its rows name columns that there are, and so do a call's globals
abbrev pub LetterNames : Alphabet → Option PlainAct → PathStage → Type 0
LetterNames al None p = Unit {0}
LetterNames al (Some (inside_act q written helpers rows)) p = AllByRecursion (λ r. IsBelow (length (p.here ++ columns_from p.made (length written + helpers))) r.terms) rows
LetterNames al (Some (call_act caller callee helpers rows)) p =
    let locals = length (local_columns (frame_of al callee)) in
    AllByRecursion (λ r. IsBelow (length (p.here ++ (entered_versions (frame_of al callee) p.made (p.made + locals + helpers) p.here ++ columns_from (p.made + locals) helpers))) r.terms) rows ×
    AllByRecursion (λ c. c < length p.here) (variables_of (frame_of al callee)) × (length (variables_of (frame_of al callee)) ≡ length (old_part (frame_of al callee)))
LetterNames al (Some (back_act c targets)) p = Unit {0}

length_at : (frame : Columns) (columns : List ℕ) → length (types_at frame columns) ≡ length columns
length_at frame [] = refl
length_at frame (c ∷ columns) = ap suc (length_at frame columns)

length_types : (frame : Columns) → length (types_of frame) ≡ length frame
length_types [] = refl
length_types (c ∷ frame) = ap suc (length_types frame)

indexed_member : (xs is : List ℕ) (x : ℕ) → AllByRecursion (λ i. i < length xs) is → Member (map (slice_index xs) is) x → Member xs x
indexed_member xs [] x h m = absurd m
indexed_member xs (i ∷ is) x h (inl e) = subst (Member xs) e (index_member xs i h.0)
indexed_member xs (i ∷ is) x h (inr m) = indexed_member xs is x h.1 m

length-mapped : (f : ℕ → ℕ) (xs : List ℕ) → length (map f xs) ≡ length xs
length-mapped f [] = refl
length-mapped f (x ∷ xs) = ap suc (length-mapped f xs)

inside_named : (frame : Columns) (written : List ℕ) (helpers : ℕ) (rows : List LinearRow) (p : PathStage) → AllByRecursion (λ r. IsBelow (length (p.here ++ columns_from p.made (length written + helpers))) r.terms) rows →
    AllByRecursion (NamesOnly (Known p (p.made + (length written + helpers)))) (part_rows (inside_part frame written helpers rows p))
inside_named frame written helpers rows p h =
    let names : List ℕ = p.here ++ columns_from p.made (length written + helpers) in
    let own : List LinearRow = (inside_part frame written helpers rows p).own in
    all_joined (NamesOnly (Known p (p.made + (length written + helpers)))) own (bounds p.made (types_at frame written))
    (names_weaker (Member names) (Known p (p.made + (length written + helpers))) (λ x m. known x (member_joined p.here (columns_from p.made (length written + helpers)) x m)) own (renamed_named names rows h))
    (names_weaker (λ x. (p.made ≤ x) × (x < p.made + length (types_at frame written))) (Known p (p.made + (length written + helpers)))
    (λ x k. (let a = k.0 in let b = k.1 in let c = length_at frame written in inl (a, omega (arith, b, c)))) (bounds p.made (types_at frame written)) (bounds_named p.made (types_at frame written)))
  where
    known : (x : ℕ) → Member p.here x ⊎ Member (columns_from p.made (length written + helpers)) x → Known p (p.made + (length written + helpers)) x
    known x (inl m) = inr m
    known x (inr m) = inl (columns_bounds p.made (length written + helpers) x m)

-- the versions at the entry are the caller's, or new
pub entered_known : (callee : Columns) (helpers : ℕ) (p : PathStage) (x : ℕ) → Member (entered_versions callee p.made (p.made + length (local_columns callee) + helpers) p.here) x →
    Known p (p.made + (length (local_columns callee) + helpers + length (old_part callee))) x
entered_known callee helpers p x m =
    let olds : List ℕ = columns_from (p.made + length (local_columns callee) + helpers) (length (old_part callee)) in
    let locals : List ℕ = columns_from p.made (length (local_columns callee)) in
    by_part (member_joined (take (length (globals_of callee)) p.here) (olds ++ locals) x m)
  where
    new : Member (columns_from (p.made + length (local_columns callee) + helpers) (length (old_part callee))) x ⊎ Member (columns_from p.made (length (local_columns callee))) x →
        Known p (p.made + (length (local_columns callee) + helpers + length (old_part callee))) x
    new (inl k) = let h = columns_bounds (p.made + length (local_columns callee) + helpers) (length (old_part callee)) x k in let a = h.0 in let b = h.1 in inl (omega (arith, a), omega (arith, b))
    new (inr k) = let h = columns_bounds p.made (length (local_columns callee)) x k in let a = h.0 in let b = h.1 in inl (a, omega (arith, b))

    by_part : Member (take (length (globals_of callee)) p.here) x ⊎ Member (columns_from (p.made + length (local_columns callee) + helpers) (length (old_part callee)) ++ columns_from p.made (length (local_columns callee))) x →
        Known p (p.made + (length (local_columns callee) + helpers + length (old_part callee))) x
    by_part (inl k) = inr (member_taken (length (globals_of callee)) p.here x k)
    by_part (inr k) = new (member_joined (columns_from (p.made + length (local_columns callee) + helpers) (length (old_part callee))) (columns_from p.made (length (local_columns callee))) x k)

call_named : (callee : Columns) (helpers : ℕ) (rows : List LinearRow) (p : PathStage) →
    AllByRecursion (λ r. IsBelow (length (p.here ++ (entered_versions callee p.made (p.made + length (local_columns callee) + helpers) p.here ++ columns_from (p.made + length (local_columns callee)) helpers))) r.terms) rows →
    AllByRecursion (λ c. c < length p.here) (variables_of callee) → length (variables_of callee) ≡ length (old_part callee) →
    AllByRecursion (NamesOnly (Known p (p.made + (length (local_columns callee) + helpers + length (old_part callee))))) (part_rows (call_part callee helpers rows p))
call_named callee helpers rows p h within count =
    let locals : ℕ = length (local_columns callee) in
    let olds : ℕ = p.made + locals + helpers in
    let made : ℕ = p.made + (locals + helpers + length (old_part callee)) in
    let entry : List ℕ = entered_versions callee p.made olds p.here in
    let names : List ℕ = p.here ++ (entry ++ columns_from (p.made + locals) helpers) in
    let part : Part = call_part callee helpers rows p in
    let ties : List ℕ = map (slice_index p.here) (variables_of callee) in
    all_joined (NamesOnly (Known p made)) part.own (part.entries ++ part.bounds)
    (names_weaker (Member names) (Known p made) (λ x m. known x (member_joined p.here (entry ++ columns_from (p.made + locals) helpers) x m)) part.own (renamed_named names rows h))
    (all_joined (NamesOnly (Known p made)) part.entries part.bounds
    (names_weaker (λ x. ((olds ≤ x) × (x < olds + length ties)) ⊎ Member ties x) (Known p made) (λ x k. tied x k) part.entries (entries_named olds ties))
    (all_joined (NamesOnly (Known p made)) (bounds p.made (types_of (local_columns callee))) (bounds olds (types_of (old_part callee)))
    (names_weaker (λ x. (p.made ≤ x) × (x < p.made + length (types_of (local_columns callee)))) (Known p made)
    (λ x k. (let a = k.0 in let b = k.1 in let c = length_types (local_columns callee) in inl (a, omega (arith, b, c)))) (bounds p.made (types_of (local_columns callee))) (bounds_named p.made (types_of (local_columns callee))))
    (names_weaker (λ x. (olds ≤ x) × (x < olds + length (types_of (old_part callee)))) (Known p made)
    (λ x k. (let a = k.0 in let b = k.1 in let c = length_types (old_part callee) in inl (omega (arith, a), omega (arith, b, c)))) (bounds olds (types_of (old_part callee))) (bounds_named olds (types_of (old_part callee))))))
  where
    helper : (x : ℕ) → Member (entered_versions callee p.made (p.made + length (local_columns callee) + helpers) p.here) x ⊎ Member (columns_from (p.made + length (local_columns callee)) helpers) x →
        Known p (p.made + (length (local_columns callee) + helpers + length (old_part callee))) x
    helper x (inl m) = entered_known callee helpers p x m
    helper x (inr m) = let k = columns_bounds (p.made + length (local_columns callee)) helpers x m in let a = k.0 in let b = k.1 in inl (omega (arith, a), omega (arith, b))

    known : (x : ℕ) → Member p.here x ⊎ Member (entered_versions callee p.made (p.made + length (local_columns callee) + helpers) p.here ++ columns_from (p.made + length (local_columns callee)) helpers) x →
        Known p (p.made + (length (local_columns callee) + helpers + length (old_part callee))) x
    known x (inl m) = inr m
    known x (inr m) = helper x (member_joined (entered_versions callee p.made (p.made + length (local_columns callee) + helpers) p.here) (columns_from (p.made + length (local_columns callee)) helpers) x m)

    tied : (x : ℕ) → ((p.made + length (local_columns callee) + helpers ≤ x) × (x < p.made + length (local_columns callee) + helpers + length (map (slice_index p.here) (variables_of callee)))) ⊎
        Member (map (slice_index p.here) (variables_of callee)) x → Known p (p.made + (length (local_columns callee) + helpers + length (old_part callee))) x
    tied x (inl k) = let a = k.0 in let b = k.1 in let c = length-mapped (slice_index p.here) (variables_of callee) in inl (omega (arith, a), omega (arith, b, c, count))
    tied x (inr m) = inr (indexed_member p.here (variables_of callee) x within m)

return_named : (al : Alphabet) (targets : List ℕ) (o : Option PlainAct) (p : PathStage) (made : ℕ) → AllByRecursion (NamesOnly (Known p made)) (part_rows (return_part al targets o p))
return_named al targets None p made = tt
return_named al targets (Some (inside_act q written helpers rows)) p made = tt
return_named al targets (Some (call_act caller callee helpers rows)) p made = by_saved p.saved
  where
    by_saved : (saved : List (List ℕ)) → AllByRecursion (NamesOnly (Known p made)) (part_rows (back_part (frame_of al caller) (frame_of al callee) targets p.made p.here saved))
    by_saved [] = tt
    by_saved (v ∷ saved) = tt
return_named al targets (Some (back_act c more)) p made = tt

-- a letter's rows name versions of the frame, and those that it makes
pub letter_named : (al : Alphabet) (act : Option PlainAct) (p : PathStage) → LetterNames al act p → AllByRecursion (NamesOnly (Known p (act_part al act p).after.made)) (part_rows (act_part al act p))
letter_named al None p h = tt
letter_named al (Some (inside_act q written helpers rows)) p h = inside_named (frame_of al q) written helpers rows p h
letter_named al (Some (call_act caller callee helpers rows)) p h = call_named (frame_of al callee) helpers rows p h.0 h.1 h.2
letter_named al (Some (back_act c targets)) p h = return_named al targets (slice_get al.acts c) p (act_part al (Some (back_act c targets)) p).after.made

-- ---- the versions after a letter

-- after an inside letter they are those of the frame, and new ones
pub inside_comes : (frame : Columns) (written : List ℕ) (helpers : ℕ) (rows : List LinearRow) (p : PathStage) (x : ℕ) → Member (inside_part frame written helpers rows p).after.here x →
    Known p (inside_part frame written helpers rows p).after.made x
inside_comes frame written helpers rows p x m = by_part (member_written p.here written (columns_from p.made (length written)) x m)
  where
    by_part : Member p.here x ⊎ Member (columns_from p.made (length written)) x → Known p (p.made + (length written + helpers)) x
    by_part (inl k) = inr k
    by_part (inr k) = let b = columns_bounds p.made (length written) x k in let a = b.0 in let c = b.1 in inl (a, omega (arith, c))

-- after a return they are those at the exit, and those before the call of columns that are no globals
pub back_comes : (caller callee : Columns) (targets exit v : List ℕ) → AllByRecursion (λ c. c < length exit) (result_columns callee) → (x : ℕ) → Member (returned caller callee targets exit v) x →
    Member exit x ⊎ Member (drop (length (globals_of caller)) v) x
back_comes caller callee targets exit v h x m =
    either (member_written (take (length (globals_of caller)) exit ++ drop (length (globals_of caller)) v) targets (map (slice_index exit) (result_columns callee)) x m)
  where
    both : Member (take (length (globals_of caller)) exit) x ⊎ Member (drop (length (globals_of caller)) v) x → Member exit x ⊎ Member (drop (length (globals_of caller)) v) x
    both (inl k) = inl (member_taken (length (globals_of caller)) exit x k)
    both (inr k) = inr k

    either : Member (take (length (globals_of caller)) exit ++ drop (length (globals_of caller)) v) x ⊎ Member (map (slice_index exit) (result_columns callee)) x →
        Member exit x ⊎ Member (drop (length (globals_of caller)) v) x
    either (inl k) = both (member_joined (take (length (globals_of caller)) exit) (drop (length (globals_of caller)) v) x k)
    either (inr k) = inl (indexed_member exit (result_columns callee) x h k)

-- ---- the rest of a word

-- one of the first so many of the frames, of a column behind the globals
abbrev pub InSaved : ℕ → ℕ → List (List ℕ) → ℕ → Type 0
InSaved globals zero saved x = ⊥
InSaved globals (suc k) [] x = ⊥
InSaved globals (suc k) (v ∷ saved) x = Member (drop globals v) x ⊎ InSaved globals k saved x

-- what the rest of a word may name
abbrev pub Live : ℕ → PathStage → List Letter → ℕ → Type 0
Live globals p w x = (p.made ≤ x) ⊎ (Member p.here x ⊎ InSaved globals (unmatched w) p.saved x)

-- what a letter of this kind does to the frames; a return takes the globals of the exit
abbrev pub StepBy : ℕ → Kind → PathStage → PathStage → Type 0
StepBy globals kinds.Inside p after = (after.saved ≡ p.saved) × ((x : ℕ) → Member after.here x → Known p after.made x)
StepBy globals kinds.Call p after = (after.saved ≡ p.here ∷ p.saved) × ((x : ℕ) → Member after.here x → Known p after.made x)
StepBy globals kinds.Back p after = (v : List ℕ) × (p.saved ≡ v ∷ after.saved) × ((x : ℕ) → Member after.here x → Known p after.made x ⊎ Member (drop globals v) x)

-- a letter's rows name columns that there are, and it does to the frames what its kind says
abbrev pub LetterSteps : Alphabet → ℕ → Kind → Option PlainAct → PathStage → Type 0
LetterSteps al globals kind act p = LetterNames al act p × (p.made ≤ (act_part al act p).after.made) × StepBy globals kind p (act_part al act p).after

-- each letter does
abbrev pub WordNames : Alphabet → ℕ → PathStage → List Letter → Type 0
WordNames al globals p [] = Unit {0}
WordNames al globals p (a ∷ w) = LetterSteps al globals a.kind (act_of al a) p × WordNames al globals (part_of al a p).after w

known_live : (globals : ℕ) (p : PathStage) (made k x : ℕ) → Known p made x → (p.made ≤ x) ⊎ (Member p.here x ⊎ InSaved globals k p.saved x)
known_live globals p made k x (inl h) = inl h.0
known_live globals p made k x (inr m) = inr (inl m)

live_next : (globals : ℕ) (kind : Kind) (p after : PathStage) (k x : ℕ) → p.made ≤ after.made → StepBy globals kind p after → (after.made ≤ x) ⊎ (Member after.here x ⊎ InSaved globals k after.saved x) →
    (p.made ≤ x) ⊎ (Member p.here x ⊎ InSaved globals (unmatched_before kind k) p.saved x)
live_next globals kind p after k x l s (inl h) = inl (omega (arith, l, h))
live_next globals kinds.Inside p after k x l s (inr (inl m)) = known_live globals p after.made k x (s.1 x m)
live_next globals kinds.Inside p after k x l s (inr (inr m)) = inr (inr (subst (λ (v : List (List ℕ)). InSaved globals k v x) s.0 m))
live_next globals kinds.Call p after k x l s (inr (inl m)) = known_live globals p after.made (k - 1) x (s.1 x m)
live_next globals kinds.Call p after k x l s (inr (inr m)) = by_count k (subst (λ (v : List (List ℕ)). InSaved globals k v x) s.0 m)
  where
    by_count : (k : ℕ) → InSaved globals k (p.here ∷ p.saved) x → (p.made ≤ x) ⊎ (Member p.here x ⊎ InSaved globals (k - 1) p.saved x)
    by_count zero h = absurd h
    by_count (suc k) (inl h) = inr (inl (member_dropped globals p.here x h))
    by_count (suc k) (inr h) = inr (inr (subst (λ (n : ℕ). InSaved globals n p.saved x) (let e : k ≡ suc k - 1 = omega arith in e) h))
live_next globals kinds.Back p after k x l s (inr (inl m)) = by_either (s.2 x m)
  where
    by_either : Known p after.made x ⊎ Member (drop globals s.0) x → (p.made ≤ x) ⊎ (Member p.here x ⊎ InSaved globals (suc k) p.saved x)
    by_either (inl h) = known_live globals p after.made (suc k) x h
    by_either (inr h) = inr (inr (subst (λ (v : List (List ℕ)). InSaved globals (suc k) v x) (sym s.1) (inl h)))
live_next globals kinds.Back p after k x l s (inr (inr m)) = inr (inr (subst (λ (v : List (List ℕ)). InSaved globals (suc k) v x) (sym s.1) (inr m)))

-- the rows of a word name live versions alone
pub names_live : (al : Alphabet) (globals n : ℕ) (p : PathStage) (w : List Letter) → WordNames al globals p w → AllByRecursion (NamesOnly (Live globals p w)) (path_along al n p w).rows
names_live al globals n p [] h = tt
names_live al globals n p (a ∷ w) h =
    let part : Part = part_of al a p in
    all_joined (NamesOnly (Live globals p (a ∷ w))) (part_rows part) (path_along al (suc n) part.after w).rows
    (names_weaker (Known p part.after.made) (Live globals p (a ∷ w)) (λ x k. known_live globals p part.after.made (unmatched (a ∷ w)) x k) (part_rows part) (letter_named al (act_of al a) p h.0.0))
    (names_weaker (Live globals part.after w) (Live globals p (a ∷ w)) (λ x k. live_next globals a.kind p part.after (unmatched w) x h.0.1 h.0.2 k) (path_along al (suc n) part.after w).rows
    (names_live al globals (suc n) part.after w h.1))
